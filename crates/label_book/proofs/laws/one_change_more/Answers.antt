use Rattle.std.proofs.Common.{◌∷◌}
use Rattle.label_book.proofs.Pairs.{same_holder}
use Rattle.label_book.proofs.laws.one_change_more.Goals as goal

pub returns : goal.returns
returns c = λ old new change adds rows l e. same_holder new.changes (change ∷ old.changes) rows l e (adds.pairs l e)
