use Rattle.label_book.proofs.Pairs.{same_holder}
use Rattle.label_book.proofs.laws.room_moves_no_label.Goals as goal

pub returns : goal.returns
returns c = λ old new keeps rows l e. same_holder new.changes old.changes rows l e (keeps.pairs l e)
