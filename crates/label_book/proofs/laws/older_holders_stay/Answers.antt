use Rattle.std.proofs.Common.{◌≡◌, ◌∷◌, ltb, false, ap, ◌∙◌, arith, refl}
use Rattle.std.proofs.lemmas.Bool.Decides.{nat_tests}
use Rattle.cc_names.specs.Labels.{row_of_label_change, labels_of_first_rows, holder}
use Rattle.label_book.proofs.Pairs.{same_holder}
use Rattle.label_book.proofs.laws.older_holders_stay.Goals as goal

-- the change fails the test
pub returns : goal.returns
returns c = λ old new change adds rows le l e.
    let late : ltb (row_of_label_change change) rows ≡ false = grind (arith, nat_tests) in
    let passed : labels_of_first_rows rows (change ∷ old.changes) ≡ labels_of_first_rows rows old.changes = rw late refl in
    same_holder new.changes (change ∷ old.changes) rows l e (adds.pairs l e) ∙ ap (λ cs. holder cs l e) passed
