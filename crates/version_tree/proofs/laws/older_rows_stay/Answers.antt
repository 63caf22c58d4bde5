use Rattle.std.proofs.Common.{◌≡◌, ltb, false, arith, refl}
use Rattle.std.proofs.lemmas.Bool.Decides.{nat_tests}
use Rattle.cc_names.specs.Versions.{row_of_change}
use Rattle.version_tree.proofs.laws.older_rows_stay.Goals as goal

-- the change fails the test
pub returns : goal.returns
returns c = λ rows change older le.
    let late : ltb (row_of_change change) rows ≡ false = grind (arith, nat_tests) in
    rw late refl
