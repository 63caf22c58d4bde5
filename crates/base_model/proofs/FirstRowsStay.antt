-- What a base says of its first rows stays when rows are added.
use Rattle.std.proofs.Common.{◌≡◌, refl, ap, sym, ◌∙◌, ℕ, zero, suc, ◌≤◌, List, [], ◌∷◌, ◌++◌, arith}
use Rattle.std.proofs.lemmas.Bool.Decides.{nat_tests}
use Rattle.cc_names.specs.Labels.{holder}
use Rattle.cc_names.specs.Versions.{of_first_rows}
use Rattle.cc_names.specs.declared.changes.TreeChange.{TreeChange}
use Rattle.base_model.specs.Rows.{Base, size, first_rows}
use Rattle.base_model.specs.Changes.{tree, labels}
use Rattle.base_model.specs.Texts.{texts}
use Rattle.base_model.specs.Seen.{at, file_at, directory_at}
use Rattle.base_model.proofs.Stay.{first_rows_stay_all}
use Rattle.base_model.proofs.TreesStay.{tree_of_first_rows, labels_of_first}
use Rattle.base_model.specs.FirstRows.{SayTheSame}

-- no change is of the first none rows
none_first : (changes : List TreeChange) → of_first_rows 0 changes ≡ []
none_first [] = refl
none_first (change ∷ older) = let rest = none_first older in grind (arith, nat_tests)

versions_stay : (more b : Base) (t : ℕ) → first_rows t (more ++ b) ≡ first_rows t b
    → of_first_rows t (tree (more ++ b)) ≡ of_first_rows t (tree b)
versions_stay more b zero same = none_first (tree (more ++ b)) ∙ sym (none_first (tree b))
versions_stay more b (suc t) same = tree_of_first_rows (more ++ b) (suc t) (omega arith) ∙ ap tree same
    ∙ sym (tree_of_first_rows b (suc t) (omega arith))

pub say_the_same : (more b : Base) (t : ℕ) → t ≤ size b → SayTheSame t b (more ++ b)
say_the_same more b t low =
    let same = first_rows_stay_all more b t low in
    record {
      versions = versions_stay more b t same;
      placed = labels_of_first (more ++ b) t ∙ ap labels same ∙ sym (labels_of_first b t);
      holders = λ label e. ap (λ rows. holder (labels rows) label e) same;
      seen = λ v path. ap (λ rows. at rows v path) same;
      files = λ v path. ap (λ rows. file_at rows v path) same;
      directories = λ v path. ap (λ rows. directory_at rows v path) same;
      texts = λ v path. ap (λ rows. texts rows v path) same;
    }
