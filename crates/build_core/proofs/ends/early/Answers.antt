-- The first test that gives an end.
use Rattle.std.proofs.Common.{◌≡◌, ℕ, Some, None, List, ap, sym, ◌∙◌}
use Rattle.std.specs.Prelude.{find}
use Rattle.legal_history.specs.Builds.Fresh.{sees_directory, sees_file}
use Rattle.legal_history.specs.Builds.Serials.{is_missing, is_bad, no_directory, standing_or_file}
use Rattle.legal_history.specs.Builds.Turns.{standing_of_unit}
use Rattle.build_core.proofs.Early.{by_directory, by_missing, by_bad, by_script}
use Rattle.build_core.proofs.ends.early.Goals as goal

pub returns-in-Some : goal.returns-in-Some
returns-in-Some c =
    sym (by_directory c.args.rows.now c.args.build.now c.args.unit.now c.in-Some.end
    (sym c.in_ok-end.ensures ∙ c.in-Some.is))

pub returns-in-Some-missing_prerequisite : goal.returns-in-Some-missing_prerequisite
returns-in-Some-missing_prerequisite c =
    let none : no_directory (sees_directory c.args.rows.now c.args.build.now.view) c.args.unit.now.targets c.args.unit.now.script
    ≡ None = sym c.in_ok-end.ensures ∙ c.in_default.is in
    let missing = λ (paths : List (List ℕ)). find (λ path. is_missing (standing_or_file
    (sees_file c.args.rows.now c.args.build.now.view path) (standing_of_unit c.args.build.now path))) paths in
    let found : missing c.args.unit.now.prerequisites ≡ Some c.in_ok-path.path =
    sym c.in-Some-missing_prerequisite.ensures ∙ ap Some (sym c.in_ok-path.ensures.copy)
    in
    sym (by_missing c.args.rows.now c.args.build.now c.args.unit.now c.in_ok-path.path none found)

pub returns-in-Some-bad_prerequisite : goal.returns-in-Some-bad_prerequisite
returns-in-Some-bad_prerequisite c =
    let none : no_directory (sees_directory c.args.rows.now c.args.build.now.view) c.args.unit.now.targets c.args.unit.now.script
    ≡ None = sym c.in_ok-end.ensures ∙ c.in_default.is in
    let missing = λ (paths : List (List ℕ)). find (λ path. is_missing (standing_or_file
    (sees_file c.args.rows.now c.args.build.now.view path) (standing_of_unit c.args.build.now path))) paths in
    let bad = λ (paths : List (List ℕ)). find (λ path. is_bad (standing_or_file
    (sees_file c.args.rows.now c.args.build.now.view path) (standing_of_unit c.args.build.now path))) paths in
    let known : missing c.args.unit.now.prerequisites ≡ None =
    sym c.in_default-missing_prerequisite.ensures
    in
    let found : bad c.args.unit.now.prerequisites ≡ Some c.in_ok-copy.field-0 =
    sym c.in-Some-bad_prerequisite.ensures ∙ ap Some (sym c.in_ok-copy.ensures.copy)
    in
    sym (by_bad c.args.rows.now c.args.build.now c.args.unit.now c.in_ok-copy.field-0 none known found)

pub returns : goal.returns
returns c =
    let none : no_directory (sees_directory c.args.rows.now c.args.build.now.view) c.args.unit.now.targets c.args.unit.now.script
    ≡ None = sym c.in_ok-end.ensures ∙ c.in_default.is in
    let missing = λ (paths : List (List ℕ)). find (λ path. is_missing (standing_or_file
    (sees_file c.args.rows.now c.args.build.now.view path) (standing_of_unit c.args.build.now path))) paths in
    let bad = λ (paths : List (List ℕ)). find (λ path. is_bad (standing_or_file
    (sees_file c.args.rows.now c.args.build.now.view path) (standing_of_unit c.args.build.now path))) paths in
    let known : missing c.args.unit.now.prerequisites ≡ None =
    sym c.in_default-missing_prerequisite.ensures
    in
    let good : bad c.args.unit.now.prerequisites ≡ None =
    sym c.in_default-bad_prerequisite.ensures
    in
    rw (by_script c.args.rows.now c.args.build.now c.args.unit.now none known good) c.no_script.ensures
