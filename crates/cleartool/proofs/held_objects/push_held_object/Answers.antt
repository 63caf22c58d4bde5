-- The object, the number of views and the end of the line are written one after the other.
use Rattle.std.proofs.Common.{ℕ, true, List, [], ◌∷◌, ◌++◌, Option, ap, ap₂, sym, ◌∙◌}
use Rattle.std.specs.Prelude.{codes, decimal}
use Rattle.std.specs.Option.{option_map_or}
use Rattle.base_model.specs.Changes.{objects_held}
use Rattle.legal_history.specs.Queries.DirectoryTexts.{held_line}
use Rattle.legal_history.specs.Queries.VersionNames.{at_version}
use Rattle.cleartool.proofs.Behind.{four_behind}
use Rattle.cleartool.proofs.held_objects.push_held_object.Goals as goal

pub returns-in_ok-push-in-Some-clause-line : goal.returns-in_ok-push-in-Some-clause-line
returns-in_ok-push-in-Some-clause-line c =
    let b = c.args.rows.now in
    let v = c.args.view.now in
    let path = c.args.path.now in
    let text = c.args.text.now.items in
    let id = c.in-Some.object in
    let object = at_version path (decimal id) in
    c.in_ok-push-in-Some.ensures.items
    ∙ ap (λ (bytes : List ℕ). bytes ++ 10 ∷ [])
    (c.in_ok-push_number-in-Some.ensures
    ∙ ap₂ (λ (bytes : List ℕ) n. bytes ++ decimal n)
    (c.in_ok-extend_from_slice-in-Some.ensures.items
    ∙ ap (λ (bytes : List ℕ). bytes ++ codes " references ") (c.in_ok-push_object-in-Some.ensures
    ∙ ap (λ (bytes : List ℕ). text ++ at_version bytes (decimal id)) c.as_bytes.ensures.bytes))
    c.in_ok-holders-in-Some.ensures.count)
    ∙ four_behind text object (codes " references ") _ (10 ∷ [])
    ∙ ap (λ (found : Option ℕ). text ++ option_map_or (λ id. held_line (objects_held b) v true path id) found [])
    (sym c.in-Some.is ∙ c.held_object.ensures)
