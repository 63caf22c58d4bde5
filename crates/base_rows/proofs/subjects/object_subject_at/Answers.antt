-- A publish affects its object, the objects with its targets, and on what its view holds.
use Rattle.std.proofs.Common.{ℕ, List, ◌∷◌, map, ap, sym, ◌∙◌}
use Rattle.std.specs.List.{slice_get}
use Rattle.cc_names.specs.declared.rows.Deed.{Deed}
use Rattle.base_rows.specs.Subjects.{Living, Object, Owned, Pool, object_subjects}
use Rattle.base_rows.proofs.subjects.object_subject_at.Goals as goal

pub returns-in-Publish-clause-subject : goal.returns-in-Publish-clause-subject
returns-in-Publish-clause-subject c =
    let n = c.args.number in
    let v = c.in-Publish.view in
    c.made_at.ensures.subject
    ∙ ap (λ (own : List (List ℕ)). slice_get (Living n ∷ Pool own ∷ Owned v ∷ map (Object v) own) c.args.index) c.as_slice.ensures
    ∙ sym (ap (λ (deed : Deed). slice_get (object_subjects n c.args.targets.now c.args.branch deed) c.args.index) c.in-Publish.is)
