-- What a view holds at a path, given by the last rows that affect it.
use Rattle.std.proofs.Common.{◌≡◌, ℕ, Bool, true, false, ◌&&◌, cond, Option, Some, List, [], ◌∷◌, refl, ap, ap₂, sym, ◌∙◌}
use Rattle.std.proofs.Common.{bytes_eq, not, None}
use Rattle.std.specs.declared.cmp.Ordering.TheVariants.{Equal}
use Rattle.std.specs.Ordering.{nat_cmp, is_eq, eq_by_cmp}
use Rattle.std.specs.Cmp.Lexicographic.{slice_cmp}
use Rattle.std.specs.FinMap.Entries.{put, find-put, find-where_key}
use Rattle.std.proofs.lemmas.Slice.Eq.{bytes_eq-Decides}
use Rattle.std.proofs.lemmas.Cmp.{nat_list_eq_equiv}
use Rattle.std.proofs.lemmas.Map.Text.{is_eq-slice_cmp}
use Rattle.std.proofs.lemmas.Bool.{and_parts}
use Rattle.cc_names.specs.Last.{Keeps, Ends, Sets, only_if, value_after}
use Rattle.cc_names.specs.References.{ViewPath, ReferencesByPath, is_view_path, view_path_cmp, won, without_reference, view_gone}
use Rattle.cc_names.specs.References.{held_at, references}
use Rattle.cc_names.specs.declared.rows.Deed.{Deed}
use Rattle.cc_names.specs.declared.rows.Deed.TheVariants as deeds
use Rattle.cc_names.proofs.Common.{is_eq_then}
use Rattle.base_model.specs.Rows.{Base, size}
use Rattle.base_model.specs.Changes.{objects_held, holdings, holdings_after, targets_of}
use Rattle.base_model.proofs.HeldObjects.{view_paths_total}
use Rattle.base_model.proofs.HeldPaths.{one_more, no_target, tied_views}
use Rattle.base_rows.specs.Effects.{gone_effect, object_effect}
use Rattle.base_rows.specs.Lifetimes.{ended_or}
use Rattle.base_rows.specs.Made.{is_target}
use Rattle.base_rows.specs.LookUps.{Deeds, last_of}

-- two view paths are one where their views and their paths are
pub same_view_path : (v path w target : List ℕ) → eq_by_cmp view_path_cmp (v, path) (w, target)
    ≡ (bytes_eq w v && bytes_eq target path)
same_view_path v path w target =
    is_eq_then (slice_cmp nat_cmp v w) (slice_cmp nat_cmp path target)
    ∙ ap₂ ◌&&◌ (is_eq-slice_cmp v w ∙ nat_list_eq_equiv.symm v w) (is_eq-slice_cmp path target
    ∙ nat_list_eq_equiv.symm path target)

-- what a view holds at a path after one has won targets
pub held_after_won : (v path w : List ℕ) (id : ℕ) (targets : List (List ℕ)) (objects_held : ReferencesByPath)
    → held_at (won w id targets objects_held) v path ≡ cond (bytes_eq w v && is_target path targets) (Some id)
    (held_at objects_held v path)
held_after_won v path w id [] objects_held = no_target (bytes_eq w v) (Some id) (held_at objects_held v path)
held_after_won v path w id (target ∷ targets) objects_held =
    held_after_won v path w id targets (put view_path_cmp (w, target) id objects_held)
    ∙ ap (cond (bytes_eq w v && is_target path targets) (Some id)) (find-put view_path_cmp view_paths_total (v, path) (
      w,
      target,
    ) id objects_held ∙ ap (λ same. cond same (Some id) (held_at objects_held v path)) (same_view_path v path w target))
    ∙ one_more (bytes_eq w v) (bytes_eq target path) (is_target path targets) (Some id) (held_at objects_held v path)

-- view paths that tie are one
tied_parts : (v path : List ℕ) (view_path : ViewPath) → view_path_cmp (v, path) view_path ≡ Equal → (v ≡ view_path.0)
    × (path ≡ view_path.1)
tied_parts v path view_path same =
    let parts : (is_eq (slice_cmp nat_cmp v view_path.0) && is_eq (slice_cmp nat_cmp path view_path.1)) ≡ true =
    sym (is_eq_then (slice_cmp nat_cmp v view_path.0) (slice_cmp nat_cmp path view_path.1)) ∙ ap is_eq same in
    let each = and_parts (is_eq (slice_cmp nat_cmp v view_path.0)) (is_eq (slice_cmp nat_cmp path view_path.1)) parts in (
      (bytes_eq-Decides v view_path.0).0 (sym (is_eq-slice_cmp v view_path.0) ∙ each.0),
      (bytes_eq-Decides path view_path.1).0 (sym (is_eq-slice_cmp path view_path.1) ∙ each.1),
    )

tied_view_path : (v path : List ℕ) (view_path : ViewPath) → view_path_cmp (v, path) view_path ≡ Equal → (v, path) ≡ view_path
tied_view_path v path view_path same = ap₂ (λ one two. (one, two)) (tied_parts v path view_path same).0
    (tied_parts v path view_path same).1

-- what a view holds after one is gone
turned : (is : Bool) (there : Option ℕ) → cond (not is) there None ≡ cond is None there
turned true there = refl
turned false there = refl

held_after_gone : (v path w : List ℕ) (objects_held : ReferencesByPath)
    → held_at (view_gone w objects_held) v path ≡ cond (bytes_eq w v) None (held_at objects_held v path)
held_after_gone v path w objects_held =
    find-where_key view_path_cmp (λ view_path. not (bytes_eq view_path.0 w)) (
      v,
      path,
    ) (λ view_path same. sym (ap (λ name. not (bytes_eq name w)) (tied_views v path view_path same))) objects_held
    ∙ turned (bytes_eq v w) (held_at objects_held v path)
    ∙ ap (λ is. cond is None (held_at objects_held v path)) (nat_list_eq_equiv.symm v w)

-- what a view holds after it has lost a path
held_after_lost : (v path w q : List ℕ) (objects_held : ReferencesByPath)
    → held_at (without_reference w q objects_held) v path ≡ cond (bytes_eq w v && bytes_eq q path) None
    (held_at objects_held v path)
held_after_lost v path w q objects_held =
    find-where_key view_path_cmp (λ view_path. not (is_view_path view_path (w, q))) (
      v,
      path,
    ) (λ view_path same. sym (ap (λ at. not (is_view_path at (w, q))) (tied_view_path v path view_path same)))
    objects_held
    ∙ turned (bytes_eq v w && bytes_eq path q) (held_at objects_held v path)
    ∙ ap₂ (λ one two. cond (one && two) None (held_at objects_held v path)) (nat_list_eq_equiv.symm v w)
    (nat_list_eq_equiv.symm path q)

-- what a row does to what a view holds at a path
abbrev pub held_effect : List ℕ → List ℕ → Deeds ℕ
held_effect v path older deed = ended_or (gone_effect v older deed) (object_effect v path older deed)

by_gone : (is : Bool) (before : Option ℕ) → cond is None before ≡ value_after (ended_or (only_if is Ends) Keeps) before
by_gone true before = refl
by_gone false before = refl

by_won : (is : Bool) (id : ℕ) (before : Option ℕ) → cond is (Some id) before ≡ value_after (only_if is (Sets id)) before
by_won true id before = refl
by_won false id before = refl

by_lost : (is : Bool) (before : Option ℕ) → cond is None before ≡ value_after (only_if {A = ℕ} is Ends) before
by_lost true before = refl
by_lost false before = refl

held_step : (older : Base) (v path : List ℕ) (deed : Deed) → held_at (references (holdings_after older deed (holdings older))) v
    path ≡ value_after (held_effect v path older deed) (held_at (objects_held older) v path)
held_step older v path (deeds.Rmview w) = held_after_gone v path w (objects_held older)
    ∙ by_gone (bytes_eq w v) (held_at (objects_held older) v path)
held_step older v path (deeds.Publish w targets script entries outputs) =
    held_after_won v path w (size older) targets (objects_held older) ∙ by_won (bytes_eq w v && is_target path targets)
    (size older) (held_at (objects_held older) v path)
held_step older v path (deeds.Wink w id) =
    held_after_won v path w id (targets_of older id) (objects_held older)
    ∙ by_won (bytes_eq w v && is_target path (targets_of older id)) id (held_at (objects_held older) v path)
held_step older v path (deeds.Drop w q) = held_after_lost v path w q (objects_held older)
    ∙ by_lost (bytes_eq w v && bytes_eq q path) (held_at (objects_held older) v path)
held_step older v path deed = refl

-- What a view holds at a path is what the last row left that affects it.
pub held_by_last : (b : Base) (v path : List ℕ) → held_at (objects_held b) v path ≡ last_of (held_effect v path) b
held_by_last [] v path = refl
held_by_last (row ∷ older) v path = held_step older v path row.deed ∙ ap (value_after (held_effect v path older row.deed))
    (held_by_last older v path)
