-- What a view holds at a path stays unless a row affects it.
use Rattle.std.proofs.Common.{◌≡◌, refl, ap, ap₂, sym, ◌∙◌, ℕ, Bool, true, false, not, cond, ◌&&◌, ◌||◌, Option, Some, None}
use Rattle.std.proofs.Common.{List, [], ◌∷◌}
use Rattle.std.proofs.lemmas.Map.Text.{is_eq-slice_cmp}
use Rattle.std.proofs.lemmas.Slice.Eq.{bytes_eq-Decides}
use Rattle.std.specs.Bool.{⊤}
use Rattle.std.specs.declared.cmp.Ordering.TheVariants.{Equal}
use Rattle.std.specs.Ordering.{nat_cmp, is_eq, eq_by_cmp}
use Rattle.std.specs.Cmp.Lexicographic.{slice_cmp}
use Rattle.std.specs.FinMap.Entries.{put, find-put, find-where_key}
use Rattle.std.specs.Prelude.{bytes_eq}
use Rattle.cc_names.specs.References.{ViewPath, ReferencesByPath, view_path_cmp, is_view_path, won, without_reference, view_gone}
use Rattle.cc_names.specs.References.{held_at, references}
use Rattle.cc_names.specs.declared.rows.Deed.{Deed}
use Rattle.cc_names.specs.declared.rows.Deed.TheVariants as deeds
use Rattle.cc_names.proofs.Common.{is_eq_then, and_first, and_second}
use Rattle.base_model.specs.Rows.{Base, size}
use Rattle.base_model.specs.Changes.{objects_held, holdings, holdings_after, targets_of}
use Rattle.base_model.specs.Closures.{is_path_among}
use Rattle.base_model.proofs.HeldObjects.{view_paths_total}

-- two view paths are one where their views and their paths are
same_view_path : (v path w target : List ℕ) → eq_by_cmp view_path_cmp (v, path) (w, target)
    ≡ (bytes_eq v w && bytes_eq path target)
same_view_path v path w target = is_eq_then (slice_cmp nat_cmp v w) (slice_cmp nat_cmp path target)
    ∙ ap₂ ◌&&◌ (is_eq-slice_cmp v w) (is_eq-slice_cmp path target)

pub one_more : (view here later : Bool) (id before : Option ℕ) → cond (view && later) id (cond (view && here) id before)
    ≡ cond (view && (here || later)) id before
one_more false here later id before = refl
one_more true true true id before = refl
one_more true true false id before = refl
one_more true false later id before = refl

pub no_target : (view : Bool) (id before : Option ℕ) → before ≡ cond (view && false) id before
no_target true id before = refl
no_target false id before = refl

-- what a view holds at a path after one has won targets
pub held_after_won : (v path w : List ℕ) (id : ℕ) (targets : List (List ℕ)) (objects_held : ReferencesByPath)
    → held_at (won w id targets objects_held) v path ≡ cond (bytes_eq v w && is_path_among path targets) (Some id)
    (held_at objects_held v path)
held_after_won v path w id [] objects_held = no_target (bytes_eq v w) (Some id) (held_at objects_held v path)
held_after_won v path w id (target ∷ targets) objects_held =
    held_after_won v path w id targets (put view_path_cmp (w, target) id objects_held)
    ∙ ap (cond (bytes_eq v w && is_path_among path targets) (Some id))
    (find-put view_path_cmp view_paths_total (v, path) (w, target) id objects_held
    ∙ ap (λ same. cond same (Some id) (held_at objects_held v path)) (same_view_path v path w target))
    ∙ one_more (bytes_eq v w) (bytes_eq path target) (is_path_among path targets) (Some id) (held_at objects_held v path)

-- the parts of view paths that tie
pub tied_views : (v path : List ℕ) (view_path : ViewPath) → view_path_cmp (v, path) view_path ≡ Equal → v ≡ view_path.0
tied_views v path view_path e = (bytes_eq-Decides v view_path.0).0 (and_first (bytes_eq v view_path.0) (bytes_eq path view_path.1)
    (sym (same_view_path v path view_path.0 view_path.1) ∙ ap is_eq e))

tied_paths : (v path : List ℕ) (view_path : ViewPath) → view_path_cmp (v, path) view_path ≡ Equal → path ≡ view_path.1
tied_paths v path view_path e = (bytes_eq-Decides path view_path.1).0 (and_second (bytes_eq v view_path.0)
    (bytes_eq path view_path.1) (sym (same_view_path v path view_path.0 view_path.1) ∙ ap is_eq e))

after_gone : (v path w : List ℕ) (objects_held : ReferencesByPath) → bytes_eq v w ≡ false
    → held_at (view_gone w objects_held) v path ≡ held_at objects_held v path
after_gone v path w objects_held apart =
    find-where_key view_path_cmp (λ view_path. not (bytes_eq view_path.0 w)) (
      v,
      path,
    ) (λ view_path e. ap (λ x. not (bytes_eq x w)) (sym (tied_views v path view_path e))) objects_held
    ∙ ap (λ t. cond (not t) (held_at objects_held v path) None) apart

after_lost : (v path w q : List ℕ) (objects_held : ReferencesByPath) → bytes_eq v w ≡ false
    → held_at (without_reference w q objects_held) v path ≡ held_at objects_held v path
after_lost v path w q objects_held apart =
    find-where_key view_path_cmp (λ view_path. not (is_view_path view_path (w, q))) (v, path)
    (λ view_path e. ap₂ (λ x y. not (bytes_eq x w && bytes_eq y q)) (sym (tied_views v path view_path e))
    (sym (tied_paths v path view_path e))) objects_held
    ∙ ap (λ t. cond (not (t && bytes_eq path q)) (held_at objects_held v path) None) apart

-- a deed leaves what the view holds at the path
abbrev pub Leaves : Base → List ℕ → List ℕ → Deed → Type 0
Leaves b v path (deeds.Rmview w) = bytes_eq v w ≡ false
Leaves b v path (deeds.Drop w q) = bytes_eq v w ≡ false
Leaves b v path (deeds.Publish w targets script entries outputs) = (bytes_eq v w && is_path_among path targets) ≡ false
Leaves b v path (deeds.Wink w id) = (bytes_eq v w && is_path_among path (targets_of b id)) ≡ false
Leaves b v path deed = ⊤

pub path_stays : (b : Base) (v path : List ℕ) (deed : Deed) → Leaves b v path deed
    → held_at (references (holdings_after b deed (holdings b))) v path ≡ held_at (objects_held b) v path
path_stays b v path (deeds.Rmview w) apart = after_gone v path w (objects_held b) apart
path_stays b v path (deeds.Drop w q) apart = after_lost v path w q (objects_held b) apart
path_stays b v path (deeds.Publish w targets script entries outputs) apart =
    held_after_won v path w (size b) targets (objects_held b) ∙ ap (λ t. cond t (Some (size b)) (held_at (objects_held b) v path))
    apart
path_stays b v path (deeds.Wink w id) apart =
    held_after_won v path w id (targets_of b id) (objects_held b) ∙ ap (λ t. cond t (Some id) (held_at (objects_held b) v path))
    apart
path_stays b v path deed apart = refl
