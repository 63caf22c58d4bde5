-- The count of an object is the number of views that hold it.
use Rattle.std.proofs.Common.{◌≡◌, refl, ap, ap₂, sym, ◌∙◌, ℕ, ◌+◌, Bool, true, false, not, ◌&&◌, ◌||◌, ◌==◌, List, [], ◌∷◌}
use Rattle.std.proofs.Common.{length, arith}
use Rattle.std.proofs.lemmas.Cmp.{nat_list_eq_equiv}
use Rattle.std.proofs.lemmas.Slice.Eq.{bytes_eq-Decides}
use Rattle.std.specs.Prelude.{bytes_eq}
use Rattle.cc_names.specs.References.{ReferencesByPath, count, is_held_by, one_where}
use Rattle.cc_names.specs.Versions.{put_if}
use Rattle.base_model.specs.Closures.{is_path_among}
use Rattle.base_model.specs.Counts.{AreOnce, holding_views}

-- a view among those that hold an object, one entry more
one_more : (v w : List ℕ) (here : Bool) (views : List (List ℕ)) → is_path_among v
    (put_if (here && not (is_path_among w views)) w views) ≡ ((bytes_eq w v && here) || is_path_among v views)
one_more v w here views = by here (is_path_among w views) (bytes_eq w v) refl refl
  where
    by : (here a s : Bool) → is_path_among w views ≡ a → bytes_eq w v ≡ s
        → is_path_among v (put_if (here && not a) w views) ≡ ((s && here) || is_path_among v views)
    by false a true is same = refl
    by false a false is same = refl
    by true false s is same = ap (λ t. t || is_path_among v views) (nat_list_eq_equiv.symm v w ∙ same) ∙ as_true s
      where
        as_true : (s : Bool) → (s || is_path_among v views) ≡ ((s && true) || is_path_among v views)
        as_true true = refl
        as_true false = refl
    by true true true is same = let one : w ≡ v = (bytes_eq-Decides w v).0 same in ap (λ x. is_path_among x views) (sym one) ∙ is
    by true true false is same = refl

pub among_holding : (held : ReferencesByPath) (v : List ℕ) (id : ℕ) → is_path_among v (holding_views held id)
    ≡ is_held_by held v id
among_holding [] v id = refl
among_holding (entry ∷ held) v id =
    one_more v entry.0.0 (entry.1 == id) (holding_views held id) ∙ ap (λ t. (bytes_eq entry.0.0 v && (entry.1 == id)) || t)
    (among_holding held v id)

one_longer : (t : Bool) (view : List ℕ) (views : List (List ℕ)) → one_where t + length views ≡ length (put_if t view views)
one_longer true view views = omega arith
one_longer false view views = omega arith

pub counted_by_views : (held : ReferencesByPath) (id : ℕ) → count held id ≡ length (holding_views held id)
counted_by_views [] id = refl
counted_by_views (entry ∷ held) id =
    ap₂ (λ t n. one_where ((entry.1 == id) && not t) + n) (sym (among_holding held entry.0.0 id)) (counted_by_views held id)
    ∙ one_longer ((entry.1 == id) && not (is_path_among entry.0.0 (holding_views held id))) entry.0.0 (holding_views held id)

pub views_once : (held : ReferencesByPath) (id : ℕ) → AreOnce (holding_views held id)
views_once [] id = tt
views_once (entry ∷ held) id = by (entry.1 == id) (is_path_among entry.0.0 (holding_views held id)) refl (views_once held id)
  where
    by : (here a : Bool) → is_path_among entry.0.0 (holding_views held id) ≡ a → AreOnce (holding_views held id)
        → AreOnce (put_if (here && not a) entry.0.0 (holding_views held id))
    by false a is rest = rest
    by true true is rest = rest
    by true false is rest = (is, rest)
