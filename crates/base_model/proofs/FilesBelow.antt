-- The row of a file that a view sees lies below the size of the base, so its text stays when rows are added.
use Rattle.std.proofs.Common.{◌≡◌, refl, ap, sym, subst, ◌∙◌, ℕ, ◌<◌, ◌≤◌, Bool, true, false, Option, Some, None, List, [], ◌∷◌}
use Rattle.std.proofs.Common.{◌++◌, arith, nat_lt}
use Rattle.std.specs.Prelude.{option_and_then, bytes_eq, reverse}
use Rattle.cc_names.specs.Formed.{Plain}
use Rattle.cc_names.specs.Last.{Effect, Keeps, Ends, Sets, only_if}
use Rattle.cc_names.specs.Paths.{names_of, path_of_names}
use Rattle.cc_names.specs.Versions.{kind_of}
use Rattle.cc_names.specs.declared.rows.Deed.{Deed}
use Rattle.cc_names.specs.declared.rows.Deed.TheVariants as deeds
use Rattle.cc_names.specs.declared.rows.Out.{Out}
use Rattle.cc_names.specs.declared.rows.Out.TheVariants as outs
use Rattle.cc_names.specs.declared.rows.Kind.{Kind}
use Rattle.cc_names.specs.declared.rows.Kind.TheVariants.{File, Directory}
use Rattle.cc_names.specs.declared.selection.Picked.{Picked}
use Rattle.cc_names.specs.declared.selection.Seen.{Seen}
use Rattle.cc_names.specs.declared.selection.Seen.TheVariants.{Private, Element, Unselected, Nothing}
use Rattle.base_model.specs.Rows.{Base, size, first_rows, Extends}
use Rattle.base_model.specs.Changes.{tree}
use Rattle.base_model.specs.Texts.{text_of_row, texts, text}
use Rattle.base_model.specs.Fits.{is_base}
use Rattle.base_model.specs.Seen.{at, file_at, file_seen, row_of_file}
use Rattle.base_model.specs.Views.{Checkout, TakenOut, out_effect, making, making_effect, making_of_out, made_out, taken_out}
use Rattle.base_model.specs.Views.{checkout_of_element, checkout_of_branch, private, private_effect}
use Rattle.base_model.proofs.Below.{within, last_holds}
use Rattle.base_model.proofs.PrivateFiles.{private_at}
use Rattle.base_model.proofs.Makings.{seen_element}
use Rattle.base_model.proofs.Origins.{out_sets, set_is}
use Rattle.base_model.proofs.Picks.{IsPick, picked_is}
use Rattle.base_model.proofs.Stay.{text_stays_all, first_rows_stay, all_rows}
use Rattle.base_model.proofs.VersionsStay.{of_element, parts_of}
use Rattle.std.proofs.lemmas.Bool.{ltb-true, ltb-false}
use Rattle.base_model.proofs.OwnRows.{ends_none}

sets_own : (test : Bool) (n r : ℕ) → only_if test (Sets n) ≡ Sets r → r ≡ n
sets_own true n r h = cc
sets_own false n r h = absurd (cc)

private_sets : (v p : List ℕ) (n r : ℕ) (deed : Deed) → private_effect v p n deed ≡ Sets r → r ≡ n
private_sets v p n r (deeds.Mkview w) h = absurd (ends_none (bytes_eq w v) r h)
private_sets v p n r (deeds.Rmview w) h = absurd (ends_none (bytes_eq w v) r h)
private_sets v p n r (deeds.Put w q text) h = sets_own _ n r h
private_sets v p n r (deeds.Rm w q) h = absurd (ends_none _ r h)
private_sets v p n r deed h = absurd (cc)

private_is_below : (b : Base) (v p : List ℕ) (r : ℕ) → private b v p ≡ Some r → r < size b
private_is_below b v p r h =
    last_holds {X = Plain} {A = ℕ} (λ b r. r < size b) (λ older row. private_effect v p (size older) row.deed)
    (λ row older r low. omega arith) (λ row older r is. let same : r ≡ size older = private_sets v p (size older) r row.deed is in
    omega arith) b r h

-- the row of a checkout that is there
own_row : ℕ → Option TakenOut → ℕ
own_row n None = n
own_row n (Some taken) = taken.checkout.row

element_row : (v : List ℕ) (n : ℕ) (how : Bool) → own_row n (taken_out v n (checkout_of_element how n)) ≡ n
unfolding own_row
element_row v n true = refl
element_row v n false = refl

branch_row : (v : List ℕ) (e n : ℕ) (how : Out) → own_row n (taken_out v e (checkout_of_branch how n)) ≡ n
unfolding own_row
branch_row v e n outs.No = refl
branch_row v e n outs.Reserved = refl
branch_row v e n outs.Unreserved = refl

made_row : (n : ℕ) (deed : Deed) → own_row n (made_out n deed) ≡ n
unfolding own_row
made_row n (deeds.Mkelem v directory name kind how) = element_row v n how
made_row n (deeds.Checkout v e origin reserved) = refl
made_row n (deeds.Branch v e origin name how) = branch_row v e n how
made_row n deed = refl

pub out_row : (v : List ℕ) (e n : ℕ) (deed : Deed) (checkout : Checkout) → out_effect v e n deed ≡ Sets checkout
    → checkout.row ≡ n
unfolding own_row
out_row v e n deed checkout h =
    let set = set_is v e (made_out n deed) checkout (out_sets v e n deed checkout h) in
    ap (λ c. c.row) (sym set.3) ∙ ap (own_row n) (sym set.1) ∙ made_row n deed

making_by : (v : List ℕ) (e n r : ℕ) (deed : Deed) (effect : Effect Checkout) → out_effect v e n deed ≡ effect
    → making_of_out effect ≡ Sets r → r ≡ n
making_by v e n r deed Keeps is h = absurd (cc)
making_by v e n r deed Ends is h = absurd (cc)
making_by v e n r deed (Sets checkout) is h = let own = out_row v e n deed checkout is in cc

making_sets : (v : List ℕ) (e n r : ℕ) (deed : Deed) → making_effect v e n deed ≡ Sets r → r ≡ n
making_sets v e n r (deeds.Save w f text) h = sets_own _ n r h
making_sets v e n r deed h = making_by v e n r deed (out_effect v e n deed) refl h

making_is_below : (b : Base) (v : List ℕ) (e r : ℕ) → making b v e ≡ Some r → r < size b
making_is_below b v e r h =
    last_holds {X = Plain} {A = ℕ} (λ b r. r < size b) (λ older row. making_effect v e (size older) row.deed)
    (λ row older r low. omega arith) (λ row older r is. let same : r ≡ size older = making_sets v e (size older) r row.deed is in
    omega arith) b r h

pick_is_below : (b : Base) (v : List ℕ) (e : ℕ) (picked : Picked) → IsPick b v e picked → picked.row < size b
pick_is_below b v e picked h = by picked.out refl
  where
    by : (own : Bool) → picked.out ≡ own → picked.row < size b
    by true is = making_is_below b v e picked.row (h.own is)
    by false is =
        let p = of_element b e picked.row (h.version is) in
        let parts = parts_of (tree b) picked.row p.0 p.1 in
        (within b).numbers picked.row parts.change parts.made

pub file_is_below : (b : Base) (v path : List ℕ) (r : ℕ) → is_base b ≡ true → file_at b v path ≡ Some r → r < size b
file_is_below b v path r base h = by (at b v path) refl h
  where
    of_kind : (picked : Picked) (k : Option Kind) → row_of_file picked k ≡ Some r → picked.row ≡ r
    of_kind picked None h = absurd (cc)
    of_kind picked (Some File) h = cc
    of_kind picked (Some Directory) h = absurd (cc)

    by : (seen : Seen) → at b v path ≡ seen → file_seen b seen ≡ Some r → r < size b
    by (Private row) is h = let same : row ≡ r = cc in subst (λ r. r < size b) same
        (private_is_below b v (path_of_names (reverse (reverse (names_of path)))) row
        (private_at b v (reverse (names_of path)) row is))
    by (Element e picked) is h =
        let seen = seen_element b v (reverse (names_of path)) e picked is in
        let same : picked.row ≡ r = of_kind picked (kind_of (tree b) e) h in
        subst (λ r. r < size b) same (pick_is_below b v e picked (picked_is b v e (reverse (reverse (names_of path))) picked base
        seen.element seen.picks))
    by (Unselected e) is h = absurd (cc)
    by Nothing is h = absurd (cc)

-- a base is its first rows with the others after them
pub beyond : (b : Base) (t : ℕ) → Extends (first_rows t b) b
beyond [] t = record { more = []; is = refl }
beyond (row ∷ older) t = elim (nat_lt (size older) t) as (λ (x : Bool). nat_lt (size older) t ≡ x
    → Extends (first_rows t (row ∷ older)) (row ∷ older)) [
      | true ↦ λ test. let low : size older < t = ltb-true _ _ test in record {
        more = [];
        is = sym (all_rows (row ∷ older) t (omega arith));
      }
      | false ↦ λ test. let high : t ≤ size older = ltb-false _ _ test in
          let rest = beyond older t in
          record {
            more = row ∷ rest.more;
            is = ap (λ b. row ∷ b) rest.is ∙ ap (λ b. row ∷ (rest.more ++ b))
                (sym (first_rows_stay row older t high));
          }
    ] refl

-- the text of a file that is seen in the first rows is what the base has there
pub file_text : (b : Base) (t : ℕ) (v path : List ℕ) → is_base (first_rows t b) ≡ true
    → text_of_row b path (file_at (first_rows t b) v path) ≡ texts (first_rows t b) v path
file_text b t v path base = by (file_at (first_rows t b) v path) refl
  where
    by : (o : Option ℕ) → file_at (first_rows t b) v path ≡ o → text_of_row b path o
        ≡ option_and_then (λ row. text (first_rows t b) row path) o
    by None is = refl
    by (Some r) is =
        let low = file_is_below (first_rows t b) v path r base is in
        let more = beyond b t in
        ap (λ b. text b r path) more.is ∙ text_stays_all more.more (first_rows t b) r path low
