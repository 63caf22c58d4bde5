-- A view has checked out what it makes anew; and what stands at a path as an element is one, with what was picked of it.
use Rattle.std.proofs.Common.{◌≡◌, refl, ap, sym, subst, ◌∙◌, ℕ, Bool, true, false, ◌&&◌, ◌==◌, Option, Some, None, List, [], ◌∷◌}
use Rattle.std.specs.Prelude.{is_some, bytes_eq, if◌then◌else◌, length, nat_le, reverse}
use Rattle.cc_names.specs.Last.{Effect, Keeps, Ends, Sets, only_if, value_after}
use Rattle.cc_names.specs.Paths.{path_of_names}
use Rattle.cc_names.specs.Versions.{kind_of}
use Rattle.cc_names.specs.declared.rows.Deed.{Deed}
use Rattle.cc_names.specs.declared.rows.Deed.TheVariants as deeds
use Rattle.cc_names.specs.declared.rows.Kind.{Kind}
use Rattle.cc_names.specs.declared.rows.Kind.TheVariants.{File, Directory}
use Rattle.cc_names.specs.declared.selection.Picked.{Picked}
use Rattle.cc_names.specs.declared.selection.Seen.{Seen}
use Rattle.cc_names.specs.declared.selection.Seen.TheVariants.{Private, Element, Unselected, Nothing}
use Rattle.cc_names.proofs.Common.{same_bytes, same_number, and_first, and_second}
use Rattle.base_model.specs.Rows.{Base, size}
use Rattle.base_model.specs.Catalogs.{Catalog, element_named, own_of, catalog_of}
use Rattle.base_model.specs.Changes.{tree}
use Rattle.base_model.specs.Conditions.{has_out, is_file}
use Rattle.base_model.specs.Fits.{is_base, deed_fits}
use Rattle.base_model.specs.Seen.{at_names, as_seen, below, path_limit, private_or, unless_too_long, element_at, entries_of}
use Rattle.base_model.specs.Seen.{entries_by, catalog_by, selection_at}
use Rattle.base_model.specs.Views.{Checkout, out, out_effect, making, making_effect, making_of_out, private}
use Rattle.base_model.proofs.CatalogElements.{IsElement, AllElements, catalogued, named_element, element_stays}
use Rattle.base_model.proofs.Owned.{row_fits, rows_below}

-- where the checkout's row made the text, there is the checkout; a save comes only where there is one
out_by_effect : (effect : Effect Checkout) (made : Option ℕ) (taken : Option Checkout) (r : ℕ)
    → value_after (making_of_out effect) made ≡ Some r →
    (made ≡ Some r → is_some taken ≡ true) → is_some (value_after effect taken) ≡ true
out_by_effect Keeps made taken r h before = before h
out_by_effect Ends made taken r h before = absurd (cc)
out_by_effect (Sets checkout) made taken r h before = refl

saved : (v w : List ℕ) (e f n r : ℕ) (older : Base) → has_out older w f ≡ true
    → value_after (only_if (bytes_eq w v && (f == e)) (Sets n)) (making older v e) ≡ Some r →
    (making older v e ≡ Some r → is_some (out older v e) ≡ true) → is_some (out older v e) ≡ true
saved v w e f n r older fit h before = by (bytes_eq w v && (f == e)) refl h
  where
    by : (t : Bool) → (bytes_eq w v && (f == e)) ≡ t → value_after (only_if t (Sets n)) (making older v e) ≡ Some r
        → is_some (out older v e) ≡ true
    by true test h =
        let name : w ≡ v = same_bytes w v (and_first (bytes_eq w v) (f == e) test) in
        let number : f ≡ e = same_number f e (and_second (bytes_eq w v) (f == e) test) in
        subst (λ v. has_out older v e ≡ true) name (subst (λ e. has_out older w e ≡ true) number fit)
    by false test h = before h

taken_by : (v : List ℕ) (e r : ℕ) (older : Base) (deed : Deed) → deed_fits older deed ≡ true
    → value_after (making_effect v e (size older) deed) (making older v e) ≡ Some r →
    (making older v e ≡ Some r → is_some (out older v e) ≡ true) → is_some
    (value_after (out_effect v e (size older) deed) (out older v e)) ≡ true
taken_by v e r older (deeds.Save w f text) fit h before = saved v w e f (size older) r older
    (and_first (has_out older w f) (is_file older f) fit) h before
taken_by v e r older deed fit h before = out_by_effect (out_effect v e (size older) deed) (making older v e) (out older v e) r h
    before

pub making_is_out : (b : Base) (v : List ℕ) (e r : ℕ) → is_base b ≡ true → making b v e ≡ Some r → is_some (out b v e) ≡ true
making_is_out [] v e r base h = absurd (cc)
making_is_out (row ∷ older) v e r base h = taken_by v e r older row.deed (row_fits row older base) h
    (making_is_out older v e r (rows_below row older base))

-- the root is an element
root_is_element : (b : Base) → IsElement b 0
root_is_element [] = refl
root_is_element (row ∷ older) = element_stays row older 0 (root_is_element older)

-- an element that stands at the path of these names, the last one first
pub record SeenElement (b : Base) (v : List ℕ) (names : List (List ℕ)) (e : ℕ) (picked : Picked) : Type 0 where
  pub element : IsElement b e
  pub picks : selection_at b v e names ≡ Some picked

seen_of : (b : Base) (v : List ℕ) (names : List (List ℕ)) (f e : ℕ) (picked : Picked) → IsElement b f
    → as_seen f (selection_at b v f names) ≡ Element e picked → SeenElement b v names e picked
seen_of b v names f e picked h is = by (selection_at b v f names) refl is
  where
    by : (o : Option Picked) → selection_at b v f names ≡ o → as_seen f o ≡ Element e picked → SeenElement b v names e picked
    by None found is = absurd (cc)
    by (Some p) found is =
        let number : f ≡ e = cc in
        let same : p ≡ picked = cc in
        subst (λ e. SeenElement b v names e picked) number (record { element = h; picks = found ∙ ap Some same })

-- what is seen at a path stands there
pub short_is_seen : (path : List ℕ) (stands seen : Seen) → (seen ≡ Nothing → ⊥) → unless_too_long path stands ≡ seen
    → stands ≡ seen
short_is_seen path stands seen never h = by (nat_le (length path) path_limit) h
  where
    by : (short : Bool) → (if short then stands else Nothing) ≡ seen → stands ≡ seen
    by true is = is
    by false is = absurd (never (sym is))

in_entries : (b : Base) (v : List ℕ) (names : List (List ℕ)) (name : List ℕ) (entries : Catalog) (e : ℕ) (picked : Picked)
    → AllElements b entries →
    unless_too_long (path_of_names names) (private_or (private b v (path_of_names names))
    (element_at b v names (element_named name entries))) ≡ Element e picked → SeenElement b v names e picked
in_entries b v names name entries e picked h is = by (private b v (path_of_names names))
    (short_is_seen (path_of_names names) _ (Element e picked) (λ e. cc) is)
  where
    by_name : (o : Option ℕ) → element_named name entries ≡ o → element_at b v names o ≡ Element e picked
        → SeenElement b v names e picked
    by_name None found is = absurd (cc)
    by_name (Some f) found is = seen_of b v names f e picked (named_element b name entries f h found) is

    by : (o : Option ℕ) → private_or o (element_at b v names (element_named name entries)) ≡ Element e picked
        → SeenElement b v names e picked
    by None is = by_name (element_named name entries) refl is
    by (Some row) is = absurd (cc)

catalog_elements : (b : Base) (v : List ℕ) (e : ℕ) (picked : Picked) (own : Bool)
    → AllElements b (catalog_by own (own_of b v e) (catalog_of b picked.row))
catalog_elements b v e picked true = (catalogued b).checkouts v e
catalog_elements b v e picked false = (catalogued b).versions picked.row

below_element : (b : Base) (v : List ℕ) (names : List (List ℕ)) (name : List ℕ) (seen : Seen) (e : ℕ) (picked : Picked)
    → below b v names name (entries_of b v seen) ≡ Element e picked → SeenElement b v names e picked
below_element b v names name (Private row) e picked is = absurd (cc)
below_element b v names name (Unselected f) e picked is = absurd (cc)
below_element b v names name Nothing e picked is = absurd (cc)
below_element b v names name (Element f p) e picked is = by (kind_of (tree b) f) is
  where
    by : (k : Option Kind) → below b v names name (entries_by b v f p k) ≡ Element e picked → SeenElement b v names e picked
    by None is = absurd (cc)
    by (Some File) is = absurd (cc)
    by (Some Directory) is = in_entries b v names name (catalog_by p.out (own_of b v f) (catalog_of b p.row)) e picked
        (catalog_elements b v f p p.out) is

pub seen_element : (b : Base) (v : List ℕ) (back : List (List ℕ)) (e : ℕ) (picked : Picked) → at_names b v back ≡ Element e picked
    → SeenElement b v (reverse back) e picked
seen_element b v [] e picked is = seen_of b v [] 0 e picked (root_is_element b) is
seen_element b v (name ∷ above) e picked is = below_element b v (reverse (name ∷ above)) name (at_names b v above) e picked is
