-- In a base a label's holder, and a version that a record lists, is one of the element; and what a catalog names is an element.
use Rattle.std.proofs.Common.{◌≡◌, refl, sym, subst, ◌∙◌, ℕ, zero, suc, ◌≤◌, Bool, true, false, cond, ◌&&◌, ◌==◌, max, Option}
use Rattle.std.proofs.Common.{Some, None, List, [], ◌∷◌, arith, nat_le}
use Rattle.std.proofs.lemmas.Bool.Decides.{nat_tests}
use Rattle.std.specs.Prelude.{bytes_eq}
use Rattle.std.specs.List.{list_all}
use Rattle.std.specs.Ordering.{nat_cmp}
use Rattle.std.specs.FinMap.Entries.{find}
use Rattle.cc_names.specs.Formed.{Plain}
use Rattle.cc_names.specs.Labels.{holder}
use Rattle.cc_names.specs.Last.{Ends, Sets, only_if, value_after}
use Rattle.cc_names.specs.Versions.{version_id}
use Rattle.cc_names.specs.declared.changes.LabelChange.{LabelChange}
use Rattle.cc_names.specs.declared.changes.LabelChange.TheVariants.{Put, Taken}
use Rattle.cc_names.specs.declared.changes.VersionId.{VersionId}
use Rattle.cc_names.specs.declared.rows.Deed.{Deed}
use Rattle.cc_names.specs.declared.rows.Deed.TheVariants as deeds
use Rattle.cc_names.specs.declared.rows.Placed.{Placed}
use Rattle.cc_names.proofs.Common.{same_number, and_first, and_second}
use Rattle.base_model.specs.Rows.{Base, size}
use Rattle.base_model.specs.Changes.{tree, labels, labels_after, all_placed}
use Rattle.base_model.specs.Closures.{Inputs, Listing, is_version_of, listing_of, version_listed, with_version_at, greater_of}
use Rattle.base_model.specs.Conditions.{is_label_type, is_placed}
use Rattle.base_model.specs.Fits.{is_base, deed_fits}
use Rattle.base_model.proofs.Tables.{find_after_put}
use Rattle.base_model.proofs.Owned.{row_fits, rows_below}
use Rattle.base_model.proofs.VersionsStay.{is_version, version_stays}

-- each label that changes leave stands on a version of its element in the base
pub record AllHeld (b : Base) (changes : List LabelChange) : Type 0 where
  pub holds : (name : List ℕ) (e r : ℕ) → holder changes name e ≡ Some r → is_version_of b e r ≡ true

one_put : (b : Base) (n : ℕ) (label : List ℕ) (f version : ℕ) (changes : List LabelChange) → is_version_of b f version ≡ true
    → AllHeld b changes → AllHeld b (Put n label f version ∷ changes)
one_put b n label f version changes is h = record {
  holds = λ name e r held. by name e r (bytes_eq name label && (e == f)) refl
      held;
}
  where
    by : (name : List ℕ) (e r : ℕ) (x : Bool) → (bytes_eq name label && (e == f)) ≡ x
        → value_after (only_if x (Sets version)) (holder changes name e) ≡ Some r → is_version_of b e r ≡ true
    by name e r true test held =
        let number : e ≡ f = same_number e f (and_second (bytes_eq name label) (e == f) test) in
        let same : version ≡ r = cc in
        subst (λ e. is_version_of b e r ≡ true) (sym number) (subst (λ r. is_version_of b f r ≡ true) same is)
    by name e r false test held = h.holds name e r held

one_taken : (b : Base) (n : ℕ) (label : List ℕ) (f : ℕ) (changes : List LabelChange) → AllHeld b changes
    → AllHeld b (Taken n label f ∷ changes)
one_taken b n label f changes h = record { holds = λ name e r held. by name e r (bytes_eq name label && (e == f)) held }
  where
    by : (name : List ℕ) (e r : ℕ) (x : Bool) → value_after (only_if x Ends) (holder changes name e) ≡ Some r
        → is_version_of b e r ≡ true
    by name e r true held = absurd (cc)
    by name e r false held = h.holds name e r held

all_put : (b older : Base) (n : ℕ) (label : List ℕ) (placed : List Placed) (changes : List LabelChange) →
    ((e r : ℕ) → is_version_of older e r ≡ true → is_version_of b e r ≡ true) → list_all (is_placed older) placed ≡ true
    → AllHeld b changes → AllHeld b (all_placed n label placed changes)
all_put b older n label [] changes stays fit h = h
all_put b older n label (one ∷ more) changes stays fit h =
    all_put b older n label more (Put n label one.element one.version ∷ changes) stays (and_second _ _ fit)
    (one_put b n label one.element one.version changes (stays one.element one.version (and_first _ _ fit)) h)

row_held : (b older : Base) (deed : Deed) (changes : List LabelChange)
    → ((e r : ℕ) → is_version_of older e r ≡ true → is_version_of b e r ≡ true) →
    deed_fits older deed ≡ true → AllHeld b changes → AllHeld b (labels_after (size older) deed changes)
row_held b older (deeds.Label label e version) changes stays fit h = one_put b (size older) label e version changes
    (stays e version (and_second (is_label_type older label) _ fit)) h
row_held b older (deeds.Unlabel label e) changes stays fit h = one_taken b (size older) label e changes h
row_held b older (deeds.Labels label placed) changes stays fit h = all_put b older (size older) label placed changes stays
    (and_second (is_label_type older label) _ fit) h
row_held b older deed changes stays fit h = h

held_on : (row : Plain) (b : Base) (changes : List LabelChange) → AllHeld b changes → AllHeld (row ∷ b) changes
held_on row b changes h = record { holds = λ name e r held. version_stays row b e r (h.holds name e r held) }

pub labels_hold : (b : Base) → is_base b ≡ true → AllHeld b (labels b)
labels_hold [] h = record { holds = λ name e r held. absurd (cc) }
labels_hold (row ∷ older) h =
    row_held (row ∷ older) older row.deed (labels older) (λ e r is. version_stays row older e r is) (row_fits row older h)
    (held_on row older (labels older) (labels_hold older (rows_below row older h)))

-- the greater of two numbers is one of them
pub greater : (P : ℕ → Type 0) (a b : ℕ) → P a → P b → P (max a b)
greater P a b p q = elim (nat_le a b) as (λ (x : Bool). nat_le a b ≡ x → P (max a b)) [
  | true ↦ λ test. let le : a ≤ b = grind (arith, nat_tests) in let same : b ≡ max a b = omega arith in subst P same q
  | false ↦ λ test. let le : b ≤ a = grind (arith, nat_tests) in let same : a ≡ max a b = omega arith in subst P same p
] refl

-- what a listing lists are versions of their elements
pub record AllListed (b : Base) (listing : Listing) : Type 0 where
  pub lists : (e r : ℕ) → find nat_cmp e listing ≡ Some r → is_version_of b e r ≡ true

-- what an input lists is the version that its row made
pub version_id_listed : (b : Base) (row : ℕ) (p : VersionId) → version_listed b row ≡ Some p → version_id (tree b) row ≡ Some p
version_id_listed b zero p is = cc
version_id_listed b (suc row) p is = is

one_listed : (b : Base) (row : ℕ) (p : Option VersionId) (listing : Listing)
    → ((q : VersionId) → p ≡ Some q → version_id (tree b) row ≡ Some q) → AllListed b listing
    → AllListed b (with_version_at row p listing)
one_listed b row None listing is h = h
one_listed b row (Some p) listing is h = record {
  lists = λ e r found. by e r (e == p.element) refl
      (sym (find_after_put e p.element (greater_of row (find nat_cmp p.element listing)) listing) ∙ found);
}
  where
    own : is_version_of b p.element row ≡ true
    own = is_version b p.element row p (is p refl) refl

    greatest : (o : Option ℕ) → find nat_cmp p.element listing ≡ o → is_version_of b p.element (greater_of row o) ≡ true
    greatest None e = own
    greatest (Some other) e = greater (λ r. is_version_of b p.element r ≡ true) row other own (h.lists p.element other e)

    by : (e r : ℕ) (x : Bool) → (e == p.element) ≡ x → cond x (Some (greater_of row (find nat_cmp p.element listing)))
        (find nat_cmp e listing) ≡ Some r → is_version_of b e r ≡ true
    by e r true test found =
        let number : e ≡ p.element = same_number e p.element test in
        let same : greater_of row (find nat_cmp p.element listing) ≡ r = cc in
        subst (λ e. is_version_of b e r ≡ true) (sym number) (subst (λ r. is_version_of b p.element r ≡ true) same
        (greatest (find nat_cmp p.element listing) refl))
    by e r false test found = h.lists e r found

pub all_listed : (b : Base) (inputs : Inputs) → AllListed b (listing_of b inputs)
all_listed b [] = record { lists = λ e r found. absurd (cc) }
all_listed b (input ∷ inputs) = one_listed b input.1 (version_listed b input.1) (listing_of b inputs)
    (version_id_listed b input.1) (all_listed b inputs)
