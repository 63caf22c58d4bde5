-- The objects that have to be run again are found from the newest row down.
use Rattle.std.proofs.Common.{◌≡◌, refl, ap, sym, subst, ◌∙◌, ℕ, suc, ◌<◌, ◌≤◌, ◌==◌, ◌&&◌, ◌||◌, Bool, true, false, cond}
use Rattle.std.proofs.Common.{Option, Some, List, [], ◌∷◌, arith}
use Rattle.std.proofs.lemmas.Bool.Decides.{nat_tests}
use Rattle.std.specs.BTreeMap.{is_at}
use Rattle.std.specs.Cmp.{unsigned_tied}
use Rattle.std.specs.List.{list_all}
use Rattle.std.specs.Ordering.{nat_cmp}
use Rattle.std.specs.Prelude.{is_some}
use Rattle.cc_names.specs.Formed.{Plain}
use Rattle.cc_names.specs.declared.rows.ReadOf.{ReadOf}
use Rattle.cc_names.proofs.Common.{and_first, and_second}
use Rattle.base_model.specs.Rows.{Base, size, row_at, deed_of}
use Rattle.base_model.specs.Changes.{live_row}
use Rattle.base_model.specs.Closures.{entries_of_deed, is_publish}
use Rattle.base_model.specs.Conditions.{is_entry}
use Rattle.base_model.specs.Fits.{is_base}
use Rattle.base_model.specs.Objects.{record_of}
use Rattle.base_model.proofs.Owned.{row_fits, rows_below}
use Rattle.base_model.proofs.EntriesBelow.{entries_fit, entry_below}
use Rattle.object_check.specs.Needed.{HasLive, IsClosed, NeedsFrom, name_object}

-- an entry that is added
pub entry_put : (t p old : Bool) → p ≡ true → cond t true old ≡ ((t && p) || old)
entry_put true true old h = refl
entry_put true false old h = absurd (cc)
entry_put false p old h = refl

pub entry_passed : (t p old : Bool) → p ≡ false → old ≡ ((t && p) || old)
entry_passed true true old h = absurd (cc)
entry_passed true false old h = refl
entry_passed false p old h = refl

named_below : (b older : Base) (entries : List ReadOf) (r : ℕ) → list_all (is_entry older) entries ≡ true
    → name_object b entries r ≡ true → r < size older
named_below b older [] r fit h = absurd (cc)
named_below b older (entry ∷ entries) r fit h = by (entry.row == r) refl h
    (named_below b older entries r (and_second (is_entry older entry) (list_all (is_entry older) entries) fit))
  where
    by : (t : Bool) → (entry.row == r) ≡ t → ((t && is_publish b entry.row) || name_object b entries r) ≡ true
        → (name_object b entries r ≡ true → r < size older) → r < size older
    by true at h rest =
        let same : entry.row ≡ r = grind (arith, nat_tests) in
        subst (λ n. n < size older) same (entry_below older entry (and_first (is_entry older entry)
        (list_all (is_entry older) entries) fit))
    by false at h rest = rest h

-- the objects that a record names come before it
pub names_before : (b rows : Base) (id r : ℕ) → is_base rows ≡ true → name_object b (record_of rows id) r ≡ true → r < id
names_before b [] id r base h = absurd (cc)
names_before b (row ∷ older) id r base h = by (size older == id) refl h (names_before b older id r (rows_below row older base))
  where
    by : (t : Bool) → (size older == id) ≡ t → name_object b (entries_of_deed
        (deed_of (elim t as (λ x. Option Plain) [ true ↦ Some row | false ↦ row_at older id ]))) r ≡ true →
        (name_object b (record_of older id) r ≡ true → r < id) → r < id
    by true at h rest =
        let number : size older ≡ id = grind (arith, nat_tests) in
        subst (λ n. r < n) number (named_below b older (entries_of_deed (Some row.deed)) r
        (entries_fit older row.deed (row_fits row older base)) h)
    by false at h rest = rest h

module _ (b : Base) (k : ℕ) (old : ℕ → Bool) (before : NeedsFrom b (suc k) old) where
  -- an object that is not needed
  pub needs_same : old k ≡ false → is_some (live_row b k) ≡ false → NeedsFrom b k old
  needs_same unneeded dead = record {
    lives = λ id from within lives. by_live id (k == id) refl from within lives;
    closed = λ id object from needs names. by_closed id object (k == id) refl from needs names;
  }
    where
      by_live : (id : ℕ) (t : Bool) → (k == id) ≡ t → k ≤ id → id < size b → is_some (live_row b id) ≡ true → old id ≡ true
      by_live id true at from within lives = let same : k ≡ id = grind (arith, nat_tests) in absurd (cc (dead, lives, same))
      by_live id false at from within lives = let past : suc k ≤ id = grind (arith, nat_tests, from) in
          before.lives id past within lives

      by_closed : (id object : ℕ) (t : Bool) → (k == id) ≡ t → k ≤ id → old id ≡ true
          → name_object b (record_of b id) object ≡ true → old object ≡ true
      by_closed id object true at from needs names = let same : k ≡ id = grind (arith, nat_tests) in
          absurd (cc (unneeded, needs, same))
      by_closed id object false at from needs names = let past : suc k ≤ id = grind (arith, nat_tests, from) in
          before.closed id object past needs names

  -- one that is, with those that its entries name
  pub needs_more : (new : ℕ → Bool) → is_base b ≡ true → ((q : ℕ) → new q
      ≡ (name_object b (record_of b k) q || cond (is_at (nat_cmp k) q) true (old q))) → NeedsFrom b k new
  needs_more new base put = record {
    lives = λ id from within lives. by_live id (k == id) refl from within lives;
    closed = λ id object from needs names. by_closed id object (k == id) refl from needs names;
  }
    where
      stays : (id : ℕ) → old id ≡ true → new id ≡ true
      stays id is = put id ∙ by (name_object b (record_of b k) id) (is_at (nat_cmp k) id)
        where
          by : (x t : Bool) → (x || cond t true (old id)) ≡ true
          by true t = refl
          by false true = refl
          by false false = is

      own : (id : ℕ) → (k == id) ≡ true → new id ≡ true
      own id at = put id ∙ by (name_object b (record_of b k) id) (is_at (nat_cmp k) id) (unsigned_tied k id ∙ at)
        where
          by : (x t : Bool) → t ≡ true → (x || cond t true (old id)) ≡ true
          by true t is = refl
          by false true is = refl
          by false false is = absurd (cc)

      later : (id : ℕ) → suc k ≤ id → (k == id) ≡ false → new id ≡ true → old id ≡ true
      later id past apart is = by (name_object b (record_of b k) id) refl (is_at (nat_cmp k) id) (unsigned_tied k id
          ∙ apart) (sym (put id) ∙ is)
        where
          by : (x : Bool) → name_object b (record_of b k) id ≡ x → (t : Bool) → t ≡ false → (x || cond t true (old id)) ≡ true
              → old id ≡ true
          by true names t unlike h = let low = names_before b b k id base names in absurd (omega (arith, low, past))
          by false names true unlike h = absurd (cc)
          by false names false unlike h = h

      by_live : (id : ℕ) (t : Bool) → (k == id) ≡ t → k ≤ id → id < size b → is_some (live_row b id) ≡ true → new id ≡ true
      by_live id true at from within lives = own id at
      by_live id false at from within lives = let past : suc k ≤ id = grind (arith, nat_tests, from) in
          stays id (before.lives id past within lives)

      by_closed : (id object : ℕ) (t : Bool) → (k == id) ≡ t → k ≤ id → new id ≡ true
          → name_object b (record_of b id) object ≡ true → new object ≡ true
      by_closed id object true at from needs names =
          let same : k ≡ id = grind (arith, nat_tests) in
          put object ∙ ap (λ x. x || cond (is_at (nat_cmp k) object) true (old object))
          (ap (λ n. name_object b (record_of b n) object) same ∙ names)
      by_closed id object false at from needs names =
          let past : suc k ≤ id = grind (arith, nat_tests, from) in
          stays object (before.closed id object past (later id past at needs) names)

-- from row 0 on
pub all_live : (b : Base) (needed : ℕ → Bool) → NeedsFrom b 0 needed → HasLive b needed
all_live b needed h = λ id within lives. h.lives id (omega arith) within lives

pub all_closed : (b : Base) (needed : ℕ → Bool) → NeedsFrom b 0 needed → IsClosed b needed
all_closed b needed h = λ id object needs names. h.closed id object (omega arith) needs names

-- after all rows
pub needs_none : (b : Base) (n : ℕ) (needed : ℕ → Bool) → size b ≤ n → ((id : ℕ) → needed id ≡ false) → NeedsFrom b n needed
needs_none b n needed past none = record {
  lives = λ id from within lives. absurd (omega (arith, past, from, within));
  closed = λ id object from needs names. by object id needs;
}
  where
    by : (object id : ℕ) → needed id ≡ true → needed object ≡ true
    by object id needs = let not_needed = none id in absurd (cc)

-- what is not needed is no live object
pub dead_unneeded : (b : Base) (needed : ℕ → Bool) (id : ℕ) → HasLive b needed → id < size b → needed id ≡ false
    → is_some (live_row b id) ≡ false
dead_unneeded b needed id has within is = by (is_some (live_row b id)) refl
  where
    by : (t : Bool) → is_some (live_row b id) ≡ t → t ≡ false
    by true lives = let needs = has id within lives in absurd (cc (needs, is))
    by false lives = refl
