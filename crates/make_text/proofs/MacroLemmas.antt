-- Macros that a map holds by their names.
use Rattle.std.proofs.Common.{◌≡◌, ◌≢◌, ℕ, zero, suc, ◌+◌, ◌<◌, ◌≤◌, inl, inr, Bool, true, false, cond, not, ◌&&◌, Option, Some}
use Rattle.std.proofs.Common.{None, List, [], ◌∷◌, length, map, get_or, slice_get, refl, sym, ap, ◌∙◌, subst, one-add, arith}
use Rattle.std.proofs.lemmas.List.{length-map}
use Rattle.std.specs.Prelude.{if◌then◌else◌, nat_lt}
use Rattle.std.specs.List.{position, position_or_len, IsDistinct, AllPairs}
use Rattle.std.specs.Str.{bytes_eq}
use Rattle.std.proofs.lemmas.Bool.{cases_eq}
use Rattle.std.proofs.lemmas.Slice.Eq.{bytes_eq-Decides}
use Rattle.std.proofs.lemmas.Map.Made.{AllPairs-from_IsDistinct}
use borrow.Author.Tests.{ltb-true, ltb-false}
use Rattle.make_grammar.specs.Macros.{value_in}
use Rattle.make_text.specs.MacroEntries.{macro_in, macros_in, definition_in, definitions_in}
use Rattle.make_grammar.specs.Statements.{Definition, macros_of, has_fixed, with_definition}
use Rattle.make_text.specs.declared.macros.Defined.{Defined}
use Rattle.indexmap.specs.IndexMap.{insert_entry}
use Rattle.std.specs.Map.{lookup}
use Rattle.make_text.specs.Runs.{macro_at, HasNamesApart, IsMacroFound}
use Rattle.make_text.proofs.PieceLemmas.{some_given, none_given}
use Rattle.make_text.proofs.ExpansionLemmas.{same_bytes}

abbrev Entries : Type 0
Entries = List (List ℕ × Defined)

abbrev names : Entries → List (List ℕ)
names entries = map (λ e. e.0) entries

-- ---- a macro by its name

abbrev IsThere : Entries → List ℕ → ℕ → Type 0
IsThere entries name i = ((macro_at (macros_in entries) i).name ≡ name)
    × (value_in (macros_in entries) name ≡ Some (macro_at (macros_in entries) i).value)

there_step : (t : Bool) (entry : List ℕ × Defined) (entries : Entries) (name : List ℕ) (n : ℕ) → bytes_eq name entry.0 ≡ t
    → cond (not t) (1 + n) 0 < suc (length (names entries)) → (n < length (names entries) → IsThere entries name n)
    → IsThere (entry ∷ entries) name (cond (not t) (1 + n) 0)
there_step true entry entries name n e l h =
    (sym (same_bytes name entry.0 e), ap (λ b. if b then Some entry.1.value else value_in (macros_in entries) name) e)
there_step false entry entries name n e l h =
    let later = h (omega arith) in
    subst (λ k. IsThere (entry ∷ entries) name k) (sym (one-add n))
    (later.0, ap (λ b. if b then Some entry.1.value else value_in (macros_in entries) name) e ∙ later.1)

there : (entries : Entries) (name : List ℕ) → position_or_len (bytes_eq name) (names entries) < length (names entries)
    → IsThere entries name (position_or_len (bytes_eq name) (names entries))
there [] name l = absurd (omega arith)
there (entry ∷ entries) name l = there_step (bytes_eq name entry.0) entry entries name
    (position_or_len (bytes_eq name) (names entries)) refl l (there entries name)

absent_step : (t : Bool) (entry : List ℕ × Defined) (entries : Entries) (name : List ℕ) (n : ℕ) → bytes_eq name entry.0 ≡ t
    → suc (length (names entries)) ≤ cond (not t) (1 + n) 0 → (length (names entries) ≤ n
    → value_in (macros_in entries) name ≡ None) → value_in (macros_in (entry ∷ entries)) name ≡ None
absent_step true entry entries name n e l h = absurd (omega arith)
absent_step false entry entries name n e l h = ap (λ b. if b then Some entry.1.value else value_in (macros_in entries) name) e
    ∙ h (omega arith)

absent : (entries : Entries) (name : List ℕ) → length (names entries) ≤ position_or_len (bytes_eq name) (names entries)
    → value_in (macros_in entries) name ≡ None
absent [] name l = refl
absent (entry ∷ entries) name l = absent_step (bytes_eq name entry.0) entry entries name
    (position_or_len (bytes_eq name) (names entries)) refl l (absent entries name)

pub found : (entries : Entries) (name : List ℕ) (i : Option ℕ) → i ≡ position (bytes_eq name) (names entries)
    → IsMacroFound (macros_in entries) name i
found entries name None h =
    absent entries name (ltb-false (position_or_len (bytes_eq name) (names entries)) (length (names entries))
    (none_given _ _ (sym h)))
found entries name (Some i) h =
    let given = some_given (nat_lt (position_or_len (bytes_eq name) (names entries)) (length (names entries)))
    (position_or_len (bytes_eq name) (names entries)) i (sym h) in
    let within : position_or_len (bytes_eq name) (names entries) < length (names entries) = ltb-true _ _ given.0 in
    let is = subst (λ k. IsThere entries name k) given.1 (there entries name within) in
    let below : i < length (names entries) = rw (← given.1) within in
    (rw (length-map entries macro_in) (rw (length-map entries (λ (e : List ℕ × Defined). e.0)) at below), is.0, is.1)

-- ---- names that differ

name_at : (entries : Entries) (i : ℕ) → (macro_at (macros_in entries) i).name ≡ get_or (names entries) i []
name_at [] i = refl
name_at (entry ∷ entries) zero = refl
name_at (entry ∷ entries) (suc i) = name_at entries i

apart_order : (i j : ℕ) (d : List ℕ) (xs : List (List ℕ)) → AllPairs (λ x y. x ≢ y) xs → i < length xs → j < length xs
    → get_or xs i d ≡ get_or xs j d → (i ≡ j → ⊥) → i ≡ j
apart_order i j d xs pairs k n same apart =
    let before : i < j → ⊥ = λ l. pairs i j d l n same in
    let behind : j < i → ⊥ = λ l. pairs j i d l k (sym same) in
    omega arith

pub names_apart : (entries : Entries) → IsDistinct bytes_eq (names entries) → HasNamesApart (macros_in entries)
names_apart entries h i j l m e =
    let pairs = AllPairs-from_IsDistinct bytes_eq-Decides (names entries) h in
    let k : i < length (names entries) = rw (length-map entries (λ (e : List ℕ × Defined). e.0))
    (rw (length-map entries macro_in) at l) in
    let n : j < length (names entries) = rw (length-map entries (λ (e : List ℕ × Defined). e.0))
    (rw (length-map entries macro_in) at m) in
    let same : get_or (names entries) i [] ≡ get_or (names entries) j [] = sym (name_at entries i) ∙ e ∙ name_at entries j in
    elim (cases_eq i j) [
      | inl q ↦ q
      | inr d ↦ apart_order i j [] (names entries) pairs k n same d
    ]

-- the value of the macro at an index is that of the entry there
pub value_at : (entries : Entries) (i : ℕ) (entry : List ℕ × Defined) → slice_get entries i ≡ Some entry
    → (macro_at (macros_in entries) i).value ≡ entry.1.value
value_at [] i entry h = absurd (cc)
value_at (e ∷ entries) zero entry h = let same : e ≡ entry = cc in ap (λ (x : List ℕ × Defined). x.1.value) same
value_at (e ∷ entries) (suc i) entry h = value_at entries i entry h

-- ---- as definitions

pub macros_of_entries : (entries : Entries) → macros_of (definitions_in entries) ≡ macros_in entries
macros_of_entries [] = refl
macros_of_entries (entry ∷ entries) = ap (λ v. macro_in entry ∷ v) (macros_of_entries entries)

-- a fixed macro stays
stays_step : (t : Bool) (d older : Definition) (others : List Definition)
    → (if t then older.is_fixed else has_fixed others d.name) ≡ true → d.is_fixed ≡ false
    → (has_fixed others d.name ≡ true → with_definition d others ≡ others)
    → (if t then (if older.is_fixed && not d.is_fixed then older else d) ∷ others else older ∷ with_definition d others) ≡ older
    ∷ others
stays_step true d older others h free more = ap (λ b. (if b && not d.is_fixed then older else d) ∷ others) h
    ∙ ap (λ b. (if not b then older else d) ∷ others) free
stays_step false d older others h free more = ap (λ v. older ∷ v) (more h)

pub stays : (d : Definition) (definitions : List Definition) → has_fixed definitions d.name ≡ true → d.is_fixed ≡ false
    → with_definition d definitions ≡ definitions
stays d [] h free = absurd (cc)
stays d (older ∷ others) h free = stays_step (bytes_eq d.name older.name) d older others h free (λ more. stays d others more free)

-- the same by the test of the code
pub kept : (d : Definition) (definitions : List Definition) → (not d.is_fixed && has_fixed definitions d.name) ≡ true
    → definitions ≡ with_definition d definitions
kept d definitions h = by d.is_fixed (has_fixed definitions d.name) refl refl h
  where
    by : (a b : Bool) → d.is_fixed ≡ a → has_fixed definitions d.name ≡ b → (not a && b) ≡ true
        → definitions ≡ with_definition d definitions
    by true b free here h = absurd (cc)
    by false true free here h = sym (stays d definitions here free)
    by false false free here h = absurd (cc)

-- whether a macro is fixed
abbrev pub is_fixed_in : Option Defined → Bool
is_fixed_in None = false
is_fixed_in (Some defined) = defined.is_fixed

pub fixed_of : (entries : Entries) (name : List ℕ) → is_fixed_in (lookup (bytes_eq name) entries)
    ≡ has_fixed (definitions_in entries) name
fixed_of [] name = refl
fixed_of (entry ∷ entries) name = by (bytes_eq name entry.0) (fixed_of entries name)
  where
    by : (t : Bool) → is_fixed_in (lookup (bytes_eq name) entries) ≡ has_fixed (definitions_in entries) name →
        is_fixed_in (cond t (Some entry.1) (lookup (bytes_eq name) entries))
        ≡ (if t then entry.1.is_fixed else has_fixed (definitions_in entries) name)
    by true more = refl
    by false more = more

-- ---- one more macro

added_step : (t : Bool) (entry : List ℕ × Defined) (entries : Entries) (name : List ℕ) (value : Defined)
    → bytes_eq name entry.0 ≡ t → (not value.is_fixed && (if t then entry.1.is_fixed else has_fixed (definitions_in entries)
    name)) ≡ false →
    ((not value.is_fixed && has_fixed (definitions_in entries) name) ≡ false
    → definitions_in (insert_entry bytes_eq entries name value) ≡ with_definition (definition_in (name, value))
    (definitions_in entries)) →
    definitions_in (if t then (entry.0, value) ∷ entries else entry ∷ insert_entry bytes_eq entries name value)
    ≡ (if t then (if entry.1.is_fixed && not value.is_fixed then definition_in entry else definition_in (name, value))
    ∷ definitions_in entries else definition_in entry ∷ with_definition (definition_in (name, value))
    (definitions_in entries))
added_step true entry entries name value e h more =
    ap (λ n. definition_in (n, value) ∷ definitions_in entries) (sym (same_bytes name entry.0 e))
    ∙ ap (λ d. d ∷ definitions_in entries) (sym (newer entry.1.is_fixed value.is_fixed h))
  where
    newer : (a b : Bool) → (not b && a) ≡ false → (if a && not b then definition_in entry else definition_in (name, value))
        ≡ definition_in (name, value)
    newer true true h = refl
    newer false true h = refl
    newer true false h = absurd (cc)
    newer false false h = refl
added_step false entry entries name value e h more = ap (λ v. definition_in entry ∷ v) (more h)

pub added : (entries : Entries) (name : List ℕ) (value : Defined) → (not value.is_fixed
    && has_fixed (definitions_in entries) name) ≡ false → definitions_in (insert_entry bytes_eq entries name value)
    ≡ with_definition (definition_in (name, value)) (definitions_in entries)
added [] name value h = refl
added (entry ∷ entries) name value h = added_step (bytes_eq name entry.0) entry entries name value refl h
    (added entries name value)
