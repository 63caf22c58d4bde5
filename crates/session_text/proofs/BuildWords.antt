-- The words of `clearmake V ..`, one by one, and its macros.
use Rattle.std.proofs.Common.{◌≡◌, ℕ, Bool, true, false, cond, List, [], ◌∷◌, refl, ap, ◌∙◌}
use Rattle.std.specs.Prelude.{Ok, Err, map}
use Rattle.std.specs.Str.{bytes_eq}
use Rattle.indexmap.specs.IndexMap.{insert_entry}
use Rattle.cc_names.specs.declared.commands.Macro.{Macro}
use Rattle.cc_names.specs.declared.refusals.SessionCause.TheVariants.{BadWord}
use Rattle.session_text.specs.Clearmake.{Asked, with_one, with_option, with_macro, asked_behind, asked_by, is_option}
use Rattle.session_text.specs.Words.{Said}

ok-behind : (said : Said Asked) → said ≡ asked_behind (asked_by []) said
ok-behind (Ok asked) = refl
ok-behind (Err cause) = refl

-- a word that takes no other with it
pub asked_by-one : (word : List ℕ) (words : List (List ℕ)) (asked : Asked) → is_option word ≡ false
    → asked_by (word ∷ words) asked ≡ asked_behind (asked_by words) (with_one asked word)
asked_by-one word [] asked h = ap (λ v. cond v (Err BadWord) (with_one asked word)) h ∙ ok-behind (with_one asked word)
asked_by-one word (next ∷ words) asked h = ap (λ v. cond v (asked_behind (asked_by words) (with_option asked word next))
    (asked_behind (asked_by (next ∷ words)) (with_one asked word))) h

-- an option and the word after it
pub asked_by-option : (word next : List ℕ) (words : List (List ℕ)) (asked : Asked) → is_option word ≡ true
    → asked_by (word ∷ next ∷ words) asked ≡ asked_behind (asked_by words) (with_option asked word next)
asked_by-option word next words asked h = ap (λ v. cond v (asked_behind (asked_by words) (with_option asked word next))
    (asked_behind (asked_by (next ∷ words)) (with_one asked word))) h

-- an option with no word after it
pub asked_by-cut : (word : List ℕ) (asked : Asked) → is_option word ≡ true → asked_by (word ∷ []) asked ≡ Err BadWord
asked_by-cut word asked h = ap (λ v. cond v (Err BadWord) (with_one asked word)) h

-- the macro of an entry
to_macro : {K : Type 0} → (K → List ℕ) → K × List ℕ → Macro
to_macro items entry = record { name = items entry.0; value = entry.1 }

inserted : {K : Type 0} (items : K → List ℕ) (key : K) (value : List ℕ) (entry : K
    × List ℕ) (entries more : List (K × List ℕ)) (macros : List Macro) (same other : Bool) → same ≡ other
    → map (λ (e : K × List ℕ). to_macro items e) more ≡ macros
    → map (λ (e : K × List ℕ). to_macro items e) (cond same ((entry.0, value) ∷ entries) (entry ∷ more))
    ≡ cond other (record { name = items entry.0; value = value } ∷ map (λ (e : K × List ℕ). to_macro items e) entries)
    (to_macro items entry ∷ macros)
unfolding to_macro
inserted items key value entry entries more macros true true e h = refl
inserted items key value entry entries more macros false false e h = ap (λ v. to_macro items entry ∷ v) h
inserted items key value entry entries more macros true false e h = cc
inserted items key value entry entries more macros false true e h = cc

mapped : {K : Type 0} (items : K → List ℕ) (eq : K → K → Bool) → ((x y : K) → eq x y ≡ bytes_eq (items x) (items y))
    → (entries : List (K × List ℕ)) (key : K) (value : List ℕ)
    → map (λ (e : K × List ℕ). to_macro items e) (insert_entry eq entries key value)
    ≡ with_macro (map (λ (e : K × List ℕ). to_macro items e) entries) (items key) value
unfolding to_macro
mapped items eq same [] key value = refl
mapped items eq same (entry ∷ entries) key value =
    inserted items key value entry entries (insert_entry eq entries key value)
    (with_macro (map (λ (e : _ × List ℕ). to_macro items e) entries) (items key) value)
    (eq key entry.0) (bytes_eq (items key) (items entry.0)) (same key entry.0) (mapped items eq same entries key value)

-- the macros of entries with one more
pub map-insert_entry : {K : Type 0} (items : K → List ℕ) (eq : K → K → Bool) → ((x y : K) → eq x y ≡ bytes_eq (items x) (items y))
    → (entries : List (K × List ℕ)) (key : K) (value : List ℕ) (macros : List Macro)
    → map (λ (e : K × List ℕ). record { name = items e.0; value = e.1 }) entries ≡ macros
    → map (λ (e : K × List ℕ). record { name = items e.0; value = e.1 }) (insert_entry eq entries key value)
    ≡ with_macro macros (items key) value
unfolding to_macro
map-insert_entry items eq same entries key value macros is =
    mapped items eq same entries key value ∙ ap (λ v. with_macro v (items key) value) is

-- the macros of the entries that an insertion leaves
pub defined : {K : Type 0} (items : K → List ℕ) (eq : K → K → Bool) → ((x y : K) → eq x y ≡ bytes_eq (items x) (items y))
    → (entries new : List (K × List ℕ)) (key : K) (value : List ℕ) (macros : List Macro) (name text : List ℕ)
    → new ≡ insert_entry eq entries key value → map (λ (e : K × List ℕ). record { name = items e.0; value = e.1 }) entries
    ≡ macros → items key ≡ name → value ≡ text
    → map (λ (e : K × List ℕ). record { name = items e.0; value = e.1 }) new ≡ with_macro macros name text
unfolding to_macro
defined items eq same entries new key value macros name text e is n t =
    ap (λ v. map (λ (e : _ × List ℕ). to_macro items e) v) e
    ∙ map-insert_entry items eq same entries key value macros is
    ∙ ap (λ v. with_macro macros v value) n ∙ ap (λ v. with_macro macros name v) t
