-- The suffix rules for a path, found by its suffix.
use Rattle.std.proofs.Common.{◌≡◌, refl, sym, ap, ◌∙◌, ℕ, zero, suc, ◌+◌, ◌-◌, ◌<◌, ◌==◌, Bool, true, false, ◌||◌, Option}
use Rattle.std.proofs.Common.{Some, None, List, [], ◌∷◌, ◌++◌, length, take, drop, unwrap_or, if◌then◌else◌, arith, nat_eq}
use Rattle.std.proofs.Math.Seq.{drop-cons}
use Rattle.std.proofs.lemmas.List.{get_or-drop, drop-drop, length-drop}
use Rattle.std.proofs.lemmas.Bool.Decides.{Decides-eqb}
use Rattle.std.proofs.lemmas.Slice.Eq.{bytes_eq-Decides, ends_is}
use Rattle.std.specs.List.{ends_with}
use Rattle.std.specs.Option.{is_some}
use Rattle.std.specs.Str.{bytes_eq}
use Rattle.cc_names.proofs.Common.{and_first, and_second}
use Rattle.make_grammar.specs.Contents.{Contents}
use Rattle.make_grammar.specs.Rules.{SuffixRule, Inference}
use Rattle.make_grammar.specs.Serving.{first_inference, inference_at, stem_of}
use Rattle.make_graph.specs.Suffixes.{last_dotted, suffix_of, is_dotted, are_dotted, suffix_key, next_place, rule_place, rule_at}

-- ---- the suffix of bytes

-- after a `.`, it does not matter what came before
dotted_alike : (a b : List ℕ) (bytes : List ℕ) → is_dotted bytes ≡ true → last_dotted a bytes ≡ last_dotted b bytes
dotted_alike a b [] h = absurd (cc)
dotted_alike a b (c ∷ bytes) h = by (c == 46) h (dotted_alike a b bytes)
  where
    by : (t : Bool) → (t || is_dotted bytes) ≡ true → (is_dotted bytes ≡ true → last_dotted a bytes ≡ last_dotted b bytes) →
        last_dotted (if t then c ∷ bytes else a) bytes ≡ last_dotted (if t then c ∷ bytes else b) bytes
    by true h more = refl
    by false h more = more h

dotted_behind : (a b prefix bytes : List ℕ) → is_dotted bytes ≡ true → last_dotted a (prefix ++ bytes) ≡ last_dotted b bytes
dotted_behind a b [] bytes h = dotted_alike a b bytes h
dotted_behind a b (c ∷ prefix) bytes h = dotted_behind (if c == 46 then c ∷ (prefix ++ bytes) else a) b prefix bytes h

-- bytes that end with others that have a `.` have the same key
ends_alike : (dotted : Bool) (to path : List ℕ) → (dotted ≡ true → is_dotted to ≡ true) → ends_with nat_eq path to ≡ true
    → suffix_key dotted to ≡ suffix_key dotted path
ends_alike false to path h ends = refl
ends_alike true to path h ends =
    let prefix = take (length path - length to) path in
    let whole : path ≡ prefix ++ to = (ends_is Decides-eqb path to (ends_with nat_eq path to) refl).0 ends in
    sym (ap suffix_of whole ∙ dotted_behind [] [] prefix to (h refl))

-- so a rule with another key does not serve a path
no_stem : (dotted : Bool) (to path : List ℕ) → (dotted ≡ true → is_dotted to ≡ true)
    → bytes_eq (suffix_key dotted to) (suffix_key dotted path) ≡ false → stem_of to path ≡ None
no_stem dotted to path h other = by (ends_with nat_eq path to) refl
  where
    by : (t : Bool) → ends_with nat_eq path to ≡ t → (if t then Some (take (length path - length to) path) else None) ≡ None
    by false e = refl
    by true e =
        let same : bytes_eq (suffix_key dotted to) (suffix_key dotted path) ≡ true =
        (bytes_eq-Decides (suffix_key dotted to) (suffix_key dotted path)).1 (ends_alike dotted to path h e) in
        absurd (cc)

-- ---- rules that are passed over

abbrev pub AreDotted : Bool → List SuffixRule → Type 0
AreDotted dotted rules = dotted ≡ true → are_dotted rules ≡ true

pub drop_dotted : (dotted : Bool) (n : ℕ) (rules : List SuffixRule) → AreDotted dotted rules → AreDotted dotted (drop n rules)
drop_dotted dotted zero rules h = h
drop_dotted dotted (suc n) [] h = h
drop_dotted dotted (suc n) (rule ∷ rules) h = drop_dotted dotted n rules
    (λ e. and_second (is_dotted rule.to) (are_dotted rules) (h e))

-- what a rule found, or else what the rules after it find
abbrev passed : Contents → (List ℕ → Bool) → List ℕ → Option Inference → List SuffixRule → Option Inference
passed make is_file path found rules = elim found [ Some here ↦ Some here | None ↦ first_inference make is_file path rules ]

-- the first rule that may serve a path serves it as all rules do
pub first_found : (make : Contents) (is_file : List ℕ → Bool) (path : List ℕ) (dotted : Bool) (rules : List SuffixRule)
    → AreDotted dotted rules →
    first_inference make is_file path (drop (rule_place dotted (suffix_key dotted path) rules) rules)
    ≡ first_inference make is_file path rules
first_found make is_file path dotted [] h = refl
first_found make is_file path dotted (rule ∷ rules) h =
    by (bytes_eq (suffix_key dotted rule.to) (suffix_key dotted path)) refl
    (first_found make is_file path dotted rules (λ d. and_second (is_dotted rule.to) (are_dotted rules) (h d)))
  where
    by : (t : Bool) → bytes_eq (suffix_key dotted rule.to) (suffix_key dotted path) ≡ t →
        first_inference make is_file path (drop (rule_place dotted (suffix_key dotted path) rules) rules)
        ≡ first_inference make is_file path rules →
        first_inference make is_file path (drop (if t then 0 else suc (rule_place dotted (suffix_key dotted path) rules))
        (rule ∷ rules)) ≡ first_inference make is_file path (rule ∷ rules)
    by true e more = refl
    by false e more =
        more
        ∙ sym (ap (λ stem. passed make is_file path (inference_at make is_file rule stem) rules)
        (no_stem dotted rule.to path (λ d. and_first (is_dotted rule.to) (are_dotted rules) (h d)) e))

-- a rule that does not serve a path is passed over, and those with other keys after it
pub next_found : (make : Contents) (is_file : List ℕ → Bool) (path : List ℕ) (dotted : Bool) (rules : List SuffixRule) (place : ℕ)
    → AreDotted dotted rules → place < length rules →
    inference_at make is_file (rule_at rules place) (stem_of (rule_at rules place).to path) ≡ None →
    suffix_key dotted (rule_at rules place).to ≡ suffix_key dotted path →
    first_inference make is_file path (drop (next_place dotted rules place) rules)
    ≡ first_inference make is_file path (drop place rules)
next_found make is_file path dotted rules place h within none keyed =
    let behind = drop (suc place) rules in
    let key = suffix_key dotted path in
    let at : drop place rules ≡ rule_at rules place ∷ behind = drop-cons rules place (record { from = []; to = []; script = [] })
    within in
    ap (λ k. first_inference make is_file path (drop (suc place + rule_place dotted k behind) rules)) keyed
    ∙ (ap (first_inference make is_file path) (sym (drop-drop (rule_place dotted key behind) (suc place) rules))
    ∙ (first_found make is_file path dotted behind (drop_dotted dotted (suc place) rules h)
    ∙ (sym (ap (λ found. passed make is_file path found behind) none)
    ∙ sym (ap (first_inference make is_file path) at))))

-- the rule at the place of a key has this key
pub place_keyed : (dotted : Bool) (key : List ℕ) (rules : List SuffixRule) → rule_place dotted key rules < length rules
    → suffix_key dotted (rule_at rules (rule_place dotted key rules)).to ≡ key
place_keyed dotted key [] l = absurd (omega arith)
place_keyed dotted key (rule ∷ rules) l = by (bytes_eq (suffix_key dotted rule.to) key) refl (place_keyed dotted key rules) l
  where
    by : (t : Bool) → bytes_eq (suffix_key dotted rule.to) key ≡ t →
        (rule_place dotted key rules < length rules → suffix_key dotted (rule_at rules (rule_place dotted key rules)).to ≡ key)
        → (if t then 0 else suc (rule_place dotted key rules)) < suc (length rules) →
        suffix_key dotted (rule_at (rule ∷ rules) (if t then 0 else suc (rule_place dotted key rules))).to ≡ key
    by true e more l = (bytes_eq-Decides (suffix_key dotted rule.to) key).0 e
    by false e more l = let m : rule_place dotted key rules < length rules = omega arith in more m

-- so has the next one
pub next_keyed : (dotted : Bool) (key : List ℕ) (rules : List SuffixRule) (place : ℕ)
    → suffix_key dotted (rule_at rules place).to ≡ key → next_place dotted rules place < length rules →
    suffix_key dotted (rule_at rules (next_place dotted rules place)).to ≡ key
next_keyed dotted key rules place keyed l =
    let behind = drop (suc place) rules in
    let k = suffix_key dotted (rule_at rules place).to in
    let less : rule_place dotted k behind < length behind = omega (arith, l, length-drop (suc place) rules) in
    ap (λ (rule : SuffixRule). suffix_key dotted rule.to) (sym (get_or-drop (suc place) rules (rule_place dotted k behind)
    (record { from = []; to = []; script = [] })))
    ∙ (place_keyed dotted k behind less ∙ keyed)

-- ---- how the table is made

-- a rule before those that are known
pub place_put : (dotted : Bool) (rules : List SuffixRule) (place n : ℕ) (key : List ℕ) (was : Option ℕ) → place < length rules →
    unwrap_or was n ≡ suc place + rule_place dotted key (drop (suc place) rules) →
    unwrap_or (if bytes_eq (suffix_key dotted (rule_at rules place).to) key then Some place else was) n
    ≡ place + rule_place dotted key (drop place rules)
place_put dotted rules place n key was within h =
    by (bytes_eq (suffix_key dotted (rule_at rules place).to) key)
    ∙ ap (λ (l : List SuffixRule). place + rule_place dotted key l) (sym
    (drop-cons rules place (record { from = []; to = []; script = [] }) within))
  where
    by : (t : Bool) → unwrap_or (if t then Some place else was) n ≡ place +
        (if t then 0 else suc (rule_place dotted key (drop (suc place) rules)))
    by true = omega arith
    by false = let same : suc place + rule_place dotted key (drop (suc place) rules)
        ≡ place + suc (rule_place dotted key (drop (suc place) rules)) = omega arith in h ∙ same

-- ---- what no rule found

pub not_some : (found : Option Inference) → is_some found ≡ false → found ≡ None
not_some None h = refl
not_some (Some here) h = absurd (cc)
