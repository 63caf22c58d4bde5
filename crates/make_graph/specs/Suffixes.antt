-- The suffix rules for a path, found by the suffix of the path.
use Rattle.std.specs.Prelude.{◌≡◌, ◌+◌, ◌<◌, ◌==◌, ℕ, suc, Bool, true, false, List, [], ◌∷◌, length, drop, slice_index_or}
use Rattle.std.specs.Prelude.{unwrap_or, if◌then◌else◌}
use Rattle.std.specs.declared.random_state.RandomState.{RandomState}
use Rattle.std.specs.HashMap.{HashMap, get}
use Rattle.std.specs.List.{list_any, list_all}
use Rattle.std.specs.Str.{bytes_eq}
use Rattle.make_grammar.specs.Rules.{SuffixRule}

-- the bytes from the last `.` on; else these
abbrev pub last_dotted : List ℕ → List ℕ → List ℕ
last_dotted otherwise [] = otherwise
last_dotted otherwise (b ∷ bytes) = last_dotted (if b == 46 then b ∷ bytes else otherwise) bytes

-- the bytes from the last `.` on; none where there is no `.`
abbrev pub suffix_of : List ℕ → List ℕ
suffix_of bytes = last_dotted [] bytes

abbrev pub is_dotted : List ℕ → Bool
is_dotted bytes = list_any (λ b. b == 46) bytes

-- whether each rule makes what has a `.`
abbrev pub are_dotted : List SuffixRule → Bool
are_dotted rules = list_all (λ rule. is_dotted rule.to) rules

-- what the rules for bytes are found by: their suffix, or nothing where some rule makes what has no `.`
abbrev pub suffix_key : Bool → List ℕ → List ℕ
suffix_key true bytes = suffix_of bytes
suffix_key false bytes = []

-- the place of the first rule that is found by a key; after all where there is none
abbrev pub rule_place : Bool → List ℕ → List SuffixRule → ℕ
rule_place dotted key [] = 0
rule_place dotted key (rule ∷ rules) = if bytes_eq (suffix_key dotted rule.to) key then 0 else suc (rule_place dotted key rules)

-- the rule at a place
abbrev pub rule_at : List SuffixRule → ℕ → SuffixRule
rule_at rules place = slice_index_or rules place (record { from = []; to = []; script = [] })

-- the place of the next rule that is found by the key of the one at a place
abbrev pub next_place : Bool → List SuffixRule → ℕ → ℕ
next_place dotted rules place = suc place + rule_place dotted (suffix_key dotted (rule_at rules place).to)
    (drop (suc place) rules)

-- the first rule for each key, and after each rule the next for its key, are known
pub record KnowsSuffixes (rules : List SuffixRule) (dotted : Bool) (first : HashMap (List ℕ) ℕ RandomState) (next : List ℕ) : Type
    0 where
  pub suffixes : dotted ≡ are_dotted rules
  pub firsts : (key : List ℕ) → unwrap_or (get bytes_eq first key) (length rules) ≡ rule_place dotted key rules
  pub size : length next ≡ length rules
  pub nexts : (place : ℕ) → place < length rules → slice_index_or next place 0 ≡ next_place dotted rules place
