-- Targets that are two suffixes put together.
use Rattle.std.specs.Prelude.{ℕ, suc, ◌==◌, Bool, ◌&&◌, not, List, [], ◌∷◌, if◌then◌else◌}
use Rattle.std.specs.List.{list_any}
use Rattle.make_grammar.specs.Contents.{is_pair_of}
use Rattle.make_grammar.specs.Macros.{is_among}

-- whether a target is of a group
abbrev pub is_in_group : List (List (List ℕ)) → List ℕ → Bool
is_in_group groups target = list_any (λ group. is_among group target) groups

-- whether a target is two suffixes put together, and of no group
abbrev pub is_suffix_target : List (List ℕ) → List (List (List ℕ)) → List ℕ → Bool
is_suffix_target suffixes groups target = is_pair_of suffixes target && not (is_in_group groups target)

-- how many bytes stand before the first `.`
abbrev pub before_period : List ℕ → ℕ
before_period [] = 0
before_period (b ∷ bytes) = if b == 46 then 0 else suc (before_period bytes)

-- how many bytes stand before the first `.` after the first byte
abbrev pub first_length : List ℕ → ℕ
first_length [] = 0
first_length (b ∷ bytes) = suc (before_period bytes)
