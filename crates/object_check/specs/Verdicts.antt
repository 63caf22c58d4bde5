-- What a check of all live objects answers.
use Rattle.std.specs.Prelude.{◌≡◌, ℕ, Option, true, false, is_some, Some, None}
use Rattle.base_model.specs.Rows.{Base}
use Rattle.base_model.specs.Changes.{live_row}
use Rattle.legal_history.specs.Builds.Values.{first_unsound, is_true, live_count}
use Rattle.object_check.specs.declared.verdicts.Verdict.{Verdict}
use Rattle.object_check.specs.declared.verdicts.Verdict.TheVariants.{Sound, Unsound}
use Rattle.object_check.specs.declared.verdicts.Found.{Found}
use Rattle.object_check.specs.declared.verdicts.Found.TheVariants.{Dead, Same, Other}

-- Either each live object is true, and this is how many there are, or this is the first that is not.
abbrev pub IsVerdict : Base → Verdict → Type 0
IsVerdict b (Sound n) = (first_unsound b ≡ None) × (n ≡ live_count b)
IsVerdict b (Unsound id) = first_unsound b ≡ Some id

-- what a number was found to be: no live object, one that is true, or one that is not
abbrev pub IsFoundToBe : Base → ℕ → Found → Type 0
IsFoundToBe b id Dead = is_some (live_row b id) ≡ false
IsFoundToBe b id Same = (is_some (live_row b id) ≡ true) × (is_true b id ≡ true)
IsFoundToBe b id Other = (is_some (live_row b id) ≡ true) × (is_true b id ≡ false)

-- how many live objects a row is, where it is none that is not true
abbrev pub live_objects : Found → Option ℕ
live_objects Dead = Some 0
live_objects Same = Some 1
live_objects Other = None
