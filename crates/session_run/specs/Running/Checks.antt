-- What a check found, as it is told.
use Rattle.std.specs.Prelude.{ℕ, Bool, true, false, Some, None, List}
use Rattle.object_check.specs.declared.verdicts.Verdict.{Verdict}
use Rattle.object_check.specs.declared.verdicts.Verdict.TheVariants.{Sound, Unsound}
use Rattle.session_run.specs.Story.Modeled.{check_line}

-- whether an object is not what its record gives
abbrev pub is_unsound : Verdict → Bool
is_unsound (Sound count) = false
is_unsound (Unsound id) = true

-- the line of what was found
abbrev pub verdict_line : Verdict → List ℕ
verdict_line (Sound count) = check_line None count
verdict_line (Unsound id) = check_line (Some id) 0
