-- What a check finds is what its form tells.
use Rattle.std.proofs.Common.{◌≡◌, ap, ap₂, sym}
use Rattle.std.specs.Prelude.{is_some}
use Rattle.base_model.specs.Rows.{Base}
use Rattle.legal_history.specs.Builds.Values.{first_unsound, live_count}
use Rattle.object_check.specs.Verdicts.{IsVerdict}
use Rattle.object_check.specs.declared.verdicts.Verdict.{Verdict}
use Rattle.object_check.specs.declared.verdicts.Verdict.TheVariants.{Sound, Unsound}
use Rattle.session_run.specs.Running.Checks.{is_unsound, verdict_line}
use Rattle.session_run.specs.Story.Modeled.{check_line, line_of_check}

pub line_so : (b : Base) (verdict : Verdict) → IsVerdict b verdict → verdict_line verdict ≡ line_of_check b
line_so b (Sound count) h = ap₂ check_line (sym h.0) h.1
line_so b (Unsound id) h = sym (ap (λ first. check_line first (live_count b)) h)

pub failure_so : (b : Base) (verdict : Verdict) → IsVerdict b verdict → is_some (first_unsound b) ≡ is_unsound verdict
failure_so b (Sound count) h = ap is_some h.0
failure_so b (Unsound id) h = ap is_some h
