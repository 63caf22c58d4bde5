use Rattle.std.proofs.Common.{refl, subst}
use Rattle.session_text.specs.declared.kinds.Kind.TheVariants as kinds
use Rattle.session_text.specs.Reading.{IsNextLine}
use Rattle.session_text.specs.Sessions.{phases_of}
use Rattle.session_text.proofs.Right.{past-line}
use Rattle.session_text.proofs.finding.find_phase.Goals as goal

pub lines-preserved : goal.lines-preserved
lines-preserved c =
    let next = subst (λ v. IsNextLine c.lines.rest v c.next.new.self) c.in-Command.is c.in-Some.ensures in
    past-line phases_of _ c.lines.rest c.next.new.self (kinds.Command c.in-Command._word c.in-Command._words) c.lines.invariant
    next refl
