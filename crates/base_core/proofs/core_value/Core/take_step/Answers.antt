-- a unit is tried
use Rattle.std.proofs.Common.{refl, subst}
use Rattle.legal_history.specs.Stories.Steps.{state_of}
use Rattle.base_core.specs.Calls.BuildCalls.{StepsTo}
use Rattle.base_core.proofs.Building.FoundBuilds.{carried_tries, concludes_waiting, started_has, starts_waiting, winks_waiting}
use Rattle.base_core.proofs.Building.Goings.{goes_nowhere}
use Rattle.base_core.proofs.core_value.Core.take_step.Goals as goal

pub returns-in-Start-clause-ok : goal.returns-in-Start-clause-ok
returns-in-Start-clause-ok g c =
    let may = subst (StepsTo (state_of c.args.self.now.story) c.args.lane c.args.unit) c.in-Start.is c.in_ok-step.ensures in
    started_has c.args.self.now.story c.start.new.self.story c.args.lane c.args.unit c.in-Start.script c.in-Start.targets may.0
    may.1 c.start.ensures.noted

pub returns-in-Run-clause-ok : goal.returns-in-Run-clause-ok
returns-in-Run-clause-ok g c = (
  goes_nowhere c.args.self.now.story c.args.lane,
  subst (StepsTo (state_of c.args.self.now.story) c.args.lane c.args.unit) c.in-Run.is c.in_ok-step.ensures,
  λ build is some. refl,
)

pub returns-in_ok-wink-in-Wink-clause-ok : goal.returns-in_ok-wink-in-Wink-clause-ok
returns-in_ok-wink-in-Wink-clause-ok g c =
    carried_tries c.args.self.now.story c.wink.new.self.story c.args.lane c.args.unit c.in_ok-wink-in-Wink.field-0
    c.in_ok-wink-in-Wink.ensures.ok

pub returns-in-EndEarly-clause-concluded : goal.returns-in-EndEarly-clause-concluded
returns-in-EndEarly-clause-concluded g c = λ has.
    let may = subst (StepsTo (state_of c.args.self.now.story) c.args.lane c.args.unit) c.in-EndEarly.is c.in_ok-step.ensures in
    absurd (concludes_waiting (state_of c.args.self.now.story) c.args.lane c.args.unit _ may has)

pub returns-in-Keep-clause-concluded : goal.returns-in-Keep-clause-concluded
returns-in-Keep-clause-concluded g c = λ has.
    let may = subst (StepsTo (state_of c.args.self.now.story) c.args.lane c.args.unit) c.in-Keep.is c.in_ok-step.ensures in
    absurd (concludes_waiting (state_of c.args.self.now.story) c.args.lane c.args.unit _ may has)

pub returns-in-Fail-clause-concluded : goal.returns-in-Fail-clause-concluded
returns-in-Fail-clause-concluded g c = λ has.
    let may = subst (StepsTo (state_of c.args.self.now.story) c.args.lane c.args.unit) c.in-Fail.is c.in_ok-step.ensures in
    absurd (concludes_waiting (state_of c.args.self.now.story) c.args.lane c.args.unit _ may has)

pub returns-in_ok-wink-in-Wink-clause-concluded : goal.returns-in_ok-wink-in-Wink-clause-concluded
returns-in_ok-wink-in-Wink-clause-concluded g c = λ has.
    let may = subst (StepsTo (state_of c.args.self.now.story) c.args.lane c.args.unit) c.in-Wink.is c.in_ok-step.ensures in
    absurd (winks_waiting (state_of c.args.self.now.story) c.args.lane c.args.unit _ may has)

pub returns-in-Start-clause-concluded : goal.returns-in-Start-clause-concluded
returns-in-Start-clause-concluded g c = λ has.
    let may = subst (StepsTo (state_of c.args.self.now.story) c.args.lane c.args.unit) c.in-Start.is c.in_ok-step.ensures in
    absurd (starts_waiting (state_of c.args.self.now.story) c.args.lane c.args.unit _ may.0 has)

pub returns-in-Unreadable-clause-concluded : goal.returns-in-Unreadable-clause-concluded
returns-in-Unreadable-clause-concluded g c = λ has.
    let may = subst (StepsTo (state_of c.args.self.now.story) c.args.lane c.args.unit) c.in-Unreadable.is c.in_ok-step.ensures in
    absurd (starts_waiting (state_of c.args.self.now.story) c.args.lane c.args.unit _ may has)
