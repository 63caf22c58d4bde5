-- the command that is kept as a lane's next is that of the story
use Rattle.std.proofs.Common.{◌≡◌, Some, sym, ap, subst, ◌∙◌}
use Rattle.std.specs.Prelude.{IsSome}
use Rattle.base_core.specs.Keeping.Lanes.{next_in}
use Rattle.base_core.proofs.Keeping.Waiting.{waits_preserved, preserved_is_formed}
use Rattle.base_core.proofs.core_value.Core.command.Goals as goal

pub unwrap-requires : goal.unwrap-requires
unwrap-requires g c =
    subst IsSome (waits_preserved c.self.inside.log c.self.inside.lanes c.self.inside.moment c.args.lane c.args.self.now.story
    (ap (λ v. v.story) c.self.view_is) c.self.invariant
    ∙ sym c.in_ok-command.ensures) c.requires

pub returns-clause-next : goal.returns-clause-next
returns-clause-next g c =
    waits_preserved c.self.inside.log c.self.inside.lanes c.self.inside.moment c.args.lane c.args.self.now.story
    (ap (λ v. v.story) c.self.view_is) c.self.invariant
    ∙ sym c.in_ok-command.ensures ∙ c.unwrap.ensures

pub returns-clause-formed : goal.returns-clause-formed
returns-clause-formed g c =
    let kept : Some c.unwrap.result ≡ next_in c.self.inside.lanes c.args.lane = sym c.unwrap.ensures ∙ c.in_ok-command.ensures in
    preserved_is_formed c.self.inside.log c.self.inside.lanes c.self.inside.moment c.args.lane c.unwrap.result c.self.invariant
    kept
