-- what a lane has to do is given by what its next command asks for
use Rattle.std.proofs.Common.{sym, ap, ◌∙◌}
use Rattle.cc_names.specs.declared.occasions.Next.TheVariants as nexts
use Rattle.session_text.specs.declared.lanes.Ahead.TheVariants as aheads
use Rattle.base_core.proofs.Keeping.Waiting.{next_so, waits_to_build}
use Rattle.base_core.proofs.core_value.Core.next.Goals as goal

pub tag-requires : goal.tag-requires
tag-requires g c =
    waits_to_build c.self.inside.log c.self.inside.lanes c.self.inside.moment c.args.lane c.args.self.now.story
    (ap (λ v. v.story) c.self.view_is) c.self.invariant
    (sym c.in-Build.ensures)

pub returns-in-Nothing : goal.returns-in-Nothing
returns-in-Nothing g c =
    sym (next_so c.self.inside.log c.self.inside.lanes c.self.inside.moment c.args.lane c.args.self.now.story aheads.Nothing
    (ap (λ v. v.story) c.self.view_is) c.self.invariant c.in-Nothing.ensures)

pub returns-in-Act : goal.returns-in-Act
returns-in-Act g c =
    sym (next_so c.self.inside.log c.self.inside.lanes c.self.inside.moment c.args.lane c.args.self.now.story aheads.Act
    (ap (λ v. v.story) c.self.view_is) c.self.invariant c.in-Act.ensures)

pub returns-in-Build : goal.returns-in-Build
returns-in-Build g c =
    ap nexts.Build c.tag.ensures
    ∙ sym (next_so c.self.inside.log c.self.inside.lanes c.self.inside.moment c.args.lane c.args.self.now.story aheads.Build
    (ap (λ v. v.story) c.self.view_is) c.self.invariant c.in-Build.ensures)
