use Rattle.std.proofs.Common.{rules, sym, ◌∙◌}
use Rattle.clearmake.proofs.Rereads.{broken_past, past_read, reads_on}
use Rattle.clearmake.proofs.Steps.{same_begins}
use Rattle.clearmake.proofs.locked_files.LockedFilesFiles.read.Goals as goal

pub give-requires-clause-story : goal.give-requires-clause-story
give-requires-clause-story g c = same_begins _ _ (sym c.take-held.ensures.taken)

pub invariant_of-self : goal.invariant_of-self
invariant_of-self g c =
    reads_on _ _ _ c.in-Some.pass c.give.result _ _ c.self.invariant (sym c.take.ensures.value
    ∙ c.in-Some.is) (search rules) c.give.ensures.seen c.take-held.ensures.seen c.read_at-got.ensures.legal
    (λ some. broken_past _ _ _ _ c.in-Broken.is c.read_at-got.ensures.read)

pub invariant_of-self-in_default-got : goal.invariant_of-self-in_default-got
invariant_of-self-in_default-got g c =
    reads_on _ _ _ c.in-Some.pass c.give.result _ _ c.self.invariant (sym c.take.ensures.value
    ∙ c.in-Some.is) (search rules) c.give.ensures.seen c.take-held.ensures.seen c.read_at-got.ensures.legal
    (past_read _ _ _ c.in-Some.pass _ c.self.invariant (sym c.take.ensures.value
    ∙ c.in-Some.is) c.take-held.ensures.seen c.read_at-got.ensures.legal)
