use Rattle.base_rows.proofs.labels.relabel.Goals as goal

pub attach-requires-clause-above : goal.attach-requires-clause-above
attach-requires-clause-above c = c.requires.above c.in-Label.label c.in-Label.element

pub detach-requires-clause-above : goal.detach-requires-clause-above
detach-requires-clause-above c = c.requires.above c.in-Unlabel.label c.in-Unlabel.element
