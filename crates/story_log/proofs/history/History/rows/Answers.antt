-- the rows are those that the story names
use Rattle.std.proofs.Common.{ap, sym, ◌∙◌}
use Rattle.story_log.specs.Story.Telling.{rows_named}
use Rattle.story_log.proofs.history.History.rows.Goals as goal

pub returns : goal.returns
returns c = c.as_slice.ensures.value ∙ sym c.self.invariant ∙ ap rows_named c.self.view_is
