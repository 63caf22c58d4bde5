-- the next payload, or the end of the list and its tail
use Rattle.std.proofs.Common.{◌∙◌}
use Rattle.story_log.proofs.Bases.ReadRows.{ends_at, found_tail}
use Rattle.story_log.proofs.opening.next_payload.Goals as goal

pub returns-in-Ok-clause-ok : goal.returns-in-Ok-clause-ok
returns-in-Ok-clause-ok g c =
    let old = c.args.journal.now in
    let new = c.next.new.self in
    record {
      leftover = c.in-Ok.ensures.leftover ∙ c.requires;
      ends = ends_at c.in-Ok.payload old.ended new.ended c.in-Ok.ensures.ends;
      faultless = c.in-Ok.ensures.counts.2;
      gives = c.in-Ok.ensures.gives;
      tail = λ unended. found_tail c.in-Ok.payload old.ended new.settled new.tail _ _ unended c.in-Ok.ensures.tail
          c.in-Ok.ensures.files;
    }
