use Rattle.std.proofs.Common.{◌≡◌, ◌+◌, drop, inr}
use Rattle.disk_model.specs.Devices.{bytes_now}
use Rattle.vob_journal.specs.Pieces.{IsSought, needed}
use Rattle.vob_journal.proofs.Finding.{modeled_payload}
use Rattle.vob_journal.proofs.Pieces.{modeled_until_at}
use Rattle.vob_journal.proofs.Telling.{modeled_map}
use Rattle.vob_journal.proofs.reading.read_payload.Goals as goal

pub returns-in-Ok-from_bytes-clause-found : goal.returns-in-Ok-from_bytes-clause-found
returns-in-Ok-from_bytes-clause-found g c =
    modeled_payload c.in-Ok.window c.args.tail c.args.count _ _ _ _ c.in-Ok.ensures.from c.in-Ok.ensures.to
    c.in-Ok-from_bytes.ensures c.part.ensures
    c.in-Ok.ensures.rests c.in-Ok.ensures.shows

pub returns-in-Ok-from_bytes-clause-forth : goal.returns-in-Ok-from_bytes-clause-forth
returns-in-Ok-from_bytes-clause-forth g c = c.in-Ok.ensures.forth

pub returns-in-Err-from_bytes-clause-until : goal.returns-in-Err-from_bytes-clause-until
returns-in-Err-from_bytes-clause-until g c = modeled_until_at c.args.tail _ _ _ _ c.in-Ok.ensures.forth

pub look-requires-clause-sought : goal.look-requires-clause-sought
look-requires-clause-sought g c =
    modeled_map (λ d. 5 + c.args.count ≡ needed (drop c.args.tail (bytes_now 0 d)))
    (λ d. IsSought (5 + c.args.count) (drop c.args.tail (bytes_now 0 d))) _ (λ d whole. inr whole) c.requires.whole
