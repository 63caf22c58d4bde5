use Rattle.disk_model.specs.Devices.{Fetches, Idles}
use Rattle.vob_journal.specs.Reads.{Rests}
use Rattle.vob_journal.proofs.Pieces.{piece_missed}
use Rattle.vob_journal.proofs.Staying.{fetched_rests, idle_rests}
use Rattle.vob_journal.proofs.Telling.{both_map}
use Rattle.vob_journal.proofs.window.read_piece.Goals as goal

pub returns-in-Err-clause-rests : goal.returns-in-Err-clause-rests
returns-in-Err-clause-rests g c = both_map Idles Rests _ _ idle_rests c.in-Err.ensures.modeled

pub returns-clause-rests : goal.returns-clause-rests
returns-clause-rests g c = both_map (Fetches 0 c.args.place _) Rests _ _ (fetched_rests c.args.place _)
    c.in_default-read_at.ensures.modeled

pub returns-in-Err-clause-pieces : goal.returns-in-Err-clause-pieces
returns-in-Err-clause-pieces g c = piece_missed c.args.place c.args.needed _ _ c.in-Err.ensures.modeled
