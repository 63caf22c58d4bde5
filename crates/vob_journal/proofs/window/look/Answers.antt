use Rattle.std.proofs.Common.{sym, subst, Some}
use Rattle.disk_model.specs.DiskStates.{Both}
use Rattle.vob_journal.specs.Pieces.{ReadsAt}
use Rattle.vob_journal.specs.Windows.{IfShows, reach_of}
use Rattle.vob_journal.proofs.Pieces.{modeled_at_none, piece_forth, piece_none, piece_until}
use Rattle.vob_journal.proofs.window.look.Goals as goal

pub returns-in-Some-clause-shows : goal.returns-in-Some-clause-shows
returns-in-Some-clause-shows g c =
    subst (λ window. IfShows window (g.D.Disk.ghost_state c.args.disk.now).modeled) c.in-Some.ensures.same c.requires.shows

pub returns-in-Some-clause-forth : goal.returns-in-Some-clause-forth
returns-in-Some-clause-forth g c =
    subst (λ window. Both (ReadsAt c.args.place (reach_of window) (reach_of (Some c.in-Some.window)))
    (g.D.Disk.ghost_state c.args.disk.now).modeled (g.D.Disk.ghost_state c.args.disk.now).modeled)
    (sym c.in-Some.ensures.same) (modeled_at_none c.args.place _ _)

pub returns-in-Some-clause-pieces : goal.returns-in-Some-clause-pieces
returns-in-Some-clause-pieces g c = piece_none c.args.place c.args.needed _

pub returns-in-None-clause-forth : goal.returns-in-None-clause-forth
returns-in-None-clause-forth g c =
    piece_forth c.read_piece.result c.args.place _ c.args.needed c.args.size _ _ c.in-None.ensures.further c.requires.all
    c.requires.sought c.read_piece.ensures.from c.read_piece.ensures.sized c.read_piece.ensures.fetched

pub returns-in-None-clause-until : goal.returns-in-None-clause-until
returns-in-None-clause-until g c = piece_until c.read_piece.result c.args.place _ _ _ c.read_piece.ensures.idle
