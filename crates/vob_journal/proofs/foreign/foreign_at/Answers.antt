use Rattle.std.proofs.Common.{◌≡◌, ◌≤◌, ◌+◌, ◌-◌, min, length, take, drop, refl, ◌∙◌, ap, subst}
use Rattle.vob_journal.proofs.Leaving.{modeled_foreign}
use Rattle.vob_journal.proofs.Looking.{modeled_five_piece}
use Rattle.vob_journal.proofs.Pieces.{piece_none}
use Rattle.vob_journal.proofs.foreign.foreign_at.Goals as goal

pub returns-in-Ok-clause-foreign : goal.returns-in-Ok-clause-foreign
returns-in-Ok-clause-foreign g c =
    let w = c.in-Ok.window in
    let left = c.args.size - c.args.tail in
    let to : c.args.tail + min left 5 ≤ w.start + length w.bytes.items =
    subst (λ n. c.args.tail + n ≤ w.start + length w.bytes.items) c.min.ensures c.in-Ok.ensures.to in
    let part : c.part.result.now ≡ take (min left 5) (drop (c.args.tail - w.start) w.bytes.items) = c.part.ensures
    ∙ ap (λ n. take n (drop (c.args.tail - w.start) w.bytes.items)) c.min-in-Ok.ensures in
    modeled_foreign w c.args.size c.args.tail left _ _ _ _ refl c.requires.within c.in-Ok.ensures.from to part c.requires.all
    c.in-Ok.ensures.rests c.in-Ok.ensures.shows c.foreign_in.ensures

pub returns-then-left-eq0-clause-piece : goal.returns-then-left-eq0-clause-piece
returns-then-left-eq0-clause-piece g c = piece_none c.args.tail 0 _

pub returns-in-Ok-clause-piece : goal.returns-in-Ok-clause-piece
returns-in-Ok-clause-piece g c =
    modeled_five_piece c.args.tail c.args.size c.min.result _ _ c.min.ensures c.requires.all c.in-Ok.ensures.pieces

pub returns-in-Err-clause-piece : goal.returns-in-Err-clause-piece
returns-in-Err-clause-piece g c =
    modeled_five_piece c.args.tail c.args.size c.min.result _ _ c.min.ensures c.requires.all c.in-Err.ensures.pieces
