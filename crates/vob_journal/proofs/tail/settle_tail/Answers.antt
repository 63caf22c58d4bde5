use Rattle.std.proofs.Common.{true, false, [], ◌∷◌, sym, subst}
use Rattle.disk_model.specs.Devices.{Device}
use Rattle.disk_model.specs.DiskStates.{IfModeled, Both}
use Rattle.vob_journal.specs.Calls.{FailsToPut, Settles, LeavesLeftover}
use Rattle.vob_journal.specs.Phases.{PutsDown}
use Rattle.vob_journal.specs.Tails.{IsTail}
use Rattle.vob_journal.proofs.Phasing.{settles_none, settles_put, settling_failed}
use Rattle.vob_journal.proofs.Telling.{both_same, answer_from}
use Rattle.vob_journal.proofs.tail.settle_tail.Goals as goal

pub returns-then-settled-clause-modeled : goal.returns-then-settled-clause-modeled
returns-then-settled-clause-modeled g c =
    let modeled = (g.D.Disk.ghost_state c.args.disk.now).modeled in
    let tail = c.args.tail in
    subst (λ b. Both (Settles b tail) modeled modeled) (sym c.if-settled.true)
    (both_same (IsTail true tail) (Settles true tail) modeled (settles_none tail)
    (subst (λ b. IfModeled modeled (IsTail b tail)) c.if-settled.true c.requires))

pub returns-clause-modeled : goal.returns-clause-modeled
returns-clause-modeled g c =
    let modeled = (g.D.Disk.ghost_state c.args.disk.now).modeled in
    let tail = c.args.tail in
    let leftover = subst (λ b. IfModeled modeled (IsTail b tail)) c.if-settled.false c.requires in
    let settles = λ (d e : Device). subst (λ b. IsTail false tail d → PutsDown tail (0 ∷ []) d e
    → Settles b tail d e) (sym c.if-settled.false) (settles_put tail d e) in
    let stays = λ (d e : Device). subst (λ b. IsTail false tail d → FailsToPut tail (0 ∷ []) d e
    → LeavesLeftover b tail d e) (sym c.if-settled.false) (settling_failed tail d e) in
    answer_from c.put_down.result (IsTail false tail) (PutsDown tail (0 ∷ [])) (Settles c.args.settled tail)
    (FailsToPut tail (0 ∷ [])) (LeavesLeftover c.args.settled tail) _ _
    settles stays leftover c.put_down.ensures.modeled
