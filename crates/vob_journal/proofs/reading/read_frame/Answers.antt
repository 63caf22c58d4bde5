use Rattle.std.proofs.Common.{◌≡◌, ◌≤◌, ◌+◌, ◌-◌, min, length, take, drop, refl, sym, ◌∙◌, ap, subst}
use Rattle.std.proofs.Common.{inl, true, false, arith, length-drop}
use Rattle.disk_model.specs.Devices.{bytes_now}
use Rattle.disk_model.specs.DiskStates.{IfModeled}
use Rattle.vob_journal.specs.declared.reading.Head.TheVariants.{Whole, Shut, Cut}
use Rattle.vob_journal.specs.declared.reading.Found.TheVariants.{End}
use Rattle.vob_journal.specs.Found.{HeadTells, FindsAtHead}
use Rattle.vob_journal.specs.Pieces.{IsSought}
use Rattle.vob_journal.proofs.Finding.{modeled_head, modeled_frame, modeled_needed}
use Rattle.vob_journal.proofs.Pieces.{frame_forth, frame_until, modeled_at_none, modeled_end}
use Rattle.vob_journal.proofs.Staying.{modeled_rest_on}
use Rattle.vob_journal.proofs.Telling.{modeled_map}
use Rattle.vob_journal.proofs.reading.read_frame.Goals as goal

pub returns-in-Whole-clause-found : goal.returns-in-Whole-clause-found
returns-in-Whole-clause-found g c =
    let w = c.in-Ok.window in
    let left = c.args.size - c.args.tail in
    let to : c.args.tail + min left 5 ≤ w.start + length w.bytes.items =
    subst (λ n. c.args.tail + n ≤ w.start + length w.bytes.items) c.min.ensures c.in-Ok.ensures.to in
    let part : c.part.result.now ≡ take (min left 5) (drop (c.args.tail - w.start) w.bytes.items) = c.part.ensures
    ∙ ap (λ n. take n (drop (c.args.tail - w.start) w.bytes.items)) c.min-2.ensures in
    modeled_frame c.read_payload.result c.from.result c.args.tail _ _ c.in-Ok.ensures.rests
    (subst (λ n. IfModeled (g.D.Disk.ghost_state c.args.disk.now).modeled
    (λ d. HeadTells (Whole n) (drop c.args.tail (bytes_now 0 d)))) (sym c.from.ensures)
    (modeled_head (Whole c.in-Whole.count) w c.args.size c.args.tail left _ _ _ refl c.requires.within c.in-Ok.ensures.from to
    part c.requires.all c.in-Ok.ensures.rests c.in-Ok.ensures.shows c.in-Whole.ensures.tells))
    c.read_payload.ensures.found

pub returns-in-Shut-clause-found : goal.returns-in-Shut-clause-found
returns-in-Shut-clause-found g c =
    let w = c.in-Ok.window in
    let left = c.args.size - c.args.tail in
    let to : c.args.tail + min left 5 ≤ w.start + length w.bytes.items =
    subst (λ n. c.args.tail + n ≤ w.start + length w.bytes.items) c.min.ensures c.in-Ok.ensures.to in
    let part : c.part.result.now ≡ take (min left 5) (drop (c.args.tail - w.start) w.bytes.items) = c.part.ensures
    ∙ ap (λ n. take n (drop (c.args.tail - w.start) w.bytes.items)) c.min-2.ensures in
    modeled_map (λ d. HeadTells Shut (drop c.args.tail (bytes_now 0 d)))
    (λ d. FindsAtHead (End true) (drop c.args.tail (bytes_now 0 d))) _ (λ d t. (t.0, sym t.1))
    (modeled_head Shut w c.args.size c.args.tail left _ _ _ refl c.requires.within c.in-Ok.ensures.from to part c.requires.all
    c.in-Ok.ensures.rests c.in-Ok.ensures.shows c.in-Shut.ensures.tells)

pub returns-in-Cut-clause-found : goal.returns-in-Cut-clause-found
returns-in-Cut-clause-found g c =
    let w = c.in-Ok.window in
    let left = c.args.size - c.args.tail in
    let to : c.args.tail + min left 5 ≤ w.start + length w.bytes.items =
    subst (λ n. c.args.tail + n ≤ w.start + length w.bytes.items) c.min.ensures c.in-Ok.ensures.to in
    let part : c.part.result.now ≡ take (min left 5) (drop (c.args.tail - w.start) w.bytes.items) = c.part.ensures
    ∙ ap (λ n. take n (drop (c.args.tail - w.start) w.bytes.items)) c.min-2.ensures in
    modeled_map (λ d. HeadTells Cut (drop c.args.tail (bytes_now 0 d)))
    (λ d. FindsAtHead (End false) (drop c.args.tail (bytes_now 0 d))) _ (λ d t. (t.0, sym t.1))
    (modeled_head Cut w c.args.size c.args.tail left _ _ _ refl c.requires.within c.in-Ok.ensures.from to part c.requires.all
    c.in-Ok.ensures.rests c.in-Ok.ensures.shows c.in-Cut.ensures.tells)

pub returns-in-Whole-clause-rests : goal.returns-in-Whole-clause-rests
returns-in-Whole-clause-rests g c = modeled_rest_on _ _ _ c.in-Ok.ensures.rests c.read_payload.ensures.rests

pub returns-in-Whole-clause-forth : goal.returns-in-Whole-clause-forth
returns-in-Whole-clause-forth g c =
    frame_forth c.read_payload.result c.args.tail _ _ _ _ _ c.in-Ok.ensures.forth c.read_payload.ensures.forth

pub returns-in-Whole-clause-until : goal.returns-in-Whole-clause-until
returns-in-Whole-clause-until g c =
    frame_until c.read_payload.result c.args.tail _ _ _ _ _ c.in-Ok.ensures.forth c.read_payload.ensures.until

pub returns-in-Shut-clause-forth : goal.returns-in-Shut-clause-forth
returns-in-Shut-clause-forth g c = modeled_end c.args.tail _ _ true _ _ c.in-Ok.ensures.forth

pub returns-in-Cut-clause-forth : goal.returns-in-Cut-clause-forth
returns-in-Cut-clause-forth g c = modeled_end c.args.tail _ _ false _ _ c.in-Ok.ensures.forth

pub returns-then-left-eq0-clause-forth : goal.returns-then-left-eq0-clause-forth
returns-then-left-eq0-clause-forth g c = modeled_end c.args.tail _ _ false _ _ (modeled_at_none c.args.tail _ _)

pub look-requires-clause-sought : goal.look-requires-clause-sought
look-requires-clause-sought g c =
    modeled_map (λ d. c.args.size ≡ length (bytes_now 0 d)) (λ d. IsSought c.min.result (drop c.args.tail (bytes_now 0 d))) _
    (λ d all. inl (omega (arith, all, c.min.ensures, length-drop c.args.tail (bytes_now 0 d)))) c.requires.all

pub read_payload-requires-clause-whole : goal.read_payload-requires-clause-whole
read_payload-requires-clause-whole g c =
    let w = c.in-Ok.window in
    let left = c.args.size - c.args.tail in
    let to : c.args.tail + min left 5 ≤ w.start + length w.bytes.items =
    subst (λ n. c.args.tail + n ≤ w.start + length w.bytes.items) c.min.ensures c.in-Ok.ensures.to in
    let part : c.part.result.now ≡ take (min left 5) (drop (c.args.tail - w.start) w.bytes.items) = c.part.ensures
    ∙ ap (λ n. take n (drop (c.args.tail - w.start) w.bytes.items)) c.min-2.ensures in
    modeled_needed c.from.result c.args.tail _ _ c.in-Ok.ensures.rests
    (subst (λ n. IfModeled (g.D.Disk.ghost_state c.args.disk.now).modeled
    (λ d. HeadTells (Whole n) (drop c.args.tail (bytes_now 0 d)))) (sym c.from.ensures)
    (modeled_head (Whole c.in-Whole.count) w c.args.size c.args.tail left _ _ _ refl c.requires.within c.in-Ok.ensures.from to
    part c.requires.all c.in-Ok.ensures.rests c.in-Ok.ensures.shows c.in-Whole.ensures.tells))
