-- One version more is added.
use Rattle.std.proofs.Common.{◌≡◌, ℕ, ◌+◌, Bool, true, false, not, Option, length, refl, ap, sym, subst, ◌∙◌}
use Rattle.std.specs.Prelude.{if◌then◌else◌}
use Rattle.cc_names.specs.Versions.{is_number}
use Rattle.vob_history.specs.Reached.{AddsVersions}
use Rattle.vob_history.specs.declared.reached.Walk.{Walk}
use Rattle.vob_history.proofs.AddedVersions.{new_taken}
use Rattle.vob_history.proofs.reached.Walk.take.Goals as goal

was_new : (there added : Bool) → added ≡ not there → added ≡ true → there ≡ false
was_new true added is new = absurd (cc)
was_new false added is new = refl

pub returns-in_ok-push-in-Some : goal.returns-in_ok-push-in-Some
returns-in_ok-push-in-Some c =
    let old = c.args.self.now in
    let new : Walk = record { seen = c.insert.new.self; left = c.push.new.self } in
    let put = c.in_ok-insert-in-Some.ensures in
    subst (λ (version : Option ℕ). AddsVersions (λ n. is_number n version) old new) (sym c.in-Some.is)
    (new_taken c.in-Some.version old new put.updates.0 (was_new _ _ put.added c.if-branch.true) c.in_ok-push-in-Some.ensures.items
    (put.len ∙ ap (λ (added : Bool). length old.seen.keys + (if added then 1 else 0)) c.if-branch.true) put.ordered)
