-- What is found of one row more.
use Rattle.std.proofs.Common.{◌≡◌, ◌+◌, suc, ap, subst, sym, ◌∙◌, arith, nat_eq}
use Rattle.std.specs.BTreeSet.{contains}
use Rattle.std.specs.HashMap.{get}
use Rattle.std.specs.Map.{lookup}
use Rattle.std.specs.Ordering.{nat_cmp}
use Rattle.object_check.proofs.Keeping.{keeps_none}
use Rattle.object_check.specs.Kept.{KeepsBelow}
use Rattle.object_check.proofs.NextRows.{SoundBefore, found_more, found_none, sound_at_first, sound_at_last}
use Rattle.object_check.proofs.verifying.verify.Goals as goal

pub loop-id-init : goal.loop-id-init
loop-id-init c =
    let b = c.args.rows.now in
    record {
      low = omega arith;
      sound = sound_at_first b;
      keeps = keeps_none (contains nat_cmp c.in_ok-needed.needed) b (get nat_eq c.new-values.result)
          (λ id. ap (lookup (nat_eq id)) c.new-values.ensures.empty);
    }

pub loop-id-preserved : goal.loop-id-preserved
loop-id-preserved c =
    let b = c.args.rows.now in
    let id = c.loop-id.id in
    let few = c.in-Some.ensures.few in
    let next : suc id ≡ id + 1 = omega arith in
    record {
      low = omega (arith, c.loop-id.invariant.low, few);
      sound = subst (λ n. SoundBefore b n (c.loop-id.count + c.in-Some.more)) next
          (found_more b id c.loop-id.count c.in-Some.more c.in_ok-found.found (omega (arith, c.loop-id.invariant.low))
          (omega (arith, c.loop-id-test.true, c.size-id-end.ensures.size)) c.loop-id.invariant.sound
          c.in_ok-found.ensures.found c.in-Some.ensures.count);
      keeps = subst (λ n. KeepsBelow n (contains nat_cmp c.in_ok-needed.needed) b (get nat_eq c.find.new.values)) next
          c.in_ok-found.ensures.keeps;
    }

pub returns-in_default : goal.returns-in_default
returns-in_default c =
    let b = c.args.rows.now in
    let id = c.loop-id.id in
    found_none b id c.loop-id.count c.in_ok-found.found (omega (arith, c.loop-id.invariant.low))
    (omega (arith, c.loop-id-test.true, c.size-id-end.ensures.size)) c.loop-id.invariant.sound c.in_ok-found.ensures.found
    (sym c.in_default.is ∙ c.live_objects.ensures.count)

pub returns : goal.returns
returns c = sound_at_last c.args.rows.now c.loop-id.id c.loop-id.count
    (omega (arith, c.loop-id-test.false, c.size-id-end.ensures.size)) c.loop-id.invariant.sound
