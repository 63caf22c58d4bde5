-- From the newest row down one row after the other is taken.
use Rattle.std.proofs.Common.{◌≡◌, ◌-◌, suc, ap, subst, arith}
use Rattle.std.specs.BTreeMap.{is_at}
use Rattle.std.specs.BTreeSet.{contains}
use Rattle.std.specs.List.{list_any}
use Rattle.std.specs.Ordering.{nat_cmp}
use Rattle.object_check.specs.Needed.{NeedsFrom}
use Rattle.object_check.proofs.Needing.{all_closed, all_live, needs_none}
use Rattle.object_check.proofs.needs.needed.Goals as goal

pub loop-id-init : goal.loop-id-init
loop-id-init c =
    needs_none c.args.rows.now c.size-id.result (contains nat_cmp c.new-needed.result) (omega (arith, c.size-id.ensures.size))
    (λ id. ap (list_any (is_at (nat_cmp id))) c.new-needed.ensures.empty)

pub take_row-requires : goal.take_row-requires
take_row-requires c =
    let next : c.loop-id.id ≡ suc (c.loop-id.id - 1) = omega (arith, c.loop-id-test.true) in
    subst (λ n. NeedsFrom c.args.rows.now n (contains nat_cmp c.loop-id.needed)) next c.loop-id.invariant

pub returns : goal.returns
returns c =
    let b = c.args.rows.now in
    let needed = contains nat_cmp c.loop-id.needed in
    let down : c.loop-id.id ≡ 0 = omega (arith, c.loop-id-test.false) in
    let all = subst (λ n. NeedsFrom b n needed) down c.loop-id.invariant in
    record { live = all_live b needed all; closed = all_closed b needed all }
