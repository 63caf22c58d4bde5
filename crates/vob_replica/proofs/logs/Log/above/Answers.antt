use Rattle.std.proofs.Common.{◌≡◌, ◌-◌, List, [], length, take, drop, ap, ◌∙◌, subst}
use Rattle.std.specs.Prelude.{IfOk, Vec}
use Rattle.std.specs.declared.alloc.Global.{Global}
use Rattle.vob_replica.specs.declared.operations.Operation.{Operation}
use Rattle.vob_replica.specs.Logs.{IsWhole}
use Rattle.vob_replica.specs.Replicas.{above}
use Rattle.vob_replica.proofs.LogLaws.{all_behind}
use Rattle.vob_replica.proofs.WholeLaws.{ok-above, ok-whole}
use Rattle.vob_replica.proofs.logs.Log.above.Goals as goal

-- those after the place are all that are above
pub returns-clause-above : goal.returns-clause-above
returns-clause-above c =
    let known = c.args.self.now in
    let all : c.deref.result.now ≡ known = c.deref.ensures.value ∙ c.self.view_is in
    let behind : IfOk c.not_held.result (λ news. news.items ≡ above c.args.table.now (drop c.args.from known)) =
    subst (λ (l : List Operation). IfOk c.not_held.result (λ (news : Vec Operation Global). news.items
    ≡ above c.args.table.now l))
    (ap (λ (l : List Operation). take (length l - c.args.from) (drop c.args.from l)) all ∙ all_behind c.args.from known)
    c.not_held.ensures in
    ok-above c.not_held.result c.args.table.now c.args.from known c.requires.first behind

-- so they need nothing that is missing
pub returns-clause-whole : goal.returns-clause-whole
returns-clause-whole c =
    ok-whole c.not_held.result c.args.table.now c.args.self.now c.is_in_order.ensures
    (subst (IsWhole []) c.self.view_is c.self.invariant.whole) (returns-clause-above c)
