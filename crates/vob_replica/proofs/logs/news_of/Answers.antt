use Rattle.std.proofs.Common.{◌≡◌, ℕ, ◌+◌, ◌<◌, suc, Bool, not, true, false, cond, List, [], ◌∷◌, ◌++◌, length, drop, sym, ap}
use Rattle.std.proofs.Common.{◌∙◌, subst, drop-cons, arith, rules}
use Rattle.vob_replica.specs.declared.operations.Operation.{Operation}
use Rattle.vob_replica.specs.Tables.{holds, with_operation}
use Rattle.vob_replica.proofs.LogLaws.{IsOn, IsOn-next}
use Rattle.vob_replica.proofs.logs.news_of.Goals as goal

-- one operation more is new
pub loop-operation-preserved : goal.loop-operation-preserved
loop-operation-preserved c known is =
    let operations = c.args.operations.now in
    let place = c.loop-operation.operation-index in
    let operation = c.operation-item.result in
    let table = c.loop-operation.table in
    let news = c.loop-operation.news.items in
    let within : place < length operations = omega arith in
    let next : suc place ≡ place + 1 = omega arith in
    let prefix : drop place operations ≡ operation ∷ drop (place + 1) operations =
    drop-cons operations place operation within ∙ ap (λ (o : Operation). o ∷ drop (suc place) operations)
    (sym c.operation-item.is)
    ∙ ap (λ (n : ℕ). operation ∷ drop n operations) next in
    let new : c.in_ok-take_one.field-0 ≡ true = first_of (search rules, grind arith) in
    let fresh : holds table operation.identity ≡ false = c.in_ok-take_one.ensures.known ∙ ap not new in
    let raises : c.take_one.new.table ≡ with_operation table operation.identity =
    c.in_ok-take_one.ensures.taken ∙ ap (λ (b : Bool). cond b (with_operation table operation.identity) table) new in
    let more : c.push.new.self.items ≡ news ++ operation ∷ [] = c.in_ok-push.ensures.items
    ∙ ap (λ (o : Operation). news ++ o ∷ []) c.in_ok-copy.ensures in
    IsOn-next known news c.push.new.self.items (drop (place + 1) operations) operations table c.take_one.new.table operation
    (subst (λ (rest : List Operation). IsOn known table news rest operations) prefix (c.loop-operation.invariant known is))
    c.take_one.ensures.next fresh (c.in_ok-take_one.ensures.whole new) raises more
