use Rattle.std.proofs.Common.{Bool, not, cond, ◌≡◌, ℕ, ◌+◌, ◌<◌, suc, true, false, List, [], ◌∷◌, ◌++◌, length, drop, sym, ap, ◌∙◌, subst}
use Rattle.std.proofs.Common.{drop-cons}
use Rattle.std.proofs.Common.{arith, rules}
use Rattle.std.proofs.lemmas.List.{drop_all}
use Rattle.vob_replica.specs.declared.events.Identity.{Identity}
use Rattle.vob_replica.specs.declared.operations.Operation.{Operation}
use Rattle.vob_replica.specs.Replicas.{operations_after_import}
use Rattle.vob_replica.specs.Tables.{holds, with_operation}
use Rattle.vob_replica.proofs.WholeLaws.{IsOnWhole, IsOnWhole-known, IsOnWhole-new}
use Rattle.vob_replica.proofs.logs.news_of_whole.Goals as goal

-- one operation more is known
pub loop-operation-preserved-then-not-new : goal.loop-operation-preserved-then-not-new
loop-operation-preserved-then-not-new c known floor is whole below =
    let operations = c.args.operations.now in
    let place = c.loop-operation.operation-index in
    let operation = c.operation-item.result in
    let table = c.loop-operation.table in
    let news = c.loop-operation.news.items in
    let within : place < length operations = omega arith in
    let next : suc place ≡ place + 1 = omega arith in
    let prefix : drop place operations ≡ operation ∷ drop (place + 1) operations =
    drop-cons operations place operation within ∙ ap (λ (o : Operation). o ∷ drop (suc place) operations)
    (sym c.operation-item.is)
    ∙ ap (λ (n : ℕ). operation ∷ drop n operations) next in
    let new : c.in_ok-new.new ≡ false = first_of (search rules, grind arith) in
    let known_there = c.in_ok-new.ensures.known in
    let taken = c.in_ok-new.ensures.taken in
    let the = c.operation.ensures.same in
    let turns = ap not new in
    let picks = ap (λ (b : Bool). cond b (with_operation table operation.identity) table) new in
    let held : holds table operation.identity ≡ true = first_of (search rules, cc (known_there, turns, the), cc (known_there, turns), grind arith) in
    let same : c.take.new.self ≡ table = first_of (search rules, cc (taken, picks, the), cc (taken, picks), grind arith) in
    subst (λ (t : List Identity). IsOnWhole known t news (drop (place + 1) operations) operations) (sym same)
    (IsOnWhole-known known news (drop (place + 1) operations) operations table operation
    (subst (λ (rest : List Operation). IsOnWhole known table news rest operations) prefix
    (c.loop-operation.invariant known floor is whole below)) held)

-- or new
pub loop-operation-preserved : goal.loop-operation-preserved
loop-operation-preserved c known floor is whole below =
    let operations = c.args.operations.now in
    let place = c.loop-operation.operation-index in
    let operation = c.operation-item.result in
    let table = c.loop-operation.table in
    let news = c.loop-operation.news.items in
    let within : place < length operations = omega arith in
    let next : suc place ≡ place + 1 = omega arith in
    let prefix : drop place operations ≡ operation ∷ drop (place + 1) operations =
    drop-cons operations place operation within ∙ ap (λ (o : Operation). o ∷ drop (suc place) operations)
    (sym c.operation-item.is)
    ∙ ap (λ (n : ℕ). operation ∷ drop n operations) next in
    let new : c.in_ok-new.new ≡ true = first_of (search rules, grind arith) in
    let known_there = c.in_ok-new.ensures.known in
    let taken = c.in_ok-new.ensures.taken in
    let the = c.operation.ensures.same in
    let turns = ap not new in
    let picks = ap (λ (b : Bool). cond b (with_operation table operation.identity) table) new in
    let fresh : holds table operation.identity ≡ false = first_of (search rules, cc (known_there, turns, the), cc (known_there, turns), grind arith) in
    let raises : c.take.new.self ≡ with_operation table operation.identity = first_of (search rules, cc (taken, picks, the), cc (taken, picks), grind arith) in
    let more : c.push.new.self.items ≡ news ++ operation ∷ [] = c.in_ok-push.ensures.items
    ∙ ap (λ (o : Operation). news ++ o ∷ []) (first_of (search rules, cc)) in
    IsOnWhole-new known news c.push.new.self.items (drop (place + 1) operations) operations table c.take.new.self operation
    (subst (λ (rest : List Operation). IsOnWhole known table news rest operations) prefix
    (c.loop-operation.invariant known floor is whole below)) (first_of (search rules, grind arith)) fresh raises more

-- all were looked at
pub returns : goal.returns
returns c known floor is whole below =
    let operations = c.args.operations.now in
    let place = c.loop-operation.operation-index in
    let are = c.loop-operation.invariant known floor is whole below in
    let none : drop place operations ≡ [] = drop_all place operations (omega arith) in (
      sym (subst (λ (rest : List Operation). operations_after_import (known ++ c.loop-operation.news.items) rest
          ≡ operations_after_import known operations) none are.on.same),
      are.on.held,
    )
