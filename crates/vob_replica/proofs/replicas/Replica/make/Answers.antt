use Rattle.std.proofs.Common.{◌≡◌, ◌∙◌, Ok, None, List, [], ◌∷◌, ◌++◌, ap, subst, rules}
use Rattle.vob_replica.specs.declared.operations.Operation.{Operation}
use Rattle.vob_replica.specs.Estimates.{estimates_of}
use Rattle.vob_replica.specs.Replicas.{Site, change_fault, made, operation_of}
use Rattle.vob_replica.specs.Tables.{first_gap, table_of}
use Rattle.vob_replica.specs.Trees.{trees_of}
use Rattle.vob_replica.proofs.ImportLaws.{ascends_of}
use Rattle.vob_replica.proofs.NeedLaws.{shared-push}
use Rattle.vob_replica.proofs.PeerLaws.{exported-pushed}
use Rattle.vob_replica.proofs.ReplicaLaws.{first_gap-own, made-ok}
use Rattle.vob_replica.proofs.replicas.Replica.make.Goals as goal

-- what the site knows lacks none of its own table
pub push-requires : goal.push-requires
push-requires c =
    ap (λ (o : Operation). first_gap o.needs (table_of c.self.inside.log)) c.in_ok-operation.ensures
    ∙ first_gap-own (table_of c.self.inside.log) (ascends_of c.self.inside.log)

-- the first ones stay exported to the site's peers
pub invariant_of-self-2 : goal.invariant_of-self-2
invariant_of-self-2 c = (
  search rules,
  exported-pushed c.self.inside.log c.push.new.self c.in_ok-operation.operation c.self.inside.peers.items c.in_ok-push.ensures.ok
      c.self.invariant.1,
  shared-push c.self.inside.name c.self.inside.log c.push.new.self c.in_ok-operation.operation c.in_ok-next.next.value
      (first_of (search rules, cc)) (ap (λ (o : Operation). o.identity) c.in_ok-operation.ensures) c.in_ok-push.ensures.ok,
)

-- the change is made
pub returns : goal.returns
returns c =
    let site : Site = record {
      name = c.self.inside.name;
      known = c.self.inside.log;
      estimates = estimates_of c.self.inside.peers.items;
    }
    in
    let after : Site = record {
      name = c.self.inside.name;
      known = c.push.new.self;
      estimates = estimates_of c.self.inside.peers.items;
    } in
    let trees = c.catch_up.new.branches in
    let change = c.args.change.now in
    let are : trees ≡ trees_of c.self.inside.log = search rules in
    let none : change_fault c.self.inside.name trees change ≡ None = search rules in
    let by : c.in_ok-operation.operation ≡ operation_of c.self.inside.name c.self.inside.log trees change =
    c.in_ok-operation.ensures in
    let own : c.in_ok-identity.identity ≡ (operation_of c.self.inside.name c.self.inside.log trees change).identity =
    search rules in
    let more : c.push.new.self ≡ c.self.inside.log ++ operation_of c.self.inside.name c.self.inside.log trees change ∷ [] =
    c.in_ok-push.ensures.ok ∙ ap (λ (o : Operation). c.self.inside.log ++ o ∷ []) by in
    subst (λ (s : Site). made s change ≡ (Ok c.in_ok-identity.identity, after)) c.self.view_is
    (made-ok site after change trees c.in_ok-identity.identity are none own
    (ap (λ (l : List Operation). record site { known = l }) more))
