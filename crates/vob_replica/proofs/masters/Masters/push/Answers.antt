use Rattle.std.proofs.Common.{List, [], ◌∷◌, ◌++◌, sym, ap, ◌∙◌, subst}
use Rattle.vob_replica.specs.Logs.{HaveNextNumbers}
use Rattle.vob_replica.specs.Masters.{is_chain}
use Rattle.vob_replica.specs.declared.operations.Operation.{Operation}
use Rattle.vob_replica.proofs.LogLaws.{HaveNextNumbers-push}
use Rattle.vob_replica.proofs.masters.Masters.push.Goals as goal

-- one operation more
pub invariant_of-self-2 : goal.invariant_of-self-2
invariant_of-self-2 c = (
  c.stays_in_turn-in_turn.ensures
      ∙ ap (λ (o : Operation). is_chain (c.args.self.now ++ o ∷ [])) c.operation.ensures.same
      ∙ ap (λ (l : List Operation). is_chain (l ++ c.args.operation ∷ [])) (sym c.self.view_is)
      ∙ ap is_chain (sym c.in_ok-push.ensures.items),
  subst HaveNextNumbers (sym c.in_ok-push.ensures.items)
      (HaveNextNumbers-push c.self.inside.operations.items c.args.operation c.self.invariant.1 c.operation.ensures.next),
)
