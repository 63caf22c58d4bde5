-- A branch by the rule that decided has the name of a type; and the tests that the rule asks for come after the first two.
use Rattle.std.proofs.Common.{◌≡◌, None, subst, sym, ap, arith, ◌∷◌, [], ◌∙◌}
use Rattle.std.proofs.lemmas.Grind.{common_steps}
use Rattle.std.specs.Prelude.{IfSome}
use Rattle.cc_names.specs.Formed.{IsTypeName}
use Rattle.legal_history.specs.Commands.CheckoutLines.{branch_by, checkout_by, deciding_rule}
use Rattle.legal_history.specs.Commands.Decisions.{first_refusal, needs_room}
use Rattle.checkout_desk.specs.Deciding.{IsOfTest}
use Rattle.checkout_desk.proofs.FirstRefusals.{passed_first, refused_first}
use Rattle.checkout_desk.proofs.RuleBranches.{deciding_named}
use Rattle.checkout_desk.proofs.checkouts.checkout_of.Goals as goal

pub checkout_deed-requires : goal.checkout_deed-requires
checkout_deed-requires c =
    subst (λ branch. IfSome branch IsTypeName) (sym (c.branch_by-branch.ensures ∙ ap branch_by c.deciding_rule-rule.ensures))
    (deciding_named c.args.rows.now c.args.view.now c.args.selected.picked)

pub returns-in_err-checkout_by : goal.returns-in_err-checkout_by
returns-in_err-checkout_by c = λ scene now sees.
    grind (
      arith,
      common_steps,
      sees.base,
      refused_first c.in_err-checkout_by.field-0.0
          (checkout_by c.args.rows.now c.args.unreserved c.args.selected.element c.args.selected.picked
          (branch_by (deciding_rule c.args.rows.now c.args.view.now c.args.selected.picked)))
          (needs_room scene 1 ∷ [])
          (subst (λ branch. IsOfTest c.in_err-checkout_by.field-0.0 (first_refusal
          (checkout_by c.args.rows.now c.args.unreserved c.args.selected.element c.args.selected.picked branch)))
          (c.branch_by-branch.ensures ∙ ap branch_by c.deciding_rule-rule.ensures) c.in_err-checkout_by.ensures),
    )

pub returns : goal.returns
returns c = λ scene now sees.
    grind (
      arith,
      common_steps,
      sees.base,
      passed_first
          (checkout_by c.args.rows.now c.args.unreserved c.args.selected.element c.args.selected.picked
          (branch_by (deciding_rule c.args.rows.now c.args.view.now c.args.selected.picked)))
          (needs_room scene 1 ∷ [])
          (subst (λ branch. first_refusal (checkout_by c.args.rows.now c.args.unreserved c.args.selected.element
          c.args.selected.picked branch) ≡ None)
          (c.branch_by-branch.ensures ∙ ap branch_by c.deciding_rule-rule.ensures) c.in_ok-checkout_by.ensures),
    )
