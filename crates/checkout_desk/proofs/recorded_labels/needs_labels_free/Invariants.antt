use Rattle.std.proofs.Common.{◌≡◌, drop}
use Rattle.legal_history.specs.Commands.Decisions.{first_refusal}
use Rattle.legal_history.specs.Commands.LabelLines.{labels_free}
use Rattle.checkout_desk.proofs.recorded_labels.needs_labels_free.Given as goal

-- the tests that are left refuse as all of them do
abbrev pub invariant-loop-one : goal.invariant-loop-one
invariant-loop-one l = first_refusal (labels_free l.rows l.replace l.label (drop l.one-index l.placed))
    ≡ first_refusal (labels_free l.rows l.replace l.label l.placed)
