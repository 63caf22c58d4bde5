-- `checkout`, `mkbranch`, `checkin` and `uncheckout`: the tests of each in their order, and its deed.
use Rattle.std.specs.Prelude.{ℕ, Bool, true, false, not, ◌==◌, Option, Some, None, Result, List, [], ◌∷◌, find}
use Rattle.cc_names.specs.declared.refusals.Refusal.{Refusal}
use Rattle.cc_names.specs.declared.rows.Deed.{Deed}
use Rattle.cc_names.specs.declared.rows.Deed.TheVariants as deeds
use Rattle.cc_names.specs.declared.rows.Out.{Out}
use Rattle.cc_names.specs.declared.rows.Out.TheVariants as outs
use Rattle.cc_names.specs.declared.selection.Picked.{Picked}
use Rattle.cc_names.specs.declared.selection.Rule.{Rule}
use Rattle.base_model.specs.Rows.{Base}
use Rattle.legal_history.specs.Commands.Decisions.{Scene, Decision, past, makes}
use Rattle.legal_history.specs.Commands.Found.{for_selected, for_element}
use Rattle.base_model.specs.Seen.{at, rules}
use Rattle.legal_history.specs.Commands.CheckoutTests.{needs_out, needs_not_out, needs_unreserved, needs_no_other, needs_latest}
use Rattle.legal_history.specs.Commands.CheckoutTests.{needs_latest_origin, needs_change, needs_checkout_rule}
use Rattle.legal_history.specs.Commands.Tests.{needs_view, needs_idle, needs_branch_type, needs_no_branch}
use Rattle.base_model.specs.Views.{out}

-- the rule of the view's config spec that decided on an element of which this was picked
abbrev pub deciding_rule : Base → List ℕ → Picked → Option Rule
deciding_rule b v picked = find (λ rule. rule.line == picked.line) (rules b v)

-- the type of the branch that a checkout by this rule makes
abbrev pub branch_by : Option Rule → Option (List ℕ)
branch_by None = None
branch_by (Some rule) = rule.mkbranch

-- a checkout that reserves its branch finds it unreserved
abbrev pub reserves_if : Base → ℕ → Bool → List (Option Refusal)
reserves_if b version true = []
reserves_if b version false = needs_unreserved b version ∷ []

-- the last tests of a checkout: of a new branch, or of the latest version
abbrev pub checkout_by : Base → Bool → ℕ → Picked → Option (List ℕ) → List (Option Refusal)
checkout_by b unreserved e picked (Some name) = needs_branch_type b name ∷ needs_no_branch b e name ∷ []
checkout_by b unreserved e picked None = needs_latest b picked.row ∷ reserves_if b picked.row unreserved

-- the tests of a checkout of an element of which this was picked, where this rule decided
abbrev pub checkout_tests : Scene → List ℕ → Bool → ℕ → Picked → Option Rule → List (Option Refusal)
checkout_tests s v unreserved e picked rule =
    needs_not_out (out s.base v e) ∷ needs_checkout_rule rule ∷ checkout_by s.base unreserved e picked (branch_by rule)

-- how a new branch is checked out
abbrev pub out_by : Bool → Out
out_by true = outs.Unreserved
out_by false = outs.Reserved

-- a checkout, or a new branch that is checked out
abbrev pub checkout_deed : List ℕ → Bool → ℕ → Picked → Option (List ℕ) → Deed
checkout_deed v unreserved e picked None = deeds.Checkout v e picked.row (not unreserved)
checkout_deed v unreserved e picked (Some name) = deeds.Branch v e picked.row name (out_by unreserved)

-- a checkout of an element of which this was picked, where this rule decided
abbrev pub checkout_by_rule : Scene → List ℕ → Bool → ℕ → Picked → Option Rule → Result Decision Refusal
checkout_by_rule s v unreserved e picked rule =
    makes s (checkout_tests s v unreserved e picked rule) (checkout_deed v unreserved e picked (branch_by rule))

-- a checkout of an element of which this was picked
abbrev pub checkout_of : Scene → List ℕ → Bool → ℕ → Picked → Result Decision Refusal
checkout_of s v unreserved e picked = checkout_by_rule s v unreserved e picked (deciding_rule s.base v picked)

-- `checkout V [-unreserved] P`: the selected version is checked out, or a new branch by the rule that decides
abbrev pub checkout : Scene → List ℕ → Bool → List ℕ → Result Decision Refusal
checkout s v unreserved path =
    past (needs_view s.base v ∷ needs_idle s v ∷ []) (for_selected path (at s.base v path) (checkout_of s v unreserved))

-- the tests of a new branch of an element
abbrev pub mkbranch_tests : Scene → List ℕ → List ℕ → ℕ → List (Option Refusal)
mkbranch_tests s v name e = needs_not_out (out s.base v e) ∷ needs_branch_type s.base name ∷ needs_no_branch s.base e name ∷ []

-- whether a new branch is checked out: unless `-nco` is given, and reserved
abbrev pub out_unless : Bool → Out
out_unless true = outs.No
out_unless false = outs.Reserved

-- a new branch of an element of which this was picked
abbrev pub mkbranch_of : Scene → List ℕ → Bool → List ℕ → ℕ → Picked → Result Decision Refusal
mkbranch_of s v nco name e picked = makes s (mkbranch_tests s v name e) (deeds.Branch v e picked.row name (out_unless nco))

-- `mkbranch V [-nco] B P`: a branch at the selected version
abbrev pub mkbranch : Scene → List ℕ → Bool → List ℕ → List ℕ → Result Decision Refusal
mkbranch s v nco name path =
    past (needs_view s.base v ∷ needs_idle s v ∷ []) (for_selected path (at s.base v path) (mkbranch_of s v nco name))

-- an identical text is refused unless `-identical` is given
abbrev pub changes_unless : Bool → Option Refusal → List (Option Refusal)
changes_unless true test = []
changes_unless false test = test ∷ []

-- the tests of a checkin of an element
abbrev pub checkin_tests : Scene → List ℕ → Bool → List ℕ → ℕ → List (Option Refusal)
checkin_tests s v identical path e =
    needs_out path (out s.base v e) ∷ needs_no_other s.base v (out s.base v e) ∷ needs_latest_origin s.base (out s.base v e)
    ∷ changes_unless identical (needs_change s.base v path e (out s.base v e))

-- a checkin of an element
abbrev pub checkin_of : Scene → List ℕ → Bool → List ℕ → ℕ → Result Decision Refusal
checkin_of s v identical path e = makes s (checkin_tests s v identical path e) (deeds.Checkin v e)

-- `checkin V [-identical] P`: the view's checkout becomes a version
abbrev pub checkin : Scene → List ℕ → Bool → List ℕ → Result Decision Refusal
checkin s v identical path =
    past (needs_view s.base v ∷ needs_idle s v ∷ []) (for_element path (at s.base v path) (checkin_of s v identical path))

-- an uncheckout of an element
abbrev pub uncheckout_of : Scene → List ℕ → List ℕ → ℕ → Result Decision Refusal
uncheckout_of s v path e = makes s (needs_out path (out s.base v e) ∷ []) (deeds.Uncheckout v e)

-- `uncheckout V P`: the view's checkout ends without a version
abbrev pub uncheckout : Scene → List ℕ → List ℕ → Result Decision Refusal
uncheckout s v path =
    past (needs_view s.base v ∷ needs_idle s v ∷ []) (for_element path (at s.base v path) (uncheckout_of s v path))
