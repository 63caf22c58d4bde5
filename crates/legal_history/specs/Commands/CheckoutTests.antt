-- What commands need of checkouts and of the versions that they end or begin with, each a test of its own.
use Rattle.std.specs.Prelude.{ℕ, Bool, false, ◌&&◌, Option, Some, None, List, option_map, option_and_then, bytes_eq}
use Rattle.cc_names.specs.Branches.{branch_of_version}
use Rattle.cc_names.specs.Versions.{is_number}
use Rattle.cc_names.specs.declared.refusals.Refusal.{Refusal}
use Rattle.cc_names.specs.declared.refusals.Refusal.TheVariants as refusals
use Rattle.cc_names.specs.declared.selection.Rule.{Rule}
use Rattle.base_model.specs.Rows.{Base}
use Rattle.base_model.specs.Changes.{tree}
use Rattle.base_model.specs.Checkouts.{reserver, other_reserver, branch_of, latest_beside}
use Rattle.base_model.specs.Conditions.{is_file}
use Rattle.legal_history.specs.Commands.Tests.{refused_unless, refused_where}
use Rattle.base_model.specs.Texts.{text, text_of_row}
use Rattle.base_model.specs.Views.{Checkout, making}

-- the view has the element out
abbrev pub needs_out : List ℕ → Option Checkout → Option Refusal
needs_out path None = Some (refusals.NotCheckedOut path)
needs_out path (Some checkout) = None

-- the view has not the element out; the refusal names the row that made the checkout
abbrev pub needs_not_out : Option Checkout → Option Refusal
needs_not_out None = None
needs_not_out (Some checkout) = Some (refusals.AlreadyOut checkout.row)

-- nobody reserves the branch of a version; the refusal names who does
abbrev pub needs_unreserved : Base → ℕ → Option Refusal
needs_unreserved b version = option_map refusals.Reserved (option_and_then (reserver b) (branch_of_version (tree b) version))

-- no other view reserves the branch of a checkout
abbrev pub needs_no_other : Base → List ℕ → Option Checkout → Option Refusal
needs_no_other b v None = None
needs_no_other b v (Some checkout) = option_map refusals.Reserved (option_and_then (other_reserver b v) (branch_of b checkout))

-- a version is the latest of its branch; the refusal names that one
abbrev pub refused_unless_same : ℕ → Option ℕ → Option Refusal
refused_unless_same version None = None
refused_unless_same version (Some latest) = refused_unless (is_number version (Some latest)) (refusals.NotLatest latest)

-- a version is the latest of its branch; the refusal names the one that is
abbrev pub needs_latest : Base → ℕ → Option Refusal
needs_latest b version = refused_unless_same version (latest_beside b version)

-- the origin of a checkout is the latest version of its branch
abbrev pub needs_latest_origin : Base → Option Checkout → Option Refusal
needs_latest_origin b None = None
needs_latest_origin b (Some checkout) = needs_latest b checkout.origin

-- whether two texts are the same; no text is none
abbrev pub is_same_text : Option (List ℕ) → Option (List ℕ) → Bool
is_same_text (Some one) (Some two) = bytes_eq one two
is_same_text _ _ = false

-- the text of a file's checkout is not that of its origin, which the refusal names
abbrev pub needs_change : Base → List ℕ → List ℕ → ℕ → Option Checkout → Option Refusal
needs_change b v path e None = None
needs_change b v path e (Some checkout) =
    refused_where (is_file b e && is_same_text (text_of_row b path (making b v e)) (text b checkout.origin path))
    (refusals.Identical checkout.origin)

-- the rule that decided lets check out; the refusal names its line
abbrev pub needs_checkout_rule : Option Rule → Option Refusal
needs_checkout_rule None = None
needs_checkout_rule (Some rule) = refused_where rule.nocheckout (refusals.NoCheckoutRule rule.line)
