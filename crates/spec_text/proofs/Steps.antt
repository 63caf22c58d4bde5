-- One name of a branch's names, and one rule of a spec.
use Rattle.std.proofs.Common.{◌≡◌, ℕ, ◌+◌, ◌<◌, Bool, true, false, cond, Option, Some, None, List, ◌∷◌, length, get_or, drop}
use Rattle.std.proofs.Common.{refl, ap, ◌∙◌, add-one, drop-cons}
use Rattle.std.specs.Option.{option_and_then}
use Rattle.cc_names.specs.Branches.{branch_from}
use Rattle.cc_names.specs.declared.changes.TreeChange.{TreeChange}
use Rattle.cc_names.specs.declared.selection.Picked.{Picked}
use Rattle.cc_names.specs.declared.selection.Rule.{Rule}
use Rattle.base_model.specs.ConfigSpecs.Rules.{Selectables, decides, deciding, picked_by, pick}
use Rattle.spec_text.specs.Children.{child}
use Rattle.spec_text.specs.Verdicts.{verdict}

at_place : {A : Type 0} (xs : List A) (i : ℕ) (d : A) → i < length xs → drop i xs ≡ get_or xs i d ∷ drop (i + 1) xs
at_place xs i d h = rw (add-one, drop-cons xs i d) refl

pub leads_on : (changes : List TreeChange) (element branch : ℕ) (names : List (List ℕ)) (i : ℕ) (d : List ℕ) (next : ℕ)
    → i < length names → child changes element branch (get_or names i d) ≡ Some next
    → branch_from changes element branch (drop i names) ≡ branch_from changes element next (drop (i + 1) names)
leads_on changes element branch names i d next h e =
    ap (branch_from changes element branch) (at_place names i d h)
    ∙ ap (option_and_then (λ b. branch_from changes element b (drop (i + 1) names))) e

pub leads_nowhere : (changes : List TreeChange) (element branch : ℕ) (names : List (List ℕ)) (i : ℕ) (d : List ℕ)
    → i < length names → child changes element branch (get_or names i d) ≡ None
    → branch_from changes element branch (drop i names) ≡ None
leads_nowhere changes element branch names i d h e =
    ap (branch_from changes element branch) (at_place names i d h)
    ∙ ap (option_and_then (λ b. branch_from changes element b (drop (i + 1) names))) e

by_test : (sources : Selectables) (element : ℕ) (names : List (List ℕ)) (rule : Rule) (rules : List Rule) (here : Bool)
    (picked : Option Picked) → cond here (Some (picked_by sources element rule)) None ≡ Some picked
    → option_and_then (picked_by sources element) (cond here (Some rule) (deciding sources element names rules)) ≡ picked
by_test sources element names rule rules true picked e = cc
by_test sources element names rule rules false picked e = cc

by_none : (sources : Selectables) (element : ℕ) (names : List (List ℕ)) (rule : Rule) (rules : List Rule) (here : Bool)
    → cond here (Some (picked_by sources element rule)) None ≡ None → option_and_then (picked_by sources element)
    (cond here (Some rule) (deciding sources element names rules)) ≡ pick sources element names rules
by_none sources element names rule rules true e = cc
by_none sources element names rule rules false e = refl

pub rule_decides : (sources : Selectables) (element : ℕ) (names : List (List ℕ)) (rules : List Rule) (i : ℕ) (d : Rule)
    (picked : Option Picked) → i < length rules → verdict sources element names (get_or rules i d) ≡ Some picked
    → pick sources element names (drop i rules) ≡ picked
rule_decides sources element names rules i d picked h e =
    ap (pick sources element names) (at_place rules i d h)
    ∙ by_test sources element names (get_or rules i d) (drop (i + 1) rules) (decides sources element names (get_or rules i d))
    picked e

pub rule_passes : (sources : Selectables) (element : ℕ) (names : List (List ℕ)) (rules : List Rule) (i : ℕ) (d : Rule)
    → i < length rules → verdict sources element names (get_or rules i d) ≡ None
    → pick sources element names (drop i rules) ≡ pick sources element names (drop (i + 1) rules)
rule_passes sources element names rules i d h e =
    ap (pick sources element names) (at_place rules i d h)
    ∙ by_none sources element names (get_or rules i d) (drop (i + 1) rules) (decides sources element names (get_or rules i d)) e
