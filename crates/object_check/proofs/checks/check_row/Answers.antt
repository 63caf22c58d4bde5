-- The record of an object was run on the texts of its entries.
use Rattle.std.proofs.Common.{◌&&◌, ℕ, not, Some, List, nat_eq, ap, subst, sym, ◌∙◌}
use Rattle.std.specs.BTreeMap as ordered
use Rattle.std.specs.Cmp.Lexicographic.{slice_cmp}
use Rattle.std.specs.HashMap.{get}
use Rattle.std.specs.List.{list_all}
use Rattle.std.specs.Ordering.{nat_cmp}
use Rattle.std.specs.Prelude.{is_some}
use Rattle.cc_names.specs.declared.rows.Deed.{Deed}
use Rattle.cc_names.specs.declared.rows.ReadOf.{ReadOf}
use Rattle.script_grammar.specs.Run.{run}
use Rattle.script_grammar.specs.Standings.{texts}
use Rattle.build_script.specs.Ended.{ran_of}
use Rattle.base_model.specs.Rows.{only_where}
use Rattle.legal_history.specs.Builds.Values.{are_stored, outputs_of_result, run_of_deed}
use Rattle.base_model.specs.Objects.{row_in}
use Rattle.object_check.specs.Checks.{IsChecked}
use Rattle.object_check.specs.Kept.{stands_kept, texts_kept}
use Rattle.object_check.proofs.Checking.{publish_checked}
use Rattle.object_check.proofs.checks.check_row.Goals as goal

pub returns-in_ok-ended-in-Publish : goal.returns-in_ok-ended-in-Publish
returns-in_ok-ended-in-Publish c =
    let b = c.args.rows.now in
    let values = get nat_eq c.args.values.now in
    let p = c.in-Publish in
    let rows = ordered.get (slice_cmp nat_cmp) c.in_ok-entries-in-Publish.entries in
    let ran = ran_of c.in_ok-ended-in-Publish.ended in
    let outs = outputs_of_result ran.result in
    let has = list_all (λ path. is_some (rows path)) ran.reads in
    let stored = c.as_slice-in-Publish.ensures in
    subst (λ (deed : Deed). IsChecked (run_of_deed (texts_kept b values) deed) (Some deed) c.compare.result) (sym p.is
    ∙ c.deed.ensures.deed)
    (publish_checked b values p.view p.targets p.script p.entries p.outputs rows ran c.compare.result
    (λ path. c.in_ok-entries-in-Publish.ensures path ∙ ap (λ (entries : List ReadOf). row_in entries path) c.as_slice.ensures)
    (c.in_ok-ended-in-Publish.ensures ∙ ap (λ (targets : List (List ℕ)). run p.script targets (texts (stands_kept b values rows)))
    c.as_slice-targets.ensures)
    (c.compare.ensures.is_true ∙ ap (λ (outputs : List (List ℕ)). are_stored outputs outs && has) stored)
    (c.compare.ensures.value ∙ ap (λ (outputs : List (List ℕ)). only_where (not (are_stored outputs outs)) (Some outs)) stored))
