-- One name after the other leads on.
use Rattle.std.proofs.Common.{◌+◌, ◌∷◌, ap, sym, ◌∙◌, drop}
use Rattle.std.specs.Prelude.{option_and_then}
use Rattle.std.proofs.lemmas.List.{at_drop_more}
use Rattle.cc_names.specs.Branches.{branch_from}
use Rattle.base_model.specs.Changes.{tree}
use Rattle.view_lookup.proofs.named_versions.branch_behind.Goals as goal

pub returns-in_err-branch : goal.returns-in_err-branch
returns-in_err-branch c =
    let changes = tree c.args.rows.now in
    let e = c.args.element in
    let names = c.args.names.now in
    let i = c.loop-name.name-index in
    let branch = c.loop-name.branch in
    c.from_residual.ensures
    ∙ ap (option_and_then (λ next. branch_from changes e next (drop (i + 1) names))) c.in_err-branch.ensures
    ∙ ap (λ name. branch_from changes e branch (name ∷ drop (i + 1) names)) c.name-item.is
    ∙ sym (at_drop_more (branch_from changes e branch) names i c.name-item.result c.loop-name-test.true)
    ∙ c.loop-name.invariant

pub loop-name-preserved : goal.loop-name-preserved
loop-name-preserved c =
    let changes = tree c.args.rows.now in
    let e = c.args.element in
    let names = c.args.names.now in
    let i = c.loop-name.name-index in
    let branch = c.loop-name.branch in
    ap (option_and_then (λ next. branch_from changes e next (drop (i + 1) names))) c.in_ok-branch.ensures
    ∙ ap (λ name. branch_from changes e branch (name ∷ drop (i + 1) names)) c.name-item.is
    ∙ sym (at_drop_more (branch_from changes e branch) names i c.name-item.result c.loop-name-test.true)
    ∙ c.loop-name.invariant
