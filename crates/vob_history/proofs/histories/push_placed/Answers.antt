-- The one version of the element has the line, where there is one.
use Rattle.std.proofs.Common.{◌≡◌, ℕ, List, [], ◌++◌, Option, Some, None, OnOk, append-nil, ap, sym, subst, ◌∙◌, rules}
use Rattle.std.specs.Prelude.{find}
use Rattle.std.specs.Option.{option_map_or}
use Rattle.cc_names.specs.declared.rows.Placed.{Placed}
use Rattle.base_rows.specs.Histories.{is_placed_on}
use Rattle.vob_history.proofs.HistoryRows.{placed_found, placed_line}
use Rattle.vob_history.proofs.histories.push_placed.Goals as goal

pub returns-in-None : goal.returns-in-None
returns-in-None c =
    let line = placed_line c.args.rows.now c.args.moment c.args.label.now in
    let text = c.args.text.now.items in
    let none : find (is_placed_on c.args.element) c.args.placed.now ≡ None = search rules in
    sym (append-nil text)
    ∙ ap (λ (lines : List ℕ). text ++ lines)
    (ap (λ (found : Option Placed). option_map_or line found []) (sym none)
    ∙ placed_found c.args.rows.now c.args.element c.args.moment c.args.label.now c.args.placed.now c.requires.rising)

pub returns-in-Some : goal.returns-in-Some
returns-in-Some c =
    let line = placed_line c.args.rows.now c.args.moment c.args.label.now in
    let text = c.args.text.now.items in
    let one : find (is_placed_on c.args.element) c.args.placed.now ≡ Some c.in-Some.one.now = search rules in
    subst (λ (lines : List ℕ). OnOk c.push_label.result (c.push_label.new.text.items ≡ text ++ lines))
    (ap (λ (found : Option Placed). option_map_or line found []) (sym one)
    ∙ placed_found c.args.rows.now c.args.element c.args.moment c.args.label.now c.args.placed.now c.requires.rising)
    c.push_label.ensures
