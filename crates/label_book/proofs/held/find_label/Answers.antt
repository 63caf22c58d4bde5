use Rattle.std.proofs.Common.{◌≡◌, Some, None, false, is_some, position, sym, ap, ◌∙◌, rules}
use Rattle.std.specs.Str.{bytes_eq}
use Rattle.std.specs.List.{list_any}
use Rattle.label_book.specs.Holding.{IsPlaceOfLabel}
use Rattle.label_book.proofs.Found.{label_found, label_absent, found, absent}
use Rattle.label_book.proofs.held.find_label.Goals as goal

-- the label stands nowhere
pub returns-in_err-label-clause-absent : goal.returns-in_err-label-clause-absent
returns-in_err-label-clause-absent c =
    let none : c.get_index_of.result ≡ None = search rules in
    let lacks : list_any (bytes_eq c.args.label.now) c.args.labels.now.keys ≡ false = sym c.get_index_of.ensures.found
    ∙ ap is_some none in
    rw c.from_residual.ensures (label_absent c.args.label.now c.args.element c.args.labels.now.keys c.args.moves.now.entries
    c.requires.named lacks)

-- it stands on the element where its place is the key
pub returns-clause-found : goal.returns-clause-found
returns-clause-found c =
    let known : position (bytes_eq c.args.label.now) c.args.labels.now.keys ≡ Some c.in_ok-label.label = search rules in
    let place : IsPlaceOfLabel c.args.label.now c.args.labels.now.keys c.in_ok-label.label =
    label_found c.args.label.now c.args.labels.now.keys c.in_ok-label.label known in
    found c.args.labels.now.keys c.requires.apart c.args.moves.now.entries c.requires.named c.args.label.now c.args.element
    c.in_ok-label.label place
    c.get_index_of-2.result c.get_index_of-2.ensures.index c.get_index_of-2.ensures.unique

pub returns-clause-absent : goal.returns-clause-absent
returns-clause-absent c =
    let known : position (bytes_eq c.args.label.now) c.args.labels.now.keys ≡ Some c.in_ok-label.label = search rules in
    let place : IsPlaceOfLabel c.args.label.now c.args.labels.now.keys c.in_ok-label.label =
    label_found c.args.label.now c.args.labels.now.keys c.in_ok-label.label known in
    absent c.args.labels.now.keys c.requires.apart c.args.moves.now.entries c.requires.named c.args.label.now c.args.element
    c.in_ok-label.label place
    c.get_index_of-2.result c.get_index_of-2.ensures.found
