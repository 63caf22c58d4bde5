use Rattle.std.proofs.Common.{◌≡◌, Some, position, rules}
use Rattle.std.specs.Str.{bytes_eq}
use Rattle.label_book.proofs.Found.{label_found}
use Rattle.label_book.proofs.held.place_of_label.Goals as goal

pub returns-in-Some-clause-place : goal.returns-in-Some-clause-place
returns-in-Some-clause-place c =
    let found : position (bytes_eq c.args.label.now) c.args.labels.now.keys ≡ Some c.in-Some.place = search rules in
    label_found c.args.label.now c.args.labels.now.keys c.in-Some.place found
