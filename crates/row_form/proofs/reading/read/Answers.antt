-- What was read was spelled so, and what is spelled is read.
use Rattle.std.proofs.Common.{◌≡◌, ℕ, List, get_or, Fits, w8, arith, Some, None, sym, ◌∙◌, ap, subst}
use Rattle.cc_names.specs.Formed.{IsFormed}
use Rattle.row_form.specs.Answers.{bytes_left_of}
use Rattle.row_form.specs.Spelled.{spelling_of}
use Rattle.row_form.specs.RowReader.{read_row}
use Rattle.row_form.proofs.Exact.{AreBytes, bytes_by_place}
use Rattle.row_form.proofs.ExactRow.{row_read_back, row_back}
use Rattle.row_form.proofs.reading.read.Goals as goal

below : (bytes : List ℕ) → ((i : ℕ) → Fits w8 (get_or bytes i 0)) → AreBytes bytes
below bytes h = bytes_by_place bytes (λ i. let f = h i in omega arith)

pub of-requires : goal.of-requires
of-requires c = (row_read_back c.args.bytes.now (
  (c.in-Ok.tag, c.in-Ok.moment),
  c.in-Ok.deed,
) (below c.args.bytes.now c.type_inv.bytes) c.in-Ok.ensures).1

pub returns-in-Ok-clause-row : goal.returns-in-Ok-clause-row
returns-in-Ok-clause-row c =
    let read_back = row_read_back c.args.bytes.now (
      (c.in-Ok.tag, c.in-Ok.moment),
      c.in-Ok.deed,
    ) (below c.args.bytes.now c.type_inv.bytes) c.in-Ok.ensures in
    (read_back.0 ∙ ap spelling_of (sym c.of.ensures), subst IsFormed (sym c.of.ensures) read_back.1)

pub returns-in-Err-Is-clause-row : goal.returns-in-Err-Is-clause-row
returns-in-Err-Is-clause-row c = λ row h e.
    let read = ap read_row e ∙ row_back row h in
    let at = rw c.in-Err-Is.field-0-is at c.in-Err-Is.ensures in
    let none : None ≡ Some c.in-Err-Is.unread.left = sym (ap bytes_left_of read) ∙ at in
    cc
