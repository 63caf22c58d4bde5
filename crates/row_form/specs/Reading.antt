-- What reading a row answers.
use Rattle.std.specs.Prelude.{◌≡◌, ℕ, Some, Result, Ok, Err, List}
use Rattle.cc_names.specs.Formed.{Plain, IsFormed}
use Rattle.cc_names.specs.declared.memory.Or.{Or}
use Rattle.cc_names.specs.declared.memory.Or.TheVariants.{NoMemory, Is}
use Rattle.row_form.specs.RowReader.{fault_of}
use Rattle.row_form.specs.Spelled.{spelling_of}
use Rattle.row_form.specs.declared.cursor.NotARow.{NotARow}

-- What reading bytes as a row answers: the row that they spell, which is well formed; or a fault, exactly where they
-- spell no well-formed row.
abbrev pub IsReadAs : {E : Type 0} → Result Plain (Or E) → List ℕ → Type 0
IsReadAs (Ok row) bytes = (bytes ≡ spelling_of row) × IsFormed row
IsReadAs (Err NoMemory) bytes = Unit {0}
IsReadAs (Err (Is fault)) bytes = (row : Plain) → IsFormed row → bytes ≡ spelling_of row → ⊥

-- well-formed rows with the same spelling are the same
abbrev pub RowsHaveOneSpelling : Type 0
RowsHaveOneSpelling = (a b : Plain) → IsFormed a → IsFormed b → spelling_of a ≡ spelling_of b → a ≡ b

-- where reading bytes as a row answers a fault, it names its offset
abbrev pub NamesPlace : Result Plain (Or NotARow) → List ℕ → Type 0
NamesPlace (Ok row) bytes = Unit {0}
NamesPlace (Err NoMemory) bytes = Unit {0}
NamesPlace (Err (Is fault)) bytes = fault_of bytes ≡ Some fault.0
