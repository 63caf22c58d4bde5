-- What a function that reads answers.
use Rattle.std.specs.Prelude.{◌≡◌, ℕ, Option, Some, None, Result, Ok, Err, List, length}
use Rattle.std.specs.Borrow.{Bor}
use Rattle.cc_names.specs.declared.memory.Or.{Or}
use Rattle.cc_names.specs.declared.memory.Or.TheVariants.{NoMemory, Is}
use Rattle.row_form.specs.Readers.{Reading}
use Rattle.row_form.specs.declared.cursor.Unread.{Unread}

-- how many bytes are left where reading fails
abbrev pub bytes_left_of : {A : Type 0} → Reading A → Option ℕ
bytes_left_of (Ok read) = None
bytes_left_of (Err at) = Some (length at)

-- the answer is what reading gives, unless memory ran out: the value, with these bytes left, or where it fails
abbrev pub Answers : {A : Type 0} → Result A (Or Unread) → Reading A → List ℕ → Type 0
Answers (Ok value) reading left = reading ≡ Ok (value, left)
Answers (Err NoMemory) reading left = Unit {0}
Answers (Err (Is unread)) reading left = bytes_left_of reading ≡ Some unread.left

-- the same of bytes that are lent
abbrev pub AnswersSlice : Result (Bor (List ℕ)) (Or Unread) → Reading (List ℕ) → List ℕ → Type 0
AnswersSlice (Ok slice) reading left = reading ≡ Ok (slice.now, left)
AnswersSlice (Err NoMemory) reading left = Unit {0}
AnswersSlice (Err (Is unread)) reading left = bytes_left_of reading ≡ Some unread.left
