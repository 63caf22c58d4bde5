-- One part that is read, and then what is read after it.
use Rattle.std.proofs.Common.{◌≡◌, ℕ, Some, Result, Ok, Err, List, sym, ap, subst}
use Rattle.cc_names.specs.declared.memory.Or.{Or}
use Rattle.cc_names.specs.declared.memory.Or.TheVariants.{NoMemory, Is}
use Rattle.row_form.specs.Readers.{Reading, Reader, then_read}
use Rattle.row_form.specs.Answers.{bytes_left_of, Answers}
use Rattle.row_form.specs.declared.cursor.Unread.{Unread}

pub then_ok : {A B : Type 0} (r : Reading A) (next : A → Reader B) (a : A) (rest : List ℕ) → r ≡ Ok (a, rest)
    → then_read r next ≡ next a rest
then_ok r next a rest e = ap (λ q. then_read q next) e

pub then_left : {A B : Type 0} (r : Reading A) (next : A → Reader B) (left : ℕ) → bytes_left_of r ≡ Some left
    → bytes_left_of (then_read r next) ≡ Some left
then_left (Ok read) next left e = absurd (cc)
then_left (Err at) next left e = e

-- where a part fails, so does what begins with it
pub fails_first : {A B : Type 0} (fault : Or Unread) (r : Reading A) (next : A → Reader B) (m n : List ℕ)
    → Answers (Err fault) r m → Answers (Err fault) (then_read r next) n
fails_first NoMemory r next m n h = tt
fails_first (Is unread) r next m n h = then_left r next unread.left h

-- where a part is there, the answer is that of what follows it
pub goes_on : {A B : Type 0} (result : Result B (Or Unread)) (r : Reading A) (next : A → Reader B) (a : A) (rest left : List ℕ)
    → r ≡ Ok (a, rest) → Answers result (next a rest) left → Answers result (then_read r next) left
goes_on {A} {B} result r next a rest left e h =
    let P : Reading B → Type 0 = λ q. Answers result q left in subst P (sym (then_ok r next a rest e)) h
