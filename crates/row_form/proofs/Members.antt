-- A list that is read member by member.
use Rattle.std.proofs.Common.{◌≡◌, ℕ, suc, ◌+◌, ◌-◌, ◌<◌, ◌≤◌, Ok, Err, List, [], ◌∷◌, ◌++◌, refl, sym, ◌∙◌, ap, subst, arith}
use Rattle.std.proofs.lemmas.List.{append_assoc, append-nil}
use Rattle.cc_names.specs.declared.memory.Or.{Or}
use Rattle.row_form.specs.Answers.{Answers}
use Rattle.row_form.specs.Readers.{Reading, Reader, then_read, read_members}
use Rattle.row_form.specs.declared.cursor.Unread.{Unread}
use Rattle.row_form.proofs.Steps.{fails_first}

-- members that were read before the others
abbrev pub behind : {A : Type 0} → List A → Reading (List A) → Reading (List A)
behind before others = then_read others (λ members end. Ok (before ++ members, end))

pub behind_none : {A : Type 0} (others : Reading (List A)) → behind [] others ≡ others
behind_none (Ok read) = refl
behind_none (Err at) = refl

behind_one : {A : Type 0} (before : List A) (a : A) (others : Reading (List A))
    → behind before (then_read others (λ members end. Ok (a ∷ members, end))) ≡ behind (before ++ a ∷ []) others
behind_one {A} before a (Ok read) = let whole : List A → Reading (List A) = λ xs. Ok (xs, read.1) in
    ap whole (sym (append_assoc before (a ∷ []) read.0))
behind_one before a (Err at) = refl

one_less : (count index : ℕ) → index < count → count - index ≡ suc (count - (index + 1))
one_less count index h = omega arith

pub none_less : (count : ℕ) → count ≡ count - 0
none_less count = omega arith

members_next : {A : Type 0} (reader : Reader A) (count index : ℕ) (rest : List ℕ) → index < count
    → read_members reader (count - index) rest ≡ read_members reader (suc (count - (index + 1))) rest
members_next reader count index rest h = ap (λ n. read_members reader n rest) (one_less count index h)

pub one_more_read : {A : Type 0} (reader : Reader A) (count index : ℕ) (before : List A) (a : A) (rest left : List ℕ)
    → index < count → reader rest ≡ Ok (a, left)
    → behind before (read_members reader (count - index) rest) ≡ behind (before ++ a ∷ [])
    (read_members reader (count - (index + 1)) left)
one_more_read {A} reader count index before a rest left h e =
    ap (behind before) (members_next reader count index rest h)
    ∙ ap (λ q. behind before (then_read q (λ m end. then_read (read_members reader (count - (index + 1)) end)
    (λ others z. Ok (m ∷ others, z))))) e
    ∙ behind_one before a (read_members reader (count - (index + 1)) left)

-- where a member fails, the list does
pub member_fails : {A : Type 0} (fault : Or Unread) (reader : Reader A) (count index : ℕ) (before : List A) (rest m n : List ℕ)
    → index < count
    → Answers (Err fault) (reader rest) m → Answers (Err fault) (behind before (read_members reader (count - index) rest)) n
member_fails {A} fault reader count index before rest m n h k =
    let P : Reading (List A) → Type 0 = λ q. Answers (Err fault) (behind before q) n in
    subst P (sym (members_next reader count index rest h))
    (fails_first fault (read_members reader (suc (count - (index + 1))) rest) (λ members end. Ok (before ++ members, end)) m n
    (fails_first fault (reader rest) (λ a left. then_read (read_members reader (count - (index + 1)) left)
    (λ others end. Ok (a ∷ others, end))) m m k))

-- where all members were read, the list was
pub all_read : {A : Type 0} (reader : Reader A) (count index : ℕ) (before : List A) (rest : List ℕ) → count ≤ index
    → behind before (read_members reader (count - index) rest) ≡ Ok (before, rest)
all_read {A} reader count index before rest e =
    let none : count - index ≡ 0 = omega (arith, e) in
    let whole : List A → Reading (List A) = λ xs. Ok (xs, rest) in
    ap (λ n. behind before (read_members reader n rest)) none ∙ ap whole (append-nil before)
