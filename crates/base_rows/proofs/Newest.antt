-- The first marked row that does something to a thing is the newest row of the base that does.
use Rattle.std.proofs.Common.{◌≡◌, ℕ, suc, ◌<◌, ◌≤◌, ◌==◌, Bool, true, false, ◌&&◌, ◌||◌, List, [], ◌∷◌, ◌++◌, length, Option}
use Rattle.std.proofs.Common.{Some, None, IfSome, map, nat_lt, refl, ap, ap₂, sym, ◌∙◌, arith, bytes_eq, le_refl}
use Rattle.std.specs.List.{list_any}
use Rattle.std.specs.Option.{option_or}
use Rattle.std.proofs.lemmas.Bool.Decides.{nat_tests, Decides-eqb}
use Rattle.cc_names.specs.Last.{Effect, Keeps, Ends, Sets, value_after}
use Rattle.cc_names.specs.Formed.{Plain}
use Rattle.cc_names.specs.Versions.{put_if}
use Rattle.cc_names.specs.declared.rows.Deed.{Deed}
use Rattle.base_model.specs.Rows.{Base, size, first_rows, row_at, deed_of, deed_at}
use Rattle.base_model.specs.Objects.{are_same_paths}
use Rattle.base_model.proofs.Stay.{all_rows}
use Rattle.base_rows.specs.LookUps.{Deeds, Update, update_by_row, newest, update_by_deed, update_at, first_update, left_by}
use Rattle.base_rows.specs.LookUps.{last_of, ActsBySubject}
use Rattle.base_rows.specs.Subjects.{Subject, Life, Spec, AllCheckedOut, File, Object, Out, Saved, NameIn, Reserved, Named}
use Rattle.base_rows.specs.Subjects.{Living, Winked, Merge, Merged, History, Changing, Altered, Leaving, BranchNamed, Owned}
use Rattle.base_rows.specs.Subjects.{Given, is_same_subject, key, affects, catalog_subjects, keys_of, plain_subjects, Pool}
use Rattle.base_rows.specs.Marked.{with_marks, marked_rows}
use Rattle.std.specs.declared.random_state.RandomState.{RandomState}
use Rattle.std.proofs.lemmas.Bool.{and_parts, or_left, or_right}
use Rattle.base_rows.proofs.KeysAdded.{keys_parted}
use Rattle.cc_names.proofs.Common.{or_either, same_bytes, same_number}

-- the same twice is the same once
or_twice : {A : Type 0} (x y : Option A) → option_or x (option_or x y) ≡ option_or x y
or_twice None y = refl
or_twice (Some a) y = refl

-- a row that does nothing is passed, however often it is marked
module _ {A : Type 0} (at : ℕ → Option (Update A)) (n key : ℕ) where
  pub passed : (keys rest : List ℕ) → at n ≡ None → first_update at (with_marks n key keys rest) ≡ first_update at rest
  passed [] rest none = refl
  passed (k ∷ keys) rest none = passed keys (put_if (k == key) n rest) none ∙ by_key (k == key)
    where
      by_key : (is : Bool) → first_update at (put_if is n rest) ≡ first_update at rest
      by_key true = ap (λ here. option_or here (first_update at rest)) none
      by_key false = refl

  -- one that is marked counts once, however often it is marked
  once : (keys rest : List ℕ) → first_update at (with_marks n key keys (n ∷ rest)) ≡ option_or (at n) (first_update at rest)
  once [] rest = refl
  once (k ∷ keys) rest =
      elim (k == key) as (λ is. first_update at (with_marks n key keys (put_if is n (n ∷ rest)))
      ≡ option_or (at n) (first_update at rest)) [
        | true ↦ once keys (n ∷ rest) ∙ or_twice (at n) (first_update at rest)
        | false ↦ once keys rest
      ]

  pub counted : (keys rest : List ℕ) → list_any (λ k. k == key) keys ≡ true
      → first_update at (with_marks n key keys rest) ≡ option_or (at n) (first_update at rest)
  counted [] rest has = absurd (cc)
  counted (k ∷ keys) rest has =
      elim (k == key) as (λ is. (is || list_any (λ j. j == key) keys) ≡ true
      → first_update at (with_marks n key keys (put_if is n rest)) ≡ option_or (at n) (first_update at rest)) [
        | true ↦ λ h. once keys rest
        | false ↦ λ h. counted keys rest h
      ] has

same_paths : (one two : List (List ℕ)) → are_same_paths one two ≡ true → one ≡ two
same_paths [] [] is = refl
same_paths (p ∷ ps) (q ∷ qs) is =
    let parts = and_parts (bytes_eq p q) (are_same_paths ps qs) is in
    ap₂ (λ path paths. path ∷ paths) (same_bytes p q parts.0) (same_paths ps qs parts.1)
same_paths one two is = absurd (cc)

-- subjects that are one have one key
same_key : (hashing : RandomState) (one two : Subject) → is_same_subject one two ≡ true → key hashing two ≡ key hashing one
same_key hashing (Life v) (Life w) is = ap (λ name. key hashing (Life name)) (same_bytes w v is)
same_key hashing (Spec v) (Spec w) is = ap (λ name. key hashing (Spec name)) (same_bytes w v is)
same_key hashing (AllCheckedOut v) (AllCheckedOut w) is = ap (λ name. key hashing (AllCheckedOut name)) (same_bytes w v is)
same_key hashing (File v path) (File w q) is =
    let parts = and_parts (bytes_eq w v) (bytes_eq q path) is in
    ap₂ (λ name place. key hashing (File name place)) (same_bytes w v parts.0) (same_bytes q path parts.1)
same_key hashing (Object v path) (Object w q) is =
    let parts = and_parts (bytes_eq w v) (bytes_eq q path) is in
    ap₂ (λ name place. key hashing (Object name place)) (same_bytes w v parts.0) (same_bytes q path parts.1)
same_key hashing (Out v e) (Out w f) is =
    let parts = and_parts (bytes_eq w v) (f == e) is in
    ap₂ (λ name element. key hashing (Out name element)) (same_bytes w v parts.0) (same_number f e parts.1)
same_key hashing (Saved v e) (Saved w f) is =
    let parts = and_parts (bytes_eq w v) (f == e) is in
    ap₂ (λ name element. key hashing (Saved name element)) (same_bytes w v parts.0) (same_number f e parts.1)
same_key hashing (NameIn v d name) (NameIn w f other) is =
    let parts = and_parts (bytes_eq w v && (f == d)) (bytes_eq other name) is in
    let own = and_parts (bytes_eq w v) (f == d) parts.0 in
    ap (λ text. key hashing (NameIn w f text)) (same_bytes other name parts.1)
    ∙ ap₂ (λ view directory. key hashing (NameIn view directory name)) (same_bytes w v own.0) (same_number f d own.1)
same_key hashing (Reserved branch) (Reserved other) is = ap (λ it. key hashing (Reserved it)) (sym (same_number branch other is))
same_key hashing (Named v) (Named w) is = ap (λ name. key hashing (Named name)) (same_bytes w v is)
same_key hashing (Living id) (Living other) is = ap (λ object. key hashing (Living object)) (same_number other id is)
same_key hashing (Winked id) (Winked other) is = ap (λ object. key hashing (Winked object)) (same_number other id is)
same_key hashing (Pool targets) (Pool others) is = ap (λ paths. key hashing (Pool paths)) (same_paths others targets is)
same_key hashing (Merge e tail head) (Merge f one two) is =
    let parts = and_parts ((f == e) && (one == tail)) (two == head) is in
    let ends = and_parts (f == e) (one == tail) parts.0 in
    ap (λ into. key hashing (Merge f one into)) (same_number two head parts.1)
    ∙ ap₂ (λ element from. key hashing (Merge element from head)) (same_number f e ends.0) (same_number one tail ends.1)
same_key hashing (Merged head) (Merged other) is = ap (λ into. key hashing (Merged into)) (same_number other head is)
same_key hashing (History e) (History f) is = ap (λ element. key hashing (History element)) (same_number f e is)
same_key hashing (Leaving version) (Leaving other) is = ap (λ origin. key hashing (Leaving origin)) (same_number other version is)
same_key hashing (BranchNamed e name) (BranchNamed f own) is =
    let parts = and_parts (e == f) (bytes_eq name own) is in
    ap₂ (λ element text. key hashing (BranchNamed element text)) (sym (same_number e f parts.0))
    (sym (same_bytes name own parts.1))
same_key hashing (Owned v) (Owned w) is = ap (λ name. key hashing (Owned name)) (same_bytes w v is)
same_key hashing (Given d) (Given f) is = ap (λ directory. key hashing (Given directory)) (same_number f d is)
same_key hashing (Changing began) (Changing other) is = ap (λ it. key hashing (Changing it)) (sym (same_number began other is))
same_key hashing (Altered branch name) (Altered other one) is =
    let parts = and_parts (other == branch) (bytes_eq one name) is in
    ap₂ (λ on text. key hashing (Altered on text)) (same_number other branch parts.0) (same_bytes one name parts.1)
same_key hashing one two is = absurd (cc)

-- a deed is marked for the key of each subject on which it bears
has_key : (hashing : RandomState) (subject : Subject) (all : List Subject) → list_any (is_same_subject subject) all ≡ true
    → list_any (λ k. k == key hashing subject) (map (key hashing) all) ≡ true
has_key hashing subject [] is = absurd (cc)
has_key hashing subject (first ∷ rest) is = or_either (is_same_subject subject first) (list_any (is_same_subject subject) rest) _
    is
    (λ here. or_left (key hashing first == key hashing subject) (list_any (λ k. k == key hashing subject)
    (map (key hashing) rest)) ((Decides-eqb (key hashing first) (key hashing subject)).1
    (same_key hashing subject first here)))
    (λ later. or_right (key hashing first == key hashing subject) (list_any (λ k. k == key hashing subject)
    (map (key hashing) rest)) (has_key hashing subject rest later))

any_prefix : (test : ℕ → Bool) (xs ys : List ℕ) → list_any test xs ≡ true → list_any test (xs ++ ys) ≡ true
any_prefix test [] ys h = absurd (cc)
any_prefix test (x ∷ xs) ys h = or_either (test x) (list_any test xs) _ h
    (λ here. or_left (test x) (list_any test (xs ++ ys)) here) (λ later. or_right (test x) (list_any test (xs ++ ys))
    (any_prefix test xs ys later))

any_back : (test : ℕ → Bool) (xs ys : List ℕ) → list_any test ys ≡ true → list_any test (xs ++ ys) ≡ true
any_back test [] ys h = h
any_back test (x ∷ xs) ys h = or_right (test x) (list_any test (xs ++ ys)) (any_back test xs ys h)

-- the next row is marked for the key of each subject on which it bears
module _ (hashing : RandomState) (subject : Subject) (older : Base) (deed : Deed) where
  of_catalogs : list_any (is_same_subject subject) (catalog_subjects older deed) ≡ true
      → list_any (λ k. k == key hashing subject) (keys_of hashing older deed) ≡ true
  of_catalogs is =
      ap (list_any (λ k. k == key hashing subject)) (keys_parted hashing (catalog_subjects older deed)
      (plain_subjects older deed))
      ∙ any_prefix (λ k. k == key hashing subject) (map (key hashing) (catalog_subjects older deed))
      (map (key hashing) (plain_subjects older deed)) (has_key hashing subject (catalog_subjects older deed) is)

  of_others : list_any (is_same_subject subject) (plain_subjects older deed) ≡ true
      → list_any (λ k. k == key hashing subject) (keys_of hashing older deed) ≡ true
  of_others is =
      ap (list_any (λ k. k == key hashing subject)) (keys_parted hashing (catalog_subjects older deed)
      (plain_subjects older deed))
      ∙ any_back (λ k. k == key hashing subject) (map (key hashing) (catalog_subjects older deed))
      (map (key hashing) (plain_subjects older deed)) (has_key hashing subject (plain_subjects older deed) is)

pub affected_key : (hashing : RandomState) (subject : Subject) (older : Base) (deed : Deed) → affects subject older deed ≡ true
    → list_any (λ k. k == key hashing subject) (keys_of hashing older deed) ≡ true
affected_key hashing (Changing began) older deed is = of_catalogs hashing (Changing began) older deed is
affected_key hashing (Altered branch name) older deed is = of_catalogs hashing (Altered branch name) older deed is
affected_key hashing subject older deed is = of_others hashing subject older deed is

not_below_itself : (n : ℕ) → nat_lt n n ≡ false
not_below_itself n = grind (arith, nat_tests)

-- the newest row is at its number, and the others are where they were
pub newest_at : {A : Type 0} (effect : Deeds A) (row : Plain) (older : Base)
    → update_at effect (row ∷ older) (size older) ≡ update_by_row (size older) (effect older row.deed)
newest_at effect row older =
    let all : size older ≤ size older = omega arith in
    let below : first_rows (size older) (row ∷ older) ≡ older =
    ap (λ within. elim within as (λ _. Base) [ true ↦ row ∷ older | false ↦ first_rows (size older) older ])
    (not_below_itself (size older)) ∙ all_rows older (size older) all in
    let here : deed_at (row ∷ older) (size older) ≡ Some row.deed =
    ap (λ is. deed_of (elim is [ true ↦ Some row | false ↦ row_at older (size older) ]))
    ((Decides-eqb (size older) (size older)).1 refl) in
    ap₂ (λ b deed. update_by_deed effect b (size older) deed) below here

pub older_at : {A : Type 0} (effect : Deeds A) (row : Plain) (older : Base) (n : ℕ) → n ≤ length older
    → update_at effect (row ∷ older) n ≡ update_at effect older n
older_at effect row older n within =
    let apart : (size older == n) ≡ false = grind (arith, nat_tests) in
    let past : nat_lt (size older) n ≡ false = grind (arith, nat_tests) in
    ap₂ (λ first is. update_by_deed effect (elim first as (λ _. Base) [ true ↦ row ∷ older | false ↦ first_rows n older ]) n
    (deed_of (elim is [ true ↦ Some row | false ↦ row_at older n ]))) past apart

-- among rows of which each number tells what it does
marks_tell : {A : Type 0} (hashing : RandomState) (subject : Subject) (effect : Deeds A)
    (affecting : ActsBySubject subject effect) (at : ℕ → Option (Update A)) (b : Base)
    → ((n : ℕ) → n ≤ length b → at n ≡ update_at effect b n) → first_update at (marked_rows hashing (key hashing subject) b)
    ≡ newest effect b
marks_tell hashing subject effect affecting at [] agree = refl
marks_tell hashing subject effect affecting at (row ∷ older) agree =
    let n = size older in
    let keys = keys_of hashing older row.deed in
    let rest = marked_rows hashing (key hashing subject) older in
    let here : at n ≡ update_by_row n (effect older row.deed) = agree n (omega arith) ∙ newest_at effect row older in
    let before : first_update at rest ≡ newest effect older =
    marks_tell hashing subject effect affecting at older (λ m within. agree m (omega arith)
    ∙ older_at effect row older m within) in
    elim (affects subject older row.deed) as (λ is. affects subject older row.deed ≡ is
    → first_update at (with_marks n (key hashing subject) keys rest)
    ≡ option_or (update_by_row n (effect older row.deed)) (newest effect older)) [
      | true ↦ λ e. counted at n (key hashing subject) keys rest (affected_key hashing subject older row.deed e)
          ∙ ap₂ option_or here before
      | false ↦ λ e.
          let nothing : update_by_row n (effect older row.deed) ≡ None = ap (update_by_row n) (affecting older row.deed e) in
          passed at n (key hashing subject) keys rest (here ∙ nothing) ∙ before
          ∙ sym (ap (λ first. option_or first (newest effect older)) nothing)
    ] refl

-- no row has a number after the last one
pub no_later : (b : Base) (n : ℕ) → length b < n → row_at b n ≡ None
no_later [] n behind = refl
no_later (row ∷ older) n behind =
    let apart : (size older == n) ≡ false = grind (arith, nat_tests) in
    ap (λ is. elim is [ true ↦ Some row | false ↦ row_at older n ]) apart ∙ no_later older n (omega arith)

-- the first rows are no more than all
pub first_shorter : (t : ℕ) (b : Base) → length (first_rows t b) ≤ length b
first_shorter t [] = omega arith
first_shorter t (row ∷ older) = elim (nat_lt (size older) t) as (λ within. length
    (elim within as (λ _. Base) [ true ↦ row ∷ older | false ↦ first_rows t older ]) ≤ suc (length older)) [
      | true ↦ le_refl (suc (length older))
      | false ↦ omega (arith, first_shorter t older)
    ]

-- the rows after the first ones are passed
only_first : {A : Type 0} (hashing : RandomState) (subject : Subject) (effect : Deeds A)
    (affecting : ActsBySubject subject effect) (t : ℕ) (b : Base) (at : ℕ → Option (Update A))
    → ((n : ℕ) → at n ≡ update_at effect (first_rows t b) n) → first_update at (marked_rows hashing (key hashing subject) b)
    ≡ newest effect (first_rows t b)
only_first hashing subject effect affecting t [] at agree = refl
only_first hashing subject effect affecting t (row ∷ older) at agree =
    elim (nat_lt (size older) t) as (λ within. ((n : ℕ) → at n ≡ update_at effect
    (elim within as (λ _. Base) [ true ↦ row ∷ older | false ↦ first_rows t older ]) n)
    → first_update at (marked_rows hashing (key hashing subject) (row ∷ older))
    ≡ newest effect (elim within as (λ _. Base) [ true ↦ row ∷ older | false ↦ first_rows t older ])) [
      | true ↦ λ all. marks_tell hashing subject effect affecting at (row ∷ older) (λ n within. all n)
      | false ↦ λ all.
          let n = size older in
          let none : at n ≡ None =
          all n ∙ ap (λ found. update_by_deed effect (first_rows n (first_rows t older)) n (deed_of found))
          (no_later (first_rows t older) n (omega (arith, first_shorter t older))) in
          passed at n (key hashing subject) (keys_of hashing older row.deed) (marked_rows hashing (key hashing subject) older)
          none ∙ only_first hashing subject effect affecting t older at all
    ] agree

-- The first of a subject's marks whose row is among the first rows and does something is the newest of the first rows that does.
pub marks_of_first : {A : Type 0} (hashing : RandomState) (subject : Subject) (effect : Deeds A) → ActsBySubject subject effect
    → (t : ℕ) (b : Base)
    → first_update (update_at effect (first_rows t b)) (marked_rows hashing (key hashing subject) b)
    ≡ newest effect (first_rows t b)
marks_of_first hashing subject effect affecting t b = only_first hashing subject effect affecting t b
    (update_at effect (first_rows t b)) (λ n. refl)

-- what the last row leaves is what the newest that does something leaves
pub last_by_newest : {A : Type 0} (effect : Deeds A) (b : Base) → last_of effect b ≡ left_by (newest effect b)
last_by_newest effect [] = refl
last_by_newest effect (row ∷ older) = by_effect (size older) (effect older row.deed) (last_of effect older) (newest effect older)
    (last_by_newest effect older)
  where
    by_effect : {B : Type 0} (n : ℕ) (is : Effect B) (before : Option B) (rows : Option (Update B)) → before ≡ left_by rows
        → value_after is before ≡ left_by (option_or (update_by_row n is) rows)
    by_effect n Keeps before rows h = h
    by_effect n Ends before rows h = refl
    by_effect n (Sets a) before rows h = refl

-- a row that is told of lies in the base
pub newest_below : {A : Type 0} (effect : Deeds A) (b : Base) → IfSome (newest effect b) (λ row. row.0 < size b)
newest_below effect [] = tt
newest_below effect (row ∷ older) = by_effect (size older) (effect older row.deed) (newest effect older)
    (newest_below effect older)
  where
    by_effect : {B : Type 0} (n : ℕ) (is : Effect B) (rows : Option (Update B)) → IfSome rows (λ row. row.0 < n)
        → IfSome (option_or (update_by_row n is) rows) (λ row. row.0 < suc n)
    by_effect n Keeps None h = tt
    by_effect n Keeps (Some row) h = omega arith
    by_effect n Ends rows h = omega arith
    by_effect n (Sets a) rows h = omega arith
