-- The readers of the fields are exact.
use Rattle.std.proofs.Common.{◌≡◌, ◌⊎◌, inl, inr, ◌≤◌, ◌<◌, ◌==◌, ℕ, nat_le, Bool, true, false, not, Option, Some, None, Ok, Err}
use Rattle.std.proofs.Common.{List, [], ◌∷◌, ◌++◌, length, get_or, take, drop, refl, sym, ◌∙◌, ap, subst, if◌then◌else◌, arith}
use Rattle.std.proofs.Common.{lit<}
use Rattle.std.specs.Int.{w32, w64, from_le_bytes}
use Rattle.std.specs.Result.{result_ok}
use Rattle.std.proofs.lemmas.Bool.{leb-true, le-leb, eqb-true}
use Rattle.std.proofs.lemmas.Grind.{common_steps}
use Rattle.std.proofs.lemmas.List.{append_assoc, take_at, drop_at, take-append-drop, length-append, length-take-le}
use Rattle.std.proofs.lemmas.Nat.{from_le_bytes-to_le_bytes_4, from_le_bytes-to_le_bytes_8, le_bytes_4, le_bytes_8}
use Rattle.cc_names.specs.Formed.{IsWord, IsLong, IsText, IsBelowRoot, IsTypeName, IsEntry, IsPlaced, begins_with_letter}
use Rattle.cc_names.specs.Names.{IsName, name_of, name_fault, unless_fault}
use Rattle.cc_names.specs.Paths.{IsPath, path_of, path_fault, is_root}
use Rattle.cc_names.specs.declared.names.NameFault.{NameFault}
use Rattle.cc_names.specs.declared.rows.Kind.{Kind}
use Rattle.cc_names.specs.declared.rows.Kind.TheVariants as kinds
use Rattle.cc_names.specs.declared.rows.TypeKind.{TypeKind}
use Rattle.cc_names.specs.declared.rows.TypeKind.TheVariants as type_kinds
use Rattle.cc_names.specs.declared.rows.Out.{Out}
use Rattle.cc_names.specs.declared.rows.Out.TheVariants as outs
use Rattle.cc_names.proofs.Common.{not_true}
use Rattle.row_form.specs.Fields.{byte, word, long, text, flag, kind, type_kind, out_byte, entry, place_of}
use Rattle.row_form.specs.Readers.{Reading, read_byte, read_word, read_long, read_bytes, read_text}
use Rattle.row_form.specs.FieldReaders.{read_name, read_type_name, read_any_path, read_path, flag_of, read_flag, kind_by_code}
use Rattle.row_form.specs.FieldReaders.{read_kind, type_kind_of, read_type_kind, out_of, read_out, entry_of, read_entry}
use Rattle.row_form.specs.FieldReaders.{placed_of, read_placed}
use Rattle.row_form.proofs.Exact.{AreBytes, IsExact, prefix_bytes, byte_at, same_read, part, exact_both, exact_chosen}
use Rattle.row_form.proofs.Exact.{exact_tested, exact_as, exact_made}
use Rattle.row_form.proofs.Steps.{then_ok}

abbrev IsByte : ℕ → Type 0
IsByte b = b < 256

byte_read_back : (bytes : List ℕ) (a : ℕ) (rest : List ℕ) → AreBytes bytes → read_byte bytes ≡ Ok (a, rest) → IsByte a
    × (bytes ≡ byte a ++ rest)
byte_read_back [] a rest hb e = absurd (cc)
byte_read_back (b ∷ bs) a rest hb e = let same = same_read (b, bs) (a, rest) e in
    (subst IsByte (ap (λ z. z.0) same) hb.0, ap (λ z. z.0 ∷ z.1) same)

pub exact_byte : IsExact read_byte byte IsByte
exact_byte = record { back = λ a rest h. refl; read_back = byte_read_back }

-- where a test decides whether something is read
read_if : {A : Type 0} (t : Bool) (x y : A × List ℕ) (at : List ℕ) → (let r : Reading A = if t then Ok x else Err at in r ≡ Ok y)
    → (t ≡ true) × (x ≡ y)
read_if true x y at e = (refl, same_read x y e)
read_if false x y at e = absurd (cc)

-- this many bytes, made into a number and back
number_read_back : (size : ℕ) (of : List ℕ → ℕ) (spell : ℕ → List ℕ) (Good : ℕ → Type 0) (bytes : List ℕ) (a : ℕ) (rest : List ℕ)
    → ((bs : List ℕ) → length bs ≡ size → AreBytes bs → spell (of bs) ≡ bs)
    → ((bs : List ℕ) → length bs ≡ size → AreBytes bs → Good (of bs))
    → AreBytes bytes → (let r : Reading ℕ = if nat_le size (length bytes) then Ok (
      of (take size bytes),
      drop size bytes,
    ) else Err bytes in r ≡ Ok (a, rest))
    → Good a × (bytes ≡ spell a ++ rest)
number_read_back size of spell Good bytes a rest again good hb e =
    let r = read_if (nat_le size (length bytes)) (of (take size bytes), drop size bytes) (a, rest) bytes e in
    let long_enough = leb-true size (length bytes) r.0 in
    let len = length-take-le size bytes long_enough in
    let are = prefix_bytes (take size bytes) (drop size bytes) (subst AreBytes (sym (take-append-drop size bytes)) hb) in
    let P : ℕ × List ℕ → Type 0 = λ z. Good z.0 × (bytes ≡ spell z.0 ++ z.1) in
    subst P r.1 (
      good (take size bytes) len are,
      sym (take-append-drop size bytes)
          ∙ ap (λ f. f ++ drop size bytes) (sym (again (take size bytes) len are)),
    )

number_back : (size : ℕ) (of : List ℕ → ℕ) (prefix rest : List ℕ) → length prefix ≡ size
    → (let r : Reading ℕ = if nat_le size (length (prefix ++ rest)) then Ok (
      of (take size (prefix ++ rest)),
      drop size (prefix ++ rest),
    ) else Err (prefix ++ rest) in r ≡ Ok (of prefix, rest))
number_back size of prefix rest len =
    let enough : size ≤ length (prefix ++ rest) = omega (arith, length-append prefix rest, len) in
    let one : List ℕ → List ℕ → Reading ℕ = λ f r. Ok (of f, r) in
    let choose : Bool → Reading ℕ = λ t. if t then Ok (
      of (take size (prefix ++ rest)),
      drop size (prefix ++ rest),
    ) else Err (prefix ++ rest) in
    ap choose (le-leb size (length (prefix ++ rest)) enough)
    ∙ ap (λ f. one f (drop size (prefix ++ rest))) (take_at prefix rest size len) ∙ ap (one prefix) (drop_at prefix rest size len)

below_word : (bs : List ℕ) → ((i : ℕ) → get_or bs i 0 < 256) → IsWord (from_le_bytes w32 bs)
below_word bs h = omega (arith, h 0, h 1, h 2, h 3)

below_long : (bs : List ℕ) → ((i : ℕ) → get_or bs i 0 < 256) → IsLong (from_le_bytes w64 bs)
below_long bs h = omega (arith, h 0, h 1, h 2, h 3, h 4, h 5, h 6, h 7)

pub exact_word : IsExact read_word word IsWord
exact_word = record {
  back = λ n rest h. let value : ℕ → Reading ℕ = λ m. Ok (m, rest) in number_back 4 (from_le_bytes w32) (word n) rest refl
      ∙ ap value (from_le_bytes-to_le_bytes_4 n h);
  read_back = λ bytes a rest hb e. number_read_back 4 (from_le_bytes w32) word IsWord bytes a rest
      (λ bs len are. le_bytes_4 bs (from_le_bytes w32 bs) len (byte_at bs are) refl)
      (λ bs len are. below_word bs (byte_at bs are)) hb e;
}

pub exact_long : IsExact read_long long IsLong
exact_long = record {
  back = λ n rest h. let value : ℕ → Reading ℕ = λ m. Ok (m, rest) in number_back 8 (from_le_bytes w64) (long n) rest refl
      ∙ ap value (from_le_bytes-to_le_bytes_8 n h);
  read_back = λ bytes a rest hb e. number_read_back 8 (from_le_bytes w64) long IsLong bytes a rest
      (λ bs len are. le_bytes_8 bs (from_le_bytes w64 bs) len (byte_at bs are) refl)
      (λ bs len are. below_long bs (byte_at bs are)) hb e;
}

text_back : (a rest : List ℕ) → IsText a → read_text (text a ++ rest) ≡ Ok (a, rest)
text_back a rest h =
    let all = text a ++ rest in
    let enough : length a ≤ length (a ++ rest) = omega (arith, length-append a rest) in
    let choose : Bool → Reading (List ℕ) = λ t. if t then Ok (
      take (length a) (a ++ rest),
      drop (length a) (a ++ rest),
    ) else Err all in
    let one : List ℕ → List ℕ → Reading (List ℕ) = λ f r. Ok (f, r) in
    then_ok (read_word all) (read_bytes all) (length a) (a ++ rest)
    (ap read_word (append_assoc (word (length a)) a rest) ∙ exact_word.back (length a) (a ++ rest) h)
    ∙ ap choose (le-leb (length a) (length (a ++ rest)) enough)
    ∙ ap (λ f. one f (drop (length a) (a ++ rest))) (take_at a rest (length a) refl) ∙ ap (one a) (drop_at a rest (length a) refl)

text_read_back : (bytes a rest : List ℕ) → AreBytes bytes → read_text bytes ≡ Ok (a, rest) → IsText a × (bytes ≡ text a ++ rest)
text_read_back bytes a rest hb e =
    let x = part (read_word bytes) (read_bytes bytes) (a, rest) e in
    let w = exact_word.read_back bytes x.0 x.1 hb x.2 in
    let r = read_if (nat_le x.0 (length x.1)) (take x.0 x.1, drop x.0 x.1) (a, rest) bytes x.3 in
    let len = length-take-le x.0 x.1 (leb-true x.0 (length x.1) r.0) in
    let P : List ℕ × List ℕ → Type 0 = λ z. IsText z.0 × (bytes ≡ text z.0 ++ z.1) in
    subst P r.1 (
      subst IsWord (sym len) w.0,
      w.1 ∙ ap (λ m. word x.0 ++ m) (sym (take-append-drop x.0 x.1)) ∙ sym (append_assoc (word x.0) (take x.0 x.1) (drop x.0 x.1))
          ∙ ap (λ n. (word n ++ take x.0 x.1) ++ drop x.0 x.1) (sym len),
    )

pub exact_text : IsExact read_text text IsText
exact_text = record { back = text_back; read_back = text_read_back }

-- a name is short
pub name_short : (bytes : List ℕ) → IsName bytes → IsText bytes
name_short bytes h = grind (arith, common_steps)

-- a path is short
pub path_short : (bytes : List ℕ) → IsPath bytes → IsText bytes
path_short bytes h = grind (arith, common_steps)

fault_or : (fault : Option NameFault) (a b : List ℕ) → result_ok (unless_fault fault a) ≡ Some b → (fault ≡ None) × (a ≡ b)
fault_or None a b e = let value : Option (List ℕ) → List ℕ = λ o. elim o [ Some z ↦ z | None ↦ a ] in (refl, ap value e)
fault_or (Some fault) a b e = absurd (cc)

pub exact_name : IsExact read_name text IsName
exact_name =
    exact_chosen (λ t. result_ok (name_of t)) (λ b. b) IsName exact_text
    (λ b h. (name_short b h, ap (λ fault. result_ok (unless_fault fault b)) h.no_fault))
    (λ a b g e. let f = fault_or (name_fault a) a b e in (subst IsName f.1 (record { no_fault = f.0 }), sym f.1))

exact_any_path : IsExact read_any_path text IsPath
exact_any_path =
    exact_chosen (λ t. result_ok (path_of t)) (λ b. b) IsPath exact_text
    (λ b h. (path_short b h, ap (λ fault. result_ok (unless_fault fault b)) h.no_fault))
    (λ a b g e. let f = fault_or (path_fault a) a b e in (subst IsPath f.1 (record { no_fault = f.0 }), sym f.1))

pub exact_path : IsExact read_path text IsBelowRoot
exact_path =
    exact_tested (λ path. not (is_root path)) IsBelowRoot exact_any_path (λ a h. (h.0, ap not h.1))
    (λ a g e. (g, not_true (is_root a) e))

pub exact_type_name : IsExact read_type_name text IsTypeName
exact_type_name = exact_tested begins_with_letter IsTypeName exact_name (λ a h. h) (λ a g e. (g, e))

pub exact_entry : IsExact read_entry entry IsEntry
exact_entry = exact_made entry_of (λ r. (r.path, r.row)) IsEntry (exact_both exact_path exact_long) (λ b. refl) (λ a. refl)
    (λ b h. h) (λ a g. g)

pub exact_placed : IsExact read_placed place_of IsPlaced
exact_placed = exact_made placed_of (λ p. (p.element, p.version)) IsPlaced (exact_both exact_long exact_long) (λ b. refl)
    (λ a. refl) (λ b h. h) (λ a g. g)

-- values that bytes encode
abbrev pub always : {A : Type 0} → A → Type 0
always a = Unit {0}

split : {A : Type 0} (t : Bool) (x y z : Option A) → (if t then x else y) ≡ z → ((t ≡ true) × (x ≡ z)) ⊎ ((t ≡ false) × (y ≡ z))
split true x y z e = inl (refl, e)
split false x y z e = inr (refl, e)

pick : {A : Type 0} (t : Bool) (x y z : Option A) (Goal : Type 0) → (if t then x else y) ≡ z → (t ≡ true → x ≡ z → Goal)
    → (t ≡ false → y ≡ z → Goal) → Goal
pick t x y z Goal e holds fails = elim (split t x y z e) [ inl h ↦ holds h.0 h.1 | inr h ↦ fails h.0 h.1 ]

some_same : {A : Type 0} (a b : A) → Some a ≡ Some b → a ≡ b
some_same {A} a b e = let value : Option A → A = λ o. elim o [ Some z ↦ z | None ↦ a ] in ap value e

abbrev flag_byte : Bool → ℕ
flag_byte false = 0
flag_byte true = 1

pub exact_flag : IsExact read_flag flag always
exact_flag =
    exact_as flag always
    (exact_chosen flag_of flag_byte always exact_byte
    (elim [ true ↦ λ h. (lit< tt, refl) | false ↦ λ h. (lit< tt, refl) ])
    (λ n b g e. (
      tt,
      pick (n == 0) (Some false) (if n == 1 then Some true else None) (Some b) (flag_byte b ≡ n) e
          (λ is same. ap flag_byte (sym (some_same false b same)) ∙ sym (eqb-true n 0 is))
          (λ other rest. pick (n == 1) (Some true) None (Some b) (flag_byte b ≡ n) rest
          (λ is same. ap flag_byte (sym (some_same true b same)) ∙ sym (eqb-true n 1 is))
          (λ other none. absurd (cc))),
    )))
    (elim [ true ↦ refl | false ↦ refl ]) (λ a g. g) (λ a g. g)

abbrev kind_byte : Kind → ℕ
kind_byte kinds.File = 1
kind_byte kinds.Directory = 2

pub exact_kind : IsExact read_kind kind always
exact_kind =
    exact_as kind always
    (exact_chosen kind_by_code kind_byte always exact_byte
    (elim [ kinds.File ↦ λ h. (lit< tt, refl) | kinds.Directory ↦ λ h. (lit< tt, refl) ])
    (λ n b g e. (
      tt,
      pick (n == 1) (Some kinds.File) (if n == 2 then Some kinds.Directory else None) (Some b) (kind_byte b ≡ n) e
          (λ is same. ap kind_byte (sym (some_same kinds.File b same)) ∙ sym (eqb-true n 1 is))
          (λ other rest. pick (n == 2) (Some kinds.Directory) None (Some b) (kind_byte b ≡ n) rest
          (λ is same. ap kind_byte (sym (some_same kinds.Directory b same)) ∙ sym (eqb-true n 2 is))
          (λ other none. absurd (cc))),
    )))
    (elim [ kinds.File ↦ refl | kinds.Directory ↦ refl ]) (λ a g. g) (λ a g. g)

abbrev type_kind_byte : TypeKind → ℕ
type_kind_byte type_kinds.Label = 1
type_kind_byte type_kinds.Branch = 2

pub exact_type_kind : IsExact read_type_kind type_kind always
exact_type_kind =
    exact_as type_kind always
    (exact_chosen type_kind_of type_kind_byte always exact_byte
    (elim [ type_kinds.Label ↦ λ h. (lit< tt, refl) | type_kinds.Branch ↦ λ h. (lit< tt, refl) ])
    (λ n b g e. (
      tt,
      pick (n == 1) (Some type_kinds.Label) (if n == 2 then Some type_kinds.Branch else None) (Some b) (type_kind_byte b ≡ n) e
          (λ is same. ap type_kind_byte (sym (some_same type_kinds.Label b same)) ∙ sym (eqb-true n 1 is))
          (λ other rest. pick (n == 2) (Some type_kinds.Branch) None (Some b) (type_kind_byte b ≡ n) rest
          (λ is same. ap type_kind_byte (sym (some_same type_kinds.Branch b same)) ∙ sym (eqb-true n 2 is))
          (λ other none. absurd (cc))),
    )))
    (elim [ type_kinds.Label ↦ refl | type_kinds.Branch ↦ refl ]) (λ a g. g) (λ a g. g)

abbrev out_number : Out → ℕ
out_number outs.No = 0
out_number outs.Reserved = 1
out_number outs.Unreserved = 2

pub exact_out : IsExact read_out out_byte always
exact_out =
    exact_as out_byte always
    (exact_chosen out_of out_number always exact_byte
    (elim [ outs.No ↦ λ h. (lit< tt, refl) | outs.Reserved ↦ λ h. (lit< tt, refl) | outs.Unreserved ↦ λ h. (lit< tt, refl) ])
    (λ n b g e. (
      tt,
      pick (n == 0) (Some outs.No) (if n == 1 then Some outs.Reserved else if n == 2 then Some outs.Unreserved else None) (Some b)
          (out_number b ≡ n) e
          (λ is same. ap out_number (sym (some_same outs.No b same)) ∙ sym (eqb-true n 0 is))
          (λ other rest. pick (n == 1) (Some outs.Reserved) (if n == 2 then Some outs.Unreserved else None) (Some b)
          (out_number b ≡ n) rest
          (λ is same. ap out_number (sym (some_same outs.Reserved b same)) ∙ sym (eqb-true n 1 is))
          (λ other last. pick (n == 2) (Some outs.Unreserved) None (Some b) (out_number b ≡ n) last
          (λ is same. ap out_number (sym (some_same outs.Unreserved b same)) ∙ sym (eqb-true n 2 is))
          (λ other none. absurd (cc)))),
    )))
    (elim [ outs.No ↦ refl | outs.Reserved ↦ refl | outs.Unreserved ↦ refl ]) (λ a g. g) (λ a g. g)
