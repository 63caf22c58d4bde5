-- A reader is exact for a spelling: it reads what is spelled and well formed, and what it reads is spelled so and well formed.
use Rattle.std.proofs.Common.{◌≡◌, ◌<◌, ℕ, zero, suc, Bool, true, false, Option, Some, None, Ok, Err, List, [], ◌∷◌, ◌++◌}
use Rattle.std.proofs.Common.{get_or, refl, sym, ◌∙◌, ap, subst, if◌then◌else◌, lit<}
use Rattle.std.proofs.lemmas.List.{append_assoc}
use Rattle.std.specs.List.{AllByRecursion}
use Rattle.row_form.specs.Readers.{Reading, Reader, then_read, both, reader_of_some, value_if, reader_of, or_fail}
use Rattle.row_form.proofs.Steps.{then_ok}

-- bytes are numbers below 256
abbrev pub AreBytes : List ℕ → Type 0
AreBytes bytes = AllByRecursion (λ b. b < 256) bytes

pub record IsExact {A : Type 0} (read : Reader A) (spell : A → List ℕ) (Good : A → Type 0) : Type 0 where
  pub back : (a : A) (rest : List ℕ) → Good a → read (spell a ++ rest) ≡ Ok (a, rest)
  pub read_back : (bytes : List ℕ) (a : A) (rest : List ℕ) → AreBytes bytes → read bytes ≡ Ok (a, rest) → Good a
      × (bytes ≡ spell a ++ rest)

pub prefix_bytes : (prefix rest : List ℕ) → AreBytes (prefix ++ rest) → AreBytes prefix
prefix_bytes [] rest h = tt
prefix_bytes (b ∷ bs) rest h = (h.0, prefix_bytes bs rest h.1)

pub rest_bytes : (prefix rest : List ℕ) → AreBytes (prefix ++ rest) → AreBytes rest
rest_bytes [] rest h = h
rest_bytes (b ∷ bs) rest h = rest_bytes bs rest h.1

pub byte_at : (bytes : List ℕ) → AreBytes bytes → (i : ℕ) → get_or bytes i 0 < 256
byte_at [] h i = lit< tt
byte_at (b ∷ bs) h zero = h.0
byte_at (b ∷ bs) h (suc i) = byte_at bs h.1 i

pub bytes_by_place : (bytes : List ℕ) → ((i : ℕ) → get_or bytes i 0 < 256) → AreBytes bytes
bytes_by_place [] h = tt
bytes_by_place (b ∷ bs) h = (h 0, bytes_by_place bs (λ i. h (suc i)))

pub same_read : {A : Type 0} (x y : A × List ℕ) → (let r : Reading A = Ok x in r ≡ Ok y) → x ≡ y
same_read {A} x y e =
    let value : Reading A → A × List ℕ = λ r. elim r [ Ok z ↦ z | Err at ↦ x ] in ap value e

-- what follows a part that was read
pub part : {A B : Type 0} (q : Reading A) (next : A → Reader B) (x : B × List ℕ) → then_read q next ≡ Ok x
    → (a : A) × (mid : List ℕ) × (q ≡ Ok (a, mid)) × (next a mid ≡ Ok x)
part (Ok read) next x e = (read.0, read.1, refl, e)
part (Err at) next x e = absurd (cc)

pub exact_both : {A B : Type 0} {one : Reader A} {two : Reader B} {s : A → List ℕ} {t : B → List ℕ} {G : A → Type 0} {H : B
    → Type 0}
    → IsExact one s G → IsExact two t H → IsExact (both one two) (λ p. s p.0 ++ t p.1) (λ p. G p.0 × H p.1)
exact_both {A} {B} {one} {two} {s} {t} {G} {H} first second = record {
  back = λ p rest g.
      ap (both one two) (append_assoc (s p.0) (t p.1) rest)
      ∙ then_ok (one (s p.0 ++ (t p.1 ++ rest))) (λ a mid. then_read (two mid) (λ b end. Ok ((a, b), end))) p.0 (t p.1 ++ rest)
      (first.back p.0 (t p.1 ++ rest) g.0)
      ∙ then_ok (two (t p.1 ++ rest)) (λ b end. Ok ((p.0, b), end)) p.1 rest (second.back p.1 rest g.1);
  read_back = λ bytes p rest hb e.
      let x = part (one bytes) (λ a mid. then_read (two mid) (λ b end. Ok ((a, b), end))) (p, rest) e in
      let f = first.read_back bytes x.0 x.1 hb x.2 in
      let y = part (two x.1) (λ b end. Ok ((x.0, b), end)) (p, rest) x.3 in
      let k = second.read_back x.1 y.0 y.1 (rest_bytes (s x.0) x.1 (subst AreBytes f.1 hb)) y.2 in
      let same = same_read ((x.0, y.0), y.1) (p, rest) y.3 in
      let P : (A × B) × List ℕ → Type 0 = λ z. (G z.0.0 × H z.0.1) × (bytes ≡ (s z.0.0 ++ t z.0.1) ++ z.1) in
      subst P same ((f.0, k.0), f.1 ∙ ap (λ m. s x.0 ++ m) k.1 ∙ sym (append_assoc (s x.0) (t y.0) y.1));
}

or_some : {B : Type 0} (o : Option B) (bytes mid : List ℕ) (x : B × List ℕ) → or_fail bytes o mid ≡ Ok x → (o ≡ Some x.0)
    × (mid ≡ x.1)
or_some (Some b) bytes mid x e = let same = same_read (b, mid) x e in (ap (λ z. Some z.0) same, ap (λ z. z.1) same)
or_some None bytes mid x e = absurd (cc)

pub exact_chosen : {A B : Type 0} {read : Reader A} {s : A → List ℕ} {G : A → Type 0} (choose : A → Option B) (origin : B
    → A) (H : B → Type 0)
    → IsExact read s G → ((b : B) → H b → G (origin b) × (choose (origin b) ≡ Some b))
    → ((a : A) (b : B) → G a → choose a ≡ Some b → H b × (origin b ≡ a))
    → IsExact (reader_of_some choose read) (λ b. s (origin b)) H
exact_chosen {A} {B} {read} {s} {G} choose origin H exact fits gives = record {
  back = λ b rest h.
      let f = fits b h in
      then_ok (read (s (origin b) ++ rest)) (λ a end. or_fail (s (origin b) ++ rest) (choose a) end) (origin b) rest
      (exact.back (origin b) rest f.0)
      ∙ ap (λ o. or_fail (s (origin b) ++ rest) o rest) f.1;
  read_back = λ bytes b rest hb e.
      let x = part (read bytes) (λ a end. or_fail bytes (choose a) end) (b, rest) e in
      let o = or_some (choose x.0) bytes x.1 (b, rest) x.3 in
      let f = exact.read_back bytes x.0 x.1 hb x.2 in
      let g = gives x.0 b f.0 o.0 in
      (g.0, f.1 ∙ ap (λ a. s a ++ x.1) (sym g.1) ∙ ap (λ m. s (origin b) ++ m) o.1);
}

pub chosen_if : {A : Type 0} (t : Bool) (a b : A) → (if t then Some a else None) ≡ Some b → (t ≡ true) × (a ≡ b)
chosen_if {A} true a b e = let value : Option A → A = λ o. elim o [ Some z ↦ z | None ↦ a ] in (refl, ap value e)
chosen_if false a b e = absurd (cc)

-- a part whose value passes a test
pub exact_tested : {A : Type 0} {read : Reader A} {s : A → List ℕ} {G : A → Type 0} (test : A → Bool) (H : A → Type 0)
    → IsExact read s G → ((a : A) → H a → G a × (test a ≡ true)) → ((a : A) → G a → test a ≡ true → H a)
    → IsExact (reader_of_some (value_if test) read) s H
exact_tested {A} {read} {s} {G} test H exact fits gives =
    exact_chosen (value_if test) (λ a. a) H exact
    (λ b h. let f = fits b h in (f.0, ap (λ t. if t then Some b else None) f.1))
    (λ a b g e. let c = chosen_if (test a) a b e in (subst H c.1 (gives a g c.0), sym c.1))

-- the same spelling, and the same form, in other words
pub exact_as : {A : Type 0} {read : Reader A} {s : A → List ℕ} {G : A → Type 0} (t : A → List ℕ) (H : A → Type 0)
    → IsExact read s G → ((a : A) → s a ≡ t a) → ((a : A) → G a → H a) → ((a : A) → H a → G a) → IsExact read t H
exact_as {A} {read} {s} {G} t H exact same there back = record {
  back = λ a rest h. ap (λ prefix. read (prefix ++ rest)) (sym (same a)) ∙ exact.back a rest (back a h);
  read_back = λ bytes a rest hb e. let f = exact.read_back bytes a rest hb e in
      (there a f.0, f.1 ∙ ap (λ prefix. prefix ++ rest) (same a));
}

-- a value made of what was read, and back
pub exact_made : {A B : Type 0} {read : Reader A} {s : A → List ℕ} {G : A → Type 0} (make : A → B) (origin : B → A) (H : B
    → Type 0)
    → IsExact read s G → ((b : B) → make (origin b) ≡ b) → ((a : A) → origin (make a) ≡ a) → ((b : B) → H b → G (origin b))
    → ((a : A) → G a → H (make a))
    → IsExact (reader_of make read) (λ b. s (origin b)) H
exact_made {A} {B} {read} {s} {G} make origin H exact again first there back =
    exact_chosen (λ a. Some (make a)) origin H exact
    (λ b h. (there b h, ap (λ z. Some z) (again b)))
    (λ a b g e. let c = chosen_if true (make a) b e in (subst H c.1 (back a g), ap origin (sym c.1) ∙ first a))

pub made_back : {A B : Type 0} {read : Reader A} {s : A → List ℕ} {G : A → Type 0} (make : A → B) → IsExact read s G
    → (a : A) (rest : List ℕ) → G a
    → reader_of make read (s a ++ rest) ≡ Ok (make a, rest)
made_back {A} {B} {read} {s} {G} make exact a rest g =
    then_ok (read (s a ++ rest)) (λ m end. or_fail (s a ++ rest) (Some (make m)) end) a rest (exact.back a rest g)

pub made_read_back : {A B : Type 0} {read : Reader A} {s : A → List ℕ} {G : A → Type 0} (make : A → B) → IsExact read s G
    → (bytes : List ℕ) (b : B) (rest : List ℕ)
    → AreBytes bytes → reader_of make read bytes ≡ Ok (b, rest) → (a : A) × G a × (make a ≡ b) × (bytes ≡ s a ++ rest)
made_read_back {A} {B} {read} {s} {G} make exact bytes b rest hb e =
    let x = part (read bytes) (λ m end. or_fail bytes (Some (make m)) end) (b, rest) e in
    let f = exact.read_back bytes x.0 x.1 hb x.2 in
    let same = same_read (make x.0, x.1) (b, rest) x.3 in
    (x.0, f.0, ap (λ z. z.0) same, f.1 ∙ ap (λ z. s x.0 ++ z.1) same)

-- a part, and what its value asks for after it
pub exact_then : {A B : Type 0} {one : Reader A} {s : A → List ℕ} {G : A → Type 0} (two : A → Reader B) (t : B → List ℕ) (H : B
    → Type 0) (prefix : B → A)
    → IsExact one s G → ((a : A) → G a → IsExact (two a) t (λ b. H b × (prefix b ≡ a))) → ((b : B) → H b → G (prefix b))
    → IsExact (λ bytes. then_read (one bytes) two) (λ b. s (prefix b) ++ t b) H
exact_then {A} {B} {one} {s} {G} two t H prefix first second good = record {
  back = λ b rest h.
      ap (λ bytes. then_read (one bytes) two) (append_assoc (s (prefix b)) (t b) rest)
      ∙ then_ok (one (s (prefix b) ++ (t b ++ rest))) two (prefix b) (t b ++ rest)
      (first.back (prefix b) (t b ++ rest) (good b h))
      ∙ (second (prefix b) (good b h)).back b rest (h, refl);
  read_back = λ bytes b rest hb e.
      let x = part (one bytes) two (b, rest) e in
      let f = first.read_back bytes x.0 x.1 hb x.2 in
      let k = (second x.0 f.0).read_back x.1 b rest (rest_bytes (s x.0) x.1 (subst AreBytes f.1 hb)) x.3 in (
        k.0.0,
        f.1 ∙ ap (λ m. s x.0 ++ m) k.1 ∙ ap (λ a. s a ++ (t b ++ rest)) (sym k.0.1)
            ∙ sym (append_assoc (s (prefix b)) (t b) rest),
      );
}
