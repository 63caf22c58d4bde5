-- How an expansion goes on from one piece to the next.
use Rattle.std.proofs.Common.{◌≡◌, ℕ, zero, suc, ◌+◌, ◌-◌, ◌<◌, Bool, true, false, ◌||◌, Some, None, List, [], ◌∷◌, ◌++◌, length}
use Rattle.std.proofs.Common.{map, take, drop, refl, sym, ap, ◌∙◌, subst, append_assoc, arith, length-append}
use Rattle.std.specs.Prelude.{if◌then◌else◌}
use Rattle.std.specs.Str.{bytes_eq}
use Rattle.std.proofs.lemmas.List.{append-nil, take-append-drop, take_all, drop_all, drop-append-le, take-append-le}
use Rattle.std.proofs.lemmas.Slice.Eq.{bytes_eq-Decides}
use Rattle.std.proofs.lemmas.Bool.{false_from_ne_true, or_parts}
use Rattle.cc_names.specs.declared.commands.Macro.{Macro}
use Rattle.std.specs.List.{position}
use Rattle.make_grammar.specs.Lines.{is_dollar}
use Rattle.make_text.proofs.PieceLemmas.{plain_all}
use Rattle.make_grammar.specs.Macros.{Piece, Byte, Reference, Expansion, plain, loop, one_after_other, expansion_of, pieces_of}
use Rattle.make_grammar.specs.Macros.{piece_expansion, pieces_expansion, value_in, is_among}
use Rattle.make_text.specs.Expanding.{Memo, Opened, opened_names, refer, goes_on, left_of, still, Admits, AreKnown, Gives}
use Rattle.make_text.specs.Expanding.{AllGive}

-- ---- expansions one after the other

followed_by : (loops : Bool) (bytes : List ℕ) (b c : Expansion) → one_after_other
    (one_after_other (record { bytes = bytes; loops = loops }) b) c ≡ one_after_other (record { bytes = bytes; loops = loops })
    (one_after_other b c)
followed_by true bytes b c = ap (λ v. record { bytes = v; loops = true }) (append-nil (bytes ++ []))
followed_by false bytes b c = ap (λ v. record { bytes = v; loops = b.loops || c.loops })
    (append_assoc bytes b.bytes (if b.loops then [] else c.bytes))

pub followed_assoc : (a b c : Expansion) → one_after_other (one_after_other a b) c ≡ one_after_other a (one_after_other b c)
followed_assoc a b c = followed_by a.loops a.bytes b c

nothing_by : (loops : Bool) (bytes : List ℕ) → one_after_other (record { bytes = bytes; loops = loops }) (plain [])
    ≡ record { bytes = bytes; loops = loops }
nothing_by true bytes = ap (λ v. record { bytes = v; loops = true }) (append-nil bytes)
nothing_by false bytes = ap (λ v. record { bytes = v; loops = false }) (append-nil bytes)

pub followed_nothing : (a : Expansion) → one_after_other a (plain []) ≡ a
followed_nothing a = nothing_by a.loops a.bytes

-- ---- names

pub same_bytes : (x y : List ℕ) → bytes_eq x y ≡ true → x ≡ y
same_bytes x y h = (bytes_eq-Decides x y).0 h

pub other_bytes : (x y : List ℕ) → (x ≡ y → ⊥) → bytes_eq x y ≡ false
other_bytes x y h = false_from_ne_true (bytes_eq x y) (λ e. h (same_bytes x y e))

-- the results with one more
abbrev pub with_result : List ℕ → List ℕ → Memo → Memo
with_result name bytes memo x = if bytes_eq name x then Some bytes else memo x

one_of_by : {P : Type 0} (b : Bool) (name bytes : List ℕ) (memo : Memo) (x found : List ℕ) → bytes_eq name x ≡ b
    → (if b then Some bytes else memo x) ≡ Some found → (name ≡ x → bytes ≡ found → P)
    → (bytes_eq name x ≡ false → memo x ≡ Some found → P) → P
one_of_by true name bytes memo x found e h this other = this (same_bytes name x e) cc
one_of_by false name bytes memo x found e h this other = other e h

-- a result that stands with one more is that one or one of the others
pub one_of : {P : Type 0} (name bytes : List ℕ) (memo : Memo) (x found : List ℕ) → with_result name bytes memo x ≡ Some found
    → (name ≡ x → bytes ≡ found → P) → (bytes_eq name x ≡ false → memo x ≡ Some found → P) → P
one_of {P} name bytes memo x found h this other = one_of_by (bytes_eq name x) name bytes memo x found refl h this other

-- another name has the result that it had
pub not_with : (name bytes : List ℕ) (memo : Memo) (x : List ℕ) → bytes_eq name x ≡ false → with_result name bytes memo x ≡ memo x
not_with name bytes memo x h = ap (λ b. if b then Some bytes else memo x) h

still_some_by : {P : Type 0} (b : Bool) (name bytes : List ℕ) (memo : Memo) (x found : List ℕ) → bytes_eq name x ≡ b
    → memo x ≡ Some found → ((other : List ℕ) → with_result name bytes memo x ≡ Some other → P) → P
still_some_by true name bytes memo x found e h next = next bytes (ap (λ b. if b then Some bytes else memo x) e)
still_some_by false name bytes memo x found e h next = next found (ap (λ b. if b then Some bytes else memo x) e ∙ h)

-- what has a result has one with one more
still_some : {P : Type 0} (name bytes : List ℕ) (memo : Memo) (x found : List ℕ) → memo x ≡ Some found
    → ((other : List ℕ) → with_result name bytes memo x ≡ Some other → P) → P
still_some {P} name bytes memo x found h next = still_some_by (bytes_eq name x) name bytes memo x found refl h next

pub none_or_some : (memo : Memo) (name x bytes : List ℕ) → memo name ≡ None → memo x ≡ Some bytes → x ≡ name → ⊥
none_or_some memo name x bytes h k e = let l : memo name ≡ Some bytes = ap memo (sym e) ∙ k in cc

pub none_or_defined : (macros : List Macro) (name x value : List ℕ) → value_in macros name ≡ Some value → value_in macros x ≡ None
    → x ≡ name → ⊥
none_or_defined macros name x value h k e = let l : value_in macros name ≡ None = ap (value_in macros) (sym e) ∙ k in cc

-- ---- pieces

module _ (macros : List Macro) (automatic : ℕ → List ℕ) where
  pieces_append : (refer : List ℕ → Expansion) (ps qs : List Piece) → pieces_expansion refer automatic (ps ++ qs)
      ≡ one_after_other (pieces_expansion refer automatic ps) (pieces_expansion refer automatic qs)
  pieces_append refer [] qs = refl
  pieces_append refer (p ∷ ps) qs =
      ap (one_after_other (piece_expansion refer automatic p)) (pieces_append refer ps qs)
      ∙ sym (followed_assoc (piece_expansion refer automatic p) (pieces_expansion refer automatic ps)
      (pieces_expansion refer automatic qs))

  pub bytes_expansion : (refer : List ℕ → Expansion) (bytes : List ℕ) → pieces_expansion refer automatic (map Byte bytes)
      ≡ plain bytes
  bytes_expansion refer [] = refl
  bytes_expansion refer (b ∷ bs) = ap (one_after_other (plain (b ∷ []))) (bytes_expansion refer bs)

  -- what some pieces give where others follow
  pub goes_on_append : (left : ℕ) (begun : List (List ℕ)) (ps qs : List Piece)
      → goes_on macros automatic left begun (ps ++ qs) ≡ one_after_other (goes_on macros automatic left begun ps)
      (goes_on macros automatic left begun qs)
  goes_on_append left begun ps qs = pieces_append (refer macros automatic left begun) ps qs

  -- ---- results

  admits_more : (memo : Memo) (size left : ℕ) (begun : List (List ℕ)) (name value : List ℕ)
      → Admits macros automatic memo size left begun → memo name ≡ None → value_in macros name ≡ Some value
      → Admits macros automatic memo size left (name ∷ begun)
  admits_more memo size left begun name value a unknown has = record {
    room = a.room;
    apart = λ x bytes h. ap (λ b. b || is_among begun x) (other_bytes x name (none_or_some memo name x bytes unknown h))
        ∙ a.apart x bytes h;
    defined = λ x h. ap (λ b. b || is_among begun x) (other_bytes x name (none_or_defined macros name x value has h))
        ∙ a.defined x h;
  }

  admits_fewer : (memo : Memo) (size left : ℕ) (begun : List (List ℕ)) (name bytes : List ℕ)
      → Admits macros automatic (with_result name bytes memo) (size + 1) left begun → Admits macros automatic memo size left begun
  admits_fewer memo size left begun name bytes a = record {
    room = omega (arith, a.room);
    apart = λ x found h. still_some name bytes memo x found h (λ other k. a.apart x other k);
    defined = a.defined;
  }

  -- a macro that is not defined is empty
  pub undefined_expansion : (left : ℕ) (begun : List (List ℕ)) (name : List ℕ) → value_in macros name ≡ None
      → is_among begun name ≡ false → refer macros automatic left begun name ≡ plain []
  undefined_expansion zero begun name none apart = rw none refl
  undefined_expansion (suc left) begun name none apart = rw (apart, none) refl

  pub defined_expansion : (left : ℕ) (begun : List (List ℕ)) (name value : List ℕ) → value_in macros name ≡ Some value
      → is_among begun name ≡ false → refer macros automatic (suc left) begun name
      ≡ goes_on macros automatic left (name ∷ begun) (pieces_of value)
  defined_expansion left begun name value has apart = rw (apart, has) refl

  pub loop_expansion : (left : ℕ) (begun : List (List ℕ)) (name value : List ℕ) → value_in macros name ≡ Some value
      → is_among begun name ≡ true → refer macros automatic left begun name ≡ loop
  loop_expansion zero begun name value has among = rw has refl
  loop_expansion (suc left) begun name value has among = rw among refl

  -- ---- what a macro gives so far

  pub gives_step : (memo : Memo) (size : ℕ) (name written bytes : List ℕ) (ps later : List Piece)
      → Gives macros automatic memo size name written (ps ++ later) → ((left : ℕ) (begun : List (List ℕ))
      → Admits macros automatic memo size left begun → goes_on macros automatic left begun ps ≡ plain bytes)
      → Gives macros automatic memo size name (written ++ bytes) later
  gives_step memo size name written bytes ps later h step = record {
    unknown = h.unknown;
    value = h.value;
    has_value = h.has_value;
    so_far = λ left begun a.
        h.so_far left begun a
        ∙ ap (one_after_other (plain written)) (goes_on_append left (name ∷ begun) ps later
        ∙ ap (λ v. one_after_other v (goes_on macros automatic left (name ∷ begun) later))
        (step left (name ∷ begun) (admits_more memo size left begun name h.value a h.unknown h.has_value)))
        ∙ sym (followed_assoc (plain written) (plain bytes) (goes_on macros automatic left (name ∷ begun) later));
  }

  gives_more : (memo : Memo) (size : ℕ) (name written : List ℕ) (later : List Piece) (other bytes : List ℕ)
      → Gives macros automatic memo size name written later → bytes_eq other name ≡ false
      → Gives macros automatic (with_result other bytes memo) (size + 1) name written later
  gives_more memo size name written later other bytes h apart = record {
    unknown = not_with other bytes memo name apart ∙ h.unknown;
    value = h.value;
    has_value = h.has_value;
    so_far = λ left begun a. h.so_far left begun (admits_fewer memo size left begun other bytes a);
  }

  finished : (memo : Memo) (size : ℕ) (name written : List ℕ) → Gives macros automatic memo size name written []
      → (left : ℕ) (begun : List (List ℕ)) → Admits macros automatic (with_result name written memo) (size + 1) left begun
      → refer macros automatic left begun name ≡ plain written
  finished memo size name written h zero begun a = let r = a.room in absurd (omega arith)
  finished memo size name written h (suc left) begun a =
      let own : with_result name written memo name ≡ Some written = ap (λ b. if b then Some written else memo name)
      ((bytes_eq-Decides name name).1 refl) in
      let here : is_among begun name ≡ false = a.apart name written own in
      let r = a.room in
      let fewer : Admits macros automatic memo size left begun = record {
        room = omega arith;
        apart = λ x found k. still_some name written memo x found k (λ other m. a.apart x other m);
        defined = a.defined;
      } in
      defined_expansion left begun name h.value h.has_value here
      ∙ h.so_far left begun fewer
      ∙ ap plain (append-nil written)

  -- a macro that came to its end has its result
  pub settled_more : (memo : Memo) (size : ℕ) (name written : List ℕ) → AreKnown macros automatic memo size
      → Gives macros automatic memo size name written [] → AreKnown macros automatic (with_result name written memo) (size + 1)
  settled_more memo size name written s h x bytes k left begun a =
      one_of name written memo x bytes k
      (λ e w. ap (λ v. refer macros automatic left begun v) (sym e) ∙ finished memo size name written h left begun a ∙ ap plain w)
      (λ apart old. s x bytes old left begun (admits_fewer memo size left begun name written a))

  -- a reference to a macro that has a result
  pub known_expansion : (memo : Memo) (size : ℕ) (name bytes : List ℕ) → AreKnown macros automatic memo size
      → memo name ≡ Some bytes → (left : ℕ) (begun : List (List ℕ)) → Admits macros automatic memo size left begun
      → goes_on macros automatic left begun (Reference name ∷ []) ≡ plain bytes
  known_expansion memo size name bytes s h left begun a =
      ap (λ v. one_after_other v (plain [])) (s name bytes h left begun a) ∙ ap plain (append-nil bytes)

  -- ---- the macros that are being expanded

  all_more : (memo : Memo) (size : ℕ) (written : List ℕ) (ps : List Piece) (rest : List ℕ) (opened : List Opened)
      (other bytes : List ℕ) → AllGive macros automatic memo size written ps rest opened
      → is_among (opened_names opened) other ≡ false → AllGive macros automatic (with_result other bytes memo) (size + 1) written
      ps rest opened
  all_more memo size written ps rest [] other bytes h apart = tt
  all_more memo size written ps rest (o ∷ opened) other bytes h apart =
      let both = or_parts (bytes_eq other o.name) (is_among (opened_names opened) other) apart in (
        gives_more memo size o.name (drop o.start written) (ps ++ pieces_of rest) other bytes h.0 both.0,
        h.1,
        h.2,
        all_more memo size (take o.start written) (Reference o.name ∷ []) o.outer opened other bytes h.3 both.1,
      )

  -- pieces that are cut off the rest
  pub all_cut : (memo : Memo) (size : ℕ) (written rest behind : List ℕ) (ps : List Piece) (opened : List Opened)
      → AllGive macros automatic memo size written [] rest opened → pieces_of rest ≡ ps ++ pieces_of behind
      → AllGive macros automatic memo size written ps behind opened
  all_cut memo size written rest behind ps [] h cut = tt
  all_cut memo size written rest behind ps (o ∷ opened) h cut =
      (subst (λ v. Gives macros automatic memo size o.name (drop o.start written) v) cut h.0, h.1, h.2, h.3)

  -- bytes that some pieces gave
  pub all_step : (memo : Memo) (size : ℕ) (written bytes : List ℕ) (ps : List Piece) (rest : List ℕ) (opened : List Opened)
      → AllGive macros automatic memo size written ps rest opened → ((left : ℕ) (begun : List (List ℕ))
      → Admits macros automatic memo size left begun → goes_on macros automatic left begun ps ≡ plain bytes)
      → AllGive macros automatic memo size (written ++ bytes) [] rest opened
  all_step memo size written bytes ps rest [] h step = tt
  all_step memo size written bytes ps rest (o ∷ opened) h step =
      let next = gives_step memo size o.name (drop o.start written) bytes ps (pieces_of rest) h.0 step in
      let l = h.1 in (
        rw (drop-append-le o.start written bytes l) next,
        rw (length-append written bytes) (omega arith),
        h.2,
        rw (take-append-le o.start written bytes l) h.3,
      )

  -- a macro whose expansion begins
  pub all_begun : (memo : Memo) (size : ℕ) (written name value rest : List ℕ) (opened : List Opened)
      → AllGive macros automatic memo size written (Reference name ∷ []) rest opened → memo name ≡ None
      → value_in macros name ≡ Some value → is_among (opened_names opened) name ≡ false
      → AllGive macros automatic memo size written [] value (record { name = name; outer = rest; start = length written }
      ∷ opened)
  all_begun memo size written name value rest opened h unknown has apart = (
    record {
      unknown = unknown;
      value = value;
      has_value = has;
      so_far = λ left begun a. ap (λ v. one_after_other (plain v) (goes_on macros automatic left (name ∷ begun)
          (pieces_of value))) (sym (drop_all (length written) written (omega arith)));
    },
    omega arith,
    apart,
    rw (take_all (length written) written (omega arith)) h,
  )

  -- a macro whose expansion ends: it gave what was written since it was begun
  pub all_finished : (memo : Memo) (size : ℕ) (written : List ℕ) (o : Opened) (opened : List Opened)
      → AllGive macros automatic memo size written [] [] (o ∷ opened) → AreKnown macros automatic memo size
      → AllGive macros automatic (with_result o.name (drop o.start written) memo) (size + 1) written [] o.outer opened
      × AreKnown macros automatic (with_result o.name (drop o.start written) memo) (size + 1)
  all_finished memo size written o opened h s =
      let whole : Gives macros automatic memo size o.name (drop o.start written) [] = h.0 in
      let settled = settled_more memo size o.name (drop o.start written) s whole in
      let memo' = with_result o.name (drop o.start written) memo in
      let more = all_more memo size (take o.start written) (Reference o.name ∷ []) o.outer opened o.name (drop o.start written)
      h.3 h.2 in
      let own : memo' o.name ≡ Some (drop o.start written) = ap (λ b. if b then Some (drop o.start written) else memo o.name)
      ((bytes_eq-Decides o.name o.name).1 refl) in
      let stepped = all_step memo' (size + 1) (take o.start written) (drop o.start written) (Reference o.name ∷ []) o.outer opened
      more (known_expansion memo' (size + 1) o.name (drop o.start written) settled own) in (
        subst (λ w. AllGive macros automatic memo' (size + 1) w [] o.outer opened) (take-append-drop o.start written) stepped,
        settled,
      )

  -- ---- what is still to come

  abbrev room_in : List Opened → ℕ
  room_in opened = left_of macros automatic opened

  -- what is still to come is what the first pieces of the rest give, and then what is after them
  pub still_cut : (rest behind : List ℕ) (ps : List Piece) (opened : List Opened) → pieces_of rest ≡ ps ++ pieces_of behind
      → still macros automatic rest opened ≡ one_after_other (goes_on macros automatic (room_in opened) (opened_names opened) ps)
      (still macros automatic behind opened)
  still_cut rest behind ps [] h =
      let all : length macros ≡ room_in [] = omega arith in
      ap (goes_on macros automatic (length macros) []) h ∙ goes_on_append (length macros) [] ps (pieces_of behind)
      ∙ ap (λ n. one_after_other (goes_on macros automatic n [] ps) (still macros automatic behind [])) all
  still_cut rest behind ps (o ∷ opened) h =
      let left = room_in (o ∷ opened) in
      let names = opened_names (o ∷ opened) in
      ap (λ v. one_after_other (goes_on macros automatic left names v) (still macros automatic o.outer opened)) h
      ∙ ap (λ v. one_after_other v (still macros automatic o.outer opened)) (goes_on_append left names ps (pieces_of behind))
      ∙ followed_assoc (goes_on macros automatic left names ps) (goes_on macros automatic left names (pieces_of behind))
      (still macros automatic o.outer opened)

  -- a macro whose expansion begins is what a reference to it gives
  pub still_begun : (rest name value : List ℕ) (start : ℕ) (opened : List Opened) → value_in macros name ≡ Some value
      → is_among (opened_names opened) name ≡ false → length opened < length macros
      → one_after_other (goes_on macros automatic (room_in opened) (opened_names opened) (Reference name ∷ []))
      (still macros automatic rest opened) ≡ still macros automatic value (record { name = name; outer = rest; start = start }
      ∷ opened)
  still_begun rest name value start opened has apart room =
      let left : room_in opened ≡ suc (length macros - suc (length opened)) = omega arith in
      ap (λ v. one_after_other v (still macros automatic rest opened))
      (followed_nothing (refer macros automatic (room_in opened) (opened_names opened) name)
      ∙ ap (λ n. refer macros automatic n (opened_names opened) name) left
      ∙ defined_expansion (length macros - suc (length opened)) (opened_names opened) name value has apart)

-- a text without a `$` is what it expands to
pub no_dollar : (macros : List Macro) (automatic : ℕ → List ℕ) (text : List ℕ) → position is_dollar text ≡ None
    → expansion_of macros automatic text ≡ plain text
no_dollar macros automatic text none =
    ap (goes_on macros automatic (length macros) []) (plain_all text none ∙ append-nil (map Byte text))
    ∙ bytes_expansion macros automatic (refer macros automatic (length macros) []) text
