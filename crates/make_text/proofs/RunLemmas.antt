-- The steps of an expansion.
use Rattle.std.proofs.Common.{◌≡◌, ◌≢◌, inl, inr, ℕ, zero, suc, ◌+◌, ◌-◌, ◌<◌, ◌≤◌, true, false, ◌||◌, Some, None, List, [], ◌∷◌}
use Rattle.std.proofs.Common.{◌++◌, length, map, take, drop, set, replicate, refl, sym, ap, ◌∙◌, subst, one-add, arith}
use Rattle.std.proofs.Common.{length-append, length-set}
use Rattle.std.specs.Prelude.{if◌then◌else◌, sum_by}
use Rattle.std.specs.Str.{bytes_eq}
use Rattle.std.proofs.lemmas.List.{append-nil, take_rest, drop-append-le, take-append-le, get_or-set_same, get_or-set_other}
use Rattle.std.proofs.lemmas.List.{get_or-replicate, length-drop, length-replicate}
use Rattle.std.proofs.lemmas.List.Sums.{sum_by-cons, sum_by-set}
use Rattle.std.proofs.lemmas.Bool.{cases_eq, or_parts}
use Rattle.std.proofs.lemmas.Slice.Eq.{bytes_eq-Decides}
use Rattle.cc_names.specs.declared.commands.Macro.{Macro}
use Rattle.make_grammar.specs.Macros.{Piece, Byte, Reference, Automatic, Bad, Expansion, plain, one_after_other, pieces_of}
use Rattle.make_grammar.specs.Macros.{expansion_of, value_in, is_among}
use Rattle.make_text.specs.Expanding.{Opened, opened_names, refer, goes_on, left_of, still, Admits}
use Rattle.make_text.specs.Runs.{macro_at, HasNamesApart, result_in, EndsIn, is_begun, count_untouched, Runs}
use Rattle.make_text.specs.States.{state_at}
use Rattle.make_text.specs.declared.states.State.{State}
use Rattle.make_text.specs.declared.states.State.TheVariants.{Untouched, Begun, Expanded}
use Rattle.make_text.proofs.ExpansionLemmas.{other_bytes, with_result, one_of, not_with, none_or_some, none_or_defined}
use Rattle.make_text.proofs.ExpansionLemmas.{known_expansion, undefined_expansion, loop_expansion, bytes_expansion, all_cut}
use Rattle.make_text.proofs.ExpansionLemmas.{all_step, all_begun, all_finished, still_cut, still_begun, followed_assoc}

-- ---- states

all_untouched : (n : ℕ) → sum_by count_untouched (replicate n Untouched) ≡ n
all_untouched zero = refl
all_untouched (suc n) = sum_by-cons count_untouched Untouched (replicate n Untouched) ∙ ap (λ v. 1 + v) (all_untouched n)
    ∙ one-add n

longer_result : (written bytes : List ℕ) (state : State) → EndsIn written state
    → result_in (written ++ bytes) state ≡ result_in written state
longer_result written bytes Untouched h = refl
longer_result written bytes Begun h = refl
longer_result written bytes (Expanded start len) h =
    let l : start ≤ length written = omega arith in
    let m : len ≤ length (drop start written) = omega (arith, length-drop start written) in
    ap (λ v. Some (take len v)) (drop-append-le start written bytes l) ∙ ap Some (take-append-le len (drop start written) bytes m)

longer_ends : (written bytes : List ℕ) (state : State) → EndsIn written state → EndsIn (written ++ bytes) state
longer_ends written bytes Untouched h = tt
longer_ends written bytes Begun h = tt
longer_ends written bytes (Expanded start len) h = omega (arith, length-append written bytes)

pub begun_is_touched : (state : State) → is_begun state ≡ true → count_untouched state ≡ 0
begun_is_touched Untouched h = absurd cc
begun_is_touched Begun h = refl
begun_is_touched (Expanded start len) h = refl

same_or : {P : Type 0} (i j : ℕ) → (i ≡ j → P) → (j ≢ i → P) → P
same_or {P} i j same other = elim (cases_eq j i) [ inl e ↦ same (sym e) | inr h ↦ other h ]

module _ (macros : List Macro) (automatic : ℕ → List ℕ) where
  -- the names that are being expanded now are admitted
  admits_now : {total : Expansion} {pieces : List Piece} {rest written : List ℕ} {opened : List Opened} {states : List State}
      → (r : Runs macros automatic total pieces rest written opened states)
      → Admits macros automatic r.memo r.size (left_of macros automatic opened) (opened_names opened)
  admits_now {opened = opened} r = let c = r.counted in record { room = omega arith; apart = r.apart; defined = r.defined }

  pub runs_cut : (total : Expansion) (rest behind written : List ℕ) (ps : List Piece) (opened : List Opened) (states : List State)
      → Runs macros automatic total [] rest written opened states → pieces_of rest ≡ ps ++ pieces_of behind
      → Runs macros automatic total ps behind written opened states
  runs_cut total rest behind written ps opened states r cut = record {
    memo = r.memo;
    size = r.size;
    whole = ap (one_after_other (plain written)) (sym (still_cut macros automatic rest behind ps opened cut)) ∙ r.whole;
    gives = all_cut macros automatic r.memo r.size written rest behind ps opened r.gives cut;
    settled = r.settled;
    known = r.known;
    results = r.results;
    ends = r.ends;
    begun = r.begun;
    apart = r.apart;
    defined = r.defined;
    counted = r.counted;
  }

  pub runs_write : (total : Expansion) (rest written bytes : List ℕ) (ps : List Piece) (opened : List Opened)
      (states : List State) → (r : Runs macros automatic total ps rest written opened states)
      → ((left : ℕ) (begun : List (List ℕ)) → Admits macros automatic r.memo r.size left begun
      → goes_on macros automatic left begun ps ≡ plain bytes) → Runs macros automatic total [] rest (written ++ bytes) opened
      states
  runs_write total rest written bytes ps opened states r step = record {
    memo = r.memo;
    size = r.size;
    whole =
        followed_assoc (plain written) (plain bytes) (still macros automatic rest opened)
        ∙ ap (λ v. one_after_other (plain written) (one_after_other v (still macros automatic rest opened)))
        (sym (step (left_of macros automatic opened) (opened_names opened) (admits_now r)))
        ∙ r.whole;
    gives = all_step macros automatic r.memo r.size written bytes ps rest opened r.gives step;
    settled = r.settled;
    known = r.known;
    results = λ i l. r.results i l ∙ sym (longer_result written bytes (state_at states i) (r.ends i l));
    ends = λ i l. longer_ends written bytes (state_at states i) (r.ends i l);
    begun = r.begun;
    apart = r.apart;
    defined = r.defined;
    counted = r.counted;
  }

  -- bytes that stand for themselves, and the value of `$@`, `$<` or `$*`
  pub runs_bytes : (total : Expansion) (rest written bytes : List ℕ) (opened : List Opened) (states : List State)
      → Runs macros automatic total (map Byte bytes) rest written opened states
      → Runs macros automatic total [] rest (written ++ bytes) opened states
  runs_bytes total rest written bytes opened states r = runs_write total rest written bytes (map Byte bytes) opened states r
      (λ left begun a. bytes_expansion macros automatic (refer macros automatic left begun) bytes)

  pub runs_automatic : (total : Expansion) (rest written : List ℕ) (b : ℕ) (opened : List Opened) (states : List State)
      → Runs macros automatic total (Automatic b ∷ []) rest written opened states
      → Runs macros automatic total [] rest (written ++ automatic b) opened states
  runs_automatic total rest written b opened states r = runs_write total rest written (automatic b) (Automatic b ∷ []) opened
      states r (λ left begun a. ap plain (append-nil (automatic b)))

  pub runs_bad : (total : Expansion) (rest written : List ℕ) (opened : List Opened) (states : List State)
      → Runs macros automatic total (Bad ∷ []) rest written opened states
      → Runs macros automatic total [] rest written opened states
  runs_bad total rest written opened states r =
      subst (λ w. Runs macros automatic total [] rest w opened states) (append-nil written)
      (runs_write total rest written [] (Bad ∷ []) opened states r (λ left begun a. refl))

  -- a macro that is not defined, and one whose expansion ended
  pub runs_undefined : (total : Expansion) (rest written name : List ℕ) (opened : List Opened) (states : List State)
      → Runs macros automatic total (Reference name ∷ []) rest written opened states → value_in macros name ≡ None
      → Runs macros automatic total [] rest written opened states
  runs_undefined total rest written name opened states r none =
      subst (λ w. Runs macros automatic total [] rest w opened states) (append-nil written)
      (runs_write total rest written [] (Reference name ∷ []) opened states r
      (λ left begun a. ap (λ v. one_after_other v (plain [])) (undefined_expansion macros automatic left begun name none
      (a.defined name none))))

  pub runs_known : (total : Expansion) (rest written : List ℕ) (i start len : ℕ) (opened : List Opened) (states : List State)
      → Runs macros automatic total (Reference (macro_at macros i).name ∷ []) rest written opened states → i < length macros
      → state_at states i ≡ Expanded start len → Runs macros automatic total [] rest (written ++ take len (drop start written))
      opened states
  runs_known total rest written i start len opened states r l e =
      let name = (macro_at macros i).name in
      let result : r.memo name ≡ Some (take len (drop start written)) = r.results i l ∙ ap (result_in written) e in
      runs_write total rest written (take len (drop start written)) (Reference name ∷ []) opened states r
      (known_expansion macros automatic r.memo r.size name (take len (drop start written)) r.settled result)

  -- a macro whose expansion begins
  pub runs_begin : (total : Expansion) (rest written : List ℕ) (i : ℕ) (opened : List Opened) (states : List State)
      → HasNamesApart macros → Runs macros automatic total (Reference (macro_at macros i).name ∷ []) rest written opened states
      → i < length macros → value_in macros (macro_at macros i).name ≡ Some (macro_at macros i).value
      → state_at states i ≡ Untouched → Runs macros automatic total [] (macro_at macros i).value written
      (record { name = (macro_at macros i).name; outer = rest; start = length written } ∷ opened) (set states i Begun)
  runs_begin total rest written i opened states distinct r l has e =
      let name = (macro_at macros i).name in
      let value = (macro_at macros i).value in
      let k : i < length states = rw r.known l in
      let unknown : r.memo name ≡ None = r.results i l ∙ ap (result_in written) e in
      let here : is_among (opened_names opened) name ≡ false = r.begun i l ∙ ap is_begun e in
      let fewer : sum_by count_untouched (set states i Begun) + count_untouched (state_at states i)
      ≡ sum_by count_untouched states + 0 = sum_by-set count_untouched states i Begun Untouched k in
      let one : count_untouched (state_at states i) ≡ 1 = ap count_untouched e in
      let all = r.counted in
      let room : length opened < length macros = omega arith in
      record {
        memo = r.memo;
        size = r.size;
        whole = ap (one_after_other (plain written)) (sym (still_begun macros automatic rest name value (length written) opened
            has here room)) ∙ r.whole;
        gives = all_begun macros automatic r.memo r.size written name value rest opened r.gives unknown has here;
        settled = r.settled;
        known = length-set states i Begun ∙ r.known;
        results = λ j m. same_or i j
            (λ s. subst (λ v. r.memo (macro_at macros v).name ≡ result_in written (state_at (set states i Begun) v)) s (unknown
            ∙ sym (ap (result_in written) (get_or-set_same states i Begun Untouched k))))
            (λ o. r.results j m ∙ sym (ap (result_in written) (get_or-set_other states i j Begun Untouched o)));
        ends = λ j m. same_or i j
            (λ s. subst (λ v. EndsIn written (state_at (set states i Begun) v)) s
            (subst (EndsIn written) (sym (get_or-set_same states i Begun Untouched k)) tt))
            (λ o. subst (EndsIn written) (sym (get_or-set_other states i j Begun Untouched o)) (r.ends j m));
        begun = λ j m. same_or i j
            (λ s. subst (λ v. is_among (name ∷ opened_names opened) (macro_at macros v).name
            ≡ is_begun (state_at (set states i Begun) v)) s
            (ap (λ b. b || is_among (opened_names opened) name) ((bytes_eq-Decides name name).1 refl)
            ∙ sym (ap is_begun (get_or-set_same states i Begun Untouched k))))
            (λ o. ap (λ b. b || is_among (opened_names opened) (macro_at macros j).name)
            (other_bytes (macro_at macros j).name name (λ q. o (distinct j i m l q)))
            ∙ r.begun j m ∙ sym (ap is_begun (get_or-set_other states i j Begun Untouched o)));
        apart = λ x bytes h. ap (λ b. b || is_among (opened_names opened) x)
            (other_bytes x name (none_or_some r.memo name x bytes unknown h)) ∙ r.apart x bytes h;
        defined = λ x h. ap (λ b. b || is_among (opened_names opened) x)
            (other_bytes x name (none_or_defined macros name x value has h)) ∙ r.defined x h;
        counted = omega arith;
      }

  -- a macro whose expansion ends
  pub runs_end : (total : Expansion) (written outer : List ℕ) (i start : ℕ) (opened : List Opened) (states : List State)
      → HasNamesApart macros → Runs macros automatic total [] [] written
      (record { name = (macro_at macros i).name; outer = outer; start = start } ∷ opened) states → i < length macros
      → Runs macros automatic total [] outer written opened (set states i (Expanded start (length written - start)))
  runs_end total written outer i start opened states distinct r l =
      let name = (macro_at macros i).name in
      let o : Opened = record { name = name; outer = outer; start = start } in
      let ended : State = Expanded start (length written - start) in
      let k : i < length states = rw r.known l in
      let here : is_among (opened_names opened) name ≡ false = r.gives.2 in
      let within : start ≤ length written = r.gives.1 in
      let own : is_among (name ∷ opened_names opened) name ≡ true = ap (λ b. b || is_among (opened_names opened) name)
      ((bytes_eq-Decides name name).1 refl) in
      let was : is_begun (state_at states i) ≡ true = sym (r.begun i l) ∙ own in
      let none : count_untouched (state_at states i) ≡ 0 = begun_is_touched (state_at states i) was in
      let same : sum_by count_untouched (set states i ended) + count_untouched (state_at states i)
      ≡ sum_by count_untouched states + 0 = sum_by-set count_untouched states i ended Untouched k in
      let all = r.counted in
      let next = all_finished macros automatic r.memo r.size written o opened r.gives r.settled in
      let result = with_result name (drop start written) r.memo in
      let own_result : result name ≡ Some (drop start written) = ap (λ b. if b then Some (drop start written) else r.memo name)
      ((bytes_eq-Decides name name).1 refl) in
      record {
        memo = result;
        size = r.size + 1;
        whole = r.whole;
        gives = next.0;
        settled = next.1;
        known = length-set states i ended ∙ r.known;
        results = λ j m. same_or i j
            (λ s. subst (λ v. result (macro_at macros v).name ≡ result_in written (state_at (set states i ended) v)) s
            (own_result ∙ ap Some (sym (take_rest written start)) ∙ sym
            (ap (result_in written) (get_or-set_same states i ended Untouched k))))
            (λ d. not_with name (drop start written) r.memo (macro_at macros j).name
            (other_bytes name (macro_at macros j).name (λ q. d (sym (distinct i j l m q))))
            ∙ r.results j m ∙ sym (ap (result_in written) (get_or-set_other states i j ended Untouched d)));
        ends = λ j m. same_or i j
            (λ s. subst (λ v. EndsIn written (state_at (set states i ended) v)) s
            (subst (EndsIn written) (sym (get_or-set_same states i ended Untouched k)) (omega arith)))
            (λ d. subst (EndsIn written) (sym (get_or-set_other states i j ended Untouched d)) (r.ends j m));
        begun = λ j m. same_or i j
            (λ s. subst (λ v. is_among (opened_names opened) (macro_at macros v).name
            ≡ is_begun (state_at (set states i ended) v)) s
            (here ∙ sym (ap is_begun (get_or-set_same states i ended Untouched k))))
            (λ d. sym (ap (λ b. b || is_among (opened_names opened) (macro_at macros j).name)
            (other_bytes (macro_at macros j).name name (λ q. d (distinct j i m l q))))
            ∙ r.begun j m ∙ sym (ap is_begun (get_or-set_other states i j ended Untouched d)));
        apart = λ x bytes h. one_of name (drop start written) r.memo x bytes h
            (λ e w. ap (is_among (opened_names opened)) (sym e) ∙ here)
            (λ d old. (or_parts (bytes_eq x name) (is_among (opened_names opened) x) (r.apart x bytes old)).1);
        defined = λ x h. (or_parts (bytes_eq x name) (is_among (opened_names opened) x) (r.defined x h)).1;
        counted = omega arith;
      }

  -- a reference to a macro that is being expanded
  pub runs_loop : (total : Expansion) (rest written : List ℕ) (i : ℕ) (opened : List Opened) (states : List State)
      → Runs macros automatic total (Reference (macro_at macros i).name ∷ []) rest written opened states → i < length macros
      → value_in macros (macro_at macros i).name ≡ Some (macro_at macros i).value → state_at states i ≡ Begun
      → total ≡ record { bytes = written; loops = true }
  runs_loop total rest written i opened states r l has e =
      let name = (macro_at macros i).name in
      let here : is_among (opened_names opened) name ≡ true = r.begun i l ∙ ap is_begun e in
      sym r.whole
      ∙ ap (λ v. one_after_other (plain written) (one_after_other (one_after_other v (plain []))
      (still macros automatic rest opened))) (loop_expansion macros automatic (left_of macros automatic opened)
      (opened_names opened) name (macro_at macros i).value has here)
      ∙ ap (λ v. record { bytes = v; loops = true }) (append-nil written)

  -- nothing is left
  pub runs_done : (total : Expansion) (written : List ℕ) (states : List State)
      → Runs macros automatic total [] [] written [] states → total ≡ plain written
  runs_done total written states r = sym r.whole ∙ ap plain (append-nil written)

  -- what was written stands at the start of what there is in the end
  pub runs_longer : (total : Expansion) (rest written : List ℕ) (opened : List Opened) (states : List State)
      → Runs macros automatic total [] rest written opened states → length written ≤ length total.bytes
  runs_longer total rest written opened states r =
      let long : length written ≤ length (written ++ (still macros automatic rest opened).bytes) =
      omega (arith, length-append written (still macros automatic rest opened).bytes) in
      subst (λ v. length written ≤ length v.bytes) r.whole long

  -- nothing was done yet
  pub runs_start : (text : List ℕ) → Runs macros automatic (expansion_of macros automatic text) [] text [] []
      (replicate (length macros) Untouched)
  runs_start text = record {
    memo = λ x. None;
    size = 0;
    whole = refl;
    gives = tt;
    settled = λ x bytes h left begun a. absurd cc;
    known = length-replicate (length macros) Untouched;
    results = λ i l. sym (ap (result_in []) (get_or-replicate (length macros) i Untouched Untouched l));
    ends = λ i l. subst (EndsIn []) (sym (get_or-replicate (length macros) i Untouched Untouched l)) tt;
    begun = λ i l. sym (ap is_begun (get_or-replicate (length macros) i Untouched Untouched l));
    apart = λ x bytes h. refl;
    defined = λ x h. refl;
    counted = let all = all_untouched (length macros) in omega arith;
  }
