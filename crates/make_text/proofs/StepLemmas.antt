-- The steps by which the code expands a text are steps of the expansion.
use Rattle.std.proofs.Common.{◌≡◌, inl, inr, ℕ, zero, suc, ◌+◌, ◌-◌, ◌*◌, ◌<◌, ◌≤◌, true, Some, List, [], ◌∷◌, ◌++◌, length, map}
use Rattle.std.proofs.Common.{set, replicate, get_or, refl, sym, ap, ◌∙◌, subst, arith, length-append}
use Rattle.std.specs.Prelude.{sum_by, All, Result, Ok, Err, IfOk}
use Rattle.std.proofs.lemmas.List.{reverse-append, get_or_append_left, get_or_push, length_push}
use Rattle.std.proofs.lemmas.List.Sums.{sum_by-cons, sum_by-set}
use Rattle.std.proofs.lemmas.Bool.{cases_eq, lt-ltb}
use Rattle.cc_names.specs.declared.commands.Macro.{Macro}
use Rattle.make_grammar.specs.Macros.{Piece, Reference, Expansion, expansion_of, is_too_long, plain, pieces_of, value_in}
use Rattle.make_text.specs.Expanding.{Opened}
use Rattle.make_text.specs.Runs.{macro_at, HasNamesApart, count_untouched, Runs, work}
use Rattle.make_text.specs.States.{state_at}
use Rattle.make_text.specs.Scanning.{pieces_in}
use Rattle.make_text.specs.Steps.{opened_in, macros_opened, IsExpanding, work_of, EndsSafely, MacroEnded, RefersSafely, Referred}
use Rattle.make_text.specs.Steps.{Undefined, Known, Begins, Meets, Took, StepWent, FallsBelow}
use Rattle.make_text.specs.declared.expansions.Expanding.{Expanding}
use Rattle.make_text.specs.declared.expansions.Opened as lent
use Rattle.make_text.specs.declared.states.State.{State}
use Rattle.make_text.specs.declared.states.State.TheVariants.{Untouched, Begun, Expanded}
use Rattle.make_text.specs.declared.expansions.Step.{Step}
use Rattle.make_text.specs.declared.expansions.Step.TheVariants.{Goes, Ends, Loops}
use Rattle.make_text.specs.declared.pieces.Part as parts
use Rattle.make_text.specs.declared.pieces.Part.TheVariants as variants
use Rattle.make_text.proofs.RunLemmas.{runs_cut, runs_bytes, runs_automatic, runs_bad, runs_undefined, runs_known, runs_begin}
use Rattle.make_text.proofs.RunLemmas.{runs_end, runs_loop, runs_done, runs_start}

-- ---- the innermost macro

last_opened : (macros : List Macro) (prefix : List lent.Opened) (o : lent.Opened)
    → macros_opened macros (prefix ++ (o ∷ [])) ≡ opened_in macros o ∷ macros_opened macros prefix
last_opened macros prefix o = ap (map (opened_in macros)) (reverse-append prefix (o ∷ []))

-- macros that are being expanded stand among so many
abbrev pub Within : ℕ → List lent.Opened → Type 0
Within n items = All (λ o. o.index < n) items

prefix_within : (n : ℕ) (prefix : List lent.Opened) (o : lent.Opened) → Within n (prefix ++ (o ∷ [])) → Within n prefix
prefix_within n prefix o h k d l =
    let m : k < length (prefix ++ (o ∷ [])) = rw (length-append prefix (o ∷ [])) (omega arith) in
    let same : get_or (prefix ++ (o ∷ [])) k d ≡ get_or prefix k d = get_or_append_left prefix (o ∷ []) d k l in
    subst (λ v. v.index < n) same (h k d m)

last_within : (n : ℕ) (prefix : List lent.Opened) (o : lent.Opened) → Within n (prefix ++ (o ∷ [])) → o.index < n
last_within n prefix o h =
    let m : length prefix < length (prefix ++ (o ∷ [])) = rw (length_push prefix o) (omega arith) in
    let same : get_or (prefix ++ (o ∷ [])) (length prefix) o ≡ o = get_or_push prefix o o (length prefix) refl in
    subst (λ v. v.index < n) same (h (length prefix) o m)

within_push : (n : ℕ) (prefix : List lent.Opened) (o : lent.Opened) → Within n prefix → o.index < n
    → Within n (prefix ++ (o ∷ []))
within_push n prefix o h p k d l =
    elim (cases_eq k (length prefix)) [
      | inl e ↦ subst (λ v. v.index < n) (sym (get_or_push prefix o d k (sym e))) p
      | inr ne ↦
          let m : k < length prefix = omega (arith, length_push prefix o) in
          subst (λ v. v.index < n) (sym (get_or_append_left prefix (o ∷ []) d k m)) (h k d m)
    ]

-- ---- how much is left to do

abbrev outside : Opened → ℕ
outside o = length o.outer + 1

abbrev length_of : Macro → ℕ
length_of macro = length macro.value

abbrev steps_in : List Macro → ℕ
steps_in macros = sum_by length_of macros + 2

times_le : (a b k : ℕ) → a ≤ b → a * k ≤ b * k
times_le a b k h = grind arith

value_le : (macros : List Macro) (i : ℕ) → i < length macros → length (macro_at macros i).value ≤ sum_by length_of macros
value_le [] i l = absurd (omega arith)
value_le (macro ∷ macros) zero l = omega (arith, sum_by-cons length_of macro macros)
value_le (macro ∷ macros) (suc i) l =
    let h : length (macro_at macros i).value ≤ sum_by length_of macros = value_le macros i (omega arith) in
    omega (arith, sum_by-cons length_of macro macros)

-- ---- runs

module _ (macros : List Macro) (automatic : ℕ → List ℕ) where
  pub runs_same : (total : Expansion) (ps : List Piece) {rest rest' written written' : List ℕ} {opened opened' : List Opened}
      {states states' : List State} → rest ≡ rest' → written ≡ written' → opened ≡ opened' → states ≡ states'
      → Runs macros automatic total ps rest written opened states → Runs macros automatic total ps rest' written' opened' states'
  runs_same total ps {rest} {rest'} {written} {written'} {opened} {opened'} {states} {states'} a b c d r =
      subst (λ v. Runs macros automatic total ps rest' written' opened' v) d
      (subst (λ v. Runs macros automatic total ps rest' written' v states) c
      (subst (λ v. Runs macros automatic total ps rest' v opened states) b
      (subst (λ v. Runs macros automatic total ps v written opened states) a r)))

  pub ends_safely : (total : Expansion) (e : Expanding) → IsExpanding macros automatic total [] e → EndsSafely e
  ends_safely total e h prefix o items =
      let within : o.index < length macros = last_within (length macros) prefix o (subst (Within (length macros)) items h.within)
      in
      let states : length e.states ≡ length macros = h.runs.known in
      let r = runs_same total [] refl refl (ap (macros_opened macros) items ∙ last_opened macros prefix o) refl h.runs in
      (omega arith, r.gives.1)

  pub refers_safely : (total : Expansion) (e : Expanding) → IsExpanding macros automatic total [] e → RefersSafely macros e
  refers_safely total e h = (h.runs.known, h.runs.ends)

  -- the end of the innermost macro is a step
  pub ended_went : (total : Expansion) (old new : Expanding) (step : Step) → HasNamesApart macros
      → IsExpanding macros automatic total [] old → old.rest.now ≡ [] → MacroEnded old step new
      → StepWent macros automatic total step new
  ended_went total old new Goes distinct h end (o, items, rest, states, written) =
      let all = subst (Within (length macros)) items h.within in
      let r = runs_same total [] end refl (ap (macros_opened macros) items ∙ last_opened macros new.opened.items o) refl h.runs in
      record {
        runs = runs_same total [] (sym rest) (sym written) refl (sym states)
            (runs_end macros automatic total old.written.items o.outer.now o.index o.start (macros_opened macros new.opened.items)
            old.states distinct r (last_within (length macros) new.opened.items o all));
        within = prefix_within (length macros) new.opened.items o all;
      }
  ended_went total old new Ends distinct h end (items, none, rest, states, written) =
      let done = runs_done macros automatic total old.written.items old.states
      (runs_same total [] end refl (ap (macros_opened macros) items) refl h.runs) ∙ ap plain (sym written) in
      let here : IsExpanding macros automatic total [] new = record {
        runs = runs_same total [] (sym rest) (sym written) (ap (macros_opened macros) (items ∙ sym none)) (sym states) h.runs;
        within = subst (Within (length macros)) (items ∙ sym none) h.within;
      } in
      (done, record { rest = rest ∙ end; opened = none; running = subst (λ t. IsExpanding macros automatic t [] new) done here })
  ended_went total old new Loops distinct h end none = absurd none

  -- a reference is a step
  pub referred_went : (total : Expansion) (name : List ℕ) (old new : Expanding) (step : Step) → HasNamesApart macros
      → IsExpanding macros automatic total (Reference name ∷ []) old → Referred macros name old new step
      → StepWent macros automatic total step new
  referred_went total name old new step distinct h (Undefined none rest opened states written) = record {
    runs = runs_same total [] (sym rest) (sym written) (ap (macros_opened macros) (sym opened)) (sym states)
        (runs_undefined macros automatic total old.rest.now old.written.items name (macros_opened macros old.opened.items)
        old.states h.runs none);
    within = subst (Within (length macros)) (sym opened) h.within;
  }
  referred_went total name old new step distinct h (Known i start len found state rest opened states written) =
      let named = subst (λ n. Runs macros automatic total (Reference n ∷ []) old.rest.now old.written.items
      (macros_opened macros old.opened.items) old.states) (sym found.1) h.runs in
      record {
        runs = runs_same total [] (sym rest) (sym written) (ap (macros_opened macros) (sym opened)) (sym states)
            (runs_known macros automatic total old.rest.now old.written.items i start len (macros_opened macros old.opened.items)
            old.states named found.0 state);
        within = subst (Within (length macros)) (sym opened) h.within;
      }
  referred_went total name old new step distinct h (Begins i o found state index outer start rest opened states written) =
      let named = subst (λ n. Runs macros automatic total (Reference n ∷ []) old.rest.now old.written.items
      (macros_opened macros old.opened.items) old.states) (sym found.1) h.runs in
      let has : value_in macros (macro_at macros i).name ≡ Some (macro_at macros i).value = ap (value_in macros) found.1
      ∙ found.2 in
      let top : opened_in macros o ≡ record {
        name = (macro_at macros i).name;
        outer = old.rest.now;
        start = length old.written.items;
      } =
      ap (λ n. record { name = (macro_at macros n).name; outer = o.outer.now; start = o.start }) index
      ∙ ap (λ v. record { name = (macro_at macros i).name; outer = v; start = o.start }) outer
      ∙ ap (λ n. record { name = (macro_at macros i).name; outer = old.rest.now; start = n }) start in
      let all : macros_opened macros new.opened.items ≡ record {
        name = (macro_at macros i).name;
        outer = old.rest.now;
        start = length old.written.items;
      } ∷ macros_opened macros old.opened.items =
      ap (macros_opened macros) opened ∙ last_opened macros old.opened.items o
      ∙ ap (λ v. v ∷ macros_opened macros old.opened.items) top in
      record {
        runs = runs_same total [] (sym rest) (sym written) (sym all) (sym states)
            (runs_begin macros automatic total old.rest.now old.written.items i (macros_opened macros old.opened.items) old.states
            distinct named found.0 has state);
        within = subst (Within (length macros)) (sym opened) (within_push (length macros) old.opened.items o h.within
            (subst (λ n. n < length macros) (sym index) found.0));
      }
  referred_went total name old new step distinct h (Meets i found state written) =
      let named = subst (λ n. Runs macros automatic total (Reference n ∷ []) old.rest.now old.written.items
      (macros_opened macros old.opened.items) old.states) (sym found.1) h.runs in
      let has : value_in macros (macro_at macros i).name ≡ Some (macro_at macros i).value = ap (value_in macros) found.1
      ∙ found.2 in
      runs_loop macros automatic total old.rest.now old.written.items i (macros_opened macros old.opened.items) old.states named
      found.0 has state
      ∙ ap (λ v. record { bytes = v; loops = true }) (sym written)

  -- so is each part
  part_went : (total : Expansion) (part : parts.Part) (old new : Expanding) (step : Step) → HasNamesApart macros
      → IsExpanding macros automatic total (pieces_in part) old → Took macros automatic part old new step
      → StepWent macros automatic total step new
  part_went total (variants.Reference name) old new step distinct h took =
      referred_went total name.now old new step distinct h took
  part_went total (variants.Bytes bytes) old new step distinct h (goes, same, written) =
      let next : IsExpanding macros automatic total [] (record old { written = new.written }) = record {
        runs = runs_same total [] refl (sym written) refl refl (runs_bytes macros automatic total old.rest.now old.written.items
            bytes.now (macros_opened macros old.opened.items) old.states h.runs);
        within = h.within;
      } in
      subst (λ v. StepWent macros automatic total v new) (sym goes) (subst (IsExpanding macros automatic total []) (sym same)
      next)
  part_went total (variants.Automatic b) old new step distinct h (goes, same, written) =
      let next : IsExpanding macros automatic total [] (record old { written = new.written }) = record {
        runs = runs_same total [] refl (sym written) refl refl (runs_automatic macros automatic total old.rest.now
            old.written.items b (macros_opened macros old.opened.items) old.states h.runs);
        within = h.within;
      } in
      subst (λ v. StepWent macros automatic total v new) (sym goes) (subst (IsExpanding macros automatic total []) (sym same)
      next)
  part_went total variants.Bad old new step distinct h (goes, same) =
      let next : IsExpanding macros automatic total [] old = record {
        runs = runs_bad macros automatic total old.rest.now old.written.items (macros_opened macros old.opened.items) old.states
            h.runs;
        within = h.within;
      } in
      subst (λ v. StepWent macros automatic total v new) (sym goes) (subst (IsExpanding macros automatic total []) (sym same)
      next)

  -- after the first part of what is left
  is_cut : (total : Expansion) (part : parts.Part) (old cut : Expanding) → IsExpanding macros automatic total [] old
      → pieces_of old.rest.now ≡ pieces_in part ++ pieces_of cut.rest.now → cut ≡ record old { rest = cut.rest }
      → IsExpanding macros automatic total (pieces_in part) cut
  is_cut total part old cut h pieces same =
      let next : IsExpanding macros automatic total (pieces_in part) (record old { rest = cut.rest }) = record {
        runs = runs_cut macros automatic total old.rest.now cut.rest.now old.written.items (pieces_in part)
            (macros_opened macros old.opened.items) old.states h.runs pieces;
        within = h.within;
      } in
      subst (IsExpanding macros automatic total (pieces_in part)) (sym same) next

  pub took_went : (total : Expansion) (part : parts.Part) (old cut new : Expanding) (step : Step) → HasNamesApart macros
      → IsExpanding macros automatic total [] old → pieces_of old.rest.now ≡ pieces_in part ++ pieces_of cut.rest.now
      → cut ≡ record old { rest = cut.rest } → Took macros automatic part cut new step → StepWent macros automatic total step new
  took_went total part old cut new step distinct h pieces same took = part_went total part cut new step distinct
      (is_cut total part old cut h pieces same) took

  -- ---- less is left to do

  pub ended_falls : (total : Expansion) (old new : Expanding) (step : Step) → IsExpanding macros automatic total [] old
      → old.rest.now ≡ [] → MacroEnded old step new → FallsBelow (work_of macros old) step (work_of macros new)
  ended_falls total old new Goes h end (o, items, rest, states, written) =
      let all = subst (Within (length macros)) items h.within in
      let index : o.index < length macros = last_within (length macros) new.opened.items o all in
      let known : length old.states ≡ length macros = h.runs.known in
      let fewer : sum_by count_untouched (set old.states o.index (Expanded o.start (length old.written.items - o.start))) +
      count_untouched (state_at old.states o.index) ≡ sum_by count_untouched old.states + 0 =
      sum_by-set count_untouched old.states o.index (Expanded o.start (length old.written.items - o.start)) Untouched
      (omega arith) in
      let touched : sum_by count_untouched new.states ≡ sum_by count_untouched
      (set old.states o.index (Expanded o.start (length old.written.items - o.start))) = ap (sum_by count_untouched) states in
      let inner : sum_by outside (macros_opened macros old.opened.items)
      ≡ (length o.outer.now + 1) + sum_by outside (macros_opened macros new.opened.items) =
      ap (sum_by outside) (ap (macros_opened macros) items ∙ last_opened macros new.opened.items o)
      ∙ sum_by-cons outside (opened_in macros o) (macros_opened macros new.opened.items) in
      let now : length new.rest.now ≡ length o.outer.now = ap length rest in
      let none : length old.rest.now ≡ 0 = ap length end in
      let less : sum_by count_untouched new.states * steps_in macros ≤ sum_by count_untouched old.states * steps_in macros =
      times_le (sum_by count_untouched new.states) (sum_by count_untouched old.states) (steps_in macros) (omega arith) in
      omega arith
  ended_falls total old new Ends h end e = tt
  ended_falls total old new Loops h end e = tt

  same_work : (old new : Expanding) → new.rest.now ≡ old.rest.now → new.opened.items ≡ old.opened.items → new.states ≡ old.states
      → work_of macros new ≡ work_of macros old
  same_work old new rest opened states =
      ap (λ v. work macros v (macros_opened macros new.opened.items) new.states) rest
      ∙ ap (λ v. work macros old.rest.now (macros_opened macros v) new.states) opened
      ∙ ap (λ v. work macros old.rest.now (macros_opened macros old.opened.items) v) states

  referred_falls : (name : List ℕ) (old new : Expanding) (step : Step) (before : ℕ) → length old.states ≡ length macros
      → Referred macros name old new step → work_of macros old < before → FallsBelow before step (work_of macros new)
  referred_falls name old new step before known (Undefined none rest opened states written) l =
      rw (same_work old new rest opened states) l
  referred_falls name old new step before known (Known i start len found state rest opened states written) l =
      rw (same_work old new rest opened states) l
  referred_falls name old new step before known (Begins i o found state index outer start rest opened states written) l =
      let within : i < length old.states = omega (arith, found.0) in
      let fewer : sum_by count_untouched (set old.states i Begun) + count_untouched (state_at old.states i)
      ≡ sum_by count_untouched old.states + 0 =
      sum_by-set count_untouched old.states i Begun Untouched within in
      let one : count_untouched (state_at old.states i) ≡ 1 = ap count_untouched state in
      let touched : sum_by count_untouched new.states ≡ sum_by count_untouched (set old.states i Begun) =
      ap (sum_by count_untouched) states in
      let inner : sum_by outside (macros_opened macros new.opened.items)
      ≡ (length o.outer.now + 1) + sum_by outside (macros_opened macros old.opened.items) =
      ap (sum_by outside) (ap (macros_opened macros) opened ∙ last_opened macros old.opened.items o)
      ∙ sum_by-cons outside (opened_in macros o) (macros_opened macros old.opened.items) in
      let now : length new.rest.now ≡ length (macro_at macros i).value = ap length rest in
      let out : length o.outer.now ≡ length old.rest.now = ap length outer in
      let value : length (macro_at macros i).value ≤ sum_by length_of macros = value_le macros i found.0 in
      let less : (sum_by count_untouched new.states + 1) * steps_in macros ≤ sum_by count_untouched old.states * steps_in macros =
      times_le (sum_by count_untouched new.states + 1) (sum_by count_untouched old.states) (steps_in macros) (omega arith) in
      omega arith
  referred_falls name old new step before known (Meets i found state written) l = tt

  pub took_falls : (part : parts.Part) (old new : Expanding) (step : Step) (before : ℕ) → length old.states ≡ length macros
      → Took macros automatic part old new step → work_of macros old < before → FallsBelow before step (work_of macros new)
  took_falls (variants.Reference name) old new step before known took l = referred_falls name.now old new step before known took l
  took_falls (variants.Bytes bytes) old new step before known (goes, same, written) l =
      let equal : work_of macros new ≡ work_of macros old = ap (work_of macros) same in
      subst (λ v. FallsBelow before v (work_of macros new)) (sym goes) (rw equal l)
  took_falls (variants.Automatic b) old new step before known (goes, same, written) l =
      let equal : work_of macros new ≡ work_of macros old = ap (work_of macros) same in
      subst (λ v. FallsBelow before v (work_of macros new)) (sym goes) (rw equal l)
  took_falls variants.Bad old new step before known (goes, same) l =
      let equal : work_of macros new ≡ work_of macros old = ap (work_of macros) same in
      subst (λ v. FallsBelow before v (work_of macros new)) (sym goes) (rw equal l)

-- what holds of an answer that is Ok, where something else does
pub where_ok : {X E : Type 0} (P Q : X → Type 0) (r : Result X E) → IfOk r P → ((x : X) → P x → Q x) → IfOk r Q
where_ok P Q (Ok x) h next = next x h
where_ok P Q (Err e) h next = tt

-- ---- the whole

-- more than the most bytes
pub too_long : (total : Expansion) (n : ℕ) → 65536 < n → n ≤ length total.bytes → is_too_long total ≡ true
too_long total n h l = let m : 65536 < length total.bytes = omega arith in lt-ltb 65536 (length total.bytes) m

-- an expansion of which nothing was done
pub is_started : (macros : List Macro) (automatic : ℕ → List ℕ) (text : List ℕ) (count : ℕ) (e : Expanding)
    → count ≡ length macros → e.rest.now ≡ text → e.opened.items ≡ [] → e.states ≡ replicate count Untouched
    → e.written.items ≡ [] → IsExpanding macros automatic (expansion_of macros automatic text) [] e
is_started macros automatic text count e all rest opened states written = record {
  runs = runs_same macros automatic (expansion_of macros automatic text) [] (sym rest) (sym written)
      (sym (ap (macros_opened macros) opened)) (sym (states ∙ ap (λ n. replicate n Untouched) all))
      (runs_start macros automatic text);
  within = subst (Within (length macros)) (sym opened) (λ k d l. absurd (omega arith));
}
