-- How the test of one macro goes on from that of others.
use Rattle.std.proofs.Common.{◌≡◌, refl, sym, ap, ◌∙◌, subst, ℕ, zero, suc, ◌+◌, ◌-◌, ◌<◌, ◌≤◌, Bool, true, false, Option, Some}
use Rattle.std.proofs.Common.{None, List, [], ◌∷◌, ◌++◌, length, take, drop, replicate, Err, add-one, arith, length-append}
use Rattle.std.proofs.lemmas.List.{length-take, length-drop}
use Rattle.std.proofs.Math.Seq.{drop-cons}
use Rattle.std.proofs.lemmas.Bool.{lt-ltb}
use Rattle.cc_names.specs.Answers.{FaultIs}
use Rattle.cc_names.specs.declared.memory.Or.{Or}
use Rattle.cc_names.specs.declared.memory.Or.TheVariants.{NoMemory, Is}
use Rattle.cc_names.specs.declared.refusals.MakeError.{MakeError}
use Rattle.make_grammar.specs.Grammar.{at_place, make_fault_or, macros_fault}
use Rattle.std.specs.Prelude.{if◌then◌else◌}
use Rattle.cc_names.specs.declared.commands.Macro.{Macro}
use Rattle.cc_names.specs.declared.refusals.MakeCause.{MakeCause}
use Rattle.cc_names.specs.declared.refusals.MakeCause.TheVariants.{LineTooLong, MacroLoop}
use Rattle.make_text.specs.Expanding.{refer, goes_on, left_of, still, Admits}
use Rattle.make_grammar.specs.Macros.{Reference, Expansion, plain, one_after_other, is_too_long, no_automatic}
use Rattle.make_text.specs.MacroChecks.{AtEndUnless, FindsFault, definition_at, macro_fault_of}
use Rattle.make_text.specs.Runs.{Runs, HasNamesApart, macro_at, len_in, result_in, EndsIn}
use Rattle.make_text.specs.States.{state_at}
use Rattle.make_grammar.specs.Statements.{Definition, macros_of, expansion_fault, reading_fault}
use Rattle.make_text.specs.Steps.{macros_opened, IsExpanding, IsAtEnd, Referred}
use Rattle.make_text.specs.declared.expansions.Expanding.{Expanding}
use Rattle.make_text.specs.declared.states.State.{State}
use Rattle.make_text.specs.declared.states.State.TheVariants.{Untouched, Begun, Expanded}
use Rattle.make_text.specs.declared.expansions.Step.{Step}
use Rattle.make_text.specs.declared.expansions.Step.TheVariants.{Goes, Ends, Loops}
use Rattle.make_text.proofs.ExpansionLemmas.{followed_nothing}
use Rattle.make_text.proofs.StepLemmas.{runs_same, referred_went, is_started}

module _ (macros : List Macro) (automatic : ℕ → List ℕ) where
  -- what there is in the end, where a reference is expanded after what was written
  abbrev pub total_of : List ℕ → List ℕ → Expansion
  total_of written name =
      one_after_other (plain written)
      (one_after_other (goes_on macros automatic (left_of macros automatic []) [] (Reference name ∷ []))
      (still macros automatic [] []))

  pub total_is : (written name : List ℕ) → total_of written name ≡ one_after_other (plain written)
      (refer macros automatic (length macros) [] name)
  total_is written name =
      let all : length macros - 0 ≡ length macros = omega arith in
      ap (λ k. one_after_other (plain written) (one_after_other (one_after_other (refer macros automatic k [] name) (plain []))
      (plain []))) all
      ∙ ap (one_after_other (plain written)) (followed_nothing (one_after_other (refer macros automatic (length macros) [] name)
      (plain [])) ∙ followed_nothing (refer macros automatic (length macros) [] name))

  -- an expansion at its end begins a reference
  pub begins : (e : Expanding) (name : List ℕ) → IsAtEnd macros automatic e
      → IsExpanding macros automatic (total_of e.written.items name) (Reference name ∷ []) e
  begins e name h =
      let r = runs_same macros automatic (plain e.written.items) [] h.rest refl (ap (macros_opened macros) h.opened) refl
      h.running.runs in
      let next : Runs macros automatic (total_of e.written.items name) (Reference name ∷ []) [] e.written.items [] e.states =
      record {
        memo = r.memo;
        size = r.size;
        whole = refl;
        gives = tt;
        settled = r.settled;
        known = r.known;
        results = r.results;
        ends = r.ends;
        begun = r.begun;
        apart = r.apart;
        defined = r.defined;
        counted = r.counted;
      } in
      record {
        runs = runs_same macros automatic (total_of e.written.items name) (Reference name ∷ []) (sym h.rest) refl
            (ap (macros_opened macros) (sym h.opened)) refl next;
        within = h.running.within;
      }

  -- nothing was done
  pub at_start : (count : ℕ) (e : Expanding) → count ≡ length macros → e.rest.now ≡ [] → e.opened.items ≡ []
      → e.states ≡ replicate count Untouched → e.written.items ≡ [] → IsAtEnd macros automatic e
  at_start count e all rest opened states written = record {
    rest = rest;
    opened = opened;
    running = subst (λ (w : List ℕ). IsExpanding macros automatic (plain w) [] e) (sym written)
        (is_started macros automatic [] count e all rest opened states written);
  }

-- a macro whose result is known gives so many bytes, and no loop
pub known_result : (macros : List Macro) (automatic : ℕ → List ℕ) (e : Expanding) (i len : ℕ) → IsAtEnd macros automatic e
    → i < length macros → Some len ≡ len_in (state_at e.states i) →
    (length (refer macros automatic (length macros) [] (macro_at macros i).name).bytes ≡ len)
    × ((refer macros automatic (length macros) [] (macro_at macros i).name).loops ≡ false)
known_result macros automatic e i len h within is = by (state_at e.states i) refl is
  where
    by : (state : State) → state_at e.states i ≡ state → Some len ≡ len_in state →
        (length (refer macros automatic (length macros) [] (macro_at macros i).name).bytes ≡ len)
        × ((refer macros automatic (length macros) [] (macro_at macros i).name).loops ≡ false)
    by Untouched at is = absurd (cc)
    by Begun at is = absurd (cc)
    by (Expanded start l) at is =
        let r = h.running.runs in
        let written = e.written.items in
        let same : len ≡ l = cc in
        let ends : start + l ≤ length written = subst (EndsIn written) at (r.ends i within) in
        let counted = r.counted in
        let admits : Admits macros automatic r.memo r.size (length macros) [] =
        record { room = omega (arith, counted); apart = λ x bytes h. refl; defined = λ x h. refl } in
        let gives : refer macros automatic (length macros) [] (macro_at macros i).name ≡ plain (take l (drop start written)) =
        r.settled (macro_at macros i).name (take l (drop start written)) (r.results i within
        ∙ ap (result_in written) at) (length macros) [] admits in
        let long : length (take l (drop start written)) ≡ l = omega (
          arith,
          ends,
          length-take l (drop start written),
          length-drop start written,
        ) in
        (ap (λ (x : Expansion). length x.bytes) gives ∙ long ∙ sym same, ap (λ (x : Expansion). x.loops) gives)

-- the macro at an index has the name of the definition there
pub named_at : (definitions : List Definition) (i : ℕ) → (macro_at (macros_of definitions) i).name
    ≡ (definition_at definitions i).name
named_at [] i = refl
named_at (d ∷ definitions) zero = refl
named_at (d ∷ definitions) (suc i) = named_at definitions i

-- ---- the fault of a part of what there is

-- a part after what was written, by the whole
pub part_of_whole : (written whole : List ℕ) (part : Expansion) (loops : Bool)
    → record { bytes = whole; loops = loops } ≡ one_after_other (plain written) part →
    (length part.bytes ≡ length whole - length written) × (part.loops ≡ loops)
part_of_whole written whole part loops h =
    let bytes : whole ≡ written ++ part.bytes = ap (λ (e : Expansion). e.bytes) h in
    let len : length whole ≡ length written + length part.bytes = ap length bytes ∙ length-append written part.bytes in
    (omega (arith, len), sym (ap (λ (e : Expansion). e.loops) h))

-- a part is too long where so much was written after
pub long_behind : (written prefix : List ℕ) (total part : Expansion) → total ≡ one_after_other (plain written) part →
    length prefix ≤ length total.bytes → 65536 < length prefix - length written → is_too_long part ≡ true
long_behind written prefix total part h prefix_le long =
    let len : length total.bytes ≡ length written + length part.bytes = ap (λ (e : Expansion). length e.bytes) h
    ∙ length-append written part.bytes in
    let more : 65536 < length part.bytes = omega (arith, len) in
    lt-ltb 65536 (length part.bytes) more

pub part_too_long : (written prefix : List ℕ) (total part : Expansion) → total ≡ one_after_other (plain written) part
    → length prefix ≤ length total.bytes → 65536 < length prefix - length written → Some LineTooLong ≡ expansion_fault part
part_too_long written prefix total part h prefix_le long =
    sym (ap (λ b. if b then Some LineTooLong else if part.loops then Some MacroLoop else None)
    (long_behind written prefix total part h prefix_le long))

-- a part that loops has a fault, so nothing is owed of the expansion
pub looped_end : (macros : List Macro) (automatic : ℕ → List ℕ) (part : Expansion) (cause : Option MakeCause) (e : Expanding)
    → part.loops ≡ true → cause ≡ expansion_fault part → AtEndUnless macros automatic cause e
looped_end macros automatic part cause e loops is = by (is_too_long part) part.loops loops cause is
  where
    by : (long l : Bool) → l ≡ true → (c : Option MakeCause) → c ≡ (if long then Some LineTooLong else if l then Some MacroLoop
        else None) → AtEndUnless macros automatic c e
    by long l h (Some cause) is = tt
    by true l h None is = absurd (cc)
    by false true h None is = absurd (cc)
    by false false h None is = absurd (cc)

pub at_end : (macros : List Macro) (automatic : ℕ → List ℕ) (cause : Option MakeCause) (e : Expanding)
    → IsAtEnd macros automatic e → AtEndUnless macros automatic cause e
at_end macros automatic None e h = h
at_end macros automatic (Some cause) e h = tt

-- a reference never ends an expansion
no_end : (macros : List Macro) (name : List ℕ) (old new : Expanding) → Referred macros name old new Ends → ⊥
no_end macros name old new h = elim h [ ]

pub referred_goes : (macros : List Macro) (automatic : ℕ → List ℕ) (total : Expansion) (name : List ℕ) (old new : Expanding)
    (step : Step) → HasNamesApart macros → (step ≡ Loops → ⊥) →
    IsExpanding macros automatic total (Reference name ∷ []) old → Referred macros name old new step
    → IsExpanding macros automatic total [] new
referred_goes macros automatic total name old new Goes distinct other h referred =
    referred_went macros automatic total name old new Goes distinct h referred
referred_goes macros automatic total name old new Ends distinct other h referred = absurd (no_end macros name old new referred)
referred_goes macros automatic total name old new Loops distinct other h referred = absurd (other refl)

-- ---- one macro after the other

pub macros_step : (macros : List Macro) (definitions : List Definition) (i : ℕ) (name : List ℕ) (cause : Option MakeCause)
    → i < length definitions → name ≡ (definition_at definitions i).name →
    cause ≡ macro_fault_of macros no_automatic name →
    macros_fault macros (drop i definitions) ≡ make_fault_or (at_place (definition_at definitions i).file
    (definition_at definitions i).line cause) (macros_fault macros (drop (i + 1) definitions))
macros_step macros definitions i name cause within named is =
    let d = definition_at definitions i in
    let cut : drop i definitions ≡ d ∷ drop (i + 1) definitions = drop-cons definitions i _ within
    ∙ ap (λ n. d ∷ drop n definitions) (sym (add-one i)) in
    ap (macros_fault macros) cut
    ∙ ap (λ (o : Option MakeCause). make_fault_or (at_place d.file d.line o) (macros_fault macros (drop (i + 1) definitions)))
    (sym (is ∙ ap (macro_fault_of macros no_automatic) named))

pub finds_fault : (U : Type 0) (fault : Or MakeError) (file : List ℕ) (n : ℕ) (cause : MakeCause) (found : Option MakeError)
    → FaultIs fault (reading_fault file n cause) →
    found ≡ Some (record { file = file; line = n; cause = cause }) → FindsFault {U = U} {E = MakeError} (Err fault) found
finds_fault U NoMemory file n cause found h is = tt
finds_fault U (Is given) file n cause found h is =
    let same : record { file = file; line = n; cause = cause } ≡ given = cc in
    is ∙ ap Some same
