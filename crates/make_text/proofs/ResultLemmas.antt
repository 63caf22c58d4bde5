-- What is known of macros from one text to the next.
use Rattle.std.proofs.Common.{◌≡◌, refl, sym, ap, ◌∙◌, subst, ℕ, ◌+◌, ◌-◌, ◌<◌, ◌≤◌, Bool, true, List, [], ◌++◌, length, drop}
use Rattle.std.proofs.Common.{replicate, arith, length-append}
use Rattle.make_text.proofs.CheckLemmas.{long_behind}
use Rattle.std.proofs.Math.Seq.{drop-append_seam}
use Rattle.cc_names.specs.declared.commands.Macro.{Macro}
use Rattle.make_grammar.specs.Macros.{Expansion, plain, one_after_other, is_too_long, no_automatic}
use Rattle.make_grammar.specs.Statements.{expanded_by}
use Rattle.make_text.specs.Runs.{Runs, AreResults}
use Rattle.make_text.specs.Steps.{macros_opened, IsExpanding, IsAtEnd}
use Rattle.make_text.specs.declared.expansions.Expanding.{Expanding}
use Rattle.make_text.specs.declared.states.State.{State}
use Rattle.make_text.specs.declared.states.State.TheVariants.{Untouched}
use Rattle.make_text.proofs.RunLemmas.{runs_start}
use Rattle.make_text.proofs.StepLemmas.{Within, runs_same}

-- where nothing was written, no macro was expanded
pub none_known : (macros : List Macro) (count : ℕ) (written : List ℕ) (states : List State) → count ≡ length macros → written ≡ []
    → states ≡ replicate count Untouched → AreResults macros written states
none_known macros count written states all nothing same =
    subst (λ w. AreResults macros w states) (sym nothing)
    (subst (AreResults macros []) (sym (same ∙ ap (λ n. replicate n Untouched) all)) (runs_start macros no_automatic []))

-- a text is expanded after what was written
pub goes_behind : (macros : List Macro) (text written : List ℕ) (states : List State) (e : Expanding)
    → AreResults macros written states → e.rest.now ≡ text → e.opened.items ≡ [] → e.states ≡ states → e.written.items ≡ written →
    IsExpanding macros no_automatic (one_after_other (plain written) (expanded_by macros text)) [] e
goes_behind macros text written states e r rest opened same so_far =
    let total = one_after_other (plain written) (expanded_by macros text) in
    let next : Runs macros no_automatic total [] text written [] states = record {
      memo = r.memo;
      size = r.size;
      whole = refl;
      gives = tt;
      settled = r.settled;
      known = r.known;
      results = r.results;
      ends = r.ends;
      begun = r.begun;
      apart = r.apart;
      defined = r.defined;
      counted = r.counted;
    } in
    record {
      runs = runs_same macros no_automatic total [] (sym rest) (sym so_far) (sym (ap (macros_opened macros) opened)) (sym same)
          next;
      within = subst (Within (length macros)) (sym opened) (λ k d l. absurd (omega arith));
    }

-- an expansion at its end leaves what is known then
pub left_known : (macros : List Macro) (e : Expanding) → IsAtEnd macros no_automatic e
    → AreResults macros e.written.items e.states
left_known macros e h = runs_same macros no_automatic (plain e.written.items) [] h.rest refl (ap (macros_opened macros) h.opened)
    refl h.running.runs

-- what follows so many bytes, by the whole
pub fewer : (written whole : List ℕ) (part : Expansion) (loops : Bool) (start : ℕ)
    → record { bytes = whole; loops = loops } ≡ one_after_other (plain written) part → start ≡ length written
    → start ≤ length whole
fewer written whole part loops start h at =
    let bytes : whole ≡ written ++ part.bytes = ap (λ (e : Expansion). e.bytes) h in
    omega (arith, at, ap length bytes ∙ length-append written part.bytes)

pub part_is : (written whole : List ℕ) (part : Expansion) (loops : Bool) (start : ℕ)
    → record { bytes = whole; loops = loops } ≡ one_after_other (plain written) part → start ≡ length written
    → record { bytes = drop start whole; loops = loops } ≡ part
part_is written whole part loops start h at =
    let bytes : whole ≡ written ++ part.bytes = ap (λ (e : Expansion). e.bytes) h in
    let rest : drop start whole ≡ part.bytes = ap (λ n. drop n whole) at
    ∙ (ap (drop (length written)) bytes ∙ drop-append_seam written part.bytes) in
    ap (λ (b : List ℕ). record { bytes = b; loops = loops }) rest
    ∙ ap (λ (l : Bool). record { bytes = part.bytes; loops = l }) (ap (λ (e : Expansion). e.loops) h)

-- a part is too long where so much was written after
pub part_is_long : (written prefix : List ℕ) (total part : Expansion) (start : ℕ) → total ≡ one_after_other (plain written) part
    → length prefix ≤ length total.bytes → start ≡ length written → 65536 < length prefix - start → is_too_long part ≡ true
part_is_long written prefix total part start h prefix_le at long = long_behind written prefix total part h prefix_le
    (omega (arith, at, long))
