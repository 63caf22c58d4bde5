-- How something that asks goes: what holds of its reads before, and where there was no fault of what it came to.
use Rattle.std.proofs.Common.{◌≡◌, refl, ap, sym, subst, ℕ, ◌+◌, ◌≤◌, Bool, true, false, Option, Some, None, Result, Ok, Err}
use Rattle.std.proofs.Common.{List, [], ◌∷◌, ◌++◌, length, if◌then◌else◌, arith, length-append}
use Rattle.std.specs.List.{AllByRecursion, list_any}
use Rattle.std.specs.Str.{bytes_eq}
use Rattle.cc_names.specs.Files.{Files}
use Rattle.cc_names.specs.Formed.{IsBelowRoot}
use Rattle.cc_names.specs.Paths.{IsPath, root, is_root}
use Rattle.cc_names.specs.declared.refusals.ScriptFault.{ScriptFault}
use Rattle.cc_names.proofs.NamesOfPaths.{is_root-root}
use Rattle.cc_names.proofs.Common.{all_of_both}
use Rattle.script_grammar.specs.Run.{Asking, Done, Traced, trace_of, with_read, and_then, unless_fault, see, present, needed_text}
use Rattle.script_grammar.proofs.CarriedLemmas.{trace_of-and_then}

-- what holds where there was no fault
abbrev pub Ends : {A : Type 0} → (A → List (List ℕ) → Type 0) → Result A ScriptFault → List (List ℕ) → Type 0
Ends after (Ok a) reads = after a reads
Ends after (Err fault) reads = Unit {0}

pub record Leads {A : Type 0} (files : Files) (before : List (List ℕ) → Type 0) (after : A → List (List ℕ)
    → Type 0) (asking : Asking (Result A ScriptFault)) : Type 0 where
  pub ends : (reads : List (List ℕ)) → before reads → Ends after (trace_of files reads asking).value
      (trace_of files reads asking).reads

pub ends_so : {A : Type 0} (P Q : A → List (List ℕ) → Type 0) → ((a : A) (reads : List (List ℕ)) → P a reads → Q a reads)
    → (r : Result A ScriptFault) (reads : List (List ℕ)) → Ends P r reads → Ends Q r reads
ends_so P Q so (Ok a) reads h = so a reads h
ends_so P Q so (Err fault) reads h = tt

pub leads_done : {A : Type 0} (files : Files) (before : List (List ℕ) → Type 0) (after : A → List (List ℕ)
    → Type 0) (r : Result A ScriptFault) →
    ((reads : List (List ℕ)) → before reads → Ends after r reads) → Leads files before after (Done r)
leads_done files before after r h = record { ends = h }

pub leads_then : {A B : Type 0} (files : Files) (before : List (List ℕ) → Type 0) (middle : A → List (List ℕ) → Type 0) (after : B
    → List (List ℕ) → Type 0)
    (first : Asking (Result A ScriptFault)) (next : A → Asking (Result B ScriptFault)) →
    Leads files before middle first → ((a : A) → Leads files (middle a) after (next a))
    → Leads files before after (and_then first (unless_fault next))
leads_then {A} {B} files before middle after first next one two = record {
  ends = λ reads h.
      subst (λ (t : Traced (Result B ScriptFault)). Ends after t.value t.reads)
      (sym (trace_of-and_then files reads first (unless_fault next)))
      (by (trace_of files reads first).value (trace_of files reads first).reads (one.ends reads h));
}
  where
    by : (r : Result A ScriptFault) (reads : List (List ℕ)) → Ends middle r reads
        → Ends after (trace_of files reads (unless_fault next r)).value (trace_of files reads (unless_fault next r)).reads
    by (Ok a) reads h = (two a).ends reads h
    by (Err fault) reads h = tt

-- paths below the root, no more of them than n
pub record AreReads (n : ℕ) (reads : List (List ℕ)) : Type 0 where
  pub few : length reads ≤ n
  pub each : AllByRecursion IsBelowRoot reads

pub reads_wider : (m n : ℕ) (reads : List (List ℕ)) → m ≤ n → AreReads m reads → AreReads n reads
reads_wider m n reads low h = record { few = let few = h.few in omega arith; each = h.each }

-- one path more
pub noted_more : (n m : ℕ) (reads : List (List ℕ)) (path : List ℕ) → n + 1 ≤ m → IsBelowRoot path → AreReads n reads
    → AreReads m (with_read reads path)
noted_more n m reads path low below h = by (list_any (bytes_eq path) reads)
  where
    by : (t : Bool) → AreReads m (if t then reads else reads ++ path ∷ [])
    by true = reads_wider n m reads (omega arith) h
    by false = record {
      few = let few = h.few in omega (arith, length-append reads (path ∷ []));
      each = all_of_both IsBelowRoot reads (path ∷ []) h.each (below, tt);
    }

pub found_below : (files : Files) (path text : List ℕ) → files root ≡ None → files path ≡ Some text → IsPath path
    → IsBelowRoot path
found_below files path text rootless found is_path = (is_path, by (is_root path) refl)
  where
    by : (t : Bool) → is_root path ≡ t → t ≡ false
    by false is = refl
    by true is = absurd (let same = ap files (is_root-root path is) in cc)

-- a text that has to be there
pub text_leads : (files own : Files) (path : List ℕ) (n : ℕ) → files root ≡ None → IsPath path
    → Leads files (AreReads n) (λ (text : List ℕ). AreReads (n + 1)) (needed_text own path)
text_leads files own path n rootless is_path = by (own path)
  where
    by_found : (o : Option (List ℕ)) → files path ≡ o → (reads : List (List ℕ)) → AreReads n reads
        → Ends (λ (text : List ℕ). AreReads (n + 1)) (present path o) (with_read reads path)
    by_found None is reads h = tt
    by_found (Some text) is reads h = noted_more n (n + 1) reads path (omega arith)
        (found_below files path text rootless is is_path) h

    by : (o : Option (List ℕ)) → Leads files (AreReads n) (λ (text : List ℕ). AreReads (n + 1))
        (and_then (see o path) (λ found. Done (present path found)))
    by (Some text) = leads_done files (AreReads n) (λ (text : List ℕ). AreReads (n + 1)) (Ok text)
        (λ reads h. reads_wider n (n + 1) reads (omega arith) h)
    by None = record { ends = λ reads h. by_found (files path) refl reads h }
