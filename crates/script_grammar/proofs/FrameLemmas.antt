-- That something that asks comes to the same where the files agree at what it asks for.
use Rattle.std.proofs.Common.{◌≡◌, ℕ, Bool, true, false, List, [], ◌∷◌, ◌++◌, refl, subst, sym, ap, if◌then◌else◌}
use Rattle.std.specs.List.{AllByRecursion, list_any}
use Rattle.std.specs.Str.{bytes_eq}
use Rattle.std.proofs.lemmas.Slice.Eq.{bytes_eq-Decides}
use Rattle.cc_names.specs.Files.{Files}
use Rattle.script_grammar.specs.Run.{Asking, Done, Asks, trace_of, with_read, run_of}
use Rattle.script_grammar.specs.Lines.{script_of}
use Rattle.script_grammar.specs.Frame.{IsFramed}

-- what holds of each path but the last, and of the last
prefix : (P : List ℕ → Type 0) (paths : List (List ℕ)) (last : List ℕ) → AllByRecursion P (paths ++ last ∷ [])
    → AllByRecursion P paths × P last
prefix P [] last h = (tt, h.0)
prefix P (path ∷ paths) last h = let rest = prefix P paths last h.1 in ((h.0, rest.0), rest.1)

-- what holds of each path holds of one that stands among them
among : (P : List ℕ → Type 0) (paths : List (List ℕ)) (path : List ℕ) → list_any (bytes_eq path) paths ≡ true
    → AllByRecursion P paths → P path
among P [] path found h = cc
among P (first ∷ paths) path found h =
    let P-at : (b : Bool) → bytes_eq path first ≡ b → P path = elim [
      | true ↦ λ same. subst P (sym ((bytes_eq-Decides path first).0 same)) h.0
      | false ↦ λ other. among P paths path (rw other at found) h.1
    ] in
    P-at (bytes_eq path first) refl

-- what holds of each path once one is noted holds of those before and of that one
pub before_noted : (P : List ℕ → Type 0) (paths : List (List ℕ)) (path : List ℕ) → AllByRecursion P (with_read paths path)
    → AllByRecursion P paths × P path
before_noted P paths path =
    let by : (b : Bool) → list_any (bytes_eq path) paths ≡ b → AllByRecursion P (if b then paths else paths ++ path ∷ [])
    → AllByRecursion P paths × P path = elim [
      | true ↦ λ found h. (h, among P paths path found h)
      | false ↦ λ fresh h. prefix P paths path h
    ] in
    by (list_any (bytes_eq path) paths) refl

-- the reads before are among those after
pub before_traced : {A : Type 0} (P : List ℕ → Type 0) (files : Files) (reads : List (List ℕ)) (asking : Asking A) →
    AllByRecursion P (trace_of files reads asking).reads → AllByRecursion P reads
before_traced P files reads (Done a) h = h
before_traced P files reads (Asks path next) h = (before_noted P reads path
    (before_traced P files (with_read reads path) (next (files path)) h)).0

-- what is traced is the same over files that agree at the reads
pub traced_same : {A : Type 0} (one other : Files) (reads : List (List ℕ)) (asking : Asking A) →
    AllByRecursion (λ path. one path ≡ other path) (trace_of one reads asking).reads
    → trace_of one reads asking ≡ trace_of other reads asking
traced_same one other reads (Done a) h = refl
traced_same one other reads (Asks path next) h =
    let same = (before_noted (λ p. one p ≡ other p) reads path (before_traced (λ p. one p ≡ other p) one (with_read reads path)
    (next (one path)) h)).1 in
    rw (← same) (traced_same one other (with_read reads path) (next (one path)) h)

pub run_framed : (script : List ℕ) (targets : List (List ℕ)) → IsFramed script targets
run_framed script targets = record {
  equal = λ one other agree. ap (λ t. record { result = t.value; reads = t.reads })
      (traced_same one other [] (run_of targets (script_of script)) agree.at);
}
