-- How lines and outputs of a run follow each other.
use Rattle.std.proofs.Common.{◌≡◌, ℕ, List, [], ◌∷◌, ◌++◌, Result, Ok, Err, Bool, true, false, ◌||◌, refl, ap, sym, ◌∙◌, subst}
use Rattle.std.proofs.Common.{if◌then◌else◌, take, ◌+◌, ◌<◌, suc, length, drop, get_or, add-one, drop-cons}
use Rattle.std.specs.List.{flat_map, join_with_byte, list_any}
use Rattle.std.proofs.lemmas.List.{append-nil}
use Rattle.std.proofs.Math.Seq.{take-suc}
use Rattle.cc_names.specs.declared.refusals.ScriptFault.{ScriptFault}
use Rattle.std.specs.Str.{bytes_eq}
use Rattle.std.proofs.lemmas.Slice.Eq.{bytes_eq-Decides}
use Rattle.script_grammar.specs.declared.lines.Line.{Line}
use Rattle.script_grammar.specs.declared.lines.Line.TheVariants.{Empty, Makes, Fail}
use Rattle.build_script.specs.Progress.{HoldsEach}
use Rattle.cc_names.specs.Files.{Files}
use Rattle.script_grammar.specs.Run.{Ran, Traced, carried_out, trace_of, State, Asking, Done, and_then, unless_fault, with_read}
use Rattle.script_grammar.specs.Run.{write_output, after_line, after_lines}
use Rattle.script_grammar.specs.Standings.{AreAmong}
use Rattle.cc_names.specs.declared.refusals.ScriptFault.TheVariants.{StrayWrite}
use Rattle.cc_names.proofs.Common.{or_true, or_false, bytes_equal_themselves, bytes_eq_swapped}

-- words with a space between each two are the first and the others after a space each
pub joined_by_spaces : (first : List ℕ) (others : List (List ℕ)) → join_with_byte 32 (first ∷ others) ≡ first
    ++ flat_map (λ word. 32 ∷ word) others
joined_by_spaces first [] = sym (append-nil first)
joined_by_spaces first (second ∷ others) = ap (λ (more : List ℕ). first ++ 32 ∷ more) (joined_by_spaces second others)

-- the item at an index and those after it
pub item_at : {X : Type 0} (items : List X) (i : ℕ) (item : X) → item ≡ get_or items i item → i < length items
    → drop i items ≡ item ∷ drop (i + 1) items
item_at {X = X} items i item is low = rw add-one (drop-cons items i item low ∙ ap (λ (x : X). x ∷ drop (suc i) items) (sym is))

-- outputs that were found before those of the other targets
abbrev pub outputs_onto : List (List ℕ) → Result (List (List ℕ)) ScriptFault → Result (List (List ℕ)) ScriptFault
outputs_onto found (Ok more) = Ok (found ++ more)
outputs_onto found (Err fault) = Err fault

-- a line by the same targets
after_line_same : (keys targets : List (List ℕ)) → HoldsEach keys targets → (state : State) (line : Line)
    → after_line keys state line ≡ after_line targets state line
after_line_same keys targets h state Empty = refl
after_line_same keys targets h state (Fail n) = refl
after_line_same keys targets h state (Makes work appends output) =
    ap (λ (t : Bool). if t then write_output state work appends output else Done (Err (StrayWrite output))) (h.same output)

-- and lines
pub after_lines_same : (keys targets : List (List ℕ)) → HoldsEach keys targets → (lines : List Line) (state : State)
    → after_lines keys lines state ≡ after_lines targets lines state
after_lines_same keys targets h [] state = refl
after_lines_same keys targets h (line ∷ lines) state =
    λ i. and_then (after_line_same keys targets h state line i) (unless_fault
    (λ after. after_lines_same keys targets h lines after i))

any-append : (p : List ℕ → Bool) (one two : List (List ℕ)) → list_any p (one ++ two) ≡ (list_any p one || list_any p two)
any-append p [] two = refl
any-append p (x ∷ one) two = by (p x) (any-append p one two)
  where
    by : (b : Bool) → list_any p (one ++ two) ≡ (list_any p one || list_any p two)
        → (b || list_any p (one ++ two)) ≡ ((b || list_any p one) || list_any p two)
    by true e = refl
    by false e = e

-- one path among others passes a test that it passes
any_among : (p : List ℕ → Bool) (paths : List (List ℕ)) (path : List ℕ) → list_any (bytes_eq path) paths ≡ true → p path ≡ true
    → list_any p paths ≡ true
any_among p [] path among passes = cc
any_among p (first ∷ paths) path among passes = by (bytes_eq path first) refl among (any_among p paths path)
  where
    by : (b : Bool) → bytes_eq path first ≡ b → (b || list_any (bytes_eq path) paths) ≡ true
        → (list_any (bytes_eq path) paths ≡ true → p path ≡ true → list_any p paths ≡ true) →
        (p first || list_any p paths) ≡ true
    by true same among rest =
        let one : path ≡ first = (bytes_eq-Decides path first).0 same in
        rw (subst (λ q. p q ≡ true) one passes) refl
    by false other among rest = rw (rest among passes) (or_true (p first))

-- a path that is noted
any-with_read : (p : List ℕ → Bool) (paths : List (List ℕ)) (path : List ℕ)
    → list_any p (with_read paths path) ≡ (list_any p paths || p path)
any-with_read p paths path = by (list_any (bytes_eq path) paths) refl (p path) refl
  where
    by : (b : Bool) → list_any (bytes_eq path) paths ≡ b → (t : Bool) → p path ≡ t
        → list_any p (if b then paths else paths ++ path ∷ []) ≡ (list_any p paths || t)
    by true among true passes = any_among p paths path among passes ∙ sym (or_true (list_any p paths))
    by true among false fails = sym (or_false (list_any p paths))
    by false apart t is = any-append p paths (path ∷ []) ∙ ap (λ (b : Bool). list_any p paths || b) (or_false (p path) ∙ is)

-- one more target
pub holds_more : (keys targets keys' : List (List ℕ)) (i : ℕ) (target : List ℕ) → HoldsEach keys (take i targets)
    → keys' ≡ with_read keys target → target ≡ get_or targets i target → i < length targets
    → HoldsEach keys' (take (i + 1) targets)
holds_more keys targets keys' i target h e is low = record {
  same = λ path.
      ap (list_any (λ t. bytes_eq t path)) e ∙ any-with_read (λ t. bytes_eq t path) keys target
      ∙ ap (λ (b : Bool). b || bytes_eq target path) (h.same path)
      ∙ sym (ap (list_any (λ t. bytes_eq t path)) (rw add-one (take-suc targets i target low
      ∙ ap (λ (x : List ℕ). take i targets ++ x ∷ []) (sym is)))
      ∙ any-append (λ t. bytes_eq t path) (take i targets) (target ∷ [])
      ∙ ap (λ (b : Bool). list_any (λ t. bytes_eq t path) (take i targets) || b) (or_false (bytes_eq target path)));
}

wider : (more : List (List ℕ)) (paths : List (List ℕ)) (first : List ℕ) → AreAmong paths more → AreAmong paths (first ∷ more)
wider more [] first h = tt
wider more (path ∷ paths) first h = (by (bytes_eq path first) h.0, wider more paths first h.1)
  where
    by : (b : Bool) → list_any (bytes_eq path) more ≡ true → (b || list_any (bytes_eq path) more) ≡ true
    by true e = refl
    by false e = e

pub among_themselves : (paths : List (List ℕ)) → AreAmong paths paths
among_themselves [] = tt
among_themselves (path ∷ paths) = (rw (bytes_equal_themselves path) refl, wider paths paths path (among_themselves paths))

-- a look among paths, either way round
pub any-turned : (path : List ℕ) (paths : List (List ℕ)) → list_any (bytes_eq path) paths
    ≡ list_any (λ target. bytes_eq target path) paths
any-turned path [] = refl
any-turned path (first ∷ paths) = λ i. bytes_eq_swapped path first i || any-turned path paths i

-- a run comes to what it traces
pub came_to : (files : Files) (asking : Asking (Result (List (List ℕ)) ScriptFault)) (ran : Ran)
    → trace_of files [] asking ≡ record { value = ran.result; reads = ran.reads } → ran ≡ carried_out files asking
came_to files asking ran e = ap (λ t. the_run t) (sym e)
  where
    the_run : Traced (Result (List (List ℕ)) ScriptFault) → Ran
    the_run t = record { result = t.value; reads = t.reads }
