-- The steps by which the code expands a text.
use Rattle.std.specs.Prelude.{◌≡◌, ℕ, ◌-◌, ◌<◌, ◌≤◌, true, false, Some, None, List, [], ◌∷◌, ◌++◌, length, map, reverse, take}
use Rattle.std.specs.Prelude.{drop, slice_set, option_copied, All}
use Rattle.cc_names.specs.declared.commands.Macro.{Macro}
use Rattle.make_grammar.specs.Macros.{Piece, Expansion, plain, in_script, is_too_long, value_in}
use Rattle.make_text.specs.Expanding.{Opened}
use Rattle.make_text.specs.Runs.{Runs, work, macro_at, IsMacroFound, EndsIn}
use Rattle.make_text.specs.States.{state_at}
use Rattle.make_text.specs.declared.expansions.Automatic as automatics
use Rattle.make_text.specs.declared.expansions.Expanding as expandings
use Rattle.make_text.specs.declared.expansions.Opened as lent
use Rattle.make_text.specs.declared.expansions.ExpandedText as expanded_texts
use Rattle.make_text.specs.declared.expansions.ExpandedText.TheVariants.{TooLong, Loop, Bytes}
use Rattle.make_text.specs.declared.pieces.Part as parts
use Rattle.make_text.specs.declared.pieces.Part.TheVariants as variants
use Rattle.make_text.specs.declared.states.State.TheVariants.{Untouched, Begun, Expanded}
use Rattle.make_text.specs.declared.expansions.Step.{Step}
use Rattle.make_text.specs.declared.expansions.Step.TheVariants.{Goes, Ends, Loops}

-- the values of `$@`, `$<` and `$*`
abbrev pub automatic_of : automatics.Automatic → ℕ → List ℕ
automatic_of a = in_script a.target.now (option_copied a.first) a.stem.now

-- a macro that is being expanded, as the code keeps it
abbrev pub opened_in : List Macro → lent.Opened → Opened
opened_in macros o = record { name = (macro_at macros o.index).name; outer = o.outer.now; start = o.start }

-- those that are being expanded, the innermost first
abbrev pub macros_opened : List Macro → List lent.Opened → List Opened
macros_opened macros items = map (opened_in macros) (reverse items)

-- an expansion of the code that gives a total in the end, after some pieces
pub record IsExpanding (macros : List Macro) (automatic : ℕ → List ℕ) (total : Expansion) (pieces : List Piece)
    (e : expandings.Expanding) : Type 0 where
  pub runs : Runs macros automatic total pieces e.rest.now e.written.items (macros_opened macros e.opened.items) e.states
  pub within : All (λ o. o.index < length macros) e.opened.items

abbrev pub work_of : List Macro → expandings.Expanding → ℕ
work_of macros e = work macros e.rest.now (macros_opened macros e.opened.items) e.states

-- ---- the end of the innermost macro

-- where a macro is being expanded, the innermost has a state, and was begun in what was written
abbrev pub EndsSafely : expandings.Expanding → Type 0
EndsSafely e =
    (prefix : List lent.Opened) (o : lent.Opened) → e.opened.items ≡ prefix ++ (o ∷ [])
    → (o.index < length e.states) × (o.start ≤ length e.written.items)

-- the innermost macro came to its end, and its result is known; or there was none
abbrev pub MacroEnded : expandings.Expanding → Step → expandings.Expanding → Type 0
MacroEnded old Goes new =
    (o : lent.Opened) × (old.opened.items ≡ new.opened.items ++ (o ∷ [])) × (new.rest.now ≡ o.outer.now)
    × (new.states ≡ slice_set old.states o.index (Expanded o.start (length old.written.items - o.start)))
    × (new.written.items ≡ old.written.items)
MacroEnded old Ends new =
    (old.opened.items ≡ []) × (new.opened.items ≡ []) × (new.rest.now ≡ old.rest.now)
    × (new.states ≡ old.states) × (new.written.items ≡ old.written.items)
MacroEnded old Loops new = ⊥

-- ---- a reference

-- each macro has a state, and its result stands in what was written
abbrev pub RefersSafely : List Macro → expandings.Expanding → Type 0
RefersSafely macros e =
    (length e.states ≡ length macros) × ((i : ℕ) → i < length macros → EndsIn e.written.items (state_at e.states i))

-- what a reference to a macro of this name did
pub data Referred (macros : List Macro) (name : List ℕ) (old new : expandings.Expanding) : Step → Type 0 where
  -- it is not defined, and so empty
  Undefined : value_in macros name ≡ None → new.rest.now ≡ old.rest.now → new.opened.items ≡ old.opened.items
      → new.states ≡ old.states → new.written.items ≡ old.written.items → Referred macros name old new Goes
  -- its result is known
  Known : (i start len : ℕ) → IsMacroFound macros name (Some i) → state_at old.states i ≡ Expanded start len
      → new.rest.now ≡ old.rest.now → new.opened.items ≡ old.opened.items → new.states ≡ old.states
      → new.written.items ≡ old.written.items ++ take len (drop start old.written.items) → Referred macros name old new Goes
  -- its expansion begins
  Begins : (i : ℕ) (o : lent.Opened) → IsMacroFound macros name (Some i) → state_at old.states i ≡ Untouched
      → o.index ≡ i → o.outer.now ≡ old.rest.now → o.start ≡ length old.written.items
      → new.rest.now ≡ (macro_at macros i).value → new.opened.items ≡ old.opened.items ++ (o ∷ [])
      → new.states ≡ slice_set old.states i Begun → new.written.items ≡ old.written.items
      → Referred macros name old new Goes
  -- it is being expanded
  Meets : (i : ℕ) → IsMacroFound macros name (Some i) → state_at old.states i ≡ Begun
      → new.written.items ≡ old.written.items → Referred macros name old new Loops

-- what a part of the text did
abbrev pub Took : List Macro → (ℕ → List ℕ) → parts.Part → expandings.Expanding → expandings.Expanding → Step → Type 0
Took macros automatic (variants.Reference name) old new step = Referred macros name.now old new step
Took macros automatic (variants.Bytes bytes) old new step =
    (step ≡ Goes) × (new ≡ record old { written = new.written }) × (new.written.items ≡ old.written.items ++ bytes.now)
Took macros automatic (variants.Automatic b) old new step =
    (step ≡ Goes) × (new ≡ record old { written = new.written }) × (new.written.items ≡ old.written.items ++ automatic b)
Took macros automatic variants.Bad old new step = (step ≡ Goes) × (new ≡ old)

-- ---- a step

-- an expansion is at its end: nothing is left, and the results of the macros that it met are known
pub record IsAtEnd (macros : List Macro) (automatic : ℕ → List ℕ) (e : expandings.Expanding) : Type 0 where
  pub rest : e.rest.now ≡ []
  pub opened : e.opened.items ≡ []
  pub running : IsExpanding macros automatic (plain e.written.items) [] e

-- what a step did: the expansion goes on without its first pieces, or came to its end, or met a loop
abbrev pub StepWent : List Macro → (ℕ → List ℕ) → Expansion → Step → expandings.Expanding → Type 0
StepWent macros automatic total Goes new = IsExpanding macros automatic total [] new
StepWent macros automatic total Ends new = (total ≡ plain new.written.items) × IsAtEnd macros automatic new
StepWent macros automatic total Loops new = total ≡ record { bytes = new.written.items; loops = true }

-- there is less left to do after a step, where the expansion goes on
abbrev pub FallsBelow : ℕ → Step → ℕ → Type 0
FallsBelow before Goes after = after < before
FallsBelow before Ends after = Unit {0}
FallsBelow before Loops after = Unit {0}

-- some expansion of the code runs
abbrev pub IsSomeRun : List Macro → (ℕ → List ℕ) → expandings.Expanding → Type 0
IsSomeRun macros automatic e = (total : Expansion) × IsExpanding macros automatic total [] e

-- ---- the outcome

-- what an expansion gave: that it is too long, or its bytes, up to a loop where it met one
abbrev pub IsExpandedText : Expansion → expanded_texts.ExpandedText → Type 0
IsExpandedText total TooLong = is_too_long total ≡ true
IsExpandedText total (Loop bytes) = (is_too_long total ≡ false) × (total ≡ record { bytes = bytes.items; loops = true })
IsExpandedText total (Bytes bytes) = (is_too_long total ≡ false) × (total ≡ plain bytes.items)
