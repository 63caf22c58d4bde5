-- An expansion as the code runs it: what is left of the text, the macros that are being expanded, what is known of each
-- macro, and the bytes that were written.
use Rattle.std.specs.Prelude.{◌≡◌, ℕ, ◌+◌, ◌*◌, ◌≤◌, ◌<◌, Bool, true, false, Option, Some, None, List, [], length, take, drop}
use Rattle.std.specs.Prelude.{sum_by, slice_index_or}
use Rattle.cc_names.specs.declared.commands.Macro.{Macro}
use Rattle.make_grammar.specs.Macros.{Piece, Expansion, plain, one_after_other, value_in, is_among, no_automatic}
use Rattle.make_text.specs.Expanding.{Memo, Opened, opened_names, goes_on, left_of, still, AreKnown, AllGive}
use Rattle.make_text.specs.States.{state_at}
use Rattle.make_text.specs.declared.states.State.{State}
use Rattle.make_text.specs.declared.states.State.TheVariants.{Untouched, Begun, Expanded}

-- the macro at an index
abbrev pub macro_at : List Macro → ℕ → Macro
macro_at macros i = slice_index_or macros i (record { name = []; value = [] })

-- no two macros have one name
abbrev pub HasNamesApart : List Macro → Type 0
HasNamesApart macros =
    (i j : ℕ) → i < length macros → j < length macros → (macro_at macros i).name ≡ (macro_at macros j).name → i ≡ j

-- a macro of this name stands at the index, or none is there
abbrev pub IsMacroFound : List Macro → List ℕ → Option ℕ → Type 0
IsMacroFound macros name None = value_in macros name ≡ None
IsMacroFound macros name (Some i) =
    (i < length macros) × ((macro_at macros i).name ≡ name) × (value_in macros name ≡ Some (macro_at macros i).value)

-- the bytes that a macro whose expansion ended gave
abbrev pub result_in : List ℕ → State → Option (List ℕ)
result_in written Untouched = None
result_in written Begun = None
result_in written (Expanded start len) = Some (take len (drop start written))

-- how many they are
abbrev pub len_in : State → Option ℕ
len_in Untouched = None
len_in Begun = None
len_in (Expanded start len) = Some len

-- they stand among the bytes that were written
abbrev pub EndsIn : List ℕ → State → Type 0
EndsIn written Untouched = Unit {0}
EndsIn written Begun = Unit {0}
EndsIn written (Expanded start len) = start + len ≤ length written

abbrev pub is_begun : State → Bool
is_begun Untouched = false
is_begun Begun = true
is_begun (Expanded start len) = false

-- one for each macro whose expansion was not begun
abbrev pub count_untouched : State → ℕ
count_untouched Untouched = 1
count_untouched Begun = 0
count_untouched (Expanded start len) = 0

-- how much is left to do: it falls with each step
abbrev pub work : List Macro → List ℕ → List Opened → List State → ℕ
work macros rest opened states =
    sum_by count_untouched states * (sum_by (λ m. length m.value) macros + 2) + length rest + sum_by (λ o. length o.outer + 1)
    opened

module _ (macros : List Macro) (automatic : ℕ → List ℕ) where
  -- An expansion that gives a total in the end: what was written, then these pieces, then what is still to come. The
  -- results of macros are what a reference gives in any place where one is still looked up.
  pub record Runs (total : Expansion) (pieces : List Piece) (rest written : List ℕ) (opened : List Opened)
      (states : List State) : Type 0 where
    pub memo : Memo
    pub size : ℕ
    pub whole :
        one_after_other (plain written)
        (one_after_other (goes_on macros automatic (left_of macros automatic opened) (opened_names opened) pieces)
        (still macros automatic rest opened))
        ≡ total
    pub gives : AllGive macros automatic memo size written pieces rest opened
    pub settled : AreKnown macros automatic memo size
    pub known : length states ≡ length macros
    pub results : (i : ℕ) → i < length macros → memo (macro_at macros i).name ≡ result_in written (state_at states i)
    pub ends : (i : ℕ) → i < length macros → EndsIn written (state_at states i)
    pub begun : (i : ℕ) → i < length macros → is_among (opened_names opened) (macro_at macros i).name
        ≡ is_begun (state_at states i)
    pub apart : (x bytes : List ℕ) → memo x ≡ Some bytes → is_among (opened_names opened) x ≡ false
    pub defined : (x : List ℕ) → value_in macros x ≡ None → is_among (opened_names opened) x ≡ false
    pub counted : sum_by count_untouched states + (size + length opened) ≡ length macros

-- what was written outside scripts has the results of the macros that were expanded, which stand there by these states
abbrev pub AreResults : List Macro → List ℕ → List State → Type 0
AreResults macros written states = Runs macros no_automatic (plain written) [] [] written [] states
