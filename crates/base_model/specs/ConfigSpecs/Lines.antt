-- What one line of a config spec says.
use Rattle.std.specs.Prelude.{ℕ, Bool, true, false, ◌==◌, Option, Some, None, is_some, Result, Ok, Err, List, [], ◌∷◌, codes}
use Rattle.std.specs.Prelude.{if◌then◌else◌}
use Rattle.std.specs.Option.{option_and_then}
use Rattle.std.specs.Str.{bytes_eq}
use Rattle.cc_names.specs.Cuts.{words_of}
use Rattle.cc_names.specs.declared.refusals.SpecCause.{SpecCause}
use Rattle.cc_names.specs.declared.refusals.SpecCause.TheVariants.{BadRule, BadDate}
use Rattle.date_text.specs.Dates.{date_of}
use Rattle.base_model.specs.ConfigSpecs.Patterns.{pattern_of}
use Rattle.base_model.specs.ConfigSpecs.Selectors.{selector_of, branch_type_of}
use Rattle.base_model.specs.declared.config_specs.Named.{Named}
use Rattle.base_model.specs.declared.config_specs.Named.TheVariants.{Time, NoCheckout, MkBranch, Unknown}
use Rattle.base_model.specs.declared.config_specs.Line.{Line}
use Rattle.base_model.specs.declared.config_specs.Line.TheVariants.{Skipped, BeginsBlock, EndsBlock, Gives}

infixl 10 ◌>>=◌
-- the first cause, or what the next step makes of what was read
abbrev pub ◌>>=◌ : {A B : Type 0} → Result A SpecCause → (A → Result B SpecCause) → Result B SpecCause
(Ok x) >>= f = f x
(Err cause) >>= f = Err cause

-- the options of a rule as they stand, with the words after them
pub record Options : Type 0 where
  pub time : Option (List ℕ)
  pub nocheckout : Bool
  pub mkbranch : Option (List ℕ)

-- a rule without options
abbrev pub no_options : Options
no_options = record { time = None; nocheckout = false; mkbranch = None }

-- which option a word names
abbrev pub option_named : List ℕ → Named
option_named word =
    if bytes_eq word (codes "-time") then Time
    else if bytes_eq word (codes "-nocheckout") then NoCheckout
    else if bytes_eq word (codes "-mkbranch") then MkBranch
    else Unknown

-- options with one more, where it is not among them yet
abbrev pub with_time : List ℕ → Options → Option Options
with_time word options = if is_some options.time then None else Some (record options { time = Some word })

-- with `-nocheckout`, where it is not among them yet
abbrev pub with_nocheckout : Options → Option Options
with_nocheckout options = if options.nocheckout then None else Some (record options { nocheckout = true })

-- with `-mkbranch` and its word, where it is not among them yet
abbrev pub with_mkbranch : List ℕ → Options → Option Options
with_mkbranch word options = if is_some options.mkbranch then None else Some (record options { mkbranch = Some word })

-- what the last word of a line adds: an option that takes a word lacks it there
abbrev pub last_option : Named → Options → Option Options
last_option NoCheckout options = with_nocheckout options
last_option _ options = None

-- what an option adds that has a word after it, and how reading goes on: after the option, or after that word
abbrev pub next_option : Named → List ℕ → Options → (Options → Option Options) → (Options → Option Options) → Option Options
next_option Time next options behind behind_next = option_and_then behind_next (with_time next options)
next_option MkBranch next options behind behind_next = option_and_then behind_next (with_mkbranch next options)
next_option NoCheckout next options behind behind_next = option_and_then behind (with_nocheckout options)
next_option Unknown next options behind behind_next = None

-- The options that words spell, in any order and each at most once, beside those that were read before them.
abbrev pub options_from : List (List ℕ) → Options → Option Options
options_from [] options = Some options
options_from (word ∷ []) options = last_option (option_named word) options
options_from (word ∷ next ∷ words) options = next_option (option_named word) next options (options_from (next ∷ words))
    (options_from words)

-- a word read as a date
abbrev pub moment_of_word : List ℕ → Result ℕ SpecCause
moment_of_word word = elim (date_of word) [ Ok moment ↦ Ok moment | Err fault ↦ Err BadDate ]

-- the moment that affects a rule: its own, else that of the block around it
abbrev pub before_of : Option (List ℕ) → Option ℕ → Result (Option ℕ) SpecCause
before_of None block = Ok block
before_of (Some word) block = do
  moment ← moment_of_word word
  Ok (Some moment)

-- the rule on a line, inside a block of this time: the causes are tested in this order
abbrev pub rule_of : ℕ → Option ℕ → List ℕ → Bool → List ℕ → Options → Result Line SpecCause
rule_of line block pattern of_object selector options = do
  segments ← pattern_of pattern
  version ← selector_of of_object selector
  before ← before_of options.time block
  branch ← branch_type_of options.mkbranch
  Ok (Gives (record {
    line = line;
    pattern = segments;
    selector = version;
    before = before;
    nocheckout = options.nocheckout;
    mkbranch = branch;
  }))

-- the rule, where its options can be read
abbrev pub with_options : ℕ → Option ℕ → List ℕ → Bool → List ℕ → Option Options → Result Line SpecCause
with_options line block pattern of_object selector None = Err BadRule
with_options line block pattern of_object selector (Some options) = rule_of line block pattern of_object selector options

-- `element PATTERN -config` and the words after
abbrev pub object_line : ℕ → Option ℕ → List ℕ → List (List ℕ) → Result Line SpecCause
object_line line block pattern [] = Err BadRule
object_line line block pattern (object ∷ words) = with_options line block pattern true object (options_from words no_options)

-- the words after `element`
abbrev pub element_line : ℕ → Option ℕ → List (List ℕ) → Result Line SpecCause
element_line line block (pattern ∷ selector ∷ words) =
    if bytes_eq selector (codes "-config") then object_line line block pattern words
    else with_options line block pattern false selector (options_from words no_options)
element_line line block _ = Err BadRule

-- `time DATE` opens a block
abbrev pub time_line : List (List ℕ) → Result Line SpecCause
time_line (date ∷ []) = do
  moment ← moment_of_word date
  Ok (BeginsBlock moment)
time_line _ = Err BadRule

-- `end time` closes the innermost block
abbrev pub end_line : List (List ℕ) → Result Line SpecCause
end_line (word ∷ []) = if bytes_eq word (codes "time") then Ok EndsBlock else Err BadRule
end_line _ = Err BadRule

-- whether a word begins a comment
abbrev pub is_comment : List ℕ → Bool
is_comment [] = false
is_comment (b ∷ bs) = b == 35

-- what the words of a line say
abbrev pub line_of_words : ℕ → Option ℕ → List (List ℕ) → Result Line SpecCause
line_of_words line block [] = Ok Skipped
line_of_words line block (word ∷ words) =
    if is_comment word then Ok Skipped
    else if bytes_eq word (codes "element") then element_line line block words
    else if bytes_eq word (codes "time") then time_line words
    else if bytes_eq word (codes "end") then end_line words
    else Err BadRule

-- What a line says, by its number and the time of the innermost block around it, or why it is none.
abbrev pub line_of : ℕ → Option ℕ → List ℕ → Result Line SpecCause
line_of line block bytes = line_of_words line block (words_of bytes)
