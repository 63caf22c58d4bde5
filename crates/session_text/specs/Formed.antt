-- The form of a session: what its names, paths, numbers and lists keep. What is read has it.
use Rattle.std.specs.Prelude.{◌≡◌, ◌≢◌, ℕ, ◌<◌, ◌≤◌, ◌^◌, true, List, [], map, length, IfSome}
use Rattle.std.specs.Prelude.{IsOk}
use Rattle.std.specs.List.{AllByRecursion, IsDistinct, list_all}
use Rattle.std.specs.Str.{bytes_eq}
use Rattle.cc_names.specs.Names.{IsName}
use Rattle.cc_names.specs.Paths.{IsPath, parent_of, join_of}
use Rattle.cc_names.specs.Formed.{IsTypeName, IsBelowRoot}
use Rattle.cc_names.specs.declared.commands.Macro.{Macro}
use Rattle.cc_names.specs.declared.commands.Change.{Change}
use Rattle.cc_names.specs.declared.commands.Change.TheVariants as changes
use Rattle.cc_names.specs.declared.commands.Clearmake.{Clearmake}
use Rattle.cc_names.specs.declared.commands.Command.{Command}
use Rattle.cc_names.specs.declared.commands.Command.TheVariants as commands
use Rattle.cc_names.specs.declared.commands.Lane.{Lane}
use Rattle.cc_names.specs.declared.commands.Phase.{Phase}
use Rattle.cc_names.specs.declared.commands.Session.{Session}
use Rattle.session_text.specs.Clearmake.{is_macro_byte, is_word_byte}
use Rattle.session_text.specs.Commands.{IsQuery}
use Rattle.session_text.specs.Words.{IsVersionName}

-- a macro of a command line, whose text is of a word
abbrev pub IsMacro : ℕ → Macro → Type 0
IsMacro limit macro =
    (macro.name ≢ []) × (list_all is_macro_byte macro.name ≡ true) × (length macro.name ≤ limit) × (length macro.value ≤ limit)
    × (list_all is_word_byte macro.value ≡ true)

-- the name of a macro
abbrev pub macro_name : Macro → List ℕ
macro_name macro = macro.name

-- a list with no more members than the limit, each of which is so
abbrev pub HasAtMost : {A : Type 0} → ℕ → (A → Type 0) → List A → Type 0
HasAtMost limit P xs = (length xs ≤ limit) × AllByRecursion P xs

-- the macros of a command line, each name once
abbrev pub AreMacros : ℕ → List Macro → Type 0
AreMacros limit macros = HasAtMost limit (IsMacro limit) macros × IsDistinct bytes_eq (map macro_name macros)

-- in this directory a name makes a path
abbrev pub MakesPath : List ℕ → List ℕ → Type 0
MakesPath name parent = IsOk (join_of parent name)

-- the path of this name beside that path is no longer than a path may be
abbrev pub FitsBeside : List ℕ → List ℕ → Type 0
FitsBeside path name = IfSome (parent_of path) (MakesPath name)

-- The form of a change, with a limit on the bytes of its text.
abbrev pub IsChange : ℕ → Change → Type 0
IsChange limit (changes.Mkview view) = IsName view
IsChange limit (changes.Rmview view force) = IsName view
IsChange limit (changes.Setcs view text) = IsName view × (length text ≤ limit)
IsChange limit (changes.Mkelem view nco path) = IsName view × IsBelowRoot path
IsChange limit (changes.Mkdir view nco path) = IsName view × IsBelowRoot path
IsChange limit (changes.Checkout view unreserved path) = IsName view × IsPath path
IsChange limit (changes.Mkbranch view nco branch path) = IsName view × IsTypeName branch × IsPath path
IsChange limit (changes.Save view path text) = IsName view × IsBelowRoot path × (length text ≤ limit)
IsChange limit (changes.Rm view path) = IsName view × IsBelowRoot path
IsChange limit (changes.Checkin view identical path) = IsName view × IsPath path
IsChange limit (changes.Uncheckout view path) = IsName view × IsPath path
IsChange limit (changes.Rmname view path) = IsName view × IsBelowRoot path
IsChange limit (changes.Mv view path name) = IsName view × IsBelowRoot path × IsName name × FitsBeside path name
IsChange limit (changes.Mklbtype name) = IsTypeName name
IsChange limit (changes.Mkbrtype name) = IsTypeName name
IsChange limit (changes.Mklabel view replace label path) = IsName view × IsTypeName label × IsPath path
IsChange limit (changes.MklabelConfig view replace path label) = IsName view × IsPath path × IsTypeName label
IsChange limit (changes.Rmlabel view label path) = IsName view × IsTypeName label × IsPath path
IsChange limit (changes.Mkarrow view path version) = IsName view × IsBelowRoot path × IsVersionName version
IsChange limit (changes.Rmdo view path) = IsName view × IsBelowRoot path
IsChange limit (changes.Scrub age) = age < 2 ^ 63

-- the form of a build, with a limit on the bytes of its macros and the members of its lists
abbrev pub IsClearmake : ℕ → Clearmake → Type 0
IsClearmake limit asked =
    IsName asked.view × IfSome asked.file IsPath × (1 ≤ asked.jobs) × (asked.jobs ≤ 64) × AreMacros limit asked.macros
    × HasAtMost limit IsPath asked.goals

-- The form of a command, with a limit on the bytes of its texts and the members of its lists.
abbrev pub IsCommand : ℕ → Command → Type 0
IsCommand limit (commands.Change change) = IsChange limit change
IsCommand limit (commands.Query query) = IsQuery query
IsCommand limit (commands.Build asked) = IsClearmake limit asked

-- the form of a lane, whose commands are within the limit
abbrev pub IsLane : ℕ → Lane → Type 0
IsLane limit lane = IsName lane.name × HasAtMost limit (IsCommand limit) lane.commands

-- the form of a phase, which has at most 64 lanes
abbrev pub IsPhase : ℕ → Phase → Type 0
IsPhase limit phase = HasAtMost 64 (IsLane limit) phase.lanes

-- The form of a session, whose texts and lists are within the limit.
abbrev pub IsFormedSession : ℕ → Session → Type 0
IsFormedSession limit session = HasAtMost limit (IsPhase limit) session.phases
