-- What the words of `clearmake V ..` say, in any order.
use Rattle.std.specs.Prelude.{ℕ, ◌+◌, Bool, true, false, ◌||◌, ◌&&◌, ◌==◌, nat_le, not, Option, Some, None, is_none, Ok, Err, List, []}
use Rattle.std.specs.Prelude.{◌∷◌, ◌++◌, codes, take, drop, length, unwrap_or, if◌then◌else◌}
use Rattle.std.specs.List.{list_all, position}
use Rattle.std.specs.Str.{bytes_eq}
use Rattle.cc_names.specs.declared.commands.Clearmake.{Clearmake}
use Rattle.cc_names.specs.declared.commands.Macro.{Macro}
use Rattle.cc_names.specs.declared.refusals.SessionCause.TheVariants.{BadWord}
use Rattle.session_text.specs.Shapes.{read_first_name, behind_first}
use Rattle.session_text.specs.Words.{Said, path_word, jobs_word, both, says}

-- a byte of a macro's name: a letter, a digit, `_` or `.`
abbrev pub is_macro_byte : ℕ → Bool
is_macro_byte b =
    (nat_le 97 b && nat_le b 122) || (nat_le 65 b && nat_le b 90) || (nat_le 48 b && nat_le b 57) || (b == 95) || (b == 46)

-- a byte of a word
abbrev pub is_word_byte : ℕ → Bool
is_word_byte b = nat_le 33 b && nat_le b 126

-- a `=`
abbrev pub is_equals : ℕ → Bool
is_equals b = b == 61

-- whether bytes are the name of a macro
abbrev pub is_macro_name : List ℕ → Bool
is_macro_name name = not (length name == 0) && list_all is_macro_byte name

-- macros with this one: the first place and the last text of a name count
abbrev pub with_macro : List Macro → List ℕ → List ℕ → List Macro
with_macro [] name text = record { name = name; value = text } ∷ []
with_macro (macro ∷ macros) name text =
    if bytes_eq name macro.name then record { name = macro.name; value = text } ∷ macros
    else macro ∷ with_macro macros name text

-- what was asked so far
pub record Asked : Type 0 where
  pub file : Option (List ℕ)
  pub own_only : Bool
  pub rebuild : Bool
  pub jobs : Option ℕ
  pub macros : List Macro
  pub goals : List (List ℕ)

-- nothing was asked
abbrev pub nothing_asked : Asked
nothing_asked = record { file = None; own_only = false; rebuild = false; jobs = None; macros = []; goals = [] }

-- with one goal more
abbrev pub with_goal : Asked → List ℕ → Asked
with_goal asked goal = record asked { goals = asked.goals ++ goal ∷ [] }

-- with one macro more, where its name and its text are those of one
abbrev pub with_asked_macro : Asked → List ℕ → List ℕ → Said Asked
with_asked_macro asked name text =
    if is_macro_name name && list_all is_word_byte text then Ok (record asked { macros = with_macro asked.macros name text }) else
    Err BadWord

-- with what a word asks that is no flag and no option: NAME=TEXT where it has a `=`, else a goal
abbrev pub with_word : Asked → List ℕ → Option ℕ → Said Asked
with_word asked word None = says (with_goal asked) (path_word word)
with_word asked word (Some place) = with_asked_macro asked (take place word) (drop (place + 1) word)

-- with a flag, or with what else a word asks
abbrev pub with_one : Asked → List ℕ → Said Asked
with_one asked word =
    if bytes_eq word (codes "-V") then Ok (record asked { own_only = true })
    else if bytes_eq word (codes "-u") then Ok (record asked { rebuild = true })
    else if bytes_eq word (codes "-k") then Ok asked
    else with_word asked word (position is_equals word)

-- with `-J n`, which may stand once
abbrev pub with_jobs : Asked → List ℕ → Said Asked
with_jobs asked n =
    if is_none asked.jobs then says (λ jobs. record asked { jobs = Some jobs }) (jobs_word n) else Err BadWord

-- with `-f P`, which may stand once
abbrev pub with_file : Asked → List ℕ → Said Asked
with_file asked p =
    if is_none asked.file then says (λ file. record asked { file = Some file }) (path_word p) else Err BadWord

-- what is asked after what was asked so far
abbrev pub asked_behind : (Asked → Said Asked) → Said Asked → Said Asked
asked_behind more (Ok asked) = more asked
asked_behind more (Err cause) = Err cause

-- whether a word is an option, which takes the word after it
abbrev pub is_option : List ℕ → Bool
is_option word = bytes_eq word (codes "-J") || bytes_eq word (codes "-f")

-- with an option and the word after it
abbrev pub with_option : Asked → List ℕ → List ℕ → Said Asked
with_option asked word next = if bytes_eq word (codes "-J") then with_jobs asked next else with_file asked next

-- what words ask, beside what was asked so far
abbrev pub asked_by : List (List ℕ) → Asked → Said Asked
asked_by [] asked = Ok asked
asked_by (word ∷ []) asked = if is_option word then Err BadWord else with_one asked word
asked_by (word ∷ next ∷ words) asked =
    if is_option word then asked_behind (asked_by words) (with_option asked word next)
    else asked_behind (asked_by (next ∷ words)) (with_one asked word)

-- the build of a view and what is asked: without `-J` there is one job
abbrev pub build_of : List ℕ → Asked → Clearmake
build_of view asked = record {
  view = view;
  file = asked.file;
  own_only = asked.own_only;
  rebuild = asked.rebuild;
  jobs = unwrap_or asked.jobs 1;
  macros = asked.macros;
  goals = asked.goals;
}

-- `clearmake V ..`
abbrev pub clearmake : List (List ℕ) → Said Clearmake
clearmake words =
    says (λ said. build_of said.0 said.1) (both (read_first_name words) (asked_by (behind_first words) nothing_asked))
