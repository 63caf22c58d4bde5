-- The words of commands: the first word of a command's line, by which its reply is printed.
use Rattle.std.specs.Prelude.{ℕ, List, map, codes}
use Rattle.cc_names.specs.declared.commands.Change.{Change}
use Rattle.cc_names.specs.declared.commands.Change.TheVariants as changes
use Rattle.cc_names.specs.declared.commands.Command.{Command}
use Rattle.cc_names.specs.declared.commands.Command.TheVariants as commands
use Rattle.cc_names.specs.declared.commands.Lane.{Lane}
use Rattle.cc_names.specs.declared.commands.LaneWords.{LaneWords}
use Rattle.cc_names.specs.declared.commands.Phase.{Phase}
use Rattle.cc_names.specs.declared.commands.PhaseWords.{PhaseWords}
use Rattle.session_text.specs.Commands.{query_word}

-- the word of a change
abbrev pub change_word : Change → List ℕ
change_word (changes.Mkview view) = codes "mkview"
change_word (changes.Rmview view force) = codes "rmview"
change_word (changes.Setcs view text) = codes "setcs"
change_word (changes.Mkelem view nco path) = codes "mkelem"
change_word (changes.Mkdir view nco path) = codes "mkdir"
change_word (changes.Checkout view unreserved path) = codes "checkout"
change_word (changes.Mkbranch view nco branch path) = codes "mkbranch"
change_word (changes.Save view path text) = codes "save"
change_word (changes.Rm view path) = codes "rm"
change_word (changes.Checkin view identical path) = codes "checkin"
change_word (changes.Uncheckout view path) = codes "uncheckout"
change_word (changes.Rmname view path) = codes "rmname"
change_word (changes.Mv view path name) = codes "mv"
change_word (changes.Mklbtype name) = codes "mklbtype"
change_word (changes.Mkbrtype name) = codes "mkbrtype"
change_word (changes.Mklabel view replace label path) = codes "mklabel"
change_word (changes.MklabelConfig view replace path label) = codes "mklabel"
change_word (changes.Rmlabel view label path) = codes "rmlabel"
change_word (changes.Mkarrow view path version) = codes "mkarrow"
change_word (changes.Rmdo view path) = codes "rmdo"
change_word (changes.Scrub age) = codes "scrub"

-- the word of a command
abbrev pub word_of : Command → List ℕ
word_of (commands.Change change) = change_word change
word_of (commands.Query query) = query_word query
word_of (commands.Build asked) = codes "clearmake"

-- a lane by the words of its commands
abbrev pub lane_words : Lane → LaneWords
lane_words lane = record { name = lane.name; words = map word_of lane.commands }

-- a phase by the words of its lanes' commands
abbrev pub words_of_command : Phase → PhaseWords
words_of_command phase = record { lanes = map lane_words phase.lanes }
