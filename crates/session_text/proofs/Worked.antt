-- Sessions and texts that are none, worked out by hand.
use Rattle.std.proofs.Common.{◌≡◌, ℕ, List, [], ◌∷◌, refl, Some, None, true, false, Ok, Err, Result}
use Rattle.std.specs.Prelude.{codes}
use Rattle.cc_names.specs.declared.commands.Command.{Command}
use Rattle.cc_names.specs.declared.commands.Command.TheVariants as commands
use Rattle.cc_names.specs.declared.commands.Query.TheVariants as queries
use Rattle.cc_names.specs.declared.commands.Change.TheVariants as changes
use Rattle.cc_names.specs.declared.commands.Session.{Session}
use Rattle.cc_names.specs.declared.refusals.SessionCause.{SessionCause}
use Rattle.cc_names.specs.declared.refusals.SessionCause.TheVariants as causes
use Rattle.cc_names.specs.declared.refusals.SessionError.{SessionError}
use Rattle.session_text.specs.CommandWords.{words_of_command}
use Rattle.session_text.specs.Commands.{table, said_in}
use Rattle.session_text.specs.Sessions.{session_of}
use Rattle.session_text.specs.Words.{Said}

-- the session that makes a view, saves a makefile and a source and builds one target
first_build : session_of
    (codes "phase\nlane a\nmkview v\nsave v Makefile\n|out: in\n|\tcat in > out\nsave v in\n|hi\nclearmake v out\n")
    ≡ Ok (record {
      phases = record {
        lanes = record {
          name = codes "a";
          commands =
              commands.Change (changes.Mkview (codes "v"))
              ∷ commands.Change (changes.Save (codes "v") (codes "Makefile") (codes "out: in\n\tcat in > out\n"))
              ∷ commands.Change (changes.Save (codes "v") (codes "in") (codes "hi\n"))
              ∷ commands.Build (record {
                view = codes "v";
                file = None;
                own_only = false;
                rebuild = false;
                jobs = 1;
                macros = [];
                goals = codes "out" ∷ [];
              })
              ∷ [];
        } ∷ [];
      } ∷ [];
    })
first_build = refl

-- a line without its newline, comments, empty lines, an empty body line and blanks round words
lines_with_blanks : session_of (codes "# note\n\nphase\n\tlane  a \nsave v in\n|\n\n#\n||x\nmkview w")
    ≡ Ok (record {
      phases = record {
        lanes = record {
          name = codes "a";
          commands = commands.Change (changes.Save (codes "v") (codes "in") (codes "\n|x\n"))
              ∷ commands.Change (changes.Mkview (codes "w")) ∷ [];
        } ∷ [];
      } ∷ [];
    })
lines_with_blanks = refl

-- two phases, the first with two lanes
two_phases : session_of (codes "phase\nlane a\nlane b\nmkview v\nphase\n")
    ≡ Ok (record {
      phases = record {
        lanes = record { name = codes "a"; commands = [] } ∷ record {
          name = codes "b";
          commands = commands.Change (changes.Mkview (codes "v")) ∷ [];
        } ∷ [];
      } ∷ record { lanes = [] } ∷ [];
    })
two_phases = refl

no_lines : session_of [] ≡ Ok (record { phases = [] })
no_lines = refl

-- what the line of a command says
line_says : List (List ℕ) → Said Command
line_says [] = Err causes.UnknownCommand
line_says (word ∷ words) = said_in table word words []

built : line_says (codes "clearmake" ∷ codes "v" ∷ codes "A=1" ∷ codes "-u" ∷ codes "b" ∷ codes "B=" ∷ codes "-J" ∷ codes "4"
    ∷ codes "A=2" ∷ codes "-f" ∷ codes "." ∷ [])
    ≡ Ok (commands.Build (record {
      view = codes "v";
      file = Some (codes ".");
      own_only = false;
      rebuild = true;
      jobs = 4;
      macros = record { name = codes "A"; value = codes "2" } ∷ record { name = codes "B"; value = [] } ∷ [];
      goals =
          codes "b" ∷ [];
    }))
unfolding line_says
built = refl

version_read : line_says (codes "cat" ∷ codes "v" ∷ codes "a@@/main/fix/3" ∷ [])
    ≡ Ok (commands.Query (queries.Cat (codes "v") (codes "a") (Some (record { branches = codes "fix" ∷ []; number = 3 }))))
unfolding line_says
version_read = refl

labelled : line_says (codes "mklabel" ∷ codes "v" ∷ codes "-replace" ∷ codes "-config" ∷ codes "out" ∷ codes "REL" ∷ [])
    ≡ Ok (commands.Change (changes.MklabelConfig (codes "v") true (codes "out") (codes "REL")))
unfolding line_says
labelled = refl

merged : line_says (codes "findmerge" ∷ codes "w" ∷ codes "." ∷ codes "-fversion" ∷ codes ".../fix/LATEST" ∷ [])
    ≡ Ok (commands.Query (queries.Findmerge (codes "w") (codes ".") (codes "fix")))
unfolding line_says
merged = refl

ended_by_force : line_says (codes "rmview" ∷ codes "-force" ∷ codes "v" ∷ [])
    ≡ Ok (commands.Change (changes.Rmview (codes "v") true))
unfolding line_says
ended_by_force = refl

rules_set : line_says (codes "setcs" ∷ codes "v" ∷ []) ≡ Ok (commands.Change (changes.Setcs (codes "v") []))
unfolding line_says
rules_set = refl

file_made : line_says (codes "mkelem" ∷ codes "v" ∷ codes "-nco" ∷ codes "a" ∷ [])
    ≡ Ok (commands.Change (changes.Mkelem (codes "v") true (codes "a")))
unfolding line_says
file_made = refl

directory_made : line_says (codes "mkdir" ∷ codes "v" ∷ codes "-nco" ∷ codes "a" ∷ [])
    ≡ Ok (commands.Change (changes.Mkdir (codes "v") true (codes "a")))
unfolding line_says
directory_made = refl

taken_out : line_says (codes "checkout" ∷ codes "v" ∷ codes "-unreserved" ∷ codes "." ∷ [])
    ≡ Ok (commands.Change (changes.Checkout (codes "v") true (codes ".")))
unfolding line_says
taken_out = refl

branched : line_says (codes "mkbranch" ∷ codes "v" ∷ codes "-nco" ∷ codes "fix" ∷ codes "a" ∷ [])
    ≡ Ok (commands.Change (changes.Mkbranch (codes "v") true (codes "fix") (codes "a")))
unfolding line_says
branched = refl

saved : line_says (codes "save" ∷ codes "v" ∷ codes "a" ∷ []) ≡ Ok (commands.Change (changes.Save (codes "v") (codes "a") []))
unfolding line_says
saved = refl

removed : line_says (codes "rm" ∷ codes "v" ∷ codes "a" ∷ []) ≡ Ok (commands.Change (changes.Rm (codes "v") (codes "a")))
unfolding line_says
removed = refl

checked_in : line_says (codes "checkin" ∷ codes "v" ∷ codes "-identical" ∷ codes "a" ∷ [])
    ≡ Ok (commands.Change (changes.Checkin (codes "v") true (codes "a")))
unfolding line_says
checked_in = refl

given_up : line_says (codes "uncheckout" ∷ codes "v" ∷ codes "a" ∷ [])
    ≡ Ok (commands.Change (changes.Uncheckout (codes "v") (codes "a")))
unfolding line_says
given_up = refl

name_removed : line_says (codes "rmname" ∷ codes "v" ∷ codes "a" ∷ [])
    ≡ Ok (commands.Change (changes.Rmname (codes "v") (codes "a")))
unfolding line_says
name_removed = refl

moved : line_says (codes "mv" ∷ codes "v" ∷ codes "a/b" ∷ codes "c" ∷ [])
    ≡ Ok (commands.Change (changes.Mv (codes "v") (codes "a/b") (codes "c")))
unfolding line_says
moved = refl

label_type_made : line_says (codes "mklbtype" ∷ codes "REL" ∷ []) ≡ Ok (commands.Change (changes.Mklbtype (codes "REL")))
unfolding line_says
label_type_made = refl

branch_type_made : line_says (codes "mkbrtype" ∷ codes "fix" ∷ []) ≡ Ok (commands.Change (changes.Mkbrtype (codes "fix")))
unfolding line_says
branch_type_made = refl

label_put : line_says (codes "mklabel" ∷ codes "v" ∷ codes "-replace" ∷ codes "REL" ∷ codes "a" ∷ [])
    ≡ Ok (commands.Change (changes.Mklabel (codes "v") true (codes "REL") (codes "a")))
unfolding line_says
label_put = refl

label_taken_off : line_says (codes "rmlabel" ∷ codes "v" ∷ codes "REL" ∷ codes "a" ∷ [])
    ≡ Ok (commands.Change (changes.Rmlabel (codes "v") (codes "REL") (codes "a")))
unfolding line_says
label_taken_off = refl

dropped : line_says (codes "rmdo" ∷ codes "v" ∷ codes "a" ∷ []) ≡ Ok (commands.Change (changes.Rmdo (codes "v") (codes "a")))
unfolding line_says
dropped = refl

scrubbed : line_says (codes "scrub" ∷ codes "12" ∷ []) ≡ Ok (commands.Change (changes.Scrub 12))
unfolding line_says
scrubbed = refl

rules_asked : line_says (codes "catcs" ∷ codes "v" ∷ []) ≡ Ok (commands.Query (queries.Catcs (codes "v")))
unfolding line_says
rules_asked = refl

objects_asked : line_says (codes "lsdo" ∷ codes "v" ∷ []) ≡ Ok (commands.Query (queries.Lsdo (codes "v")))
unfolding line_says
objects_asked = refl

root_asked : line_says (codes "ls" ∷ codes "v" ∷ []) ≡ Ok (commands.Query (queries.Ls (codes "v") None))
unfolding line_says
root_asked = refl

directory_asked : line_says (codes "ls" ∷ codes "v" ∷ codes "d" ∷ []) ≡ Ok
    (commands.Query (queries.Ls (codes "v") (Some (codes "d"))))
unfolding line_says
directory_asked = refl

text_asked : line_says (codes "cat" ∷ codes "v" ∷ codes "a" ∷ []) ≡ Ok (commands.Query (queries.Cat (codes "v") (codes "a") None))
unfolding line_says
text_asked = refl

element_asked : line_says (codes "describe" ∷ codes "v" ∷ codes "a" ∷ [])
    ≡ Ok (commands.Query (queries.Describe (codes "v") (codes "a")))
unfolding line_says
element_asked = refl

versions_asked : line_says (codes "lsvtree" ∷ codes "v" ∷ codes "a" ∷ [])
    ≡ Ok (commands.Query (queries.Lsvtree (codes "v") (codes "a")))
unfolding line_says
versions_asked = refl

history_asked : line_says (codes "lshistory" ∷ codes "v" ∷ codes "a" ∷ [])
    ≡ Ok (commands.Query (queries.Lshistory (codes "v") (codes "a")))
unfolding line_says
history_asked = refl

record_asked : line_says (codes "catcr" ∷ codes "v" ∷ codes "a" ∷ []) ≡ Ok
    (commands.Query (queries.Catcr (codes "v") (codes "a")))
unfolding line_says
record_asked = refl

difference_asked : line_says (codes "diffcr" ∷ codes "v" ∷ codes "a" ∷ codes "w" ∷ codes "b" ∷ [])
    ≡ Ok (commands.Query (queries.Diffcr (codes "v") (codes "a") (codes "w") (codes "b")))
unfolding line_says
difference_asked = refl

cover_asked : line_says (codes "covers" ∷ codes "w" ∷ codes "v" ∷ codes "a" ∷ [])
    ≡ Ok (commands.Query (queries.Covers (codes "w") (codes "v") (codes "a")))
unfolding line_says
cover_asked = refl

merge_noted : line_says (codes "mkarrow" ∷ codes "v" ∷ codes "a" ∷ codes "/main/fix/1" ∷ [])
    ≡ Ok (commands.Change (changes.Mkarrow (codes "v") (codes "a") (record { branches = codes "fix" ∷ []; number = 1 })))
unfolding line_says
merge_noted = refl

-- a text that is none, by its line and cause
wrong : ℕ → SessionCause → Result Session SessionError
wrong line cause = Err (record { line = line; cause = cause })

unknown : session_of (codes "phase\nlane a\nfrob v\n") ≡ wrong 3 causes.UnknownCommand
unfolding wrong
unknown = refl

bad_path : session_of (codes "phase\nlane a\nsave v a//b\n") ≡ wrong 3 causes.BadWord
unfolding wrong
bad_path = refl

no_phase : session_of (codes "#\nlane a\n") ≡ wrong 2 causes.NoPhase
unfolding wrong
no_phase = refl

no_lane : session_of (codes "phase\nlane a\nphase\n|x\n") ≡ wrong 4 causes.NoLane
unfolding wrong
no_lane = refl

no_body : session_of (codes "phase\nlane a\nmkview v\n|x\n") ≡ wrong 4 causes.NoBody
unfolding wrong
no_body = refl

two_lanes : session_of (codes "phase\nlane a\nlane a b\n") ≡ wrong 3 causes.TwoLanes
unfolding wrong
two_lanes = refl

blanks_alone : session_of (codes "phase\nlane a\n \t\n") ≡ wrong 3 causes.UnknownCommand
unfolding wrong
blanks_alone = refl

-- the words of a phase are those of its lanes' commands, in order
phase_words : words_of_command (record {
  lanes = record {
    name = codes "a";
    commands =
        commands.Change (changes.Mkview (codes "v"))
        ∷ commands.Change (changes.Save (codes "v") (codes "in") (codes "hi\n"))
        ∷ commands.Build (record {
          view = codes "v";
          file = None;
          own_only = false;
          rebuild = false;
          jobs = 1;
          macros = [];
          goals = codes "out" ∷ [];
        })
        ∷ [];
  } ∷ [];
})
    ≡ record {
      lanes = record {
        name = codes "a";
        words = codes "mkview" ∷ codes "save" ∷ codes "clearmake" ∷ [];
      } ∷ [];
    }
phase_words = refl
