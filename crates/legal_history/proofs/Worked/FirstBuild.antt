-- The first build, worked: a view, a makefile, a source and one target; and the empty session.
use Rattle.std.proofs.Common.{◌≡◌, refl, ℕ, true, false, Some, None, List, [], ◌∷◌, ◌++◌}
use Rattle.std.specs.Prelude.{codes}
use native.Mathlib.Bridge.{le_by_compare, IsLe}
use Rattle.cc_names.specs.Formed.{Plain}
use Rattle.cc_names.specs.declared.commands.Command.TheVariants as commands
use Rattle.cc_names.specs.declared.commands.Change.TheVariants as changes
use Rattle.cc_names.specs.declared.commands.Phase.{Phase}
use Rattle.cc_names.specs.declared.rows.Deed.TheVariants as deeds
use Rattle.cc_names.specs.declared.steps.StoryStep.{StoryStep}
use Rattle.cc_names.specs.declared.steps.StoryStep.TheVariants as story_steps
use Rattle.base_model.specs.Rows.{Base}
use Rattle.base_model.specs.Fits.{is_base}
use Rattle.base_model.specs.Seen.{file_at, directory_at}
use Rattle.legal_history.specs.Stories.States.{all_done}
use Rattle.legal_history.specs.Stories.Steps.{state_of}
use Rattle.legal_history.specs.Stories.Lawful.{Legal}
use Rattle.base_model.specs.Texts.{text}
use Rattle.legal_history.specs.Queries.VersionNames.{line}
use Rattle.legal_history.specs.Worked.{tag, row}

abbrev makefile : List ℕ
makefile = line (codes "out: in") ++ line (9 ∷ codes "cat in > out")

abbrev row_1 : Plain
row_1 = row 1 (deeds.Mkview (codes "v"))

abbrev row_2 : Plain
row_2 = row 2 (deeds.Put (codes "v") (codes "Makefile") makefile)

abbrev row_3 : Plain
row_3 = row 3 (deeds.Put (codes "v") (codes "in") (line (codes "hi")))

abbrev row_4 : Plain
row_4 = row 4 (deeds.Publish (codes "v") (codes "out" ∷ []) (line (codes "cat in > out"))
    (record { path = codes "in"; row = 3 } ∷ []) (line (codes "hi") ∷ []))

abbrev base : Base
base = row_4 ∷ row_3 ∷ row_2 ∷ row_1 ∷ []

rows_fit : is_base base ≡ true
rows_fit = refl

source_seen : file_at base (codes "v") (codes "in") ≡ Some 3
source_seen = refl

object_not_seen : file_at base (codes "v") (codes "out") ≡ None
object_not_seen = refl

root_seen : directory_at base (codes "v") (codes ".") ≡ Some 0
root_seen = refl

output : text base 4 (codes "out") ≡ Some (line (codes "hi"))
output = refl

abbrev opened : StoryStep
opened = story_steps.Opened [] (record { ticks = 0; faults = 0 }) true

abbrev phase : Phase
phase = record {
  lanes = record {
    name = codes "a";
    commands =
        commands.Change (changes.Mkview (codes "v"))
        ∷ commands.Change (changes.Save (codes "v") (codes "Makefile") makefile)
        ∷ commands.Change (changes.Save (codes "v") (codes "in") (line (codes "hi")))
        ∷ commands.Build (record {
          view = codes "v";
          file = None;
          own_only = false;
          rebuild = false;
          jobs = 1;
          macros = [];
          goals = codes "out" ∷ [];
        }) ∷ [];
  } ∷ [];
}

abbrev saves : List StoryStep
saves = opened ∷ story_steps.PhaseBegun phase 1700000000 ∷ story_steps.Commit row_1 7 ∷ story_steps.Commit row_2 11
    ∷ story_steps.Commit row_3 15 ∷ []

saves_are_legal : Legal saves
unfolding IsLe
saves_are_legal = (
  record { first = refl; formed = tt; fits = refl },
  (
    record { opened = refl; finished = refl; in_time = le_by_compare 1700000000 253402300799 tt },
    (
      record { may = record { moment = refl; made = refl }; ticked = refl },
      (
        record { may = record { moment = refl; made = refl }; ticked = refl },
        (record { may = record { moment = refl; made = refl }; ticked = refl }, tt),
      ),
    ),
  ),
)

abbrev build : List StoryStep
build =
    story_steps.Begin (tag 1 1 4) 4 1 ∷ story_steps.Start (tag 1 1 4) 0 ∷ story_steps.Commit row_4 19
    ∷ story_steps.End (tag 1 1 4) ∷ []

build_is_legal : Legal (saves ++ build)
unfolding IsLe
build_is_legal = (
  record { first = refl; formed = tt; fits = refl },
  (
    record { opened = refl; finished = refl; in_time = le_by_compare 1700000000 253402300799 tt },
    (
      record { may = record { moment = refl; made = refl }; ticked = refl },
      (
        record { may = record { moment = refl; made = refl }; ticked = refl },
        (
          record { may = record { moment = refl; made = refl }; ticked = refl },
          (
            record { units = _; chosen = refl; at_rows = refl; of_units = refl },
            (
              record {
                build = _;
                unit = _;
                open_unit = record {
                  waits = record { active = refl; is_unit = refl; waits = refl };
                  faultless = refl;
                  ready = refl;
                  runs = refl;
                };
                fresh = refl;
                nothing = refl;
              },
              (
                record {
                  may = record {
                    moment = refl;
                    made = record {
                      n = 0;
                      build = _;
                      unit = _;
                      place = refl;
                      running = record {
                        waits = record { active = refl; is_unit = refl; waits = refl };
                        faultless = refl;
                        started = refl;
                      };
                      nothing = refl;
                      made = refl;
                    };
                  };
                  ticked = refl;
                },
                (record { build = _; active = refl; over = refl }, tt),
              ),
            ),
          ),
        ),
      ),
    ),
  ),
)

all_are_finished : all_done (state_of (saves ++ build)) ≡ true
all_are_finished = refl

-- the empty session: a base is opened and no phase is planned
nothing_is_legal : Legal (opened ∷ [])
nothing_is_legal = (record { first = refl; formed = tt; fits = refl }, tt)
