-- A whole story: a build under which the disk fails, and the same command once more.
use Rattle.std.proofs.Common.{◌≡◌, refl, inl, ℕ, true, false, Some, None, List, [], ◌∷◌, ◌++◌}
use Rattle.std.specs.Prelude.{codes, option_map}
use native.Mathlib.Bridge.{le_by_compare, IsLe}
use Rattle.cc_names.specs.Formed.{Plain}
use Rattle.cc_names.specs.declared.commands.Command.{Command}
use Rattle.cc_names.specs.declared.commands.Command.TheVariants as commands
use Rattle.cc_names.specs.declared.commands.Change.TheVariants as changes
use Rattle.cc_names.specs.declared.rows.Deed.TheVariants as deeds
use Rattle.cc_names.specs.declared.steps.StoryStep.{StoryStep}
use Rattle.cc_names.specs.declared.steps.StoryStep.TheVariants as story_steps
use Rattle.legal_history.specs.Builds.Values.{first_unsound}
use Rattle.legal_history.specs.Builds.Active.{Given}
use Rattle.legal_history.specs.Laws.Stops.{IsLeftByStop, WithRowLeft}
use Rattle.legal_history.specs.Stories.States.{all_done, build_by}
use Rattle.legal_history.specs.Stories.Steps.{state_of}
use Rattle.legal_history.specs.Stories.Lawful.{Legal}
use Rattle.legal_history.specs.Worked.{tag, row}
use Rattle.legal_history.proofs.Worked.StoryParts.{one_lane, opened, comes_after}
use Rattle.legal_history.proofs.Worked.TwoViews.{v, hi, makefile, script}

abbrev build : Command
build = commands.Build (record {
  view = v;
  file = None;
  own_only = false;
  rebuild = false;
  jobs = 1;
  macros = [];
  goals = codes "out" ∷ [];
})

-- the row that the first of two builds of private files publishes, and that of the second
abbrev pub published : ℕ → Plain
published n = row n (deeds.Publish v (codes "out" ∷ []) script (record { path = codes "in"; row = 3 } ∷ []) (hi ∷ []))

-- the files that are built
abbrev pub before_build : List StoryStep
before_build =
    opened
    ∷ story_steps.PhaseBegun (one_lane (commands.Change (changes.Mkview v)
    ∷ commands.Change (changes.Save v (codes "Makefile") makefile) ∷ commands.Change (changes.Save v (codes "in") hi)
    ∷ build ∷ build ∷ [])) 1700000000
    ∷ story_steps.Commit (row 1 (deeds.Mkview v)) 7
    ∷ story_steps.Commit (row 2 (deeds.Put v (codes "Makefile") makefile)) 11
    ∷ story_steps.Commit (row 3 (deeds.Put v (codes "in") hi)) 15
    ∷ []

abbrev pub before_fault : List StoryStep
before_fault = before_build ++ (story_steps.Begin (tag 1 1 4) 4 1 ∷ story_steps.Start (tag 1 1 4) 0
    ∷ [])

-- the disk fails at the first build's last sync, so that its row may be found
abbrev fault : StoryStep
fault = story_steps.Fault (tag 1 1 4) (Some (published 4)) 0 1 19

the_first_build_meets_it : option_map (λ build. build.faulted) (build_by (state_of (before_fault ++ (fault ∷ []))) (tag 1 1 4))
    ≡ Some true
the_first_build_meets_it = refl

-- a stop then may leave the object after the rows, and it is true; one with another text would not be
the_object_may_be_left : IsLeftByStop (state_of (before_fault ++ (fault ∷ []))) (published 4 ∷ (state_of before_build).base)
the_object_may_be_left = WithRowLeft (published 4) refl refl

it_is_sound : first_unsound (published 4 ∷ (state_of before_build).base) ≡ None
it_is_sound = refl

another_text_is_not :
    first_unsound (row 4 (deeds.Publish v (codes "out" ∷ []) script (record { path = codes "in"; row = 3 } ∷ []) (makefile ∷ []))
    ∷ (state_of before_build).base)
    ≡ Some 4
another_text_is_not = refl

-- the second build makes the row anew, two calls of the disk settle what the fault left, and four commit the row
abbrev fails_once : List StoryStep
fails_once =
    before_fault ++ (fault
    ∷ story_steps.End (tag 1 1 4)
    ∷ story_steps.Begin (tag 1 1 5) 4 1
    ∷ story_steps.Start (tag 1 1 5) 0
    ∷ story_steps.Commit (published 5) 25
    ∷ story_steps.End (tag 1 1 5)
    ∷ [])

fails_once_is_legal : Legal fails_once
unfolding IsLe
fails_once_is_legal = (
  record { first = refl; formed = tt; fits = refl },
  (
    record { opened = refl; finished = refl; in_time = le_by_compare 1700000000 253402300799 tt },
    (
      record { may = record { moment = refl; made = refl }; ticked = refl },
      (
        record { may = record { moment = refl; made = refl }; ticked = refl },
        (
          record { may = record { moment = refl; made = refl }; ticked = refl },
          (
            record { units = _; chosen = refl; at_rows = refl; of_units = refl },
            (
              record {
                build = _;
                unit = _;
                open_unit = record {
                  waits = record { active = refl; is_unit = refl; waits = refl };
                  faultless = refl;
                  ready = refl;
                  runs = refl;
                };
                fresh = refl;
                nothing = refl;
              },
              (
                record {
                  wanted = record {
                    row = published 4;
                    of_tag = refl;
                    may = record {
                      moment = refl;
                      made = record {
                        n = 0;
                        build = _;
                        unit = _;
                        place = refl;
                        running = record {
                          waits = record { active = refl; is_unit = refl; waits = refl };
                          faultless = refl;
                          started = refl;
                        };
                        nothing = refl;
                        made = refl;
                      };
                    };
                  };
                  rose = refl;
                  later = le_by_compare 0 0 tt;
                  leaves = inl (
                    refl,
                    record {
                      moment = refl;
                      made = record {
                        n = 0;
                        build = _;
                        unit = _;
                        place = refl;
                        running = record {
                          waits = record { active = refl; is_unit = refl; waits = refl };
                          faultless = refl;
                          started = refl;
                        };
                        nothing = refl;
                        made = refl;
                      };
                    },
                  );
                  ticked = refl;
                },
                (
                  record { build = _; active = refl; over = refl },
                  (
                    record { units = _; chosen = refl; at_rows = refl; of_units = refl },
                    (
                      record {
                        build = _;
                        unit = _;
                        open_unit = record {
                          waits = record { active = refl; is_unit = refl; waits = refl };
                          faultless = refl;
                          ready = refl;
                          runs = refl;
                        };
                        fresh = refl;
                        nothing = refl;
                      },
                      (
                        record {
                          may = record {
                            moment = refl;
                            made = record {
                              n = 0;
                              build = _;
                              unit = _;
                              place = refl;
                              running = record {
                                waits = record { active = refl; is_unit = refl; waits = refl };
                                faultless = refl;
                                started = refl;
                              };
                              nothing = refl;
                              made = refl;
                            };
                          };
                          ticked = refl;
                        },
                        (record { build = _; active = refl; over = refl }, tt),
                      ),
                    ),
                  ),
                ),
              ),
            ),
          ),
        ),
      ),
    ),
  ),
)

both_are_finished : all_done (state_of fails_once) ≡ true
both_are_finished = refl

the_second_build_has_its_object : comes_after 12 5 fails_once ≡ Some ((0, Given 4) ∷ [])
the_second_build_has_its_object = refl

-- the base has the row of the second build alone
one_object_is_published :
    (state_of fails_once).base
    ≡ published 5 ∷ row 3 (deeds.Put v (codes "in") hi) ∷ row 2 (deeds.Put v (codes "Makefile") makefile) ∷ row 1 (deeds.Mkview v)
    ∷ []
one_object_is_published = refl
