-- Two views that build side by side: both scripts are started, the first view publishes, and the second one, whose run was
-- started too, winks in what the first published.
use Rattle.std.proofs.Common.{◌≡◌, refl, inr, true, ℕ, List, [], ◌∷◌, ◌++◌}
use Rattle.std.specs.Prelude.{codes}
use native.Mathlib.Bridge.{le_by_compare, IsLe}
use Rattle.cc_names.specs.Formed.{Plain}
use Rattle.cc_names.specs.declared.commands.Command.TheVariants as commands
use Rattle.cc_names.specs.declared.commands.Change.TheVariants as changes
use Rattle.cc_names.specs.declared.commands.Phase.{Phase}
use Rattle.cc_names.specs.declared.rows.Deed.{Deed}
use Rattle.cc_names.specs.declared.rows.Deed.TheVariants as deeds
use Rattle.cc_names.specs.declared.rows.Kind.TheVariants.{File}
use Rattle.cc_names.specs.declared.steps.StoryStep.{StoryStep}
use Rattle.cc_names.specs.declared.steps.StoryStep.TheVariants as story_steps
use Rattle.base_model.specs.Changes.{objects_held}
use Rattle.legal_history.specs.Stories.States.{all_done}
use Rattle.legal_history.specs.Stories.Steps.{state_of}
use Rattle.legal_history.specs.Stories.Lawful.{Legal}
use Rattle.legal_history.specs.Worked.{tag, row}
use Rattle.legal_history.proofs.Worked.ReuseRows.{publish_in}
use Rattle.legal_history.proofs.Worked.StoryParts.{one_lane, opened}
use Rattle.legal_history.proofs.Worked.TwoViews.{v, w, hi, makefile, first_commands, clearmake}

-- a phase of two lanes, each of which builds in a view of its own
abbrev both_lanes : Phase
both_lanes = record {
  lanes = record { name = codes "a"; commands = clearmake v ∷ [] } ∷ record { name = codes "b"; commands = clearmake w ∷ [] }
      ∷ [];
}

-- a row of a lane's command in that phase
abbrev row_of : ℕ → Deed → Plain
row_of lane deed = record { tag = tag 2 lane 1; moment = 1700000060; deed = deed }

abbrev side_by_side : List StoryStep
side_by_side =
    opened
    ∷ story_steps.PhaseBegun (one_lane (first_commands ++ (commands.Change (changes.Mkview w) ∷ []))) 1700000000
    ∷ story_steps.Commit (row 1 (deeds.Mkview v)) 7
    ∷ story_steps.Commit (row 2 (deeds.Checkout v 0 0 true)) 11
    ∷ story_steps.Commit (row 3 (deeds.Mkelem v 0 (codes "Makefile") File true)) 15
    ∷ story_steps.Commit (row 4 (deeds.Save v 3 makefile)) 19
    ∷ story_steps.Commit (row 5 (deeds.Checkin v 3)) 23
    ∷ story_steps.Commit (row 6 (deeds.Mkelem v 0 (codes "in") File true)) 27
    ∷ story_steps.Commit (row 7 (deeds.Save v 6 hi)) 31
    ∷ story_steps.Commit (row 8 (deeds.Checkin v 6)) 35
    ∷ story_steps.Commit (row 9 (deeds.Checkin v 0)) 39
    ∷ story_steps.Commit (row 10 (deeds.Mkview w)) 43
    ∷ story_steps.PhaseBegun both_lanes 1700000060
    ∷ story_steps.Begin (tag 2 1 1) 11 1
    ∷ story_steps.Begin (tag 2 2 1) 11 1
    ∷ story_steps.Start (tag 2 1 1) 0
    ∷ story_steps.Start (tag 2 2 1) 0
    ∷ story_steps.Commit (row_of 1 (publish_in v)) 47
    ∷ story_steps.End (tag 2 1 1)
    ∷ story_steps.Commit (row_of 2 (deeds.Wink w 11)) 51
    ∷ story_steps.End (tag 2 2 1)
    ∷ []

side_by_side_is_legal : Legal side_by_side
unfolding IsLe
side_by_side_is_legal = (
  record { first = refl; formed = tt; fits = refl },
  (
    record { opened = refl; finished = refl; in_time = le_by_compare 1700000000 253402300799 tt },
    (
      record { may = record { moment = refl; made = refl }; ticked = refl },
      (
        record { may = record { moment = refl; made = refl }; ticked = refl },
        (
          record { may = record { moment = refl; made = refl }; ticked = refl },
          (
            record { may = record { moment = refl; made = refl }; ticked = refl },
            (
              record { may = record { moment = refl; made = refl }; ticked = refl },
              (
                record { may = record { moment = refl; made = refl }; ticked = refl },
                (
                  record { may = record { moment = refl; made = refl }; ticked = refl },
                  (
                    record { may = record { moment = refl; made = refl }; ticked = refl },
                    (
                      record { may = record { moment = refl; made = refl }; ticked = refl },
                      (
                        record { may = record { moment = refl; made = refl }; ticked = refl },
                        (
                          record { opened = refl; finished = refl; in_time = le_by_compare 1700000060 253402300799 tt },
                          (
                            record { units = _; chosen = refl; at_rows = refl; of_units = refl },
                            (
                              record { units = _; chosen = refl; at_rows = refl; of_units = refl },
                              (
                                record {
                                  build = _;
                                  unit = _;
                                  open_unit = record {
                                    waits = record { active = refl; is_unit = refl; waits = refl };
                                    faultless = refl;
                                    ready = refl;
                                    runs = refl;
                                  };
                                  fresh = refl;
                                  nothing = refl;
                                },
                                (
                                  record {
                                    build = _;
                                    unit = _;
                                    open_unit = record {
                                      waits = record { active = refl; is_unit = refl; waits = refl };
                                      faultless = refl;
                                      ready = refl;
                                      runs = refl;
                                    };
                                    fresh = refl;
                                    nothing = refl;
                                  },
                                  (
                                    record {
                                      may = record {
                                        moment = refl;
                                        made = record {
                                          n = 0;
                                          build = _;
                                          unit = _;
                                          place = refl;
                                          running = record {
                                            waits = record { active = refl; is_unit = refl; waits = refl };
                                            faultless = refl;
                                            started = refl;
                                          };
                                          nothing = refl;
                                          made = refl;
                                        };
                                      };
                                      ticked = refl;
                                    },
                                    (
                                      record { build = _; active = refl; over = refl },
                                      (
                                        record {
                                          may = record {
                                            moment = refl;
                                            made = record {
                                              n = 0;
                                              build = _;
                                              unit = _;
                                              place = refl;
                                              may = inr (record {
                                                waits = record { active = refl; is_unit = refl; waits = refl };
                                                faultless = refl;
                                                started = refl;
                                              });
                                              of_view = refl;
                                              chosen = refl;
                                              lacks = refl;
                                            };
                                          };
                                          ticked = refl;
                                        },
                                        (record { build = _; active = refl; over = refl }, tt),
                                      ),
                                    ),
                                  ),
                                ),
                              ),
                            ),
                          ),
                        ),
                      ),
                    ),
                  ),
                ),
              ),
            ),
          ),
        ),
      ),
    ),
  ),
)

both_lanes_are_finished : all_done (state_of side_by_side) ≡ true
both_lanes_are_finished = refl

both_views_hold_it : objects_held (state_of side_by_side).base ≡ ((v, codes "out"), 11) ∷ ((w, codes "out"), 11) ∷ []
both_views_hold_it = refl
