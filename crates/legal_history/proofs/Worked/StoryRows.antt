-- A whole story: two views that build. The second one winks in what the first one made, and the first one then keeps that.
use Rattle.std.proofs.Common.{◌≡◌, refl, inl, true, Some, List, [], ◌∷◌, ◌++◌}
use Rattle.std.specs.Prelude.{codes}
use native.Mathlib.Bridge.{le_by_compare, IsLe}
use Rattle.cc_names.specs.declared.commands.Command.TheVariants as commands
use Rattle.cc_names.specs.declared.commands.Change.TheVariants as changes
use Rattle.cc_names.specs.declared.rows.Deed.TheVariants as deeds
use Rattle.cc_names.specs.declared.rows.Kind.TheVariants.{File}
use Rattle.cc_names.specs.declared.steps.StoryStep.{StoryStep}
use Rattle.cc_names.specs.declared.steps.StoryStep.TheVariants as story_steps
use Rattle.cc_names.specs.declared.steps.UnitEnd.TheVariants as ends
use Rattle.legal_history.specs.Builds.Active.{Concluded, Given}
use Rattle.legal_history.specs.Stories.States.{all_done}
use Rattle.legal_history.specs.Stories.Steps.{state_of}
use Rattle.legal_history.specs.Stories.Lawful.{Legal}
use Rattle.legal_history.specs.Worked.{tag, row}
use Rattle.legal_history.proofs.Worked.StoryParts.{comes_after, one_lane, opened}
use Rattle.legal_history.proofs.Worked.TwoViews.{v, w, hi, makefile, first_commands, clearmake, publish, two_views}

-- each row takes four calls of the disk, and the three before them open it
abbrev both_build : List StoryStep
both_build =
    opened
    ∷ story_steps.PhaseBegun (one_lane (first_commands ++ (clearmake v ∷ commands.Change (changes.Mkview w) ∷ clearmake w
    ∷ clearmake v ∷ []))) 1700000000
    ∷ story_steps.Commit (row 1 (deeds.Mkview v)) 7
    ∷ story_steps.Commit (row 2 (deeds.Checkout v 0 0 true)) 11
    ∷ story_steps.Commit (row 3 (deeds.Mkelem v 0 (codes "Makefile") File true)) 15
    ∷ story_steps.Commit (row 4 (deeds.Save v 3 makefile)) 19
    ∷ story_steps.Commit (row 5 (deeds.Checkin v 3)) 23
    ∷ story_steps.Commit (row 6 (deeds.Mkelem v 0 (codes "in") File true)) 27
    ∷ story_steps.Commit (row 7 (deeds.Save v 6 hi)) 31
    ∷ story_steps.Commit (row 8 (deeds.Checkin v 6)) 35
    ∷ story_steps.Commit (row 9 (deeds.Checkin v 0)) 39
    ∷ story_steps.Begin (tag 1 1 10) 10 1
    ∷ story_steps.Start (tag 1 1 10) 0
    ∷ story_steps.Commit (row 10 publish) 43
    ∷ story_steps.End (tag 1 1 10)
    ∷ story_steps.Commit (row 11 (deeds.Mkview w)) 47
    ∷ story_steps.Begin (tag 1 1 12) 12 1
    ∷ story_steps.Commit (row 12 (deeds.Wink w 10)) 51
    ∷ story_steps.End (tag 1 1 12)
    ∷ story_steps.Begin (tag 1 1 13) 13 1
    ∷ story_steps.Concluded (tag 1 1 13) 0 (ends.Kept 10)
    ∷ story_steps.End (tag 1 1 13)
    ∷ []

both_build_is_legal : Legal both_build
unfolding IsLe
both_build_is_legal = (
  record { first = refl; formed = tt; fits = refl },
  (
    record { opened = refl; finished = refl; in_time = le_by_compare 1700000000 253402300799 tt },
    (
      record { may = record { moment = refl; made = refl }; ticked = refl },
      (
        record { may = record { moment = refl; made = refl }; ticked = refl },
        (
          record { may = record { moment = refl; made = refl }; ticked = refl },
          (
            record { may = record { moment = refl; made = refl }; ticked = refl },
            (
              record { may = record { moment = refl; made = refl }; ticked = refl },
              (
                record { may = record { moment = refl; made = refl }; ticked = refl },
                (
                  record { may = record { moment = refl; made = refl }; ticked = refl },
                  (
                    record { may = record { moment = refl; made = refl }; ticked = refl },
                    (
                      record { may = record { moment = refl; made = refl }; ticked = refl },
                      (
                        record { units = _; chosen = refl; at_rows = refl; of_units = refl },
                        (
                          record {
                            build = _;
                            unit = _;
                            open_unit = record {
                              waits = record { active = refl; is_unit = refl; waits = refl };
                              faultless = refl;
                              ready = refl;
                              runs = refl;
                            };
                            fresh = refl;
                            nothing = refl;
                          },
                          (
                            record {
                              may = record {
                                moment = refl;
                                made = record {
                                  n = 0;
                                  build = _;
                                  unit = _;
                                  place = refl;
                                  running = record {
                                    waits = record { active = refl; is_unit = refl; waits = refl };
                                    faultless = refl;
                                    started = refl;
                                  };
                                  nothing = refl;
                                  made = refl;
                                };
                              };
                              ticked = refl;
                            },
                            (
                              record { build = _; active = refl; over = refl },
                              (
                                record { may = record { moment = refl; made = refl }; ticked = refl },
                                (
                                  record { units = _; chosen = refl; at_rows = refl; of_units = refl },
                                  (
                                    record {
                                      may = record {
                                        moment = refl;
                                        made = record {
                                          n = 0;
                                          build = _;
                                          unit = _;
                                          place = refl;
                                          may = inl (record {
                                            waits = record { active = refl; is_unit = refl; waits = refl };
                                            faultless = refl;
                                            ready = refl;
                                            runs = refl;
                                          });
                                          of_view = refl;
                                          chosen = refl;
                                          lacks = refl;
                                        };
                                      };
                                      ticked = refl;
                                    },
                                    (
                                      record { build = _; active = refl; over = refl },
                                      (
                                        record { units = _; chosen = refl; at_rows = refl; of_units = refl },
                                        (
                                          record {
                                            build = _;
                                            unit = _;
                                            open_unit = record {
                                              waits = record { active = refl; is_unit = refl; waits = refl };
                                              faultless = refl;
                                              ready = refl;
                                              runs = refl;
                                            };
                                            chosen = refl;
                                            holds = refl;
                                          },
                                          (record { build = _; active = refl; over = refl }, tt),
                                        ),
                                      ),
                                    ),
                                  ),
                                ),
                              ),
                            ),
                          ),
                        ),
                      ),
                    ),
                  ),
                ),
              ),
            ),
          ),
        ),
      ),
    ),
  ),
)

both_are_finished : all_done (state_of both_build) ≡ true
both_are_finished = refl

the_first_has_its_own_object : comes_after 14 10 both_build ≡ Some ((0, Given 10) ∷ [])
the_first_has_its_own_object = refl

the_second_winks_it_in : comes_after 18 12 both_build ≡ Some ((0, Given 10) ∷ [])
the_second_winks_it_in = refl

the_first_keeps_it : comes_after 21 13 both_build ≡ Some ((0, Concluded (ends.Kept 10)) ∷ [])
the_first_keeps_it = refl

one_object_serves_both : (state_of both_build).base ≡ two_views
one_object_serves_both = refl
