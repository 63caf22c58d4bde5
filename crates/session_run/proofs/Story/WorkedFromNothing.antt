-- The text of a story as building from nothing tells it, worked out by hand: a view, a makefile, a source and one build. What the
-- build's own steps say of its outcome does not matter.
use Rattle.std.proofs.Common.{◌≡◌, ℕ, true, false, None, List, [], ◌∷◌, ◌++◌, refl}
use Rattle.std.specs.Fmt.{digits}
use Rattle.std.specs.Prelude.{codes}
use Rattle.cc_names.specs.declared.commands.Change.TheVariants.{Mkview, Save}
use Rattle.cc_names.specs.declared.commands.Command.TheVariants as commands
use Rattle.cc_names.specs.declared.commands.Phase.{Phase}
use Rattle.cc_names.specs.declared.refusals.ScriptFault.TheVariants.{Absent}
use Rattle.cc_names.specs.declared.refusals.UnitFault.TheVariants.{Script}
use Rattle.cc_names.specs.declared.replies.Reply.{Reply}
use Rattle.cc_names.specs.declared.replies.Reply.TheVariants as replies
use Rattle.cc_names.specs.declared.rows.Deed.{Deed}
use Rattle.cc_names.specs.declared.rows.Deed.TheVariants as deeds
use Rattle.cc_names.specs.declared.rows.Tag.{Tag}
use Rattle.cc_names.specs.declared.steps.StoryStep.{StoryStep}
use Rattle.cc_names.specs.declared.steps.StoryStep.TheVariants as story_steps
use Rattle.cc_names.specs.declared.steps.UnitEnd.TheVariants.{Failed}
use Rattle.legal_history.specs.Stories.Steps.{state_of}
use Rattle.session_run.specs.Story.FromNothing.{lane_replies_after, text_from_nothing}
use Rattle.session_run.specs.Story.Rendered.{text_of_story}

-- the makefile has one unit, whose script copies the source or a file that is not there
abbrev script : List ℕ → List ℕ
script source = codes "cat " ++ source ++ codes " > out\n"

abbrev makefile : List ℕ → List ℕ
makefile source = codes "out:\n\t" ++ script source

abbrev phase : List ℕ → Phase
phase source = record {
  lanes = record {
    name = codes "a";
    commands =
        commands.Change (Mkview (codes "v"))
        ∷ commands.Change (Save (codes "v") (codes "Makefile") (makefile source))
        ∷ commands.Change (Save (codes "v") (codes "in") (codes "hi\n"))
        ∷ commands.Build (record {
          view = codes "v";
          file = None;
          own_only = false;
          rebuild = false;
          jobs = 1;
          macros = [];
          goals = [];
        }) ∷ [];
  } ∷ [];
}

abbrev tag : ℕ → Tag
tag n = record { phase = 1; lane = 1; command = n }

abbrev commit : ℕ → Deed → ℕ → StoryStep
commit n deed tick = story_steps.Commit (record { tag = tag n; moment = 1700000000; deed = deed }) tick

abbrev saved : List ℕ → List StoryStep
saved source =
    story_steps.Opened [] (record { ticks = 0; faults = 0 }) true ∷ story_steps.PhaseBegun (phase source) 1700000000
    ∷ commit 1 (deeds.Mkview (codes "v")) 7 ∷ commit 2 (deeds.Put (codes "v") (codes "Makefile") (makefile source)) 11
    ∷ commit 3 (deeds.Put (codes "v") (codes "in") (codes "hi\n")) 15 ∷ []

-- a story whose build comes to this by this step
abbrev built_by : List ℕ → StoryStep → List StoryStep
built_by source step =
    saved source ++ story_steps.Begin (tag 4) 4 1 ∷ story_steps.Start (tag 4) 0
    ∷ step ∷ story_steps.End (tag 4) ∷ []

-- a row that says of the unit that it has this output
abbrev publish : List ℕ → StoryStep
publish output =
    commit 4 (deeds.Publish (codes "v") (codes "out" ∷ []) (script (codes "in")) (record { path = codes "in"; row = 3 } ∷ [])
    (output ∷ [])) 19

-- a step that says that it failed
abbrev fail : StoryStep
fail = story_steps.Concluded (tag 4) 0 (Failed (Script (Absent (codes "nothere"))))

first_build : text_from_nothing (built_by (codes "in") (publish (codes "hi\n")))
    ≡ text_of_story (built_by (codes "in") (publish (codes "hi\n")))
first_build = refl

-- from nothing the script gives the text of the source, whatever the row says
another_output : text_from_nothing (built_by (codes "in") (publish (codes "foo\n")))
    ≡ text_of_story (built_by (codes "in") (publish (codes "hi\n")))
another_output = refl

-- the replies to the saves, and then these lines
abbrev text : List ℕ → List ℕ
text lines = codes "phase 1\nlane a\n1 mkview ok\n2 save ok\n3 save ok\n" ++ lines

failed : text_from_nothing (built_by (codes "nothere") fail)
    ≡ text (codes "4 clearmake failed\n  out failed X1 Absent nothere\n")
unfolding digits
failed = refl

failed_though_published : text_from_nothing (built_by (codes "nothere") (publish (codes "hi\n")))
    ≡ text (codes "4 clearmake failed\n  out failed X1 Absent nothere\n")
unfolding digits
failed_though_published = refl

-- before its commands are finished a phase has no text
unfinished : text_from_nothing (saved (codes "in")) ≡ []
unfinished = refl

-- each lane has a reply, and command 4 of lane 1 makes a view
abbrev had : ℕ → List Reply
had lane = replies.DiskFault ∷ []

abbrev made : StoryStep
made = commit 4 (deeds.Mkview (codes "w")) 19

-- a lane's replies are those that it had and that of the step; another lane's stay, and a phase begins with none
one_more : lane_replies_after (state_of (saved (codes "in"))) made had 1 ≡ replies.DiskFault ∷ replies.Good ∷ []
one_more = refl

no_more : lane_replies_after (state_of (saved (codes "in"))) made had 2 ≡ replies.DiskFault ∷ []
no_more = refl

none_yet : lane_replies_after (state_of (saved (codes "in"))) (story_steps.PhaseBegun (phase (codes "in")) 1700000000) had 1 ≡ []
none_yet = refl
