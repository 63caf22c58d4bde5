-- Stories and their texts, worked out by hand.
use Rattle.std.proofs.Common.{◌≡◌, ℕ, true, Some, None, List, [], ◌∷◌, ◌++◌, refl}
use Rattle.std.specs.Fmt.{digits}
use Rattle.std.specs.Prelude.{codes}
use Rattle.cc_names.specs.declared.commands.Change.TheVariants.{Mkview, Save}
use Rattle.cc_names.specs.declared.commands.Command.TheVariants as commands
use Rattle.cc_names.specs.declared.commands.Phase.{Phase}
use Rattle.cc_names.specs.declared.refusals.Refusal.TheVariants.{ViewExists}
use Rattle.cc_names.specs.declared.rows.Deed.TheVariants as deeds
use Rattle.cc_names.specs.declared.rows.Tag.{Tag}
use Rattle.cc_names.specs.declared.steps.StoryStep.{StoryStep}
use Rattle.cc_names.specs.declared.steps.StoryStep.TheVariants as story_steps
use Rattle.cc_names.specs.declared.steps.Counts.{Counts}
use Rattle.session_run.specs.Calls.Asked.{form_of, phases_spelled}
use Rattle.session_run.specs.Promises.Headline.{clock_moments}
use Rattle.session_run.specs.Story.Begun.{phases_begun}
use Rattle.session_run.specs.Story.Rendered.{earlier_text, has_failure, text_of_story}
use Rattle.session_run.specs.Story.Modeled.{check_line}
use Rattle.session_run.specs.declared.words.Form.TheVariants as forms

-- a view and a private file, and then the view once more
saves : Phase
saves = record {
  lanes = record {
    name = codes "a";
    commands = commands.Change (Mkview (codes "v"))
        ∷ commands.Change (Save (codes "v") (codes "in") (codes "hi\n")) ∷ [];
  } ∷ [];
}

again : Phase
again = record { lanes = record { name = codes "a"; commands = commands.Change (Mkview (codes "v")) ∷ [] } ∷ [] }

tag : ℕ → ℕ → Tag
tag phase command = record { phase = phase; lane = 1; command = command }

no_counts : Counts
no_counts = record { ticks = 0; faults = 0 }

first_command : List StoryStep
first_command =
    story_steps.Opened [] no_counts true ∷ story_steps.PhaseBegun saves 5
    ∷ story_steps.Commit (record { tag = tag 1 1; moment = 5; deed = deeds.Mkview (codes "v") }) 1 ∷ []

first_phase : List StoryStep
first_phase =
    first_command ++ story_steps.Commit (record {
      tag = tag 1 2;
      moment = 5;
      deed = deeds.Put (codes "v") (codes "in") (codes "hi\n");
    }) 2 ∷ []

two_phases : List StoryStep
two_phases = first_phase ++ story_steps.PhaseBegun again 6 ∷ story_steps.Refused (tag 2 1) ViewExists ∷ []

-- a phase is rendered once its commands are all finished
unfinished : text_of_story first_command ≡ []
unfolding first_command saves tag
unfinished = refl

finished : text_of_story first_phase ≡ codes "phase 1\nlane a\n1 mkview ok\n2 save ok\n"
unfolding first_phase first_command saves tag digits
finished = refl

both : text_of_story two_phases
    ≡ codes "phase 1\nlane a\n1 mkview ok\n2 save ok\nphase 2\nlane a\n1 mkview refused C2 ViewExists\n"
unfolding two_phases first_phase first_command saves again tag digits
both = refl

earlier : earlier_text two_phases ≡ codes "phase 1\nlane a\n1 mkview ok\n2 save ok\n"
unfolding two_phases first_phase first_command saves again tag digits
earlier = refl

begun : phases_begun two_phases ≡ saves ∷ again ∷ []
unfolding two_phases first_phase first_command
begun = refl

-- their moments are the clock's, the last of its list again and again, and none above the last one of all
clock : clock_moments (5 ∷ 300000000000 ∷ []) 0 3 ≡ 5 ∷ 253402300799 ∷ 253402300799 ∷ []
clock = refl

refused : has_failure two_phases ≡ true
unfolding two_phases first_phase first_command saves tag again
refused = refl

-- the words
run_words : form_of (codes "f" ∷ codes "run" ∷ []) ≡ Some forms.Run
run_words = refl

verify_words : form_of (codes "f" ∷ codes "verify" ∷ []) ≡ Some forms.Verify
verify_words = refl

big_words : form_of (codes "f" ∷ codes "big" ∷ codes "18446744073709551615" ∷ codes "1000" ∷ [])
    ≡ Some (forms.Big 18446744073709551615 1000)
big_words = refl

smallest_words : form_of (codes "f" ∷ codes "big" ∷ codes "0" ∷ codes "1" ∷ []) ≡ Some (forms.Big 0 1)
smallest_words = refl

sites_words : form_of (codes "f" ∷ codes "sites" ∷ []) ≡ Some forms.Sites
sites_words = refl

no_words : form_of [] ≡ None
no_words = refl

one_word : form_of (codes "f" ∷ []) ≡ None
one_word = refl

another_word : form_of (codes "f" ∷ codes "walk" ∷ []) ≡ None
another_word = refl

words_behind : form_of (codes "f" ∷ codes "verify" ∷ codes "1" ∷ []) ≡ None
words_behind = refl

no_size : form_of (codes "f" ∷ codes "big" ∷ codes "1" ∷ codes "0" ∷ []) ≡ None
no_size = refl

a_size_above : form_of (codes "f" ∷ codes "big" ∷ codes "1" ∷ codes "1001" ∷ []) ≡ None
a_size_above = refl

a_seed_above : form_of (codes "f" ∷ codes "big" ∷ codes "18446744073709551616" ∷ codes "1" ∷ []) ≡ None
a_seed_above = refl

a_zero_before : form_of (codes "f" ∷ codes "big" ∷ codes "01" ∷ codes "1" ∷ []) ≡ None
a_zero_before = refl

-- a check runs a session without phases
no_phases : phases_spelled [] ≡ []
no_phases = refl

-- the lines of a check
sound_line : check_line None 12 ≡ codes "sound 12\n"
unfolding digits
sound_line = refl

unsound_line : check_line (Some 4) 12 ≡ codes "unsound 4\n"
unfolding digits
unsound_line = refl
