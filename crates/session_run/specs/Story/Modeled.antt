-- What each form of words tells of the story of its call: the text that it writes, and whether something failed.
use Rattle.std.specs.Prelude.{ℕ, Bool, false, Option, Some, None, is_some, List, [], ◌∷◌, ◌++◌, codes}
use Rattle.std.specs.Fmt.{decimal}
use Rattle.cc_names.specs.declared.steps.StoryStep.{StoryStep}
use Rattle.large_session.specs.Summaries.{summary}
use Rattle.base_model.specs.Rows.{Base}
use Rattle.legal_history.specs.Builds.Values.{first_unsound, live_count}
use Rattle.legal_history.specs.Stories.Steps.{state_of}
use Rattle.session_run.specs.Story.Rendered.{text_of_story, has_failure}
use Rattle.session_run.specs.declared.words.Form.{Form}
use Rattle.session_run.specs.declared.words.Form.TheVariants as forms

-- the line of a check, by the first live object that is not what its record gives, and by how many objects are live
abbrev pub check_line : Option ℕ → ℕ → List ℕ
check_line None count = codes "sound " ++ decimal count ++ 10 ∷ []
check_line (Some id) count = codes "unsound " ++ decimal id ++ 10 ∷ []

-- the line that tells what a check finds of a base
abbrev pub line_of_check : Base → List ℕ
line_of_check b = check_line (first_unsound b) (live_count b)

-- *The text that a form writes* of the story of its call: `run` the transcripts of its phases, `big` the summary of these, and
-- `verify` the line of the base. `sites` opens no base, so it has no story to tell.
abbrev pub text_modeled : Form → List StoryStep → List ℕ
text_modeled forms.Run story = text_of_story story
text_modeled (forms.Big seed size) story = summary (text_of_story story)
text_modeled forms.Verify story = line_of_check (state_of story).base
text_modeled forms.Sites story = []

-- Whether a form tells of a failure in the story: a command that failed, or an object that is not what its record gives.
abbrev pub tells_failure : Form → List StoryStep → Bool
tells_failure forms.Run story = has_failure story
tells_failure (forms.Big seed size) story = has_failure story
tells_failure forms.Verify story = is_some (first_unsound (state_of story).base)
tells_failure forms.Sites story = false
