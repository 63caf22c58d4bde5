-- What of a session has begun in a story: whether a base was opened, and the phases with their moments.
use Rattle.std.specs.Prelude.{◌≡◌, Bool, true, false, ◌&&◌, ℕ, Option, Some, None, List, [], ◌∷◌, ◌++◌}
use Rattle.cc_names.specs.declared.commands.Phase.{Phase}
use Rattle.cc_names.specs.declared.steps.StoryStep.{StoryStep}
use Rattle.cc_names.specs.declared.steps.StoryStep.TheVariants as story_steps
use Rattle.session_run.specs.Calls.Asked.{writes_behind}
use Rattle.session_run.specs.declared.statuses.Status.{Status}
use Rattle.session_run.specs.declared.statuses.Status.TheVariants as statuses
use Rattle.session_run.specs.declared.words.Form.{Form}

-- the first step of a story
abbrev pub first_step : List StoryStep → Option StoryStep
first_step [] = None
first_step (x ∷ story) = Some x

-- whether a base was opened
abbrev pub is_opened : List StoryStep → Bool
is_opened [] = false
is_opened (x ∷ story) = true

-- Whether the session was run through. Where the disk failed it was so unless no base could be opened; where the sink failed,
-- with a form that writes after its session and a base that was opened.
abbrev pub is_through : Option Form → Status → List StoryStep → Bool
is_through form statuses.Good story = true
is_through form statuses.SomeFailed story = true
is_through form statuses.DiskFault story = is_opened story
is_through form statuses.WriteFault story = writes_behind form && is_opened story
is_through form status story = false

-- the phases that began
abbrev pub phases_begun : List StoryStep → List Phase
phases_begun [] = []
phases_begun (story_steps.PhaseBegun phase moment ∷ story) = phase ∷ phases_begun story
phases_begun (x ∷ story) = phases_begun story

-- the moments at which they began
abbrev pub moments_begun : List StoryStep → List ℕ
moments_begun [] = []
moments_begun (story_steps.PhaseBegun phase moment ∷ story) = moment ∷ moments_begun story
moments_begun (x ∷ story) = moments_begun story

-- the first items of a list, from its start on
abbrev pub IsPrefixOf : {A : Type 0} → List A → List A → Type 0
IsPrefixOf {A = A} prefix whole = (rest : List A) × (whole ≡ prefix ++ rest)
