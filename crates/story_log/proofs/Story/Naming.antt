-- Stories that name only rows of one kind.
use Rattle.std.proofs.Common.{◌≡◌, inl, inr, true, Option, Some, None, List, [], ◌∷◌, ◌++◌, subst, sym}
use Rattle.std.specs.List.{AllByRecursion}
use Rattle.std.specs.Prelude.{IfSome, reverse}
use Rattle.cc_names.specs.Formed.{Plain}
use Rattle.cc_names.specs.declared.steps.StoryStep.{StoryStep}
use Rattle.cc_names.specs.declared.steps.StoryStep.TheVariants as story_steps
use Rattle.legal_history.specs.Stories.States.{State, start, hanging}
use Rattle.legal_history.specs.Stories.Steps.{after, state_from, state_of}
use Rattle.story_log.specs.Logging.Appending.{MayLeaveRow}
use Rattle.legal_history.specs.Stories.Quiet.{is_quiet}
use Rattle.story_log.specs.Story.Formed.{NamesOnly, TellsOnly}

-- one more step
pub names_more : (P : Plain → Type 0) (story : List StoryStep) (x : StoryStep) → TellsOnly P story → NamesOnly P x
    → TellsOnly P (story ++ x ∷ [])
names_more P [] x h one = (one, tt)
names_more P (y ∷ story) x h one = (h.0, names_more P story x h.1 one)

-- a quiet step names no row
pub names_none : (P : Plain → Type 0) (x : StoryStep) → is_quiet x ≡ true → NamesOnly P x
names_none P (story_steps.Opened rows counts tells) quiet = absurd (cc)
names_none P (story_steps.Commit row tick) quiet = absurd (cc)
names_none P (story_steps.Fault tag left before faults tick) quiet = absurd (cc)
names_none P x quiet = tt

-- the row that hangs after the rows is one that the story names
hangs_from : (P : Plain → Type 0) (s : State) (story : List StoryStep) → IfSome (hanging s.ends) P → TellsOnly P story
    → IfSome (hanging (state_from s story).ends) P
hangs_from P s [] hangs h = hangs
hangs_from P s (story_steps.Commit row tick ∷ story) hangs h = hangs_from P (after s (story_steps.Commit row tick)) story tt h.1
hangs_from P s (story_steps.Fault tag left before faults tick ∷ story) hangs h =
    hangs_from P (after s (story_steps.Fault tag left before faults tick)) story h.0 h.1
hangs_from P s (x ∷ story) hangs h = hangs_from P (after s x) story hangs h.1

pub hanging_named : (P : Plain → Type 0) (story : List StoryStep) → TellsOnly P story → IfSome (hanging (state_of story).ends) P
hanging_named P story h = hangs_from P start story tt h

-- and so is each row of the base
rows_from : (P : Plain → Type 0) (s : State) (story : List StoryStep) → AllByRecursion P s.base → TellsOnly P story
    → AllByRecursion P (state_from s story).base
rows_from P s [] rows h = rows
rows_from P s (story_steps.Opened opened counts tells ∷ story) rows h =
    rows_from P (after s (story_steps.Opened opened counts tells)) story h.0 h.1
rows_from P s (story_steps.Commit row tick ∷ story) rows h = rows_from P (after s (story_steps.Commit row tick)) story (
  h.0,
  rows,
) h.1
rows_from P s (x ∷ story) rows h = rows_from P (after s x) story rows h.1

pub base_named : (P : Plain → Type 0) (story : List StoryStep) → TellsOnly P story → AllByRecursion P (state_of story).base
base_named P story h = rows_from P start story tt h

-- what a fault left is the row that was to be committed, or one that the story names
left_by : (P : Plain → Type 0) (s : State) (row : Plain) (left : Option Plain) → MayLeaveRow s row left → P row
    → IfSome (hanging s.ends) P → IfSome left P
left_by P s row None leaves one hangs = tt
left_by P s row (Some left) (inl own) one hangs = subst P (sym own) one
left_by P s row (Some left) (inr earlier) one hangs = subst (λ o. IfSome o P) earlier hangs

pub left_named : (P : Plain → Type 0) (story : List StoryStep) (row : Plain) (left : Option Plain)
    → MayLeaveRow (state_of story) row left → P row → TellsOnly P story → IfSome left P
left_named P story row left leaves one h = left_by P (state_of story) row left leaves one (hanging_named P story h)

-- each row is a row
each_is : (rows : List Plain) → AllByRecursion (λ (row : Plain). Unit {0}) rows
each_is [] = tt
each_is (row ∷ rows) = (tt, each_is rows)

left_is : (left : Option Plain) → IfSome left (λ (row : Plain). Unit {0})
left_is None = tt
left_is (Some row) = tt

names_rows : (x : StoryStep) → NamesOnly (λ (row : Plain). Unit {0}) x
names_rows (story_steps.Opened rows counts tells) = each_is (reverse rows)
names_rows (story_steps.Commit row tick) = tt
names_rows (story_steps.Fault tag left before faults tick) = left_is left
names_rows x = tt

pub tells_rows : (story : List StoryStep) → TellsOnly (λ (row : Plain). Unit {0}) story
tells_rows [] = tt
tells_rows (x ∷ story) = (names_rows x, tells_rows story)
