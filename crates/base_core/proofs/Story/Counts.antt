-- That each call's steps say what became of the disk's counts.
use Rattle.std.proofs.Common.{◌≡◌, Option, Some, None, List, [], ◌∷◌, ◌++◌, refl, ap, sym, subst, ◌∙◌, append_assoc}
use Rattle.std.proofs.lemmas.List.{append-nil}
use Rattle.cc_names.specs.Formed.{Plain}
use Rattle.cc_names.specs.declared.rows.Tag.{Tag}
use Rattle.cc_names.specs.declared.steps.StoryStep.{StoryStep}
use Rattle.cc_names.specs.declared.steps.StoryStep.TheVariants as story_steps
use Rattle.legal_history.specs.Stories.States.{State, start}
use Rattle.legal_history.specs.Stories.Steps.{after, state_from, state_of}
use Rattle.legal_history.proofs.Stories.Prefixes.{state_goes_on}
use Rattle.story_log.specs.Logging.Appending.{Appends, IsCommitted, IsFaulted}
use Rattle.story_log.specs.declared.logs.Appended.{Appended}
use Rattle.story_log.specs.declared.logs.Appended.TheVariants as appends
use Rattle.story_log.specs.Stopping.Tails.{tail_after_fault, tail_after_row}
use Rattle.base_core.specs.Story.Counted.{CountsStep, CountsSteps, KeepsCount, TailedDisk, disk_of}
use Rattle.story_log.specs.Logging.Logs.{Logged}
use Rattle.base_core.specs.Story.Shown.{Shown}

-- steps, and then more steps
counts_further : (s : State) (xs ys : List StoryStep) (old mid new : TailedDisk) → CountsSteps s xs old mid
    → CountsSteps (state_from s xs) ys mid new → CountsSteps s (xs ++ ys) old new
counts_further s [] ys old mid new h g = subst (λ d. CountsSteps s ys d new) h g
counts_further s (x ∷ xs) ys old mid new h g = (h.0, h.1, counts_further (after s x) xs ys h.0 mid new h.2 g)

-- a story that does not go on
pub keeps_count : (shown : Shown) → KeepsCount shown shown
keeps_count shown = record { steps = []; grows = sym (append-nil shown.story); counts = refl }

-- one call after another
pub keeps_further : (one two three : Shown) → KeepsCount one two → KeepsCount two three → KeepsCount one three
keeps_further one two three h g = record {
  steps = h.steps ++ g.steps;
  grows = g.grows ∙ ap (λ s. s ++ g.steps) h.grows ∙ append_assoc one.story h.steps g.steps;
  counts = counts_further (state_of one.story) h.steps g.steps (disk_of one) (disk_of two) (disk_of three) h.counts
      (subst (λ s. CountsSteps s g.steps (disk_of two) (disk_of three)) (ap state_of h.grows
      ∙ state_goes_on start one.story h.steps) g.counts);
}

-- nothing was changed
pub keeps_same : (old new : Shown) → new ≡ old → KeepsCount old new
keeps_same old new e = subst (KeepsCount old) (sym e) (keeps_count old)

-- what a core shows of its log
abbrev pub shown_of : Logged → Shown
shown_of log = record { story = log.story; ghost_state = log.ghost_state; tail = log.tail }

-- memory ran out, and the log is as it was
pub log_stays : (log new : Logged) (old : Shown) → shown_of log ≡ old → new ≡ log → KeepsCount old (shown_of new)
log_stays log new old view e = keeps_same old (shown_of new) (ap shown_of e ∙ view)

-- the disk of a log, and the journal's tail
abbrev disk_in : Logged → TailedDisk
disk_in log = record { disk = log.ghost_state; tail = log.tail }

-- a row was committed, and its step says what became of the disk's counts
counts_committed : (log new : Logged) (old : Shown) (row : Plain) → shown_of log ≡ old → IsCommitted log new row
    → KeepsCount old (shown_of new)
counts_committed log new old row view done =
    subst (λ (shown : Shown). KeepsCount shown (shown_of new)) view
    (record {
      steps = story_steps.Commit row done.tick ∷ [];
      grows = ap (λ (l : Logged). l.story) done.grows;
      counts = (
        record { disk = done.ghost_state; tail = tail_after_row log.tail row },
        (done.at, done.spent, done.faults, done.fit, done.writes, done.calls, refl),
        ap disk_in done.grows,
      );
    })

-- the disk failed under a row, and the fault says so
abbrev left_by : (log new : Logged) (row : Plain) (ending : Option StoryStep) → IsFaulted log new row ending → TailedDisk
left_by log new row ending done = record { disk = done.ghost_state; tail = tail_after_fault log.tail done.left }

counts_fault : (log new : Logged) (row : Plain) (ending : Option StoryStep) (done : IsFaulted log new row ending)
    → CountsStep (state_of log.story) (story_steps.Fault row.tag done.found done.before done.faults done.tick) (disk_in log)
    (left_by log new row ending done)
counts_fault log new row ending done = (
  done.counted,
  done.modeled,
  done.one,
  done.at,
  done.spent,
  done.fit,
  done.writes,
  record { row = row; left = done.left; leaves = done.calls; tail = refl },
)

-- where it brings no step with it
pub counts_so : (log new : Logged) (old : Shown) (row : Plain) (appended : Appended) → shown_of log ≡ old
    → Appends log new row None appended → KeepsCount old (shown_of new)
counts_so log new old row appends.Committed view became = counts_committed log new old row view became
counts_so log new old row appends.Faulted view became =
    let done : IsFaulted log new row None = became in
    subst (λ (shown : Shown). KeepsCount shown (shown_of new)) view
    (record {
      steps = story_steps.Fault row.tag done.found done.before done.faults done.tick ∷ [];
      grows = ap (λ (l : Logged). l.story) done.grows;
      counts = (left_by log new row None done, counts_fault log new row None done, ap disk_in done.grows);
    })

-- and where the end of a build comes after it
pub counts_ended : (log new : Logged) (old : Shown) (row : Plain) (tag : Tag) (appended : Appended) → shown_of log ≡ old
    → Appends log new row (Some (story_steps.End tag)) appended → KeepsCount old (shown_of new)
counts_ended log new old row tag appends.Committed view became = counts_committed log new old row view became
counts_ended log new old row tag appends.Faulted view became =
    let end = story_steps.End tag in
    let done : IsFaulted log new row (Some end) = became in
    let fault = story_steps.Fault row.tag done.found done.before done.faults done.tick in
    let left = left_by log new row (Some end) done in
    subst (λ (shown : Shown). KeepsCount shown (shown_of new)) view
    (record {
      steps = fault ∷ end ∷ [];
      grows = ap (λ (l : Logged). l.story) done.grows ∙ append_assoc log.story (fault ∷ []) (end ∷ []);
      counts = (left, counts_fault log new row (Some end) done, (left, refl, ap disk_in done.grows));
    })
