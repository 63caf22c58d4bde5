-- What a log keeps after one more step.
use Rattle.std.proofs.Common.{◌≡◌, ℕ, true, Option, List, [], ◌∷◌, ◌++◌, reverse, refl, ap, sym, subst, ◌∙◌}
use Rattle.std.proofs.lemmas.List.{append_assoc, append-nil, reverse-append, reverse-reverse}
use Rattle.cc_names.specs.Formed.{IsFormed, Plain}
use Rattle.cc_names.specs.declared.steps.StoryStep.{StoryStep}
use Rattle.cc_names.specs.declared.steps.StoryStep.TheVariants as story_steps
use Rattle.disk_model.specs.DiskStates.{DiskState}
use Rattle.base_model.specs.Fits.{fits}
use Rattle.base_model.specs.Rows.{Base}
use Rattle.base_rows.specs.Order.{oldest_first}
use Rattle.legal_history.specs.Stories.Quiet.{is_quiet}
use Rattle.legal_history.specs.Stories.States.{State, hanging, start}
use Rattle.legal_history.specs.Stories.Steps.{after, state_of}
use Rattle.story_log.specs.Logging.Leaving.{LeftSo}
use Rattle.story_log.specs.Logging.Logs.{IsLogged}
use Rattle.story_log.specs.Stopping.Backed.{IsBacked}
use Rattle.story_log.specs.Stopping.Journals.{JournalState}
use Rattle.story_log.specs.Story.Handed.{Handed}
use Rattle.story_log.specs.Story.Telling.{rows_named}
use Rattle.legal_history.proofs.Stories.Along.{KeepsBase, quiet_keeps}
use Rattle.story_log.proofs.Logging.Logging.{MissesRow, TakesRow, backed_same, backed_commit, backed_fault}
use Rattle.story_log.proofs.Story.Growing.{state_from-more}

-- a base with one more row is told with that row after the others, and told back it is the base
oldest_more : (row : Plain) (base : Base) → oldest_first (row ∷ base) ≡ oldest_first base ++ row ∷ []
oldest_more row base = reverse-append (row ∷ []) base

pub oldest_back : (base : Base) → reverse (oldest_first base) ≡ base
oldest_back base = reverse-reverse base

-- the rows that two stories name, one after the other
named_then : (one two : List StoryStep) → rows_named (one ++ two) ≡ rows_named one ++ rows_named two
named_then [] two = refl
named_then (story_steps.Opened rows counts tells ∷ one) two =
    ap (λ later. rows ++ later) (named_then one two) ∙ sym (append_assoc rows (rows_named one) (rows_named two))
named_then (story_steps.Commit row tick ∷ one) two = ap (λ later. row ∷ later) (named_then one two)
named_then (step ∷ one) two = named_then one two

-- a quiet step names none
quiet_names : (x : StoryStep) → is_quiet x ≡ true → rows_named (x ∷ []) ≡ []
quiet_names (story_steps.Opened rows counts tells) quiet = absurd (cc)
quiet_names (story_steps.Commit row tick) quiet = absurd (cc)
quiet_names x quiet = refl

-- the log of a base that was opened: no row may be found after those of the base
pub logged_opening : (handed : Handed) (base : Base) (story : List StoryStep) (ghost_state : DiskState) (journal : JournalState)
    → story ≡ story_steps.Opened (oldest_first base) handed.counts handed.tells ∷ []
    → IsBacked (state_of (story_steps.Opened (oldest_first base) handed.counts handed.tells ∷ [])) ghost_state journal
    → IsLogged story base ghost_state journal
logged_opening handed base story ghost_state journal is backed = record {
  named = ap rows_named is ∙ append-nil (oldest_first base);
  leads = ap (λ story. (state_of story).base) is ∙ oldest_back base;
  backed = subst (λ story. IsBacked (state_of story) ghost_state journal) (sym is) backed;
}

-- What a log keeps after it.
module _ (story : List StoryStep) (base : Base) (old : DiskState) (journal : JournalState)
    (h : IsLogged story base old journal) where
  state_more : (more : List StoryStep) (x : StoryStep) → more ≡ story ++ x ∷ [] → state_of more ≡ after (state_of story) x
  state_more more x e = ap state_of e ∙ state_from-more start story x

  named_more : (more : List StoryStep) (x : StoryStep) → more ≡ story ++ x ∷ []
      → rows_named more ≡ oldest_first base ++ rows_named (x ∷ [])
  named_more more x e = ap rows_named e ∙ named_then story (x ∷ []) ∙ ap (λ rows. rows ++ rows_named (x ∷ [])) h.named

  named_same : (more : List StoryStep) (x : StoryStep) → more ≡ story ++ x ∷ [] → rows_named (x ∷ []) ≡ []
      → rows_named more ≡ oldest_first base
  named_same more x e none =
      named_more more x e ∙ ap (λ rows. oldest_first base ++ rows) none ∙ append-nil (oldest_first base)

  -- a row was committed: it may not be found besides
  pub logged_row : (more : List StoryStep) (grown : Base) (tick : ℕ) (row : Plain) (new : DiskState) (journal' : JournalState)
      → more ≡ story ++ story_steps.Commit row tick ∷ [] → grown ≡ row ∷ base → TakesRow row old new journal journal'
      → tick ≡ new.ticks → fits base row.deed ≡ true → IsFormed row → IsLogged more grown new journal'
  logged_row more grown tick row new journal' e g took at fit formed =
      let x = story_steps.Commit row tick in
      let state = state_more more x e in
      record {
        named = named_more more x e ∙ sym (ap oldest_first g ∙ oldest_more row base);
        leads = ap (λ s. s.base) state ∙ ap (λ b. row ∷ b) h.leads ∙ sym g;
        backed = subst (λ s. IsBacked s new journal') (sym state) (backed_commit (state_of story) row tick old new journal
            journal' h.backed took at (subst (λ b. fits b row.deed ≡ true) (sym h.leads) fit) formed);
      }

  -- a step that names no row, and leaves the base, how it was opened, and the ends
  pub logged_beside : (more : List StoryStep) (x : StoryStep) → more ≡ story ++ x ∷ []
      → KeepsBase (state_of story) (after (state_of story) x) → rows_named (x ∷ []) ≡ []
      → IsLogged more base old journal
  logged_beside more x e same none =
      let state = state_more more x e in
      record {
        named = named_same more x e none;
        leads = ap (λ s. s.base) state ∙ same.base ∙ h.leads;
        backed = subst (λ s. IsBacked s old journal) (sym state) (backed_same (state_of story) (after (state_of story) x) old
            journal same.opened same.base same.ends h.backed);
      }

  pub logged_quiet : (more : List StoryStep) (x : StoryStep) → more ≡ story ++ x ∷ [] → is_quiet x ≡ true
      → IsLogged more base old journal
  logged_quiet more x e quiet = logged_beside more x e (quiet_keeps (state_of story) x quiet) (quiet_names x quiet)

  -- the disk failed under a row
  pub logged_fault : (more : List StoryStep) (row : Plain) (found : Option Plain) (before faults tick : ℕ) (new : DiskState)
      (journal' : JournalState) → more ≡ story ++ story_steps.Fault row.tag found before faults tick ∷ []
      → MissesRow row old new journal journal' → LeftSo (hanging (state_of story).ends) row journal'.left found → tick ≡ new.ticks → faults ≡ new.faults
      → fits base row.deed ≡ true → IsFormed row → IsLogged more base new journal'
  logged_fault more row found before faults tick new journal' e missed so at counts fit formed =
      let x = story_steps.Fault row.tag found before faults tick in
      let state = state_more more x e in
      record {
        named = named_same more x e refl;
        leads = ap (λ s. s.base) state ∙ h.leads;
        backed = subst (λ s. IsBacked s new journal') (sym state) (backed_fault (state_of story) row found before faults tick old
            new journal journal' h.backed missed so at counts
            (subst (λ b. fits b row.deed ≡ true) (sym h.leads) fit) formed);
      }
