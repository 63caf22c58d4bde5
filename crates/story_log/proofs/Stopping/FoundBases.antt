-- Whatever a stop may find of a legal story is a base, whose rows are of the kind of those that the story names, and which is
-- sound where the base was sound as it was opened.
use Rattle.std.proofs.Common.{◌≡◌, ℕ, ◌<◌, ◌⊎◌, inl, inr, true, false, Option, Some, None, List, [], ◌∷◌, ◌++◌, length, refl, ap}
use Rattle.std.proofs.Common.{sym}
use Rattle.std.proofs.Common.{subst, ◌∙◌, append_assoc}
use Rattle.std.proofs.lemmas.List.{append-nil}
use Rattle.std.specs.List.{AllByRecursion}
use Rattle.std.specs.Prelude.{IfSome, is_some, reverse}
use Rattle.cc_names.specs.declared.rows.Tag.{Tag}
use Rattle.cc_names.specs.Formed.{IsFormed, Plain}
use Rattle.cc_names.specs.declared.steps.StoryStep.{StoryStep}
use Rattle.cc_names.specs.declared.steps.StoryStep.TheVariants as story_steps
use Rattle.disk_model.specs.Devices.{Device, bytes_now}
use Rattle.disk_model.specs.DiskStates.{DiskState, IfModeled}
use Rattle.base_model.specs.Rows.{Base}
use Rattle.base_model.specs.Fits.{is_base}
use Rattle.legal_history.specs.Builds.Values.{IsSound}
use Rattle.legal_history.specs.Laws.StopLaws.{StopLeavesABase, StopLeavesABaseSound}
use Rattle.legal_history.specs.Laws.Stops.{IsLeftByStop, WithRowInFlight, WithRowLeft}
use Rattle.legal_history.specs.Stories.States.{State, Opening, End, Committed, Faulted, start, ticks_of}
use Rattle.legal_history.specs.Stories.Steps.{after, state_of}
use Rattle.legal_history.specs.Stories.Committing.{LeavesRow}
use Rattle.legal_history.specs.Stories.Lawful.{Legal, LegalFrom, Lawful}
use Rattle.story_log.specs.Stopping.StopLaws.{OpensAgain, SpellsBase}
use Rattle.story_log.specs.Story.Handed.{Handed}
use Rattle.story_log.specs.Bases.Opening.{IsBaseOn}
use Rattle.story_log.specs.Stored.Founds.{FoundFiles, Represents}
use Rattle.story_log.specs.Stored.Opened.{base_opened, IsOpenedAs}
use Rattle.story_log.specs.Stored.Stops.{found_on}
use Rattle.story_log.specs.Story.Formed.{NamesOnly, TellsOnly}
use Rattle.story_log.specs.Stopping.Standing.{base_by, left_after, left_within, StandsFor, MayBeFound}
use Rattle.legal_history.proofs.Stories.Prefixes.{first_opens}
use Rattle.story_log.proofs.Stored.Bases.{opens_itself}
use Rattle.story_log.proofs.Stored.Damaged.{same_base, stored_undamaged}
use Rattle.story_log.proofs.Stored.Fitting.{stored_are_base}
use Rattle.story_log.proofs.Stored.Represented.{opened_is_sound}
use Rattle.story_log.proofs.Story.Growing.{state_from-more, legal_more}
use Rattle.story_log.proofs.Cases.{some_same}
use Rattle.story_log.proofs.Story.Naming.{tells_rows}

-- the laws of what a stop leaves
pub record Laws : Type 0 where
  pub base : StopLeavesABase
  pub sound : StopLeavesABaseSound

-- a base, all of whose rows are of one kind, and which is sound where the base was sound as it was opened
record IsOnly (P : Plain → Type 0) (opening : Opening) (b : Base) : Type 0 where
  good : is_base b ≡ true
  sound : IsSound opening.base → IsSound b
  each : AllByRecursion P b

-- what was found represents such a base
record SpellsOnly (P : Plain → Type 0) (opening : Opening) (found : FoundFiles) : Type 0 where
  base : Base
  only : IsOnly P opening base
  is : Represents found base

-- a row that may stand after a base makes such a base of it
abbrev FitsBehind : (Plain → Type 0) → Opening → Base → Option Plain → Type 0
FitsBehind P opening b None = Unit {0}
FitsBehind P opening b (Some row) = IsOnly P opening (row ∷ b)

-- what is known of a state: whatever a stop may find is such a base
record IsFound (P : Plain → Type 0) (s : State) (opening : Opening) : Type 0 where
  opened : s.opened ≡ Some opening
  base : s.base ≡ base_by opening s.ends
  only : IsOnly P opening s.base
  found : (k : ℕ) (found : FoundFiles) → MayBeFound opening s.ends k found → SpellsOnly P opening found

-- a base that was found
stands_base : (P : Plain → Type 0) (opening : Opening) (b : Base) (left : Option Plain) (found : FoundFiles)
    → IsOnly P opening b → FitsBehind P opening b left → StandsFor b left found → SpellsOnly P opening found
stands_base P opening b left found only behind (inl e) = record { base = b; only = only; is = e }
stands_base P opening b None found only behind (inr e) = record { base = b; only = only; is = e }
stands_base P opening b (Some row) found only behind (inr e) = record { base = row ∷ b; only = behind; is = e }

-- after one more commit or fault
one_more : (P : Plain → Type 0) (opening : Opening) (end : End) (ends : List End) → IsOnly P opening (base_by opening ends)
    → IsOnly P opening (base_by opening (end ∷ ends)) → FitsBehind P opening (base_by opening (end ∷ ends)) (left_after end)
    → FitsBehind P opening (base_by opening ends) (left_within end) → ((k : ℕ) (found : FoundFiles)
    → MayBeFound opening ends k found → SpellsOnly P opening found) → (k : ℕ) (found : FoundFiles)
    → MayBeFound opening (end ∷ ends) k found → SpellsOnly P opening found
one_more P opening end ends old new behind within h k found (inl later) =
    stands_base P opening (base_by opening (end ∷ ends)) (left_after end) found new behind later.1
one_more P opening end ends old new behind within h k found (inr earlier) = by earlier.1
  where
    by : MayBeFound opening ends k found ⊎ ((ticks_of (Some opening) ends < k)
        × StandsFor (base_by opening ends) (left_within end) found) → SpellsOnly P opening found
    by (inl one) = h k found one
    by (inr two) = stands_base P opening (base_by opening ends) (left_within end) found old within two.1

-- what a stop leaves of a legal story is such a base
only_left : (P : Plain → Type 0) → Laws → (prefix : List StoryStep) (opening : Opening) (b : Base) → Legal prefix
    → (state_of prefix).opened ≡ Some opening → IsLeftByStop (state_of prefix) b → AllByRecursion P b → IsOnly P opening b
only_left P laws prefix opening b legal opened left each = record {
  good = laws.base prefix b legal left;
  sound = λ sound. laws.sound prefix opening b legal opened sound left;
  each = each;
}

-- a step that is neither a commit nor a fault
stays_found : (P : Plain → Type 0) (s t : State) (opening : Opening) → t.opened ≡ s.opened → t.base ≡ s.base → t.ends ≡ s.ends
    → IsFound P s opening → IsFound P t opening
stays_found P s t opening opened base ends h = record {
  opened = opened ∙ h.opened;
  base = base ∙ h.base ∙ ap (base_by opening) (sym ends);
  only = subst (IsOnly P opening) (sym base) h.only;
  found = subst (λ e. (k : ℕ) (found : FoundFiles) → MayBeFound opening e k found
      → SpellsOnly P opening found) (sym ends) h.found;
}

-- a fault leaves what fits
left_fits : (P : Plain → Type 0) → Laws → (prefix : List StoryStep) (opening : Opening) (tag : Tag) (left : Option Plain)
    → Legal prefix → IsFound P (state_of prefix) opening → LeavesRow (state_of prefix) tag left → IfSome left P
    → FitsBehind P opening (state_of prefix).base left
left_fits P laws prefix opening tag None legal h leaves named = tt
left_fits P laws prefix opening tag (Some row) legal h (inl own) named =
    only_left P laws prefix opening (row ∷ (state_of prefix).base) legal h.opened (WithRowInFlight row own.1 refl) (
      named,
      h.only.each,
    )
left_fits P laws prefix opening tag (Some row) legal h (inr earlier) named =
    only_left P laws prefix opening (row ∷ (state_of prefix).base) legal h.opened (WithRowLeft row earlier refl) (
      named,
      h.only.each,
    )

-- each lawful step keeps it
step_found : (P : Plain → Type 0) → Laws → (prefix : List StoryStep) (opening : Opening) (x : StoryStep) → Legal prefix
    → Lawful (state_of prefix) x → NamesOnly P x → IsFound P (state_of prefix) opening
    → IsFound P (after (state_of prefix) x) opening
step_found P laws prefix opening (story_steps.Opened rows counts tells) legal lawful named h =
    absurd (let closed : is_some (state_of prefix).opened ≡ false = lawful.first in
    let open_ : is_some (state_of prefix).opened ≡ true = ap is_some h.opened in cc)
step_found P laws prefix opening (story_steps.PhaseBegun phase moment) legal lawful named h =
    stays_found P (state_of prefix) (after (state_of prefix) (story_steps.PhaseBegun phase moment)) opening refl refl refl h
step_found P laws prefix opening (story_steps.Commit row tick) legal lawful named h =
    let s = state_of prefix in
    let grown : IsOnly P opening (row ∷ s.base) = only_left P laws prefix opening (row ∷ s.base) legal h.opened
    (WithRowInFlight row lawful.may refl) (named, h.only.each) in
    let by : IsOnly P opening (row ∷ base_by opening s.ends) = subst (λ b. IsOnly P opening (row ∷ b)) h.base grown in
    record {
      opened = h.opened;
      base = ap (λ b. row ∷ b) h.base;
      only = grown;
      found = one_more P opening (Committed row tick) s.ends (subst (IsOnly P opening) h.base h.only) by tt by h.found;
    }
step_found P laws prefix opening (story_steps.Fault tag left before faults tick) legal lawful named h =
    let s = state_of prefix in
    let by : FitsBehind P opening (base_by opening s.ends) left = subst (λ b. FitsBehind P opening b left) h.base
    (left_fits P laws prefix opening tag left legal h lawful.leaves named) in
    let only : IsOnly P opening (base_by opening s.ends) = subst (IsOnly P opening) h.base h.only in
    record {
      opened = h.opened;
      base = h.base;
      only = h.only;
      found = one_more P opening (Faulted left faults tick) s.ends only only by by h.found;
    }
step_found P laws prefix opening x legal lawful named h =
    stays_found P (state_of prefix) (after (state_of prefix) x) opening refl refl refl h

-- and so does the rest of a legal story
all_found : (P : Plain → Type 0) → Laws → (prefix rest : List StoryStep) (opening : Opening) → Legal prefix
    → LegalFrom (state_of prefix) rest → TellsOnly P rest → IsFound P (state_of prefix) opening
    → IsFound P (state_of (prefix ++ rest)) opening
all_found P laws prefix [] opening legal more named h = subst (λ t. IsFound P (state_of t) opening) (sym (append-nil prefix)) h
all_found P laws prefix (x ∷ rest) opening legal more named h =
    let one : state_of (prefix ++ x ∷ []) ≡ after (state_of prefix) x = state_from-more start prefix x in
    subst (λ t. IsFound P (state_of t) opening) (append_assoc prefix (x ∷ []) rest)
    (all_found P laws (prefix ++ x ∷ []) rest opening (legal_more start prefix x legal more.0)
    (subst (λ t. LegalFrom t rest) (sym one) more.1) named.1
    (subst (λ t. IsFound P t opening) (sym one) (step_found P laws prefix opening x legal more.0 named.0 h)))

-- the first step of a legal story opens a base
first_found : (P : Plain → Type 0) (x : StoryStep) → Lawful start x → NamesOnly P x → is_some (after start x).opened ≡ true
    → (opening : Opening) × IsFound P (after start x) opening
first_found P (story_steps.Opened rows counts tells) lawful named is = (
  record { base = reverse rows; counts = counts; tells = tells },
  record {
    opened = refl;
    base = refl;
    only = record { good = lawful.fits; sound = λ sound. sound; each = named };
    found = λ k found e. record {
      base = reverse rows;
      only = record { good = lawful.fits; sound = λ sound. sound; each = named };
      is = e;
    };
  },
)
first_found P x lawful named is = absurd (cc)

-- whatever a stop may find is a base of such rows
found_only : (P : Plain → Type 0) → Laws → (story : List StoryStep) (opening : Opening) (k : ℕ) (found : FoundFiles)
    → Legal story → TellsOnly P story → (state_of story).opened ≡ Some opening → MayBeFound opening (state_of story).ends k found
    → SpellsOnly P opening found
found_only P laws [] opening k found legal named opened may = absurd (cc)
found_only P laws (x ∷ story) opening k found legal named opened may =
    let first = first_found P x legal.0 named.0 (first_opens x legal.0) in
    let all = all_found P laws (x ∷ []) story first.0 (legal.0, tt) legal.1 named.1 first.1 in
    let same : first.0 ≡ opening = some_same first.0 opening (sym all.opened ∙ opened) in
    subst (λ o. SpellsOnly P o found) same (all.found k found (subst (λ o. MayBeFound o (state_of (x ∷ story)).ends k found)
    (sym same) may))

-- whatever a stop may find is a base
pub found_base : Laws → (story : List StoryStep) (opening : Opening) (k : ℕ) (found : FoundFiles) → Legal story
    → (state_of story).opened ≡ Some opening → MayBeFound opening (state_of story).ends k found → SpellsBase opening.base found
found_base laws story opening k found legal opened may =
    let spells = found_only (λ (row : Plain). Unit {0}) laws story opening k found legal (tells_rows story) opened may in
    record { base = spells.base; good = spells.only.good; is = spells.is; sound = spells.only.sound }

-- and where the story names only formed rows it opens again
pub opens_again : Laws → (story : List StoryStep) (opening : Opening) (k : ℕ) (found : FoundFiles) → Legal story
    → TellsOnly IsFormed story → (state_of story).opened ≡ Some opening → MayBeFound opening (state_of story).ends k found
    → OpensAgain opening.base found
opens_again laws story opening k found legal named opened may =
    let spells = found_only IsFormed laws story opening k found legal named opened may in
    let r = spells.is in
    let base = stored_are_base (length found.objects) r.stored r.good in
    record {
      base = r.stored;
      good = base;
      formed = r.formed;
      is = record {
        stored = r.stored;
        spelled = r.spelled;
        formed = r.formed;
        good = r.good;
        is = sym (opens_itself found.objects r.stored base);
      };
      undamaged = stored_undamaged found r.stored r.spelled r.formed r.good;
      one = λ other formed is. same_base other r.stored formed r.formed (sym is ∙ r.spelled);
      sound = λ sound. subst IsSound (opens_itself found.objects r.stored base)
          (opened_is_sound found spells.base r (spells.only.sound sound));
    }

-- the base that is opened on a disk that reads so is that one
pub modeled_is : (modeled : Option Device) (device : Device) (P : Device → Type 0) → modeled ≡ Some device → IfModeled modeled P
    → P device
modeled_is modeled device P is h = subst (λ t. IfModeled t P) is h

pub found_is_sound : (opened base : Base) (disk : DiskState) (device : Device) (handed : Handed) → disk.modeled ≡ Some device
    → OpensAgain opened (found_on device) → IsBaseOn disk base handed → IsSound opened → IsSound base
found_is_sound opened base disk device handed is again on sound =
    let found : IsOpenedAs (found_on device) base = modeled_is disk.modeled device (λ d. IsOpenedAs (found_on d) base) is on.found
    in
    let same : found.stored ≡ again.is.stored = again.one found.stored found.formed found.spelled in
    let base_is : base ≡ again.base = found.is ∙ ap (base_opened (bytes_now 1 device)) same ∙ sym again.is.is in
    subst IsSound (sym base_is) (again.sound sound)
