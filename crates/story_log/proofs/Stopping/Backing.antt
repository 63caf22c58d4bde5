-- What is kept of both files after a commit, after a fault, and after the tail was settled: each stop finds what the history
-- says.
use Rattle.std.proofs.Common.{◌≡◌, ℕ, ◌<◌, ◌≤◌, ◌⊎◌, inl, inr, true, Option, Some, None, List, [], ◌∷◌, ◌++◌, length, refl, ap}
use Rattle.std.proofs.Common.{sym}
use Rattle.std.proofs.Common.{subst, ◌∙◌, arith}
use Rattle.std.proofs.lemmas.List.{append-nil}
use Rattle.std.specs.Prelude.{is_some}
use Rattle.cc_names.specs.Formed.{IsFormed, Plain}
use Rattle.cc_names.specs.declared.rows.Extent.{Extent}
use Rattle.disk_model.specs.Files.{File, IsImage}
use Rattle.disk_model.specs.Devices.{Device, Event, Stopped, bytes_handed_in, file_of, Leaves, LeavesNow}
use Rattle.disk_model.specs.DiskStates.{IfModeled, Both}
use Rattle.base_model.specs.Fits.{fits}
use Rattle.base_model.specs.Rows.{Base, size}
use Rattle.legal_history.specs.Stories.States.{Opening, End, Committed, Faulted, ticks_of, hanging}
use Rattle.row_form.specs.Spelled.{spelling_of}
use Rattle.vob_journal.specs.Frames.{frames}
use Rattle.vob_journal.specs.Lefts.{leftover_after}
use Rattle.vob_journal.specs.Moves.{Passes, Moves, Stands, Between}
use Rattle.vob_journal.specs.declared.left.Left.{Left}
use Rattle.vob_journal.specs.declared.left.Left.TheVariants as lefts
use Rattle.story_log.specs.Story.Formed.{AreFormed}
use Rattle.story_log.specs.Logging.Leaving.{LeftSo}
use Rattle.story_log.specs.Stored.Founds.{FoundFiles}
use Rattle.story_log.specs.Stored.Kept.{IsHeld}
use Rattle.story_log.specs.Stored.Payloads.{payloads}
use Rattle.story_log.specs.Stored.Stops.{found_in}
use Rattle.story_log.specs.Stored.Taken.{ObjectExtent, extents_of, taken_after, taken}
use Rattle.story_log.specs.Stopping.Backed.{IsLeftOver, IsMirrored}
use Rattle.story_log.specs.Stopping.Journals.{JournalState}
use Rattle.story_log.specs.Stopping.Standing.{base_by, tick_of, left_within, StandsFor, MayBeFound}
use Rattle.story_log.proofs.Stored.Bases.{held_with_fitting}
use Rattle.story_log.proofs.Stored.Fitting.{no_extents, takes_nothing}
use Rattle.story_log.proofs.Stored.Holding.{held_in_image}

-- a stop is at one of the calls
stopped_within : (file : ℕ) (first : List ℕ) (calls : List Event) (k : ℕ) (image : List ℕ) → Stopped file first calls k image
    → k ≤ length calls
stopped_within file first [] k image h = absurd h
stopped_within file first (event ∷ earlier) k image (inl h) = omega (arith, h.0)
stopped_within file first (event ∷ earlier) k image (inr h) = let less = stopped_within file first earlier k image h in
    omega (arith, less)

pub within_calls : (file : ℕ) (d : Device) (k : ℕ) (image : List ℕ) → Leaves file d k image → k ≤ length d.calls
within_calls file d k image h = stopped_within file (bytes_handed_in file d) d.calls k image h

-- Calls lead from one device to another: stops at earlier calls leave of both files what they left, those since leave files that
-- meet P.
record StopsSince (d e : Device) (P : List ℕ → List ℕ → Type 0) : Type 0 where
  no_fewer : length d.calls ≤ length e.calls
  each : (k : ℕ) (image objects : List ℕ) → Leaves 0 e k image → Leaves 1 e k objects
      → (Leaves 0 d k image × Leaves 1 d k objects) ⊎ ((length d.calls < k) × P image objects)

-- calls on the journal leave the file of objects
since_passes : (d e : Device) (P : List ℕ → Type 0) → Passes d e P
    → StopsSince d e (λ image objects. P image × LeavesNow 1 d objects)
since_passes d e P passes = record {
  no_fewer = passes.no_fewer;
  each = λ k image objects j o. by k image objects (passes.each k image j) (passes.others k objects o);
}
  where
    by : (k : ℕ) (image objects : List ℕ) → Leaves 0 d k image ⊎ ((length d.calls < k) × P image) → Leaves 1 d k objects
        ⊎ ((length d.calls < k) × LeavesNow 1 d objects)
        → (Leaves 0 d k image × Leaves 1 d k objects) ⊎ ((length d.calls < k) × (P image × LeavesNow 1 d objects))
    by k image objects (inl one) (inl two) = inl (one, two)
    by k image objects (inl one) (inr two) = let less = within_calls 0 d k image one in absurd (omega (arith, two.0))
    by k image objects (inr one) (inl two) = let less = within_calls 1 d k objects two in absurd (omega (arith, one.0))
    by k image objects (inr one) (inr two) = inr (one.0, (one.1, two.1))

-- a stop after the newest end finds its base, or that and what it left
pub after_all : (opening : Opening) (ends : List End) (k : ℕ) (found : FoundFiles) → ticks_of (Some opening) ends < k
    → StandsFor (base_by opening ends) (hanging ends) found → MayBeFound opening ends k found
after_all opening [] k found later (inl e) = e
after_all opening [] k found later (inr e) = e
after_all opening (Committed row tick ∷ earlier) k found later h = inl (later, h)
after_all opening (Faulted left faults tick ∷ earlier) k found later h = inl (later, h)

-- calls lead from one state of the journal to another
abbrev pub MovesTo : JournalState → JournalState → Device → Device → Type 0
MovesTo journal journal' d e = Moves journal.list journal.leftover journal'.list journal'.leftover d e

-- an image from before or from after them
abbrev IsBetween : JournalState → JournalState → List ℕ → Type 0
IsBetween journal journal' image = Between journal.list journal.leftover journal'.list journal'.leftover image

-- what is left over is a row that the files represent
orphaned_stands : (file : File) (stored b : Base) (left : Option Plain) (journal : JournalState) (orphaned : List Extent)
    (shown : List (List ℕ)) (image : List ℕ)
    → journal.list ≡ payloads stored → AreFormed stored → IsHeld file stored b
    → IsLeftOver file stored b left journal.leftover orphaned → shown ≡ journal.list ++ journal.leftover → IsImage file image
    → StandsFor b left (record { frames = shown; objects = image })
orphaned_stands file stored b None journal orphaned shown image spelled formed held none is leaves =
    inl (held_in_image file stored b shown image held formed (is ∙ ap (λ l. journal.list ++ l) none ∙ append-nil journal.list
    ∙ spelled) leaves)
orphaned_stands file stored b (Some row) journal orphaned shown image spelled formed held (inl none) is leaves =
    inl (held_in_image file stored b shown image held formed (is ∙ ap (λ l. journal.list ++ l) none ∙ append-nil journal.list
    ∙ spelled) leaves)
orphaned_stands file stored b (Some row) journal orphaned shown image spelled formed held (inr left) is leaves =
    let whole : shown ≡ payloads (left.spelt ∷ stored) = is ∙ ap (λ l. journal.list ++ l) left.is
    ∙ ap (λ l. l ++ spelling_of left.spelt ∷ []) spelled in
    inr (held_in_image file (left.spelt ∷ stored) (row ∷ b) shown image left.held (left.formed, formed) whole leaves)

-- what stands in both files stands for the base, or for that and the row that a fault left
pub stands_so : (opening : Opening) (ends : List End) (journal : JournalState) (owned : List ObjectExtent)
    (orphaned : List Extent) (d : Device) (image objects : List ℕ) → IsMirrored opening ends journal owned orphaned d
    → Stands journal.list journal.leftover image → LeavesNow 1 d objects
    → StandsFor (base_by opening ends) (hanging ends) (found_in image objects)
stands_so opening ends journal owned orphaned d image objects h (inl is) leaves =
    inl (held_in_image (file_of 1 d) h.stored (base_by opening ends) (frames image) objects h.held h.formed (is
    ∙ h.list_is) leaves)
stands_so opening ends journal owned orphaned d image objects h (inr is) leaves =
    orphaned_stands (file_of 1 d) h.stored (base_by opening ends) (hanging ends) journal orphaned (frames image) objects
    h.list_is h.formed h.held h.leftover_is is leaves

-- the extents of what is left over after a failed append, by what the journal says that it left: none, those before it, or those
-- of the row
abbrev LeftOverSo : Left → List Extent → List Extent → List Extent → Type 0
LeftOverSo lefts.Nothing orphaned placed now = now ≡ []
LeftOverSo lefts.Earlier orphaned placed now = now ≡ orphaned
LeftOverSo lefts.InFlight orphaned placed now = now ≡ placed

-- The disk failed under a row, which its frame spells so: what is left over then.
module _ (file : File) (stored b : Base) (row spelt : Plain) (leftover leftover' : List (List ℕ))
    (orphaned orphaned' : List Extent) (formed : IsFormed spelt) where
  fault_orphaned : (earlier found : Option Plain) (left' : Left) → IsLeftOver file stored b earlier leftover orphaned
      → leftover' ≡ leftover_after left' leftover (spelling_of spelt)
      → LeftSo earlier row left' found → LeftOverSo left' orphaned (extents_of spelt.deed) orphaned'
      → (left' ≡ lefts.InFlight → IsHeld file (spelt ∷ stored) (row ∷ b))
      → IsLeftOver file stored b found leftover' orphaned'
  fault_orphaned earlier found lefts.Nothing was is so extents held =
      subst (λ o. IsLeftOver file stored b o leftover' orphaned') (sym so) is
  fault_orphaned earlier found lefts.Earlier was is so extents held =
      subst (λ o. IsLeftOver file stored b o leftover' orphaned') (sym so)
      (subst (λ l. IsLeftOver file stored b earlier l orphaned') (sym is)
      (subst (IsLeftOver file stored b earlier leftover) (sym extents) was))
  fault_orphaned earlier found lefts.InFlight was is so extents held =
      subst (λ o. IsLeftOver file stored b o leftover' orphaned') (sym so)
      (inr (record { spelt = spelt; is = is; formed = formed; extents_are = extents; held = held refl }))

-- Calls on the journal: what is kept after them.
module _ (opening : Opening) (ends : List End) (journal journal' : JournalState) (owned : List ObjectExtent)
    (orphaned orphaned' : List Extent) (d e : Device) (h : IsMirrored opening ends journal owned orphaned d)
    (ticked : ticks_of (Some opening) ends ≤ length d.calls) (moves : MovesTo journal journal' d e) where
  -- where they end in a commit or a fault: `within` tells what a stop finds that has the new list and what is left over after it
  within_end : (end : End) (k : ℕ) (image objects : List ℕ) → ticks_of (Some opening) ends < k → k ≤ tick_of end
      → ((j o : List ℕ) → frames j ≡ journal'.list ++ journal'.leftover → LeavesNow 1 d o
      → StandsFor (base_by opening ends) (left_within end) (found_in j o))
      → IsBetween journal journal' image → LeavesNow 1 d objects
      → MayBeFound opening (end ∷ ends) k (found_in image objects)
  within_end end k image objects later before within (inl stands) leaves =
      inr (
        before,
        inl (after_all opening ends k (found_in image objects) later
            (stands_so opening ends journal owned orphaned d image objects h stands leaves)),
      )
  within_end end k image objects later before within (inr is) leaves = inr (before, inr (later, within image objects is leaves))

  covered_end : (end : End) (stored' : Base) (owned' : List ObjectExtent) → tick_of end ≡ length e.calls
      → journal'.list ≡ payloads stored' → AreFormed stored'
      → IsHeld (file_of 1 d) stored' (base_by opening (end ∷ ends)) → owned' ≡ taken stored'
      → IsLeftOver (file_of 1 d) stored' (base_by opening (end ∷ ends)) (hanging (end ∷ ends)) journal'.leftover orphaned'
      → (journal'.left ≡ lefts.Nothing → journal'.leftover ≡ [])
      → ((j o : List ℕ) → frames j ≡ journal'.list ++ journal'.leftover → LeavesNow 1 d o
      → StandsFor (base_by opening ends) (left_within end) (found_in j o))
      → IsMirrored opening (end ∷ ends) journal' owned' orphaned' e
  covered_end end stored' owned' tick spelled formed held owned_are is_orphaned nothing within =
      let b = base_by opening (end ∷ ends) in
      let same = sym moves.passes.objects in
      record {
        stored = stored';
        list_is = spelled;
        formed = formed;
        held = subst (λ s. IsHeld s stored' b) same held;
        owned_are = owned_are;
        leftover_is = subst (λ s. IsLeftOver s stored' b (hanging (end ∷ ends)) journal'.leftover orphaned') same is_orphaned;
        nothing = nothing;
        stops = λ k image objects later j o.
            let inside = within_calls 0 e k image j in
            elim ((since_passes d e (IsBetween journal journal') moves.passes).each k image objects j o) [
              | inl earlier ↦ inr (omega (arith, inside, tick), inl (h.stops k image objects later earlier.0 earlier.1))
              | inr now ↦ within_end end k image objects (omega (arith, ticked, now.0)) (omega (arith, inside, tick)) within
                  now.1.0 now.1.1
            ];
        now = moves.now;
      }

  -- a row was committed, which its frame spells so
  commit_mirrored : (row spelt : Plain) (tick : ℕ) (owned' : List ObjectExtent) → tick ≡ length e.calls
      → journal'.list ≡ journal.list ++ spelling_of spelt ∷ [] → journal'.leftover ≡ [] → IsFormed spelt
      → IsHeld (file_of 1 d) (spelt ∷ h.stored) (row ∷ base_by opening ends)
      → owned' ≡ taken_after (size h.stored) spelt.deed owned
      → IsMirrored opening (Committed row tick ∷ ends) journal' owned' orphaned' e
  commit_mirrored row spelt tick owned' at grown none formed held owned_are =
      let spelled : journal'.list ≡ payloads (spelt ∷ h.stored) = grown ∙ ap (λ l. l ++ spelling_of spelt ∷ []) h.list_is in
      let all : journal'.list ++ journal'.leftover ≡ payloads (spelt ∷ h.stored) = ap (λ l. journal'.list ++ l) none
      ∙ append-nil journal'.list ∙ spelled in
      covered_end (Committed row tick) (spelt ∷ h.stored) owned' at spelled (formed, h.formed) held
      (owned_are ∙ ap (taken_after (size h.stored) spelt.deed) h.owned_are) none (λ is. none)
      (λ j o is leaves. inr (held_in_image (file_of 1 d) (spelt ∷ h.stored) (row ∷ base_by opening ends) (frames j) o held (
        formed,
        h.formed,
      ) (is ∙ all) leaves))

  -- the disk failed
  fault_mirrored : (row spelt : Plain) (found : Option Plain) (faults tick : ℕ) → tick ≡ length e.calls
      → journal'.list ≡ journal.list
      → journal'.leftover ≡ leftover_after journal'.left journal.leftover (spelling_of spelt)
      → LeftSo (hanging ends) row journal'.left found → LeftOverSo journal'.left orphaned (extents_of spelt.deed) orphaned'
      → IsFormed spelt → (journal'.left ≡ lefts.InFlight → IsHeld (file_of 1 d) (spelt ∷ h.stored) (row ∷ base_by opening ends))
      → IsMirrored opening (Faulted found faults tick ∷ ends) journal' owned orphaned' e
  fault_mirrored row spelt found faults tick at same is so extents formed held =
      let b = base_by opening ends in
      let file = file_of 1 d in
      let now = fault_orphaned file h.stored b row spelt journal.leftover journal'.leftover orphaned orphaned' formed
      (hanging ends) found journal'.left h.leftover_is is so extents held in
      let spelled : journal'.list ≡ payloads h.stored = same ∙ h.list_is in
      covered_end (Faulted found faults tick) h.stored owned at spelled h.formed h.held h.owned_are now
      (λ none. is ∙ ap (λ l. leftover_after l journal.leftover (spelling_of spelt)) none)
      (λ j o shown leaves. orphaned_stands file h.stored b found journal' orphaned' (frames j) o spelled h.formed h.held now
      shown leaves)

  -- the tail was settled, or this failed
  settle_mirrored : journal'.list ≡ journal.list
      → (journal'.leftover ≡ []) ⊎ ((journal'.leftover ≡ journal.leftover) × (orphaned' ≡ orphaned))
      → (journal'.left ≡ lefts.Nothing → journal'.leftover ≡ []) → IsMirrored opening ends journal' owned orphaned' e
  settle_mirrored same less nothing = record {
    stored = h.stored;
    list_is = same ∙ h.list_is;
    formed = h.formed;
    held = subst (λ s. IsHeld s h.stored b) (sym moves.passes.objects) h.held;
    owned_are = h.owned_are;
    leftover_is = subst (λ s. IsLeftOver s h.stored b (hanging ends) journal'.leftover orphaned') (sym moves.passes.objects) now;
    nothing = nothing;
    stops = λ k image objects later j o. elim ((since_passes d e (IsBetween journal journal') moves.passes).each k image objects
        j o) [
          | inl earlier ↦ h.stops k image objects later earlier.0 earlier.1
          | inr since ↦ after_all opening ends k (found_in image objects) (omega (arith, ticked, since.0))
              (between image objects since.1.0 since.1.1)
        ];
    now = moves.now;
  }
    where
      b : Base
      b = base_by opening ends

      none_orphaned : (left : Option Plain) → journal'.leftover ≡ []
          → IsLeftOver (file_of 1 d) h.stored b left journal'.leftover orphaned'
      none_orphaned None none = none
      none_orphaned (Some row) none = inl none

      now_of : (journal'.leftover ≡ []) ⊎ ((journal'.leftover ≡ journal.leftover) × (orphaned' ≡ orphaned))
          → IsLeftOver (file_of 1 d) h.stored b (hanging ends) journal'.leftover orphaned'
      now_of (inl none) = none_orphaned (hanging ends) none
      now_of (inr kept) =
          subst (λ l. IsLeftOver (file_of 1 d) h.stored b (hanging ends) l orphaned') (sym kept.0)
          (subst (IsLeftOver (file_of 1 d) h.stored b (hanging ends) journal.leftover) (sym kept.1) h.leftover_is)

      now : IsLeftOver (file_of 1 d) h.stored b (hanging ends) journal'.leftover orphaned'
      now = now_of less

      between : (image objects : List ℕ) → IsBetween journal journal' image → LeavesNow 1 d objects
          → StandsFor b (hanging ends) (found_in image objects)
      between image objects (inl one) leaves = stands_so opening ends journal owned orphaned d image objects h one leaves
      between image objects (inr is) leaves =
          orphaned_stands (file_of 1 d) h.stored b (hanging ends) journal' orphaned' (frames image) objects (same
          ∙ h.list_is) h.formed h.held now is leaves

-- where nothing is modeled nothing is modeled later
pub still_modeled : (R : Device → Device → Type 0) (one two : Option Device) → Both R one two → is_some two ≡ is_some one
still_modeled R None None h = refl
still_modeled R None (Some e) h = absurd h
still_modeled R (Some d) None h = absurd h
still_modeled R (Some d) (Some e) h = refl

-- The same where the device is modeled, of a row that fits the base: no extent is taken.
module _ (opening : Opening) (ends : List End) (journal journal' : JournalState) where
  pub commit_covered : (row : Plain) (tick : ℕ) (one two : Option Device)
      → IfModeled one (IsMirrored opening ends journal [] [])
      → IfModeled one (λ d. ticks_of (Some opening) ends ≤ length d.calls) → Both (MovesTo journal journal') one two
      → IfModeled two (λ e. tick ≡ length e.calls)
      → IfModeled one (λ _. (journal'.list ≡ journal.list ++ spelling_of row ∷ []) × (journal'.leftover ≡ []))
      → fits (base_by opening ends) row.deed ≡ true → IsFormed row
      → IfModeled two (IsMirrored opening (Committed row tick ∷ ends) journal' [] [])
  commit_covered row tick None None h ticked moves at grown fit formed = tt
  commit_covered row tick None (Some e) h ticked moves at grown fit formed = absurd moves
  commit_covered row tick (Some d) None h ticked moves at grown fit formed = absurd moves
  commit_covered row tick (Some d) (Some e) h ticked moves at grown fit formed =
      let b = base_by opening ends in
      commit_mirrored opening ends journal journal' [] [] [] d e h ticked moves row row tick [] at grown.0 grown.1 formed
      (held_with_fitting (file_of 1 d) h.stored b row h.held fit) (sym (takes_nothing (size h.stored) b row.deed fit))

  nothing_orphaned : (row : Plain) (how : Left) → fits (base_by opening ends) row.deed ≡ true
      → LeftOverSo how [] (extents_of row.deed) []
  nothing_orphaned row lefts.Nothing fit = refl
  nothing_orphaned row lefts.Earlier fit = refl
  nothing_orphaned row lefts.InFlight fit = sym (no_extents (base_by opening ends) row.deed fit)

  pub fault_covered : (row : Plain) (found : Option Plain) (faults tick : ℕ) (one two : Option Device)
      → IfModeled one (IsMirrored opening ends journal [] [])
      → IfModeled one (λ d. ticks_of (Some opening) ends ≤ length d.calls) → Both (MovesTo journal journal') one two
      → IfModeled two (λ e. tick ≡ length e.calls)
      → IfModeled one (λ _. (journal'.list ≡ journal.list)
      × (journal'.leftover ≡ leftover_after journal'.left journal.leftover (spelling_of row)))
      → LeftSo (hanging ends) row journal'.left found → fits (base_by opening ends) row.deed ≡ true → IsFormed row
      → IfModeled two (IsMirrored opening (Faulted found faults tick ∷ ends) journal' [] [])
  fault_covered row found faults tick None None h ticked moves at stays so fit formed = tt
  fault_covered row found faults tick None (Some e) h ticked moves at stays so fit formed = absurd moves
  fault_covered row found faults tick (Some d) None h ticked moves at stays so fit formed = absurd moves
  fault_covered row found faults tick (Some d) (Some e) h ticked moves at stays so fit formed =
      fault_mirrored opening ends journal journal' [] [] [] d e h ticked moves row row found faults tick at stays.0 stays.1 so
      (nothing_orphaned row journal'.left fit) formed
      (λ flies. held_with_fitting (file_of 1 d) h.stored (base_by opening ends) row h.held fit)

  pub settle_covered : (one two : Option Device) → IfModeled one (IsMirrored opening ends journal [] [])
      → IfModeled one (λ d. ticks_of (Some opening) ends ≤ length d.calls) → Both (MovesTo journal journal') one two
      → journal'.list ≡ journal.list → (journal'.leftover ≡ []) ⊎ (journal'.leftover ≡ journal.leftover)
      → (journal'.left ≡ lefts.Nothing → journal'.leftover ≡ []) → IfModeled two (IsMirrored opening ends journal' [] [])
  settle_covered None None h ticked moves same less nothing = tt
  settle_covered None (Some e) h ticked moves same less nothing = absurd moves
  settle_covered (Some d) None h ticked moves same less nothing = absurd moves
  settle_covered (Some d) (Some e) h ticked moves same less nothing =
      settle_mirrored opening ends journal journal' [] [] [] d e h ticked moves same
      (elim less [ inl none ↦ inl none | inr kept ↦ inr (kept, refl) ]) nothing
