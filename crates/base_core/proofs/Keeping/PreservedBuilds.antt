-- The active builds of the lanes after a step of the story.
use Rattle.std.proofs.Common.{◌≡◌, ◌≢◌, ℕ, ◌+◌, ◌-◌, ◌≤◌, ◌⊎◌, inl, inr, Option, Some, List, ◌∷◌, length, set, ap, sym, subst}
use Rattle.std.proofs.Common.{◌∙◌, arith}
use Rattle.std.proofs.lemmas.List.{length-set}
use Rattle.std.proofs.lemmas.Bool.{cases_eq}
use Rattle.cc_names.specs.Formed.{Plain}
use Rattle.build_core.specs.Slots.{numbered_slots, held_in}
use Rattle.base_model.specs.Fits.{row_limit}
use Rattle.base_model.specs.Rows.{size}
use Rattle.legal_history.specs.Builds.Active.{Build, build_of, rows_reserved}
use Rattle.legal_history.specs.Stories.States.{State, done_of}
use Rattle.base_core.specs.Calls.Building.{BuildInvariant}
use Rattle.clearmake.specs.Going.{SamePhase}
use Rattle.base_core.specs.Keeping.CoreInvariants.{AreBuilds}
use Rattle.base_core.proofs.Keeping.Reserving.{found_set, found_other, reserved_set, rows_for}
use Rattle.base_core.proofs.Keeping.Staying.{build_stays}

-- more rows may come
pub record KeepsRows (s t : State) : Type 0 where
  pub grows : size s.base ≤ size t.base

pub same_rows : (s t : State) → t.base ≡ s.base → KeepsRows s t
same_rows s t e = record { grows = omega (arith, ap size e) }

pub more_rows : (s t : State) (row : Plain) → t.base ≡ row ∷ s.base → KeepsRows s t
more_rows s t row e = record { grows = omega (arith, ap size e) }

-- a build of which its lane has finished no command since is kept
pub stays : (s t : State) (lane : ℕ) (build : Build) → SamePhase s t → KeepsRows s t → done_of t.done lane ≡ done_of s.done lane
    → BuildInvariant s lane build → BuildInvariant t lane build
stays s t lane build same rows done kept = build_stays s t lane build kept same.phase same.number done rows.grows

-- the builds are as they were
pub builds_stay : (s t : State) (builds : List (Option Build)) → AreBuilds s builds → SamePhase s t → KeepsRows s t
    → t.active ≡ s.active
    → ((lane : ℕ) (build : Build) → build_of s.active lane ≡ Some build → done_of t.done lane ≡ done_of s.done lane)
    → AreBuilds t builds
builds_stay s t builds h same rows active done = record {
  count = h.count ∙ ap (λ p. length p.lanes) (sym same.phase);
  active = active ∙ h.active;
  kept = λ lane build is. let was : build_of s.active lane ≡ Some build = ap (λ a. build_of a lane) (sym active) ∙ is in
      stays s t lane build same rows (done lane build was) (h.kept lane build was);
  reserves = subst (λ a. rows_reserved a ≤ row_limit) (sym active) h.reserves;
}

-- one lane has another build, or none
pub builds_put : (s t : State) (builds : List (Option Build)) (lane : ℕ) (build : Option Build) → AreBuilds s builds → 1 ≤ lane
    → lane ≤ length builds → SamePhase s t → KeepsRows s t
    → ((other : ℕ) → other ≢ lane → done_of t.done other ≡ done_of s.done other)
    → t.active ≡ numbered_slots 1 (set builds (lane - 1) build)
    → ((one : Build) → build ≡ Some one → BuildInvariant t lane one) → rows_reserved s.active + rows_for build
    ≤ row_limit + rows_for (held_in builds (lane - 1))
    → AreBuilds t (set builds (lane - 1) build)
builds_put s t builds lane build h low high same rows done active kept room = record {
  count = length-set builds (lane - 1) build ∙ h.count ∙ ap (λ p. length p.lanes) (sym same.phase);
  active = active;
  kept = λ other found is. by other found (cases_eq other lane) is;
  reserves = omega (
    arith,
    room,
    ap rows_reserved active,
    ap rows_reserved h.active,
    reserved_set 1 (lane - 1) builds build (omega arith),
  );
}
  where
    by : (other : ℕ) (found : Build) → (other ≡ lane) ⊎ (other ≢ lane) → build_of t.active other ≡ Some found
        → BuildInvariant t other found
    by other found (inl e) is =
        let one : build ≡ Some found = sym (found_set builds lane build low high)
        ∙ ap (build_of (numbered_slots 1 (set builds (lane - 1) build))) (sym e) ∙ ap (λ a. build_of a other) (sym active)
        ∙ is in
        subst (λ l. BuildInvariant t l found) (sym e) (kept found one)
    by other found (inr differs) is =
        let was : build_of s.active other ≡ Some found = ap (λ a. build_of a other) h.active
        ∙ sym (found_other builds lane other build low differs) ∙ ap (λ a. build_of a other) (sym active) ∙ is in
        stays s t other found same rows (done other differs) (h.kept other found was)
