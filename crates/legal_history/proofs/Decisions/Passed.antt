-- What it means that a command was decided to make a row: each of its tests passed.
use Rattle.std.proofs.Common.{◌≡◌, refl, ℕ, ◌+◌, ◌≤◌, Bool, true, false, Option, Some, None, Ok, List, [], ◌∷◌, ◌++◌, arith}
use Rattle.std.proofs.Common.{if◌then◌else◌, nat_lt}
use Rattle.std.proofs.lemmas.Bool.{lt-ltb, ltb-false}
use Rattle.std.specs.Bool.{⊤}
use Rattle.cc_names.specs.declared.refusals.Refusal.{Refusal}
use Rattle.cc_names.specs.declared.rows.Deed.{Deed}
use Rattle.base_model.specs.Rows.{Base, size}
use Rattle.legal_history.specs.Builds.Active.{rows_reserved}
use Rattle.legal_history.specs.Commands.Decisions.{Decision, Makes, Scene, first_refusal, unless_refused, needs_room, makes}
use Rattle.legal_history.specs.Commands.Decisions.{answers}
use Rattle.base_model.specs.Fits.{deed_fits, fits, row_limit}
use Rattle.legal_history.specs.Commands.Tests.{refused_where, refused_unless}

-- each test of a list gives no refusal
abbrev pub AllPass : List (Option Refusal) → Type 0
AllPass [] = ⊤
AllPass (test ∷ tests) = (test ≡ None) × AllPass tests

pub all_pass : (tests : List (Option Refusal)) → first_refusal tests ≡ None → AllPass tests
all_pass [] h = tt
all_pass (Some refusal ∷ tests) h = absurd (cc)
all_pass (None ∷ tests) h = (refl, all_pass tests h)

pub prefix_passes : (tests more : List (Option Refusal)) → AllPass (tests ++ more) → AllPass tests
prefix_passes [] more h = tt
prefix_passes (test ∷ tests) more h = (h.0, prefix_passes tests more h.1)

pub rest_passes : (tests more : List (Option Refusal)) → AllPass (tests ++ more) → AllPass more
rest_passes [] more h = h
rest_passes (test ∷ tests) more h = rest_passes tests more h.1

-- what was decided, and that no test refused
decided_of : (refusal : Option Refusal) (decision other : Decision) → unless_refused refusal decision ≡ Ok other
    → other ≡ decision
decided_of (Some refusal) decision other e = absurd (cc)
decided_of None decision other e = cc

none_refused : (refusal : Option Refusal) (decision other : Decision) → unless_refused refusal decision ≡ Ok other
    → refusal ≡ None
none_refused (Some refusal) decision other e = absurd (cc)
none_refused None decision other e = refl

pub no_refusal : (b : Bool) (refusal : Refusal) → (if b then Some refusal else None) ≡ None → b ≡ false
no_refusal true refusal e = absurd (cc)
no_refusal false refusal e = refl

room_left : (s : Scene) → needs_room s 1 ≡ None → nat_lt (size s.base) row_limit ≡ true
room_left s h =
    let within : size s.base + rows_reserved s.active + 1 ≤ row_limit = ltb-false _ _ (no_refusal _ _ h) in
    lt-ltb _ _ (omega arith)

-- what a command that makes a row has met: its tests pass, there is room, and the row is the one that it names
pub record Made (s : Scene) (tests : List (Option Refusal)) (deed made : Deed) : Type 0 where
  pub pass : AllPass tests
  pub room : nat_lt (size s.base) row_limit ≡ true
  pub is : made ≡ deed

pub made_by : (s : Scene) (tests : List (Option Refusal)) (deed made : Deed) → makes s tests deed ≡ Ok (Makes made)
    → Made s tests deed made
made_by s tests deed made h =
    let passed = all_pass (tests ++ needs_room s 1 ∷ []) (none_refused _ _ _ h) in
    let same = decided_of _ _ _ h in
    record {
      pass = prefix_passes tests (needs_room s 1 ∷ []) passed;
      room = room_left s (rest_passes tests (needs_room s 1 ∷ []) passed).0;
      is = cc;
    }

-- a query makes no row
pub answers_nothing : (tests : List (Option Refusal)) (text : List ℕ) (made : Deed) → answers tests text ≡ Ok (Makes made) → ⊥
answers_nothing tests text made h = let same = decided_of _ _ _ h in cc

-- a test that refuses where something holds passes where it does not, and the other way round
pub where_passes : (holds : Bool) (refusal : Refusal) → refused_where holds refusal ≡ None → holds ≡ false
where_passes true refusal e = absurd (cc)
where_passes false refusal e = refl

pub unless_passes : (holds : Bool) (refusal : Refusal) → refused_unless holds refusal ≡ None → holds ≡ true
unless_passes true refusal e = refl
unless_passes false refusal e = absurd (cc)

-- a deed with room fits where its own test holds
pub fits_by : (b : Base) (deed : Deed) → nat_lt (size b) row_limit ≡ true → deed_fits b deed ≡ true → fits b deed ≡ true
fits_by b deed room fit = rw (room, fit) refl
