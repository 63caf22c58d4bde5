-- The newest live object whose record matches a unit is the newest one of the unit's targets that is of its script and of what it
-- sees.
use Rattle.std.proofs.Common.{◌≡◌, refl, ap, ◌∙◌, ℕ, ◌<◌, Bool, true, false, ◌&&◌, Option, Some, [], ◌∷◌, bytes_eq, arith}
use Rattle.std.specs.Prelude.{is_some}
use Rattle.std.specs.List.{list_all}
use Rattle.cc_names.specs.declared.rows.Deed.{Deed}
use Rattle.cc_names.specs.declared.rows.Deed.TheVariants as deeds
use Rattle.cc_names.specs.declared.units.Unit.{Unit}
use Rattle.base_model.specs.Changes.{live_row}
use Rattle.base_model.specs.Rows.{Base, size, deed_at, deed_of, row_at}
use Rattle.legal_history.specs.Builds.Active.{Build}
use Rattle.legal_history.specs.Builds.Choices.{visible}
use Rattle.legal_history.specs.Builds.Fresh.{script_text}
use Rattle.base_model.specs.Objects.{are_same_paths}
use Rattle.legal_history.specs.Builds.Reuse.{entry_agrees, matches, newest_match, record_matches}
use Rattle.base_model.proofs.Stay.{row_stays}
use Rattle.base_model.proofs.VersionRows.{newest_row}
use Rattle.base_rows.specs.Pool.{newest_object, newest_passing, publishes}
use Rattle.build_core.specs.Reusing.{agrees_with}

all_of_three : (a b c : Bool) → ((a && b) && c) ≡ (a && (b && c))
all_of_three true b c = refl
all_of_three false b c = refl

-- a record matches where its deed publishes an object of the targets that agrees
pub matched : (b : Base) (build : Build) (n : ℕ) (unit : Unit) (deed : Deed) →
    record_matches unit.targets (script_text unit.script) (visible b build n unit) (Some deed)
    ≡ publishes unit.targets (agrees_with b build n unit) deed
matched b build n unit (deeds.Publish v made text reads outputs) =
    all_of_three (are_same_paths made unit.targets) (bytes_eq text (script_text unit.script))
    (list_all (entry_agrees (visible b build n unit)) reads)
matched b build n unit deed = refl

by_test : (n : ℕ) (is there : Bool) (one two : Option ℕ) → is ≡ there → one ≡ two
    → elim is as (λ _. Option ℕ) [ true ↦ Some n | false ↦ one ] ≡ elim there as (λ _. Option ℕ) [ true ↦ Some n | false ↦ two ]
by_test n true true one two e h = refl
by_test n false false one two e h = h
by_test n is there one two e h = absurd (cc)

among : (b : Base) (build : Build) (n : ℕ) (unit : Unit) (rows : Base) → ((m : ℕ) → m < size rows → row_at b m ≡ row_at rows m) →
    newest_match b build n unit rows ≡ newest_passing b unit.targets (agrees_with b build n unit) rows
among b build n unit [] same = refl
among b build n unit (row ∷ older) same =
    let here : deed_at b (size older) ≡ Some row.deed = ap deed_of (same (size older) (omega arith) ∙ newest_row row older) in
    let test : matches b build n unit (size older) ≡ publishes unit.targets (agrees_with b build n unit) row.deed =
    ap (record_matches unit.targets (script_text unit.script) (visible b build n unit)) here ∙ matched b build n unit row.deed in
    by_test (size older) (is_some (live_row b (size older)) && matches b build n unit (size older))
    (is_some (live_row b (size older)) && publishes unit.targets (agrees_with b build n unit) row.deed)
    (newest_match b build n unit older) (newest_passing b unit.targets (agrees_with b build n unit) older)
    (ap (λ is. is_some (live_row b (size older)) && is) test)
    (among b build n unit older (λ m below. same m (omega arith) ∙ row_stays row older m below))

pub newest_matched : (b : Base) (build : Build) (n : ℕ) (unit : Unit) → newest_match b build n unit b
    ≡ newest_object b unit.targets (agrees_with b build n unit)
newest_matched b build n unit = among b build n unit b (λ m below. refl)
