-- What a started unit sees, and what its run gives on that, never changes while its build goes on.
use Rattle.std.proofs.Common.{◌≡◌, refl, ap, sym, subst, ◌∙◌, ℕ, ◌+◌, Bool, true, false, List, [], ◌∷◌, ◌++◌, map, take}
use Rattle.std.specs.Bool.{⊤}
use Rattle.std.specs.List.{AllByRecursion, list_any}
use Rattle.std.specs.Option.{option_or}
use Rattle.cc_names.specs.declared.units.Unit.{Unit}
use Rattle.script_grammar.specs.Run.{run}
use Rattle.base_model.specs.Rows.{Base, first_rows, only_where}
use Rattle.legal_history.specs.Builds.Active.{Build, is_outcome, object_of}
use Rattle.legal_history.specs.Builds.Choices.{Member, unit_of_member, members_from, members_before, object_among, here, visible}
use Rattle.base_model.specs.Texts.{text_of_row}
use Rattle.legal_history.specs.Builds.Fresh.{script_text}
use Rattle.legal_history.specs.Builds.Consistency.{IsReady, IsConsistent}
use Rattle.legal_history.specs.Stories.Growth.{Continues}
use Rattle.base_model.specs.Seen.{file_at}
use Rattle.legal_history.specs.Builds.Serials.{makes, needed_units}
use Rattle.legal_history.proofs.Builds.Pairs.{Pair, unit_in, member_of, pairs_before, members_paired, needed_mapped}
use Rattle.legal_history.proofs.Builds.NeededAgree.{needed_each, ready_over}
use Rattle.legal_history.proofs.Stories.GoingOn.{GoesOnSo, rows_stay}
use Rattle.legal_history.proofs.Reuse.SeenStays.{seen_text_stays}

-- a member of a build later: the same unit, with its outcome where it had one
record GoesOn (old new : Member) : Type 0 where
  unit : new.unit ≡ old.unit
  outcome : is_outcome old.came ≡ true → new.came ≡ old.came

abbrev AllGoOn : List Member → List Member → Type 0
AllGoOn [] [] = ⊤
AllGoOn (old ∷ olds) (new ∷ news) = GoesOn old new × AllGoOn olds news
AllGoOn olds news = ⊥

members_go_on : (old new : Build) (n : ℕ) (units : List Unit) (olds news : List Member) → Continues old new → AllGoOn olds news
    → AllGoOn (members_from old n units olds) (members_from new n units news)
members_go_on old new n [] olds news c h = h
members_go_on old new n (unit ∷ units) olds news c h = members_go_on old new (n + 1) units _ _ c
    (record { unit = refl; outcome = c.outcomes n }, h)

all_go_on : (old new : Build) (n : ℕ) → Continues old new → AllGoOn (members_before old n) (members_before new n)
all_go_on old new n c = subst (λ units. AllGoOn (members_before old n) (members_from new 0 (take n units) [])) (sym c.units)
    (members_go_on old new 0 (take n old.units) [] [] c tt)

-- so those that are needed go on
needed_go_on : (paths : List (List ℕ)) (olds news : List Member) → AllGoOn olds news
    → AllGoOn (needed_units unit_of_member paths olds) (needed_units unit_of_member paths news)
needed_go_on paths [] [] h = h
needed_go_on paths [] (new ∷ news) h = absurd h
needed_go_on paths (old ∷ olds) [] h = absurd h
needed_go_on paths (old ∷ olds) (new ∷ news) h = subst (λ u. AllGoOn (needed_units unit_of_member paths (old ∷ olds))
    (with_new u)) (sym h.0.unit) (by (list_any (λ path. makes path old.unit) paths) (λ ps. needed_go_on ps olds news h.1))
  where
    with_new : Unit → List Member
    with_new u = elim (list_any (λ path. makes path u) paths) as (λ x. List Member) [
      | true ↦
          new ∷ needed_units unit_of_member (paths ++ u.prerequisites) news
      | false ↦ needed_units unit_of_member paths news
    ]

    by : (t : Bool) → ((ps : List (List ℕ)) → AllGoOn (needed_units unit_of_member ps olds) (needed_units unit_of_member ps news))
        → AllGoOn
        (elim t as (λ x. List Member) [
          | true ↦ old ∷ needed_units unit_of_member (paths ++ old.unit.prerequisites) olds
          | false ↦
              needed_units unit_of_member paths olds
        ])
        (elim t as (λ x. List Member) [
          | true ↦ new ∷ needed_units unit_of_member (paths ++ old.unit.prerequisites) news
          | false ↦
              needed_units unit_of_member paths news
        ])
    by true rest = (h.0, rest (paths ++ old.unit.prerequisites))
    by false rest = rest paths

-- members that all have their outcomes
abbrev AllOver : List Member → Type 0
AllOver [] = ⊤
AllOver (member ∷ members) = (is_outcome member.came ≡ true) × AllOver members

abbrev IsOver : Pair → Type 0
IsOver pair = is_outcome pair.came ≡ true

all_over : (pairs : List Pair) → AllByRecursion IsOver pairs → AllOver (map member_of pairs)
all_over [] h = tt
all_over (pair ∷ pairs) h = (h.0, all_over pairs h.1)

-- what a ready unit needs has its outcomes
needed_over : (b : Base) (build : Build) (n : ℕ) (unit : Unit) → IsConsistent b build → IsReady build unit
    → AllOver (needed_units unit_of_member unit.prerequisites (members_before build n))
needed_over b build n unit h ready =
    subst AllOver
    (sym (ap (needed_units unit_of_member unit.prerequisites) (members_paired (first_rows build.rows b) build n)
    ∙ needed_mapped member_of unit_of_member unit.prerequisites (pairs_before (first_rows build.rows b) build n)))
    (all_over (needed_units unit_in unit.prerequisites (pairs_before (first_rows build.rows b) build n))
    (needed_each IsOver b build n unit.prerequisites h (λ m u is outcome. outcome) (ready_over b build unit h ready)))

-- the object at a path among such members stays
object_stays : (path : List ℕ) (olds news : List Member) → AllGoOn olds news → AllOver olds
    → object_among path news ≡ object_among path olds
object_stays path [] [] h over = refl
object_stays path [] (new ∷ news) h over = absurd h
object_stays path (old ∷ olds) [] h over = absurd h
object_stays path (old ∷ olds) (new ∷ news) h over = λ i. option_or (only_where (makes path (h.0.unit i))
    (object_of (h.0.outcome over.0 i))) (object_stays path olds news h.1 over.1 i)

-- what a ready unit sees at a path before and after a build went on
pub same_selection : (b later : Base) (old new : Build) (n : ℕ) (unit : Unit) (path : List ℕ) → GoesOnSo b later old new unit
    → visible later new n unit path ≡ visible b old n unit path
same_selection b later old new n unit path h =
    let rows : first_rows new.rows later ≡ first_rows old.rows b = rows_stay b later old new unit h in
    let objects = object_stays path (needed_units unit_of_member unit.prerequisites (members_before old n))
    (needed_units unit_of_member unit.prerequisites (members_before new n))
    (needed_go_on unit.prerequisites (members_before old n) (members_before new n) (all_go_on old new n h.on))
    (needed_over b old n unit h.consistent h.ready) in
    λ i. option_or (objects i) (file_at (rows i) (h.on.view i) path)

-- the runs of a ready unit before and after a build went on
pub same_run : (b later : Base) (old new : Build) (n : ℕ) (unit : Unit) → GoesOnSo b later old new unit
    → here later new n unit ≡ here b old n unit
same_run b later old new n unit h =
    λ i. run (script_text unit.script) unit.targets (λ path. (ap (text_of_row later path)
    (same_selection b later old new n unit path h) ∙ same_text path) i)
  where
    same_text : (path : List ℕ) → text_of_row later path (visible b old n unit path)
        ≡ text_of_row b path (visible b old n unit path)
    same_text path = ap (λ rows. text_of_row rows path (visible b old n unit path)) h.grown.is
        ∙ seen_text_stays h.grown.more b old n unit path h.consistent
