-- Where the record of the object that the view holds at every target does not match, the newest whose record does is another one.
use Rattle.std.proofs.Common.{◌≡◌, refl, ◌∙◌, ℕ, Bool, true, false, ◌==◌, ◌&&◌, Option, Some, None, [], ◌∷◌}
use Rattle.std.specs.Prelude.{is_some}
use Rattle.std.specs.Option.{option_or}
use Rattle.std.proofs.lemmas.Bool.Decides.{Decides-eqb}
use Rattle.cc_names.specs.Versions.{is_number}
use Rattle.cc_names.specs.declared.units.Unit.{Unit}
use Rattle.base_model.specs.Changes.{live_row}
use Rattle.base_model.specs.Rows.{Base, size, only_where}
use Rattle.legal_history.specs.Builds.Active.{Build}
use Rattle.legal_history.specs.Builds.Reuse.{by_options, if_matches, matches, newest_match, reusable}
use Rattle.base_model.specs.Objects.{held_at_all}
use Rattle.build_core.specs.Reusing.{IsChosen}
use Rattle.build_core.specs.declared.reuse.Chosen.TheVariants.{Nothing, Other}

found : (P : ℕ → Bool) (n id : ℕ) (older : Option ℕ) (is_live is_match : Bool) → P n ≡ is_match → (older ≡ Some id → P id ≡ true)
    →
    elim (is_live && is_match) as (λ _. Option ℕ) [ true ↦ Some n | false ↦ older ] ≡ Some id → P id ≡ true
found P n id older true true here below is = cc
found P n id older true false here below is = below is
found P n id older false is_match here below is = below is

-- the record of the newest object that matches does match
newest_matches : (b : Base) (build : Build) (n : ℕ) (unit : Unit) (id : ℕ) (rows : Base)
    → newest_match b build n unit rows ≡ Some id → matches b build n unit id ≡ true
newest_matches b build n unit id [] is = absurd (cc)
newest_matches b build n unit id (row ∷ older) is =
    found (matches b build n unit) (size older) id (newest_match b build n unit older) (is_some (live_row b (size older)))
    (matches b build n unit (size older)) refl
    (newest_matches b build n unit id older) is

none_where : (m : ℕ) (is : Bool) → only_where is (Some m) ≡ None → is ≡ false
none_where m true none = absurd (cc)
none_where m false none = refl

differ : (P : ℕ → Bool) (id m : ℕ) (same : Bool) → (id == m) ≡ same → P id ≡ true → P m ≡ false → same ≡ false
differ P id m true is matched other = let equal : id ≡ m = (Decides-eqb id m).0 is in absurd (cc)
differ P id m false is matched other = refl

-- an object whose record matches is not the one held, where the record of that does not
other_than_held : (b : Base) (build : Build) (n : ℕ) (unit : Unit) (held : Option ℕ) (id : ℕ)
    → if_matches b build n unit held ≡ None → matches b build n unit id ≡ true → is_number id held ≡ false
other_than_held b build n unit None id none matched = refl
other_than_held b build n unit (Some m) id none matched =
    differ (matches b build n unit) id m (id == m) refl matched (none_where m (matches b build n unit m) none)

newest_of : (held newest : Option ℕ) → held ≡ None → option_or held newest ≡ newest
newest_of None newest none = refl
newest_of (Some id) newest none = absurd (cc)

other : (own_only rebuild : Bool) (held newest : Option ℕ) → rebuild ≡ false → own_only ≡ false → held ≡ None
    → by_options own_only rebuild held newest ≡ newest
other false false held newest off any none = newest_of held newest none
other true rebuild held newest off any none = absurd (cc)
other own_only true held newest off any none = absurd (cc)

newest : (b : Base) (build : Build) (n : ℕ) (unit : Unit) → build.rebuild ≡ false → build.own_only ≡ false
    → if_matches b build n unit (held_at_all b build.view unit.targets) ≡ None
    → reusable b build n unit ≡ newest_match b build n unit b
newest b build n unit off any none =
    other build.own_only build.rebuild (if_matches b build n unit (held_at_all b build.view unit.targets))
    (newest_match b build n unit b) off any none

-- the newest is, where any may be
pub other_is_chosen : (b : Base) (build : Build) (n : ℕ) (unit : Unit) (id : ℕ) → build.rebuild ≡ false → build.own_only ≡ false
    → if_matches b build n unit (held_at_all b build.view unit.targets) ≡ None →
    newest_match b build n unit b ≡ Some id → IsChosen b build n unit (Other id)
other_is_chosen b build n unit id off any none is = (
  newest b build n unit off any none ∙ is,
  other_than_held b build n unit (held_at_all b build.view unit.targets) id none (newest_matches b build n unit id b is),
)

-- and none, where no record matches
pub none_is_chosen : (b : Base) (build : Build) (n : ℕ) (unit : Unit) → build.rebuild ≡ false → build.own_only ≡ false
    → if_matches b build n unit (held_at_all b build.view unit.targets) ≡ None →
    newest_match b build n unit b ≡ None → IsChosen b build n unit Nothing
none_is_chosen b build n unit off any none is = newest b build n unit off any none ∙ is
