-- The newest object with two targets that passes, where one view made three of them and a scrub took the newest.
use Rattle.std.proofs.Common.{◌≡◌, refl, ℕ, true, Some, None, List, [], ◌∷◌, bytes_eq}
use Rattle.std.specs.Prelude.{codes}
use Rattle.cc_names.specs.declared.rows.Deed.{Deed}
use Rattle.cc_names.specs.declared.rows.Deed.TheVariants as deeds
use Rattle.base_model.specs.Rows.{Base, first_rows}
use Rattle.legal_history.specs.Worked.{base_of}
use Rattle.base_rows.specs.Pool.{Test, newest_object}

abbrev targets : List (List ℕ)
targets = codes "out" ∷ codes "map" ∷ []

abbrev published : List ℕ → Deed
published script = deeds.Publish (codes "v") targets script [] []

-- rows 2, 3 and 4 make an object each
abbrev pooled : Base
pooled = base_of (deeds.Mkview (codes "v") ∷ published (codes "one") ∷ published (codes "two") ∷ published (codes "one")
    ∷ deeds.Scrub (4 ∷ []) ∷ [])

abbrev any_record : Test
any_record script entries = true

abbrev by_script : Test
by_script script entries = bytes_eq script (codes "one")

the_newest_that_is_live : newest_object pooled targets any_record ≡ Some 3
the_newest_that_is_live = refl

an_older_one_passes : newest_object pooled targets by_script ≡ Some 2
an_older_one_passes = refl

before_the_scrub : newest_object (first_rows 5 pooled) targets by_script ≡ Some 4
before_the_scrub = refl

targets_in_another_order : newest_object pooled (codes "map" ∷ codes "out" ∷ []) any_record ≡ None
targets_in_another_order = refl

one_target_alone : newest_object pooled (codes "out" ∷ []) any_record ≡ None
one_target_alone = refl

none_passes : newest_object pooled targets (λ script entries. bytes_eq script (codes "three")) ≡ None
none_passes = refl
