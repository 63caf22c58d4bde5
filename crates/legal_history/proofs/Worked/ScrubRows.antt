-- Both views drop their object, a scrub takes it once nobody holds it, and a build makes another one.
use Rattle.std.proofs.Common.{◌≡◌, refl, true, false, Some, None, Ok, [], ◌∷◌, ◌++◌}
use Rattle.std.specs.Prelude.{codes}
use Rattle.cc_names.specs.declared.commands.Command.TheVariants as commands
use Rattle.cc_names.specs.declared.commands.Query.TheVariants as queries
use Rattle.cc_names.specs.declared.commands.Change.TheVariants as changes
use Rattle.cc_names.specs.declared.rows.Deed.TheVariants as deeds
use Rattle.base_model.specs.Rows.{Base, first_rows}
use Rattle.base_model.specs.Changes.{objects_held, live_row}
use Rattle.legal_history.specs.Commands.Decisions.{Makes, Answers, Begins}
use Rattle.base_model.specs.Fits.{is_base}
use Rattle.legal_history.specs.Builds.Fresh.{fresh}
use Rattle.legal_history.specs.Builds.Reuse.{reusable}
use Rattle.base_model.specs.Texts.{text}
use Rattle.legal_history.specs.Laws.Dues.{is_due_object}
use Rattle.legal_history.specs.Worked.{base_of, decisions}
use Rattle.legal_history.proofs.Worked.ReuseRows.{build_in, publish_in}
use Rattle.legal_history.proofs.Worked.TwoViews.{v, w, hi, unit, built, clearmake, all_deeds, two_views}

-- the first scrub finds nothing, since one view still holds the object, and the second one takes it
scrubs_are_decided :
    decisions two_views (commands.Change (changes.Rmdo w (codes "out")) ∷ commands.Change (changes.Scrub 0)
    ∷ commands.Change (changes.Rmdo v (codes "out")) ∷ commands.Change (changes.Scrub 0) ∷ clearmake w ∷ [])
    ≡ Ok (Makes (deeds.Drop w (codes "out"))) ∷ Ok (Answers []) ∷ Ok (Makes (deeds.Drop v (codes "out")))
    ∷ Ok (Makes (deeds.Scrub (10 ∷ [])))
    ∷ Ok (Begins (unit ∷ [])) ∷ []
scrubs_are_decided = refl

-- the rows that were made of this, and the object of the build
abbrev scrubbed : Base
scrubbed = base_of (all_deeds ++ (deeds.Drop w (codes "out") ∷ deeds.Drop v (codes "out") ∷ deeds.Scrub (10 ∷ []) ∷ publish_in w
    ∷ []))

-- it is due once no view holds it, and it has the age; the row that drops it is no object
it_is_held_by_one : is_due_object (first_rows 14 scrubbed) 1700000000 0 10 ≡ false
it_is_held_by_one = refl

it_is_due : is_due_object (first_rows 15 scrubbed) 1700000000 0 10 ≡ true
it_is_due = refl

it_is_too_young : is_due_object (first_rows 15 scrubbed) 1700000000 1 10 ≡ false
it_is_too_young = refl

a_drop_is_not_due : is_due_object (first_rows 15 scrubbed) 1700000000 0 14 ≡ false
a_drop_is_not_due = refl

scrubbed_is_a_base : is_base scrubbed ≡ true
scrubbed_is_a_base = refl

the_object_is_gone : live_row scrubbed 10 ≡ None
the_object_is_gone = refl

a_scrubbed_object_is_built_anew : reusable (first_rows 16 scrubbed) (build_in w 16) 0 unit ≡ None
a_scrubbed_object_is_built_anew = refl

its_build_from_nothing : fresh (first_rows 16 scrubbed) w None [] [] ≡ Ok built
its_build_from_nothing = refl

the_new_object_has_its_text : text scrubbed 16 (codes "out") ≡ Some hi
the_new_object_has_its_text = refl

the_other_view_holds_nothing : decisions scrubbed (commands.Query (queries.Lsdo v) ∷ []) ≡ Ok (Answers []) ∷ []
the_other_view_holds_nothing = refl

one_view_holds_it : objects_held scrubbed ≡ ((w, codes "out"), 16) ∷ []
one_view_holds_it = refl
