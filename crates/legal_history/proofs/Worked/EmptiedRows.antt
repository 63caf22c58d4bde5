-- A base of two objects, of which one was scrubbed: what stays with outputs emptied, and what does not.
use Rattle.std.proofs.Common.{◌≡◌, refl, true, false, Some, None, [], ◌∷◌, ◌++◌}
use Rattle.std.specs.Prelude.{codes, map}
use Rattle.cc_names.specs.declared.rows.Deed.{Deed}
use Rattle.cc_names.specs.declared.rows.Deed.TheVariants as deeds
use Rattle.base_model.specs.Blanked.{blank_deed, with_blanks, without_bytes, AreSameButForOutputs}
use Rattle.base_model.specs.Fits.{is_base}
use Rattle.base_model.specs.Rows.{Base, deed_at}
use Rattle.base_model.specs.Texts.{text}
use Rattle.legal_history.specs.Builds.Values.{first_unsound, is_true, value}
use Rattle.legal_history.specs.Worked.{base_of}
use Rattle.legal_history.proofs.Worked.TwoViews.{v, w, hi, script, publish, first_deeds}
use Rattle.legal_history.proofs.Worked.ReuseRows.{publish_in}

-- the object of the first build without the bytes of its output
abbrev bare : Deed
bare = deeds.Publish v (codes "out" ∷ []) script (record { path = codes "in"; row = 8 } ∷ []) ([] ∷ [])

its_output_is_empty : blank_deed publish ≡ bare
its_output_is_empty = refl

other_deeds_stay : blank_deed (deeds.Save v 6 hi) ≡ deeds.Save v 6 hi
other_deeds_stay = refl

-- each of two outputs is emptied, and there are two
two_outputs :
    blank_deed (deeds.Publish v (codes "a" ∷ codes "b" ∷ []) script [] (hi ∷ hi ∷ []))
    ≡ deeds.Publish v (codes "a" ∷ codes "b" ∷ []) script [] ([] ∷ [] ∷ [])
two_outputs = refl

-- an object, its scrub, and the object of a second build
abbrev built_twice : Base
built_twice =
    base_of (first_deeds ++ (publish ∷ deeds.Drop v (codes "out") ∷ deeds.Scrub (10 ∷ []) ∷ deeds.Mkview w ∷ publish_in w ∷ []))

blanked_is_of_bare_rows :
    map (deed_at (with_blanks built_twice)) (8 ∷ 10 ∷ 12 ∷ [])
    ≡ Some (deeds.Checkin v 6) ∷ Some bare ∷ Some (deeds.Scrub (10 ∷ [])) ∷ []
blanked_is_of_bare_rows = refl

blanked_is_a_base : is_base (with_blanks built_twice) ≡ true
blanked_is_a_base = refl

blanked_has_the_texts_of_files : text (with_blanks built_twice) 8 (codes "in") ≡ Some hi
blanked_has_the_texts_of_files = refl

blanked_has_empty_objects : text (with_blanks built_twice) 14 (codes "out") ≡ Some []
blanked_has_empty_objects = refl

its_objects_run_again : value (with_blanks built_twice) 14 ≡ Some (hi ∷ [])
its_objects_run_again = refl

so_they_are_not_true : first_unsound (with_blanks built_twice) ≡ Some 14
so_they_are_not_true = refl

-- the base as it is, and with the output of the scrubbed object emptied
full_is_sound : first_unsound built_twice ≡ None
full_is_sound = refl

the_scrubbed_object_is_emptied : map (deed_at (without_bytes built_twice)) (10 ∷ 14 ∷ []) ≡ Some bare ∷ Some (publish_in w) ∷ []
the_scrubbed_object_is_emptied = refl

emptied_is_a_base : is_base (without_bytes built_twice) ≡ true
emptied_is_a_base = refl

emptied_is_sound : first_unsound (without_bytes built_twice) ≡ None
emptied_is_sound = refl

a_scrubbed_object_is_no_longer_true : map (is_true (without_bytes built_twice)) (10 ∷ 14 ∷ []) ≡ false ∷ true ∷ []
a_scrubbed_object_is_no_longer_true = refl

live_objects_keep_their_texts : text (without_bytes built_twice) 14 (codes "out") ≡ Some hi
live_objects_keep_their_texts = refl

they_are_the_same_but_for_outputs : AreSameButForOutputs built_twice (without_bytes built_twice)
they_are_the_same_but_for_outputs = refl
