-- Labels and selection by a record.
use Rattle.std.proofs.Common.{◌≡◌, refl, ℕ, true, false, Some, None, Ok, Err, List, [], ◌∷◌, ◌++◌, map}
use Rattle.std.specs.Prelude.{codes}
use Rattle.std.specs.Fmt.{digits}
use Rattle.cc_names.specs.Labels.{holder}
use Rattle.cc_names.specs.declared.commands.Command.TheVariants as commands
use Rattle.cc_names.specs.declared.commands.Query.TheVariants as queries
use Rattle.cc_names.specs.declared.commands.Change.TheVariants as changes
use Rattle.cc_names.specs.declared.refusals.Refusal.TheVariants as refusals
use Rattle.cc_names.specs.declared.refusals.SpecCause.TheVariants as causes
use Rattle.cc_names.specs.declared.rows.Deed.{Deed}
use Rattle.cc_names.specs.declared.rows.Deed.TheVariants as deeds
use Rattle.cc_names.specs.declared.rows.TypeKind.TheVariants as type_kinds
use Rattle.base_model.specs.Rows.{Base, first_rows}
use Rattle.base_model.specs.Changes.{labels}
use Rattle.base_model.specs.Closures.{listing, listing_of}
use Rattle.legal_history.specs.Commands.Decisions.{Makes, Answers, Begins}
use Rattle.base_model.specs.Fits.{is_base}
use Rattle.legal_history.specs.Builds.Fresh.{fresh}
use Rattle.legal_history.specs.Builds.Reuse.{reusable}
use Rattle.base_model.specs.Objects.{held_at_all}
use Rattle.base_model.specs.Seen.{file_at}
use Rattle.legal_history.specs.Queries.VersionNames.{line, version_name}
use Rattle.legal_history.specs.Worked.{base_of, decisions, with_decision}
use Rattle.legal_history.proofs.Worked.ReuseRows.{build_in}
use Rattle.legal_history.proofs.Worked.TwoViews.{v, w, hi, makefile, script, unit, built, clearmake, two_views, all_deeds}

a_record_is_labelled_and_covered :
    decisions two_views (
    commands.Change (changes.Mklbtype (codes "REL"))
    ∷ commands.Change (changes.MklabelConfig v false (codes "out") (codes "REL"))
    ∷ commands.Query (queries.Covers v w (codes "out"))
    ∷ commands.Change (changes.Checkout v false (codes "in"))
    ∷ commands.Change (changes.Save v (codes "in") (line (codes "foo")))
    ∷ commands.Change (changes.Checkin v false (codes "in"))
    ∷ commands.Query (queries.Covers v w (codes "out")) ∷ [])
    ≡
    Ok (Makes (deeds.Mktype type_kinds.Label (codes "REL")))
    ∷ Ok (Makes (deeds.Labels (codes "REL") (record { element = 6; version = 8 } ∷ [])))
    ∷ Ok (Answers (line (codes "covered")))
    ∷ Ok (Makes (deeds.Checkout v 6 8 true))
    ∷ Ok (Makes (deeds.Save v 6 (line (codes "foo"))))
    ∷ Ok (Makes (deeds.Checkin v 6))
    ∷ Ok (Answers (line (codes "not covered in")))
    ∷ []
a_record_is_labelled_and_covered = refl

-- the rows that were made of this
abbrev recorded : List Deed
recorded = all_deeds ++ (deeds.Mktype type_kinds.Label (codes "REL")
    ∷ deeds.Labels (codes "REL") (record { element = 6; version = 8 } ∷ [])
    ∷ deeds.Checkout v 6 8 true ∷ deeds.Save v 6 (line (codes "foo")) ∷ deeds.Checkin v 6 ∷ [])

the_labels_fit : is_base (base_of recorded) ≡ true
the_labels_fit = refl

versions_have_names : map (version_name (base_of recorded)) (8 ∷ 17 ∷ []) ≡ codes "/main/1" ∷ codes "/main/2" ∷ []
unfolding digits
versions_have_names = refl

-- a path that was absent lists no version, not even the root's first one
an_absent_path_lists_nothing : listing_of (base_of recorded) (((codes "h", 0), 0) ∷ ((codes "in", 8), 8) ∷ []) ≡ (6, 8) ∷ []
an_absent_path_lists_nothing = refl

the_record_lists_its_source : listing (base_of recorded) 10 ≡ (6, 8) ∷ []
the_record_lists_its_source = refl

the_label_stays_on_the_source : holder (labels (base_of recorded)) (codes "REL") 6 ≡ Some 8
the_label_stays_on_the_source = refl

-- a build from private files alone, and a label type
abbrev private_build : Base
private_build = base_of (deeds.Mkview v ∷ deeds.Put v (codes "Makefile") makefile ∷ deeds.Put v (codes "in") hi
    ∷ deeds.Publish v (codes "out" ∷ []) script (record { path = codes "in"; row = 3 } ∷ []) (hi ∷ []) ∷ [])

a_private_file_has_no_version :
    decisions private_build (commands.Change (changes.Mklbtype (codes "REL"))
    ∷ commands.Change (changes.MklabelConfig v false (codes "out") (codes "REL")) ∷ [])
    ≡ Ok (Makes (deeds.Mktype type_kinds.Label (codes "REL"))) ∷ Err (refusals.NotVersion (codes "in")) ∷ []
a_private_file_has_no_version = refl

the_private_build_fits : is_base (with_decision private_build (Ok (Makes (deeds.Mktype type_kinds.Label (codes "REL"))))) ≡ true
the_private_build_fits = refl

abbrev x : List ℕ
x = codes "x"

-- a config spec that selects by the record of an object
abbrev by_record : List ℕ
by_record = line (codes "element in -config out@@10") ++ line (codes "element * /main/LATEST")

a_view_selects_by_the_record :
    decisions (base_of recorded) (commands.Change (changes.Mkview x) ∷ commands.Change (changes.Setcs x by_record) ∷ clearmake x
    ∷ [])
    ≡ Ok (Makes (deeds.Mkview x)) ∷ Ok (Makes (deeds.Setcs x by_record)) ∷ Ok (Begins (unit ∷ [])) ∷ []
a_view_selects_by_the_record = refl

-- the source has a newer version, and a third view selects by the record and takes the object in
abbrev selected_by_record : Base
selected_by_record = base_of (recorded ++ (deeds.Mkview x ∷ deeds.Setcs x by_record ∷ deeds.Wink x 10 ∷ []))

the_selection_fits : is_base selected_by_record ≡ true
the_selection_fits = refl

its_build_may_reuse_the_object : reusable (first_rows 20 selected_by_record) (build_in x 20) 0 unit ≡ Some 10
its_build_may_reuse_the_object = refl

its_view_holds_nothing_yet : held_at_all (first_rows 20 selected_by_record) x (codes "out" ∷ []) ≡ None
its_view_holds_nothing_yet = refl

its_build_from_nothing : fresh (first_rows 20 selected_by_record) x None [] [] ≡ Ok built
its_build_from_nothing = refl

the_record_decides : file_at selected_by_record x (codes "in") ≡ Some 8
the_record_decides = refl

the_latest_is_newer : file_at selected_by_record w (codes "in") ≡ Some 17
the_latest_is_newer = refl

such_a_view_covers_the_record : decisions selected_by_record (commands.Query (queries.Covers x w (codes "out")) ∷ [])
    ≡ Ok (Answers (line (codes "covered"))) ∷ []
such_a_view_covers_the_record = refl

a_record_needs_a_row :
    decisions two_views (commands.Change (changes.Setcs w (line (codes "element in -config out"))) ∷ [])
    ≡ Err (refusals.BadSpec 1 causes.BadSelector) ∷ []
a_record_needs_a_row = refl
