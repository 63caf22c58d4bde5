-- The texts of queries over two views: records, the objects held, a directory, and how two records differ.
use Rattle.std.proofs.Common.{◌≡◌, refl, true, false, Some, None, Ok, [], ◌∷◌, ◌++◌}
use Rattle.std.specs.Prelude.{codes}
use Rattle.std.specs.Fmt.{digits}
use Rattle.cc_names.specs.declared.commands.Command.TheVariants as commands
use Rattle.cc_names.specs.declared.commands.Query.TheVariants as queries
use Rattle.cc_names.specs.declared.commands.Change.TheVariants as changes
use Rattle.cc_names.specs.declared.rows.Deed.TheVariants as deeds
use Rattle.cc_names.specs.declared.rows.TypeKind.TheVariants as type_kinds
use Rattle.base_model.specs.Rows.{Base, first_rows}
use Rattle.legal_history.specs.Commands.Decisions.{Makes, Answers, Begins}
use Rattle.base_model.specs.Fits.{is_base}
use Rattle.legal_history.specs.Builds.Fresh.{fresh}
use Rattle.base_model.specs.Texts.{text}
use Rattle.legal_history.specs.Queries.VersionNames.{line}
use Rattle.legal_history.specs.Worked.{base_of, decisions}
use Rattle.legal_history.proofs.Worked.TwoViews.{v, w, hi, script, unit, built, clearmake, two_views, all_deeds}

-- view w checks its source out and builds anew
abbrev rebuilt : Base
rebuilt = base_of (all_deeds ++ (deeds.Checkout w 6 8 true
    ∷ deeds.Publish w (codes "out" ∷ []) script (record { path = codes "in"; row = 13 } ∷ []) (hi ∷ []) ∷ []))

rebuilt_is_a_base : is_base rebuilt ≡ true
rebuilt_is_a_base = refl

records_are_listed :
    decisions two_views (commands.Query (queries.Catcr w (codes "out")) ∷ commands.Query (queries.Lsdo w)
    ∷ commands.Change (changes.Checkout w false (codes "in")) ∷ clearmake w ∷ [])
    ≡ Ok (Answers (line (codes "target out") ++ line (codes "script cat in > out") ++ line (codes "read in@@/main/1")))
    ∷ Ok (Answers (line (codes "out@@10 references 2")))
    ∷ Ok (Makes (deeds.Checkout w 6 8 true))
    ∷ Ok (Begins (unit ∷ [])) ∷ []
unfolding digits
records_are_listed = refl

the_checkout_is_built_from_nothing : fresh (first_rows 14 rebuilt) w None [] [] ≡ Ok built
the_checkout_is_built_from_nothing = refl

the_new_object_has_its_text : text rebuilt 14 (codes "out") ≡ Some hi
the_new_object_has_its_text = refl

differences_are_listed :
    decisions rebuilt (commands.Query (queries.Diffcr v (codes "out") w (codes "out")) ∷ commands.Query (queries.Ls w None) ∷ [])
    ≡ Ok (Answers (line (codes "< in@@/main/1") ++ line (codes "> in checkedout 13")))
    ∷ Ok (Answers (line (codes "Makefile@@/main/1 rule 2") ++ line (codes "in checkedout from /main/1 rule 1")
    ++ line (codes "out@@14 object"))) ∷ []
unfolding digits
differences_are_listed = refl

-- a source with a label
abbrev labelled : Base
labelled = base_of (all_deeds ++ (deeds.Mktype type_kinds.Label (codes "REL") ∷ deeds.Label (codes "REL") 6 8 ∷ []))

an_element_is_described :
    decisions labelled (commands.Query (queries.Describe v (codes "in")) ∷ commands.Query (queries.Lsvtree v (codes "in"))
    ∷ commands.Query (queries.Cat v (codes "in") None) ∷ commands.Query (queries.Cat v (codes "out") None) ∷ [])
    ≡ Ok (Answers (line (codes "element 6") ++ line (codes "kind file") ++ line (codes "version /main/1")
    ++ line (codes "label REL")))
    ∷ Ok (Answers (line (codes "in@@/main") ++ line (codes "in@@/main/0") ++ line (codes "in@@/main/1 (REL)")))
    ∷ Ok (Answers hi) ∷ Ok (Answers hi) ∷ []
unfolding digits
an_element_is_described = refl

a_history_is_listed :
    decisions labelled (commands.Query (queries.Lshistory v (codes "in")) ∷ [])
    ≡ Ok (Answers (line (codes "14-Nov-2023.22:13:20 label REL /main/1")
    ++ line (codes "14-Nov-2023.22:13:20 create version /main/1")
    ++ line (codes "14-Nov-2023.22:13:20 create element"))) ∷ []
unfolding digits
a_history_is_listed = refl
