-- Labels, and what else is refused beside them.
use Rattle.std.proofs.Common.{◌≡◌, refl, ℕ, true, false, Some, None, Ok, Err, List, [], ◌∷◌, ◌++◌, map}
use Rattle.std.specs.Prelude.{codes}
use Rattle.cc_names.specs.Labels.{holder}
use Rattle.cc_names.specs.declared.commands.Command.TheVariants as commands
use Rattle.cc_names.specs.declared.commands.Change.TheVariants as changes
use Rattle.cc_names.specs.declared.refusals.Refusal.TheVariants as refusals
use Rattle.cc_names.specs.declared.rows.Deed.TheVariants as deeds
use Rattle.cc_names.specs.declared.rows.TypeKind.TheVariants as type_kinds
use Rattle.base_model.specs.Rows.{Base}
use Rattle.base_model.specs.Changes.{labels}
use Rattle.legal_history.specs.Commands.Decisions.{Makes}
use Rattle.base_model.specs.Fits.{is_base}
use Rattle.legal_history.specs.Worked.{base_of, decisions}
use Rattle.legal_history.proofs.Worked.TwoViews.{v, two_views, all_deeds}

abbrev a_file : List ℕ
a_file = codes "in"

others_are_refused :
    decisions two_views (
    commands.Change (changes.Mklabel v false (codes "REL") a_file)
    ∷ commands.Change (changes.Mklbtype (codes "REL"))
    ∷ commands.Change (changes.Mklbtype (codes "main"))
    ∷ commands.Change (changes.Mklabel v false (codes "REL") a_file)
    ∷ commands.Change (changes.Rmlabel v (codes "REL") (codes "Makefile"))
    ∷ commands.Change (changes.Mkelem v false (codes "new"))
    ∷ commands.Change (changes.Save v a_file [])
    ∷ commands.Change (changes.Save v (codes "out") [])
    ∷ commands.Change (changes.Mkview v) ∷ [])
    ≡
    Err (refusals.NoType (codes "REL"))
    ∷ Ok (Makes (deeds.Mktype type_kinds.Label (codes "REL")))
    ∷ Err (refusals.TypeExists (codes "main"))
    ∷ Ok (Makes (deeds.Label (codes "REL") 6 8))
    ∷ Err (refusals.NoLabel (codes "Makefile"))
    ∷ Err (refusals.ParentNotOut (codes "."))
    ∷ Err (refusals.NotCheckedOut a_file)
    ∷ Err (refusals.IsDerived (codes "out"))
    ∷ Err refusals.ViewExists
    ∷ []
others_are_refused = refl

-- the rows that were made of this
abbrev labelled : Base
labelled = base_of (all_deeds ++ (deeds.Mktype type_kinds.Label (codes "REL") ∷ deeds.Label (codes "REL") 6 8 ∷ []))

the_label_fits : is_base labelled ≡ true
the_label_fits = refl

the_label_stands_on_one_element : map (λ e. holder (labels labelled) (codes "REL") e) (3 ∷ 6 ∷ []) ≡ None ∷ Some 8 ∷ []
the_label_stands_on_one_element = refl
