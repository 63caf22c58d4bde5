-- A branch is merged: an arrow says so, and what is not merged is found.
use Rattle.std.proofs.Common.{◌≡◌, refl, true, false, Ok, Err, [], ◌∷◌, ◌++◌, map}
use Rattle.std.specs.Prelude.{codes}
use Rattle.std.specs.Fmt.{digits}
use Rattle.cc_names.specs.declared.commands.Command.{Command}
use Rattle.cc_names.specs.declared.commands.Command.TheVariants as commands
use Rattle.cc_names.specs.declared.commands.Query.TheVariants as queries
use Rattle.cc_names.specs.declared.commands.Change.TheVariants as changes
use Rattle.cc_names.specs.declared.refusals.Refusal.TheVariants as refusals
use Rattle.cc_names.specs.declared.rows.Deed.TheVariants as deeds
use Rattle.cc_names.specs.declared.rows.Out.TheVariants as outs
use Rattle.cc_names.specs.declared.rows.TypeKind.TheVariants as type_kinds
use Rattle.base_model.specs.Rows.{Base, first_rows}
use Rattle.legal_history.specs.Commands.Decisions.{Makes, Answers}
use Rattle.base_model.specs.Fits.{is_base}
use Rattle.legal_history.specs.Queries.Merges.{reaches}
use Rattle.legal_history.specs.Queries.VersionNames.{line, version_name}
use Rattle.legal_history.specs.Worked.{base_of, decisions}
use Rattle.legal_history.proofs.Worked.TwoViews.{v, w, two_views, all_deeds}

abbrev findmerge : Command
findmerge = commands.Query (queries.Findmerge w (codes ".") (codes "fix"))

abbrev mkarrow : Command
mkarrow = commands.Change (changes.Mkarrow w (codes "in") (record { branches = codes "fix" ∷ []; number = 1 }))

a_branch_is_merged :
    decisions two_views (
    commands.Change (changes.Mkbrtype (codes "fix"))
    ∷ commands.Change (changes.Mkbranch v false (codes "fix") (codes "in"))
    ∷ commands.Change (changes.Save v (codes "in") (line (codes "foo")))
    ∷ commands.Change (changes.Checkin v false (codes "in"))
    ∷ findmerge
    ∷ mkarrow
    ∷ findmerge
    ∷ mkarrow ∷ [])
    ≡
    Ok (Makes (deeds.Mktype type_kinds.Branch (codes "fix")))
    ∷ Ok (Makes (deeds.Branch v 6 8 (codes "fix") outs.Reserved))
    ∷ Ok (Makes (deeds.Save v 6 (line (codes "foo"))))
    ∷ Ok (Makes (deeds.Checkin v 6))
    ∷ Ok (Answers (line (codes "in@@/main/fix/1 into in@@/main/1")))
    ∷ Ok (Makes (deeds.Arrow 6 16 8))
    ∷ Ok (Answers [])
    ∷ Err (refusals.ArrowExists 17)
    ∷ []
unfolding digits
a_branch_is_merged = refl

-- the rows that were made of this
abbrev merged : Base
merged = base_of (all_deeds ++ (deeds.Mktype type_kinds.Branch (codes "fix")
    ∷ deeds.Branch v 6 8 (codes "fix") outs.Reserved ∷ deeds.Save v 6 (line (codes "foo")) ∷ deeds.Checkin v 6
    ∷ deeds.Arrow 6 16 8 ∷ []))

the_arrow_fits : is_base merged ≡ true
the_arrow_fits = refl

versions_have_names : map (version_name merged) (14 ∷ 16 ∷ []) ≡ codes "/main/fix/0" ∷ codes "/main/fix/1" ∷ []
unfolding digits
versions_have_names = refl

-- the branch's version reaches the selected one by the arrow alone
the_arrow_reaches : map (λ rows. reaches (first_rows rows merged) 16 8) (17 ∷ 18 ∷ []) ≡ false ∷ true ∷ []
the_arrow_reaches = refl

nothing_else_is_merged :
    decisions two_views (
    commands.Change (changes.Mkarrow w (codes "in") (record { branches = []; number = 9 }))
    ∷ commands.Change (changes.Mkarrow w (codes "in") (record { branches = []; number = 1 }))
    ∷ findmerge ∷ [])
    ≡ Err (refusals.NoVersion (codes "in")) ∷ Err (refusals.SameVersion 8) ∷ Err (refusals.NoType (codes "fix")) ∷ []
nothing_else_is_merged = refl
