-- A branch is made by a rule of the config spec, another rule lets nothing be checked out, and branches lie on branches.
use Rattle.std.proofs.Common.{◌≡◌, refl, ℕ, true, false, Some, Ok, Err, List, [], ◌∷◌, ◌++◌, map}
use Rattle.std.specs.Prelude.{codes}
use Rattle.std.specs.Fmt.{digits}
use Rattle.cc_names.specs.declared.commands.Command.TheVariants as commands
use Rattle.cc_names.specs.declared.commands.Query.TheVariants as queries
use Rattle.cc_names.specs.declared.commands.Change.TheVariants as changes
use Rattle.cc_names.specs.declared.refusals.Refusal.TheVariants as refusals
use Rattle.cc_names.specs.declared.rows.Deed.TheVariants as deeds
use Rattle.cc_names.specs.declared.rows.Out.TheVariants as outs
use Rattle.cc_names.specs.declared.rows.TypeKind.TheVariants as type_kinds
use Rattle.base_model.specs.Rows.{Base}
use Rattle.legal_history.specs.Commands.Decisions.{Answers, Makes}
use Rattle.base_model.specs.Fits.{is_base}
use Rattle.base_model.specs.Seen.{file_at}
use Rattle.legal_history.specs.Queries.VersionNames.{line, version_name}
use Rattle.legal_history.specs.Worked.{base_of, decisions}
use Rattle.legal_history.proofs.Worked.TwoViews.{v, w, two_views, all_deeds}

abbrev a_file : List ℕ
a_file = codes "in"

-- the config spec, whose third rule makes the branch
abbrev spec : List ℕ
spec =
    line (codes "element * CHECKEDOUT") ++ line (codes "element in .../fix/LATEST")
    ++ line (codes "element in /main/LATEST -mkbranch fix") ++ line (codes "element * /main/LATEST -nocheckout")

a_rule_makes_a_branch :
    decisions two_views (
    commands.Change (changes.Mkbrtype (codes "fix"))
    ∷ commands.Change (changes.Setcs w spec)
    ∷ commands.Change (changes.Checkout w false a_file)
    ∷ commands.Change (changes.Save w a_file (line (codes "foo")))
    ∷ commands.Change (changes.Checkin w false a_file)
    ∷ commands.Change (changes.Checkout w false (codes "Makefile"))
    ∷ commands.Change (changes.Checkout w false a_file) ∷ [])
    ≡
    Ok (Makes (deeds.Mktype type_kinds.Branch (codes "fix")))
    ∷ Ok (Makes (deeds.Setcs w spec))
    ∷ Ok (Makes (deeds.Branch w 6 8 (codes "fix") outs.Reserved))
    ∷ Ok (Makes (deeds.Save w 6 (line (codes "foo"))))
    ∷ Ok (Makes (deeds.Checkin w 6))
    ∷ Err (refusals.NoCheckoutRule 4)
    ∷ Ok (Makes (deeds.Checkout w 6 17 true))
    ∷ []
a_rule_makes_a_branch = refl

-- the rows that were made of this
abbrev branched : Base
branched = base_of (all_deeds ++ (deeds.Mktype type_kinds.Branch (codes "fix") ∷ deeds.Setcs w spec
    ∷ deeds.Branch w 6 8 (codes "fix") outs.Reserved ∷ deeds.Save w 6 (line (codes "foo")) ∷ deeds.Checkin w 6
    ∷ deeds.Checkout w 6 17 true ∷ []))

the_branch_fits : is_base branched ≡ true
the_branch_fits = refl

versions_on_the_branch_have_names :
    map (version_name branched) (15 ∷ 17 ∷ []) ≡ codes "/main/fix/0" ∷ codes "/main/fix/1" ∷ []
unfolding digits
versions_on_the_branch_have_names = refl

each_view_sees_its_own : map (λ view. file_at branched view a_file) (v ∷ w ∷ []) ≡ Some 8 ∷ Some 18 ∷ []
each_view_sees_its_own = refl

-- a branch on the branch, and another one on the version where the first leaves
abbrev branched_twice : Base
branched_twice = base_of (all_deeds ++ (deeds.Mktype type_kinds.Branch (codes "fix") ∷ deeds.Setcs w spec
    ∷ deeds.Branch w 6 8 (codes "fix") outs.Reserved ∷ deeds.Save w 6 (line (codes "foo")) ∷ deeds.Checkin w 6
    ∷ deeds.Mktype type_kinds.Branch (codes "sub") ∷ deeds.Branch w 6 17 (codes "sub") outs.No
    ∷ deeds.Mktype type_kinds.Branch (codes "two") ∷ deeds.Branch w 6 8 (codes "two") outs.No ∷ []))

both_branches_fit : is_base branched_twice ≡ true
both_branches_fit = refl

branches_are_listed_after_their_versions :
    decisions branched_twice (commands.Query (queries.Lsvtree v a_file) ∷ [])
    ≡ Ok (Answers (line (codes "in@@/main") ++ line (codes "in@@/main/0") ++ line (codes "in@@/main/1")
    ++ line (codes "in@@/main/fix") ++ line (codes "in@@/main/fix/0") ++ line (codes "in@@/main/fix/1")
    ++ line (codes "in@@/main/fix/sub") ++ line (codes "in@@/main/fix/sub/0")
    ++ line (codes "in@@/main/two") ++ line (codes "in@@/main/two/0"))) ∷ []
unfolding digits
branches_are_listed_after_their_versions = refl
