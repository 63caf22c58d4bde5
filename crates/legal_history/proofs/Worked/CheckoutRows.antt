-- Checkouts of one element by two views: reserved and not, a checkin that comes too late, and one of an identical text.
use Rattle.std.proofs.Common.{◌≡◌, refl, ℕ, true, false, Some, Ok, Err, List, [], ◌∷◌, ◌++◌, map}
use Rattle.std.specs.Prelude.{codes}
use Rattle.std.specs.Fmt.{digits}
use Rattle.cc_names.specs.Versions.{Version, versions_on}
use Rattle.cc_names.specs.declared.commands.Command.TheVariants as commands
use Rattle.cc_names.specs.declared.commands.Change.TheVariants as changes
use Rattle.cc_names.specs.declared.refusals.Refusal.TheVariants as refusals
use Rattle.cc_names.specs.declared.rows.Deed.TheVariants as deeds
use Rattle.base_model.specs.Rows.{Base, first_rows}
use Rattle.base_model.specs.Changes.{tree}
use Rattle.legal_history.specs.Commands.Decisions.{Makes}
use Rattle.base_model.specs.Fits.{is_base}
use Rattle.base_model.specs.Seen.{file_at}
use Rattle.base_model.specs.Texts.{text}
use Rattle.legal_history.specs.Queries.VersionNames.{line, version_name}
use Rattle.base_model.specs.Views.{making, out}
use Rattle.legal_history.specs.Worked.{base_of, decisions}
use Rattle.legal_history.proofs.Worked.TwoViews.{v, w, two_views, all_deeds}

abbrev a_file : List ℕ
a_file = codes "in"

two_views_check_out :
    decisions two_views (
    commands.Change (changes.Checkout v true a_file)
    ∷ commands.Change (changes.Checkout w false a_file)
    ∷ commands.Change (changes.Save v a_file (line (codes "foo")))
    ∷ commands.Change (changes.Checkin v false a_file)
    ∷ commands.Change (changes.Save w a_file (line (codes "bar")))
    ∷ commands.Change (changes.Checkin w false a_file)
    ∷ commands.Change (changes.Checkin v false a_file)
    ∷ commands.Change (changes.Uncheckout v a_file)
    ∷ commands.Change (changes.Checkout v false a_file)
    ∷ commands.Change (changes.Checkin v false a_file) ∷ [])
    ≡
    Ok (Makes (deeds.Checkout v 6 8 false))
    ∷ Ok (Makes (deeds.Checkout w 6 8 true))
    ∷ Ok (Makes (deeds.Save v 6 (line (codes "foo"))))
    ∷ Err (refusals.Reserved w)
    ∷ Ok (Makes (deeds.Save w 6 (line (codes "bar"))))
    ∷ Ok (Makes (deeds.Checkin w 6))
    ∷ Err (refusals.NotLatest 17)
    ∷ Ok (Makes (deeds.Uncheckout v 6))
    ∷ Ok (Makes (deeds.Checkout v 6 17 true))
    ∷ Err (refusals.Identical 17)
    ∷ []
two_views_check_out = refl

-- the rows that were made of this: both take the element out, and only what view w saved is brought in
abbrev checked_out : Base
checked_out = base_of (all_deeds ++ (deeds.Checkout v 6 8 false ∷ deeds.Checkout w 6 8 true
    ∷ deeds.Save v 6 (line (codes "foo")) ∷ deeds.Save w 6 (line (codes "bar")) ∷ deeds.Checkin w 6
    ∷ deeds.Uncheckout v 6 ∷ deeds.Checkout v 6 17 true ∷ []))

checkouts_fit : is_base checked_out ≡ true
checkouts_fit = refl

versions_have_names : map (version_name checked_out) (8 ∷ 17 ∷ []) ≡ codes "/main/1" ∷ codes "/main/2" ∷ []
unfolding digits
versions_have_names = refl

-- the version of a row on the element's main branch, and its number
abbrev numbered_row : Version → ℕ × ℕ
numbered_row version = (version.row, version.number)

each_version_has_its_number : map numbered_row (versions_on (tree checked_out) 6) ≡ (17, 2) ∷ (8, 1) ∷ (6, 0) ∷ []
each_version_has_its_number = refl

the_reserved_text_is_in : text checked_out 17 a_file ≡ Some (line (codes "bar"))
the_reserved_text_is_in = refl

-- before one of them is brought in
each_has_it_out :
    map (λ view. out (first_rows 17 checked_out) view 6) (v ∷ w ∷ [])
    ≡ Some (record { row = 13; origin = 8; reserved = false }) ∷ Some (record { row = 14; origin = 8; reserved = true }) ∷ []
each_has_it_out = refl

each_makes_its_own : map (λ view. making (first_rows 17 checked_out) view 6) (v ∷ w ∷ []) ≡ Some 15 ∷ Some 16 ∷ []
each_makes_its_own = refl

each_saw_its_own :
    map (λ view. file_at (first_rows 17 checked_out) view a_file) (v ∷ w ∷ []) ≡ Some 15 ∷ Some 16 ∷ []
each_saw_its_own = refl

the_checkout_is_seen : file_at checked_out v a_file ≡ Some 19
the_checkout_is_seen = refl
