-- The rows of the commands on names of directories fit.
use Rattle.std.proofs.Common.{◌≡◌, refl, ℕ, Bool, true, false, List, [], ◌∷◌, not, ◌||◌}
use Rattle.cc_names.specs.declared.rows.Kind.{Kind}
use Rattle.cc_names.specs.declared.rows.Deed.TheVariants as deeds
use Rattle.base_model.specs.Conditions.{has_name, has_out_by_name}
use Rattle.legal_history.specs.Commands.Decisions.{Scene}
use Rattle.legal_history.specs.Commands.FileLines.{last_name}
use Rattle.legal_history.specs.Commands.Tests.{needs_free_path}
use Rattle.legal_history.proofs.Decisions.FileFits.{Fits, RowFits}
use Rattle.legal_history.proofs.Decisions.Handed.{row_is, Changes, change_is}
use Rattle.legal_history.proofs.Decisions.Passed.{unless_passes, fits_by, where_passes}
use Rattle.legal_history.specs.Commands.DirectoryLines.{mkelem, mkelem_in, rmname, rmname_in, rmname_tests, mv, mv_in, mv_tests}
use Rattle.legal_history.proofs.Decisions.CheckoutFits.{was_not_out}

-- the first of three tests of which none holds
first_of_three : (a b c : Bool) → (a || b || c) ≡ false → a ≡ false
first_of_three false b c e = refl
first_of_three true b c e = absurd (cc)

pub mkelem_fits : (s : Scene) (v : List ℕ) (nco : Bool) (kind : Kind) (path : List ℕ) → RowFits s (mkelem s v nco kind path)
mkelem_fits s v nco kind path = change_is (Fits s) s v path (mkelem_in s v nco kind path) by
  where
    by : (d : ℕ) → Changes s v d → RowFits s (mkelem_in s v nco kind path d)
    by d c =
        let deed = deeds.Mkelem v d (last_name path) kind (not nco) in
        row_is (Fits s) s (needs_free_path s.base v path d (last_name path) ∷ []) deed (λ m.
        let there = c.there in
        let taken = c.taken in
        let directory = c.directory in
        let free : has_name s.base v d (last_name path) ≡ false = first_of_three _ _ _ (where_passes _ _ m.pass.0) in
        fits_by s.base deed m.room (rw (there, taken, directory, free) refl))

pub rmname_fits : (s : Scene) (v path : List ℕ) → RowFits s (rmname s v path)
rmname_fits s v path = change_is (Fits s) s v path (rmname_in s v path) by
  where
    by : (d : ℕ) → Changes s v d → RowFits s (rmname_in s v path d)
    by d c =
        let deed = deeds.Rmname v d (last_name path) in
        row_is (Fits s) s (rmname_tests s v path d) deed (λ m.
        let taken = c.taken in
        let has : has_name s.base v d (last_name path) ≡ true = unless_passes _ _ m.pass.0 in
        let in_place : has_out_by_name s.base v d (last_name path) ≡ false = was_not_out _ m.pass.1.0 in
        fits_by s.base deed m.room (rw (taken, has, in_place) refl))

pub mv_fits : (s : Scene) (v path name : List ℕ) → RowFits s (mv s v path name)
mv_fits s v path name = change_is (Fits s) s v path (mv_in s v path name) by
  where
    by : (d : ℕ) → Changes s v d → RowFits s (mv_in s v path name d)
    by d c =
        let deed = deeds.Mv v d (last_name path) name in
        row_is (Fits s) s (mv_tests s v path name d) deed (λ m.
        let taken = c.taken in
        let has : has_name s.base v d (last_name path) ≡ true = unless_passes _ _ m.pass.0 in
        let free : has_name s.base v d name ≡ false = first_of_three _ _ _ (where_passes _ _ m.pass.1.0) in
        fits_by s.base deed m.room (rw (taken, has, free) refl))
