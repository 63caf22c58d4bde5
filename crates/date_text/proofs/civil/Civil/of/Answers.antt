use Rattle.std.proofs.Common.{◌≡◌, ◌/◌, ◌%◌, sym, arith, w16, to_z, of_z, to_z-of_z}
use Rattle.jiff_core.proofs.SignedLemmas.{signed_arith, fits_between}
use Rattle.date_text.proofs.Passing.{civil_is}
use Rattle.date_text.proofs.civil.Civil.of.Goals as goal

pub returns-clause-value : goal.returns-clause-value
returns-clause-value c =
    let date = c.date_after-date.result in
    let e = civil_is date (c.args.moment / 86400) (c.args.moment % 86400) c.date_after-date.ensures.value in
    let year : to_z w16 (of_z w16 date.year) ≡ date.year = to_z-of_z (fits_between w16 date.year (omega (arith, signed_arith))) in
    rw year (sym e)
