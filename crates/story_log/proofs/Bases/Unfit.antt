-- Payloads that spell no row that may come next.
use Rattle.std.proofs.Common.{◌≡◌, true, false, List, ℕ, sym, ap, ◌∙◌}
use Rattle.cc_names.specs.Formed.{Plain, IsFormed}
use Rattle.base_model.specs.Rows.{Base}
use Rattle.base_model.specs.Fits.{fits}
use Rattle.row_form.specs.Spelled.{spelling_of}
use Rattle.row_form.proofs.ExactRow.{one_spelling}
use Rattle.story_log.specs.Bases.Reading.{IsMisfit, IsNoRow, IsUnfit}
use Rattle.story_log.specs.declared.opening.OpenCause.{OpenCause}
use Rattle.story_log.specs.declared.opening.OpenCause.TheVariants as causes

-- a payload that spells a row which does not fit spells none that does
unfit_row : (b : Base) (payload : List ℕ) (row : Plain) → payload ≡ spelling_of row → IsFormed row → fits b row.deed ≡ false
    → IsUnfit b payload
unfit_row b payload row is formed misfit = λ other good spells fit.
    let same : row ≡ other = one_spelling row other formed good (sym is ∙ spells) in
    let clash : true ≡ false = sym fit ∙ ap (λ r. fits b r.deed) (sym same) ∙ misfit in cc

-- a payload that spells a row which does not fit gives no row, for the same cause
pub misfit_gives_none : (b : Base) (payload : List ℕ) (row : Plain) (cause : OpenCause) → payload ≡ spelling_of row → IsFormed row
    → IsMisfit b row.deed cause → IsNoRow b payload cause
misfit_gives_none b payload row (causes.Damaged n) is formed h = (h.0, unfit_row b payload row is formed h.1)
misfit_gives_none b payload row causes.DiskFault is formed h = absurd h
misfit_gives_none b payload row causes.NoMemory is formed h = tt
