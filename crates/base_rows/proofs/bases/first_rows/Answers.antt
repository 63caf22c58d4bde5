-- The first rows of a prefix are a prefix.
use Rattle.std.proofs.Common.{◌≡◌, ◌-◌, suc, min, ap, ◌∙◌, arith}
use Rattle.base_model.specs.Fits.{is_base}
use Rattle.base_model.specs.Rows.{Base, first_rows}
use Rattle.base_rows.proofs.Prefixes.{first_of_prefix, fitting_first}
use Rattle.base_rows.proofs.bases.first_rows.Goals as goal

pub invariant_of-result : goal.invariant_of-result
invariant_of-result c =
    let all = c.rows.inside.base.now.base in
    let cut : c.min-behind_root.result ≡ min (c.args.count - 1) c.rows.inside.count = c.min-behind_root.ensures
    ∙ ap (λ n. min n c.rows.inside.count) c.saturating_sub.ensures in
    record {
      within = omega (arith, c.min-behind_root.ensures, c.rows.invariant.within);
      fitting = ap is_base (ap (λ n. first_rows (suc n) all) cut ∙ first_of_prefix all c.args.count c.rows.inside.count)
          ∙ fitting_first c.args.count (first_rows (suc c.rows.inside.count) all) c.rows.invariant.fitting;
    }

pub returns : goal.returns
returns c =
    let all = c.rows.inside.base.now.base in
    let cut : c.min-behind_root.result ≡ min (c.args.count - 1) c.rows.inside.count = c.min-behind_root.ensures
    ∙ ap (λ n. min n c.rows.inside.count) c.saturating_sub.ensures in
    ap (λ n. first_rows (suc n) all) cut
    ∙ first_of_prefix all c.args.count c.rows.inside.count
    ∙ ap (λ (b : Base). first_rows c.args.count b) c.rows.view_is
