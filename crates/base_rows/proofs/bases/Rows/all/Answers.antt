-- All rows are the first ones.
use Rattle.std.proofs.Common.{◌≡◌, suc, true, length, reverse, ap, subst, sym, arith}
use Rattle.std.proofs.lemmas.Grind.{common_steps}
use Rattle.std.proofs.lemmas.List.{length-reverse}
use Rattle.base_model.specs.Fits.{is_base}
use Rattle.base_model.proofs.Stay.{all_rows}
use Rattle.base_rows.specs.BasePrefix.{IsBasePrefix}
use Rattle.base_rows.specs.Shown.{Shown}
use Rattle.base_rows.proofs.Prefixes.{all_prefix}
use Rattle.base_rows.proofs.bases.Rows.all.Goals as goal

pub invariant_of-result : goal.invariant_of-result
invariant_of-result c =
    let fitting : is_base c.args.self.now.base ≡ true = subst (λ (shown : Shown). is_base shown.base ≡ true) c.self.view_is
    c.self.invariant.fitting in
    let items : length (reverse c.self.inside.rows.items) ≡ length c.args.self.now.base =
    ap (λ (shown : Shown). length shown.base) c.self.view_is in
    let count : c.len.result ≡ length c.args.self.now.base = grind (arith, common_steps, length-reverse c.self.inside.rows.items)
    in
    subst (λ n. IsBasePrefix n c.args.self.now.base) (sym count) (all_prefix c.args.self.now.base fitting)

pub returns : goal.returns
returns c =
    let items : length (reverse c.self.inside.rows.items) ≡ length c.args.self.now.base =
    ap (λ (shown : Shown). length shown.base) c.self.view_is in
    let count : c.len.result ≡ length c.args.self.now.base = grind (arith, common_steps, length-reverse c.self.inside.rows.items)
    in
    all_rows c.args.self.now.base (suc c.len.result) (omega arith)
