-- There are fewer than the limit of rows.
use Rattle.std.proofs.Common.{◌≡◌, ◌+◌, ◌<◌, suc, length, ap, sym, ◌∙◌, arith}
use Rattle.base_model.specs.Rows.{Base, first_rows, size}
use Rattle.base_model.specs.Fits.{row_limit}
use Rattle.base_rows.proofs.Prefixes.{base_short, size_of_first}
use Rattle.base_rows.proofs.bases.FirstRows.size.Goals as goal

pub overflow_add-result : goal.overflow_add-result
overflow_add-result c =
    let all = c.self.inside.base.now.base in
    let count = c.self.inside.count in
    let short : length (first_rows (suc count) all) < row_limit = base_short (first_rows (suc count) all) c.self.invariant.fitting
    in
    let size_is : size (first_rows (suc count) all) ≡ suc count = size_of_first all count c.self.invariant.within in
    omega arith

pub returns-clause-size : goal.returns-clause-size
returns-clause-size c =
    let more : c.self.inside.count + 1 ≡ suc c.self.inside.count = omega arith in
    more ∙ sym (size_of_first c.self.inside.base.now.base c.self.inside.count c.self.invariant.within)
    ∙ ap (λ (b : Base). size b) c.self.view_is

pub returns-clause-limit : goal.returns-clause-limit
returns-clause-limit c =
    let all = c.self.inside.base.now.base in
    let count = c.self.inside.count in
    let short : length (first_rows (suc count) all) < row_limit = base_short (first_rows (suc count) all) c.self.invariant.fitting
    in
    let size_is : size (first_rows (suc count) all) ≡ suc count = size_of_first all count c.self.invariant.within in
    omega arith
