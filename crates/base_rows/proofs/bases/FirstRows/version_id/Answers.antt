-- Where a version of the first rows stands it stands among all; a row after them made none of theirs.
use Rattle.std.proofs.Common.{◌≡◌, ◌<◌, ◌≤◌, suc, reverse, ap, sym, ◌∙◌, arith}
use Rattle.cc_names.specs.Versions.{version_id}
use Rattle.base_model.specs.Changes.{tree}
use Rattle.base_model.specs.Rows.{Base, first_rows, size}
use Rattle.base_rows.specs.Shown.{Shown}
use Rattle.base_rows.proofs.Prefixes.{size_of_first}
use Rattle.base_rows.proofs.ListingsStay.{no_version_id, version_id_of_first}
use Rattle.base_rows.proofs.bases.FirstRows.version_id.Goals as goal

pub returns-then-size-version : goal.returns-then-size-version
returns-then-size-version c =
    let b = c.args.self.now in
    let past : size b ≤ c.args.version = omega (arith, c.size.ensures.size) in
    sym (no_version_id b c.args.version past)

pub returns : goal.returns
returns c =
    let version = c.args.version in
    let count = c.self.inside.count in
    let all : Base = reverse c.base.inside.rows.items in
    let first : first_rows (suc count) all ≡ c.args.self.now = ap (λ (shown : Shown). first_rows (suc count) shown.base)
    c.base.view_is ∙ c.self.view_is in
    let rows : size c.args.self.now ≡ suc count = ap (λ (b : Base). size b) (sym c.self.view_is)
    ∙ size_of_first c.self.inside.base.now.base count c.self.invariant.within in
    let within : version < suc count = omega (arith, c.size.ensures.size) in
    c.version_id.ensures
    ∙ ap (λ changes. version_id changes version) c.base.invariant.trees
    ∙ sym (version_id_of_first all (suc count) version within)
    ∙ ap (λ (b : Base). version_id (tree b) version) first
