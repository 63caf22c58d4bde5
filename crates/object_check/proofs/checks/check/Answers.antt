-- The record of a needed object was run on what its entries give in the base.
use Rattle.std.proofs.Common.{◌≡◌, Some, nat_eq, ap, sym}
use Rattle.std.specs.BTreeSet.{contains}
use Rattle.std.specs.HashMap.{get}
use Rattle.std.specs.Ordering.{nat_cmp}
use Rattle.base_model.specs.Rows.{deed_at, deed_of}
use Rattle.legal_history.specs.Builds.Values.{run_of_deed}
use Rattle.object_check.specs.Kept.{texts_kept}
use Rattle.object_check.proofs.Checking.{checked_kept, checked_true}
use Rattle.object_check.proofs.Keeping.{kept_next}
use Rattle.object_check.proofs.KeptTexts.{same_rerun}
use Rattle.object_check.proofs.checks.check.Goals as goal

pub returns-in_ok-keep-in-Some-clause-is_true : goal.returns-in_ok-keep-in-Some-clause-is_true
returns-in_ok-keep-in-Some-clause-is_true c =
    let b = c.args.rows.now in
    let id = c.args.id in
    let needed = contains nat_cmp c.args.needed.now in
    let values = get nat_eq c.args.values.now in
    let deed = c.in-Some.row.now.deed in
    let is : deed_at b id ≡ Some deed = ap deed_of (sym c.in-Some.ensures) in
    let same = same_rerun b id needed values c.requires.closed c.requires.keeps c.requires.is_needed deed c.are_base.ensures is in
    checked_true b id deed (run_of_deed (texts_kept b values) deed) c.in_ok-checked-in-Some.checked same is
    c.in_ok-checked-in-Some.ensures

pub returns-in_ok-keep-in-Some-clause-keeps : goal.returns-in_ok-keep-in-Some-clause-keeps
returns-in_ok-keep-in-Some-clause-keeps c =
    let b = c.args.rows.now in
    let id = c.args.id in
    let needed = contains nat_cmp c.args.needed.now in
    let values = get nat_eq c.args.values.now in
    let deed = c.in-Some.row.now.deed in
    let is : deed_at b id ≡ Some deed = ap deed_of (sym c.in-Some.ensures) in
    let same = same_rerun b id needed values c.requires.closed c.requires.keeps c.requires.is_needed deed c.are_base.ensures is in
    let checked = c.in_ok-checked-in-Some.checked in
    kept_next id needed b values (get nat_eq c.keep.new.values) checked.value c.requires.keeps c.requires.is_needed
    (checked_kept b id deed (run_of_deed (texts_kept b values) deed) checked same is c.in_ok-checked-in-Some.ensures)
    c.in_ok-keep-in-Some.ensures
