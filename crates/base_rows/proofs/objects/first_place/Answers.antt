-- The first target that is the path has its place.
use Rattle.std.proofs.Common.{◌≡◌, ◌||◌, true, false, length, get_or, refl, ap, ap₂, sym, subst, ◌∙◌, bytes_eq}
use Rattle.std.proofs.lemmas.List.Folds.{list_any_more}
use Rattle.std.proofs.lemmas.Option.{slice_get_read}
use Rattle.cc_names.proofs.Common.{bytes_eq_swapped, same_bytes}
use Rattle.base_rows.proofs.objects.first_place.Goals as goal

pub returns-then-eq : goal.returns-then-eq
returns-then-eq c =
    let targets = c.args.targets.now in
    let place = c.loop-place.place in
    let target = c.index-targets-place.result in
    let path = c.args.path.now in
    let same : bytes_eq target path ≡ true =
    ap₂ bytes_eq (sym c.as_bytes.ensures.bytes) (sym c.as_bytes-in-loop-place.ensures.bytes) ∙ sym c.eq.ensures ∙ c.if-eq.true in
    slice_get_read targets (length targets) place path refl c.loop-place-test.true
    (subst (λ one. one ≡ get_or targets place one) (same_bytes target path same) c.index-targets-place.is)

pub loop-place-preserved : goal.loop-place-preserved
loop-place-preserved c =
    let targets = c.args.targets.now in
    let place = c.loop-place.place in
    let target = c.index-targets-place.result in
    let path = c.args.path.now in
    let other : bytes_eq target path ≡ false =
    ap₂ bytes_eq (sym c.as_bytes.ensures.bytes) (sym c.as_bytes-in-loop-place.ensures.bytes) ∙ sym c.eq.ensures ∙ c.if-eq.false in
    list_any_more (bytes_eq path) targets place target c.loop-place-test.true
    ∙ ap₂ (λ one two. one || two) c.loop-place.invariant
    (ap (bytes_eq path) (sym c.index-targets-place.is) ∙ bytes_eq_swapped path target ∙ other)
