-- The key of one subject after the other is added.
use Rattle.std.proofs.Common.{◌≡◌, ℕ, ◌+◌, ◌<◌, List, [], ◌∷◌, ◌++◌, Some, None, append-nil, append_assoc, drop, length, map}
use Rattle.std.proofs.Common.{sym, ap, ◌∙◌, arith}
use Rattle.std.proofs.lemmas.Option.{slice_get-map}
use Rattle.std.specs.List.{slice_get}
use Rattle.std.specs.Option.{option_map}
use Rattle.cc_names.proofs.Common.{drop_past}
use Rattle.base_rows.specs.Subjects.{key, plain, subjects}
use Rattle.base_rows.proofs.AtIndex.{drop_at, within_at}
use Rattle.base_rows.proofs.row_keys.push_subjects.Goals as goal

pub loop-subject-preserved : goal.loop-subject-preserved
loop-subject-preserved c =
    let all = subjects c.args.number c.args.targets.now c.args.branch c.args.deed.now in
    let keys = map (key c.args.hashing) all in
    let index = c.loop-subject.index in
    let at : slice_get keys index ≡ Some (key c.args.hashing (plain c.in-Some.subject)) =
    slice_get-map (key c.args.hashing) all index ∙ ap (option_map (key c.args.hashing)) (sym c.in-Some.ensures.subject) in
    let left : drop index keys ≡ key c.args.hashing (plain c.in-Some.subject) ∷ drop (index + 1) keys =
    drop_at keys index (key c.args.hashing (plain c.in-Some.subject)) at in
    let within : index < length all = within_at all index (plain c.in-Some.subject) (sym c.in-Some.ensures.subject) in
    record {
      within = omega arith;
      added = ap (λ (items : List ℕ). items ++ drop (index + 1) keys) (c.in_ok-push.ensures.items
          ∙ ap (λ k. c.loop-subject.keys.items ++ k ∷ []) c.key.ensures)
          ∙ append_assoc c.loop-subject.keys.items (key c.args.hashing (plain c.in-Some.subject) ∷ []) (drop (index + 1) keys)
          ∙ sym (ap (λ (rest : List ℕ). c.loop-subject.keys.items ++ rest) left)
          ∙ c.loop-subject.invariant.added;
    }

pub returns : goal.returns
returns c =
    let all = subjects c.args.number c.args.targets.now c.args.branch c.args.deed.now in
    let keys = map (key c.args.hashing) all in
    let index = c.loop-subject.index in
    let none : slice_get keys index ≡ None = slice_get-map (key c.args.hashing) all index
    ∙ ap (option_map (key c.args.hashing)) (sym c.in_default.ensures.subject) in
    sym (append-nil c.loop-subject.keys.items)
    ∙ sym (ap (λ (rest : List ℕ). c.loop-subject.keys.items ++ rest) (drop_past keys index none))
    ∙ c.loop-subject.invariant.added
