-- One path after the other is added.
use Rattle.std.proofs.Common.{ℕ, ◌+◌, ◌||◌, List, drop, ap, sym, ◌∙◌, bytes_eq}
use Rattle.std.proofs.lemmas.List.{at_drop_all, at_drop_more}
use Rattle.cc_names.proofs.Common.{or_moved}
use Rattle.base_model.specs.Closures.{is_path_among}
use Rattle.view_lookup.proofs.PathSets.{one_inserted}
use Rattle.cleartool.proofs.sets.owned_paths.add_all.Goals as goal

pub loop-path-preserved : goal.loop-path-preserved
loop-path-preserved c = λ q.
    let paths = c.args.paths.now in
    let i = c.loop-path.path-index in
    let old = c.loop-path.found in
    let path = c.path-item.result in
    let more = is_path_among q (drop (i + 1) paths) in
    ap (λ among. more || among) (one_inserted old c.insert.new.self c.in_ok-copy.field-0 q (c.in_ok-insert.ensures.updates.0 q))
    ∙ or_moved more (bytes_eq q c.in_ok-copy.field-0) (is_path_among q old.keys)
    ∙ ap (λ (one : List ℕ). (bytes_eq q one || more) || is_path_among q old.keys) (c.in_ok-copy.ensures.copy ∙ c.path-item.is)
    ∙ sym (at_drop_more (λ (left : List (List ℕ)). is_path_among q left || is_path_among q old.keys) paths i path
    c.loop-path-test.true)
    ∙ c.loop-path.invariant q

pub returns : goal.returns
returns c = λ q.
    sym (at_drop_all (λ (left : List (List ℕ)). is_path_among q left || is_path_among q c.loop-path.found.keys) c.args.paths.now
    c.loop-path.path-index c.loop-path-test.false)
    ∙ c.loop-path.invariant q
