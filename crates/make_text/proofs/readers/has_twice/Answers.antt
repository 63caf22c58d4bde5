use Rattle.std.proofs.Common.{◌≡◌, ◌∙◌, sym, ap, ◌||◌, ◌<◌, ◌+◌, ◌∷◌, List, ℕ, drop, arith, add-one, length, suc}
use Rattle.std.proofs.Math.Seq.{drop-cons}
use Rattle.std.specs.List.{list_any}
use Rattle.make_grammar.specs.Macros.{is_among}
use Rattle.make_grammar.specs.WordPaths.{with_path_once}
use Rattle.make_grammar.specs.Statements.{has_twice}
use Rattle.make_text.proofs.ReaderLemmas.{none_seen, twice_step}
use Rattle.make_text.proofs.readers.has_twice.Goals as goal

pub loop-path-init : goal.loop-path-init
loop-path-init c =
    ap (λ (seen : List (List ℕ)). list_any (is_among seen) c.args.paths.now || has_twice c.args.paths.now)
    c.with_hasher-seen.ensures.empty
    ∙ none_seen c.args.paths.now

pub loop-path-preserved : goal.loop-path-preserved
loop-path-preserved c =
    let paths = c.args.paths.now in
    let i = c.loop-path.path-index in
    let seen = c.loop-path.seen.keys in
    let path : List ℕ = c.path-item.result in
    let within : i < length paths = omega arith in
    let cut : drop i paths ≡ path ∷ drop (i + 1) paths =
    drop-cons paths i path within ∙ (ap (λ (x : List ℕ). x ∷ drop (suc i) paths) (sym c.path-item.is)
    ∙ ap (λ n. path ∷ drop n paths) (sym (add-one i))) in
    ap (λ (keys : List (List ℕ)). list_any (is_among keys) (drop (i + 1) paths) || has_twice (drop (i + 1) paths))
    (c.in_ok-insert.ensures.keys ∙ ap (with_path_once seen) c.in_ok-copy.ensures.copy)
    ∙ (twice_step seen path (drop (i + 1) paths) (sym c.contains.ensures ∙ c.if-contains.false)
    ∙ (ap (λ (l : List (List ℕ)). list_any (is_among seen) l || has_twice l) (sym cut)
    ∙ c.loop-path.invariant))
