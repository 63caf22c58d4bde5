-- The names of one path after the other are added.
use Rattle.std.proofs.Common.{◌≡◌, ℕ, true, false, ◌||◌, List, refl, ap, ap₂, sym, ◌∙◌, bytes_eq}
use Rattle.std.proofs.lemmas.Slice.Eq.{bytes_eq-Decides}
use Rattle.std.proofs.lemmas.Bool.{or_left, or_right}
use Rattle.base_model.specs.Closures.{is_path_among}
use Rattle.cleartool.specs.Listed.{lies_in}
use Rattle.cleartool.proofs.listed_names.names_in.Goals as goal

pub loop-path-init : goal.loop-path-init
loop-path-init c = record {
  given = λ name was. c.in_ok-names.ensures name ∙ was;
  own = λ path name among none lies. absurd (cc (among, none));
}

pub loop-path-preserved : goal.loop-path-preserved
loop-path-preserved c =
    let old = c.loop-path.names.keys in
    let within = c.as_bytes-within.result.now in
    let one = c.in-Some.path.now in
    let rest = c.next.new.self in
    record {
      given = λ name was. c.in_ok-add_inside.ensures name ∙ or_right (lies_in within name one) (is_path_among name old)
          (c.loop-path.invariant.given name was);
      own = λ path name among none lies.
          elim (bytes_eq path one) as (λ t. bytes_eq path one ≡ t → is_path_among name c.add_inside.new.names.keys ≡ true) [
            | true ↦ λ same.
                c.in_ok-add_inside.ensures name
                ∙ or_left (lies_in within name one) (is_path_among name old)
                (ap₂ (λ (directory place : List ℕ). lies_in directory name place) c.as_bytes-within.ensures.bytes
                (sym ((bytes_eq-Decides path one).0 same)) ∙ lies)
            | false ↦ λ other.
                c.in_ok-add_inside.ensures name
                ∙ or_right (lies_in within name one) (is_path_among name old)
                (c.loop-path.invariant.own path name among (ap (is_path_among path) c.in-Some.ensures.steps
                ∙ ap (λ t. t || is_path_among path rest) other ∙ none) lies)
          ] refl;
    }

pub returns-clause-names : goal.returns-clause-names
returns-clause-names c = record {
  given = c.loop-path.invariant.given;
  own = λ path name given lies.
      c.loop-path.invariant.own path name
      (ap (is_path_among path) c.into_iter-path-iterator.ensures.into_iter_gives.0 ∙ c.in_ok-paths.ensures.found path ∙ given)
      (ap (is_path_among path) c.in-None.ensures.steps.0) lies;
  below = c.in_ok-paths.ensures.below;
}
