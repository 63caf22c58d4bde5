-- The rules for the suffix of a path serve it as all rules do.
use Rattle.std.proofs.Common.{◌≡◌, ◌<◌, sym, ap, subst, ◌∙◌, None, drop, length, arith}
use Rattle.make_grammar.specs.Rules.{SuffixRule}
use Rattle.make_grammar.specs.Serving.{first_inference, inference_at, stem_of}
use Rattle.make_graph.specs.Suffixes.{suffix_key, rule_place, rule_at}
use Rattle.make_graph.proofs.SuffixLemmas.{AreDotted, first_found, next_found, next_keyed, not_some, place_keyed}
use Rattle.make_graph.proofs.serving.infer_first.Goals as goal

pub loop-place-init : goal.loop-place-init
loop-place-init g c =
    let table = c.args.suffixes.now in
    let rules = table.rules.now in
    let path = c.args.path.now in
    let all : AreDotted table.by_suffix rules = λ e. sym table.knows.suffixes ∙ e in
    let is : c.in_ok-place.place ≡ rule_place table.by_suffix (suffix_key table.by_suffix path) rules =
    c.in_ok-place.ensures ∙ ap (λ bytes. rule_place table.by_suffix (suffix_key table.by_suffix bytes) rules)
    c.as_bytes.ensures.bytes in
    record {
      serves = ap (λ n. first_inference c.args.make.now (g.E.Exists.is_file c.args.files.now) path (drop n rules)) is
          ∙ first_found c.args.make.now (g.E.Exists.is_file c.args.files.now) path table.by_suffix rules all;
      keyed = λ l. ap (λ n. suffix_key table.by_suffix (rule_at rules n).to) is
          ∙ place_keyed table.by_suffix (suffix_key table.by_suffix path) rules (subst (λ n. n < length rules) is l);
    }

pub loop-place-preserved : goal.loop-place-preserved
loop-place-preserved g c =
    let table = c.args.suffixes.now in
    let rules = table.rules.now in
    let make = c.args.make.now in
    let path = c.args.path.now in
    let place = c.loop-place.place in
    let key = suffix_key table.by_suffix path in
    let all : AreDotted table.by_suffix rules = λ e. sym table.knows.suffixes ∙ e in
    let within : place < length rules = omega (arith, c.len.ensures, c.loop-place-test.true) in
    let keyed = c.loop-place.invariant.keyed within in
    let none : inference_at make (g.E.Exists.is_file c.args.files.now) (rule_at rules place)
    (stem_of (rule_at rules place).to path) ≡ None =
    ap (λ (rule : SuffixRule). inference_at make (g.E.Exists.is_file c.args.files.now) rule (stem_of rule.to path))
    (sym c.rule.ensures)
    ∙ (sym c.in_ok-found.ensures ∙ not_some c.in_ok-found.found (sym c.is_some.ensures ∙ c.if-is_some.false)) in
    record {
      serves =
          ap (λ n. first_inference make (g.E.Exists.is_file c.args.files.now) path (drop n rules)) c.next-place.ensures
          ∙ (next_found make (g.E.Exists.is_file c.args.files.now) path table.by_suffix rules place all within none keyed
          ∙ c.loop-place.invariant.serves);
      keyed = λ l.
          ap (λ n. suffix_key table.by_suffix (rule_at rules n).to) c.next-place.ensures
          ∙ next_keyed table.by_suffix key rules place keyed (subst (λ n. n < length rules) c.next-place.ensures l);
    }
