-- The table of the rules from a place on.
use Rattle.std.proofs.Common.{◌≡◌, ◌+◌, ◌-◌, ◌<◌, ◌≤◌, sym, ap, ◌∙◌, inl, inr, ℕ, suc, Some, List, [], drop, get_or, length, set}
use Rattle.std.proofs.Common.{unwrap_or, if◌then◌else◌, arith}
use Rattle.std.proofs.lemmas.Bool.{cases_eq}
use Rattle.std.proofs.lemmas.List.{get_or_default, get_or-set_same, get_or-set_other, length-set}
use Rattle.std.specs.HashMap.{get}
use Rattle.std.specs.Str.{bytes_eq}
use Rattle.make_grammar.specs.Rules.{SuffixRule}
use Rattle.make_graph.specs.Suffixes.{suffix_key, next_place, rule_place, rule_at}
use Rattle.make_graph.proofs.SuffixLemmas.{place_put}
use Rattle.make_graph.proofs.suffix_tables.SuffixTable.of.Goals as goal

pub loop-place-preserved : goal.loop-place-preserved
loop-place-preserved c =
    let rules = c.args.rules.now in
    let n = length rules in
    let dotted = c.are_dotted-by_suffix.result in
    let first = c.loop-place.first in
    let items = c.loop-place.next.items in
    let value = c.in_ok-next-2.field-0 in
    let place = c.loop-place.place - 1 in
    let here : c.loop-place.place ≡ suc place = omega (arith, c.loop-place-test.true) in
    let within : place < n = omega (arith, c.loop-place.invariant.within, here) in
    let room : place < length items = omega (arith, c.loop-place.invariant.size, within) in
    let rule : c.index-rules-place.result ≡ rule_at rules place =
    c.index-rules-place.is ∙ get_or_default rules place c.index-rules-place.result (record { from = []; to = []; script = [] })
    within in
    let key : c.suffix_key-key.result.now ≡ suffix_key dotted (rule_at rules place).to =
    c.suffix_key-key.ensures ∙ ap (suffix_key dotted) (c.to_suffix.ensures ∙ ap (λ (r : SuffixRule). r.to) rule) in
    let behind : (k : List ℕ) → unwrap_or (get bytes_eq first k) n ≡ suc place + rule_place dotted k (drop (suc place) rules) =
    λ k. c.loop-place.invariant.firsts k ∙ ap (λ p. p + rule_place dotted k (drop p rules)) here in
    let next : value ≡ next_place dotted rules place =
    c.in_ok-next-2.ensures.next ∙ (ap (λ k. unwrap_or (get bytes_eq first k) n) key
    ∙ behind (suffix_key dotted (rule_at rules place).to)) in
    record {
      within = omega (arith, c.loop-place.invariant.within);
      size = length-set items place value ∙ c.loop-place.invariant.size;
      firsts = λ k.
          ap (λ o. unwrap_or o n) (c.in_ok-next-2.ensures.first k)
          ∙ (ap (λ own. unwrap_or (if bytes_eq own k then Some place else get bytes_eq first k) n) key
          ∙ place_put dotted rules place n k (get bytes_eq first k) within (behind k));
      nexts = λ k low high.
          elim (cases_eq k place) [
            | inl same ↦ ap (λ p. get_or (set items place value) p 0) same
                ∙ (get_or-set_same items place value 0 room ∙ (next ∙ ap (next_place dotted rules) (sym same)))
            | inr other ↦
                let above : c.loop-place.place ≤ k = omega (arith, here, low, other) in
                get_or-set_other items place k value 0 other ∙ c.loop-place.invariant.nexts k above high
          ];
    }
