use Rattle.std.proofs.Common.{◌≡◌, ap, sym, ◌∙◌, ℕ, List, filter, flat_map, not, reverse}
use Rattle.cc_names.specs.declared.commands.Macro.{Macro}
use Rattle.make_grammar.specs.Contents.{Contents, RuleLine, groups_of, joined_rules, is_suffix_rule, suffix_rules_of}
use Rattle.make_grammar.specs.Rules.{MakeRule, SuffixRule}
use Rattle.make_grammar.specs.Serving.{prerequisites_of}
use Rattle.make_grammar.specs.Statements.{Definition, macros_of}
use Rattle.make_grammar.specs.WordPaths.{each_once}
use Rattle.make_text.proofs.GatherLemmas.{preserved_prerequisites}
use Rattle.make_text.proofs.endings.contents_of.Goals as goal

pub of_parts-requires : goal.of_parts-requires
of_parts-requires c =
    let rules = joined_rules c.as_slice.result.now in
    c.in_ok-ruled.ensures.prerequisites
    ∙ ap each_once
    (sym (preserved_prerequisites c.into_parts-macros.result.suffixes (groups_of c.as_slice.result.now) rules)
    ∙ ap (flat_map prerequisites_of) (sym c.in_ok-ruled.ensures.rules))

pub returns : goal.returns
returns c =
    let reading = c.args.reading in
    let given = c.into_parts-macros.ensures in
    let lines : List RuleLine = reverse reading.rules in
    let parted = c.in_ok-ruled.ruled.parted in
    let at : c.as_slice.result.now ≡ lines = c.as_slice.ensures.value ∙ given.lines in
    let rules : parted.rules.items ≡ filter (λ rule. not (is_suffix_rule reading.suffixes (groups_of lines) rule))
    (joined_rules lines) =
    c.in_ok-ruled.ensures.rules
    ∙ (ap (λ (s : List (List ℕ)). filter (λ rule. not (is_suffix_rule s (groups_of c.as_slice.result.now) rule))
    (joined_rules c.as_slice.result.now)) given.suffixes
    ∙ ap (λ (l : List RuleLine). filter (λ rule. not (is_suffix_rule reading.suffixes (groups_of l) rule)) (joined_rules l)) at)
    in
    let parts : parted.suffix_rules.items ≡ filter (is_suffix_rule reading.suffixes (groups_of lines)) (joined_rules lines) =
    c.in_ok-ruled.ensures.suffix_rules
    ∙ (ap (λ (s : List (List ℕ)). filter (is_suffix_rule s (groups_of c.as_slice.result.now))
    (joined_rules c.as_slice.result.now)) given.suffixes
    ∙ ap (λ (l : List RuleLine). filter (is_suffix_rule reading.suffixes (groups_of l)) (joined_rules l)) at) in
    let made : c.in_ok-suffix_rules.suffix_rules.items ≡ suffix_rules_of reading.suffixes
    (filter (is_suffix_rule reading.suffixes (groups_of lines)) (joined_rules lines)) =
    c.in_ok-suffix_rules.ensures
    ∙ (ap (λ (s : List (List ℕ)). suffix_rules_of s c.as_slice-2.result.now) given.suffixes
    ∙ ap (suffix_rules_of reading.suffixes) (c.as_slice-2.ensures.value ∙ parts)) in
    let phony = c.into_parts-macros.result.phony.keys in
    let macros : List Macro = macros_of c.into_parts-macros.result.macros in
    let as_made = λ (r : List MakeRule) (s : List SuffixRule) (p : List (List ℕ)) (m : List Macro). let made : Contents =
    record { rules = r; suffix_rules = s; phony = p; macros = m } in made in
    let plain : List MakeRule = filter (λ rule. not (is_suffix_rule reading.suffixes (groups_of lines) rule)) (joined_rules lines)
    in
    let tried : List SuffixRule = suffix_rules_of reading.suffixes (filter (is_suffix_rule reading.suffixes (groups_of lines))
    (joined_rules lines)) in
    c.of_parts.ensures
    ∙ (ap (λ (r : List MakeRule). as_made r c.in_ok-suffix_rules.suffix_rules.items phony macros) rules
    ∙ (ap (λ (s : List SuffixRule). as_made plain s phony macros) made
    ∙ (ap (λ (p : List (List ℕ)). as_made plain tried p macros) given.phony
    ∙ ap (λ (m : List Definition). as_made plain tried reading.phony (macros_of m)) given.macros)))
