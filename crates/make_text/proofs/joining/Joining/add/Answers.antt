use Rattle.std.proofs.Common.{◌≡◌, ◌+◌, ap, sym, ◌∙◌, length, List, ℕ, arith}
use Rattle.std.specs.HashMap.{get}
use Rattle.std.specs.Str.{bytes_eq}
use Rattle.make_text.specs.Joining.{joined_targets}
use Rattle.make_grammar.specs.Numbers.{number_from}
use Rattle.make_text.specs.Numbered.{with_numbers}
use Rattle.make_text.specs.declared.joining.JoinedRule.{JoinedRule}
use Rattle.make_text.proofs.NumberLemmas.{numbered_new}
use Rattle.make_text.proofs.joining.Joining.add.Goals as goal

pub returns-clause-known : goal.returns-clause-known
returns-clause-known c =
    λ path.
    let rules = c.args.self.now.rules.items in
    let k = c.len-number.result in
    let targets = c.args.targets in
    let had = get bytes_eq c.args.self.now.numbers path in
    let long : k ≡ length rules = c.len-number.ensures ∙ c.args.self.now.rules.ok.0 in
    let counted : k ≡ 0 + length rules = omega (arith, long) in
    let rule : JoinedRule = record { targets = targets; lines = c.push.new.self } in
    c.in_ok-number_paths.ensures path
    ∙ (ap (λ (ts : List (List ℕ)). with_numbers k ts path had) c.as_slice.ensures
    ∙ (ap (with_numbers k targets path) (c.requires path)
    ∙ (numbered_new joined_targets k 0 path rule rules counted ∙ ap (number_from joined_targets 0 path)
    (sym c.in_ok-push-2.ensures.items))))
