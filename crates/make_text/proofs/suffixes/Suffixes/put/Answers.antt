use Rattle.std.proofs.Common.{◌≡◌, ap, ◌∙◌, sym, subst, true, List, ℕ}
use Rattle.std.specs.List.{list_all}
use Rattle.make_grammar.specs.Statements.{is_suffix}
use Rattle.make_grammar.specs.WordPaths.{with_path_once}
use Rattle.make_text.proofs.PairLemmas.{all_with}
use Rattle.make_text.proofs.suffixes.Suffixes.put.Goals as goal

pub invariant_of-self-2 : goal.invariant_of-self-2
invariant_of-self-2 c =
    let old = c.self.inside.texts.keys in
    let put = c.in_ok-insert.ensures.keys ∙ ap (with_path_once old) (c.in_ok-from_bytes.ensures ∙ c.as_bytes.ensures.bytes) in
    subst (λ (keys : List (List ℕ)). list_all is_suffix keys ≡ true) (sym put)
    (all_with old c.args.suffix.now c.self.invariant c.requires)
