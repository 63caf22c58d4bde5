use Rattle.std.proofs.Common.{◌≡◌, ap, ◌∙◌, sym, List, ℕ, fold}
use Rattle.make_grammar.specs.Macros.{is_among}
use Rattle.make_grammar.specs.WordPaths.{with_path_once}
use Rattle.make_grammar.specs.Statements.{is_scripted}
use Rattle.make_text.proofs.ReaderLemmas.{aside, on_ok}
use Rattle.make_text.proofs.readers.set_aside.Goals as goal

pub returns-in-Some : goal.returns-in-Some
returns-in-Some c =
    let scripted = c.args.scripted.now.keys in
    let rules = c.args.reading.now.rules in
    on_ok c.put_paths.result (c.put_paths.new.set.keys ≡ fold with_path_once scripted c.targets.result.now)
    ((target : List ℕ) → is_among c.put_paths.new.set.keys target ≡ is_scripted rules target)
    c.put_paths.ensures
    (λ put target.
    ap (λ (keys : List (List ℕ)). is_among keys target) (put ∙ ap (fold with_path_once scripted) c.targets.ensures)
    ∙ aside scripted rules c.in-Some.rule.now target c.requires (sym c.in-Some.ensures)
    (sym c.has_script.ensures ∙ c.if-has_script.true))
