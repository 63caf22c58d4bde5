use Rattle.std.proofs.Common.{◌≡◌, ◌∙◌, ◌∷◌, [], List, ℕ}
use Rattle.make_grammar.specs.Contents.{groups_of, made_with}
use Rattle.make_text.proofs.JoinLemmas.{if_ok, made_found, made_none}
use Rattle.make_text.proofs.joining.made_with.Goals as goal

pub returns-in-Some : goal.returns-in-Some
returns-in-Some c =
    let lines = c.args.lines.now in
    let path = c.args.target.now in
    let line = c.in-Some.line.now in
    if_ok c.copy_targets.result (λ (m : List (List ℕ)). m ≡ line.targets) (λ m. m ≡ made_with (groups_of lines) path)
    c.copy_targets.ensures
    (λ m is. is ∙ made_found lines path line c.in-Some.ensures)

pub returns-in-None : goal.returns-in-None
returns-in-None c =
    let lines = c.args.lines.now in
    let path = c.args.target.now in
    if_ok c.target_alone.result (λ (m : List (List ℕ)). m ≡ path ∷ []) (λ m. m ≡ made_with (groups_of lines) path)
    c.target_alone.ensures
    (λ m is. is ∙ made_none lines path c.in-None.ensures)
