use Rattle.std.proofs.Common.{◌≡◌, ◌∙◌, true, false, [], ap, sym, rules}
use Rattle.std.specs.Bool.{⊤}
use Rattle.session_text.specs.Sessions.{Above, is_empty}
use Rattle.session_text.proofs.Steps.{command-stands, command-wrong}
use Rattle.session_text.proofs.checks.Above.take_command.Goals as goal

pub returns-in-Ok : goal.returns-in-Ok
returns-in-Ok c =
    let phase : c.args.self.now.in_phase ≡ true = search rules in
    let some : is_empty c.args.self.now.lanes ≡ false =
    ap (λ (v : Above). is_empty v.lanes) (sym c.self.view_is) ∙ ap is_empty (sym c.as_slice.ensures.value)
    ∙ sym c.is_empty.ensures ∙ c.if-is_empty.false in
    command-stands c.args.self.now _ c.args.word.now c.args.words [] c.in-Ok.command phase some (search rules) (search rules)

pub returns-in-Err : goal.returns-in-Err
returns-in-Err c =
    let phase : c.args.self.now.in_phase ≡ true = search rules in
    let some : is_empty c.args.self.now.lanes ≡ false =
    ap (λ (v : Above). is_empty v.lanes) (sym c.self.view_is) ∙ ap is_empty (sym c.as_slice.ensures.value)
    ∙ sym c.is_empty.ensures ∙ c.if-is_empty.false in
    command-wrong ⊤ c.args.self.now c.args.self.now c.args.word.now c.args.words [] c.in-Err.fault phase some (search rules)
