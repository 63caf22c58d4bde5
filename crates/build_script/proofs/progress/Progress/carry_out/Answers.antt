use Rattle.std.proofs.Common.{◌≡◌, sym, ◌∙◌, true, false, refl}
use Rattle.std.specs.List.{list_any}
use Rattle.std.specs.Str.{bytes_eq}
use Rattle.script_grammar.proofs.CarriedLemmas.{carried_pure}
use Rattle.build_script.proofs.RunLemmas.{any-turned}
use Rattle.build_script.proofs.progress.Progress.carry_out.Goals as goal

pub returns-then-not-contains : goal.returns-then-not-contains
returns-then-not-contains g c =
    let stray : list_any (λ target. bytes_eq target c.in-Makes.output) c.args.targets.now.keys ≡ false =
    sym (any-turned c.in-Makes.output c.args.targets.now.keys) ∙ sym c.contains.ensures ∙ c.if-not-contains.true in
    rw c.in-Makes.is (rw stray (rw c.in_ok-copy-in-Makes.ensures.copy (carried_pure g.met.F.Files.reflexive
    refl)))

pub returns-else-not-contains : goal.returns-else-not-contains
returns-else-not-contains g c =
    let known : list_any (λ target. bytes_eq target c.in-Makes.output) c.args.targets.now.keys ≡ true =
    sym (any-turned c.in-Makes.output c.args.targets.now.keys) ∙ sym c.contains.ensures ∙ c.if-not-contains.false in
    rw c.in-Makes.is (rw known c.write.ensures)
