use Rattle.std.proofs.Common.{refl}
use Rattle.session_text.proofs.BuildWords.{defined}
use Rattle.session_text.proofs.builds.Macros.define.Goals as goal

pub returns : goal.returns
returns c =
    defined (λ key. key.items) _ (λ x y. refl) c.self.inside.entries.entries c.insert.new.self.entries c.in_ok-name.name
    c.in_ok-text.text c.args.self.now c.args.name.now c.args.text.now
    c.in_ok-insert.ensures.entries c.self.view_is c.in_ok-name.ensures.items c.in_ok-text.ensures
