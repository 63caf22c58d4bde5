use Rattle.std.proofs.Common.{◌≡◌, eqb, reverse, sym, ap, ◌∙◌, rules}
use Rattle.std.specs.Prelude.{find, option_map, option_copied}
use Rattle.version_tree.specs.TreeFields.{change_alone, row_of_made}
use Rattle.version_tree.proofs.Found.{change_found}
use Rattle.version_tree.proofs.Tree.change_at.Goals as goal

pub returns : goal.returns
returns c =
    let found : option_copied c.item_of.result ≡ find (λ m. eqb (row_of_made m) c.args.row) (reverse c.self.inside.made.items) =
    c.item_of.ensures ∙ ap (λ items. find (λ m. eqb (row_of_made m) c.args.row) (reverse items)) c.deref.ensures.value in
    let mapped : option_copied c.map.result ≡ option_map change_alone (option_copied c.item_of.result) = search rules in
    rw (← c.self.view_is) (mapped ∙ ap (option_map change_alone) found
    ∙ sym (change_found (reverse c.self.inside.made.items) c.args.row))
