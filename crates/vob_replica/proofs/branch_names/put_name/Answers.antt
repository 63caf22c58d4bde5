use Rattle.std.proofs.Common.{◌≡◌, Option, Some, sym, ◌∙◌, subst, rules}
use Rattle.vob_replica.specs.BranchNames.{Names, IsPut}
use Rattle.vob_replica.proofs.NameLaws.{put-in}
use Rattle.vob_replica.proofs.branch_names.put_name.Goals as goal

-- the name is new
pub returns-clause-ok : goal.returns-clause-ok
returns-clause-ok c =
    let tree = c.args.tree.now in
    let is : c.args.names.now ≡ Some c.in-Some.kept = search rules in
    let named : c.in_ok-name.name ≡ record { element = tree.element; name = tree.name } = search rules in
    subst (λ (o : Option Names). IsPut tree o (Some c.insert.new.self)) (sym is)
    (put-in c.in-Some.kept c.insert.new.self tree c.in_ok-made.made c.in_ok-name.name named c.in_ok-made.ensures
    (sym c.contains_key.ensures ∙ c.if-contains_key.false) c.in_ok-insert.ensures.updates.0)
