use Rattle.std.proofs.Common.{◌≡◌, List, ap, sym, ◌∙◌, subst, rules}
use Rattle.std.specs.Prelude.{IfSome}
use Rattle.std.specs.Map.{values_of}
use Rattle.vob_replica.specs.BranchNames.{Names, AreNamesOf}
use Rattle.vob_replica.specs.Branches.{AreKeyed}
use Rattle.vob_replica.specs.Trees.{Tree, with_tree}
use Rattle.vob_replica.proofs.KeptLaws.{put-in, keyed-put}
use Rattle.vob_replica.proofs.branches.put_branch.Goals as goal

pub returns-in-Ok-clause-ok : goal.returns-in-Ok-clause-ok
returns-in-Ok-clause-ok c =
    let same : c.in_ok-identity.identity ≡ c.args.tree.identity = search rules in
    ap values_of c.in-Ok.ensures.entries
    ∙ put-in c.in_ok-identity.identity c.args.tree c.args.branches.now.entries same c.requires.kept.keyed

pub returns-in-Ok-clause-keyed : goal.returns-in-Ok-clause-keyed
returns-in-Ok-clause-keyed c =
    let same : c.in_ok-identity.identity ≡ c.args.tree.identity = search rules in
    subst AreKeyed (sym c.in-Ok.ensures.entries)
    (keyed-put c.in_ok-identity.identity c.args.tree c.args.branches.now.entries same c.requires.kept.keyed)

pub returns-in-Ok-clause-names : goal.returns-in-Ok-clause-names
returns-in-Ok-clause-names c =
    let same : c.in_ok-identity.identity ≡ c.args.tree.identity = search rules in
    let more : values_of c.insert.new.self.entries ≡ with_tree c.args.tree (values_of c.args.branches.now.entries) =
    ap values_of c.in-Ok.ensures.entries
    ∙ put-in c.in_ok-identity.identity c.args.tree c.args.branches.now.entries same c.requires.kept.keyed in
    subst (λ (l : List Tree). IfSome c.put_name_of.new.names (λ (n : Names). AreNamesOf n l)) (sym more)
    c.in_ok-put_name_of.ensures.ok
