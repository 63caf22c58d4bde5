use Rattle.std.proofs.Common.{refl, sym, ap, ◌∙◌, subst}
use Rattle.std.specs.BTreeMap.{BTreeMap}
use Rattle.std.specs.Map.{values_of}
use Rattle.vob_replica.specs.declared.events.Identity.{Identity}
use Rattle.vob_replica.specs.Branches.{with_master, AreKeyed}
use Rattle.vob_replica.specs.Trees.{Tree}
use Rattle.vob_replica.proofs.KeptLaws.{missing-in, set-ok, set-err, set-keyed}
use Rattle.vob_replica.proofs.branches.push_master.Goals as goal

-- the branch is there
pub returns-in-Some-clause-ok : goal.returns-in-Some-clause-ok
returns-in-Some-clause-ok c =
    set-ok c.push_master.result c.args.branch.now (λ (tree : Tree). with_master tree c.args.operation) c.args.branches.now.entries _ c.in-Some.tree.now
    c.push_master.new.self c.requires (sym c.in-Some.ensures.value) (c.get_mut.follows.holds c.push_master.new.self).0 c.push_master.ensures.ok

pub returns-in-Some-clause-err : goal.returns-in-Some-clause-err
returns-in-Some-clause-err c =
    set-err c.push_master.result c.args.branch.now c.args.branches.now.entries _ c.in-Some.tree.now c.push_master.new.self
    (sym c.in-Some.ensures.value) (c.get_mut.follows.holds c.push_master.new.self).0 c.push_master.ensures.err

pub returns-in-Some-clause-keyed : goal.returns-in-Some-clause-keyed
returns-in-Some-clause-keyed c =
    set-keyed c.push_master.result c.args.branch.now (λ (tree : Tree). with_master tree c.args.operation) c.args.branches.now.entries _ c.in-Some.tree.now
    c.push_master.new.self (λ tree. refl) c.requires (sym c.in-Some.ensures.value) (c.get_mut.follows.holds c.push_master.new.self).0
    c.push_master.ensures.ok c.push_master.ensures.err

-- or it is not
pub returns-in-None-clause-ok : goal.returns-in-None-clause-ok
returns-in-None-clause-ok c =
    ap (λ (m : BTreeMap Identity Tree). values_of m.entries) c.get_mut.follows.holds-at-none
    ∙ missing-in c.args.branch.now (λ (tree : Tree). with_master tree c.args.operation) c.args.branches.now.entries c.requires.keyed
    (sym c.in-None.ensures.value)

pub returns-in-None-clause-keyed : goal.returns-in-None-clause-keyed
returns-in-None-clause-keyed c =
    subst (λ (m : BTreeMap Identity Tree). AreKeyed m.entries) (sym c.get_mut.follows.holds-at-none) c.requires.keyed
