use Rattle.std.proofs.Common.{◌≡◌, List, sym, ap, ◌∙◌, subst}
use Rattle.vob_replica.specs.Branches.{branch_made_by, version_by, version_place, with_version_by, AreByNumber}
use Rattle.vob_replica.specs.Trees.{Tree, VersionMade}
use Rattle.vob_replica.proofs.BranchLaws.{version-put}
use Rattle.vob_replica.proofs.VersionLaws.{AreByNumber-put}
use Rattle.vob_replica.proofs.branch.Branch.put_version.Goals as goal

-- the versions stay by number
pub invariant_of-self-2 : goal.invariant_of-self-2
invariant_of-self-2 c =
    let versions = c.self.inside.versions.items in
    let number = c.args.number in
    let at : c.version_place-place.result ≡ version_place number versions =
    c.version_place-place.ensures.place ∙ ap (version_place number) c.deref.ensures.value in
    subst AreByNumber
    (sym (version-put versions c.insert.new.self.items c.version_place-place.result c.new.result number c.args.made
    c.in_ok-insert.ensures.items c.new.ensures at))
    (AreByNumber-put (version_by number c.args.made) versions c.self.invariant)

-- the version stands in its place
pub returns-clause-ok : goal.returns-clause-ok
returns-clause-ok c =
    let inside = c.self.inside in
    let number = c.args.number in
    let at : c.version_place-place.result ≡ version_place number inside.versions.items =
    c.version_place-place.ensures.place ∙ ap (version_place number) c.deref.ensures.value in
    ap (λ (versions : List VersionMade). branch_made_by inside.made inside.element inside.masters versions)
    (version-put inside.versions.items c.insert.new.self.items c.version_place-place.result c.new.result number c.args.made
    c.in_ok-insert.ensures.items c.new.ensures at)
    ∙ ap (λ (tree : Tree). with_version_by tree number c.args.made) c.self.view_is
