use Rattle.std.proofs.Common.{◌≡◌, drop}
use Rattle.cc_names.specs.Branches.{branch_from}
use Rattle.spec_text.proofs.branches.branch_behind.Given as goal

-- the names that are left lead on from the branch so far
abbrev pub invariant-loop-name : goal.invariant-loop-name
invariant-loop-name g l =
    let changes = (g.S.Selectable.selectables l.sources).tree in
    branch_from changes l.element l.element l.names ≡ branch_from changes l.element l.branch (drop l.name-index l.names)
