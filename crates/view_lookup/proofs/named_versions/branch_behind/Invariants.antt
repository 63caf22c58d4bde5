use Rattle.std.proofs.Common.{◌≡◌, drop}
use Rattle.cc_names.specs.Branches.{branch_behind, branch_from}
use Rattle.base_model.specs.Changes.{tree}
use Rattle.view_lookup.proofs.named_versions.branch_behind.Given as goal

-- the names that are left lead on from the branch that was found
abbrev pub invariant-loop-name : goal.invariant-loop-name
invariant-loop-name l =
    branch_from (tree l.rows) l.element l.branch (drop l.name-index l.names) ≡ branch_behind (tree l.rows) l.element l.names
