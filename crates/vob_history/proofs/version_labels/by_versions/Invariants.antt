use Rattle.std.proofs.Common.{◌≡◌, ℕ, [], drop, map}
use Rattle.label_book.specs.Standings.{plain}
use Rattle.vob_history.specs.LabelSets.{labels_at, with_standing}
use Rattle.vob_history.proofs.version_labels.by_versions.Given as goal

-- on each version the labels that are left come to those that were found
abbrev pub invariant-loop-one : goal.invariant-loop-one
invariant-loop-one l =
    (version : ℕ) → with_standing version (map plain (drop l.one-index l.standing)) (labels_at l.labels version)
    ≡ with_standing version (map plain l.standing) []
