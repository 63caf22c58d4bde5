use Rattle.std.proofs.Common.{◌≡◌, ◌++◌, drop, map}
use Rattle.std.specs.List.{concat}
use Rattle.vob_history.specs.Descriptions.{label_line}
use Rattle.vob_history.proofs.descriptions.push_labels.Given as goal

-- what is written, and then the lines of the labels that are left
abbrev pub invariant-loop-label : goal.invariant-loop-label
invariant-loop-label l =
    l.text.items ++ concat (map (λ label. label_line label.now) (drop l.label-index l.labels)) ≡ l.initial.text.items
    ++ concat (map (λ label. label_line label.now) l.labels)
