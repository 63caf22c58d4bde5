use Rattle.std.proofs.Common.{◌≡◌, ◌++◌, length, map}
use Rattle.std.specs.List.{list_all}
use Rattle.std.specs.Option.{option_copied}
use Rattle.base_model.specs.ConfigSpecs.Patterns.{is_segment, segment_of}
use Rattle.spec_text.specs.Parts.{parts_left}
use Rattle.spec_text.proofs.patterns.read_segments.Given as goal

-- the parts so far are segments, and these are kept
abbrev pub invariant-parts : goal.invariant-parts
invariant-parts l =
    let all = parts_left 47 (option_copied l.initial.left) in
    let left = parts_left 47 (option_copied l.left) in
    (list_all is_segment all ≡ list_all is_segment left) × (map segment_of all ≡ l.segments.items ++ map segment_of left)

abbrev pub decreases-parts : goal.decreases-parts
decreases-parts l = length (parts_left 47 (option_copied l.left))
