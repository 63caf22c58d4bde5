-- How a disk was handed in.
use Rattle.std.specs.Prelude.{Bool}
use Rattle.cc_names.specs.declared.steps.Counts.{Counts}

-- a disk as it was handed in: its counts, and whether it models its device
pub record Handed : Type 0 where
  pub counts : Counts
  pub tells : Bool

-- a disk that was handed in so
abbrev pub handed_disk : Counts → Bool → Handed
handed_disk counts tells = record { counts = counts; tells = tells }
