use Rattle.std.proofs.Common.{◌≡◌, ◌≤◌, ◌-◌, ◌+◌, vec_len, None}
use Rattle.std.specs.Io.KnownBytes.{Consumes}
use Rattle.cc_names.specs.Counts.{raised_count}
use Rattle.cc_outside.proofs.sources.read_whole.Given as goal

abbrev pub invariant-loop-bytes : goal.invariant-loop-bytes
invariant-loop-bytes g l = record {
  room : vec_len l.piece ≡ 65536;
  bytes : Consumes (g.S.Source.ghost_state l.initial.source).left (g.S.Source.ghost_state l.source).left l.bytes.items;
  short : vec_len l.bytes ≤ l.limit + 1;
  counted : (g.S.Source.ghost_state l.source).given ≡ raised_count (g.S.Source.ghost_state l.initial.source).given
      (vec_len l.bytes);
  goes_on : (g.S.Source.ghost_state l.initial.source).ended ≡ None → (g.S.Source.ghost_state l.source).ended ≡ None;
  faultless : (g.S.Source.ghost_state l.source).faults ≡ (g.S.Source.ghost_state l.initial.source).faults;
}

abbrev pub decreases-loop-bytes : goal.decreases-loop-bytes
decreases-loop-bytes g l = l.limit + 1 - vec_len l.bytes
