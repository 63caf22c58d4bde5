use Rattle.std.proofs.Common.{refl, ◌∙◌, arith, length-take, take, ℕ}
use Rattle.cc_outside.proofs.Flows.{Consumes-then, Consumes-none, Consumes-length, Consumes-end}
use Rattle.cc_outside.proofs.Ends.{goes_on, rests_by_one, rests_on}
use Rattle.cc_outside.proofs.sources.read_whole.Goals as goal

pub loop-bytes-init : goal.loop-bytes-init
loop-bytes-init g c = record {
  room = c.in_ok-piece.ensures.len;
  bytes = rw c.new-bytes.ensures.items (Consumes-none (g.S.Source.ghost_state c.args.source.now).left);
  short = omega (arith, c.new-bytes.ensures.len);
  counted = omega (arith, c.new-bytes.ensures.len);
  goes_on = λ e. e;
  faultless = refl;
}

pub returns-then-count-eq0-clause-bytes : goal.returns-then-count-eq0-clause-bytes
returns-then-count-eq0-clause-bytes g c =
    rw c.of.ensures (Consumes-end _ (g.S.Source.ghost_state c.loop-bytes.source).left _ c.loop-bytes.bytes.items c.read.new.into
    c.in-Ok.count
    c.loop-bytes.invariant.bytes c.in-Ok.ensures.bytes.0 c.if-count-eq0.true)

pub loop-bytes-preserved : goal.loop-bytes-preserved
loop-bytes-preserved g c = record {
  room = c.loop-bytes.invariant.room;
  bytes =
      rw c.in_ok-extend_from_slice.ensures.items
      (Consumes-then _ (g.S.Source.ghost_state c.loop-bytes.source).left _ c.loop-bytes.bytes.items
      (take c.in-Ok.count c.read.new.into)
      c.loop-bytes.invariant.bytes c.in-Ok.ensures.bytes.0);
  short =
      omega (
        arith,
        c.in_ok-extend_from_slice.ensures.len,
        c.in-Ok.ensures.within,
        c.read.auto.into,
        c.min-room.ensures,
        c.len-in-loop-bytes.ensures,
        c.loop-bytes.invariant.short,
        length-take {A = ℕ},
      );
  counted =
      omega (arith, c.in_ok-extend_from_slice.ensures.len, c.in-Ok.ensures.counted, c.in-Ok.ensures.within, length-take {A = ℕ});
  goes_on = goes_on _ (g.S.Source.ghost_state c.loop-bytes.source).ended _ _ c.in-Ok.count c.if-count-eq0.false
      c.loop-bytes.invariant.goes_on c.in-Ok.ensures.ended;
  faultless = c.in-Ok.ensures.faultless ∙ c.loop-bytes.invariant.faultless;
}

pub returns-then-count-eq0-clause-rests : goal.returns-then-count-eq0-clause-rests
returns-then-count-eq0-clause-rests g c =
    rests_by_one _ (g.S.Source.ghost_state c.loop-bytes.source).ended _ _ _ c.loop-bytes.invariant.goes_on c.read.ensures.ended

pub returns-in_err-extend_from_slice-clause-rests : goal.returns-in_err-extend_from_slice-clause-rests
returns-in_err-extend_from_slice-clause-rests g c =
    rests_by_one _ (g.S.Source.ghost_state c.loop-bytes.source).ended _ _ _ c.loop-bytes.invariant.goes_on c.read.ensures.ended

pub returns-in_default-clause-rests : goal.returns-in_default-clause-rests
returns-in_default-clause-rests g c =
    rests_by_one _ (g.S.Source.ghost_state c.loop-bytes.source).ended _ _ _ c.loop-bytes.invariant.goes_on c.read.ensures.ended

pub returns-clause-rests : goal.returns-clause-rests
returns-clause-rests g c = rests_on _ _ _ c.loop-bytes.invariant.goes_on

pub returns-clause-modeled : goal.returns-clause-modeled
returns-clause-modeled g c =
    Consumes-length _ (g.S.Source.ghost_state c.loop-bytes.source).left c.loop-bytes.bytes.items c.args.limit
    c.loop-bytes.invariant.bytes (omega (arith, c.loop-bytes.bytes.ok))

pub returns-clause-too_long : goal.returns-clause-too_long
returns-clause-too_long g c = λ h. omega (arith, c.loop-bytes.invariant.counted)

pub returns-in_err-extend_from_slice-clause-taken : goal.returns-in_err-extend_from_slice-clause-taken
returns-in_err-extend_from_slice-clause-taken g c =
    omega (
      arith,
      c.in-Ok.ensures.counted,
      c.in-Ok.ensures.within,
      c.read.auto.into,
      c.min-room.ensures,
      c.len-in-loop-bytes.ensures,
      c.loop-bytes.invariant.short,
      c.loop-bytes.invariant.counted,
      length-take {A = ℕ},
    )
