use Rattle.std.proofs.Common.{rules, arith, ◌≡◌, ◌+◌, ◌∷◌, ◌∙◌, List, ap, drop, subst, sym}
use Rattle.std.proofs.lemmas.List.{drop_more}
use Rattle.std.proofs.lemmas.Result.{err_from_is_err_and}
use Rattle.vob_replica.specs.Tables.{raised_by, Ascends, IsWithin}
use Rattle.vob_replica.specs.declared.events.Identity.{Identity}
use Rattle.vob_replica.proofs.HoldLaws.{raised-within}
use Rattle.vob_replica.proofs.TableLaws.{Ascends-with_operation}
use Rattle.vob_replica.proofs.tables.Table.raise_all.Goals as goal

-- the sites stay in byte order
pub loop-other-preserved : goal.loop-other-preserved
loop-other-preserved c =
    let rest = drop (c.loop-other.other-index + 1) c.args.others.now in
    let next : drop c.loop-other.other-index c.args.others.now ≡ c.other-item.result ∷ rest =
    drop_more c.args.others.now c.loop-other.other-index _ (omega (arith, c.loop-other-test.true))
    ∙ ap (λ (other : Identity). other ∷ rest) (sym c.other-item.is) in
    record {
      same = ap (λ (table : List Identity). raised_by table rest) c.in_ok-raise.ensures.ok
          ∙ sym (ap (raised_by c.loop-other.self) next) ∙ c.loop-other.invariant.same;
      risen = search rules;
      ascends = subst Ascends (sym c.in_ok-raise.ensures.ok)
          (Ascends-with_operation c.loop-other.self c.other-item.result c.loop-other.invariant.ascends);
    }

-- what was taken in is of the others
pub returns-in_err-raise-clause-err : goal.returns-in_err-raise-clause-err
returns-in_err-raise-clause-err c =
    let p = err_from_is_err_and c.from_residual.result c.from_residual.ensures.1 in
    let others = drop c.loop-other.other-index c.args.others.now in
    let all = raised_by c.args.self.now c.args.others.now in
    let within = raised-within c.loop-other.self others c.loop-other.invariant.ascends in
    rw p.1 (subst (λ (table : List Identity). IsWithin table all) (sym c.in_err-raise.ensures.err)
    (subst (IsWithin c.loop-other.self) c.loop-other.invariant.same within))
