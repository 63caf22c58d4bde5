-- The struct has no bytes, and owns nothing: the list is the step that opens a base.
use Rattle.std.proofs.Common.{[], ◌∷◌, refl}
use Rattle.std.proofs.raw_atomic.Walks.{proved}
use base.Logic.{emp, via, fst∗}
use mir.Syntax.{named}
use mir.Val.{vptr, vstruct, vnil}
use types.Kit.{‵, raw, ◌$◌, ◌∵◌, !, qed, move, suffices, done}
use types.Run.{no_more, returns, enter}
use types.Part.{agg}
use types.ByLocal.{alloc_all, pass_all, free_all, look_at, sets}
use denote.Exit.{yes}
use denote.RattleType.{owns}
use denote.Ref.{shr_vals, shr_Tells}
use denote.Shadow.{pure_i}
use denote.Signature.{plain, types_at}
use denote.Triple.Entry.{alive}
use denote.Triple.Walked.{says, stay_none_ref, Stays, walk_of, ends_at, Goes-none_ref}
use Rattle.cc_names.specs.contracts.steps.Counts as counts
use Rattle.cc_names.specs.declared.steps.StoryStep.TheVariants as story_steps
use Rattle.base_rows.specs.Order.{oldest_first}
use Rattle.base_rows.specs.contracts.bases.Rows as rows
use Rattle.story_log.specs.contracts.steps.Steps as steps
use Rattle.story_log.specs.contracts.steps.Steps.opening as f
use Rattle.story_log.proofs.steps.Steps.opening.Statement.{statement}
use Rattle.story_log.proofs.steps.Steps.opening.Code as code

abbrev stayed : Stays f.ended.signature.params f.ended.kept
stayed = (stay_none_ref (0 ∷ []) tt (plain (λ _. rows.the_row)) yes, (stay_none_ref (1 ∷ []) tt (plain (λ _. counts.the_row)) yes, tt))

pub opening_spec : {M : Type 1} → statement M
opening_spec 𝓤 𝓛 𝓜 𝓡 wired =
    let c = f.clauses 𝓛 𝓜.mem 𝓡.returns in let W = walk_of 𝓛 f.ended stayed c in
    proved 𝓛 f.ended stayed c 𝓜 𝓡
    (Goes-none_ref 𝓛 2 (0 ∷ []) tt (plain (λ _. rows.the_row)) yes, (Goes-none_ref 𝓛 2 (1 ∷ []) tt (plain (λ _. counts.the_row)) yes, tt))
    f.Key.name code.function (code.unfolded 𝓤 𝓛.H 𝓜 𝓡 wired) (λ κs. (shr_vals, (shr_vals, tt)))
    (λ κs. (shr_Tells (named 0) κs.0 rows.the_row, (shr_Tells (named 1) κs.1.0 counts.the_row, tt)))
    (λ κs qs bounds a n are.
    let earlier = vptr a.0.ref_ptr.0 a.0.ref_ptr.1 in
    let one = vptr a.1.0.ref_ptr.0 a.1.0.ref_ptr.1 in
    let y : W.Ghost = ((κs, qs, bounds, a, (earlier ∷ [], (one ∷ [], tt))), n) in
    let items = story_steps.Opened (oldest_first a.0.now.base) a.1.0.now n ∷ [] in
    via 𝓤 _ (fst∗ 𝓤 _ (emp 𝓤))
    (qed 𝓛 (raw (alive 𝓛 f.signature κs qs) ∷ ‵ (owns (types_at f.signature.params κs) a (earlier ∷ [], (one ∷ [], tt))) ∷ []) ∵
    enter ! _ _ _ _ _ $ alloc_all ! (λ l. pass_all ! refl ((tt, tt), ((tt, tt), tt)) $
    sets ! (agg ! (no_more !)) refl (tt, tt) $
    returns ! (look_at ! 0 refl) $ free_all ! refl $
    suffices ! _ (ends_at 𝓛 f.ended stayed c y (vstruct vnil) (record { items = items }) (tt, (tt, tt)) (tt, (tt, tt))) $
    says ! refl $ pure_i ! (steps.the_row.own_val (record { items = items }) (vstruct vnil ∷ [])) ((λ vss. (tt, tt)), tt) ((tt, (refl, tt)), tt) $
    move ! (1 ∷ 2 ∷ 0 ∷ []) $ done !)))
