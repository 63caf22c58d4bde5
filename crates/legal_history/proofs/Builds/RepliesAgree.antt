-- A build whose units all have outcomes that agree has those of the build from nothing, and is replied as it.
use Rattle.std.proofs.Common.{◌≡◌, refl, ap, sym, subst, ◌∙◌, ℕ, zero, suc, ◌+◌, Bool, true, false, ◌||◌, Option, Some, None}
use Rattle.std.proofs.Common.{List, [], ◌∷◌, ◌++◌, length, length-append, map, take, arith}
use Rattle.std.proofs.lemmas.List.{reverse-append}
use Rattle.std.proofs.Math.Seq.{take-length}
use Rattle.std.specs.Prelude.{reverse, slice_get}
use Rattle.cc_names.specs.declared.replies.Reply.TheVariants.{Built}
use Rattle.cc_names.specs.declared.steps.StoryStep.{StoryStep}
use Rattle.cc_names.specs.declared.units.Unit.{Unit}
use Rattle.cc_names.proofs.Common.{and_first, and_second}
use Rattle.base_model.specs.Rows.{Base, first_rows}
use Rattle.legal_history.specs.Builds.Active.{Build, Came, came_to, is_outcome, unit_at}
use Rattle.legal_history.specs.Builds.Fresh.{all_finished, serial, sees_file, sees_directory}
use Rattle.base_model.specs.Texts.{texts}
use Rattle.legal_history.specs.Builds.Freshness.{Agrees, AgreesSoFar, outcome_in}
use Rattle.legal_history.specs.Laws.Ends.{IsLeft}
use Rattle.legal_history.specs.Laws.FromNothing.{EndsAsFromNothing}
use Rattle.legal_history.specs.Builds.Serials.{Finished}
use Rattle.legal_history.specs.Stories.States.{State}
use Rattle.legal_history.specs.Builds.Turns.{all_over, is_complete}
use Rattle.legal_history.proofs.Builds.Pairs.{finished_of, with_pair, pairs_before, done_paired}
use Rattle.legal_history.specs.Builds.Replied.{lines_from, finished_from, reply_of, reply_from_nothing}
use Rattle.legal_history.proofs.Builds.FreshSeen.{outcome_there}
use Rattle.legal_history.proofs.Builds.UnitLines.{same_lines, finished_behind, lines_behind}
use Rattle.legal_history.proofs.Builds.Pairs.{take_next, take_all, length_taken}

-- the first n units, finished from nothing in their order
abbrev firsts : Base → Build → ℕ → List Finished
firsts rows build n = reverse (map finished_of (pairs_before rows build n))

-- the first n units have the same lines
record SameFirsts (b : Base) (rows : Base) (build : Build) (n : ℕ) (fs : List Finished) (us : List Unit) : Type 0 where
  long : length fs ≡ length us
  lines : finished_from b build 0 fs ≡ lines_from b build 0 us

-- each unit has an outcome that agrees
pub record AllOver (b : Base) (rows : Base) (build : Build) : Type 0 where
  pub over : (n : ℕ) (unit : Unit) → unit_at build n ≡ Some unit → (came : Came) × (came_to build n ≡ Some came)
      × (Agrees b unit came (outcome_in rows build n unit))

one_more : (b : Base) (rows : Base) (build : Build) (n : ℕ) (u : Unit) (fs : List Finished) (us : List Unit)
    → AllOver b rows build → unit_at build n ≡ Some u → length us ≡ n → SameFirsts b rows build n fs us →
    SameFirsts b rows build (suc n) (fs ++ (record { unit = u; outcome = outcome_in rows build n u } ∷ [])) (us ++ (u ∷ []))
one_more b rows build n u fs us all is place h = record {
  long = length-append fs _ ∙ ap (λ m. m + 1) h.long ∙ sym (length-append us _);
  lines =
      let own = all.over n u is in
      finished_behind b build 0 fs (record { unit = u; outcome = outcome_in rows build n u } ∷ [])
      ∙ ap (λ ls. ls ++ finished_from b build (0 + length fs) (record { unit = u; outcome = outcome_in rows build n u } ∷ []))
      h.lines
      ∙ ap (λ m. lines_from b build 0 us ++ finished_from b build m (record { unit = u; outcome = outcome_in rows build n u }
      ∷ [])) (here (length fs) (h.long ∙ place))
      ∙ ap (λ ls. lines_from b build 0 us ++ ls) (same_lines b build n u (outcome_in rows build n u) own.0 own.1 own.2)
      ∙ ap (λ m. lines_from b build 0 us ++ lines_from b build m (u ∷ [])) (sym (here (length us) place))
      ∙ sym (lines_behind b build 0 us (u ∷ []));
}
  where
    here : (m : ℕ) → m ≡ n → 0 + m ≡ n
    here m e = omega arith

same_firsts : (b : Base) (rows : Base) (build : Build) (n : ℕ) → AllOver b rows build
    → SameFirsts b rows build n (firsts rows build n) (take n build.units)
same_firsts b rows build zero all = record { long = refl; lines = refl }
same_firsts b rows build (suc n) all = by (unit_at build n) refl (same_firsts b rows build n all)
  where
    by : (o : Option Unit) → unit_at build n ≡ o → SameFirsts b rows build n (firsts rows build n) (take n build.units) →
        SameFirsts b rows build (suc n) (reverse (map finished_of (with_pair rows build n o (pairs_before rows build n))))
        (take (suc n) build.units)
    by None is h = subst (SameFirsts b rows build (suc n) (firsts rows build n)) (sym (take_all build.units n is))
        (record { long = h.long; lines = h.lines })
    by (Some u) is h =
        subst (SameFirsts b rows build (suc n) (reverse (map finished_of
        (with_pair rows build n (Some u) (pairs_before rows build n))))) (sym (take_next build.units n u is))
        (subst (λ fs. SameFirsts b rows build (suc n) fs (take n build.units ++ (u ∷ [])))
        (sym (reverse-append (record { unit = u; outcome = outcome_in rows build n u } ∷ [])
        (map finished_of (pairs_before rows build n))))
        (one_more b rows build n u (firsts rows build n) (take n build.units) all is (length_taken build.units n u is) h))

-- all units are the first of them
finished_are : (rows : Base) (build : Build) → all_finished rows build.view build.units ≡ firsts rows build (length build.units)
finished_are rows build =
    ap (λ us. reverse (serial (texts rows build.view) (sees_file rows build.view) (sees_directory rows build.view) (reverse us)))
    (sym (take-length build.units))
    ∙ ap reverse (done_paired rows build (length build.units))

pub same_reply : (b : Base) (build : Build) → AllOver b (first_rows build.rows b) build
    → reply_of b build ≡ reply_from_nothing b build
same_reply b build all =
    let rows : Base = first_rows build.rows b in
    ap Built (ap (lines_from b build 0) (sym (take-length build.units))
    ∙ sym (same_firsts b rows build (length build.units) all).lines
    ∙ ap (finished_from b build 0) (sym (finished_are rows build)))

-- a complete build has an outcome for each unit
over_at : (build : Build) (k j : ℕ) (u : Unit) (us : List Unit) (n : ℕ) → n ≡ k + j → all_over build k us ≡ true
    → slice_get us j ≡ Some u → is_outcome (came_to build n) ≡ true
over_at build k j u [] n place h is = absurd (cc)
over_at build k zero u (v ∷ us) n place h is =
    let number : k ≡ n = omega arith in
    subst (λ m. is_outcome (came_to build m) ≡ true) number (and_first (is_outcome (came_to build k)) (all_over build (k + 1) us)
    h)
over_at build k (suc j) u (v ∷ us) n place h is = over_at build (k + 1) j u us n (omega arith)
    (and_second (is_outcome (came_to build k)) (all_over build (k + 1) us) h) is

-- Each unit of a complete build that agrees has the outcome of the build from nothing.
pub complete_outcome : (b : Base) (build : Build) (n : ℕ) (u : Unit) → AgreesSoFar b build → is_complete build ≡ true
    → unit_at build n ≡ Some u → EndsAsFromNothing b build n u
complete_outcome b build n u h complete is =
    let has = over_at build 0 n u build.units n (omega arith) complete is in
    let there = outcome_there (came_to build n) has in
    record {
      came = there.0;
      is = there.1;
      agrees = h.agrees n u there.0 is there.1
          (subst (λ o. is_outcome o ≡ true) there.1 has);
    }

-- a build is left complete, unless the disk failed under it
pub left_complete : (complete faulted : Bool) → (complete || faulted) ≡ true → faulted ≡ false → complete ≡ true
left_complete true faulted over sound = refl
left_complete false faulted over sound = absurd (let clash : true ≡ false = sym over ∙ sound in cc)

-- so a build that is left without a fault has them
pub left_outcome : (s : State) (x : StoryStep) (lane : ℕ) (build : Build) (n : ℕ) (u : Unit) → AgreesSoFar s.base build
    → IsLeft s x lane build → build.faulted ≡ false → unit_at build n ≡ Some u → EndsAsFromNothing s.base build n u
left_outcome s x lane build n u h left sound is = complete_outcome s.base build n u h
    (left_complete (is_complete build) build.faulted left.over sound) is

-- A complete build that agrees is replied as the build from nothing.
pub complete_reply : (b : Base) (build : Build) → AgreesSoFar b build → is_complete build ≡ true
    → reply_of b build ≡ reply_from_nothing b build
complete_reply b build h complete = same_reply b build (record {
  over = λ n u is. let o = complete_outcome b build n u h complete
      is in (o.came, o.is, o.agrees);
})
