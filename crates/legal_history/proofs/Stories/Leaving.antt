-- An active build is left by its own end alone.
use Rattle.std.proofs.Common.{◌≡◌, refl, ap, sym, subst, ◌∙◌, ℕ, Bool, true, false, not, cond, ◌||◌, ◌==◌, Option, Some, None}
use Rattle.std.specs.Ordering.{nat_cmp}
use Rattle.std.specs.FinMap.Entries.{put}
use Rattle.cc_names.specs.declared.rows.Deed.{Deed}
use Rattle.cc_names.specs.declared.rows.Deed.TheVariants as deeds
use Rattle.cc_names.specs.declared.rows.Tag.{Tag}
use Rattle.cc_names.specs.declared.steps.StoryStep.{StoryStep}
use Rattle.cc_names.specs.declared.steps.StoryStep.TheVariants as story_steps
use Rattle.cc_names.proofs.Common.{same_inside, same_number}
use Rattle.base_model.specs.Rows.{Base}
use Rattle.legal_history.specs.Builds.Active.{Active, Build, Came, build_of}
use Rattle.legal_history.specs.Stories.States.{State, build_by}
use Rattle.legal_history.specs.Stories.Steps.{after, noted_in, with_came, with_build, without_build, faulted_in}
use Rattle.legal_history.specs.Stories.Steps.{active_after, build_begun_by}
use Rattle.legal_history.specs.Stories.Lawful.{Lawful, EndsBuild}
use Rattle.legal_history.specs.Builds.Turns.{is_complete}
use Rattle.legal_history.proofs.Stories.Goes.{of_lane}
use Rattle.base_model.proofs.Tables.{find_after_put, find_without}
use Rattle.legal_history.specs.Laws.Ends.{IsLeft}

-- where one build is put, every active lane still builds
put_there : (active : Active) (lane other : ℕ) (build new : Build) → build_of active lane ≡ Some build
    → build_of (put nat_cmp other new active) lane ≡ None → ⊥
put_there active lane other build new is none = by (lane == other) (sym (find_after_put lane other new active) ∙ none)
  where
    by : (t : Bool) → cond t (Some new) (build_of active lane) ≡ None → ⊥
    by true h = cc
    by false h = cc

noted_there : (active : Active) (lane other : ℕ) (build : Build) (o : Option Build) (unit : Build → Option ℕ) (came : Came)
    → build_of active lane ≡ Some build → build_of (noted_in active other o unit came) lane ≡ None → ⊥
noted_there active lane other build None unit came is none = cc
noted_there active lane other build (Some old) unit came is none = put_there active lane other build
    (with_came old (unit old) came) is none

begun_there : (active : Active) (lane other : ℕ) (build : Build) (o : Option Build) → build_of active lane ≡ Some build
    → build_of (with_build active other o) lane ≡ None → ⊥
begun_there active lane other build None is none = cc
begun_there active lane other build (Some new) is none = put_there active lane other build new is none

faulted_there : (active : Active) (lane other : ℕ) (build : Build) (o : Option Build) → build_of active lane ≡ Some build
    → build_of (faulted_in active other o) lane ≡ None → ⊥
faulted_there active lane other build None is none = cc
faulted_there active lane other build (Some old) is none = put_there active lane other build (record old { faulted = true }) is
    none

committed_there : (b : Base) (active : Active) (lane other : ℕ) (build : Build) (deed : Deed) → build_of active lane ≡ Some build
    → build_of (active_after b active other deed) lane ≡ None → ⊥
committed_there b active lane other build (deeds.Publish view targets script entries outputs) is none =
    noted_there active lane other build (build_of active other) _ _ is none
committed_there b active lane other build (deeds.Wink view id) is none =
    noted_there active lane other build (build_of active other) _ _ is none
committed_there b active lane other build deed is none = cc

-- a build ends in its lane
pub ends_so : (s : State) (tag : Tag) (lane : ℕ) (build : Build) → build_of s.active lane ≡ Some build → EndsBuild s tag
    → lane ≡ tag.lane → IsLeft s (story_steps.End tag) lane build
ends_so s tag lane build is e number =
    let there : build_of s.active tag.lane ≡ Some e.build = of_lane s tag e.build e.active in
    let same : e.build ≡ build = same_inside (sym there ∙ ap (build_of s.active) (sym number) ∙ is) in
    record {
      tag = tag;
      is = refl;
      of_lane = sym number;
      active = e.active
          ∙ ap Some same;
      over = subst (λ (b : Build). (is_complete b || b.faulted) ≡ true) same e.over;
    }

by_its_end : (s : State) (tag : Tag) (lane : ℕ) (build : Build) → build_of s.active lane ≡ Some build → EndsBuild s tag
    → build_of (without_build s.active tag.lane) lane ≡ None → IsLeft s (story_steps.End tag) lane build
by_its_end s tag lane build is e none = by (lane == tag.lane) refl (sym (find_without lane tag.lane s.active) ∙ none)
  where
    by : (t : Bool) → (lane == tag.lane) ≡ t → cond (not t) (build_of s.active lane) None ≡ None
        → IsLeft s (story_steps.End tag) lane build
    by false e2 h = absurd (cc)
    by true e2 h = ends_so s tag lane build is e (same_number lane tag.lane e2)

pub is_left : (s : State) (x : StoryStep) (lane : ℕ) (build : Build) → build_of s.active lane ≡ Some build → Lawful s x
    → build_of (after s x).active lane ≡ None → IsLeft s x lane build
is_left s (story_steps.Commit row tick) lane build is e none = absurd (committed_there s.base s.active lane row.tag.lane build
    row.deed is none)
is_left s (story_steps.Begin tag rows count) lane build is e none = absurd
    (begun_there s.active lane tag.lane build (build_begun_by s tag) is none)
is_left s (story_steps.Start tag n) lane build is e none = absurd (noted_there s.active lane tag.lane build
    (build_of s.active tag.lane) _ _ is none)
is_left s (story_steps.Concluded tag n end) lane build is e none = absurd
    (noted_there s.active lane tag.lane build (build_of s.active tag.lane) _ _ is none)
is_left s (story_steps.End tag) lane build is e none = by_its_end s tag lane build is e none
is_left s (story_steps.Fault tag left before faults tick) lane build is e none =
    absurd (faulted_there s.active lane tag.lane build (build_by s tag) is none)
is_left s x lane build is e none = absurd (cc)
