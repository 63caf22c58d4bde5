-- The rows that give a unit of a lane's build an object: each may be committed, and leaves the unit with that object.
use Rattle.std.proofs.Common.{◌≡◌, ◌≢◌, ℕ, ◌<◌, ◌||◌, inl, inr, true, false, Some, None, Result, Ok, Err, List, []}
use Rattle.std.proofs.Common.{◌∷◌, length, refl, ap, sym, subst, ◌∙◌}
use Rattle.std.proofs.lemmas.Option.{slice_get_within}
use Rattle.std.proofs.lemmas.Slice.Eq.{bytes_eq-Decides}
use Rattle.std.specs.Ordering.{nat_cmp}
use Rattle.std.specs.FinMap.Entries.{put}
use Rattle.cc_names.specs.Formed.{Plain}
use Rattle.cc_names.specs.declared.refusals.ScriptFault.{ScriptFault}
use Rattle.cc_names.specs.declared.rows.Deed.{Deed}
use Rattle.cc_names.specs.declared.rows.Deed.TheVariants as deeds
use Rattle.cc_names.specs.declared.rows.ReadOf.{ReadOf}
use Rattle.cc_names.specs.declared.rows.Tag.{Tag}
use Rattle.cc_names.specs.declared.steps.StoryStep.TheVariants as story_steps
use Rattle.cc_names.specs.declared.units.Unit.{Unit}
use Rattle.cc_names.proofs.Common.{all_at}
use Rattle.build_core.specs.BuildForms.{IsUnitFormed}
use Rattle.base_model.specs.Changes.{targets_of}
use Rattle.base_model.specs.Closures.{is_path_among}
use Rattle.base_model.specs.Fits.{is_base}
use Rattle.base_model.specs.Rows.{Base, size}
use Rattle.legal_history.specs.Builds.Active.{Build, Came, Given, build_of, came_to, is_outcome, unit_at, unit_with_first}
use Rattle.legal_history.specs.Builds.Choices.{entries, here, publish_by, visible}
use Rattle.legal_history.specs.Builds.Consistency.{IsConsistent}
use Rattle.legal_history.specs.Builds.Fresh.{script_text}
use Rattle.legal_history.specs.Builds.UnitTurns.{Waits}
use Rattle.legal_history.specs.Laws.FromNothing.{MayTake}
use Rattle.legal_history.specs.Stories.Committing.{MakesRow, MayCommit}
use Rattle.legal_history.specs.Stories.States.{State, Committed, build_by, next_tag}
use Rattle.legal_history.specs.Stories.Steps.{active_after, after, done_after, noted_in, with_came}
use Rattle.legal_history.proofs.Reuse.KeptObjects.{chosen_object}
use Rattle.base_core.specs.Calls.BuildCalls.{GivesObject, Published, WinkedIn, IsObjectRow, IsWinkRow}
use Rattle.base_core.specs.Calls.Building.{BuildInvariant}
use Rattle.base_core.specs.Story.Replying.{reply_to_row}
use Rattle.base_core.proofs.Building.Closing.{build_is_by}
use Rattle.story_log.proofs.Cases.{some_same}

-- the state after a row that gives unit n of a lane's build an object
abbrev pub given_state : State → ℕ → ℕ → Build → Plain → ℕ → ℕ → State
given_state s lane n build row object tick = record s {
  base = row ∷ s.base;
  active = put nat_cmp lane (with_came build (Some n) (Given object)) s.active;
  ends = Committed row tick ∷ s.ends;
}

-- a row that may be committed, and then gives unit n of a lane's build this object and is replied to nobody
pub record Gives (s : State) (lane n : ℕ) (row : Plain) (object : ℕ) : Type 0 where
  pub build : Build
  pub active : build_of s.active lane ≡ Some build
  pub within : n < length build.units
  pub waits : is_outcome (came_to build n) ≡ false
  pub of_tag : row.tag ≡ next_tag s lane
  pub may : MayCommit s row
  pub leaves : (tick : ℕ) → after s (story_steps.Commit row tick) ≡ given_state s lane n build row object tick
  pub silent : reply_to_row (row ∷ s.base) row.deed ≡ None

-- the unit with a unit's first target is that unit
first_place : (b : Base) (build : Build) (n : ℕ) (unit : Unit) (targets : List (List ℕ)) → IsConsistent b build
    → unit_at build n ≡ Some unit → targets ≡ unit.targets → targets ≢ [] → unit_with_first build targets ≡ Some n
first_place b build n unit [] consistent is same some = absurd (some refl)
first_place b build n unit (target ∷ targets) consistent is same some =
    let first : is_path_among target (target ∷ targets) ≡ true = ap (λ c. c || is_path_among target targets)
    ((bytes_eq-Decides target target).1 refl) in
    consistent.in_order.one n unit target is (ap (is_path_among target) (sym same) ∙ first)

-- and so it is with all targets of a unit of a build that is kept
place_of : (s : State) (lane n : ℕ) (build : Build) (unit : Unit) (targets : List (List ℕ)) → BuildInvariant s lane build
    → IsConsistent s.base build → unit_at build n ≡ Some unit → targets ≡ unit.targets → unit_with_first build targets ≡ Some n
place_of s lane n build unit targets kept consistent is same =
    let formed : IsUnitFormed unit = all_at IsUnitFormed build.units n unit kept.formed.units is in
    first_place s.base build n unit targets consistent is same (λ e. formed.0.1 (sym same ∙ e))

-- the build of a row's command
build_by_row : (s : State) (lane : ℕ) (build : Build) (tag : Tag) → BuildInvariant s lane build
    → build_of s.active lane ≡ Some build → tag ≡ next_tag s lane → build_by s tag ≡ Some build
build_by_row s lane build tag kept active of_tag = ap (build_by s) of_tag ∙ build_is_by s lane build active kept.tag

-- the active builds of a state where a unit has come to something
noted_so : (s : State) (lane n : ℕ) (build : Build) (tag : Tag) (targets : List (List ℕ)) (came : Came)
    → build_of s.active lane ≡ Some build → tag ≡ next_tag s lane → unit_with_first build targets ≡ Some n
    → noted_in s.active tag.lane (build_of s.active tag.lane) (λ b. unit_with_first b targets) came
    ≡ put nat_cmp lane (with_came build (Some n) came) s.active
noted_so s lane n build tag targets came active of_tag place =
    ap (λ (t : Tag). noted_in s.active t.lane (build_of s.active t.lane) (λ b. unit_with_first b targets) came) of_tag
    ∙ ap (λ o. noted_in s.active lane o (λ b. unit_with_first b targets) came) active
    ∙ ap (λ o. put nat_cmp lane (with_came build o came) s.active) place

-- the deed that a unit's run makes is one of its targets
record IsDeedOf (build : Build) (unit : Unit) (deed : Deed) : Type 0 where
  pub targets : List (List ℕ)
  pub script : List ℕ
  pub reads : List ReadOf
  pub outputs : List (List ℕ)
  pub of_unit : targets ≡ unit.targets
  pub is : deed ≡ deeds.Publish build.view targets script reads outputs

deed_of_run : (build : Build) (unit : Unit) (reads : List ReadOf) (result : Result (List (List ℕ)) ScriptFault) (deed : Deed)
    → publish_by build unit reads result ≡ Some deed → IsDeedOf build unit deed
deed_of_run build unit reads (Err fault) deed e = absurd (cc)
deed_of_run build unit reads (Ok outputs) deed e = record {
  targets = unit.targets;
  script = script_text unit.script;
  reads = reads;
  outputs = outputs;
  of_unit = refl;
  is = sym (some_same _ deed e);
}

-- the row of what a unit's run gave
published_gives : (s : State) (lane n : ℕ) (row : Plain) (h : IsObjectRow s lane n row) → BuildInvariant s lane h.build
    → IsConsistent s.base h.build → Gives s lane n row (size s.base)
published_gives s lane n row h kept consistent = record {
  build = h.build;
  active = h.active;
  within = slice_get_within h.build.units n h.unit h.is_unit;
  waits = ap is_outcome h.started;
  of_tag = h.of_tag;
  may = record {
    moment = h.at_moment;
    made = subst (MakesRow s row) (sym d.is) (record {
      n = n;
      build = h.build;
      unit = h.unit;
      place = place;
      running = record {
        waits = record {
          active = build_by_row s lane h.build row.tag kept h.active h.of_tag;
          is_unit = h.is_unit;
          waits = ap is_outcome h.started;
        };
        faultless = kept.faultless;
        started = h.started;
      };
      nothing = h.nothing;
      made = h.made;
    });
  };
  leaves = λ tick. ap (λ deed. record s {
    base = row ∷ s.base;
    done = done_after s.done row.tag.lane deed;
    active = active_after s.base s.active row.tag.lane deed;
    ends = Committed row tick ∷ s.ends;
  }) d.is
      ∙ ap (λ active. record s { base = row ∷ s.base; active = active; ends = Committed row tick ∷ s.ends })
      (noted_so s lane n h.build row.tag d.targets (Given (size s.base)) h.active h.of_tag place);
  silent = ap (reply_to_row (row ∷ s.base)) d.is;
}
  where
    d : IsDeedOf h.build h.unit row.deed
    d = deed_of_run h.build h.unit (entries (visible s.base h.build n h.unit) (here s.base h.build n h.unit).reads)
        (here s.base h.build n h.unit).result row.deed h.made

    place : unit_with_first h.build d.targets ≡ Some n
    place = place_of s lane n h.build h.unit d.targets kept consistent h.is_unit d.of_unit

-- a unit that may take an object waits
taker_waits : (s : State) (tag : Tag) (n : ℕ) (build : Build) (unit : Unit) → MayTake s tag n build unit
    → Waits s tag n build unit
taker_waits s tag n build unit may = elim may [ inl o ↦ o.waits | inr r ↦ r.waits ]

-- the row by which a build's view winks an object in
taken_gives : (s : State) (lane n object : ℕ) (row : Plain) (h : IsWinkRow s lane n object row) → is_base s.base ≡ true
    → IsConsistent s.base h.may.build → Gives s lane n row object
taken_gives s lane n object row h base consistent = record {
  build = h.may.build;
  active = h.may.active;
  within = h.may.within;
  waits = waits.waits;
  of_tag = h.of_tag;
  may = record {
    moment = h.at_moment;
    made = subst (MakesRow s row) (sym h.winks) (record {
      n = n;
      build = h.may.build;
      unit = h.may.unit;
      place = place;
      may = subst (λ tag. MayTake s tag n h.may.build h.may.unit) (sym h.of_tag) h.may.may;
      of_view = refl;
      chosen = h.may.chosen;
      lacks = h.may.lacks;
    });
  };
  leaves = λ tick. ap (λ deed. record s {
    base = row ∷ s.base;
    done = done_after s.done row.tag.lane deed;
    active = active_after s.base s.active row.tag.lane deed;
    ends = Committed row tick ∷ s.ends;
  }) h.winks
      ∙ ap (λ active. record s { base = row ∷ s.base; active = active; ends = Committed row tick ∷ s.ends })
      (noted_so s lane n h.may.build row.tag (targets_of s.base object) (Given object) h.may.active h.of_tag place);
  silent = ap (reply_to_row (row ∷ s.base)) h.winks;
}
  where
    waits : Waits s (next_tag s lane) n h.may.build h.may.unit
    waits = taker_waits s (next_tag s lane) n h.may.build h.may.unit h.may.may

    place : unit_with_first h.may.build (targets_of s.base object) ≡ Some n
    place = place_of s lane n h.may.build h.may.unit (targets_of s.base object) h.may.kept consistent waits.is_unit
        (chosen_object s.base h.may.build n h.may.unit object base h.may.chosen).targets

-- a row that gives a unit an object, of either kind
pub gives_so : (s : State) (lane n : ℕ) (row : Plain) (object : ℕ) → is_base s.base ≡ true
    → ((build : Build) → build_of s.active lane ≡ Some build → BuildInvariant s lane build)
    → ((build : Build) → build_of s.active lane ≡ Some build → IsConsistent s.base build) → GivesObject s lane n row object
    → Gives s lane n row object
gives_so s lane n row object base kept consistent (Published h newest) =
    subst (Gives s lane n row) (sym newest) (published_gives s lane n row h (kept h.build h.active) (consistent h.build h.active))
gives_so s lane n row object base kept consistent (WinkedIn h) = taken_gives s lane n object row h base
    (consistent h.may.build h.may.active)
