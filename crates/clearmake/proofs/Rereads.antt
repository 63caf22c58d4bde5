-- What reads through the lock leave.
use Rattle.std.proofs.Common.{◌≡◌, refl, ap, sym, subst, ◌∙◌, ℕ, ◌<◌, Option, Some, List, arith}
use Rattle.std.specs.Prelude.{is_some}
use mathlib.Core.List.{IsPrefix}
use Rattle.cc_names.specs.declared.rows.Tag.{Tag}
use Rattle.cc_names.specs.declared.steps.StoryStep.{StoryStep}
use Rattle.cc_names.proofs.Common.{same_inside}
use Rattle.script_grammar.specs.Standings.{Standing}
use Rattle.script_grammar.specs.declared.lines.Line.{Line}
use Rattle.build_script.specs.declared.files.Got.{Got}
use Rattle.build_script.specs.declared.files.Got.TheVariants as gots
use Rattle.legal_history.specs.Stories.Lawful.{Legal}
use Rattle.legal_history.specs.Stories.Steps.{state_of}
use Rattle.turn_lock.proofs.Prefixes.{begins_on}
use Rattle.turn_lock.specs.PassState.{LockId, PassState}
use Rattle.clearmake.specs.Calls.{IsStarted, WasStarted}
use Rattle.clearmake.specs.Outside.{Follows, ReadsStanding, IsReading, Reading}
use Rattle.clearmake.specs.Passes.{BuilderState, Builds, IsCommandPast, IsLater}
use Rattle.clearmake.specs.FoundTexts.{IsFetched, sees}
use Rattle.clearmake.proofs.Later.{past_stays, sees_same, started_stays}

fetched : (got : Got) (now was : Option Standing) (story : List StoryStep) (tag : Tag) → now ≡ was → IsFetched got now
    → ReadsStanding got was story tag
fetched (gots.Found row bytes) now was story tag same e = sym same ∙ e
fetched gots.Absent now was story tag same e = sym same ∙ e
fetched gots.Broken now was story tag same e = absurd e
fetched gots.NoMemory now was story tag same e = tt

-- what is fetched now is what the unit found as its run began
pub reads_same : (start story : List StoryStep) (tag : Tag) (count n : ℕ) (path : List ℕ) (got : Got) → Builds start tag count
    → WasStarted (state_of start) tag.lane n → IsPrefix start story → Legal story →
    Builds story tag count → IsFetched got (sees (state_of story) tag.lane n path)
    → ReadsStanding got (sees (state_of start) tag.lane n path) story tag
reads_same start story tag count n path got h started p legal still e =
    fetched got (sees (state_of story) tag.lane n path) (sees (state_of start) tag.lane n path) story tag
    (sees_same start story tag n path h.next p legal still.next started) e

-- what was started as the run began was started by now
pub started_now : (start story : List StoryStep) (tag : Tag) (count n : ℕ) → Builds start tag count
    → WasStarted (state_of start) tag.lane n → IsPrefix start story → Legal story →
    Builds story tag count → WasStarted (state_of story) tag.lane n
started_now start story tag count n h started p legal still = started_stays start story tag n h.next p legal still.next started

-- a read leaves files that are read through the lock
pub reads_on : (lock : LockId) (found : Option (PassState StoryStep)) (r : Reading) (was new : PassState StoryStep)
    (story : List StoryStep) (broken : ℕ) → IsReading lock found r → found ≡ Some was →
    new.lock ≡ lock → new.seen ≡ story → IsPrefix was.seen story → Legal story
    → (0 < broken → IsCommandPast (state_of story) r.tag) →
    IsReading lock (Some new) (record {
      pass = new;
      start = r.start;
      tag = r.tag;
      count = r.count;
      unit = r.unit;
      broken = broken;
    })
reads_on lock found r was new story broken h is own seen p legal past = record {
  there = refl;
  own = own;
  begins = subst (IsPrefix r.start) (sym seen) (begins_on r.start was.seen story
      (subst (λ (s : PassState StoryStep). IsPrefix r.start s.seen) (same_inside (sym h.there ∙ is)) h.begins) p);
  builds = h.builds;
  started = h.started;
  past = λ some. subst (λ t. IsCommandPast (state_of t) r.tag) (sym seen) (past some);
}

-- what was past before a read is past after it
pub past_read : (lock : LockId) (found : Option (PassState StoryStep)) (r : Reading)
    (was : PassState StoryStep) (story : List StoryStep) → IsReading lock found r → found ≡ Some was →
    IsPrefix was.seen story → Legal story → 0 < r.broken → IsCommandPast (state_of story) r.tag
past_read lock found r was story h is p legal some =
    past_stays was.seen story r.tag p legal (subst (λ (s : PassState StoryStep). IsCommandPast (state_of s.seen) r.tag)
    (same_inside (sym h.there ∙ is)) (h.past some))

-- an answer that is Broken says that the command is past
pub broken_past : (got : Got) (standing : Option Standing) (story : List StoryStep) (tag : Tag) → got ≡ gots.Broken
    → ReadsStanding got standing story tag → IsCommandPast (state_of story) tag
broken_past got standing story tag is h = subst (λ g. ReadsStanding g standing story tag) is h

-- the files of a run as it begins
pub reading_begins : (lock : LockId) (of state : BuilderState) (start : List StoryStep) (unit : ℕ) (script : List Line)
    (targets : List (List ℕ)) → of.pass.lock ≡ lock → of ≡ state →
    IsPrefix start state.pass.seen → Builds start state.tag state.count
    → IsStarted (state_of start) state.tag.lane unit script targets →
    IsReading lock (Some of.pass) (record {
      pass = of.pass;
      start = start;
      tag = of.tag;
      count = of.count;
      unit = unit;
      broken = 0;
    })
reading_begins lock of state start unit script targets own is p builds started =
    let had = subst (λ (s : BuilderState). IsStarted (state_of start) s.tag.lane unit script targets) (sym is) started in
    record {
      there = refl;
      own = own;
      begins = subst (λ (s : BuilderState). IsPrefix start s.pass.seen) (sym is) p;
      builds = subst (λ (s : BuilderState). Builds start s.tag s.count) (sym is) builds;
      started = record {
        build = had.has.build;
        active = had.has.active;
        unit = had.has.unit;
        is_unit = had.has.is_unit;
        started = ap is_some had.started;
      };
      past = λ some. absurd (omega (arith, some));
    }

-- the pass as the run ends is later than as it began
pub later_at_end : (lock : LockId) (found : Option (PassState StoryStep)) (r old new : Reading) (pass : PassState StoryStep)
    → IsReading lock found r → found ≡ Some pass → r ≡ new → Follows old new → IsLater old.pass pass
later_at_end lock found r old new pass h is view follows =
    subst (IsLater old.pass) (ap (λ (n : Reading). n.pass) (sym view) ∙ same_inside (sym h.there ∙ is)) follows.later

-- where a read of a run found the build over, its command is past
pub past_at_end : (lock : LockId) (found : Option (PassState StoryStep)) (r old new : Reading)
    (pass : PassState StoryStep) → IsReading lock found r → found ≡ Some pass → r ≡ new → Follows old new →
    0 < new.broken → IsCommandPast (state_of pass.seen) old.tag
past_at_end lock found r old new pass h is view follows some =
    let tag : r.tag ≡ old.tag = ap (λ (n : Reading). n.tag) view ∙ follows.tag in
    let past = h.past (subst (λ (n : Reading). 0 < n.broken) (sym view) some) in
    subst (λ t. IsCommandPast (state_of pass.seen) t) tag (subst (λ (s : PassState StoryStep). IsCommandPast (state_of s.seen)
    r.tag) (same_inside (sym h.there ∙ is)) past)
