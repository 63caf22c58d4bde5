-- What is known where a build had begun, and of the passes of its builders.
use Rattle.std.proofs.Common.{◌≡◌, ◌≢◌, refl, sym, subst, ◌∙◌, ℕ, List}
use mathlib.Core.List.{IsPrefix}
use Rattle.cc_names.specs.declared.occasions.Next.TheVariants as nexts
use Rattle.cc_names.specs.declared.rows.Tag.{Tag}
use Rattle.cc_names.specs.declared.steps.StoryStep.{StoryStep}
use Rattle.legal_history.specs.Stories.Lawful.{Legal}
use Rattle.legal_history.specs.Stories.Steps.{state_of}
use Rattle.turn_lock.proofs.Prefixes.{begins_itself, begins_on}
use Rattle.turn_lock.specs.PassState.{Hold, PassState}
use Rattle.clearmake.specs.Nexts.{next_of_lane}
use Rattle.clearmake.specs.Passes.{BuilderState, Builds, HasBegun, IsCommandPast, IsLater, IsLaterOfBuilder, WasNext}
use Rattle.clearmake.specs.ReadingLaws.{later_on}
use Rattle.clearmake.proofs.Later.{is_past, still_builds}

pub was_next : (seen story : List StoryStep) (tag : Tag) → next_of_lane (state_of seen) tag.lane ≡ nexts.Build tag
    → IsPrefix seen story → WasNext story tag
was_next seen story tag next p = record { seen = seen; begins = p; next = next }

pub has_begun : (begun story : List StoryStep) (tag : Tag) (count : ℕ) → Builds begun tag count → IsPrefix begun story
    → HasBegun story tag count
has_begun begun story tag count h p = record { begun = begun; begins = p; builds = h }

pub begun_here : (story : List StoryStep) (tag : Tag) (count : ℕ) → Builds story tag count → HasBegun story tag count
begun_here story tag count h = has_begun story story tag count h (begins_itself story)

-- a build that had begun was its lane's next command
pub begun_next : (story : List StoryStep) (tag : Tag) (count : ℕ) → HasBegun story tag count → WasNext story tag
begun_next story tag count h = was_next h.begun story tag h.builds.next h.begins

-- a command that was to be built and is its lane's next no more is finished
pub next_past : (story : List StoryStep) (tag : Tag) → WasNext story tag → Legal story
    → next_of_lane (state_of story) tag.lane ≢ nexts.Build tag → IsCommandPast (state_of story) tag
next_past story tag h legal gone = is_past h.seen story tag h.next h.begins legal gone

-- a build that had begun goes on as long as its command is its lane's next
pub begun_builds : (story : List StoryStep) (tag : Tag) (count : ℕ) → HasBegun story tag count → Legal story
    → next_of_lane (state_of story) tag.lane ≡ nexts.Build tag → Builds story tag count
begun_builds story tag count h legal still = still_builds h.begun story tag count h.builds h.begins legal still

-- a build that had begun has begun in every longer story
pub begun_on : (one two : List StoryStep) (tag : Tag) (count : ℕ) → HasBegun one tag count → IsPrefix one two
    → HasBegun two tag count
begun_on one two tag count h p = has_begun h.begun two tag count h.builds (begins_on h.begun one two h.begins p)

-- a builder's pass that went on
pub builder_later : (state : BuilderState) (was now : PassState StoryStep) (tag : Tag) (count : ℕ)
    → (let old : BuilderState = record { pass = was; tag = tag; count = count } in old) ≡ state → IsLater was now
    → IsLaterOfBuilder state (record { pass = now; tag = tag; count = count })
builder_later state was now tag count is h =
    subst (λ (s : BuilderState). IsLaterOfBuilder s (record { pass = now; tag = tag; count = count })) is
    (record { later = h; tag = refl; count = refl })

-- a builder's pass after a turn
pub turn_later : (state : BuilderState) (was now : PassState StoryStep) (tag : Tag) (count : ℕ) (held : Hold StoryStep)
    (old new : List StoryStep) → (let of : BuilderState = record { pass = was; tag = tag; count = count } in of) ≡ state
    → held.lock ≡ was.lock → held.weight ≡ was.weight → IsPrefix was.seen old → IsPrefix old new →
    now.lock ≡ held.lock → now.weight ≡ held.weight → now.seen ≡ new
    → IsLaterOfBuilder state (record { pass = now; tag = tag; count = count })
turn_later state was now tag count held old new is own weight p q given kept seen =
    builder_later state was now tag count is (record {
      lock = given ∙ own;
      weight = kept ∙ weight;
      begins = subst (IsPrefix was.seen) (sym seen) (begins_on was.seen old new p q);
    })

pub builder_on : (one two three : BuilderState) → IsLaterOfBuilder one two → IsLaterOfBuilder two three
    → IsLaterOfBuilder one three
builder_on one two three h g = record {
  later = later_on one.pass two.pass three.pass h.later g.later;
  tag = g.tag ∙ h.tag;
  count = g.count ∙ h.count;
}

-- what is known of a builder's build is known of the build of its later pass
pub of_builder : (P : Tag → ℕ → Type 0) (old new : BuilderState) → IsLaterOfBuilder old new → P old.tag old.count
    → P new.tag new.count
of_builder P old new h known = subst (λ t. P t new.count) (sym h.tag) (subst (P old.tag) (sym h.count) known)

pub builder_builds : (old new : BuilderState) (story : List StoryStep) → IsLaterOfBuilder old new → Builds story old.tag old.count
    → Builds story new.tag new.count
builder_builds old new story h builds = of_builder (λ t n. Builds story t n) old new h builds
