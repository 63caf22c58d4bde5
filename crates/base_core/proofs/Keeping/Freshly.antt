-- What a core keeps of a base that was just opened.
use Rattle.std.proofs.Common.{◌≡◌, ℕ, zero, suc, Some, List, [], refl, ap, sym, subst, ◌∙◌, arith}
use Rattle.cc_names.specs.Commands.{lane_at}
use Rattle.cc_names.specs.declared.commands.Lane.{Lane}
use Rattle.disk_model.specs.DiskStates.{DiskState}
use Rattle.base_model.specs.Rows.{Base}
use Rattle.base_model.specs.Fits.{is_base}
use Rattle.base_core.specs.Keeping.CoreInvariants.{CoreInvariant}
use Rattle.base_core.specs.Keeping.Lanes.{LaneState}
use Rattle.story_log.specs.Logging.Logs.{Logged, opened_log, with_disk}
use Rattle.story_log.specs.Bases.Opening.{IsBaseOn, IsOpened, OpensCore}
use Rattle.story_log.specs.Story.Formed.{AreFormed}
use Rattle.story_log.specs.Stopping.Tails.{Tail}
use Rattle.story_log.specs.Story.Handed.{Handed}
use Rattle.story_log.proofs.Bases.Damages.{undamaged_on}
use Rattle.story_log.proofs.Logging.Logged.{oldest_back}

-- a phase without lanes has no lane
no_lane_at : (lane : ℕ) (one : Lane) → lane_at (record { lanes = [] }) lane ≡ Some one → ⊥
no_lane_at zero one is = absurd (cc)
no_lane_at (suc n) one is = absurd (cc)

preserved_base : (old : DiskState) (base : Base) (handed : Handed) (ghost_state : DiskState) (tail : Tail) → IsBaseOn old base handed
    → CoreInvariant (opened_log base handed ghost_state tail) [] 0
preserved_base old base handed ghost_state tail h = record {
  story = record {
    legal = (
      record {
        first = refl;
        formed = subst AreFormed (sym (oldest_back base)) h.formed;
        fits = ap is_base (oldest_back base) ∙ h.fits;
      },
      tt,
    );
    opened = refl;
    base = oldest_back base;
    formed = (subst AreFormed (sym (oldest_back base)) h.formed, tt);
  };
  phase = record {
    phase = refl;
    number = refl;
    moment = refl;
    formed = (omega arith, tt);
    few = omega arith;
    in_time = omega arith;
  };
  replies = record {
    count = refl;
    replies = λ lane low high. absurd (omega (arith, low, high));
    done = λ lane. refl;
    room = λ lane one is. absurd (no_lane_at lane one is);
    left = λ lane one is. absurd (no_lane_at lane one is);
  };
  builds = record { count = refl; active = refl; kept = λ lane build is. absurd (cc); reserves = omega arith };
}

pub preserved_opened : (old : DiskState) (log : Logged) → IsOpened old log → CoreInvariant log [] 0
preserved_opened old log h = subst (λ l. CoreInvariant l [] 0) (sym h.is)
    (preserved_base old h.base h.handed log.ghost_state log.tail h.on)

pub opens_so : (old : DiskState) (log : Logged) → IsOpened old log → OpensCore old log.story log.ghost_state log.tail
opens_so old log h = record {
  base = h.base;
  handed = h.handed;
  on = h.on;
  undamaged = undamaged_on old h.base h.handed h.on;
  story_is = ap (λ l. l.story) h.is;
  tail = h.tail;
  faultless = h.faultless;
  fit = h.fit;
  files = h.files;
}

-- the disk changes nothing of what is kept beside it
pub preserved_on_disk : (log : Logged) (lanes : List LaneState) (now : ℕ) (ghost_state : DiskState) (tail : Tail)
    → CoreInvariant log lanes now → CoreInvariant (with_disk log ghost_state tail) lanes now
preserved_on_disk log lanes now ghost_state tail h = record {
  story = record { legal = h.story.legal; opened = h.story.opened; base = h.story.base; formed = h.story.formed };
  phase = h.phase;
  replies = h.replies;
  builds = h.builds;
}
