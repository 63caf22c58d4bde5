-- What a core keeps of a build where other lanes go on.
use Rattle.std.proofs.Common.{◌≡◌, ℕ, ◌+◌, ◌≤◌, ap, ap₂, sym, ◌∙◌, arith}
use Rattle.std.specs.Prelude.{option_and_then}
use Rattle.cc_names.specs.Commands.{lane_at}
use Rattle.cc_names.specs.declared.occasions.Next.TheVariants as nexts
use Rattle.base_model.specs.Rows.{size}
use Rattle.legal_history.specs.Builds.Active.{Build}
use Rattle.legal_history.specs.Stories.States.{State, done_of, command_behind, next_tag}
use Rattle.base_core.specs.Calls.Building.{BuildInvariant}
use Rattle.clearmake.specs.Nexts.{next_of_lane, next_by}

-- the next command of a lane where as many are finished
pub same_tag_as : (s t : State) (lane : ℕ) → t.number ≡ s.number → done_of t.done lane ≡ done_of s.done lane
    → next_tag t lane ≡ next_tag s lane
same_tag_as s t lane number done = ap₂ (λ n d. record { phase = n; lane = lane; command = d + 1 }) number done

pub same_next_as : (s t : State) (lane : ℕ) → t.phase ≡ s.phase → t.number ≡ s.number → done_of t.done lane ≡ done_of s.done lane
    → next_of_lane t lane ≡ next_of_lane s lane
same_next_as s t lane phase number done =
    ap₂ (λ p d. next_by (option_and_then (command_behind d) (lane_at p lane)) (next_tag t lane)) phase done
    ∙ ap (next_by (option_and_then (command_behind (done_of s.done lane)) (lane_at s.phase lane)))
    (same_tag_as s t lane number done)

-- a build is kept where its lane has finished as many commands and there are as many rows or more
pub build_stays : (s t : State) (lane : ℕ) (build : Build) → BuildInvariant s lane build → t.phase ≡ s.phase → t.number ≡ s.number
    → done_of t.done lane ≡ done_of s.done lane → size s.base ≤ size t.base → BuildInvariant t lane build
build_stays s t lane build h phase number done grows =
    let tag : next_tag t lane ≡ next_tag s lane = same_tag_as s t lane number done in
    record {
      tag = h.tag ∙ sym tag;
      waits = same_next_as s t lane phase number done ∙ h.waits ∙ ap nexts.Build (sym tag);
      from = h.from;
      rows = omega (arith, h.rows, grows);
      formed = h.formed;
      faultless = h.faultless;
    }
