-- The stages of a pass, as plain data.
use Rattle.std.specs.Prelude.{ℕ, ◌+◌, ◌-◌, ◌/◌, List, [], length, nat_lt, if◌then◌else◌, Option, Some, None}
use Rattle.turn_lock.specs.declared.rule.Stage.{Stage}
use Rattle.turn_lock.specs.declared.rule.Stage.TheVariants.{Idle, Joined, Waits, Turn}
use Rattle.turn_lock.specs.declared.rule.View.{View}

module _ {D : Type 0} where
  -- the ticket that is drawn and not yet served
  abbrev pub ticket_of : Stage D → Option ℕ
  ticket_of Idle = None
  ticket_of (Joined shorter) = None
  ticket_of (Waits ticket) = Some ticket
  ticket_of (Turn ticket story) = Some ticket

  -- the story that the stage keeps beside what was seen
  abbrev pub noted_of : Stage D → List D
  noted_of Idle = []
  noted_of (Joined shorter) = shorter
  noted_of (Waits ticket) = []
  noted_of (Turn ticket story) = story

  -- how many tickets that is, 0 or 1
  abbrev pub tickets_at : Stage D → ℕ
  tickets_at Idle = 0
  tickets_at (Joined shorter) = 0
  tickets_at (Waits ticket) = 1
  tickets_at (Turn ticket story) = 1

  abbrev pub tickets_of : View D → ℕ
  tickets_of v = tickets_at v.stage

  abbrev pub weight_of : View D → ℕ
  weight_of v = v.weight

  -- a pass that has seen this story, and does nothing
  abbrev pub idle : List D → ℕ → View D
  idle seen weight = record { stage = Idle; seen = seen; weight = weight }

  -- a pass that another has joined
  abbrev pub spent : View D
  spent = idle [] 0

  -- the same pass at another stage
  abbrev pub at_stage : Stage D → View D → View D
  at_stage stage v = record { stage = stage; seen = v.seen; weight = v.weight }

  abbrev pub greater_half : View D → View D
  greater_half v = idle v.seen (v.weight - v.weight / 2)

  abbrev pub lesser_half : View D → View D
  lesser_half v = idle v.seen (v.weight / 2)

  abbrev pub longer : List D → List D → List D
  longer xs ys = if nat_lt (length xs) (length ys) then ys else xs

  abbrev pub shorter : List D → List D → List D
  shorter xs ys = if nat_lt (length xs) (length ys) then xs else ys

  -- two passes made one
  abbrev pub joined : View D → View D → View D
  joined v w = record { stage = Joined (shorter v.seen w.seen); seen = longer v.seen w.seen; weight = v.weight + w.weight }
