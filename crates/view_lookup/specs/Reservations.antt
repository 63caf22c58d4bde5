-- The reserved checkouts on a branch.
use Rattle.std.specs.Prelude.{ℕ, Option, find, option_and_then}
use Rattle.base_model.specs.Checkouts.{checkouts, reserves}
use Rattle.base_model.specs.Rows.{Base, deed_at}
use Rattle.base_model.specs.Views.{TakenOut, made_out}
use Rattle.base_rows.specs.Effects.{reserving_effect}
use Rattle.base_rows.specs.LookUps.{last_of}

-- the checkout that the row of a number made
abbrev pub taken_at : Base → ℕ → Option TakenOut
taken_at b n = option_and_then (made_out n) (deed_at b n)

-- the newest reserved checkout that was made on a branch
abbrev pub newest_reserving : Base → ℕ → Option TakenOut
newest_reserving b branch = option_and_then (taken_at b) (last_of (reserving_effect branch) b)

-- the reserved checkout that stands on a branch
abbrev pub reserving : Base → ℕ → Option TakenOut
reserving b branch = find (reserves b branch) (checkouts b)
