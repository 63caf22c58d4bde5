-- The objects that are due, by the rows from the oldest on.
use Rattle.std.specs.Prelude.{ℕ, suc, List, [], ◌∷◌}
use Rattle.cc_names.specs.Formed.{Plain}
use Rattle.cc_names.specs.Versions.{put_if}
use Rattle.base_model.specs.Rows.{Base}
use Rattle.legal_history.specs.Commands.ObjectLines.{is_due}

-- the objects of a base that are due, among some of its rows, of which the first has this number and the next one more
abbrev pub due_from : Base → ℕ → ℕ → ℕ → List Plain → List ℕ
due_from b moment age number [] = []
due_from b moment age number (row ∷ newer) =
    put_if (is_due b moment age number row.moment) number (due_from b moment age (suc number) newer)
