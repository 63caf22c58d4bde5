-- A base has its newest row first; memory has rows, links and config specs from the oldest on.
use Rattle.std.specs.Prelude.{List, reverse}
use Rattle.cc_names.specs.Formed.{Plain}
use Rattle.base_model.specs.Rows.{Base}

-- the rows of a base, oldest first
abbrev pub oldest_first : Base → List Plain
oldest_first base = reverse base

-- what memory has from the oldest on, newest first
abbrev pub newest_first : {A : Type 0} → List A → List A
newest_first kept = reverse kept
