-- The walk back from a version: the versions that it follows, those that these follow, and so on.
use Rattle.std.specs.Prelude.{◌≡◌, ℕ, zero, suc, ◌+◌, Bool, not, ◌&&◌, ◌||◌, Option, Some, None, List, length, option_and_then}
use Rattle.std.specs.List.Sorted.{IsStrictlySortedBy}
use Rattle.std.specs.Ordering.{nat_cmp}
use Rattle.cc_names.specs.Versions.{version_of_number, version_id}
use Rattle.cc_names.specs.declared.changes.TreeChange.{TreeChange}
use Rattle.cc_names.specs.declared.rows.Deed.{Deed}
use Rattle.cc_names.specs.declared.rows.Deed.TheVariants as deeds
use Rattle.base_model.specs.Rows.{Base, deed_at}
use Rattle.legal_history.specs.Queries.Merges.{is_in}
use Rattle.vob_history.specs.declared.reached.Walk.{Walk}

-- the version on a branch that comes before the one of a number
abbrev pub numbered_before : List TreeChange → ℕ → ℕ → Option ℕ
numbered_before changes branch zero = None
numbered_before changes branch (suc number) = version_of_number changes branch number

-- the version before another one on its branch
abbrev pub predecessor : List TreeChange → ℕ → Option ℕ
predecessor changes version =
    option_and_then (λ version_id. numbered_before changes version_id.branch version_id.number) (version_id changes version)

-- the version from which an arrow leads
abbrev pub arrow_source : Deed → Option ℕ
arrow_source (deeds.Arrow e tail head) = Some tail
arrow_source deed = None

-- the same of the row of a number
abbrev pub arrow_source_at : Base → ℕ → Option ℕ
arrow_source_at b n = option_and_then arrow_source (deed_at b n)

-- A walk adds the versions that pass a test: each has been seen, and where it was new it is left, once, to go on from.
pub record AddsVersions (taken : ℕ → Bool) (old new : Walk) : Type 0 where
  pub seen : (n : ℕ) → is_in n new.seen.keys ≡ (taken n || is_in n old.seen.keys)
  pub left : (n : ℕ) → is_in n new.left.items ≡ (is_in n old.left.items || (taken n && not (is_in n old.seen.keys)))
  pub count : length new.left.items + length old.seen.keys ≡ length old.left.items + length new.seen.keys
  pub ordered : IsStrictlySortedBy nat_cmp old.seen.keys → IsStrictlySortedBy nat_cmp new.seen.keys
