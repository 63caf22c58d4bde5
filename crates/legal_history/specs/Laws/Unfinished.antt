-- How many units of active builds have no outcome yet: each may make one more row.
use Rattle.std.specs.Prelude.{ℕ, ◌+◌, not, List, [], ◌∷◌}
use Rattle.cc_names.specs.References.{one_where}
use Rattle.cc_names.specs.declared.units.Unit.{Unit}
use Rattle.legal_history.specs.Builds.Active.{Active, Build, came_to, is_outcome}

-- of some units, numbered from n on
abbrev pub unfinished_from : Build → ℕ → List Unit → ℕ
unfinished_from build n [] = 0
unfinished_from build n (unit ∷ units) = one_where (not (is_outcome (came_to build n))) + unfinished_from build (n + 1) units

-- of a build
abbrev pub unfinished_units : Build → ℕ
unfinished_units build = unfinished_from build 0 build.units

-- of all active builds
abbrev pub all_unfinished : Active → ℕ
all_unfinished [] = 0
all_unfinished (entry ∷ active) = unfinished_units entry.1 + all_unfinished active
