-- What paths need, unit by unit.
use Rattle.std.specs.Prelude.{◌≡◌, ◌<◌, ℕ, true, List}
use Rattle.cc_names.specs.declared.units.Unit.{Unit}
use Rattle.make_graph.specs.Waits.{makes_one, prerequisites_at}

-- Some paths need a unit, among those below a number, that makes one of them, or that the prerequisites of such a unit
-- need in turn.
pub data Needs (units : List Unit) : ℕ → List (List ℕ) → ℕ → Type 0 where
  Directly : {below : ℕ} {paths : List (List ℕ)} {n : ℕ} → n < below → makes_one units paths n ≡ true → Needs units below paths n
  Through : {below : ℕ} {paths : List (List ℕ)} {m n : ℕ} →
      m < below → makes_one units paths m ≡ true → Needs units m (prerequisites_at units m) n → Needs units below paths n
