-- What threads leave of a core in a phase, whatever they did and in whatever order.
use Rattle.std.specs.Prelude.{◌≡◌, true}
use Rattle.base_core.specs.Story.Counted.{KeepsCount}
use Rattle.base_core.specs.Story.Shown.{Shown}
use Rattle.session_run.specs.Running.Phases.{Goes}
use Rattle.session_run.specs.Story.Begun.{is_opened}

-- Since a core stood so its story went on within its last phase, by steps that say what became of the disk's counts.
pub record IsSince (old now : Shown) : Type 0 where
  pub goes : Goes old.story now.story
  pub counted : KeepsCount old now
  pub opened : is_opened now.story ≡ true
