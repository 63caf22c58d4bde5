use Rattle.std.proofs.Common.{◌≡◌, ◌++◌}
use Rattle.std.specs.Prelude.{map}
use Rattle.session_text.proofs.builds.Macros.into_list.Given as goal

abbrev pub invariant-loop-name : goal.invariant-loop-name
invariant-loop-name l = l.macros.items ++ map (λ entry. record { name = entry.0.items; value = entry.1 }) l.name-iterator
    ≡ l.fn.self
