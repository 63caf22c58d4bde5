-- The newest live object of a list of targets that passes is the last one that is set among such objects.
use Rattle.std.proofs.Common.{◌≡◌, ℕ, Bool, true, false, ◌&&◌, Option, Some, List, [], ◌∷◌, refl}
use Rattle.std.specs.Prelude.{is_some}
use Rattle.cc_names.specs.Last.{Sets, only_if, value_after}
use Rattle.base_model.specs.Changes.{live_row}
use Rattle.base_model.specs.Rows.{Base, size}
use Rattle.base_rows.specs.Effects.{pool_effect}
use Rattle.base_rows.specs.LookUps.{last_of}
use Rattle.base_rows.specs.Pool.{Test, newest_passing, publishes}

by_test : (is : Bool) (n : ℕ) (one two : Option ℕ) → one ≡ two → elim is as (λ _. Option ℕ) [ true ↦ Some n | false ↦ one ]
    ≡ value_after (only_if is (Sets n)) two
by_test true n one two h = refl
by_test false n one two h = h

pub pooled_by_last : (b rows : Base) (targets : List (List ℕ)) (passes : Test)
    → newest_passing b targets passes rows ≡ last_of (pool_effect b targets passes) rows
pooled_by_last b [] targets passes = refl
pooled_by_last b (row ∷ older) targets passes =
    by_test (is_some (live_row b (size older)) && publishes targets passes row.deed) (size older)
    (newest_passing b targets passes older)
    (last_of (pool_effect b targets passes) older) (pooled_by_last b older targets passes)
