-- What is known of each macro while a text is expanded, by what is known of those that were touched.
use Rattle.std.specs.Prelude.{ℕ, zero, suc, Option, List, [], ◌∷◌, slice_index_or, unwrap_or}
use Rattle.make_text.specs.declared.states.State.{State}
use Rattle.make_text.specs.declared.states.State.TheVariants.{Untouched}

-- the state of the macro at an index
abbrev pub state_at : List State → ℕ → State
state_at states i = slice_index_or states i Untouched

-- the states of so many macros, from a first one on, where these are known
abbrev pub states_from : (ℕ → Option State) → ℕ → ℕ → List State
states_from known first zero = []
states_from known first (suc count) = unwrap_or (known first) Untouched ∷ states_from known (suc first) count
