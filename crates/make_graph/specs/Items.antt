-- Answers that have a vector, seen as its items.
use Rattle.std.specs.Prelude.{Result, Ok, Err, List, Vec}

-- an answer whose vector is seen as its items
abbrev pub result_items : {X Y E : Type 0} → Result (Vec X Y) E → Result (List X) E
result_items (Ok v) = Ok v.items
result_items (Err e) = Err e
