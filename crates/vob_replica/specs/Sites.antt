-- Sites and packets as they are kept: packets after their names.
use Rattle.std.specs.Prelude.{◌≡◌, ℕ, suc, Result, Ok, Err, List, [], ◌∷◌, map, if◌then◌else◌}
use Rattle.std.specs.Fmt.{decimal}
use Rattle.std.specs.Str.{bytes_eq}
use Rattle.cc_names.specs.declared.memory.Or.{Or}
use Rattle.cc_names.specs.declared.memory.Or.TheVariants.{NoMemory, Is}
use Rattle.vob_replica.specs.declared.events.Identity.{Identity}
use Rattle.vob_replica.specs.declared.operations.Answer.{Answer}
use Rattle.vob_replica.specs.declared.operations.Answer.TheVariants.{Done, Refused}
use Rattle.vob_replica.specs.declared.operations.SiteFault.{SiteFault}
use Rattle.vob_replica.specs.Replicas.{Site, Packet}
use Rattle.vob_replica.specs.Showing.{identity_text}
use Rattle.vob_replica.specs.World.{Sent}

-- packets after their names
abbrev pub sent_as : List ℕ × Packet → Sent
sent_as entry = record { name = entry.0; packet = entry.1 }

abbrev pub sents_of : List (List ℕ × Packet) → List Sent
sents_of entries = map sent_as entries

-- how many sites stand before the one of a name
abbrev pub place_in : List ℕ → List Site → ℕ
place_in name [] = 0
place_in name (site ∷ sites) = if bytes_eq site.name name then 0 else suc (place_in name sites)

-- an answer by the identity that a call gave, or by its fault
abbrev pub identity_answer : Result Identity SiteFault → Answer
identity_answer (Ok identity) = Done (identity_text identity)
identity_answer (Err fault) = Refused fault

-- an answer by the number that a call gave, or by its fault
abbrev pub number_answer : Result ℕ SiteFault → Answer
number_answer (Ok number) = Done (decimal number)
number_answer (Err fault) = Refused fault

-- an answer is that of a call that was refused
abbrev pub IsRefusal : Or SiteFault → Answer → Type 0
IsRefusal NoMemory answer = ⊥
IsRefusal (Is fault) answer = answer ≡ Refused fault
