-- What a text of sites comes to.
use Rattle.std.specs.Prelude.{ℕ, Bool, true, false, Result, Ok, Err, List}
use Rattle.std.specs.List.{list_any}
use Rattle.vob_replica.specs.declared.events.Event.{Event}
use Rattle.vob_replica.specs.declared.events.SiteError.{SiteError}
use Rattle.vob_replica.specs.declared.operations.Answer.{Answer}
use Rattle.vob_replica.specs.declared.operations.Answer.TheVariants.{Done, Refused}
use Rattle.vob_replica.specs.declared.runs.Replies.{Replies}
use Rattle.vob_replica.specs.Reading.{events_of}
use Rattle.vob_replica.specs.World.{no_sites, answers_behind, event_replies}

-- whether an event was refused
abbrev pub is_refused : Answer → Bool
is_refused (Done text) = false
is_refused (Refused fault) = true

-- the replies to events, and whether one was refused
abbrev pub run_by : Result (List Event) SiteError → Result Replies SiteError
run_by (Ok events) = Ok (record { text = event_replies events; refused = list_any is_refused (answers_behind no_sites events) })
run_by (Err error) = Err error

-- what a text of sites comes to, or its first line that cannot be read
abbrev pub run_of : List ℕ → Result Replies SiteError
run_of text = run_by (events_of text)
