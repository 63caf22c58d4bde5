-- What the lines of a text of sites say. S and T are names of sites, P of a packet, B of a branch; ID is SITE:NUMBER.
use Rattle.std.specs.Prelude.{ℕ, ◌+◌, Bool, false, ◌==◌, Option, Some, None, Result, Ok, Err, List, [], ◌∷◌, ◌++◌, codes}
use Rattle.std.specs.Prelude.{if◌then◌else◌}
use Rattle.std.specs.Str.{bytes_eq}
use Rattle.cc_names.specs.Cuts.{lines_of, words_of}
use Rattle.vob_replica.specs.declared.events.Event.{Event}
use Rattle.vob_replica.specs.declared.events.Event.TheVariants as events
use Rattle.vob_replica.specs.declared.events.SiteCause.TheVariants.{UnknownCommand, BadWord}
use Rattle.vob_replica.specs.declared.events.SiteError.{SiteError}
use Rattle.vob_replica.specs.Words.{Said, both, says, replica_name_word, number_word, identity_word, text_word}

-- `site S`
abbrev pub site_event : List (List ℕ) → Said Event
site_event (s ∷ []) = says (λ s. events.Site s) (replica_name_word s)
site_event _ = Err BadWord

-- `mkelem S`
abbrev pub mkelem_event : List (List ℕ) → Said Event
mkelem_event (s ∷ []) = says (λ s. events.Mkelem s) (replica_name_word s)
mkelem_event _ = Err BadWord

-- `show S`
abbrev pub show_event : List (List ℕ) → Said Event
show_event (s ∷ []) = says (λ s. events.Show s) (replica_name_word s)
show_event _ = Err BadWord

-- `import S P`
abbrev pub import_event : List (List ℕ) → Said Event
import_event (s ∷ p ∷ []) = says (λ at. events.Import at.0 at.1) (both (replica_name_word s) (replica_name_word p))
import_event _ = Err BadWord

-- `recover S T`
abbrev pub recover_event : List (List ℕ) → Said Event
recover_event (s ∷ t ∷ []) = says (λ at. events.Recover at.0 at.1) (both (replica_name_word s) (replica_name_word t))
recover_event _ = Err BadWord

-- `export S T P`
abbrev pub export_event : List (List ℕ) → Said Event
export_event (s ∷ t ∷ p ∷ []) =
    says (λ at. events.Export at.0 at.1.0 at.1.1) (both (replica_name_word s) (both (replica_name_word t) (replica_name_word p)))
export_event _ = Err BadWord

-- `checkin S ID WORD`
abbrev pub checkin_event : List (List ℕ) → Said Event
checkin_event (s ∷ b ∷ w ∷ []) =
    says (λ at. events.Checkin at.0 at.1.0 at.1.1) (both (replica_name_word s) (both (identity_word b) (text_word w)))
checkin_event _ = Err BadWord

-- `chmaster S ID T`
abbrev pub chmaster_event : List (List ℕ) → Said Event
chmaster_event (s ∷ b ∷ t ∷ []) =
    says (λ at. events.Chmaster at.0 at.1.0 at.1.1) (both (replica_name_word s) (both (identity_word b) (replica_name_word t)))
chmaster_event _ = Err BadWord

-- `mkbranch S ID N B`
abbrev pub mkbranch_event : List (List ℕ) → Said Event
mkbranch_event (s ∷ b ∷ n ∷ name ∷ []) =
    says (λ at. events.Mkbranch at.0.0 at.0.1 at.1.0 at.1.1)
    (both (both (replica_name_word s) (identity_word b)) (both (number_word n) (replica_name_word name)))
mkbranch_event _ = Err BadWord

-- what the words after the word of an event between sites say
abbrev pub between_sites : List ℕ → List (List ℕ) → Said Event
between_sites word words =
    if bytes_eq word (codes "export") then export_event words
    else if bytes_eq word (codes "import") then import_event words
    else if bytes_eq word (codes "recover") then recover_event words
    else if bytes_eq word (codes "show") then show_event words
    else Err UnknownCommand

-- what a word and the words after it say
abbrev pub event_by : List ℕ → List (List ℕ) → Said Event
event_by word words =
    if bytes_eq word (codes "site") then site_event words
    else if bytes_eq word (codes "mkelem") then mkelem_event words
    else if bytes_eq word (codes "mkbranch") then mkbranch_event words
    else if bytes_eq word (codes "checkin") then checkin_event words
    else if bytes_eq word (codes "chmaster") then chmaster_event words
    else between_sites word words

-- whether a line is skipped: it has no words, or its first byte is `#`
abbrev pub is_skipped_line : List ℕ → Bool
is_skipped_line [] = false
is_skipped_line (b ∷ bs) = b == 35

-- these events before others, where the others could be read
abbrev pub before_others : List Event → Result (List Event) SiteError → Result (List Event) SiteError
before_others events (Ok others) = Ok (events ++ others)
before_others events (Err error) = Err error

-- what a line says, where it says anything
abbrev pub event_in : List (List ℕ) → Said (Option Event)
event_in [] = Ok None
event_in (word ∷ words) = says Some (event_by word words)

abbrev pub event_of_line : List ℕ → Said (Option Event)
event_of_line line = if is_skipped_line line then Ok None else event_in (words_of line)

-- what a line of this number says, before what the lines after it say
abbrev pub before_events : ℕ → Said (Option Event) → Result (List Event) SiteError → Result (List Event) SiteError
before_events number (Ok None) others = others
before_events number (Ok (Some event)) others = before_others (event ∷ []) others
before_events number (Err cause) others = Err (record { line = number; cause = cause })

-- what lines say, where so many stand above them
abbrev pub events_below : ℕ → List (List ℕ) → Result (List Event) SiteError
events_below above [] = Ok []
events_below above (line ∷ lines) = before_events (above + 1) (event_of_line line) (events_below (above + 1) lines)

-- the events of a text, or its first line that cannot be read
abbrev pub events_of : List ℕ → Result (List Event) SiteError
events_of text = events_below 0 (lines_of text)
