-- What a call writes and how it ends, worked out by hand: the numbers and lines of statuses, the texts that forms run, and what
-- is written where no base is opened.
use Rattle.std.proofs.Common.{◌≡◌, true, false, Some, None, List, [], ◌∷◌, map, refl}
use Rattle.std.specs.Fmt.{digits}
use Rattle.std.specs.Prelude.{codes}
use Rattle.cc_names.specs.declared.refusals.SessionCause.TheVariants as causes
use Rattle.cc_names.specs.declared.steps.StoryStep.{StoryStep}
use Rattle.cc_names.specs.declared.steps.StoryStep.TheVariants.{Opened}
use Rattle.large_session.specs.LargeSession.{large_session}
use Rattle.session_run.specs.Calls.Asked.{session_text_of}
use Rattle.session_run.specs.Calls.Sites.{sites_status, sites_text, text_unopened}
use Rattle.session_run.specs.Calls.Statuses.{cause_word, error_words, is_cut, number_of, status_line}
use Rattle.session_run.specs.Story.Begun.{is_through}
use Rattle.session_run.specs.declared.statuses.Status.{Status}
use Rattle.session_run.specs.declared.statuses.Status.TheVariants as statuses
use Rattle.session_run.specs.declared.words.Form.TheVariants as forms

-- line 3 of a session is a word of no command
abbrev bad_session : Status
bad_session = statuses.BadSession (record { line = 3; cause = causes.UnknownCommand })

-- all statuses, by their numbers
abbrev all : List Status
all =
    statuses.Good ∷ statuses.SomeFailed ∷ statuses.BadWords ∷ bad_session ∷ statuses.Damaged 12 ∷ statuses.ReadFault
    ∷ statuses.WriteFault ∷ statuses.DiskFault ∷ statuses.NoMemory ∷ statuses.TooLong ∷ []

numbers : map number_of all ≡ 0 ∷ 1 ∷ 2 ∷ 3 ∷ 4 ∷ 5 ∷ 6 ∷ 7 ∷ 8 ∷ 9 ∷ []
numbers = refl

-- the first two write what the session comes to; where writing fails or memory runs out, nothing further is written
lines : map status_line all
    ≡ [] ∷ [] ∷ codes "bad words\n" ∷ codes "bad session 3 UnknownCommand\n" ∷ codes "damaged 12\n" ∷ codes "read fault\n" ∷ []
    ∷ codes "disk fault\n" ∷ [] ∷ codes "too long\n" ∷ []
unfolding digits
lines = refl

cut_short : map is_cut all
    ≡ false ∷ false ∷ false ∷ false ∷ false ∷ false ∷ true ∷ false ∷ true ∷ false ∷ []
cut_short = refl

line_and_cause : error_words (record { line = 10; cause = causes.BadWord }) ≡ codes "10 BadWord"
unfolding digits
line_and_cause = refl

-- the causes, in the order in which a line is tested for them
cause_words :
    map cause_word (causes.NoPhase ∷ causes.NoLane ∷ causes.NoBody ∷ causes.TwoLanes ∷ causes.TooManyLanes ∷ causes.UnknownCommand
    ∷ causes.BadWord ∷ [])
    ≡ codes "NoPhase" ∷ codes "NoLane" ∷ codes "NoBody" ∷ codes "TwoLanes" ∷ codes "TooManyLanes" ∷ codes "UnknownCommand"
    ∷ codes "BadWord" ∷ []
cause_words = refl

-- a base was opened
abbrev opened : List StoryStep
opened = Opened [] (record { ticks = 0; faults = 0 }) true ∷ []

-- A session is run through where it ends well or a command failed, and where the disk failed under it. Where the sink failed,
-- `run` leaves the later phases out, and `big` and `verify` write after all of them.
run_through : map (λ status. is_through (Some forms.Run) status opened) all
    ≡ true ∷ true ∷ false ∷ false ∷ false ∷ false ∷ false ∷ true ∷ false ∷ false ∷ []
run_through = refl

big_through : map (λ status. is_through (Some (forms.Big 1 1)) status opened) all
    ≡ true ∷ true ∷ false ∷ false ∷ false ∷ false ∷ true ∷ true ∷ false ∷ false ∷ []
big_through = refl

verify_through : is_through (Some forms.Verify) statuses.WriteFault opened ≡ true
verify_through = refl

-- no base could be opened
nothing_through : map (λ status. is_through (Some forms.Verify) status []) (statuses.WriteFault ∷ statuses.DiskFault ∷ [])
    ≡ false ∷ false ∷ []
nothing_through = refl

-- the text of the session that a form runs: that of the source, where it is told, the large one, and none
run_text : session_text_of forms.Run (Some (codes "phase\n")) ≡ Some (codes "phase\n")
run_text = refl

untold_text : session_text_of forms.Run None ≡ None
untold_text = refl

big_text : session_text_of (forms.Big 7 2) None ≡ Some (large_session 7 2)
big_text = refl

verify_text : session_text_of forms.Verify (Some (codes "phase\n")) ≡ Some []
verify_text = refl

sites_run_none : session_text_of forms.Sites (Some (codes "site a\n")) ≡ Some []
sites_run_none = refl

-- texts of sites: each line is answered, one is refused, and one says nothing
answered : sites_status (codes "site a\nmkelem a\n") ≡ statuses.Good
answered = refl

replies : sites_text (codes "site a\nmkelem a\n") ≡ codes "1 site ok\n2 mkelem ok a:1\n"
unfolding digits
replies = refl

refused : sites_status (codes "site a\nsite a\n") ≡ statuses.SomeFailed
refused = refl

refusal : sites_text (codes "site a\nsite a\n") ≡ codes "1 site ok\n2 site refused V1 SiteExists a\n"
unfolding digits
refusal = refl

says_nothing : sites_status (codes "site a\nfrob a\n") ≡ statuses.BadSession (record { line = 2; cause = causes.UnknownCommand })
says_nothing = refl

too_few_words : sites_text (codes "site a\nmkelem\n") ≡ codes "bad session 2 BadWord\n"
unfolding digits
too_few_words = refl

no_sites : sites_text [] ≡ []
no_sites = refl

-- what is written where no base was opened: the replies of `sites`, else the line of the status
sites_written : text_unopened statuses.Good (Some forms.Sites) (Some (codes "site a\n")) ≡ Some (codes "1 site ok\n")
unfolding digits
sites_written = refl

sites_untold : text_unopened statuses.SomeFailed (Some forms.Sites) None ≡ None
sites_untold = refl

bad_words_written : text_unopened statuses.BadWords None (Some (codes "site a\n")) ≡ Some (codes "bad words\n")
bad_words_written = refl

damage_written : text_unopened (statuses.Damaged 3) (Some forms.Verify) None ≡ Some (codes "damaged 3\n")
unfolding digits
damage_written = refl

bad_line_written : text_unopened bad_session (Some forms.Run) (Some []) ≡ Some (codes "bad session 3 UnknownCommand\n")
unfolding digits
bad_line_written = refl

nothing_written : text_unopened statuses.NoMemory (Some forms.Run) (Some []) ≡ Some []
nothing_written = refl
