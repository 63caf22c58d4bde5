-- The session of each form: its text, and its phases, which can be run.
use Rattle.std.proofs.Common.{◌≡◌, ◌≢◌, ℕ, ◌+◌, ◌*◌, ◌≤◌, true, Option, Some, None, Ok, Err, List, [], ◌∷◌, ◌++◌, length, refl}
use Rattle.std.proofs.Common.{sym, subst, ap, ◌∙◌, arith}
use Rattle.std.specs.Prelude.{◌&&◌, Bool, codes, false, if◌then◌else◌, IfErr, IfOk, Result, IfSome, nat_le, nat_lt}
use Rattle.std.specs.Prelude.{option_and_then}
use Rattle.std.specs.Str.{bytes_eq}
use Rattle.std.specs.List.{AllByRecursion}
use Rattle.std.specs.Io.KnownBytes.{Consumes, IsAtEnd}
use Rattle.std.proofs.lemmas.Bool.Decides.{nat_tests}
use Rattle.std.proofs.lemmas.List.{append-nil}
use Rattle.cc_names.specs.Counts.{raised_count}
use Rattle.cc_outside.specs.GhostStates.{SourceState}
use Rattle.cc_names.specs.declared.commands.Change.{Change}
use Rattle.cc_names.specs.declared.commands.Change.TheVariants as changes
use Rattle.cc_names.specs.declared.commands.Clearmake.{Clearmake}
use Rattle.cc_names.specs.declared.commands.Command.{Command}
use Rattle.cc_names.specs.declared.commands.Command.TheVariants as commands
use Rattle.cc_names.specs.declared.commands.Macro.{Macro}
use Rattle.cc_names.specs.declared.commands.Lane.{Lane}
use Rattle.cc_names.specs.declared.commands.Phase.{Phase}
use Rattle.cc_names.specs.declared.commands.Session.{Session}
use Rattle.session_text.specs.Formed.{IsChange, IsClearmake, IsCommand, IsFormedSession, IsLane, IsMacro, IsPhase}
use Rattle.session_text.specs.Sessions.{session_of}
use Rattle.large_session.specs.LargeSession.{large_session}
use Rattle.story_log.specs.declared.opening.OpenCause.TheVariants as opens
use Rattle.cc_names.specs.Numbers.{number_of}
use Rattle.session_run.specs.Calls.Asked.{big_of, form_of, is_read, is_session, phases_read, phases_spelled, reads_source}
use Rattle.session_run.specs.Calls.Asked.{session_text_of, size_limit, size_of, size_within, text_limit, text_of}
use Rattle.session_run.specs.Calls.Causes.{Intake, IsIntakeRead, IsUnread, Takes, TakesNoMore, intake_by, session_text}
use Rattle.session_run.specs.Running.Runs.{IsReadyPhase, IsRunnable}
use Rattle.session_run.specs.Running.Unstarted.{GivesPhases, GivesSites, GivesText, HasPhases, IsGivenBy, IsNotGivenBy, IsShort}
use Rattle.session_run.specs.Running.Unstarted.{IsWithoutBase, IsSaid, IsUnsaid, IsUnstarted}
use Rattle.session_run.specs.declared.sessions.GivenSession.{GivenSession}
use Rattle.session_run.specs.declared.sessions.Unstarted.{Unstarted}
use Rattle.session_run.specs.declared.sessions.Unstarted.TheVariants as why
use Rattle.session_run.specs.declared.sessions.WithoutBase.{WithoutBase}
use Rattle.session_run.specs.declared.sessions.WithoutBase.TheVariants as without
use Rattle.session_run.specs.declared.words.Form.{Form}
use Rattle.session_run.specs.declared.words.Form.TheVariants as forms

-- what has a form within a limit has it within a greater one
all_wider : {A : Type 0} (P Q : A → Type 0) (xs : List A) → ((x : A) → P x → Q x) → AllByRecursion P xs → AllByRecursion Q xs
all_wider P Q [] f h = tt
all_wider P Q (x ∷ xs) f h = (f x h.0, all_wider P Q xs f h.1)

wider_macro : (l m : ℕ) → l ≤ m → (x : Macro) → IsMacro l x → IsMacro m x
wider_macro l m le x h = (h.0, h.1, omega (arith, le, h.2), omega (arith, le, h.3), h.4)

wider_change : (l m : ℕ) → l ≤ m → (change : Change) → IsChange l change → IsChange m change
wider_change l m le (changes.Setcs view text) h = (h.0, omega (arith, le, h.1))
wider_change l m le (changes.Save view path text) h = (h.0, h.1, omega (arith, le, h.2))
wider_change l m le change h = h

wider_build : (l m : ℕ) → l ≤ m → (asked : Clearmake) → IsClearmake l asked → IsClearmake m asked
wider_build l m le asked h = (
  h.0,
  h.1,
  h.2,
  h.3,
  ((omega (arith, le, h.4.0.0), all_wider _ _ asked.macros (wider_macro l m le) h.4.0.1), h.4.1),
  (omega (arith, le, h.5.0), h.5.1),
)

wider_command : (l m : ℕ) → l ≤ m → (command : Command) → IsCommand l command → IsCommand m command
wider_command l m le (commands.Change change) h = wider_change l m le change h
wider_command l m le (commands.Query query) h = h
wider_command l m le (commands.Build asked) h = wider_build l m le asked h

wider_lane : (l m : ℕ) → l ≤ m → (lane : Lane) → IsLane l lane → IsLane m lane
wider_lane l m le lane h = (h.0, (omega (arith, le, h.1.0), all_wider _ _ lane.commands (wider_command l m le) h.1.1))

wider_phase : (l m : ℕ) → l ≤ m → (phase : Phase) → IsPhase l phase → IsPhase m phase
wider_phase l m le phase h = (h.0, all_wider _ _ phase.lanes (wider_lane l m le) h.1)

both_ready : (limit : ℕ) (phases : List Phase) → limit ≤ text_limit → AllByRecursion (IsPhase limit) phases
    → AllByRecursion IsReadyPhase phases
both_ready limit [] le f = tt
both_ready limit (phase ∷ phases) le f = (wider_phase limit text_limit le phase f.0, both_ready limit phases le f.1)

-- the phases of a session that was read can be run
are_runnable : (text : List ℕ) (session : Session) → length text ≤ text_limit → IsFormedSession (length text) session
    → IsRunnable session.phases
are_runnable text session le formed =
    record { few = omega (arith, le, formed.0); ready = both_ready (length text) session.phases le formed.1 }

-- what a source that tells its bytes had left is what was read to the end
modeled_text : (old new : Option (List ℕ)) (text : List ℕ) → Consumes old new text → IsAtEnd new
    → IfSome old (λ bytes. bytes ≡ text)
modeled_text None new text h end = tt
modeled_text (Some xs) None text h end = absurd h
modeled_text (Some xs) (Some ys) text h end = h ∙ ap (λ rest. text ++ rest) end ∙ append-nil text

of_text : (old : Option (List ℕ)) (text : List ℕ) (P : List ℕ → Type 0) → P text → IfSome old (λ bytes. bytes ≡ text)
    → IfSome old P
of_text None text P p is = tt
of_text (Some bytes) text P p is = subst P (sym is) p

-- what is known of a text, by what follows
map_modeled : (o : Option (List ℕ)) (P Q : List ℕ → Type 0) → ((bytes : List ℕ) → P bytes → Q bytes) → IfSome o P → IfSome o Q
map_modeled None P Q f h = tt
map_modeled (Some bytes) P Q f h = f bytes h

-- the text of a session that was read, and its phases
pub has_phases : (text : List ℕ) (session : Session) → length text ≤ text_limit → session_of text ≡ Ok session
    → IsFormedSession (length text) session → HasPhases text session.phases
has_phases text session le e formed = record {
  session = ap is_read e;
  spelled = ap phases_read e;
  runnable = are_runnable text session le formed;
}

-- the text that a source gave to its end, for a form that reads it
pub gives_read : (form : Form) (asked : Option Form) (old new : SourceState) (text : List ℕ) → reads_source (Some form) ≡ true
    → Consumes old.left new.left text → IsAtEnd new.left → length text ≤ text_limit
    → new.given ≡ raised_count old.given (length text) → new.faults ≡ old.faults → GivesText form (intake_by asked old new) text
gives_read form asked old new text reads taken end le given faultless =
    record { taken = by_form form reads; is = left_by form reads; short = le }
  where
    is : IfSome old.left (λ bytes. bytes ≡ text)
    is = modeled_text old.left new.left text taken end

    read : IsIntakeRead (intake_by asked old new)
    read = record {
      at_end = end;
      count = length text;
      within = le;
      given = given;
      bytes = of_text old.left text (λ bytes. length bytes ≡ length text) refl is;
      faultless = faultless;
    }

    by_form : (form : Form) → reads_source (Some form) ≡ true → Takes form (intake_by asked old new)
    by_form forms.Run reads = read
    by_form (forms.Big seed size) reads = absurd (cc)
    by_form forms.Verify reads = absurd (cc)
    by_form forms.Sites reads = read

    left_by : (form : Form) → reads_source (Some form) ≡ true → IfSome (text_of form old.left) (λ bytes. bytes ≡ text)
    left_by forms.Run reads = is
    left_by (forms.Big seed size) reads = absurd (cc)
    left_by forms.Verify reads = absurd (cc)
    left_by forms.Sites reads = is

-- the large session of a size within its limit
pub gives_big : (seed size : ℕ) (intake : Intake) (text : List ℕ) → IsUnread intake → size ≤ size_limit
    → text ≡ large_session seed size → length text ≤ 600 + 300 * size → GivesText (forms.Big seed size) intake text
gives_big seed size intake text unread within same short = record {
  taken = unread;
  is = sym same;
  short = omega (arith, within, short);
}

-- a source that was not called gave nothing
pub takes_none : (intake : Intake) → IsUnread intake → intake.ended.after ≡ intake.ended.before → TakesNoMore intake
takes_none intake unread same = record {
  most = omega (arith, unread.given);
  unread = λ reads. unread;
  rests = λ none. rw (same ∙ none) tt;
}

-- no session
pub gives_none : (intake : Intake) (text : List ℕ) → IsUnread intake → text ≡ [] → GivesText forms.Verify intake text
gives_none intake text unread empty = record { taken = unread; is = sym empty; short = omega (arith, ap length empty) }

-- words that have a form say a size within its limit
size_is_within : (n size : ℕ) → size_within n ≡ Some size → size ≤ size_limit
size_is_within n size h = by (nat_lt 0 n && nat_le n size_limit) refl h
  where
    by : (t : Bool) → (nat_lt 0 n && nat_le n size_limit) ≡ t → (if t then Some n else None) ≡ Some size → size ≤ size_limit
    by true within is = let same : n ≡ size = cc in grind (arith, nat_tests)
    by false beyond is = absurd (cc)

said_size : (o : Option ℕ) (size : ℕ) → option_and_then size_within o ≡ Some size → size ≤ size_limit
said_size None size h = absurd (cc)
said_size (Some n) size h = size_is_within n size h

said_big : (seed size : ℕ) (one two : Option ℕ) → big_of one two ≡ Some (forms.Big seed size) → two ≡ Some size
said_big seed size None two h = absurd (cc)
said_big seed size (Some a) None h = absurd (cc)
said_big seed size (Some a) (Some b) h = cc

not_big : (t u v : Bool) (seed size : ℕ) → (if t then Some forms.Run else if u then Some forms.Verify else if v then Some
    forms.Sites else None) ≡ Some (forms.Big seed size) → ⊥
not_big true u v seed size h = cc
not_big false true v seed size h = cc
not_big false false true seed size h = cc
not_big false false false seed size h = cc

words_say : (words : List (List ℕ)) (seed size : ℕ) → form_of words ≡ Some (forms.Big seed size) → size ≤ size_limit
words_say [] seed size h = absurd (cc)
words_say (file ∷ []) seed size h = absurd (cc)
words_say (file ∷ word ∷ []) seed size h = absurd (not_big (bytes_eq word (codes "run")) (bytes_eq word (codes "verify"))
    (bytes_eq word (codes "sites")) seed size h)
words_say (file ∷ word ∷ one ∷ []) seed size h = absurd (cc)
words_say (file ∷ word ∷ one ∷ two ∷ []) seed size h = by (bytes_eq word (codes "big")) h
  where
    by : (t : Bool) → (if t then big_of (number_of one) (size_of two) else None) ≡ Some (forms.Big seed size) → size ≤ size_limit
    by true is = said_size (number_of two) size (said_big seed size (number_of one) (size_of two) is)
    by false is = absurd (cc)
words_say (file ∷ word ∷ one ∷ two ∷ more ∷ rest) seed size h = absurd (cc)

pub are_said : (words : List (List ℕ)) (form : Form) → form_of words ≡ Some form → IsSaid form
are_said words forms.Run h = tt
are_said words forms.Verify h = tt
are_said words forms.Sites h = tt
are_said words (forms.Big seed size) h = words_say words seed size h

-- a form that runs a session carries out its text
session_text_is : (form : Form) (left : Option (List ℕ)) → form ≢ forms.Sites → text_of form left ≡ session_text_of form left
session_text_is forms.Run left base = refl
session_text_is (forms.Big seed size) left base = refl
session_text_is forms.Verify left base = refl
session_text_is forms.Sites left base = absurd (base refl)

modeled_session : (intake : Intake) (form : Form) → intake.form ≡ Some form → form ≢ forms.Sites
    → text_of form intake.text.before ≡ session_text intake
modeled_session intake form words base =
    session_text_is form intake.text.before base ∙ sym (ap (λ asked. option_and_then
    (λ form. session_text_of form intake.text.before) asked) words)

pub gives_phases : (intake : Intake) (form : Form) (text : List ℕ) (phases : List Phase) → intake.form ≡ Some form
    → form ≢ forms.Sites → GivesText form intake text → HasPhases text phases → GivesPhases intake form phases
gives_phases intake form text phases words base gives has =
    let modeled = modeled_session intake form words base in
    record {
      words = words;
      taken = gives.taken;
      spelled = subst (λ o. IfSome o (λ bytes. phases_spelled bytes ≡ phases)) modeled
          (map_modeled (text_of form intake.text.before) (λ bytes. bytes ≡ text) (λ bytes. phases_spelled bytes ≡ phases)
          (λ bytes is. ap phases_spelled is ∙ has.spelled) gives.is);
      session = subst (λ o. IfSome o (λ bytes. is_session bytes ≡ true)) modeled
          (map_modeled (text_of form intake.text.before) (λ bytes. bytes ≡ text) (λ bytes. is_session bytes ≡ true)
          (λ bytes is. ap is_session is ∙ has.session) gives.is);
      runnable = has.runnable;
      none = λ check.
          let empty = subst (λ f. IfSome (text_of f intake.text.before) (λ bytes. bytes ≡ text)) check gives.is in
          sym (ap phases_spelled empty ∙ has.spelled);
      base = base;
    }

-- the text of sites that a source gave
pub gives_sites : (intake : Intake) (form : Form) (text : List ℕ) → intake.form ≡ Some form → form ≡ forms.Sites
    → GivesText form intake text → GivesSites intake text
gives_sites intake form text words sites gives =
    let gave : GivesText forms.Sites intake text = subst (λ f. GivesText f intake text) sites gives in
    record { words = words ∙ ap Some sites; read = gave.taken; is = gave.is; short = gave.short }

-- a text that gives no phases gives none to the words
pub unsaid : (intake : Intake) (form : Form) (text : List ℕ) (unstarted : Unstarted) → intake.form ≡ Some form
    → form ≢ forms.Sites → GivesText form intake text → IsUnsaid text unstarted → IsUnstarted unstarted intake
unsaid intake form text (why.BadSession error) words base gives h =
    let modeled = modeled_session intake form words base in (
      record { form = form; words = words; taken = gives.taken },
      subst (λ o. IfSome o (λ bytes. session_of bytes ≡ Err error))
          modeled (map_modeled (text_of form intake.text.before) (λ bytes. bytes ≡ text) (λ bytes. session_of bytes ≡ Err error)
          (λ bytes is. ap session_of is ∙ h) gives.is),
    )
unsaid intake form text (why.Unopened opens.NoMemory) words base gives h = tt
unsaid intake form text (why.Unopened opens.DiskFault) words base gives h = absurd h
unsaid intake form text (why.Unopened (opens.Damaged row)) words base gives h = absurd h
unsaid intake form text why.BadWords words base gives h = absurd h
unsaid intake form text why.ReadFault words base gives h = absurd h
unsaid intake form text why.TooLong words base gives h = absurd h

-- what a form gives with a text that its words were given
pub given_so : (intake : Intake) (form : Form) (text : List ℕ) (r : Result GivenSession WithoutBase) → intake.form ≡ Some form
    → GivesText form intake text → IfOk r (IsGivenBy form text) → IfOk r
    (λ given. GivesPhases intake given.form given.phases.items)
given_so intake form text (Ok given) words gives is =
    subst (λ f. GivesPhases intake f given.phases.items) (sym is.form_is)
    (gives_phases intake form text given.phases.items words is.base gives is.has)
given_so intake form text (Err without) words gives is = tt

pub not_given_so : (intake : Intake) (form : Form) (text : List ℕ) (r : Result GivenSession WithoutBase) → intake.form ≡ Some form
    → GivesText form intake text → IfErr r (IsNotGivenBy form text) → IfErr r (λ without. IsWithoutBase without intake)
not_given_so intake form text (Ok given) words gives is = tt
not_given_so intake form text (Err (without.Line unstarted)) words gives is =
    unsaid intake form text unstarted words is.0 gives is.1
not_given_so intake form text (Err (without.Replies replied)) words gives is =
    subst (GivesSites intake) (sym is.1) (gives_sites intake form text words is.0 gives)

-- a text of sites that was given is within the limit
pub is_short : (without : WithoutBase) (intake : Intake) → IsWithoutBase without intake → IsShort without
is_short (without.Line unstarted) intake h = tt
is_short (without.Replies text) intake h = h.short
