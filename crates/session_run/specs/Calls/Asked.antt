-- What a call is asked: the form of its words, and the session that it runs.
use Rattle.std.specs.Prelude.{ℕ, nat_le, nat_lt, Bool, true, false, ◌&&◌, Option, Some, None, option_and_then, Result, Ok, Err}
use Rattle.std.specs.Prelude.{List, [], ◌∷◌, codes, if◌then◌else◌}
use Rattle.std.specs.Str.{bytes_eq}
use Rattle.cc_names.specs.Numbers.{number_of}
use Rattle.cc_names.specs.declared.commands.Phase.{Phase}
use Rattle.cc_names.specs.declared.commands.Session.{Session}
use Rattle.cc_names.specs.declared.refusals.SessionError.{SessionError}
use Rattle.large_session.specs.LargeSession.{large_session}
use Rattle.session_text.specs.Sessions.{session_of}
use Rattle.session_run.specs.declared.words.Form.{Form}
use Rattle.session_run.specs.declared.words.Form.TheVariants as forms

-- the most bytes of a session's text
abbrev pub text_limit : ℕ
text_limit = 16777216

-- the greatest size of a large session
abbrev pub size_limit : ℕ
size_limit = 1000

-- a size from 1 to the greatest
abbrev pub size_within : ℕ → Option ℕ
size_within n = if nat_lt 0 n && nat_le n size_limit then Some n else None

-- the size that a word says
abbrev pub size_of : List ℕ → Option ℕ
size_of word = option_and_then size_within (number_of word)

-- the form of a large session, where it has a seed and a size
abbrev pub big_of : Option ℕ → Option ℕ → Option Form
big_of (Some seed) (Some size) = Some (forms.Big seed size)
big_of seed size = None

-- the form that three words after FILE say
abbrev pub big_form : List ℕ → List ℕ → List ℕ → Option Form
big_form word seed size = if bytes_eq word (codes "big") then big_of (number_of seed) (size_of size) else None

-- the form that one word after FILE says
abbrev pub plain_form : List ℕ → Option Form
plain_form word =
    if bytes_eq word (codes "run") then Some forms.Run
    else if bytes_eq word (codes "verify") then Some forms.Verify
    else if bytes_eq word (codes "sites") then Some forms.Sites
    else None

-- The forms of words: FILE `run`; FILE `verify`; FILE `big` SEED SIZE, both in decimal digits without leading zeros, the seed
-- below 2^64 and the size from 1 to 1,000; and FILE `sites`. All other words have none.
abbrev pub form_of : List (List ℕ) → Option Form
form_of (file ∷ word ∷ []) = plain_form word
form_of (file ∷ word ∷ seed ∷ size ∷ []) = big_form word seed size
form_of words = None

-- whether the words are of a form that reads the source: `run` reads a session there, `sites` a text of sites
abbrev pub reads_source : Option Form → Bool
reads_source (Some forms.Run) = true
reads_source (Some forms.Sites) = true
reads_source form = false

-- The text that a form carries out, where contracts know it: of `run` and `sites` what their source has left, of `big` the large
-- session.
-- `verify` has the text without lines.
abbrev pub text_of : Form → Option (List ℕ) → Option (List ℕ)
text_of forms.Run left = left
text_of (forms.Big seed size) left = Some (large_session seed size)
text_of forms.Verify left = Some []
text_of forms.Sites left = left

-- The text of the session that a form runs, where contracts know it. `verify` and `sites` run none: they have the text without
-- lines, which has no phase.
abbrev pub session_text_of : Form → Option (List ℕ) → Option (List ℕ)
session_text_of forms.Run left = left
session_text_of (forms.Big seed size) left = Some (large_session seed size)
session_text_of forms.Verify left = Some []
session_text_of forms.Sites left = Some []

-- whether a form writes nothing before its session is run through
abbrev pub writes_behind : Option Form → Bool
writes_behind (Some (forms.Big seed size)) = true
writes_behind (Some forms.Verify) = true
writes_behind form = false

-- the phases of a text that spells a session; none where it spells none
abbrev pub phases_read : Result Session SessionError → List Phase
phases_read (Ok session) = session.phases
phases_read (Err error) = []

-- the phases of a text
abbrev pub phases_spelled : List ℕ → List Phase
phases_spelled text = phases_read (session_of text)

-- whether a text spells a session
abbrev pub is_read : Result Session SessionError → Bool
is_read (Ok session) = true
is_read (Err error) = false

-- whether a text is a session
abbrev pub is_session : List ℕ → Bool
is_session text = is_read (session_of text)
