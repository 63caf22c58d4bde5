-- What is read as a session has the form of one.
use Rattle.std.proofs.Common.{◌≡◌, ℕ, ◌+◌, ◌<◌, ◌≤◌, Bool, true, false, cond, Option, Some, None, List, [], ◌∷◌, length}
use Rattle.std.proofs.Common.{length-append, refl, arith}
use Rattle.std.specs.Prelude.{Ok, Err, IfOk, nat_le, not, map, ◌==◌, codes}
use Rattle.std.specs.List.{AllByRecursion, slice_split, onto_first}
use Rattle.std.specs.Str.{bytes_eq}
use Rattle.std.proofs.lemmas.Bool.{leb-false}
use Rattle.cc_names.specs.Cuts.{lines_of, without_empty_end, without_empty, is_newline, is_blank, words_of}
use Rattle.cc_names.specs.Names.{IsName}
use Rattle.cc_names.specs.declared.commands.Command.{Command}
use Rattle.cc_names.specs.declared.commands.Lane.{Lane}
use Rattle.cc_names.specs.declared.refusals.SessionCause.{SessionCause}
use Rattle.cc_names.specs.declared.refusals.SessionCause.TheVariants as causes
use Rattle.cc_names.specs.declared.refusals.SessionError.{SessionError}
use Rattle.session_text.specs.declared.kinds.Kind.{Kind}
use Rattle.session_text.specs.declared.kinds.Kind.TheVariants as kinds
use Rattle.session_text.specs.Kinds.{session_line_kind, kinds_of, kind_of_words}
use Rattle.session_text.specs.Commands.{command_of}
use Rattle.session_text.specs.Shapes.{view}
use Rattle.session_text.specs.Words.{Said}
use Rattle.session_text.specs.Sessions.{Above, nothing, cause_where_or, cause_in, is_taken, lane_of, cause_of, with_lane}
use Rattle.session_text.specs.Sessions.{above_next, error_or, first_error, body_of, before_commands, before_lanes, commands_of}
use Rattle.session_text.specs.Sessions.{lanes_of, phases_of}
use Rattle.session_text.specs.Formed.{IsCommand, IsLane, IsPhase, IsFormedSession, HasAtMost}
use Rattle.cc_names.proofs.LinesAndWords.{length-lines_of}
use Rattle.session_text.proofs.FormedCommands.{command_is}
use Rattle.session_text.proofs.FormedWords.{view_is}

-- the bytes of lines or words, what parts them aside
total : List (List ℕ) → ℕ
total [] = 0
total (line ∷ lines) = length line + total lines

total-onto : (b : ℕ) (parts : List (List ℕ)) → total (onto_first b parts) ≤ 1 + total parts
unfolding total
total-onto b [] = omega arith
total-onto b (part ∷ parts) = omega arith

total-split : (p : ℕ → Bool) (text : List ℕ) → total (slice_split p text) ≤ length text
unfolding total
total-split p [] = omega arith
total-split p (b ∷ bs) = by_first (p b) (slice_split p bs) (total-split p bs)
  where
    by_first : (here : Bool) (parts : List (List ℕ)) → total parts ≤ length bs
        → total (cond here ([] ∷ parts) (onto_first b parts)) ≤ length (b ∷ bs)
    by_first true parts h = omega arith
    by_first false parts h = let e = total-onto b parts in omega arith

total-without_empty_end : (parts : List (List ℕ)) → total (without_empty_end parts) ≤ total parts
unfolding total
total-without_empty_end [] = omega arith
total-without_empty_end ([] ∷ []) = omega arith
total-without_empty_end ([] ∷ part ∷ parts) = let more = total-without_empty_end (part ∷ parts) in omega arith
total-without_empty_end ((b ∷ bs) ∷ parts) = let more = total-without_empty_end parts in omega arith

total-lines_of : (text : List ℕ) → total (lines_of text) ≤ length text
total-lines_of text = omega (arith, total-without_empty_end (slice_split is_newline text), total-split is_newline text)

total-words : (parts : List (List ℕ)) → total (without_empty parts) ≤ total parts
unfolding total
total-words [] = omega arith
total-words ([] ∷ parts) = let more = total-words parts in omega arith
total-words ((b ∷ bs) ∷ parts) = let more = total-words parts in omega arith

length-words : (parts : List (List ℕ)) → length (without_empty parts) ≤ total parts
unfolding total
length-words [] = omega arith
length-words ([] ∷ parts) = let more = length-words parts in omega arith
length-words ((b ∷ bs) ∷ parts) = let more = length-words parts in omega arith

each-within : (limit : ℕ) (words : List (List ℕ)) → total words ≤ limit → AllByRecursion (λ word. length word ≤ limit) words
unfolding total
each-within limit [] h = tt
each-within limit (word ∷ words) h = (omega arith, each-within limit words (omega arith))

-- words that are not too many, none of which is too long
IsNarrow : ℕ → List (List ℕ) → Type 0
IsNarrow limit words = (length words ≤ limit) × AllByRecursion (λ word. length word ≤ limit) words

words_narrow : (limit : ℕ) (line : List ℕ) → length line ≤ limit → IsNarrow limit (words_of line)
unfolding IsNarrow
words_narrow limit line h =
    let all = total-split is_blank line in
    let few = length-words (slice_split is_blank line) in
    let less = total-words (slice_split is_blank line) in
    (omega arith, each-within limit (words_of line) (omega arith))

-- a line whose words are so
IsNarrowKind : ℕ → Kind → Type 0
IsNarrowKind limit kinds.Skipped = Unit {0}
IsNarrowKind limit (kinds.Body bytes) = Unit {0}
IsNarrowKind limit (kinds.Phase words) = Unit {0}
IsNarrowKind limit (kinds.Lane words) = Unit {0}
IsNarrowKind limit (kinds.Command word words) = IsNarrow limit words

said_narrow : (limit : ℕ) (words : List (List ℕ)) → IsNarrow limit words → IsNarrowKind limit (kind_of_words words)
unfolding IsNarrow IsNarrowKind
said_narrow limit [] h = (omega arith, tt)
said_narrow limit (word ∷ words) h = by (bytes_eq word (codes "phase")) (bytes_eq word (codes "lane"))
  where
    by : (phase lane : Bool) → IsNarrowKind limit (cond phase (kinds.Phase words)
        (cond lane (kinds.Lane words) (kinds.Command word words)))
    by true lane = tt
    by false true = tt
    by false false = let few : length words ≤ limit = omega (arith, h.0) in (few, h.1.1)

kind_narrow : (limit : ℕ) (line : List ℕ) → length line ≤ limit → IsNarrowKind limit (session_line_kind line)
unfolding IsNarrowKind
kind_narrow limit [] h = tt
kind_narrow limit (b ∷ bs) h = by (b == 35) (b == 124)
  where
    by : (skips bars : Bool) → IsNarrowKind limit (cond skips kinds.Skipped
        (cond bars (kinds.Body bs) (kind_of_words (words_of (b ∷ bs)))))
    by true bars = tt
    by false true = tt
    by false false = said_narrow limit (words_of (b ∷ bs)) (words_narrow limit (b ∷ bs) h)

-- a body line is longer than its bytes
IsShorter : Kind → List ℕ → Type 0
IsShorter (kinds.Body bytes) line = length bytes + 1 ≤ length line
IsShorter _ line = Unit {0}

said_shorter : (words : List (List ℕ)) (line : List ℕ) → IsShorter (kind_of_words words) line
unfolding IsShorter
said_shorter [] line = tt
said_shorter (word ∷ words) line = by (bytes_eq word (codes "phase")) (bytes_eq word (codes "lane"))
  where
    by : (phase lane : Bool) → IsShorter (cond phase (kinds.Phase words)
        (cond lane (kinds.Lane words) (kinds.Command word words))) line
    by true lane = tt
    by false true = tt
    by false false = tt

line_shorter : (line : List ℕ) → IsShorter (session_line_kind line) line
unfolding IsShorter
line_shorter [] = tt
line_shorter (b ∷ bs) = by (b == 35) (b == 124)
  where
    by : (skips bars : Bool) → IsShorter (cond skips kinds.Skipped (cond bars (kinds.Body bs)
        (kind_of_words (words_of (b ∷ bs))))) (b ∷ bs)
    by true bars = tt
    by false true = omega arith
    by false false = said_shorter (words_of (b ∷ bs)) (b ∷ bs)

text_longer : (kind : Kind) (line : List ℕ) (rest : List Kind) → IsShorter kind line
    → length (body_of (kind ∷ rest)) ≤ length line + length (body_of rest)
unfolding IsShorter
text_longer kinds.Skipped line rest h = omega arith
text_longer (kinds.Body bytes) line rest h = let e = length-append bytes (10 ∷ body_of rest) in omega arith
text_longer (kinds.Phase words) line rest h = omega arith
text_longer (kinds.Lane words) line rest h = omega arith
text_longer (kinds.Command word words) line rest h = omega arith

-- a body has no more bytes than its lines
body_within : (lines : List (List ℕ)) → length (body_of (map session_line_kind lines)) ≤ total lines
unfolding total
body_within [] = omega arith
body_within (line ∷ lines) =
    let more = body_within lines in
    let here = text_longer (session_line_kind line) line (map session_line_kind lines) (line_shorter line) in
    omega arith

one_more : (kind_of_words : Said Command) (commands : List Command) → length (before_commands kind_of_words commands)
    ≤ 1 + length commands
one_more (Ok command) commands = omega arith
one_more (Err cause) commands = omega arith

commands_more : (kind : Kind) (rest : List Kind) → length (commands_of (kind ∷ rest)) ≤ 1 + length (commands_of rest)
commands_more kinds.Skipped rest = omega arith
commands_more (kinds.Body bytes) rest = omega arith
commands_more (kinds.Phase words) rest = omega arith
commands_more (kinds.Lane words) rest = omega arith
commands_more (kinds.Command word words) rest = one_more (command_of word words (body_of rest)) (commands_of rest)

commands_within : (lines : List (List ℕ)) → length (commands_of (map session_line_kind lines)) ≤ length lines
commands_within [] = omega arith
commands_within (line ∷ lines) =
    let more = commands_within lines in
    let here = commands_more (session_line_kind line) (map session_line_kind lines) in
    omega arith

one_formed : (limit : ℕ) (kind_of_words : Said Command) (commands : List Command) → IfOk kind_of_words (IsCommand limit)
    → AllByRecursion (IsCommand limit) commands → AllByRecursion (IsCommand limit) (before_commands kind_of_words commands)
one_formed limit (Ok command) commands c cs = (c, cs)
one_formed limit (Err cause) commands c cs = cs

commands_preserved : (limit : ℕ) (kind : Kind) (rest : List Kind) → IsNarrowKind limit kind → length (body_of rest) ≤ limit
    → AllByRecursion (IsCommand limit) (commands_of rest) → AllByRecursion (IsCommand limit) (commands_of (kind ∷ rest))
unfolding IsNarrow IsNarrowKind
commands_preserved limit kinds.Skipped rest n t cs = cs
commands_preserved limit (kinds.Body bytes) rest n t cs = cs
commands_preserved limit (kinds.Phase words) rest n t cs = tt
commands_preserved limit (kinds.Lane words) rest n t cs = tt
commands_preserved limit (kinds.Command word words) rest n t cs =
    one_formed limit (command_of word words (body_of rest)) (commands_of rest)
    (command_is limit word words (body_of rest) n.0 n.1 t) cs

commands_formed : (limit : ℕ) (lines : List (List ℕ)) → total lines ≤ limit
    → AllByRecursion (IsCommand limit) (commands_of (map session_line_kind lines))
unfolding total
commands_formed limit [] t = tt
commands_formed limit (line ∷ lines) t =
    let less : total lines ≤ limit = omega arith in
    let here : length line ≤ limit = omega arith in
    let within : length (body_of (map session_line_kind lines)) ≤ limit = omega (arith, body_within lines) in
    commands_preserved limit (session_line_kind line) (map session_line_kind lines) (kind_narrow limit line here) within
    (commands_formed limit lines less)

lane_formed : (limit : ℕ) (name : Said (List ℕ)) (commands : List Command) (lanes : List Lane) → IfOk name IsName
    → HasAtMost limit (IsCommand limit) commands → AllByRecursion (IsLane limit) lanes
    → AllByRecursion (IsLane limit) (before_lanes name commands lanes)
lane_formed limit (Ok name) commands lanes n c ls = ((n, c), ls)
lane_formed limit (Err cause) commands lanes n c ls = ls

lanes_preserved : (limit : ℕ) (kind : Kind) (rest : List Kind) → HasAtMost limit (IsCommand limit) (commands_of rest)
    → AllByRecursion (IsLane limit) (lanes_of rest) → AllByRecursion (IsLane limit) (lanes_of (kind ∷ rest))
lanes_preserved limit kinds.Skipped rest c ls = ls
lanes_preserved limit (kinds.Body bytes) rest c ls = ls
lanes_preserved limit (kinds.Phase words) rest c ls = tt
lanes_preserved limit (kinds.Lane words) rest c ls = lane_formed limit (view words) (commands_of rest) (lanes_of rest)
    (view_is words) c ls
lanes_preserved limit (kinds.Command word words) rest c ls = ls

lanes_formed : (limit : ℕ) (lines : List (List ℕ)) → total lines ≤ limit → length lines ≤ limit
    → AllByRecursion (IsLane limit) (lanes_of (map session_line_kind lines))
unfolding total
lanes_formed limit [] t n = tt
lanes_formed limit (line ∷ lines) t n =
    let less : total lines ≤ limit = omega arith in
    let fewer : length lines ≤ limit = omega arith in
    let count : length (commands_of (map session_line_kind lines)) ≤ limit = omega (arith, commands_within lines) in
    lanes_preserved limit (session_line_kind line) (map session_line_kind lines) (
      count,
      commands_formed limit lines less,
    ) (lanes_formed limit lines less fewer)

-- where a line `lane` stands right, there are not too many lanes above it
few_lanes : (lanes words : List (List ℕ)) (outside : Bool) → cause_where_or outside causes.NoPhase
    (cause_in (lane_of lanes words)) ≡ None → length lanes < 64
few_lanes lanes words true h = cc
few_lanes lanes words false h = by (is_taken lanes words) (nat_le 64 (length lanes)) refl h
  where
    by : (taken many : Bool) → nat_le 64 (length lanes) ≡ many → cause_in
        (cond taken (Err causes.TwoLanes) (cond many (Err causes.TooManyLanes) (view words))) ≡ None → length lanes < 64
    by true many m h = cc
    by false true m h = cc
    by false false m h = leb-false 64 (length lanes) m

one_lane_more : (name : Said (List ℕ)) (lanes : List (List ℕ)) (commands : List Command) (more : List Lane) → length lanes < 64
    → (length (with_lane lanes name) ≤ 64 → length (with_lane lanes name) + length more ≤ 64)
    → length lanes + length (before_lanes name commands more) ≤ 64
one_lane_more (Ok name) lanes commands more l h =
    let len = length-append lanes (name ∷ []) in
    let fits = h (omega arith) in
    omega arith
one_lane_more (Err cause) lanes commands more l h = h (omega arith)

-- a phase takes no lane past the last that it may have
lanes_step : (kind : Kind) (above : Above) (rest : List Kind) → cause_of above kind (body_of rest) ≡ None
    → (length (above_next above kind (body_of rest)).lanes ≤ 64 → length (above_next above kind (body_of rest)).lanes + length
    (lanes_of rest) ≤ 64) → length above.lanes ≤ 64 → length above.lanes + length (lanes_of (kind ∷ rest)) ≤ 64
lanes_step kinds.Skipped above rest n h l = h l
lanes_step (kinds.Body bytes) above rest n h l = h l
lanes_step (kinds.Phase words) above rest n h l = omega arith
lanes_step (kinds.Lane words) above rest n h l =
    one_lane_more (view words) above.lanes (commands_of rest) (lanes_of rest) (few_lanes above.lanes words (not above.in_phase) n)
    h
lanes_step (kinds.Command word words) above rest n h l = h l

pub no_error : (n : ℕ) (cause : Option SessionCause) (later : Option SessionError) → error_or n cause later ≡ None
    → (cause ≡ None)
    × (later ≡ None)
no_error n (Some cause) later h = cc
no_error n None later h = (refl, h)

lanes_within : (n : ℕ) (above : Above) (lines : List Kind) → first_error n above lines ≡ None → length above.lanes ≤ 64
    → length above.lanes + length (lanes_of lines) ≤ 64
lanes_within n above [] e l = omega arith
lanes_within n above (line ∷ lines) e l =
    let right = no_error (n + 1) (cause_of above line (body_of lines))
    (first_error (n + 1) (above_next above line (body_of lines)) lines) e in
    lanes_step line above lines right.0 (lanes_within (n + 1) (above_next above line (body_of lines)) lines right.1) l

phases_more : (kind : Kind) (rest : List Kind) → length (phases_of (kind ∷ rest)) ≤ 1 + length (phases_of rest)
phases_more kinds.Skipped rest = omega arith
phases_more (kinds.Body bytes) rest = omega arith
phases_more (kinds.Phase words) rest = omega arith
phases_more (kinds.Lane words) rest = omega arith
phases_more (kinds.Command word words) rest = omega arith

phases_within : (lines : List (List ℕ)) → length (phases_of (map session_line_kind lines)) ≤ length lines
phases_within [] = omega arith
phases_within (line ∷ lines) =
    let more = phases_within lines in
    let here = phases_more (session_line_kind line) (map session_line_kind lines) in
    omega arith

phases_preserved : (limit : ℕ) (kind : Kind) (above : Above) (rest : List Kind)
    → (length (above_next above kind (body_of rest)).lanes ≤ 64 → length (above_next above kind (body_of rest)).lanes + length
    (lanes_of rest) ≤ 64)
    → AllByRecursion (IsLane limit) (lanes_of rest) → AllByRecursion (IsPhase limit) (phases_of rest)
    → AllByRecursion (IsPhase limit) (phases_of (kind ∷ rest))
phases_preserved limit kinds.Skipped above rest n ls ps = ps
phases_preserved limit (kinds.Body bytes) above rest n ls ps = ps
phases_preserved limit (kinds.Phase words) above rest n ls ps = let fits = n (omega arith) in ((omega arith, ls), ps)
phases_preserved limit (kinds.Lane words) above rest n ls ps = ps
phases_preserved limit (kinds.Command word words) above rest n ls ps = ps

phases_formed : (limit n : ℕ) (above : Above) (lines : List (List ℕ)) → first_error n above (map session_line_kind lines) ≡ None
    → total lines ≤ limit → length lines ≤ limit → AllByRecursion (IsPhase limit) (phases_of (map session_line_kind lines))
unfolding total
phases_formed limit n above [] e t c = tt
phases_formed limit n above (line ∷ lines) e t c =
    let rest = map session_line_kind lines in
    let next = above_next above (session_line_kind line) (body_of rest) in
    let right = no_error (n + 1) (cause_of above (session_line_kind line) (body_of rest)) (first_error (n + 1) next rest) e in
    let less : total lines ≤ limit = omega arith in
    let fewer : length lines ≤ limit = omega arith in
    phases_preserved limit (session_line_kind line) above rest (lanes_within (n + 1) next rest right.1)
    (lanes_formed limit lines less fewer)
    (phases_formed limit (n + 1) next lines right.1 less fewer)

-- what is read where no line stands wrong is well formed
pub phases_read : (text : List ℕ) → first_error 0 nothing (kinds_of text) ≡ None
    → IsFormedSession (length text) (record { phases = phases_of (kinds_of text) })
phases_read text e =
    let count : length (lines_of text) ≤ length text = length-lines_of text in (
      omega (arith, phases_within (lines_of text)),
      phases_formed (length text) 0 nothing (lines_of text) e (total-lines_of text)
          count,
    )

-- a text has no more commands than bytes
pub commands_few : (text : List ℕ) → length (commands_of (kinds_of text)) ≤ length text
commands_few text =
    let count : length (lines_of text) ≤ length text = length-lines_of text in
    omega (arith, commands_within (lines_of text))
