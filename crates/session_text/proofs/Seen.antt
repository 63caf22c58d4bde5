-- Steps from a place to the next.
use Rattle.std.proofs.Common.{◌≡◌, ◌∙◌, ℕ, ◌-◌, ◌≤◌, Some, List, ◌∷◌, drop, length, refl, sym, ap, subst, arith}
use Rattle.std.specs.Prelude.{Ok, Err, IsOk, IfOk, slice_get}
use Rattle.cc_names.specs.declared.commands.Command.{Command}
use Rattle.cc_names.specs.declared.commands.Lane.{Lane}
use Rattle.session_text.specs.declared.kinds.Kind.{Kind}
use Rattle.session_text.specs.declared.kinds.Kind.TheVariants as kinds
use Rattle.session_text.specs.Commands.{command_of}
use Rattle.session_text.specs.Kinds.{Rest, kinds_of}
use Rattle.session_text.specs.Reading.{IsTextEnd, FindsKind, PassesLines, IsPastCommand, IsRight, FindsCommand, Says, Place}
use Rattle.session_text.specs.Reading.{lines_at}
use Rattle.session_text.specs.Sessions.{before_lanes, before_commands, body_of, commands_of, lanes_of}
use Rattle.session_text.specs.Ahead.{ahead_of, ahead_by}
use Rattle.session_text.specs.Shapes.{view}
use Rattle.session_text.specs.Words.{Said}
use Rattle.session_text.proofs.AheadLaws.{command_asks}
use Rattle.session_text.proofs.Ends.{end-behind, end-from}
use Rattle.session_text.proofs.Right.{right-behind, right-command, right_along}

-- the lines of a place were found after which a line of this kind stands
pub record IsSeen (place : Place) (old : Rest) (kind : Kind) (new : Rest) (bytes : ℕ) : Type 0 where
  pub rest : old ≡ record { number = 0; bytes = drop place.from place.text }
  pub within : place.from ≤ length place.text
  pub found : FindsKind old kind new
  pub left : bytes ≡ length new.bytes

-- the place after that line
abbrev pub behind : Place → ℕ → Place
behind place left = record { text = place.text; from = length place.text - left }

pub bytes_behind : (place : Place) (old new : Rest) (kind : Kind) (left : ℕ) → IsSeen place old kind new left
    → drop (length place.text - left) place.text ≡ new.bytes
bytes_behind place old new kind left seen =
    let bytes : old.bytes ≡ drop place.from place.text = ap (λ (v : Rest). v.bytes) seen.rest in
    let end : IsTextEnd new.bytes (drop place.from place.text) = subst (λ v. IsTextEnd new.bytes v) bytes seen.found.end in
    let whole = end-behind place.text (drop place.from place.text) new.bytes (end-from place.text place.from seen.within) end in
    ap (λ n. drop (length place.text - n) place.text) seen.left ∙ sym whole.same

pub right-from : (place : Place) (old new : Rest) (kind : Kind) (left : ℕ) → IsSeen place old kind new left
    → IsRight (lines_at place) → IsRight (kind ∷ kinds_of new.bytes)
right-from place old new kind left seen right =
    let bytes : old.bytes ≡ drop place.from place.text = ap (λ (v : Rest). v.bytes) seen.rest in
    seen.found.right (right_along (lines_at place) (kinds_of old.bytes) (ap kinds_of (sym bytes)) right)

-- the lines after it stand right
pub right-at : (place other : Place) (old new : Rest) (kind : Kind) (left : ℕ) → other ≡ place → IsSeen place old kind new left
    → IsRight (lines_at place) → IsRight (lines_at (behind other left))
right-at place other old new kind left same seen right =
    let there : lines_at (behind other left) ≡ kinds_of new.bytes =
    ap (λ v. lines_at (behind v left)) same ∙ ap kinds_of (bytes_behind place old new kind left seen) in
    right_along (kinds_of new.bytes) (lines_at (behind other left)) (sym there)
    (right-behind kind (kinds_of new.bytes) (right-from place old new kind left seen right))

-- the line says a command
pub says-at : (place : Place) (old new : Rest) (word : List ℕ) (words : List (List ℕ)) (left : ℕ)
    → IsSeen place old (kinds.Command word words) new left → IsRight (lines_at place) → Says word words (kinds_of new.bytes)
says-at place old new word words left seen right =
    right-command word words (kinds_of new.bytes) (right-from place old new (kinds.Command word words) left seen right)

-- a lane before those that are left
pub lane-step : (place first last : Place) (old new : Rest) (left : ℕ) (words : List (List ℕ)) (name : List ℕ)
    (now : List Lane) (lane : Lane)
    → IsSeen place old (kinds.Lane words) new left → lanes_of (kinds_of old.bytes)
    ≡ lanes_of (kinds.Lane words ∷ kinds_of new.bytes)
    → now ≡ lanes_of (lines_at place) → view words ≡ Ok name → first ≡ behind place left → last ≡ behind place left
    → lane ≡ record { name = name; commands = commands_of (lines_at first) } → now ≡ lane ∷ lanes_of (lines_at last)
lane-step place first last old new left words name now lane seen same is named f l made =
    let bytes : old.bytes ≡ drop place.from place.text = ap (λ (v : Rest). v.bytes) seen.rest in
    let lines : kinds_of (drop (length place.text - left) place.text) ≡ kinds_of new.bytes =
    ap kinds_of (bytes_behind place old new (kinds.Lane words) left seen) in
    let at_first : lines_at first ≡ kinds_of new.bytes = ap lines_at f ∙ lines in
    let at_last : lines_at last ≡ kinds_of new.bytes = ap lines_at l ∙ lines in
    is ∙ ap (λ v. lanes_of (kinds_of v)) (sym bytes) ∙ same
    ∙ ap (λ v. before_lanes v (commands_of (kinds_of new.bytes)) (lanes_of (kinds_of new.bytes))) named
    ∙ ap (λ (v : List Kind). record { name = name; commands = commands_of v } ∷ lanes_of (kinds_of new.bytes)) (sym at_first)
    ∙ ap (λ v. v ∷ lanes_of (kinds_of new.bytes)) (sym made)
    ∙ ap (λ v. lane ∷ lanes_of v) (sym at_last)

-- the first of the commands that are left is the one that the line says
pub record IsFirst (word : List ℕ) (words : List (List ℕ)) (new : Rest) (now : List Command) : Type 0 where
  pub command : Command
  pub said : command_of word words (body_of (kinds_of new.bytes)) ≡ Ok command
  pub is : now ≡ command ∷ commands_of (kinds_of new.bytes)

said_command : (said : Said Command) → IsOk said → (command : Command) × (said ≡ Ok command)
said_command (Ok command) h = (command, refl)
said_command (Err cause) h = cc

pub first-at : (place : Place) (old new : Rest) (left : ℕ) (word : List ℕ) (words : List (List ℕ)) (now : List Command)
    → IsSeen place old (kinds.Command word words) new left → commands_of (kinds_of old.bytes)
    ≡ commands_of (kinds.Command word words ∷ kinds_of new.bytes)
    → now ≡ commands_of (lines_at place) → IsRight (lines_at place) → IsFirst word words new now
first-at place old new left word words now seen same is right =
    let bytes : old.bytes ≡ drop place.from place.text = ap (λ (v : Rest). v.bytes) seen.rest in
    let found = said_command (command_of word words (body_of (kinds_of new.bytes)))
    (says-at place old new word words left seen right) in
    record {
      command = found.0;
      said = found.1;
      is = is ∙ ap (λ v. commands_of (kinds_of v)) (sym bytes) ∙ same ∙ ap
          (λ v. before_commands v (commands_of (kinds_of new.bytes))) found.1;
    }

ok_same : (one other : Command) → (let ok : Command → Said Command = λ command. Ok command in ok one ≡ ok other) → one ≡ other
ok_same one other e = cc

pub first-is : (word : List ℕ) (words : List (List ℕ)) (new : Rest) (now : List Command) (command : Command)
    → IsFirst word words new now → command_of word words (body_of (kinds_of new.bytes)) ≡ Ok command
    → Some command ≡ slice_get now 0
first-is word words new now command first said =
    ap Some (ok_same command first.command (sym said ∙ first.said)) ∙ sym (ap (λ (v : List Command). slice_get v 0) first.is)

-- and asks for what its word tells
pub first-asks : (word : List ℕ) (words : List (List ℕ)) (new : Rest) (now : List Command) → IsFirst word words new now
    → ahead_of (slice_get now 0) ≡ ahead_by word
first-asks word words new now first =
    ap (λ (v : List Command). ahead_of (slice_get v 0)) first.is
    ∙ (let P : Said Command → Type 0 = λ said. IfOk said (λ command. ahead_of (Some command) ≡ ahead_by word) in
    subst P first.said (command_asks word words (body_of (kinds_of new.bytes))))

-- the first command was passed
pub command-past : (old found new : Rest) (word : List ℕ) (words : List (List ℕ)) → FindsCommand old word words found
    → PassesLines commands_of found new → IsPastCommand old new
command-past old found new word words finds past = record {
  end = end-behind old.bytes found.bytes new.bytes finds.found.end past.end;
  right = λ r. past.right (right-behind (kinds.Command word words) (kinds_of found.bytes) (finds.found.right r));
  others = λ r.
      let said = said_command (command_of word words (body_of (kinds_of found.bytes)))
      (right-command word words (kinds_of found.bytes) (finds.found.right r)) in
      sym past.same
      ∙ ap (drop 1) (sym (finds.same ∙ ap (λ v. before_commands v (commands_of (kinds_of found.bytes))) said.1));
}

-- how many bytes are left where lines stand right after those of a place
pub record IsLeft (place : Place) (last : Rest) (left : ℕ) : Type 0 where
  pub there : drop (length place.text - left) place.text ≡ last.bytes
  pub within : left ≤ length place.text
  pub right : IsRight (kinds_of (drop (length place.text - left) place.text))
  pub others : commands_of (lines_at (behind place left)) ≡ drop 1 (commands_of (lines_at place))

pub left-at : (place : Place) (old new : Rest) (left : ℕ) → old ≡ record { number = 0; bytes = drop place.from place.text }
    → place.from ≤ length place.text → IsPastCommand old new → left ≡ length new.bytes → IsRight (lines_at place)
    → IsLeft place new left
left-at place old new left rest within past is right =
    let bytes : old.bytes ≡ drop place.from place.text = ap (λ (v : Rest). v.bytes) rest in
    let end : IsTextEnd new.bytes (drop place.from place.text) = subst (λ v. IsTextEnd new.bytes v) bytes past.end in
    let whole = end-behind place.text (drop place.from place.text) new.bytes (end-from place.text place.from within) end in
    let there : drop (length place.text - left) place.text ≡ new.bytes = ap (λ n. drop (length place.text - n) place.text) is
    ∙ sym whole.same in
    let here : IsRight (kinds_of old.bytes) = right_along (lines_at place) (kinds_of old.bytes) (ap kinds_of (sym bytes)) right in
    record {
      there = there;
      within = omega (arith, is, whole.within);
      right = right_along (kinds_of new.bytes) (kinds_of (drop (length place.text - left) place.text)) (ap kinds_of (sym there))
          (past.right here);
      others = ap (λ v. commands_of (kinds_of v)) there ∙ past.others here ∙ ap (λ v. drop 1 (commands_of (kinds_of v))) bytes;
    }
