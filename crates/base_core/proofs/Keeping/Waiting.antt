-- A lane's next command, by what is kept for it.
use Rattle.std.proofs.Common.{◌≡◌, Bor, ℕ, zero, suc, ◌-◌, ◌<◌, ◌≤◌, inl, inr, Option, Some, None, IfSome, List, [], ◌∷◌, drop}
use Rattle.std.proofs.Common.{length, get_or, refl, ap, sym, subst, ◌∙◌, arith}
use Rattle.std.specs.Prelude.{option_and_then, is_some, IsSome, nat_lt, slice_get}
use Rattle.std.specs.Option.{option_copied}
use Rattle.std.proofs.lemmas.Bool.Decides.{nat_tests}
use Rattle.std.proofs.lemmas.Option.{slice_get_cases, slice_get_past, slice_get_read, slice_get_within, slice_get-get_or}
use Rattle.cc_names.specs.declared.commands.Command.{Command}
use Rattle.cc_names.specs.declared.commands.Command.TheVariants as commands
use Rattle.cc_names.specs.declared.commands.Lane.{Lane}
use Rattle.cc_names.specs.declared.occasions.Next.{Next}
use Rattle.cc_names.specs.declared.occasions.Next.TheVariants as nexts
use Rattle.cc_names.specs.declared.rows.Tag.{Tag}
use Rattle.cc_names.specs.declared.steps.StoryStep.{StoryStep}
use Rattle.session_text.specs.declared.lanes.Ahead.{Ahead}
use Rattle.session_text.specs.declared.lanes.Ahead.TheVariants as aheads
use Rattle.session_text.specs.Ahead.{ahead_of}
use Rattle.session_text.specs.Formed.{IsCommand, IsPhase}
use Rattle.legal_history.specs.Stories.Commanded.{next_command_of}
use Rattle.legal_history.specs.Stories.States.{State, done_of, command_behind, next_tag}
use Rattle.legal_history.specs.Stories.Steps.{state_of}
use Rattle.base_core.specs.Keeping.CoreInvariants.{command_limit, CoreInvariant}
use Rattle.base_core.specs.Keeping.Lanes.{LaneState, no_lane, next_of_lane_state, next_in}
use Rattle.clearmake.specs.Nexts.{next_by, next_of_lane}
use Rattle.story_log.specs.Logging.Logs.{Logged}
use Rattle.base_core.proofs.Acting.Commanded.{next_is_formed}
use Rattle.base_core.proofs.Keeping.Idle.{not_both}

-- what a look-up in a slice gives
pub looked_up : {X : Type 0} (xs : List X) (i : ℕ) (found : Option (Bor X)) → is_some found ≡ nat_lt i (length xs)
    → IfSome found (λ x. x.now ≡ get_or xs i x.now) → option_copied found ≡ slice_get xs i
looked_up xs i None there known =
    let past : length xs ≤ i = grind (arith, nat_tests) in
    sym (slice_get_past xs i past)
looked_up xs i (Some x) there known =
    let within : i < length xs = grind (arith, nat_tests) in
    sym (slice_get_read xs (length xs) i x.now refl within known)

-- the first of what is left of a list
first_left : {A : Type 0} (n : ℕ) (xs : List A) → slice_get (drop n xs) 0 ≡ slice_get xs n
first_left zero [] = refl
first_left zero (x ∷ xs) = refl
first_left (suc n) [] = refl
first_left (suc n) (x ∷ xs) = first_left n xs

-- a lane's next command by the commands that are kept is that by the story
pub next_preserved : (log : Logged) (lanes : List LaneState) (now lane : ℕ) → CoreInvariant log lanes now
    → next_in lanes lane ≡ next_command_of (state_of log.story) lane
next_preserved log lanes now zero h = refl
next_preserved log lanes now (suc n) h = by (slice_get s.phase.lanes n) refl
  where
    s : State
    s = state_of log.story

    here : suc n - 1 ≡ n
    here = omega arith

    by : (found : Option Lane) → slice_get s.phase.lanes n ≡ found → next_in lanes (suc n)
        ≡ option_and_then (command_behind (done_of s.done (suc n))) found
    by None is = elim (slice_get_cases s.phase.lanes n).1 [
      | inl there ↦ absurd (not_both (slice_get s.phase.lanes n) there.0 is there.2)
      | inr past ↦ ap (option_and_then next_of_lane_state) (slice_get_past lanes n (omega (arith, past.0, h.replies.count)))
    ]
    by (Some one) is =
        let within = slice_get_within s.phase.lanes n one is in
        let there : slice_get lanes n ≡ Some (get_or lanes n no_lane) =
        slice_get-get_or lanes n no_lane (omega (arith, within, h.replies.count)) in
        let left : (get_or lanes n no_lane).commands ≡ drop (done_of s.done (suc n)) one.commands =
        ap (λ i. (get_or lanes i no_lane).commands) (sym here) ∙ h.replies.left (suc n) one is in
        ap (option_and_then next_of_lane_state) there ∙ ap (λ (v : List Command). slice_get v 0) left
        ∙ first_left (done_of s.done (suc n)) one.commands

pub waits_preserved : (log : Logged) (lanes : List LaneState) (now lane : ℕ) (story : List StoryStep) → log.story ≡ story
    → CoreInvariant log lanes now → next_command_of (state_of story) lane ≡ next_in lanes lane
waits_preserved log lanes now lane story same h = ap (λ t. next_command_of (state_of t) lane) (sym same)
    ∙ sym (next_preserved log lanes now lane h)

-- what a lane has to do by what its next command asks for
abbrev pub next_ahead : Ahead → Tag → Next
next_ahead aheads.Nothing tag = nexts.Done
next_ahead aheads.Act tag = nexts.Act
next_ahead aheads.Build tag = nexts.Build tag

by_ahead : (found : Option Command) (tag : Tag) → next_by found tag ≡ next_ahead (ahead_of found) tag
by_ahead None tag = refl
by_ahead (Some (commands.Build asked)) tag = refl
by_ahead (Some command) tag = refl

pub next_so : (log : Logged) (lanes : List LaneState) (now lane : ℕ) (story : List StoryStep) (ahead : Ahead) → log.story ≡ story
    → CoreInvariant log lanes now → ahead ≡ ahead_of (next_in lanes lane)
    → next_of_lane (state_of story) lane ≡ next_ahead ahead (next_tag (state_of story) lane)
next_so log lanes now lane story ahead same h is =
    let tag : Tag = next_tag (state_of story) lane in
    by_ahead (next_command_of (state_of story) lane) tag
    ∙ ap (λ found. next_ahead (ahead_of found) tag) (waits_preserved log lanes now lane story same h)
    ∙ ap (λ a. next_ahead a tag) (sym is)

some_builds : (found : Option Command) → ahead_of found ≡ aheads.Build → IsSome found
some_builds None e = cc
some_builds (Some command) e = refl

-- a lane whose next command builds waits with it
pub waits_to_build : (log : Logged) (lanes : List LaneState) (now lane : ℕ) (story : List StoryStep) → log.story ≡ story
    → CoreInvariant log lanes now → ahead_of (next_in lanes lane) ≡ aheads.Build → IsSome (next_command_of (state_of story) lane)
waits_to_build log lanes now lane story same h is = subst IsSome (sym (waits_preserved log lanes now lane story same h))
    (some_builds (next_in lanes lane) is)

-- the command that is kept as the next one has its form
pub preserved_is_formed : (log : Logged) (lanes : List LaneState) (now lane : ℕ) (command : Command) → CoreInvariant log lanes now
    → Some command ≡ next_in lanes lane → IsCommand command_limit command
preserved_is_formed log lanes now lane command h e =
    next_is_formed (state_of log.story).phase lane (done_of (state_of log.story).done lane) command
    (subst (IsPhase command_limit) (sym h.phase.phase) h.phase.formed) (sym (e ∙ next_preserved log lanes now lane h))
