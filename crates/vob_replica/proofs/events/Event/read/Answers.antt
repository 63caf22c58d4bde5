use Rattle.std.proofs.Common.{◌≡◌, ℕ, ◌+◌, Option, Some, Result, Ok, Err, List, [], ◌∷◌, ◌++◌, length, refl, sym, ap, ◌∙◌, subst}
use Rattle.std.proofs.Common.{append_assoc, arith}
use Rattle.cc_names.proofs.LinesAndWords.{length-lines_of}
use Rattle.vob_replica.specs.declared.events.Event.{Event}
use Rattle.vob_replica.specs.declared.events.SiteError.{SiteError}
use Rattle.vob_replica.specs.Reading.{before_others, before_events, event_of_line, events_below}
use Rattle.vob_replica.specs.Words.{Said}
use Rattle.vob_replica.proofs.events.Event.read.Goals as goal

before_none : (read : Result (List Event) SiteError) → before_others [] read ≡ read
before_none (Ok events) = refl
before_none (Err error) = refl

before-append : (xs ys : List Event) (read : Result (List Event) SiteError)
    → before_others (xs ++ ys) read ≡ before_others xs (before_others ys read)
before-append xs ys (Ok zs) = ap (λ (l : List Event). Ok l) (append_assoc xs ys zs)
before-append xs ys (Err error) = refl

event_said : (read : Said (Option Event)) (found : Option Event) (event : Event) → read ≡ Ok found → found ≡ Some event
    → read ≡ Ok (Some event)
event_said read found event is some = subst (λ (o : Option Event). read ≡ Ok o) some is

-- one event more
next_event : (events : List Event) (event : Event) (n : ℕ) (line : List ℕ) (lines : List (List ℕ))
    → event_of_line line ≡ Ok (Some event)
    → before_others (events ++ event ∷ []) (events_below (n + 1) lines) ≡ before_others events (events_below n (line ∷ lines))
next_event events event n line lines said =
    before-append events (event ∷ []) (events_below (n + 1) lines)
    ∙ ap (λ (s : Said (Option Event)). before_others events (before_events (n + 1) s (events_below (n + 1) lines))) (sym said)

pub lines-init : goal.lines-init
lines-init c = record {
  same =
      ap (λ (l : List Event). before_others l (events_below 0 c.of-lines.result)) c.new-events.ensures.items
      ∙ before_none (events_below 0 c.of-lines.result) ∙ ap (events_below 0) c.of-lines.ensures;
  within = let few = length-lines_of c.args.text.now in omega (arith, ap length c.of-lines.ensures);
}

pub lines-preserved-in-Continue-1 : goal.lines-preserved-in-Continue-1
lines-preserved-in-Continue-1 c = record {
  same =
      let said = event_said (event_of_line c.in-Some.line.now) c.in-Ok-Some.field-0 c.in-Ok-Some.event c.in-Ok-Some.ensures
      c.in-Ok-Some.field-0-is in
      ap (λ (l : List Event). before_others l (events_below (c.lines.number + 1) c.next.new.self))
      c.in_ok-push-in-Ok-Some.ensures.items
      ∙ next_event c.lines.events.items c.in-Ok-Some.event c.lines.number c.in-Some.line.now c.next.new.self said
      ∙ ap (λ (l : List (List ℕ)). before_others c.lines.events.items (events_below c.lines.number l)) (sym c.in-Some.ensures)
      ∙ c.lines.invariant.same;
  within = omega (arith, ap length c.in-Some.ensures);
}
