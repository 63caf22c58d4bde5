-- Along a legal story the base only grows, and an active build goes on until it ends.
use Rattle.std.proofs.Common.{◌≡◌, refl, ap, sym, subst, ◌∙◌, true, List, [], ◌∷◌, ◌++◌, append_assoc}
use Rattle.std.proofs.lemmas.List.{append-nil}
use Rattle.std.specs.Prelude.{is_some}
use Rattle.cc_names.specs.declared.steps.StoryStep.{StoryStep}
use Rattle.cc_names.specs.declared.steps.StoryStep.TheVariants as story_steps
use Rattle.base_model.specs.Rows.{Base, Extends}
use Rattle.legal_history.specs.Stories.States.{State, start}
use Rattle.legal_history.specs.Stories.Steps.{after, state_from, state_of}
use Rattle.legal_history.specs.Stories.Lawful.{Lawful, LegalFrom, Legal}
use Rattle.legal_history.proofs.Stories.Prefixes.{state_goes_on, rest_is_legal, first_opens}
use Rattle.legal_history.proofs.Stories.Along.{along}

pub extends_itself : (b : Base) → Extends b b
extends_itself b = record { more = []; is = refl }

pub extends_on : {a b c : Base} → Extends a b → Extends b c → Extends a c
extends_on h g = record { more = g.more ++ h.more; is = g.is ∙ ap (λ b. g.more ++ b) h.is ∙ sym (append_assoc g.more h.more _) }

pub step_extends : (s : State) (x : StoryStep) → is_some s.opened ≡ true → Lawful s x → Extends s.base (after s x).base
step_extends s (story_steps.Opened rows counts tells) o h = absurd (let e = h.first in cc)
step_extends s (story_steps.Commit row tick) o h = record { more = row ∷ []; is = refl }
step_extends s x o h = extends_itself s.base

-- a lawful step leaves how the base was opened
pub opened_after : (s : State) (x : StoryStep) → is_some s.opened ≡ true → Lawful s x → (after s x).opened ≡ s.opened
opened_after s (story_steps.Opened rows counts tells) o h = absurd (let first = h.first in cc)
opened_after s x o h = refl

pub stays_opened : (s : State) (x : StoryStep) → is_some s.opened ≡ true → is_some (after s x).opened ≡ true
stays_opened s (story_steps.Opened rows counts tells) o = refl
stays_opened s x o = o

pub story_extends : (s : State) (story : List StoryStep) → is_some s.opened ≡ true → LegalFrom s story
    → Extends s.base (state_from s story).base
story_extends s story o h = (along (λ t. (is_some t.opened ≡ true) × Extends s.base t.base)
    (λ t x legal so. (stays_opened t x so.0, extends_on so.1 (step_extends t x so.0 legal))) s story h (o, extends_itself s.base)).1

-- a state to which a legal story has led by a first step is opened
pub is_opened : (s : State) (story : List StoryStep) → is_some s.opened ≡ true → is_some (state_from s story).opened ≡ true
is_opened s [] o = o
is_opened s (x ∷ story) o = is_opened (after s x) story (stays_opened s x o)

pub base_grows : (prefix rest : List StoryStep) → Legal (prefix ++ rest)
    → Extends (state_of prefix).base (state_of (prefix ++ rest)).base
base_grows [] rest h = record { more = (state_of rest).base; is = sym (append-nil _) }
base_grows (x ∷ prefix) rest h =
    subst (λ s. Extends (state_of (x ∷ prefix)).base s.base) (sym (state_goes_on (after start x) prefix rest))
    (story_extends (state_of (x ∷ prefix)) rest (is_opened (after start x) prefix (first_opens x h.0))
    (rest_is_legal (after start x) prefix rest h.1))
