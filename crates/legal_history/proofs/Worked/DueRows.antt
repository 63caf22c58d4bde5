-- Which objects a scrub takes, worked by hand. Of three objects one is due; a view holds the second; and the third is published
-- 20 seconds before the scrub, which asks for 50.
use Rattle.std.proofs.Common.{◌≡◌, refl, subst, ℕ, zero, suc, ◌+◌, ◌<◌, true, false, ◌==◌, List, [], ◌∷◌, ◌++◌, arith}
use Rattle.std.proofs.lemmas.Bool.Decides.{nat_tests}
use Rattle.std.specs.List.{list_any}
use Rattle.std.specs.Prelude.{codes, reverse}
use Rattle.cc_names.specs.Formed.{Plain}
use Rattle.cc_names.specs.declared.commands.Command.TheVariants as commands
use Rattle.cc_names.specs.declared.commands.Change.TheVariants as changes
use Rattle.cc_names.specs.declared.rows.Deed.{Deed}
use Rattle.cc_names.specs.declared.rows.Deed.TheVariants as deeds
use Rattle.cc_names.specs.declared.steps.StoryStep.TheVariants as story_steps
use Rattle.base_model.specs.Fits.{is_base}
use Rattle.base_model.specs.Rows.{Base}
use Rattle.legal_history.specs.Laws.Dues.{AreDue, is_due_object}
use Rattle.legal_history.specs.Queries.VersionNames.{line}
use Rattle.legal_history.specs.Stories.States.{State}
use Rattle.legal_history.specs.Stories.Steps.{state_of}
use Rattle.legal_history.specs.Worked.{tag}
use Rattle.legal_history.proofs.Worked.StoryParts.{one_lane}
use Rattle.legal_history.proofs.Worked.TwoViews.{v, hi}

-- row n of a base, made so many seconds past moment 1,700,000,000
abbrev made : ℕ → ℕ → Deed → Plain
made n seconds deed = record { tag = tag 1 1 n; moment = 1700000000 + seconds; deed = deed }

abbrev object : List ℕ → Deed
object path = deeds.Publish v (path ∷ []) (line (codes "echo hi > " ++ path)) [] (hi ∷ [])

-- the objects of rows 2, 3 and 4; rows 5 and 6 drop the first and the third
abbrev base : Base
base =
    made 6 80 (deeds.Drop v (codes "c")) ∷ made 5 80 (deeds.Drop v (codes "a")) ∷ made 4 80 (object (codes "c"))
    ∷ made 3 0 (object (codes "b")) ∷ made 2 0 (object (codes "a")) ∷ made 1 0 (deeds.Mkview v) ∷ []

it_is_a_base : is_base base ≡ true
it_is_a_base = refl

-- the next command is the scrub, 100 seconds past that moment
abbrev scrubbing : State
scrubbing = state_of (
    story_steps.Opened (reverse base) (record { ticks = 0; faults = 0 }) true
    ∷ story_steps.PhaseBegun (one_lane (commands.Change (changes.Scrub 50) ∷ [])) 1700000100 ∷ [])

no_further : (id : ℕ) → 6 < id → is_due_object base 1700000100 50 id ≡ false
no_further id above = grind (arith, nat_tests)

just_that_of_row_2 : (id : ℕ) → list_any (λ object. object == id) (2 ∷ []) ≡ is_due_object base 1700000100 50 id
just_that_of_row_2 zero = refl
just_that_of_row_2 (suc zero) = refl
just_that_of_row_2 (suc (suc zero)) = refl
just_that_of_row_2 (suc (suc (suc zero))) = refl
just_that_of_row_2 (suc (suc (suc (suc zero)))) = refl
just_that_of_row_2 (suc (suc (suc (suc (suc zero))))) = refl
just_that_of_row_2 (suc (suc (suc (suc (suc (suc zero)))))) = refl
just_that_of_row_2 (suc (suc (suc (suc (suc (suc (suc n))))))) =
    let none = no_further (suc (suc (suc (suc (suc (suc (suc n))))))) (omega arith) in grind (arith, nat_tests)

one_is_due : AreDue scrubbing (tag 1 1 1) (2 ∷ [])
one_is_due = record {
  age = 50;
  command = refl;
  exactly = just_that_of_row_2;
  ascend = λ k within. absurd (omega (arith, within));
}

-- the age is that of the command, so none of these lists is the scrub's: with the one that is held, with the young one, without
-- the one that is due, with one twice, and of another command
the_age : {objects : List ℕ} (h : AreDue scrubbing (tag 1 1 1) objects) → h.age ≡ 50
the_age h = let command = h.command in cc

not_the_held : AreDue scrubbing (tag 1 1 1) (2 ∷ 3 ∷ []) → ⊥
not_the_held h = absurd (let third = h.exactly 3 in cc)

not_the_young : AreDue scrubbing (tag 1 1 1) (2 ∷ 4 ∷ []) → ⊥
not_the_young h =
    absurd (let fourth = subst (λ age. true ≡ is_due_object base 1700000100 age 4) (the_age h) (h.exactly 4) in cc)

not_none : AreDue scrubbing (tag 1 1 1) [] → ⊥
not_none h = absurd (let second = subst (λ age. false ≡ is_due_object base 1700000100 age 2) (the_age h) (h.exactly 2) in cc)

not_twice : AreDue scrubbing (tag 1 1 1) (2 ∷ 2 ∷ []) → ⊥
not_twice h = absurd (let rises = h.ascend 0 (omega arith) in omega (arith, rises))

not_of_another_command : AreDue scrubbing (tag 1 1 2) (2 ∷ []) → ⊥
not_of_another_command h = absurd (let command = h.command in cc)
