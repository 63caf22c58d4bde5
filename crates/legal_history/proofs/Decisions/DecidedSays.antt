-- What it says of a command that something was decided on it: of a row that there is room for one more, that it takes nothing
-- from a view in which a build is active, and that it scrubs only where the command does; of a build what its units are.
use Rattle.std.proofs.Common.{◌≡◌, refl, subst, ℕ, ◌+◌, ◌≤◌, Bool, true, Option, Some, None, Result, Ok, Err, List, []}
use Rattle.std.proofs.Common.{◌∷◌, ◌++◌, length}
use Rattle.std.proofs.lemmas.Bool.{ltb-false}
use Rattle.std.specs.Bool.{⊤}
use Rattle.std.specs.Prelude.{option_map}
use Rattle.cc_names.specs.declared.commands.Clearmake.{Clearmake}
use Rattle.cc_names.specs.declared.commands.Command.{Command}
use Rattle.cc_names.specs.declared.commands.Command.TheVariants as commands
use Rattle.cc_names.specs.declared.commands.Change.TheVariants as changes
use Rattle.cc_names.specs.declared.refusals.Refusal.{Refusal}
use Rattle.cc_names.specs.declared.refusals.Refusal.TheVariants.{Building}
use Rattle.cc_names.specs.declared.rows.Deed.{Deed}
use Rattle.cc_names.specs.declared.rows.Deed.TheVariants as deeds
use Rattle.cc_names.specs.declared.rows.Placed.{Placed}
use Rattle.cc_names.specs.declared.rows.Tag.{Tag}
use Rattle.cc_names.specs.declared.selection.Picked.{Picked}
use Rattle.cc_names.specs.declared.selection.Rule.{Rule}
use Rattle.cc_names.specs.declared.selection.Seen.{Seen}
use Rattle.cc_names.specs.declared.selection.Seen.TheVariants.{Private, Element, Unselected, Nothing}
use Rattle.cc_names.specs.declared.units.Unit.{Unit}
use Rattle.make_grammar.specs.Graphs.{units}
use Rattle.base_model.specs.Rows.{size}
use Rattle.legal_history.specs.Builds.Active.{Active, building, rows_reserved}
use Rattle.legal_history.specs.Commands.CheckoutLines.{checkout_of, checkout_by_rule, checkout_tests, checkout_deed, branch_by}
use Rattle.legal_history.specs.Commands.CheckoutLines.{deciding_rule}
use Rattle.base_model.specs.Conditions.{exists}
use Rattle.legal_history.specs.Commands.Decisions.{Decision, Makes, Answers, Begins, Scene, first_refusal, unless_refused}
use Rattle.legal_history.specs.Commands.Decisions.{needs_room, makes, answers}
use Rattle.legal_history.specs.Commands.FileLines.{save_deed}
use Rattle.base_model.specs.Fits.{row_limit}
use Rattle.base_model.specs.Texts.{texts}
use Rattle.legal_history.specs.Commands.LabelLines.{labels_or_nothing}
use Rattle.legal_history.specs.Commands.ObjectLines.{scrub_of, clearmake, clearmake_tests, build_unless}
use Rattle.legal_history.proofs.Decisions.Handed.{IfDecided, answer_is}
use Rattle.legal_history.proofs.Decisions.Passed.{AllPass, all_pass, prefix_passes, rest_passes, unless_passes, no_refusal}

-- a deed takes a view or an object only where no build of the view is active
abbrev pub Idle : Active → Deed → Type 0
Idle active (deeds.Rmview v) = building active v ≡ None
Idle active (deeds.Drop v path) = building active v ≡ None
Idle active deed = ⊤

-- a command that scrubs
pub record IsScrub (command : Command) : Type 0 where
  pub age : ℕ
  pub is : command ≡ commands.Change (changes.Scrub age)

-- a row scrubs only where the command does
abbrev pub ScrubsBy : Command → Deed → Type 0
ScrubsBy command (deeds.Scrub objects) = IsScrub command
ScrubsBy command deed = ⊤

-- both
abbrev Suits : Active → Command → Deed → Type 0
Suits active command (deeds.Rmview v) = building active v ≡ None
Suits active command (deeds.Drop v path) = building active v ≡ None
Suits active command (deeds.Scrub objects) = IsScrub command
Suits active command deed = ⊤

idle_of : (active : Active) (command : Command) (deed : Deed) → Suits active command deed → Idle active deed
idle_of active command (deeds.Rmview v) h = h
idle_of active command (deeds.Drop v path) h = h
idle_of active command (deeds.Scrub objects) h = tt
idle_of active command deed h = h

scrubs_of : (active : Active) (command : Command) (deed : Deed) → Suits active command deed → ScrubsBy command deed
scrubs_of active command (deeds.Rmview v) h = tt
scrubs_of active command (deeds.Drop v path) h = tt
scrubs_of active command (deeds.Scrub objects) h = h
scrubs_of active command deed h = h

-- a row that was decided
pub record IsMade (s : Scene) (command : Command) (deed : Deed) : Type 0 where
  pub room : size s.base + rows_reserved s.active + 1 ≤ row_limit
  pub idle : Idle s.active deed
  pub scrubs : ScrubsBy command deed

-- a build that was decided: by a command that builds, in a view that exists, of the units of its makefile
pub record BeginsBy (s : Scene) (command : Command) (us : List Unit) : Type 0 where
  pub asked : Clearmake
  pub is : command ≡ commands.Build asked
  pub there : exists s.base asked.view ≡ true
  pub of_makefile : units (texts s.base asked.view) asked.file asked.macros asked.goals ≡ Ok us
  pub room : size s.base + rows_reserved s.active + length us ≤ row_limit

abbrev pub Says : Scene → Command → Decision → Type 0
Says s command (Makes deed) = IsMade s command deed
Says s command (Answers text) = ⊤
Says s command (Begins us) = BeginsBy s command us

-- a decision that no test refused
passed : (refusal : Option Refusal) (decided d : Decision) → unless_refused refusal decided ≡ Ok d → (refusal ≡ None)
    × (decided ≡ d)
passed (Some refusal) decided d h = absurd (cc)
passed None decided d h = (refl, cc)

has_room : (s : Scene) (rows : ℕ) → needs_room s rows ≡ None → size s.base + rows_reserved s.active + rows ≤ row_limit
has_room s rows h = ltb-false _ _ (no_refusal _ _ h)

pub by_row : (s : Scene) (command : Command) (tests : List (Option Refusal)) (deed : Deed)
    → (AllPass tests → Suits s.active command deed) → IfDecided (Says s command) (makes s tests deed)
by_row s command tests deed suits d h =
    let p = passed (first_refusal (tests ++ needs_room s 1 ∷ [])) (Makes deed) d h in
    let all = all_pass (tests ++ needs_room s 1 ∷ []) p.0 in
    let suit = suits (prefix_passes tests (needs_room s 1 ∷ []) all) in
    subst (Says s command) p.1 (record {
      room = has_room s 1 (rest_passes tests (needs_room s 1 ∷ []) all).0;
      idle = idle_of s.active command deed suit;
      scrubs = scrubs_of s.active command deed suit;
    })

by_answer : (s : Scene) (command : Command) (tests : List (Option Refusal)) (text : List ℕ)
    → IfDecided (Says s command) (answers tests text)
by_answer s command tests text = answer_is (Says s command) tests text tt

pub was_idle : (o : Option Tag) → option_map Building o ≡ None → o ≡ None
was_idle None h = refl
was_idle (Some tag) h = absurd (cc)

pub saved_suits : (active : Active) (command : Command) (v path text : List ℕ) (seen : Seen)
    → Suits active command (save_deed v path text seen)
saved_suits active command v path text (Element e picked) = tt
saved_suits active command v path text (Unselected e) = tt
saved_suits active command v path text (Private row) = tt
saved_suits active command v path text Nothing = tt

pub by_checkout : (s : Scene) (command : Command) (v : List ℕ) (unreserved : Bool) (e : ℕ) (picked : Picked)
    → IfDecided (Says s command) (checkout_of s v unreserved e picked)
by_checkout s command v unreserved e picked = by (deciding_rule s.base v picked)
  where
    suits : (o : Option (List ℕ)) → Suits s.active command (checkout_deed v unreserved e picked o)
    suits None = tt
    suits (Some name) = tt

    by : (rule : Option Rule) → IfDecided (Says s command) (checkout_by_rule s v unreserved e picked rule)
    by rule = by_row s command (checkout_tests s v unreserved e picked rule)
        (checkout_deed v unreserved e picked (branch_by rule)) (λ p. suits (branch_by rule))

pub by_labels : (s : Scene) (command : Command) (tests : List (Option Refusal)) (label : List ℕ) (placed : List Placed)
    → IfDecided (Says s command) (labels_or_nothing s tests label placed)
by_labels s command tests label [] = by_answer s command tests []
by_labels s command tests label (one ∷ more) = by_row s command tests (deeds.Labels label (one ∷ more)) (λ p. tt)

pub by_scrub : (s : Scene) (age : ℕ) (objects : List ℕ) → IfDecided (Says s (commands.Change (changes.Scrub age)))
    (scrub_of s objects)
by_scrub s age [] = by_answer s (commands.Change (changes.Scrub age)) [] []
by_scrub s age (id ∷ ids) =
    by_row s (commands.Change (changes.Scrub age)) [] (deeds.Scrub (id ∷ ids)) (λ p. record { age = age; is = refl })

pub by_build : (s : Scene) (asked : Clearmake) → IfDecided (Says s (commands.Build asked))
    (clearmake s asked.view asked.file asked.macros asked.goals)
by_build s asked d h = by (first_refusal (clearmake_tests s asked.view))
    (units (texts s.base asked.view) asked.file asked.macros asked.goals) refl refl h
  where
    by : (o : Option Refusal) (r : Result (List Unit) Refusal) → first_refusal (clearmake_tests s asked.view) ≡ o
        → units (texts s.base asked.view) asked.file asked.macros asked.goals ≡ r → build_unless s o r ≡ Ok d →
        Says s (commands.Build asked) d
    by (Some refusal) r passes is h = absurd (cc)
    by None (Err refusal) passes is h = absurd (cc)
    by None (Ok us) passes is h =
        let p = passed (needs_room s (length us)) (Begins us) d h in
        subst (Says s (commands.Build asked)) p.1 (record {
          asked = asked;
          is = refl;
          there = unless_passes _ _ (all_pass (clearmake_tests s asked.view) passes).0;
          of_makefile = is;
          room = has_room s (length us) p.0;
        })
