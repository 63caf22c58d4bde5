-- What holds of whatever is decided holds past tests, and of what these find and hand on.
use Rattle.std.proofs.Common.{◌≡◌, refl, ap, sym, subst, ◌∙◌, ℕ, true, Option, Some, None, Result, Ok, Err, List, [], ◌∷◌, ◌++◌}
use Rattle.cc_names.specs.declared.refusals.Refusal.{Refusal}
use Rattle.cc_names.specs.declared.rows.Deed.{Deed}
use Rattle.cc_names.specs.declared.selection.Picked.{Picked}
use Rattle.cc_names.specs.declared.selection.Seen.{Seen}
use Rattle.cc_names.specs.declared.selection.Seen.TheVariants.{Private, Element, Unselected, Nothing}
use Rattle.base_model.specs.Rows.{Base}
use Rattle.base_model.specs.Conditions.{exists, has_out, is_directory}
use Rattle.base_model.specs.Seen.{at}
use Rattle.legal_history.specs.Commands.Decisions.{Decision, Makes, Answers, Scene, first_refusal, unless_refused, needs_room}
use Rattle.legal_history.specs.Commands.Decisions.{past, makes, answers, answered}
use Rattle.legal_history.specs.Commands.DirectoryLines.{changes_directory, out_directory}
use Rattle.legal_history.specs.Commands.FileLines.{parent}
use Rattle.legal_history.specs.Commands.Found.{for_selected, for_element, for_directory, for_object, for_version}
use Rattle.legal_history.specs.Commands.Tests.{refused_unless, needs_view, needs_idle, needs_parent_out}
use Rattle.legal_history.proofs.Decisions.Passed.{AllPass, Made, made_by, unless_passes}

-- whatever is decided is so
abbrev pub IfDecided : (Decision → Type 0) → Result Decision Refusal → Type 0
IfDecided P decided = (d : Decision) → decided ≡ Ok d → P d

pub past_is : (P : Decision → Type 0) (tests : List (Option Refusal)) (decided : Result Decision Refusal)
    → (AllPass tests → IfDecided P decided) → IfDecided P (past tests decided)
past_is P [] decided so d h = so tt d h
past_is P (Some refusal ∷ tests) decided so d h = absurd (cc)
past_is P (None ∷ tests) decided so d h = past_is P tests decided (λ pass. so (refl, pass)) d h

pub selected_is : (P : Decision → Type 0) (path : List ℕ) (seen : Seen) (more : ℕ → Picked → Result Decision Refusal) →
    ((e : ℕ) (picked : Picked) → seen ≡ Element e picked → IfDecided P (more e picked))
    → IfDecided P (for_selected path seen more)
selected_is P path (Element e picked) more so d h = so e picked refl d h
selected_is P path (Private row) more so d h = absurd (cc)
selected_is P path (Unselected e) more so d h = absurd (cc)
selected_is P path Nothing more so d h = absurd (cc)

pub element_is : (P : Decision → Type 0) (path : List ℕ) (seen : Seen) (more : ℕ → Result Decision Refusal)
    → ((e : ℕ) → IfDecided P (more e)) → IfDecided P (for_element path seen more)
element_is P path (Element e picked) more so d h = so e d h
element_is P path (Unselected e) more so d h = so e d h
element_is P path (Private row) more so d h = absurd (cc)
element_is P path Nothing more so d h = absurd (cc)

pub directory_is : (P : Decision → Type 0) (b : Base) (path : List ℕ) (seen : Seen) (more : ℕ → Result Decision Refusal) →
    ((e : ℕ) → is_directory b e ≡ true → IfDecided P (more e)) → IfDecided P (for_directory b path seen more)
directory_is P b path (Element e picked) more so d h = past_is P (refused_unless (is_directory b e) _ ∷ []) (more e)
    (λ pass. so e (unless_passes _ _ pass.0)) d h
directory_is P b path (Private row) more so d h = absurd (cc)
directory_is P b path (Unselected e) more so d h = absurd (cc)
directory_is P b path Nothing more so d h = absurd (cc)

pub object_is : (P : Decision → Type 0) (path : List ℕ) (held : Option ℕ) (more : ℕ → Result Decision Refusal) →
    ((id : ℕ) → held ≡ Some id → IfDecided P (more id)) → IfDecided P (for_object path held more)
object_is P path (Some id) more so d h = so id refl d h
object_is P path None more so d h = absurd (cc)

pub version_is : (P : Decision → Type 0) (path : List ℕ) (named : Option ℕ) (more : ℕ → Result Decision Refusal) →
    ((version : ℕ) → named ≡ Some version → IfDecided P (more version)) → IfDecided P (for_version path named more)
version_is P path (Some version) more so d h = so version refl d h
version_is P path None more so d h = absurd (cc)

-- what every change of a directory has met: the view exists and has the directory out
pub record Changes (s : Scene) (v : List ℕ) (d : ℕ) : Type 0 where
  pub there : exists s.base v ≡ true
  pub directory : is_directory s.base d ≡ true
  pub taken : has_out s.base v d ≡ true

pub change_is : (P : Decision → Type 0) (s : Scene) (v path : List ℕ) (change : ℕ → Result Decision Refusal)
    → ((d : ℕ) → Changes s v d → IfDecided P (change d)) →
    IfDecided P (changes_directory s v path change)
change_is P s v path change so =
    past_is P (needs_view s.base v ∷ needs_idle s v ∷ []) (for_directory s.base (parent path) (at s.base v (parent path))
    (out_directory s v path change))
    (λ before. directory_is P s.base (parent path) (at s.base v (parent path)) (out_directory s v path change)
    (λ d directory. past_is P (needs_parent_out s.base v (parent path) d ∷ []) (change d)
    (λ out. so d (record { there = unless_passes _ _ before.0; directory = directory; taken = unless_passes _ _ out.0 }))))

-- what was decided where nothing refused
decided_is : (refusal : Option Refusal) (decided d : Decision) → unless_refused refusal decided ≡ Ok d → decided ≡ d
decided_is (Some refusal) decided d h = absurd (cc)
decided_is None decided d h = cc

pub row_is : (P : Decision → Type 0) (s : Scene) (tests : List (Option Refusal)) (deed : Deed)
    → (Made s tests deed deed → P (Makes deed)) → IfDecided P (makes s tests deed)
row_is P s tests deed so d h =
    let is = decided_is (first_refusal (tests ++ needs_room s 1 ∷ [])) (Makes deed) d h in
    subst P is (so (made_by s tests deed deed (h ∙ ap Ok (sym is))))

pub answer_is : (P : Decision → Type 0) (tests : List (Option Refusal)) (text : List ℕ) → P (Answers text)
    → IfDecided P (answers tests text)
answer_is P tests text so d h = subst P (decided_is (first_refusal tests) (Answers text) d h) so

-- what holds of every text that answers holds of what is decided of a query
pub answered_is : (P : Decision → Type 0) (answer : Result (List ℕ) Refusal) → ((text : List ℕ) → P (Answers text))
    → IfDecided P (answered answer)
answered_is P (Ok text) so d h = let is : Answers text ≡ d = cc in subst P is (so text)
answered_is P (Err refusal) so d h = absurd (cc)
