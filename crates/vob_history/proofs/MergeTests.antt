-- The tests of the query for merges: the first ones are those of any query about an element.
use Rattle.std.proofs.Common.{◌≡◌, refl, ap, ◌∙◌, ℕ, Option, Some, None, Ok, Err, List, [], ◌∷◌}
use Rattle.cc_names.specs.declared.memory.Or.{Or}
use Rattle.cc_names.specs.declared.memory.Or.TheVariants.{NoMemory, Is}
use Rattle.cc_names.specs.declared.refusals.Refusal.{Refusal}
use Rattle.cc_names.specs.declared.selection.Picked.{Picked}
use Rattle.cc_names.specs.declared.selection.Seen.{Seen}
use Rattle.cc_names.specs.declared.selection.Seen.TheVariants.{Private, Element, Unselected, Nothing}
use Rattle.base_model.specs.Rows.{Base}
use Rattle.base_model.specs.Seen.{at}
use Rattle.legal_history.specs.Commands.Decisions.{past}
use Rattle.legal_history.specs.Commands.Found.{for_selected}
use Rattle.legal_history.specs.Commands.Tests.{needs_element, needs_selected, needs_view}
use Rattle.legal_history.specs.Queries.Merges.{findmerge_text}
use Rattle.legal_history.specs.Queries.QueryLines.{answers_of, findmerge, needs_branch, answers_with}
use Rattle.view_lookup.specs.Answering.{AnswersAs}
use Rattle.vob_history.specs.Found.{FindsSelected, Tests}

-- where an element is selected, the branch is the test that is left
selected_by : (path : List ℕ) (view : Option Refusal) (seen : Seen) (text : ℕ → Picked
    → List ℕ) (reported : List ℕ) (branch : Option Refusal) (lines : List ℕ) →
    past (view ∷ []) (for_selected path seen (λ e picked. answers_with [] (text e picked))) ≡ Ok reported
    → answers_with (view ∷ needs_selected path seen ∷ needs_element path seen ∷ branch ∷ []) lines ≡ answers_with (branch ∷ []) lines
selected_by path None (Element e picked) text reported branch lines h = refl
selected_by path None (Private row) text reported branch lines h = absurd (cc)
selected_by path None (Unselected e) text reported branch lines h = absurd (cc)
selected_by path None Nothing text reported branch lines h = absurd (cc)
selected_by path (Some refusal) seen text reported branch lines h = absurd (cc)

-- where none is, the refusal is the one
refused_by : (path : List ℕ) (view : Option Refusal) (seen : Seen) (text : ℕ → Picked
    → List ℕ) (refusal : Refusal) (branch : Option Refusal) (lines : List ℕ) →
    past (view ∷ []) (for_selected path seen (λ e picked. answers_with [] (text e picked))) ≡ Err refusal
    → answers_with (view ∷ needs_selected path seen ∷ needs_element path seen ∷ branch ∷ []) lines ≡ Err refusal
refused_by path None (Element e picked) text refusal branch lines h = absurd (cc)
refused_by path None (Private row) text refusal branch lines h = h
refused_by path None (Unselected e) text refusal branch lines h = h
refused_by path None Nothing text refusal branch lines h = h
refused_by path (Some other) seen text refusal branch lines h = h

module _ (b : Base) (v path name : List ℕ) where
  pub unselected : (refusal : Or Refusal) → FindsSelected (Err refusal) (answers_of b v path)
      → AnswersAs (Err refusal) (findmerge b v path name)
  unselected NoMemory h = tt
  unselected (Is refusal) h =
      refused_by path (needs_view b v) (at b v path) (λ e picked. []) refusal (needs_branch b name) (findmerge_text b v path name)
      (h (λ e picked. []))

  left_to_test : (found : ℕ × Picked) → FindsSelected (Ok found) (answers_of b v path)
      → findmerge b v path name ≡ answers_with (needs_branch b name ∷ []) (findmerge_text b v path name)
  left_to_test found h =
      selected_by path (needs_view b v) (at b v path) (λ e picked. []) [] (needs_branch b name) (findmerge_text b v path name)
      (h (λ e picked. []))

  pub no_branch : (found : ℕ × Picked) (refusal : Or Refusal) → FindsSelected (Ok found) (answers_of b v path)
      → Tests {A = Unit {0}} (Err refusal) (needs_branch b name) → AnswersAs (Err refusal) (findmerge b v path name)
  no_branch found NoMemory h test = tt
  no_branch found (Is refusal) h test = left_to_test found h ∙ ap (λ branch. answers_with (branch ∷ []) (findmerge_text b v path name))
      test

  pub answered : (found : ℕ × Picked) → FindsSelected (Ok found) (answers_of b v path) → needs_branch b name ≡ None
      → findmerge b v path name ≡ Ok (findmerge_text b v path name)
  answered found h test = left_to_test found h ∙ ap (λ branch. answers_with (branch ∷ []) (findmerge_text b v path name)) test
