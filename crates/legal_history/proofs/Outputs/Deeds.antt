-- What asks a row for no output says the same of a blanked base: of its rows, and of what the last of them set.
use Rattle.std.proofs.Common.{◌≡◌, refl, ap, ◌∙◌, ℕ, suc, Bool, true, false, ◌==◌, Option, Some, List, [], ◌∷◌}
use Rattle.cc_names.specs.Formed.{Plain}
use Rattle.cc_names.specs.Last.{Effect, value_after, last}
use Rattle.cc_names.specs.declared.rows.Deed.{Deed}
use Rattle.cc_names.specs.declared.rows.Deed.TheVariants as deeds
use Rattle.cc_names.specs.declared.rows.ReadOf.{ReadOf}
use Rattle.base_model.specs.Blanked.{blank_outputs, blank_deed, blank_row, with_blanks}
use Rattle.base_model.specs.Rows.{Base, size, row_at, deed_of, deed_at}

-- what a function says of publishes
abbrev OfPublishes : Type 0 → Type 0
OfPublishes A = (v : List ℕ) (targets : List (List ℕ)) (script : List ℕ) (entries : List ReadOf) (outputs : List (List ℕ)) → A

abbrev full : {A : Type 0} → (Deed → A) → OfPublishes A
full f v targets script entries outputs = f (deeds.Publish v targets script entries outputs)

abbrev blank : {A : Type 0} → (Deed → A) → OfPublishes A
blank f v targets script entries outputs = f (deeds.Publish v targets script entries (blank_outputs outputs))

-- a function of deeds that asks for no output
abbrev pub AsksNoOutput : {A : Type 0} → (Deed → A) → Type 0
AsksNoOutput f = blank f ≡ full f

pub deed_same : {A : Type 0} (f : Deed → A) → AsksNoOutput f → (deed : Deed) → f (blank_deed deed) ≡ f deed
deed_same f h (deeds.Publish v targets script entries outputs) = λ i. h i v targets script entries outputs
deed_same f h deed = refl

pub size_same : (b : Base) → size (with_blanks b) ≡ size b
size_same [] = refl
size_same (row ∷ older) = ap suc (size_same older)

-- what the last row set that affects a thing
pub last_same : {A : Type 0} (effect : ℕ → Deed → Effect A) → ((n : ℕ) → AsksNoOutput (effect n)) → (b : Base) →
    last (λ older (row : Plain). effect (size older) row.deed) (with_blanks b)
    ≡ last (λ older (row : Plain). effect (size older) row.deed) b
last_same effect h [] = refl
last_same effect h (row ∷ older) =
    λ i. value_after (deed_same (effect (size_same older i)) (h (size_same older i)) row.deed i) (last_same effect h older i)

-- the deed of a row where a test holds, else that of row n below it
abbrev pub deed_among : Bool → Plain → Base → ℕ → Option Deed
deed_among t row older n = deed_of (elim t as (λ x. Option Plain) [ true ↦ Some row | false ↦ row_at older n ])

pub at_same : {A : Type 0} (f : Option Deed → A) → AsksNoOutput (λ deed. f (Some deed)) → (b : Base) (n : ℕ) →
    f (deed_at (with_blanks b) n) ≡ f (deed_at b n)
at_same f h [] n = refl
at_same f h (row ∷ older) n =
    (λ i. f (deed_among (size_same older i == n) (blank_row row) (with_blanks older) n))
    ∙ by (size older == n) (at_same f h older n)
  where
    by : (t : Bool) → f (deed_at (with_blanks older) n) ≡ f (deed_at older n) →
        f (deed_among t (blank_row row) (with_blanks older) n) ≡ f (deed_among t row older n)
    by true rest = deed_same (λ deed. f (Some deed)) h row.deed
    by false rest = rest
