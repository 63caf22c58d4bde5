-- A view's own state: its life, its checkouts, its private files and its config spec. Each is what the last deed that affects it
-- set.
use Rattle.std.specs.Prelude.{ℕ, Bool, true, false, ◌&&◌, ◌==◌, Option, Some, None, List, [], ◌∷◌, bytes_eq}
use Rattle.cc_names.specs.Last.{Effect, Keeps, Ends, Sets, only_if, last}
use Rattle.cc_names.specs.declared.rows.Deed.{Deed}
use Rattle.cc_names.specs.declared.rows.Deed.TheVariants as deeds
use Rattle.cc_names.specs.declared.rows.Out.{Out}
use Rattle.cc_names.specs.declared.rows.Out.TheVariants as outs
use Rattle.base_model.specs.Rows.{Base, size}

-- a view is made by mkview and gone after rmview
abbrev pub view_effect : List ℕ → ℕ → Deed → Effect ℕ
view_effect v n (deeds.Mkview w) = only_if (bytes_eq w v) (Sets n)
view_effect v n (deeds.Rmview w) = only_if (bytes_eq w v) Ends
view_effect v n deed = Keeps

-- the mkview row with which the view's life began, where the view exists
abbrev pub view_row : Base → List ℕ → Option ℕ
view_row b v = last (λ older row. view_effect v (size older) row.deed) b

-- A checkout: the row that made it, the version that it was made from, and whether it is reserved. A checkout that
-- mkelem or the making of a branch makes has that row's own version 0 as its origin.
pub record Checkout : Type 0 where
  pub row : ℕ
  pub origin : ℕ
  pub reserved : Bool

-- the checkout that the making of a branch makes in row n
abbrev pub checkout_of_branch : Out → ℕ → Option Checkout
checkout_of_branch outs.No n = None
checkout_of_branch outs.Reserved n = Some (record { row = n; origin = n; reserved = true })
checkout_of_branch outs.Unreserved n = Some (record { row = n; origin = n; reserved = false })

-- the checkout that the making of an element makes in row n
abbrev pub checkout_of_element : Bool → ℕ → Option Checkout
checkout_of_element true n = Some (record { row = n; origin = n; reserved = true })
checkout_of_element false n = None

-- a checkout of an element by a view
pub record TakenOut : Type 0 where
  pub view : List ℕ
  pub element : ℕ
  pub checkout : Checkout

-- the same, where there is a checkout
abbrev pub taken_out : List ℕ → ℕ → Option Checkout → Option TakenOut
taken_out v e None = None
taken_out v e (Some checkout) = Some (record { view = v; element = e; checkout = checkout })

-- the checkout that a deed makes in row n
abbrev pub made_out : ℕ → Deed → Option TakenOut
made_out n (deeds.Mkelem v directory name kind out) = taken_out v n (checkout_of_element out n)
made_out n (deeds.Checkout v e origin reserved) = Some (record {
  view = v;
  element = e;
  checkout = record { row = n; origin = origin; reserved = reserved };
})
made_out n (deeds.Branch v e origin name out) = taken_out v e (checkout_of_branch out n)
made_out n deed = None

-- whether a checkout is one of this element by this view, and what it then sets
abbrev pub set_by : List ℕ → ℕ → Option TakenOut → Effect Checkout
set_by v e None = Keeps
set_by v e (Some taken) = only_if (bytes_eq taken.view v && (taken.element == e)) (Sets taken.checkout)

-- a checkout ends with the view, by a checkin or by an uncheckout
abbrev pub out_effect : List ℕ → ℕ → ℕ → Deed → Effect Checkout
out_effect v e n (deeds.Mkview w) = only_if (bytes_eq w v) Ends
out_effect v e n (deeds.Rmview w) = only_if (bytes_eq w v) Ends
out_effect v e n (deeds.Checkin w f) = only_if (bytes_eq w v && (f == e)) Ends
out_effect v e n (deeds.Uncheckout w f) = only_if (bytes_eq w v && (f == e)) Ends
out_effect v e n deed = set_by v e (made_out n deed)

-- the view's checkout of the element
abbrev pub out : Base → List ℕ → ℕ → Option Checkout
out b v e = last (λ older row. out_effect v e (size older) row.deed) b

-- what a checkout's making sets: its own row
abbrev pub making_of_out : Effect Checkout → Effect ℕ
making_of_out Keeps = Keeps
making_of_out Ends = Ends
making_of_out (Sets checkout) = Sets checkout.row

-- a save makes the text anew
abbrev pub making_effect : List ℕ → ℕ → ℕ → Deed → Effect ℕ
making_effect v e n (deeds.Save w f text) = only_if (bytes_eq w v && (f == e)) (Sets n)
making_effect v e n deed = making_of_out (out_effect v e n deed)

-- the row that made the text of the view's checkout of the element: the last save since, else the row that made the checkout
abbrev pub making : Base → List ℕ → ℕ → Option ℕ
making b v e = last (λ older row. making_effect v e (size older) row.deed) b

-- a private file is put by path and taken away by rm
abbrev pub private_effect : List ℕ → List ℕ → ℕ → Deed → Effect ℕ
private_effect v p n (deeds.Mkview w) = only_if (bytes_eq w v) Ends
private_effect v p n (deeds.Rmview w) = only_if (bytes_eq w v) Ends
private_effect v p n (deeds.Put w q text) = only_if (bytes_eq w v && bytes_eq q p) (Sets n)
private_effect v p n (deeds.Rm w q) = only_if (bytes_eq w v && bytes_eq q p) Ends
private_effect v p n deed = Keeps

-- the row that put the view's private file at the path
abbrev pub private : Base → List ℕ → List ℕ → Option ℕ
private b v p = last (λ older row. private_effect v p (size older) row.deed) b

-- `element * CHECKEDOUT` and `element * /main/LATEST`, each with a newline
abbrev pub default_spec : List ℕ
default_spec =
    101 ∷ 108 ∷ 101 ∷ 109 ∷ 101 ∷ 110 ∷ 116 ∷ 32 ∷ 42 ∷ 32 ∷ 67 ∷ 72 ∷ 69 ∷ 67 ∷ 75 ∷ 69 ∷ 68 ∷ 79 ∷ 85 ∷ 84 ∷ 10
    ∷ 101 ∷ 108 ∷ 101 ∷ 109 ∷ 101 ∷ 110 ∷ 116 ∷ 32 ∷ 42 ∷ 32 ∷ 47 ∷ 109 ∷ 97 ∷ 105 ∷ 110 ∷ 47 ∷ 76 ∷ 65 ∷ 84 ∷ 69 ∷ 83 ∷ 84 ∷ 10
    ∷ []

-- a view begins with the default config spec
abbrev pub spec_effect : List ℕ → Deed → Effect (List ℕ)
spec_effect v (deeds.Mkview w) = only_if (bytes_eq w v) (Sets default_spec)
spec_effect v (deeds.Rmview w) = only_if (bytes_eq w v) Ends
spec_effect v (deeds.Setcs w text) = only_if (bytes_eq w v) (Sets text)
spec_effect v deed = Keeps

-- the text of the view's config spec as it was set, where the view exists
abbrev pub spec_text : Base → List ℕ → Option (List ℕ)
spec_text b v = last (λ older row. spec_effect v row.deed) b
