-- The row of a view's own text of an element made a text of it, and the row of a private file put one.
use Rattle.std.proofs.Common.{◌≡◌, refl, ap, sym, subst, ◌∙◌, ℕ, ◌<◌, Bool, true, false, ◌&&◌, ◌==◌, Some, List, ◌∷◌, arith}
use Rattle.std.specs.Prelude.{bytes_eq}
use Rattle.cc_names.specs.Formed.{Plain}
use Rattle.cc_names.specs.Last.{Effect, Keeps, Ends, Sets, only_if}
use Rattle.cc_names.specs.declared.rows.Deed.{Deed}
use Rattle.cc_names.specs.declared.rows.Deed.TheVariants as deeds
use Rattle.cc_names.specs.declared.rows.Kind.{Kind}
use Rattle.cc_names.specs.declared.rows.Out.{Out}
use Rattle.cc_names.specs.declared.rows.Out.TheVariants as outs
use Rattle.cc_names.proofs.Common.{same_number, and_second}
use Rattle.base_model.specs.Rows.{Base, size, deed_of, deed_at}
use Rattle.base_model.specs.Conditions.{element_of_text, is_put}
use Rattle.base_model.specs.Views.{Checkout, TakenOut, checkout_of_element, checkout_of_branch, made_out, making, making_effect}
use Rattle.base_model.specs.Views.{making_of_out, out_effect, private, private_effect, taken_out}
use Rattle.base_model.proofs.Below.{last_holds}
use Rattle.base_model.proofs.Origins.{out_sets, set_is}
use Rattle.base_model.proofs.Stay.{row_stays}
use Rattle.base_model.proofs.VersionRows.{TextAt, text_stays_at, newest_deed, newest_text}

-- a checkout that a row makes has this row, and the row made a text of its element
record IsOwn (b : Base) (n : ℕ) (deed : Deed) (taken : TakenOut) : Type 0 where
  row : taken.checkout.row ≡ n
  of_element : element_of_text b n deed ≡ Some taken.element

own_by : (b : Base) (n : ℕ) (deed : Deed) (made taken : TakenOut) → IsOwn b n deed made → Some made ≡ Some taken
    → IsOwn b n deed taken
own_by b n deed made taken h e = let same : made ≡ taken = cc in subst (IsOwn b n deed) same h

element_own : (b : Base) (v : List ℕ) (directory n : ℕ) (name : List ℕ) (kind : Kind) (how : Bool) (taken : TakenOut)
    → taken_out v n (checkout_of_element how n) ≡ Some taken →
    IsOwn b n (deeds.Mkelem v directory name kind how) taken
element_own b v directory n name kind true taken h = own_by b n (deeds.Mkelem v directory name kind true) _ taken
    (record { row = refl; of_element = refl }) h
element_own b v directory n name kind false taken h = absurd (cc)

branch_own : (b : Base) (v : List ℕ) (e origin n : ℕ) (name : List ℕ) (how : Out) (taken : TakenOut)
    → taken_out v e (checkout_of_branch how n) ≡ Some taken →
    IsOwn b n (deeds.Branch v e origin name how) taken
branch_own b v e origin n name outs.No taken h = absurd (cc)
branch_own b v e origin n name outs.Reserved taken h = own_by b n (deeds.Branch v e origin name outs.Reserved) _ taken
    (record { row = refl; of_element = refl }) h
branch_own b v e origin n name outs.Unreserved taken h = own_by b n (deeds.Branch v e origin name outs.Unreserved) _ taken
    (record { row = refl; of_element = refl }) h

made_own : (b : Base) (n : ℕ) (deed : Deed) (taken : TakenOut) → made_out n deed ≡ Some taken → IsOwn b n deed taken
made_own b n (deeds.Mkelem v directory name kind how) taken h = element_own b v directory n name kind how taken h
made_own b n (deeds.Checkout v e origin reserved) taken h = own_by b n (deeds.Checkout v e origin reserved) _ taken
    (record { row = refl; of_element = refl }) h
made_own b n (deeds.Branch v e origin name how) taken h = branch_own b v e origin n name how taken h
made_own b n deed taken h = absurd (cc)

-- the row that made a view's own text of an element
record SetsOwn (b : Base) (e n r : ℕ) (deed : Deed) : Type 0 where
  number : r ≡ n
  of_element : element_of_text b n deed ≡ Some e

checkout_sets : (b : Base) (v : List ℕ) (e n r : ℕ) (deed : Deed) (effect : Effect Checkout) → out_effect v e n deed ≡ effect
    → making_of_out effect ≡ Sets r → SetsOwn b e n r deed
checkout_sets b v e n r deed Keeps is h = absurd (cc)
checkout_sets b v e n r deed Ends is h = absurd (cc)
checkout_sets b v e n r deed (Sets checkout) is h =
    let set = set_is v e (made_out n deed) checkout (out_sets v e n deed checkout is) in
    let own = made_own b n deed set.0 set.1 in
    let row : checkout.row ≡ r = cc in
    record { number = sym row ∙ ap (λ (c : Checkout). c.row) (sym set.3) ∙ own.row; of_element = own.of_element ∙ ap Some set.2 }

making_sets : (b : Base) (v : List ℕ) (e n r : ℕ) (deed : Deed) → making_effect v e n deed ≡ Sets r → SetsOwn b e n r deed
making_sets b v e n r (deeds.Save w f text) h = by (bytes_eq w v && (f == e)) refl h
  where
    by : (t : Bool) → (bytes_eq w v && (f == e)) ≡ t → only_if t (Sets n) ≡ Sets r → SetsOwn b e n r (deeds.Save w f text)
    by true test h = record { number = cc; of_element = ap Some (same_number f e (and_second (bytes_eq w v) (f == e) test)) }
    by false test h = absurd (cc)
making_sets b v e n r deed h = checkout_sets b v e n r deed (out_effect v e n deed) refl h

pub making_text : (b : Base) (v : List ℕ) (e r : ℕ) → making b v e ≡ Some r → TextAt b r e
making_text b v e r h =
    last_holds {X = Plain} {A = ℕ} (λ b r. TextAt b r e) (λ older row. making_effect v e (size older) row.deed)
    (λ row older r text. text_stays_at row older r e text)
    (λ row older r is.
    let own = making_sets (row ∷ older) v e (size older) r row.deed is in
    subst (λ r. TextAt (row ∷ older) r e) (sym own.number) (newest_text row older e own.of_element))
    b r h

-- a row that put a private file
pub record PutAt (b : Base) (r : ℕ) : Type 0 where
  pub deed : Deed
  pub low : r < size b
  pub made : deed_at b r ≡ Some deed
  pub puts : is_put deed ≡ true

pub ends_none : (test : Bool) (r : ℕ) → only_if test Ends ≡ Sets r → ⊥
ends_none true r h = cc
ends_none false r h = cc

record SetsPut (n r : ℕ) (deed : Deed) : Type 0 where
  number : r ≡ n
  puts : is_put deed ≡ true

private_sets : (v p : List ℕ) (n r : ℕ) (deed : Deed) → private_effect v p n deed ≡ Sets r → SetsPut n r deed
private_sets v p n r (deeds.Mkview w) h = absurd (ends_none (bytes_eq w v) r h)
private_sets v p n r (deeds.Rmview w) h = absurd (ends_none (bytes_eq w v) r h)
private_sets v p n r (deeds.Put w q text) h = record { number = by (bytes_eq w v && bytes_eq q p) h; puts = refl }
  where
    by : (t : Bool) → only_if t (Sets n) ≡ Sets r → r ≡ n
    by true h = cc
    by false h = absurd (cc)
private_sets v p n r (deeds.Rm w q) h = absurd (ends_none _ r h)
private_sets v p n r deed h = absurd (cc)

pub private_put : (b : Base) (v p : List ℕ) (r : ℕ) → private b v p ≡ Some r → PutAt b r
private_put b v p r h =
    last_holds {X = Plain} {A = ℕ} PutAt (λ older row. private_effect v p (size older) row.deed)
    (λ row older r put. record {
      deed = put.deed;
      low = let low = put.low in
          omega arith;
      made = ap deed_of (row_stays row older r put.low) ∙ put.made;
      puts = put.puts;
    })
    (λ row older r is.
    let set = private_sets v p (size older) r row.deed is in
    subst (PutAt (row ∷ older)) (sym set.number) (record {
      deed = row.deed;
      low = omega arith;
      made = newest_deed row older;
      puts = set.puts;
    }))
    b r h
