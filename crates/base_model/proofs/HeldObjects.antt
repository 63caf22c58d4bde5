-- Every object that a view holds is live; a scrub takes no held one; the references are in order and are counted.
use Rattle.std.proofs.Common.{◌≡◌, refl, ap, sym, ◌∙◌, ℕ, ◌+◌, Bool, true, false, not, ◌&&◌, ◌||◌, ◌==◌, Some, List, [], ◌∷◌}
use Rattle.std.proofs.Common.{arith}
use Rattle.std.proofs.lemmas.Cmp.{then_total, on_total, nat_list_cmp_total}
use Rattle.std.specs.Cmp.{IsTotalOrder}
use Rattle.std.specs.List.{list_any, list_all}
use Rattle.std.specs.Prelude.{T, is_some, bytes_eq}
use Rattle.std.specs.FinMap.Entries.{put, is_sorted, is_sorted-put, is_sorted-where_key}
use Rattle.std.proofs.lemmas.Bool.{or_left, or_right}
use Rattle.cc_names.specs.Formed.{Plain}
use Rattle.cc_names.specs.Last.{Ends, Sets, only_if, value_after}
use Rattle.cc_names.specs.References.{ReferencesByPath, ViewPath, view_path_cmp, is_view_path, won, references, held_at, is_held}
use Rattle.cc_names.specs.References.{is_held_by, count, one_where}
use Rattle.cc_names.specs.declared.changes.ReferenceChange.{ReferenceChange}
use Rattle.cc_names.specs.declared.changes.ReferenceChange.TheVariants.{Won, Lost, ViewGone}
use Rattle.cc_names.specs.declared.rows.Deed.{Deed}
use Rattle.cc_names.specs.declared.rows.Deed.TheVariants as deeds
use Rattle.cc_names.proofs.Common.{same_number, and_first, and_second}
use Rattle.base_model.specs.Rows.{Base, size}
use Rattle.base_model.specs.Changes.{objects_held, holdings, holdings_after, live_row, live_effect, targets_of}
use Rattle.base_model.specs.Conditions.{exists, may_be_scrubbed}
use Rattle.base_model.specs.Fits.{deed_fits, is_base}
use Rattle.base_model.proofs.Owned.{row_fits, rows_below, same_is_same}
use Rattle.base_model.proofs.Values.{AllValues, all_as, all_both, all_put, all_where, all_found}

abbrev pub Lives : Base → ℕ → Type 0
Lives b id = is_some (live_row b id) ≡ true

-- each value of the references is one that some view holds
all_are_held : (objects_held : ReferencesByPath) → AllValues (λ id. is_held objects_held id ≡ true) objects_held
all_are_held [] = tt
all_are_held (entry ∷ objects_held) = (
  or_left (entry.1 == entry.1) (is_held objects_held entry.1) (same_is_same entry.1),
  all_as (λ id. is_held objects_held id ≡ true) (λ id. is_held (entry ∷ objects_held) id ≡ true) objects_held
      (λ id h. or_right (entry.1 == id) (is_held objects_held id) h) (all_are_held objects_held),
)

-- an object that some view holds is none of those that may be scrubbed
pub not_taken : (b : Base) (objects : List ℕ) (id : ℕ) → list_all (may_be_scrubbed b) objects ≡ true
    → is_held (objects_held b) id ≡ true → list_any (λ object. object == id) objects ≡ false
not_taken b [] id fit h = refl
not_taken b (object ∷ objects) id fit h = by (object == id) refl (not_taken b objects id
    (and_second (may_be_scrubbed b object) (list_all (may_be_scrubbed b) objects) fit) h)
  where
    by : (t : Bool) → (object == id) ≡ t → list_any (λ object. object == id) objects ≡ false
        → (t || list_any (λ object. object == id) objects) ≡ false
    by false e rest = rest
    by true e rest =
        let number : object ≡ id = same_number object id e in
        let free : not (is_held (objects_held b) object) ≡ true = and_second (is_some (live_row b object))
        (not (is_held (objects_held b) object)) (and_first (may_be_scrubbed b object) (list_all (may_be_scrubbed b) objects)
        fit) in
        let taken : not (is_held (objects_held b) object) ≡ false = ap (λ n. not (is_held (objects_held b) n)) number
        ∙ ap not h in
        absurd (cc)

all_won : (P : ℕ → Type 0) (v : List ℕ) (id : ℕ) (targets : List (List ℕ)) (objects_held : ReferencesByPath) → P id
    → AllValues P objects_held → AllValues P (won v id targets objects_held)
all_won P v id [] objects_held is h = h
all_won P v id (target ∷ targets) objects_held is h = all_won P v id targets (put view_path_cmp (v, target) id objects_held) is
    (all_put P view_path_cmp (v, target) id objects_held is h)

-- an object that lives goes on to live when another is published
lives_on : (older : Base) (id n : ℕ) (test : Bool) → Lives older id → is_some
    (value_after (only_if test (Sets n)) (live_row older id)) ≡ true
lives_on older id n true h = refl
lives_on older id n false h = h

row_holds : (older : Base) (deed : Deed) → deed_fits older deed ≡ true → AllValues (Lives older) (objects_held older) →
    AllValues (λ id. is_some (value_after (live_effect id (size older) deed) (live_row older id)) ≡ true)
    (references (holdings_after older deed (holdings older)))
row_holds older (deeds.Rmview v) fit h = all_where (Lives older) view_path_cmp (λ view_path. not (bytes_eq view_path.0 v))
    (objects_held older) h
row_holds older (deeds.Publish v targets script entries outputs) fit h =
    all_won (λ id. is_some (value_after (only_if (size older == id) (Sets (size older))) (live_row older id)) ≡ true) v
    (size older) targets (objects_held older)
    (ap (λ t. is_some (value_after (only_if t (Sets (size older))) (live_row older (size older)))) (same_is_same (size older)))
    (all_as (Lives older) (λ id. is_some (value_after (only_if (size older == id) (Sets (size older))) (live_row older id))
    ≡ true) (objects_held older)
    (λ id lives. lives_on older id (size older) (size older == id) lives) h)
row_holds older (deeds.Wink v id) fit h = all_won (Lives older) v id (targets_of older id) (objects_held older)
    (and_second (exists older v) (is_some (live_row older id)) fit) h
row_holds older (deeds.Drop v path) fit h = all_where (Lives older) view_path_cmp
    (λ view_path. not (is_view_path view_path (v, path))) (objects_held older) h
row_holds older (deeds.Scrub objects) fit h =
    all_both (Lives older) (λ id. is_held (objects_held older) id ≡ true)
    (λ id. is_some (value_after (only_if (list_any (λ object. object == id) objects) Ends) (live_row older id)) ≡ true)
    (objects_held older)
    (λ id lives is. ap (λ t. is_some (value_after (only_if t Ends) (live_row older id))) (not_taken older objects id fit is)
    ∙ lives) h (all_are_held (objects_held older))
row_holds older deed fit h = h

pub all_live : (b : Base) → is_base b ≡ true → AllValues (Lives b) (objects_held b)
all_live [] base = tt
all_live (row ∷ older) base = row_holds older row.deed (row_fits row older base) (all_live older (rows_below row older base))

pub held_is_live : (b : Base) (v path : List ℕ) (id : ℕ) → is_base b ≡ true → held_at (objects_held b) v path ≡ Some id
    → is_some (live_row b id) ≡ true
held_is_live b v path id base is = all_found (Lives b) view_path_cmp (v, path) (objects_held b) id (all_live b base) is

-- an object that is held lives on whatever row fits
pub held_lives_on : (b : Base) (deed : Deed) (id : ℕ) → deed_fits b deed ≡ true → is_held (objects_held b) id ≡ true → Lives b id
    → is_some (value_after (live_effect id (size b) deed) (live_row b id)) ≡ true
held_lives_on b (deeds.Publish v targets script entries outputs) id fit is lives = lives_on b id (size b) (size b == id) lives
held_lives_on b (deeds.Scrub objects) id fit is lives = ap (λ t. is_some (value_after (only_if t Ends) (live_row b id)))
    (not_taken b objects id fit is) ∙ lives
held_lives_on b deed id fit is lives = lives

pub is_held_there : (b : Base) (v path : List ℕ) (id : ℕ) → held_at (objects_held b) v path ≡ Some id
    → is_held (objects_held b) id ≡ true
is_held_there b v path id is = all_found (λ id. is_held (objects_held b) id ≡ true) view_path_cmp (
  v,
  path,
) (objects_held b) id (all_are_held (objects_held b)) is

pub scrub_takes : (row : Plain) (b : Base) (objects : List ℕ) (id : ℕ) → is_base (row ∷ b) ≡ true → row.deed ≡ deeds.Scrub objects
    → list_any (λ object. object == id) objects ≡ true → is_held (objects_held b) id ≡ false
scrub_takes row b objects id base is among = by (is_held (objects_held b) id) refl
  where
    fit : list_all (may_be_scrubbed b) objects ≡ true
    fit = ap (deed_fits b) (sym is) ∙ row_fits row b base

    by : (t : Bool) → is_held (objects_held b) id ≡ t → is_held (objects_held b) id ≡ false
    by false e = e
    by true e = let taken = not_taken b objects id fit e in absurd (cc)

-- the references are in order
pub view_paths_total : IsTotalOrder view_path_cmp
view_paths_total = then_total (on_total (λ (view_path : ViewPath). view_path.0) nat_list_cmp_total)
    (on_total (λ (view_path : ViewPath). view_path.1) nat_list_cmp_total)

won_sorted : (v : List ℕ) (id : ℕ) (targets : List (List ℕ)) (objects_held : ReferencesByPath)
    → T (is_sorted view_path_cmp objects_held) → T (is_sorted view_path_cmp (won v id targets objects_held))
won_sorted v id [] objects_held h = h
won_sorted v id (target ∷ targets) objects_held h = won_sorted v id targets (put view_path_cmp (v, target) id objects_held)
    (is_sorted-put view_path_cmp view_paths_total (v, target) id objects_held h)

references_sorted : (changes : List ReferenceChange) → T (is_sorted view_path_cmp (references changes))
references_sorted [] = tt
references_sorted (Won v targets id ∷ older) = won_sorted v id targets (references older) (references_sorted older)
references_sorted (Lost v path ∷ older) = is_sorted-where_key view_path_cmp (λ view_path. not (is_view_path view_path (v, path)))
    (references older) (references_sorted older)
references_sorted (ViewGone v ∷ older) = is_sorted-where_key view_path_cmp (λ view_path. not (bytes_eq view_path.0 v))
    (references older) (references_sorted older)

pub true_by : (t : Bool) → T t → t ≡ true
true_by true h = refl
true_by false h = absurd h

pub held_in_order : (b : Base) → is_sorted view_path_cmp (objects_held b) ≡ true
held_in_order b = true_by (is_sorted view_path_cmp (objects_held b)) (references_sorted (holdings b))

-- the counts
none_counted_by : (t one : Bool) (objects_held : ReferencesByPath) (id : ℕ) → (t || is_held objects_held id) ≡ false
    → (is_held objects_held id ≡ false → count objects_held id ≡ 0) → one_where (t && one) + count objects_held id ≡ 0
none_counted_by true one objects_held id h rest = absurd (cc)
none_counted_by false one objects_held id h rest = let none = rest h in omega arith

pub none_counted : (objects_held : ReferencesByPath) (id : ℕ) → is_held objects_held id ≡ false → count objects_held id ≡ 0
none_counted [] id h = refl
none_counted (entry ∷ objects_held) id h = none_counted_by (entry.1 == id) (not (is_held_by objects_held entry.0.0 id))
    objects_held id h (none_counted objects_held id)

held_by_one : (objects_held : ReferencesByPath) (v : List ℕ) (id : ℕ) → is_held_by objects_held v id ≡ true
    → is_held objects_held id ≡ true
held_by_one [] v id h = absurd (cc)
held_by_one (entry ∷ objects_held) v id h = by (bytes_eq entry.0.0 v) (entry.1 == id) h (held_by_one objects_held v id)
  where
    by : (s t : Bool) → ((s && t) || is_held_by objects_held v id) ≡ true
        → (is_held_by objects_held v id ≡ true → is_held objects_held id ≡ true) → (t || is_held objects_held id) ≡ true
    by s true h rest = refl
    by true false h rest = rest h
    by false false h rest = rest h

zero_counted_by : (t : Bool) (objects_held : ReferencesByPath) (v : List ℕ) (id : ℕ)
    → one_where (t && not (is_held_by objects_held v id)) + count objects_held id ≡ 0
    → (count objects_held id ≡ 0 → is_held objects_held id ≡ false) → (t || is_held objects_held id) ≡ false
zero_counted_by false objects_held v id h rest = rest (omega arith)
zero_counted_by true objects_held v id h rest = by (is_held_by objects_held v id) refl h
  where
    by : (s : Bool) → is_held_by objects_held v id ≡ s → one_where (not s) + count objects_held id ≡ 0 → true ≡ false
    by false e h = absurd (omega arith)
    by true e h = let none : is_held objects_held id ≡ false = rest (omega arith) in let some = held_by_one objects_held v id e in
        cc

pub zero_counted : (objects_held : ReferencesByPath) (id : ℕ) → count objects_held id ≡ 0 → is_held objects_held id ≡ false
zero_counted [] id h = refl
zero_counted (entry ∷ objects_held) id h = zero_counted_by (entry.1 == id) objects_held entry.0.0 id h
    (zero_counted objects_held id)
