-- What is due is found by reading the rows from the oldest on, and ascends.
use Rattle.std.proofs.Common.{◌≡◌, refl, ap, ap₂, sym, subst, ◌∙◌, ℕ, suc, ◌+◌, ◌<◌, ◌≤◌, ◌^◌, Bool, true, false, ◌&&◌, not}
use Rattle.std.proofs.Common.{◌==◌, Option, Some, None, List, [], ◌∷◌, ◌++◌, length, reverse, drop, get_or, append-nil, arith}
use Rattle.std.proofs.lemmas.List.{at_drop_all, length-reverse, reverse-append, reverse-reverse}
use Rattle.std.proofs.lemmas.Option.{slice_get_read}
use Rattle.std.specs.Cmp.{nat_cmp_is}
use Rattle.std.specs.List.{AllByRecursion, list_any}
use Rattle.std.specs.List.Sorted.{IsStrictlySortedBy}
use Rattle.std.specs.Ordering.{nat_cmp}
use Rattle.std.specs.Prelude.{is_some, nat_le}
use Rattle.std.specs.declared.cmp.Ordering.TheVariants.{Less}
use Rattle.cc_names.specs.Formed.{Plain, IsListOf, IsLong}
use Rattle.cc_names.specs.Last.{Ends, Sets, only_if, value_after}
use Rattle.cc_names.specs.References.{is_held}
use Rattle.cc_names.specs.Versions.{put_if}
use Rattle.cc_names.specs.declared.rows.Deed.{Deed}
use Rattle.cc_names.specs.declared.rows.Deed.TheVariants as deeds
use Rattle.cc_names.proofs.Common.{and_swapped, same_number}
use Rattle.base_model.specs.Changes.{objects_held, live_row, live_effect}
use Rattle.base_model.specs.Closures.{is_publish_deed}
use Rattle.base_model.specs.Conditions.{may_be_scrubbed}
use Rattle.base_model.specs.Rows.{Base, size, row_at}
use Rattle.legal_history.specs.Commands.ObjectLines.{due_objects, due_among, is_due}
use Rattle.legal_history.proofs.Reuse.SoundRows.{live_below}
use Rattle.base_rows.specs.Order.{oldest_first}
use Rattle.base_rows.proofs.RowTexts.{row_numbered}
use Rattle.checkout_desk.specs.Dues.{due_from}

-- one more row at the end
due_behind : (b : Base) (moment age n : ℕ) (rows : List Plain) (row : Plain)
    → due_from b moment age n (rows ++ row ∷ []) ≡ due_from b moment age n rows
    ++ put_if (is_due b moment age (n + length rows) row.moment) (n + length rows) []
due_behind b moment age n [] row = ap (λ k. put_if (is_due b moment age k row.moment) k []) (omega arith)
due_behind b moment age n (first ∷ rows) row =
    let later : suc n + length rows ≡ n + suc (length rows) = omega arith in
    by (is_due b moment age n first.moment) (due_behind b moment age (suc n) rows row
    ∙ ap (λ k. due_from b moment age (suc n) rows ++ put_if (is_due b moment age k row.moment) k []) later)
  where
    by : (t : Bool) → due_from b moment age (suc n) (rows ++ row ∷ []) ≡ due_from b moment age (suc n) rows
        ++ put_if (is_due b moment age (n + suc (length rows)) row.moment) (n + suc (length rows)) [] →
        put_if t n (due_from b moment age (suc n) (rows ++ row ∷ [])) ≡ put_if t n (due_from b moment age (suc n) rows)
        ++ put_if (is_due b moment age (n + suc (length rows)) row.moment) (n + suc (length rows)) []
    by true rest = ap (λ (ids : List ℕ). n ∷ ids) rest
    by false rest = rest

-- an object before others, read from the end
put_back : (t : Bool) (n : ℕ) (ids : List ℕ) → reverse (put_if t n ids) ≡ reverse ids ++ put_if t n []
put_back true n ids = reverse-append (n ∷ []) ids
put_back false n ids = sym (append-nil (reverse ids))

-- what is due among the rows of a base, read from the oldest on
pub due_read : (b : Base) (moment age : ℕ) (rows : Base) → due_from b moment age 1 (reverse rows)
    ≡ reverse (due_among b moment age rows)
due_read b moment age [] = refl
due_read b moment age (row ∷ older) =
    let same = length-reverse older in
    let number : 1 + length (reverse older) ≡ size older = omega arith in
    ap (due_from b moment age 1) (reverse-append (row ∷ []) older)
    ∙ due_behind b moment age 1 (reverse older) row
    ∙ ap₂ (λ (ids : List ℕ) k. ids ++ put_if (is_due b moment age k row.moment) k []) (due_read b moment age older) number
    ∙ sym (put_back (is_due b moment age (size older) row.moment) (size older) (due_among b moment age older))

-- each object that is due among rows after a number comes after that number, and before the number after the rows
due_above : (b : Base) (moment age k n : ℕ) (rows : List Plain) → k < n
    → AllByRecursion (λ y. nat_cmp k y ≡ Less) (due_from b moment age n rows)
due_above b moment age k n [] low = tt
due_above b moment age k n (row ∷ rows) low = by (is_due b moment age n row.moment)
    (due_above b moment age k (suc n) rows (omega arith))
  where
    by : (t : Bool) → AllByRecursion (λ y. nat_cmp k y ≡ Less) (due_from b moment age (suc n) rows)
        → AllByRecursion (λ y. nat_cmp k y ≡ Less) (put_if t n (due_from b moment age (suc n) rows))
    by true rest = (sym (nat_cmp_is k n Less low), rest)
    by false rest = rest

due_ascends : (b : Base) (moment age n : ℕ) (rows : List Plain) → IsStrictlySortedBy nat_cmp (due_from b moment age n rows)
unfolding IsStrictlySortedBy
due_ascends b moment age n [] = tt
due_ascends b moment age n (row ∷ rows) = by (is_due b moment age n row.moment) (due_ascends b moment age (suc n) rows)
  where
    by : (t : Bool) → IsStrictlySortedBy nat_cmp (due_from b moment age (suc n) rows)
        → IsStrictlySortedBy nat_cmp (put_if t n (due_from b moment age (suc n) rows))
    by true rest = (due_above b moment age n (suc n) rows (omega arith), rest)
    by false rest = rest

due_short : (b : Base) (moment age n : ℕ) (rows : List Plain) → length (due_from b moment age n rows) ≤ length rows
due_short b moment age n [] = omega arith
due_short b moment age n (row ∷ rows) = by (is_due b moment age n row.moment) (due_short b moment age (suc n) rows)
  where
    by : (t : Bool) → length (due_from b moment age (suc n) rows) ≤ length rows
        → length (put_if t n (due_from b moment age (suc n) rows)) ≤ suc (length rows)
    by true rest = omega arith
    by false rest = omega arith

due_long : (b : Base) (moment age n limit : ℕ) (rows : List Plain) → n + length rows ≤ limit → limit ≤ 2 ^ 64
    → AllByRecursion IsLong (due_from b moment age n rows)
due_long b moment age n limit [] low high = tt
due_long b moment age n limit (row ∷ rows) low high = by (is_due b moment age n row.moment)
    (due_long b moment age (suc n) limit rows (omega arith) high)
  where
    by : (t : Bool) → AllByRecursion IsLong (due_from b moment age (suc n) rows)
        → AllByRecursion IsLong (put_if t n (due_from b moment age (suc n) rows))
    by true rest = (omega arith, rest)
    by false rest = rest

-- what is due has the form of a scrub's list
pub due_formed : (b : Base) (moment age : ℕ) → size b ≤ 4000000 → IsListOf IsLong (due_objects b moment age)
    × IsStrictlySortedBy nat_cmp (due_objects b moment age)
due_formed b moment age low =
    let length_is : length (reverse b) ≡ length b = length-reverse b in
    let short = due_short b moment age 1 (reverse b) in
    subst (λ (ids : List ℕ). IsListOf IsLong ids × IsStrictlySortedBy nat_cmp ids) (due_read b moment age b) (
      (omega arith, due_long b moment age 1 4000001 (reverse b) (omega arith) (omega arith)),
      due_ascends b moment age 1 (reverse b),
    )

-- no object is made by a row that publishes none
ended : (t : Bool) (before : Option ℕ) → before ≡ None → value_after (only_if t Ends) before ≡ None
ended true before none = refl
ended false before none = none

unmade : (deed : Deed) (n id : ℕ) (before : Option ℕ) → before ≡ None → (n == id) ≡ false
    → value_after (live_effect id n deed) before ≡ None
unmade (deeds.Publish v targets script entries outputs) n id before none apart =
    ap (λ t. value_after (only_if t (Sets n)) before) apart ∙ none
unmade (deeds.Scrub objects) n id before none apart = ended (list_any (λ object. object == id) objects) before none
unmade deed n id before none apart = none

unmade_here : (deed : Deed) (n id : ℕ) (before : Option ℕ) → before ≡ None → is_publish_deed (Some deed) ≡ false
    → value_after (live_effect id n deed) before ≡ None
unmade_here (deeds.Publish v targets script entries outputs) n id before none other = absurd (cc)
unmade_here (deeds.Scrub objects) n id before none other = ended (list_any (λ object. object == id) objects) before none
unmade_here deed n id before none other = none

none_live : (b : Base) (id : ℕ) → size b ≤ id → live_row b id ≡ None
none_live b id low = by (live_row b id) refl
  where
    by : (found : Option ℕ) → live_row b id ≡ found → found ≡ None
    by None is = refl
    by (Some n) is = absurd (let below = live_below b id (ap is_some is) in omega arith)

pub unpublished : (b : Base) (id : ℕ) (row : Plain) → row_at b id ≡ Some row → is_publish_deed (Some row.deed) ≡ false
    → live_row b id ≡ None
unpublished [] id row at other = absurd (cc)
unpublished (first ∷ older) id row at other = by (size older == id) refl at (λ is. unpublished older id row is other)
  where
    by : (t : Bool) → (size older == id) ≡ t → elim t as (λ x. Option Plain) [ true ↦ Some first | false ↦ row_at older id ]
        ≡ Some row → (row_at older id ≡ Some row → live_row older id ≡ None) →
        value_after (live_effect id (size older) first.deed) (live_row older id) ≡ None
    by true here is rest =
        let same : first ≡ row = cc in
        let number = same_number (size older) id here in
        unmade_here first.deed (size older) id (live_row older id) (none_live older id (omega arith))
        (ap (λ (r : Plain). is_publish_deed (Some r.deed)) same ∙ other)
    by false apart is rest = unmade first.deed (size older) id (live_row older id) (rest is) apart

-- whether an object is due, by the three tests in the order in which they are cheap
pub due_tested : (b : Base) (moment age id : ℕ) (row : Plain) → row_at b id ≡ Some row
    → (is_publish_deed (Some row.deed) && nat_le (row.moment + age) moment && may_be_scrubbed b id)
    ≡ is_due b moment age id row.moment
due_tested b moment age id row at = by (is_publish_deed (Some row.deed)) refl
  where
    by : (t : Bool) → is_publish_deed (Some row.deed) ≡ t → (t && nat_le (row.moment + age) moment && may_be_scrubbed b id)
        ≡ is_due b moment age id row.moment
    by true is = and_swapped (nat_le (row.moment + age) moment) (may_be_scrubbed b id)
    by false is = sym (ap (λ (found : Option ℕ). is_some found && not (is_held (objects_held b) id)
        && nat_le (row.moment + age) moment) (unpublished b id row at is))

-- the row at a place of the list from the oldest on
pub numbered_row : (b : Base) (all : List Plain) (i : ℕ) (row : Plain) → all ≡ oldest_first b → i < length all
    → row ≡ get_or all i row → row_at b (suc i) ≡ Some row
numbered_row b all i row is within at = ap (λ (rows : Base). row_at rows (suc i)) (sym (ap reverse is ∙ reverse-reverse b))
    ∙ row_numbered all i ∙ slice_get_read all (length all) i row refl within at

-- what was found when all rows are read is what is due
pub all_read : (b : Base) (moment age number i : ℕ) (all : List Plain) (found : List ℕ) → all ≡ oldest_first b → length all ≤ i
    → found ++ due_from b moment age (suc number) (drop i all) ≡ due_from b moment age 1 all → found ≡ due_objects b moment age
all_read b moment age number i all found is past so =
    sym (append-nil found)
    ∙ sym (at_drop_all (λ (value_after : List Plain). found ++ due_from b moment age (suc number) value_after) all i past)
    ∙ so
    ∙ ap (due_from b moment age 1) is
    ∙ due_read b moment age b
