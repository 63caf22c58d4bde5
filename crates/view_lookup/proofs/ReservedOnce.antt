-- In a base at most one reserved checkout stands on a branch, and that is the newest that was made there.
use Rattle.std.proofs.Common.{◌≡◌, refl, ap, sym, ◌∙◌, ℕ, ◌<◌, ◌≤◌, Bool, true, false, cond, not, ◌&&◌, ◌==◌, ◌⊎◌, inl}
use Rattle.std.proofs.Common.{inr, Option, Some, None, List, [], ◌∷◌, bytes_eq, arith}
use Rattle.std.proofs.lemmas.Bool.Decides.{Decides-eqb}
use Rattle.std.specs.List.{filter}
use Rattle.std.specs.Prelude.{find, is_none, option_and_then, option_map}
use Rattle.cc_names.specs.Branches.{branch_of_version}
use Rattle.cc_names.specs.Formed.{Plain}
use Rattle.cc_names.specs.Last.{Effect, Keeps, Ends, Sets, value_after, only_if}
use Rattle.cc_names.specs.Versions.{branch_of_change, change_at, is_number, put_if, row_of_change}
use Rattle.cc_names.specs.declared.changes.TreeChange.{TreeChange}
use Rattle.cc_names.specs.declared.changes.TreeChange.TheVariants.{ElementMade, BranchMade}
use Rattle.cc_names.specs.declared.rows.Deed.{Deed}
use Rattle.cc_names.specs.declared.rows.Tag.{Tag}
use Rattle.cc_names.specs.declared.rows.Deed.TheVariants as deeds
use Rattle.cc_names.specs.declared.rows.Out.TheVariants as outs
use Rattle.cc_names.proofs.Common.{and_first, and_second}
use Rattle.base_model.specs.Changes.{tree}
use Rattle.base_model.specs.Checkouts.{checkouts, other_reserver, reserver, reserves, row_of_checkout, standing_among}
use Rattle.base_model.specs.Checkouts.{checkout_view, with_standing}
use Rattle.base_model.specs.Closures.{is_version_of}
use Rattle.base_model.specs.Fits.{deed_fits, is_base}
use Rattle.base_model.specs.Rows.{Base, deed_of, only_where, size}
use Rattle.base_model.specs.Views.{Checkout, TakenOut, made_out, out, out_effect}
use Rattle.base_model.proofs.Below.{last_holds, older_change}
use Rattle.base_model.proofs.FilesBelow.{out_row}
use Rattle.base_model.proofs.Owned.{row_fits, rows_below}
use Rattle.base_model.proofs.Stay.{row_stays}
use Rattle.base_model.proofs.TreesStay.{Adds, Nothing, One, adds_row}
use Rattle.base_model.proofs.VersionRows.{newest_deed, version_below}
use Rattle.base_model.proofs.VersionsStay.{apart_below}
use Rattle.base_rows.specs.Effects.{reserving_effect, stands}
use Rattle.base_rows.specs.LookUps.{last_of}
use Rattle.view_lookup.specs.Reservations.{newest_reserving, reserving, taken_at}
use Rattle.view_lookup.proofs.NextNames.{branch_below}
use Rattle.base_rows.specs.Subjects.{reserved_branch}

-- The branch of a version is the same in a longer base.
branch_before : (row : Plain) (b : Base) (r : ℕ) → r < size b → branch_of_version (tree (row ∷ b)) r
    ≡ branch_of_version (tree b) r
branch_before row b r low = by (adds_row b row.moment row.deed (tree b))
  where
    by : {after : List TreeChange} → Adds (size b) (tree b) after → branch_of_version after r ≡ branch_of_version (tree b) r
    by (Nothing same) = ap (λ changes. branch_of_version changes r) same
    by (One change number same) =
        ap (λ changes. branch_of_version changes r) same
        ∙ ap (option_map branch_of_change) (older_change change (tree b) r
        (apart_below (row_of_change change) (size b) r number low))

-- a checkout has the row that made it
made_row : (n : ℕ) (deed : Deed) (taken : TakenOut) → made_out n deed ≡ Some taken → taken.checkout.row ≡ n
made_row n (deeds.Mkelem v directory name kind true) taken is = let same : record {
  view = v;
  element = n;
  checkout = record { row = n; origin = n; reserved = true };
} ≡ taken = cc in ap (λ (t : TakenOut). t.checkout.row) (sym same)
made_row n (deeds.Mkelem v directory name kind false) taken is = absurd (cc)
made_row n (deeds.Checkout v e origin reserved) taken is = let same : record {
  view = v;
  element = e;
  checkout = record { row = n; origin = origin; reserved = reserved };
} ≡ taken = cc in
    ap (λ (t : TakenOut). t.checkout.row) (sym same)
made_row n (deeds.Branch v e origin name outs.No) taken is = absurd (cc)
made_row n (deeds.Branch v e origin name outs.Reserved) taken is = let same : record {
  view = v;
  element = e;
  checkout = record { row = n; origin = n; reserved = true };
} ≡ taken = cc in ap (λ (t : TakenOut). t.checkout.row) (sym same)
made_row n (deeds.Branch v e origin name outs.Unreserved) taken is = let same : record {
  view = v;
  element = e;
  checkout = record { row = n; origin = n; reserved = false };
} ≡ taken = cc in ap (λ (t : TakenOut). t.checkout.row) (sym same)
made_row n deed taken is = absurd (cc)

-- a checkout that stands stood before, but for one that the newest row made
stood_before : (row : Plain) (older : Base) (taken : TakenOut) → taken.checkout.row < size older
    → stands (row ∷ older) taken ≡ true → stands older taken ≡ true
stood_before row older taken low stand = by (out_effect taken.view taken.element (size older) row.deed) refl stand
  where
    by : (effect : Effect Checkout) → out_effect taken.view taken.element (size older) row.deed ≡ effect →
        is_number taken.checkout.row (option_map row_of_checkout (value_after effect (out older taken.view taken.element))) ≡ true
        → stands older taken ≡ true
    by Keeps is stand = stand
    by Ends is stand = absurd (cc)
    by (Sets checkout) is stand =
        let own : checkout.row ≡ size older = out_row taken.view taken.element (size older) row.deed checkout is in
        let same : taken.checkout.row ≡ checkout.row = (Decides-eqb taken.checkout.row checkout.row).0 stand in
        absurd (omega arith)

-- what a longer base has of the rows of a base
record Stays (older b : Base) : Type 0 where
  branches : (r : ℕ) → r < size older → branch_of_version (tree b) r ≡ branch_of_version (tree older) r
  stood : (taken : TakenOut) → taken.checkout.row < size older → stands b taken ≡ true → stands older taken ≡ true

itself : (b : Base) → Stays b b
itself b = record { branches = λ r low. refl; stood = λ taken low stand. stand }

stays_older : (row : Plain) (older b : Base) → Stays (row ∷ older) b → Stays older b
stays_older row older b stays = record {
  branches = λ r low. stays.branches r (omega arith) ∙ branch_before row older r low;
  stood = λ taken low stand. stood_before row older taken low (stays.stood taken (omega arith) stand);
}

-- the newest reserved checkout that rows made on a branch
abbrev newest_made : Base → ℕ → Option TakenOut
newest_made [] branch = None
newest_made (row ∷ older) branch = elim (is_number branch (reserved_branch older row.deed)) [
  | true ↦
      made_out (size older) row.deed
  | false ↦ newest_made older branch
]

-- its row lies in the base
newest_low : (b : Base) (branch : ℕ) (taken : TakenOut) → newest_made b branch ≡ Some taken → taken.checkout.row < size b
newest_low [] branch taken is = absurd (cc)
newest_low (row ∷ older) branch taken is = by (is_number branch (reserved_branch older row.deed)) is
    (newest_low older branch taken)
  where
    by : (own : Bool) → elim own as (λ x. Option TakenOut) [
      | true ↦ made_out (size older) row.deed
      | false ↦
          newest_made older branch
    ] ≡ Some taken →
        (newest_made older branch ≡ Some taken → taken.checkout.row < size older) → taken.checkout.row < size (row ∷ older)
    by true is before = let number = made_row (size older) row.deed taken is in omega arith
    by false is before = let low = before is in omega arith

-- a branch that is reserved lies in the base with the row
reserved_low : (older : Base) (deed : Deed) (branch : ℕ) → is_number branch (reserved_branch older deed) ≡ true
    → branch ≤ size older
reserved_low older (deeds.Mkelem v directory name kind true) branch is = let same = (Decides-eqb branch (size older)).0 is in
    omega arith
reserved_low older (deeds.Mkelem v directory name kind false) branch is = absurd (cc)
reserved_low older (deeds.Checkout v e origin true) branch is = by (branch_of_version (tree older) origin) refl is
  where
    by : (o : Option ℕ) → branch_of_version (tree older) origin ≡ o → is_number branch o ≡ true → branch ≤ size older
    by None found is = absurd (cc)
    by (Some own) found is =
        let same : branch ≡ own = (Decides-eqb branch own).0 is in
        let low = branch_below older origin own found in
        omega arith
reserved_low older (deeds.Checkout v e origin false) branch is = absurd (cc)
reserved_low older (deeds.Branch v e origin name outs.No) branch is = absurd (cc)
reserved_low older (deeds.Branch v e origin name outs.Reserved) branch is = let same = (Decides-eqb branch (size older)).0 is in
    omega arith
reserved_low older (deeds.Branch v e origin name outs.Unreserved) branch is = absurd (cc)
reserved_low older deed branch is = absurd (cc)

-- nobody has reserved a branch that is not there
none_past : (b : Base) (branch : ℕ) → size b ≤ branch → newest_made b branch ≡ None
none_past [] branch past = refl
none_past (row ∷ older) branch past = by (is_number branch (reserved_branch older row.deed)) refl
    (none_past older branch (omega arith))
  where
    by : (own : Bool) → is_number branch (reserved_branch older row.deed) ≡ own → newest_made older branch ≡ None
        → elim own as (λ x. Option TakenOut) [ true ↦ made_out (size older) row.deed | false ↦ newest_made older branch ] ≡ None
    by true is none = let low = reserved_low older row.deed branch is in absurd (omega arith)
    by false is none = none

-- the branch of a version that the newest change made
head_number : (n : ℕ) (change : TreeChange) (changes : List TreeChange) → row_of_change change ≡ n
    → branch_of_version (change ∷ changes) n ≡ Some (branch_of_change change)
head_number n change changes number =
    let same : (row_of_change change == n) ≡ true = (Decides-eqb (row_of_change change) n).1 number in
    ap (λ is. option_map branch_of_change (cond is (Some change) (change_at changes n))) same

-- a checkout reserves in a longer base the branch that the row below it tells
made_reserving : (b older : Base) (tag : Tag) (moment : ℕ) (deed : Deed) (branch : ℕ) (taken : TakenOut)
    → deed_fits older deed ≡ true → Stays (record { tag = tag; moment = moment; deed = deed } ∷ older) b
    → made_out (size older) deed ≡ Some taken →
    reserves b branch taken ≡ is_number branch (reserved_branch older deed)
made_reserving b older tag moment (deeds.Mkelem v directory name kind true) branch taken fit stays is =
    let same : record {
      view = v;
      element = size older;
      checkout = record {
        row = size older;
        origin = size older;
        reserved = true;
      };
    } ≡ taken = cc in
    ap (reserves b branch) (sym same)
    ∙ ap (is_number branch) (stays.branches (size older) (omega arith)
    ∙ head_number (size older) (ElementMade (size older) moment kind) (tree older) refl)
made_reserving b older tag moment (deeds.Mkelem v directory name kind false) branch taken fit stays is = absurd (cc)
made_reserving b older tag moment (deeds.Checkout v e origin true) branch taken fit stays is =
    let same : record { view = v; element = e; checkout = record { row = size older; origin = origin; reserved = true } }
    ≡ taken = cc in
    let version : is_version_of older e origin ≡ true = and_second _ _ (and_first _ _ (and_first _ _ fit)) in
    let row : Plain = record { tag = tag; moment = moment; deed = deeds.Checkout v e origin true } in
    ap (reserves b branch) (sym same)
    ∙ ap (is_number branch) ((stays_older row older b stays).branches origin (version_below older e origin version))
made_reserving b older tag moment (deeds.Checkout v e origin false) branch taken fit stays is =
    let same : record { view = v; element = e; checkout = record { row = size older; origin = origin; reserved = false } }
    ≡ taken = cc in
    ap (reserves b branch) (sym same)
made_reserving b older tag moment (deeds.Branch v e origin name outs.No) branch taken fit stays is = absurd (cc)
made_reserving b older tag moment (deeds.Branch v e origin name outs.Reserved) branch taken fit stays is =
    let same : record { view = v; element = e; checkout = record { row = size older; origin = size older; reserved = true } }
    ≡ taken = cc in
    ap (reserves b branch) (sym same)
    ∙ ap (is_number branch) (stays.branches (size older) (omega arith)
    ∙ head_number (size older) (BranchMade (size older) moment e origin name) (tree older) refl)
made_reserving b older tag moment (deeds.Branch v e origin name outs.Unreserved) branch taken fit stays is =
    let same : record { view = v; element = e; checkout = record { row = size older; origin = size older; reserved = false } }
    ≡ taken = cc in
    ap (reserves b branch) (sym same)
made_reserving b older tag moment deed branch taken fit stays is = absurd (cc)

-- a row that makes no checkout reserves nothing
made_nothing : (older : Base) (deed : Deed) (branch : ℕ) → made_out (size older) deed ≡ None
    → is_number branch (reserved_branch older deed) ≡ false
made_nothing older (deeds.Mkelem v directory name kind true) branch none = absurd (cc)
made_nothing older (deeds.Mkelem v directory name kind false) branch none = refl
made_nothing older (deeds.Checkout v e origin reserved) branch none = absurd (cc)
made_nothing older (deeds.Branch v e origin name outs.No) branch none = refl
made_nothing older (deeds.Branch v e origin name outs.Reserved) branch none = absurd (cc)
made_nothing older (deeds.Branch v e origin name outs.Unreserved) branch none = absurd (cc)
made_nothing older deed branch none = refl

no_reserver : (older : Base) (o : Option ℕ) (branch : ℕ) → is_none (option_and_then (reserver older) o) ≡ true
    → is_number branch o ≡ true → reserver older branch ≡ None
no_reserver older None branch free is = absurd (cc)
no_reserver older (Some own) branch free is =
    let same : branch ≡ own = (Decides-eqb branch own).0 is in
    ap (reserver older) same ∙ by (reserver older own) free
  where
    by : (o : Option (List ℕ)) → is_none o ≡ true → o ≡ None
    by None free = refl
    by (Some v) free = absurd (cc)

-- a row that fits reserves a new branch, or one that nobody holds
unreserved : (older : Base) (deed : Deed) (branch : ℕ) → deed_fits older deed ≡ true
    → is_number branch (reserved_branch older deed) ≡ true → (size older ≤ branch) ⊎ (reserver older branch ≡ None)
unreserved older (deeds.Mkelem v directory name kind true) branch fit is = let same = (Decides-eqb branch (size older)).0 is in
    inl (omega arith)
unreserved older (deeds.Mkelem v directory name kind false) branch fit is = absurd (cc)
unreserved older (deeds.Checkout v e origin true) branch fit is = inr (no_reserver older (branch_of_version (tree older) origin)
    branch (and_second _ _ fit) is)
unreserved older (deeds.Checkout v e origin false) branch fit is = absurd (cc)
unreserved older (deeds.Branch v e origin name outs.No) branch fit is = absurd (cc)
unreserved older (deeds.Branch v e origin name outs.Reserved) branch fit is = let same = (Decides-eqb branch (size older)).0 is in
    inl (omega arith)
unreserved older (deeds.Branch v e origin name outs.Unreserved) branch fit is = absurd (cc)
unreserved older deed branch fit is = absurd (cc)

-- a list of one, or of none
abbrev pub in_list : Option TakenOut → List TakenOut
in_list None = []
in_list (Some taken) = taken ∷ []

-- a checkout, where it stands
abbrev pub if_standing : Base → Option TakenOut → Option TakenOut
if_standing b None = None
if_standing b (Some taken) = only_where (stands b taken) (Some taken)

-- the first of a list
abbrev first_of : List TakenOut → Option TakenOut
first_of [] = None
first_of (taken ∷ others) = Some taken

found_first : (test : TakenOut → Bool) (all : List TakenOut) → find test all ≡ first_of (filter test all)
found_first test [] = refl
found_first test (taken ∷ others) = by (test taken) (found_first test others)
  where
    by : (is : Bool) → find test others ≡ first_of (filter test others)
        → cond is (Some taken) (find test others) ≡ first_of (cond is (taken ∷ filter test others) (filter test others))
    by true rest = refl
    by false rest = rest

-- what passes two tests is found among what passes the second one
found_among : (one two : TakenOut → Bool) (all : List TakenOut) → find (λ taken. one taken && two taken) all
    ≡ find one (filter two all)
found_among one two [] = refl
found_among one two (taken ∷ others) = by (one taken) (two taken) refl (found_among one two others)
  where
    by : (is both : Bool) → one taken ≡ is → find (λ taken. one taken && two taken) others ≡ find one (filter two others) →
        cond (is && both) (Some taken) (find (λ taken. one taken && two taken) others)
        ≡ find one (cond both (taken ∷ filter two others) (filter two others))
    by true true e rest = ap (λ is. cond is (Some taken) (find one (filter two others))) (sym e)
    by true false e rest = rest
    by false true e rest = rest ∙ ap (λ is. cond is (Some taken) (find one (filter two others))) (sym e)
    by false false e rest = rest

-- one more that passes, before others that do not; and one that does not pass
alone : (test : TakenOut → Bool) (taken : TakenOut) (others : List TakenOut) (stand : Bool) → test taken ≡ true
    → filter test others ≡ [] → filter test (put_if stand taken others) ≡ in_list (only_where stand (Some taken))
alone test taken others true is none = ap (λ pass. cond pass (taken ∷ filter test others) (filter test others)) is
    ∙ ap (λ rest. taken ∷ rest) none
alone test taken others false is none = none

passed : (test : TakenOut → Bool) (taken : TakenOut) (others : List TakenOut) (stand : Bool) → test taken ≡ false
    → filter test (put_if stand taken others) ≡ filter test others
passed test taken others true is = ap (λ pass. cond pass (taken ∷ filter test others) (filter test others)) is
passed test taken others false is = refl

-- a checkout that stands in a longer base stood where nobody held the branch
none_stands : (b older : Base) (branch : ℕ) (taken : TakenOut) (stand : Bool) → Stays older b → reserver older branch ≡ None
    → stands b taken ≡ stand → taken.checkout.row < size older →
    filter (reserves older branch) (checkouts older) ≡ in_list (if_standing older (Some taken))
    → only_where stand (Some taken) ≡ None
none_stands b older branch taken false stays free stand low own = refl
none_stands b older branch taken true stays free stand low own =
    let stood : stands older taken ≡ true = stays.stood taken low stand in
    let found : find (reserves older branch) (checkouts older) ≡ Some taken =
    found_first (reserves older branch) (checkouts older) ∙ ap first_of own
    ∙ ap (λ is. first_of (in_list (only_where is (Some taken)))) stood in
    let holds : reserver older branch ≡ Some taken.view = ap (option_map checkout_view) found in
    absurd (cc)

-- where nobody reserves a branch that a row reserves, no older checkout does so in a longer base
none_older : (b older : Base) (branch : ℕ) → Stays older b → (size older ≤ branch) ⊎ (reserver older branch ≡ None) →
    filter (reserves older branch) (checkouts older) ≡ in_list (if_standing older (newest_made older branch))
    → if_standing b (newest_made older branch) ≡ None
none_older b older branch stays (inl past) own = ap (if_standing b) (none_past older branch past)
none_older b older branch stays (inr free) own = by (newest_made older branch) refl own
  where
    by : (newest : Option TakenOut) → newest_made older branch ≡ newest
        → filter (reserves older branch) (checkouts older) ≡ in_list (if_standing older newest) → if_standing b newest ≡ None
    by None is own = refl
    by (Some taken) is own = none_stands b older branch taken (stands b taken) stays free refl (newest_low older branch taken is)
        own

one_among : (b rows : Base) (branch : ℕ) → is_base rows ≡ true → Stays rows b
    → filter (reserves b branch) (standing_among b rows) ≡ in_list (if_standing b (newest_made rows branch))
one_among b [] branch base stays = refl
one_among b (row ∷ older) branch base stays =
    by (made_out (size older) row.deed) refl (is_number branch (reserved_branch older row.deed)) refl
    (one_among b older branch (rows_below row older base) (stays_older row older b stays))
    (one_among older older branch (rows_below row older base) (itself older))
  where
    by : (made : Option TakenOut) → made_out (size older) row.deed ≡ made → (own : Bool)
        → is_number branch (reserved_branch older row.deed) ≡ own →
        filter (reserves b branch) (standing_among b older) ≡ in_list (if_standing b (newest_made older branch)) →
        filter (reserves older branch) (checkouts older) ≡ in_list (if_standing older (newest_made older branch)) →
        filter (reserves b branch) (with_standing b made (standing_among b older))
        ≡ in_list (if_standing b (elim own as (λ x. Option TakenOut) [
          | true ↦ made_out (size older) row.deed
          | false ↦
              newest_made older branch
        ]))
    by None made true is rest own = let none = made_nothing older row.deed branch made in absurd (cc)
    by None made false is rest own = rest
    by (Some taken) made true is rest own =
        let test : reserves b branch taken ≡ true = made_reserving b older row.tag row.moment row.deed branch taken
        (row_fits row older base) stays made ∙ is in
        let none = none_older b older branch (stays_older row older b stays)
        (unreserved older row.deed branch (row_fits row older base) is) own in
        alone (reserves b branch) taken (standing_among b older) (stands b taken) test (rest ∙ ap in_list none)
        ∙ ap (λ made. in_list (if_standing b made)) (sym made)
    by (Some taken) made false is rest own =
        let test : reserves b branch taken ≡ false = made_reserving b older row.tag row.moment row.deed branch taken
        (row_fits row older base) stays made ∙ is in
        passed (reserves b branch) taken (standing_among b older) (stands b taken) test ∙ rest

-- the row that made the newest one
row_low : (b : Base) (branch n : ℕ) → last_of (reserving_effect branch) b ≡ Some n → n < size b
row_low b branch n is =
    last_holds {X = Plain} {A = ℕ} (λ b n. n < size b) (λ older row. reserving_effect branch older row.deed)
    (λ row older n low. omega arith) (λ row older n sets. let same : n
    ≡ size older = own (is_number branch (reserved_branch older row.deed)) (size older) n sets in omega arith) b n is
  where
    own : (test : Bool) (m n : ℕ) → only_if test (Sets m) ≡ Sets n → n ≡ m
    own true m n sets = cc
    own false m n sets = absurd (cc)

same_at : (row : Plain) (older : Base) (branch : ℕ) (o : Option ℕ) → last_of (reserving_effect branch) older ≡ o
    → option_and_then (taken_at (row ∷ older)) o ≡ option_and_then (taken_at older) o
same_at row older branch None is = refl
same_at row older branch (Some n) is = ap (λ found. option_and_then (made_out n) (deed_of found))
    (row_stays row older n (row_low older branch n is))

newest_by_row : (b : Base) (branch : ℕ) → newest_reserving b branch ≡ newest_made b branch
newest_by_row [] branch = refl
newest_by_row (row ∷ older) branch = by (is_number branch (reserved_branch older row.deed)) (newest_by_row older branch)
  where
    by : (own : Bool) → newest_reserving older branch ≡ newest_made older branch →
        option_and_then (taken_at (row ∷ older)) (value_after (only_if own (Sets (size older)))
        (last_of (reserving_effect branch) older))
        ≡ elim own as (λ x. Option TakenOut) [ true ↦ made_out (size older) row.deed | false ↦ newest_made older branch ]
    by true rest = ap (option_and_then (made_out (size older))) (newest_deed row older)
    by false rest = same_at row older branch (last_of (reserving_effect branch) older) refl ∙ rest

-- The reserved checkout that stands on a branch of a base is the newest that was made there.
pub reserving_is : (b : Base) (branch : ℕ) → is_base b ≡ true → reserving b branch ≡ if_standing b (newest_reserving b branch)
reserving_is b branch base =
    found_first (reserves b branch) (checkouts b)
    ∙ ap first_of (one_among b b branch base (itself b))
    ∙ first_in (if_standing b (newest_made b branch))
    ∙ ap (if_standing b) (sym (newest_by_row b branch))
  where
    first_in : (o : Option TakenOut) → first_of (in_list o) ≡ o
    first_in None = refl
    first_in (Some taken) = refl

-- In a base at most one reserved checkout stands on a branch.
pub one_reserves : (b : Base) (branch : ℕ) → is_base b ≡ true → filter (reserves b branch) (checkouts b)
    ≡ in_list (reserving b branch)
one_reserves b branch base = one_among b b branch base (itself b) ∙ ap (λ made. in_list (if_standing b made))
    (sym (newest_by_row b branch)) ∙ ap in_list (sym (reserving_is b branch base))

-- a view, where it is not this one
abbrev pub other_view : List ℕ → Option (List ℕ) → Option (List ℕ)
other_view v None = None
other_view v (Some w) = only_where (not (bytes_eq w v)) (Some w)

if_other : (taken : TakenOut) (is : Bool) → option_map checkout_view (cond is (Some taken) None) ≡ only_where is (Some taken.view)
if_other taken true = refl
if_other taken false = refl

-- The other view that reserves a branch of a base is the one that does, where it is another one.
pub other_is : (b : Base) (v : List ℕ) (branch : ℕ) → is_base b ≡ true
    → other_reserver b v branch ≡ other_view v (reserver b branch)
other_is b v branch base =
    ap (option_map checkout_view) (found_among (λ taken. not (bytes_eq taken.view v)) (reserves b branch) (checkouts b)
    ∙ ap (find (λ taken. not (bytes_eq taken.view v))) (one_reserves b branch base))
    ∙ by (reserving b branch)
  where
    by : (o : Option TakenOut) → option_map checkout_view (find (λ taken. not (bytes_eq taken.view v)) (in_list o))
        ≡ other_view v (option_map checkout_view o)
    by None = refl
    by (Some taken) = if_other taken (not (bytes_eq taken.view v))
