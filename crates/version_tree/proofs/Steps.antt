-- The fields of a tree stay in step as changes are added.
use Rattle.std.proofs.Common.{◌≡◌, ◌≢◌, ℕ, zero, suc, ◌<◌, Bool, true, false, cond, ◌||◌, eqb, ltb, List, [], ◌∷◌, ◌++◌, length}
use Rattle.std.proofs.Common.{get_or, set, map, reverse, Some, None, slice_get, vec_len, vec_capacity, refl, inl, inr, sym, ap}
use Rattle.std.proofs.Common.{◌∙◌, arith}
use Rattle.std.specs.Prelude.{find}
use Rattle.std.specs.List.{list_any}
use Rattle.std.proofs.lemmas.List.{reverse-append, length-set, get_or-set_same, get_or-set_other}
use Rattle.std.proofs.lemmas.Bool.{cases_lt, cases_Bool}
use Rattle.std.proofs.lemmas.Bool.Decides.{nat_tests, Decides-eqb}
use Rattle.std.proofs.lemmas.Option.{slice_get-get_or}
use Rattle.cc_names.specs.Versions.{Version, row_of_change, branch_of_change, moment_of_change, versions_on, latest, put_if}
use Rattle.cc_names.specs.declared.changes.TreeChange.TheVariants.{VersionMade}
use Rattle.cc_names.specs.Falling.{IsAbove, Falls}
use Rattle.version_tree.specs.Branches.{versions_from, versions_stored, versions_by}
use Rattle.version_tree.specs.TreeFields.{changes_of, row_of_made, row_of_branch, ready_branches, branch_at, InStep}
use Rattle.version_tree.specs.declared.changes.Made.{Made}
use Rattle.version_tree.specs.declared.branches.Branch.{Branch}
use Rattle.version_tree.specs.declared.branches.Later.{Later}
use Rattle.cc_names.proofs.ByRows.{find_first, find-reverse, rises_below}

-- the rows of changes
pub rows_of_made : (made : List Made) → map row_of_change (changes_of made) ≡ map row_of_made made
rows_of_made [] = refl
rows_of_made (m ∷ made) = ap (λ rows. row_of_made m ∷ rows) (rows_of_made made)

-- no branch has a row that is above all
pub no_branch : (row : ℕ) (branches : List Branch) → IsAbove row (map row_of_branch branches) → branch_at branches row ≡ None
no_branch row [] above = refl
no_branch row (b ∷ branches) above = let other : eqb b.row row ≡ false = grind (arith, nat_tests, above.0) in
    rw other (no_branch row branches above.1)

-- version 0 of a branch
abbrev version_of : ℕ → ℕ → ℕ → Version
version_of row moment branch = record { row = row; moment = moment; branch = branch; number = 0 }

-- a change that begins a branch, and the branch with version 0 alone
pub branch_added : (m : Made) (b : Branch) (made : List Made) (branches : List Branch)
    → InStep made branches
    → row_of_change m.change ≡ b.row → branch_of_change m.change ≡ b.row → moment_of_change m.change ≡ b.moment
    → b.later.items ≡ []
    → IsAbove b.row (map row_of_made made)
    → InStep (m ∷ made) (b ∷ branches)
branch_added m b made branches step rows on moments empty above = record {
  falls = (rw rows above, step.falls);
  branches_fall = (step.branches_made b.row above, step.branches_fall);
  branches_made = λ row higher. (rw (← rows) higher.0, step.branches_made row higher.1);
  kept = λ q. elim (cases_Bool (eqb b.row q)) [
    | inl same ↦
        let here : b.row ≡ q = (Decides-eqb b.row q).0 same in
        let absent : branch_at branches q ≡ None = rw (← here) (no_branch b.row branches (step.branches_made b.row above)) in
        let none : versions_on (changes_of made) q ≡ [] = step.kept q ∙ ap versions_by absent in
        let version : version_of (row_of_change m.change) (moment_of_change m.change) b.row ≡ version_of b.row b.moment b.row =
        ap (λ r. version_of r (moment_of_change m.change) b.row) rows ∙ ap (λ t. version_of b.row t b.row) moments in
        rw (on, same, none, empty) (ap (λ v. v ∷ []) version)
    | inr other ↦ rw (on, other) (step.kept q)
  ];
}

module _ (branches : List Branch) (p : ℕ) (b' : Branch) (within : p < length branches) where
  -- rows stay where a branch is put back with more versions
  pub rows_set : ((d : Branch) → (get_or branches p d).row ≡ b'.row) → map row_of_branch (set branches p b')
      ≡ map row_of_branch branches
  rows_set same = over branches p within same
    where
      over : (xs : List Branch) (i : ℕ) → i < length xs → ((d : Branch) → (get_or xs i d).row ≡ b'.row)
          → map row_of_branch (set xs i b') ≡ map row_of_branch xs
      over [] i lt same = absurd (omega arith)
      over (x ∷ xs) zero lt same = ap (λ r. r ∷ map row_of_branch xs) (sym (same x))
      over (x ∷ xs) (suc i) lt same = ap (λ rs. x.row ∷ rs) (over xs i (omega arith) same)

  -- branches of other rows are found as before
  pub find_set_other : (q : ℕ) → ((d : Branch) → (get_or branches p d).row ≡ b'.row) → eqb b'.row q ≡ false
      → find (λ b. eqb b.row q) (set branches p b') ≡ find (λ b. eqb b.row q) branches
  find_set_other q same other = over branches p within same
    where
      over : (xs : List Branch) (i : ℕ) → i < length xs → ((d : Branch) → (get_or xs i d).row ≡ b'.row)
          → find (λ b. eqb b.row q) (set xs i b') ≡ find (λ b. eqb b.row q) xs
      over [] i lt same = absurd (omega arith)
      over (x ∷ xs) zero lt same = rw (same x, other) refl
      over (x ∷ xs) (suc i) lt same = ap (λ o. cond (eqb x.row q) (Some x) o) (over xs i (omega arith) same)

map-reverse : {X Y : Type 0} (f : X → Y) (xs : List X) → map f (reverse xs) ≡ reverse (map f xs)
map-reverse f [] = refl
map-reverse f (x ∷ xs) = rw (reverse-append (x ∷ []) xs, reverse-append (f x ∷ []) (map f xs)) (map-append f (reverse xs) (x ∷ [])
    ∙ ap (λ ys. ys ++ f x ∷ []) (map-reverse f xs))
  where
    map-append : {A B : Type 0} (g : A → B) (ys zs : List A) → map g (ys ++ zs) ≡ map g ys ++ map g zs
    map-append g [] zs = refl
    map-append g (y ∷ ys) zs = ap (λ us. g y ∷ us) (map-append g ys zs)

module _ (items : List Branch) (branch p : ℕ) (falls : Falls (map row_of_branch (reverse items))) (within : p < length items)
    (found : slice_get items p ≡ find (λ b. eqb b.row branch) items) where
  -- the branch at the place has the row
  pub row_there : (d : Branch) → (get_or items p d).row ≡ branch
  row_there d = has (get_or items p d) items (sym (slice_get-get_or items p d within ∙ refl) ∙ found)
    where
      has : (b : Branch) (xs : List Branch) → Some b ≡ find (λ x. eqb x.row branch) xs → b.row ≡ branch
      has b [] is = cc
      has b (x ∷ xs) is = elim (cases_Bool (eqb x.row branch)) [
        | inl same ↦ let here : Some b ≡ Some x = rw same at is in grind (arith, nat_tests, row_in here)
        | inr other ↦ has b xs (rw other at is)
      ]
        where
          row_in : {a c : Branch} → Some a ≡ Some c → a.row ≡ c.row
          row_in is_same = cc

  -- the same with more versions is found at its row
  pub find_set_here : (b' : Branch) → b'.row ≡ branch → find (λ b. eqb b.row branch) (set items p b') ≡ Some b'
  find_set_here b' same =
      let there : get_or (set items p b') p b' ≡ b' = get_or-set_same items p b' b' within in
      find_first (λ b. eqb b.row branch) (set items p b') p b' (omega (arith, length-set {A = Branch})) (λ k e lt.
      let kept : get_or (set items p b') k e ≡ get_or items k e = get_or-set_other items p k b' e (λ same_place. omega arith) in
      let lower : (get_or items k e).row < (get_or items p e).row = rises_below row_of_branch items falls k p e lt within in
      rw kept (grind (arith, nat_tests, row_there e))) (rw there (grind (arith, nat_tests)))
      ∙ ap Some there

  -- a branch that is ready has room at its place
  pub has_room : (d : Branch) → list_any (λ b. eqb b branch) (ready_branches items) ≡ true
      → ltb (vec_len (get_or items p d).later) (vec_capacity (get_or items p d).later) ≡ true
  has_room d ready = room items p within (λ k e in_range apart. unique k e in_range apart) ready
    where
      unique : (k : ℕ) (e : Branch) → k < length items → k ≢ p → eqb (get_or items k e).row branch ≡ false
      unique k e in_range apart = elim (cases_lt k p) [
        | inl lt ↦ grind (arith, nat_tests, row_there e, rises_below row_of_branch items falls k p e lt within)
        | inr ge ↦
            let lt : p < k = omega arith in
            grind (arith, nat_tests, row_there e, rises_below row_of_branch items falls p k e lt in_range)
      ]

      none_ready : (xs : List Branch) → ((k : ℕ) (e : Branch) → k < length xs → eqb (get_or xs k e).row branch ≡ false)
          → list_any (λ b. eqb b branch) (ready_branches xs) ≡ false
      none_ready [] others = refl
      none_ready (x ∷ xs) others = over_put (ltb (vec_len x.later) (vec_capacity x.later)) (others 0 x (omega arith))
          (none_ready xs (λ k e lt. others (suc k) e (omega arith)))
        where
          over_put : (t : Bool) → eqb x.row branch ≡ false → list_any (λ b. eqb b branch) (ready_branches xs) ≡ false
              → list_any (λ b. eqb b branch) (put_if t x.row (ready_branches xs)) ≡ false
          over_put true fails rest = rw fails rest
          over_put false fails rest = rest

      room : (xs : List Branch) (i : ℕ) → i < length xs → ((k : ℕ) (e : Branch) → k < length xs → k ≢ i
          → eqb (get_or xs k e).row branch ≡ false)
          → list_any (λ b. eqb b branch) (ready_branches xs) ≡ true → ltb (vec_len (get_or xs i d).later)
          (vec_capacity (get_or xs i d).later) ≡ true
      room [] i lt others listed = absurd (omega arith)
      room (x ∷ xs) zero lt others listed =
          at_head (ltb (vec_len x.later) (vec_capacity x.later)) (none_ready xs
          (λ k e in_range. others (suc k) e (omega arith) (λ same. cc same))) listed
        where
          at_head : (t : Bool) → list_any (λ b. eqb b branch) (ready_branches xs) ≡ false
              → list_any (λ b. eqb b branch) (put_if t x.row (ready_branches xs)) ≡ true → t ≡ true
          at_head true none any = refl
          at_head false none any = cc
      room (x ∷ xs) (suc i) lt others listed =
          room xs i (omega arith) (λ k e in_range apart. others (suc k) e (omega arith) (λ same. apart (omega arith)))
          (passed (ltb (vec_len x.later) (vec_capacity x.later)) (others 0 x (omega arith) (λ same. cc same)) listed)
        where
          passed : (t : Bool) → eqb x.row branch ≡ false → list_any (λ b. eqb b branch) (put_if t x.row (ready_branches xs))
              ≡ true → list_any (λ b. eqb b branch) (ready_branches xs) ≡ true
          passed true fails any = rw fails at any
          passed false fails any = any

-- a version with its row, moment and branch after so many others
abbrev version_behind : ℕ → Later → List Version → Version
version_behind branch l vs = record { row = l.row; moment = l.moment; branch = branch; number = length vs }

-- one version more on a branch
stored_more : (b b' : Branch) (l : Later) (branch : ℕ) → b.row ≡ branch → b'.row ≡ branch → b'.moment ≡ b.moment
    → b'.later.items ≡ b.later.items ++ l ∷ []
    → (version_behind branch l (versions_stored b) ∷ versions_stored b) ≡ versions_stored b'
stored_more b b' l branch row row' moments more =
    let older : versions_stored b ≡ versions_from branch b.moment (reverse b.later.items) =
    ap (λ r. versions_from r b.moment (reverse b.later.items)) row in
    let by_row : versions_stored b' ≡ versions_from branch b'.moment (reverse b'.later.items) =
    ap (λ r. versions_from r b'.moment (reverse b'.later.items)) row' in
    let by_moment : versions_from branch b'.moment (reverse b'.later.items)
    ≡ versions_from branch b.moment (reverse b'.later.items) = ap (λ t. versions_from branch t (reverse b'.later.items))
    moments in
    let by_items : versions_from branch b.moment (reverse b'.later.items)
    ≡ versions_from branch b.moment (l ∷ reverse b.later.items) = ap (versions_from branch b.moment) (ap reverse more
    ∙ reverse-append b.later.items (l ∷ [])) in
    ap (λ vs. version_behind branch l vs ∷ vs) older ∙ sym (by_row ∙ by_moment ∙ by_items)

-- the next version on a branch that is there
pub version_added : (m : Made) (made : List Made) (items : List Branch) (p : ℕ) (b' : Branch) (row moment branch : ℕ)
    → InStep made (reverse items)
    → m.change ≡ VersionMade row moment branch
    → IsAbove row (map row_of_made made)
    → p < length items → slice_get items p ≡ find (λ b. eqb b.row branch) items
    → b'.row ≡ branch → ((d : Branch) → b'.moment ≡ (get_or items p d).moment)
    → ((d : Branch) → b'.later.items ≡ (get_or items p d).later.items ++ record { row = row; moment = moment } ∷ [])
    → InStep (m ∷ made) (reverse (set items p b'))
version_added m made items p b' row moment branch step is above within found same_row same_moment more =
    let there = row_there items branch p step.branches_fall within found in
    let old = get_or items p b' in
    let rows : map row_of_branch (reverse (set items p b')) ≡ map row_of_branch (reverse items) =
    map-reverse row_of_branch (set items p b') ∙ ap reverse (rows_set items p b' within (λ d. there d ∙ sym same_row))
    ∙ sym (map-reverse row_of_branch items) in
    let fall_after : Falls (map row_of_branch (reverse (set items p b'))) = rw rows step.branches_fall in
    let old_found : branch_at (reverse items) branch ≡ Some old =
    find-reverse row_of_branch branch items step.branches_fall ∙ sym found ∙ slice_get-get_or items p b' within in
    let new_found : branch_at (reverse (set items p b')) branch ≡ Some b' =
    find-reverse row_of_branch branch (set items p b') fall_after ∙ find_set_here items branch p step.branches_fall within found
    b' same_row in
    record {
      falls = (rw is above, step.falls);
      branches_fall = fall_after;
      branches_made = λ r higher. rw rows (step.branches_made r higher.1);
      kept = λ q. elim (cases_Bool (eqb branch q)) [
        | inl same ↦
            let here : branch ≡ q = (Decides-eqb branch q).0 same in
            let old_there : branch_at (reverse items) q ≡ Some old = rw (← here) old_found in
            let before : versions_on (changes_of made) q ≡ versions_stored old = step.kept q ∙ ap versions_by old_there in
            rw (is, same, before, ← here, new_found) (stored_more old b' (record { row = row; moment = moment }) branch (there b')
            same_row (same_moment b') (more b'))
        | inr other ↦
            let others : branch_at (reverse (set items p b')) q ≡ branch_at (reverse items) q =
            find-reverse row_of_branch q (set items p b') fall_after ∙ find_set_other items p b' within q (λ d. there d
            ∙ sym same_row) (rw same_row other) ∙ sym (find-reverse row_of_branch q items step.branches_fall) in
            rw (is, other, others) (step.kept q)
      ];
    }

-- a branch that is not there is not ready
pub not_ready : (branch : ℕ) (items : List Branch) → find (λ b. eqb b.row branch) items ≡ None
    → list_any (λ b. eqb b branch) (ready_branches items) ≡ false
not_ready branch [] none = refl
not_ready branch (x ∷ items) none = elim (cases_Bool (eqb x.row branch)) [
  | inl same ↦ cc (rw same at none)
  | inr other ↦ over_put (ltb (vec_len x.later) (vec_capacity x.later)) other (not_ready branch items (rw other at none))
]
  where
    over_put : (t : Bool) → eqb x.row branch ≡ false → list_any (λ b. eqb b branch) (ready_branches items) ≡ false
        → list_any (λ b. eqb b branch) (put_if t x.row (ready_branches items)) ≡ false
    over_put true fails rest = rw fails rest
    over_put false fails rest = rest

-- a branch with more room
pub room_made : (made : List Made) (items : List Branch) (p : ℕ) (b' : Branch) (branch : ℕ)
    → InStep made (reverse items) → p < length items → slice_get items p ≡ find (λ b. eqb b.row branch) items
    → b'.row ≡ branch → ((d : Branch) → b'.moment ≡ (get_or items p d).moment)
    → ((d : Branch) → b'.later.items ≡ (get_or items p d).later.items)
    → InStep made (reverse (set items p b'))
room_made made items p b' branch step within found same_row same_moment same_later =
    let there = row_there items branch p step.branches_fall within found in
    let old = get_or items p b' in
    let rows : map row_of_branch (reverse (set items p b')) ≡ map row_of_branch (reverse items) =
    map-reverse row_of_branch (set items p b') ∙ ap reverse (rows_set items p b' within (λ d. there d ∙ sym same_row))
    ∙ sym (map-reverse row_of_branch items) in
    let fall_after : Falls (map row_of_branch (reverse (set items p b'))) = rw rows step.branches_fall in
    let old_found : branch_at (reverse items) branch ≡ Some old =
    find-reverse row_of_branch branch items step.branches_fall ∙ sym found ∙ slice_get-get_or items p b' within in
    let new_found : branch_at (reverse (set items p b')) branch ≡ Some b' =
    find-reverse row_of_branch branch (set items p b') fall_after ∙ find_set_here items branch p step.branches_fall within found
    b' same_row in
    let same_versions : versions_stored old ≡ versions_stored b' =
    ap (λ r. versions_from r old.moment (reverse old.later.items)) (there b' ∙ sym same_row)
    ∙ ap (λ t. versions_from b'.row t (reverse old.later.items)) (sym (same_moment b'))
    ∙ ap (λ ls. versions_from b'.row b'.moment (reverse ls)) (sym (same_later b')) in
    record {
      falls = step.falls;
      branches_fall = fall_after;
      branches_made = λ r higher. rw rows (step.branches_made r higher);
      kept = λ q. elim (cases_Bool (eqb branch q)) [
        | inl same ↦
            let here : branch ≡ q = (Decides-eqb branch q).0 same in
            let old_there : branch_at (reverse items) q ≡ Some old = rw (← here) old_found in
            let new_there : branch_at (reverse (set items p b')) q ≡ Some b' = rw (← here) new_found in
            step.kept q ∙ ap versions_by old_there ∙ same_versions ∙ sym (ap versions_by new_there)
        | inr other ↦
            let others : branch_at (reverse (set items p b')) q ≡ branch_at (reverse items) q =
            find-reverse row_of_branch q (set items p b') fall_after ∙ find_set_other items p b' within q (λ d. there d
            ∙ sym same_row) (rw same_row other) ∙ sym (find-reverse row_of_branch q items step.branches_fall) in
            step.kept q ∙ ap versions_by (sym others)
      ];
    }

-- a branch that has room is ready
pub set_ready : (items : List Branch) (p : ℕ) (b' : Branch) (branch : ℕ) → p < length items → b'.row ≡ branch
    → ltb (vec_len b'.later) (vec_capacity b'.later) ≡ true
    → list_any (λ b. eqb b branch) (ready_branches (set items p b')) ≡ true
set_ready [] p b' branch within same room = absurd (omega arith)
set_ready (x ∷ items) zero b' branch within same room =
    let here : eqb b'.row branch ≡ true = (Decides-eqb b'.row branch).1 same in
    rw (room, here) refl
set_ready (x ∷ items) (suc p) b' branch within same room = put_any (ltb (vec_len x.later) (vec_capacity x.later))
    (set_ready items p b' branch (omega arith) same room)
  where
    put_any : (t : Bool) → list_any (λ b. eqb b branch) (ready_branches (set items p b')) ≡ true
        → list_any (λ b. eqb b branch) (put_if t x.row (ready_branches (set items p b'))) ≡ true
    put_any true any = rw any (or_true (eqb x.row branch))
      where
        or_true : (t : Bool) → (t || true) ≡ true
        or_true true = refl
        or_true false = refl
    put_any false any = any

-- a branch that is not there has no version
pub latest_nowhere : (made : List Made) (items : List Branch) (branch : ℕ)
    → InStep made (reverse items) → find (λ b. eqb b.row branch) items ≡ None → latest (changes_of made) branch None ≡ None
latest_nowhere made items branch step none =
    let absent : branch_at (reverse items) branch ≡ None = find-reverse row_of_branch branch items step.branches_fall ∙ none in
    let versions : versions_on (changes_of made) branch ≡ [] = step.kept branch ∙ ap versions_by absent in
    rw versions refl
