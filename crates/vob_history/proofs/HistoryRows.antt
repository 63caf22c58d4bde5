-- What was done to an element is given by the rows of its history.
use Rattle.std.proofs.Common.{◌≡◌, ℕ, ◌≤◌, ◌==◌, true, false, ◌||◌, List, [], ◌∷◌, ◌++◌, length, map, Option, Some, refl, ap}
use Rattle.std.proofs.Common.{Bool, cond, append-nil, subst, ap₂, sym, ◌∙◌, arith}
use Rattle.std.specs.Prelude.{codes, find, is_some}
use Rattle.std.specs.List.{AllByRecursion, concat, list_any}
use Rattle.std.specs.List.Sorted.{IsStrictlySortedBy}
use Rattle.std.specs.Ordering.{nat_cmp}
use Rattle.std.specs.declared.cmp.Ordering.TheVariants.{Less}
use Rattle.std.specs.Option.{option_map_or}
use Rattle.std.proofs.lemmas.Bool.Decides.{nat_tests}
use Rattle.cc_names.specs.Formed.{Plain, element_of}
use Rattle.cc_names.specs.Last.{Sets, only_if}
use Rattle.cc_names.specs.Versions.{put_if}
use Rattle.cc_names.specs.declared.rows.Deed.{Deed}
use Rattle.cc_names.specs.declared.rows.Deed.TheVariants as deeds
use Rattle.cc_names.specs.declared.rows.Placed.{Placed}
use Rattle.base_model.specs.Rows.{Base, size, row_at}
use Rattle.base_model.proofs.VersionRows.{newest_row}
use Rattle.legal_history.specs.Queries.HistoryTexts.{dated_line, line_where, placed_lines, history_line, history_lines}
use Rattle.legal_history.specs.Queries.HistoryTexts.{lshistory_text}
use Rattle.legal_history.specs.Queries.VersionNames.{branch_name, version_name}
use Rattle.vob_history.specs.Histories.{history_row_lines, label_text}
use Rattle.base_rows.specs.Histories.{is_placed_on, tells_of, history_of}
use Rattle.base_rows.specs.LookUps.{update_by_row}

-- a label that is put on no version of the element has no lines
no_placed : (b : Base) (e moment : ℕ) (label : List ℕ) (placed : List Placed) → list_any (is_placed_on e) placed ≡ false
    → placed_lines b e moment label placed ≡ []
no_placed b e moment label [] none = refl
no_placed b e moment label (one ∷ more) none =
    elim (one.element == e) as (λ is. (is || list_any (is_placed_on e) more) ≡ false
    → line_where is (dated_line moment (codes "label " ++ label ++ 32 ∷ version_name b one.version))
    ++ placed_lines b e moment label more ≡ []) [
      | true ↦ λ h. absurd (cc)
      | false ↦ λ h. no_placed b e moment label more h
    ] none

-- the line of a label that is put on a version
abbrev pub placed_line : Base → ℕ → List ℕ → Placed → List ℕ
placed_line b moment label one = dated_line moment (codes "label " ++ label_text b label one.version)

none_above : (e : ℕ) (placed : List Placed) → AllByRecursion (λ f. nat_cmp e f ≡ Less) (map element_of placed)
    → list_any (is_placed_on e) placed ≡ false
none_above e [] above = refl
none_above e (one ∷ more) above = ap₂ (λ here rest. here || rest) (apart above.0) (none_above e more above.1)
  where
    apart : nat_cmp e one.element ≡ Less → (one.element == e) ≡ false
    apart less = grind (arith, nat_tests, less)

-- where versions rise by their elements, the line of the one of the element is all
pub placed_found : (b : Base) (e moment : ℕ) (label : List ℕ) (placed : List Placed)
    → IsStrictlySortedBy nat_cmp (map element_of placed)
    → option_map_or (placed_line b moment label) (find (is_placed_on e) placed) [] ≡ placed_lines b e moment label placed
unfolding IsStrictlySortedBy
placed_found b e moment label [] rising = refl
placed_found b e moment label (one ∷ more) rising = by (one.element == e) refl (placed_found b e moment label more rising.1)
  where
    by : (is : Bool) → (one.element == e) ≡ is
        → option_map_or (placed_line b moment label) (find (is_placed_on e) more) [] ≡ placed_lines b e moment label more
        → option_map_or (placed_line b moment label) (cond is (Some one) (find (is_placed_on e) more)) []
        ≡ line_where is (placed_line b moment label one) ++ placed_lines b e moment label more
    by true same rest =
        let here : one.element ≡ e = grind (arith, nat_tests, same) in
        let above = subst (λ f. AllByRecursion (λ g. nat_cmp f g ≡ Less) (map element_of more)) here rising.0 in
        sym (append-nil (placed_line b moment label one))
        ∙ ap (λ (rest : List ℕ). placed_line b moment label one ++ rest)
        (sym (no_placed b e moment label more (none_above e more above)))
    by false other rest = rest

-- a row that does not tell of the element has no lines
no_line : (b : Base) (e n moment : ℕ) (deed : Deed) → tells_of e n deed ≡ false → history_line b e n moment deed ≡ []
no_line b e n moment (deeds.Mkelem v directory name kind out) none = ap
    (λ is. line_where is (dated_line moment (codes "create element"))) none
no_line b e n moment (deeds.Branch v f origin name out) none = ap (λ is. line_where is
    (dated_line moment (codes "create branch " ++ branch_name b n))) none
no_line b e n moment (deeds.Checkin v f) none = ap (λ is. line_where is
    (dated_line moment (codes "create version " ++ version_name b n))) none
no_line b e n moment (deeds.Label label f version) none = ap (λ is. line_where is
    (dated_line moment (codes "label " ++ label ++ 32 ∷ version_name b version))) none
no_line b e n moment (deeds.Unlabel label f) none = ap (λ is. line_where is (dated_line moment (codes "unlabel " ++ label))) none
no_line b e n moment (deeds.Labels label placed) none = no_placed b e moment label placed none
no_line b e n moment deed none = refl

older_row : (row : Plain) (older : Base) (n : ℕ) → n ≤ length older → row_at (row ∷ older) n ≡ row_at older n
older_row row older n low =
    let apart : (size older == n) ≡ false = grind (arith, nat_tests, low) in
    ap (λ is. elim is [ true ↦ Some row | false ↦ row_at older n ]) apart

by_rows : (b : Base) (e : ℕ) (rows : Base) → ((n : ℕ) → n ≤ length rows → row_at b n ≡ row_at rows n)
    → concat (map (history_row_lines b e) (history_of rows e)) ≡ history_lines b e rows
by_rows b e [] agree = refl
by_rows b e (row ∷ older) agree =
    let n = size older in
    let found : row_at b n ≡ Some row = agree n (omega arith) ∙ newest_row row older in
    let here : history_row_lines b e n ≡ history_line b e n row.moment row.deed =
    ap (λ (one : Option Plain). option_map_or (λ (row : Plain). history_line b e n row.moment row.deed) one []) found in
    let before = by_rows b e older (λ m low. agree m (omega (arith, low)) ∙ older_row row older m low) in
    elim (tells_of e n row.deed) as (λ is. tells_of e n row.deed ≡ is → concat
    (map (history_row_lines b e) (put_if (is_some (update_by_row n (only_if is (Sets n)))) n (history_of older e)))
    ≡ history_line b e n row.moment row.deed ++ history_lines b e older) [
      | true ↦ λ is. ap₂ (λ (one more : List ℕ). one ++ more) here before
      | false ↦ λ is. before ∙ sym (ap (λ (one : List ℕ). one ++ history_lines b e older) (no_line b e n row.moment row.deed is))
    ] refl

pub by_history : (b : Base) (e : ℕ) → concat (map (history_row_lines b e) (history_of b e)) ≡ lshistory_text b e
by_history b e = by_rows b e b (λ n low. refl)
