-- The units of an order, one after the other.
use Rattle.std.proofs.Common.{◌≡◌, refl, sym, ap, ◌∙◌, ℕ, ◌+◌, ◌<◌, Some, None, List, [], ◌∷◌, ◌++◌, length, map, filter_map}
use Rattle.std.proofs.Common.{drop, get_or, slice_get, append_assoc, drop-cons, add-one}
use Rattle.std.specs.List.{cons_option}
use Rattle.cc_names.specs.declared.units.Unit.{Unit}
use Rattle.make_grammar.specs.Contents.{Contents}
use Rattle.make_grammar.specs.Graphs.{unit_of, units_walked}
use Rattle.make_grammar.specs.Rules.{Serving}

pub walked_more : (make : Contents) (units : List Serving) (done all : List Unit) (order : List ℕ) (i n : ℕ) (s : Serving)
    → i < length order → get_or order i 0 ≡ n → slice_get units n ≡ Some s →
    done ++ units_walked make units (drop i order) ≡ all → (done ++ unit_of make s ∷ [])
    ++ units_walked make units (drop (i + 1) order) ≡ all
walked_more make units done all order i n s within at has before =
    let e : drop i order ≡ n ∷ drop (i + 1) order = rw (drop-cons order i 0, at, add-one) refl in
    let rest = filter_map (slice_get units) (drop (i + 1) order) in
    append_assoc done (unit_of make s ∷ []) (units_walked make units (drop (i + 1) order))
    ∙ (ap (λ o. done ++ map (unit_of make) (cons_option o rest)) (sym has)
    ∙ (ap (λ l. done ++ units_walked make units l) (sym e) ∙ before))

pub walked_past : (make : Contents) (units : List Serving) (done all : List Unit) (order : List ℕ) (i n : ℕ) → i < length order
    → get_or order i 0 ≡ n → slice_get units n ≡ None →
    done ++ units_walked make units (drop i order) ≡ all → done ++ units_walked make units (drop (i + 1) order) ≡ all
walked_past make units done all order i n within at none before =
    let e : drop i order ≡ n ∷ drop (i + 1) order = rw (drop-cons order i 0, at, add-one) refl in
    let rest = filter_map (slice_get units) (drop (i + 1) order) in
    ap (λ o. done ++ map (unit_of make) (cons_option o rest)) (sym none)
    ∙ (ap (λ l. done ++ units_walked make units l) (sym e) ∙ before)
