-- Lists that stand in a story in their order.
use Rattle.std.proofs.Common.{List, [], ◌++◌, subst}
use Rattle.std.proofs.lemmas.List.{append-nil}
use mathlib.Core.List.{IsPrefix, Sublist, nil-sublist}
use mathlib.Core.List.Sublist as sublist

-- what stands in a story stands in those that it begins
pub stands_on : {A : Type 0} (steps story later : List A) → Sublist steps story → IsPrefix story later → Sublist steps later
stands_on {A} steps story later s p =
    let on : Sublist (story ++ []) (story ++ p.0) = sublist.append (sublist.refl story) (nil-sublist p.0) in
    sublist.trans s (subst (Sublist story) p.1 (subst (λ (xs : List A). Sublist xs (story ++ p.0)) (append-nil story) on))
