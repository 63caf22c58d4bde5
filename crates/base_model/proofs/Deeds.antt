-- The deeds of rows: a row that has one is a row of the base.
use Rattle.std.proofs.Common.{◌≡◌, refl, ℕ, suc, ◌<◌, Bool, true, false, ◌==◌, Option, Some, [], ◌∷◌, arith}
use Rattle.cc_names.specs.Formed.{Plain}
use Rattle.cc_names.specs.declared.rows.Deed.{Deed}
use Rattle.cc_names.proofs.Common.{same_number}
use Rattle.base_model.specs.Rows.{Base, size, row_at, deed_of, deed_at}

pub deed_below : (b : Base) (r : ℕ) (deed : Deed) → deed_at b r ≡ Some deed → r < size b
deed_below [] r deed h = absurd (cc)
deed_below (row ∷ older) r deed h = by (size older == r) refl h (deed_below older r deed)
  where
    by : (t : Bool) → (size older == r) ≡ t → deed_of (elim t as (λ x. Option Plain) [ true ↦ Some row | false ↦ row_at older r ])
        ≡ Some deed →
        (deed_at older r ≡ Some deed → r < size older) → r < suc (size older)
    by true e h rest = let number = same_number (size older) r e in omega arith
    by false e h rest = let low = rest h in omega arith
