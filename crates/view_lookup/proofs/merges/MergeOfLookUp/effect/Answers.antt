-- Any other deed says no merge.
use Rattle.std.proofs.Common.{◌≡◌, ℕ, false, sym, refl, ap}
use Rattle.cc_names.specs.Last.{Sets, only_if}
use Rattle.cc_names.specs.declared.rows.Deed.{Deed}
use Rattle.cc_names.specs.declared.rows.Deed.TheVariants as deeds
use Rattle.base_model.specs.Conditions.{is_arrow}
use Rattle.base_model.specs.Rows.{size}
use Rattle.view_lookup.proofs.merges.MergeOfLookUp.effect.Goals as goal

no_arrow : (e tail head : ℕ) (deed : Deed) → ((f one two : ℕ) → deed ≡ deeds.Arrow f one two → ⊥)
    → is_arrow e tail head deed ≡ false
no_arrow e tail head (deeds.Arrow f one two) other = absurd (other f one two refl)
no_arrow e tail head deed other = refl

pub returns-in_default : goal.returns-in_default
returns-in_default c =
    let it = c.args.self.now in
    sym (ap (λ is. only_if is (Sets (size c.args.older.now))) (no_arrow it.element it.tail it.head c.args.deed.now
    c.in_default.not-Arrow))
