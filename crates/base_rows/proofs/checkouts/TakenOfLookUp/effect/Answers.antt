-- Any other deed takes the element out or leaves it.
use Rattle.std.proofs.Common.{◌≡◌, ℕ, List, refl, sym, ap, ◌∙◌}
use Rattle.cc_names.specs.declared.rows.Deed.{Deed}
use Rattle.cc_names.specs.declared.rows.Deed.TheVariants as deeds
use Rattle.base_model.specs.Rows.{Base, size}
use Rattle.base_model.specs.Views.{made_out, set_by}
use Rattle.base_rows.specs.Effects.{stored_checkout, map_effect, taken_effect}
use Rattle.base_rows.proofs.checkouts.TakenOfLookUp.effect.Goals as goal

not_given_back : (v : List ℕ) (e : ℕ) (older : Base) (deed : Deed) → ((w : List ℕ) (f : ℕ) → deed ≡ deeds.Checkin w f → ⊥)
    → ((w : List ℕ) (f : ℕ) → deed ≡ deeds.Uncheckout w f → ⊥)
    → taken_effect v e older deed ≡ set_by v e (made_out (size older) deed)
not_given_back v e older (deeds.Checkin w f) one two = absurd (one w f refl)
not_given_back v e older (deeds.Uncheckout w f) one two = absurd (two w f refl)
not_given_back v e older deed one two = refl

pub returns-in_default : goal.returns-in_default
returns-in_default c =
    let v = c.args.self.now.view.now in
    let e = c.args.self.now.element in
    c.set_by.ensures
    ∙ ap (λ made. map_effect stored_checkout (set_by v e made)) (c.made_out.ensures
    ∙ ap (λ n. made_out n c.args.deed.now) c.size.ensures.size)
    ∙ sym (ap (map_effect stored_checkout) (not_given_back v e c.args.older.now c.args.deed.now c.in_default.not-Checkin
    c.in_default.not-Uncheckout))
