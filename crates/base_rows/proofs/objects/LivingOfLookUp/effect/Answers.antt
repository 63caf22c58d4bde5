-- A scrub ends the objects that it names, in a list that ascends.
use Rattle.std.proofs.Common.{◌==◌, ℕ, List, sym, ap, subst, ◌∙◌}
use Rattle.std.specs.List.{list_any}
use Rattle.std.specs.List.Sorted.{IsStrictlySortedBy}
use Rattle.std.specs.Ordering.{nat_cmp}
use Rattle.cc_names.specs.Formed.{IsDeedFormed}
use Rattle.cc_names.specs.Last.{Ends, only_if}
use Rattle.base_rows.specs.Effects.{living_effect}
use Rattle.base_rows.proofs.objects.LivingOfLookUp.effect.Goals as goal

pub is_among-requires : goal.is_among-requires
is_among-requires c =
    subst (λ (objects : List ℕ). IsStrictlySortedBy nat_cmp objects) (sym c.as_slice.ensures)
    (subst IsDeedFormed c.in-Scrub.is c.requires).2

pub returns-in-Scrub : goal.returns-in-Scrub
returns-in-Scrub c =
    let id = c.args.self.now.object in
    c.only_if-in-Scrub.ensures
    ∙ ap (λ is. only_if is Ends) (c.is_among.ensures ∙ ap (λ (objects : List ℕ). list_any (λ object. object == id) objects)
    c.as_slice.ensures)
    ∙ sym (ap (living_effect id c.args.older.now) c.in-Scrub.is)
