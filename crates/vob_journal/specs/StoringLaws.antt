-- That a journal stays so through no call, and through one call after the other.
use Rattle.std.proofs.Common.{Option, Some, None, refl, ◌∙◌, subst, inl, inr, arith}
use Rattle.disk_model.specs.Files.{IsImage}
use Rattle.disk_model.specs.Devices.{Device}
use Rattle.disk_model.specs.DiskStates.{DiskState, Both}
use Rattle.vob_journal.specs.Shown.{Shown}
use Rattle.vob_journal.specs.Storing.{StoresOn, KeepsJournal}

pub stores_nothing : (d : Device) → StoresOn d d
stores_nothing d = record { no_fewer = omega arith; journal = refl; each = λ k image left. inl left }

pub stores_then : (d e f : Device) → StoresOn d e → StoresOn e f → StoresOn d f
stores_then d e f one two = record {
  no_fewer = omega (arith, one.no_fewer, two.no_fewer);
  journal = two.journal ∙ one.journal;
  each = λ k image left. elim (two.each k image left) [
    | inl earlier ↦ one.each k image earlier
    | inr now ↦ inr (omega (arith, one.no_fewer, now.0), subst (λ s. IsImage s image) one.journal now.1)
  ];
}

modeled_nothing : (modeled : Option Device) → Both StoresOn modeled modeled
modeled_nothing None = tt
modeled_nothing (Some d) = stores_nothing d

modeled_then : (old mid new : Option Device) → Both StoresOn old mid → Both StoresOn mid new → Both StoresOn old new
modeled_then None None new one two = two
modeled_then None (Some e) new one two = absurd one
modeled_then (Some d) None new one two = absurd one
modeled_then (Some d) (Some e) None one two = two
modeled_then (Some d) (Some e) (Some f) one two = stores_then d e f one two

pub keeps_itself : {D : Type 0} (ghost_state : D → DiskState) (journal : Shown D) → KeepsJournal ghost_state journal journal
keeps_itself ghost_state journal = record {
  tail = refl;
  list = refl;
  rest = refl;
  leftover = refl;
  ended = refl;
  settled = refl;
  left = refl;
  reach = refl;
  stores = modeled_nothing (ghost_state journal.disk).modeled;
}

pub keeps_on : {D : Type 0} (ghost_state : D → DiskState) (one two three : Shown D) → KeepsJournal ghost_state one two
    → KeepsJournal ghost_state two three → KeepsJournal ghost_state one three
keeps_on ghost_state one two three first then = record {
  tail = then.tail ∙ first.tail;
  list = then.list ∙ first.list;
  rest = then.rest ∙ first.rest;
  leftover = then.leftover ∙ first.leftover;
  ended = then.ended ∙ first.ended;
  settled = then.settled ∙ first.settled;
  left = then.left ∙ first.left;
  reach = then.reach ∙ first.reach;
  stores = modeled_then (ghost_state one.disk).modeled (ghost_state two.disk).modeled (ghost_state three.disk).modeled
      first.stores then.stores;
}
