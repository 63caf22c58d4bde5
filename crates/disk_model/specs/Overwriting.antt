-- A write to the contents of a disk in memory.
use Rattle.std.specs.Prelude.{◌≡◌, ℕ, ◌==◌, if◌then◌else◌, List}
use Rattle.disk_model.specs.Files.{overwritten}
use Rattle.disk_model.specs.declared.memory.Contents.{Contents}

-- a piece was written over one file from a place on, and the other is as it was
pub record AreOverwritten (file place : ℕ) (piece : List ℕ) (old new : Contents) : Type 0 where
  pub journal : new.journal.items ≡ (if file == 0 then overwritten place piece old.journal.items else old.journal.items)
  pub objects : new.objects.items ≡ (if file == 0 then old.objects.items else overwritten place piece old.objects.items)

-- both files are as they were
pub record AreUnchanged (old new : Contents) : Type 0 where
  pub journal : new.journal.items ≡ old.journal.items
  pub objects : new.objects.items ≡ old.objects.items
