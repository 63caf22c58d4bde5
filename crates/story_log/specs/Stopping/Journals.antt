-- A journal without its disk.
use Rattle.std.specs.Prelude.{ℕ, Bool, List}
use Rattle.vob_journal.specs.Shown.{Shown}
use Rattle.vob_journal.specs.declared.left.Left.{Left}

-- what a log keeps of its journal beside the disk: the list, and what a fault left over after it; whether the end was read; what
-- the last failed call left; and whether the tail is settled
pub record JournalState : Type 0 where
  pub list : List (List ℕ)
  pub leftover : List (List ℕ)
  pub ended : Bool
  pub left : Left
  pub settled : Bool

-- the same of a journal
abbrev pub journal_state : {D : Type 0} → Shown D → JournalState
journal_state journal = record {
  list = journal.list;
  leftover = journal.leftover;
  ended = journal.ended;
  left = journal.left;
  settled = journal.settled;
}
