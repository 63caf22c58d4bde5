-- Words for worked rows: tags, rows and what is decided of commands one after the other.
use Rattle.std.specs.Prelude.{ℕ, Result, Ok, List, [], ◌∷◌, reverse}
use Rattle.cc_names.specs.Formed.{Plain}
use Rattle.cc_names.specs.declared.commands.Command.{Command}
use Rattle.cc_names.specs.declared.refusals.Refusal.{Refusal}
use Rattle.cc_names.specs.declared.rows.Deed.{Deed}
use Rattle.cc_names.specs.declared.rows.Tag.{Tag}
use Rattle.base_model.specs.Rows.{Base, size}
use Rattle.legal_history.specs.Commands.Decisions.{Decision, Makes}
use Rattle.legal_history.specs.Commands.Lines.{decision}

-- the tag of command n of lane l in phase p
abbrev pub tag : ℕ → ℕ → ℕ → Tag
tag p l n = record { phase = p; lane = l; command = n }

-- the row of command n of the one lane of phase 1
abbrev pub row : ℕ → Deed → Plain
row n deed = record { tag = tag 1 1 n; moment = 1700000000; deed = deed }

-- the base of these deeds, newest first, each made by the command with the number of its row
abbrev pub base_of_deeds : List Deed → Base
base_of_deeds [] = []
base_of_deeds (deed ∷ older) = row (size (base_of_deeds older)) deed ∷ base_of_deeds older

-- the base of these deeds, oldest first
abbrev pub base_of : List Deed → Base
base_of deeds = base_of_deeds (reverse deeds)

-- a base with the row of a decision, where it makes one
abbrev pub with_decision : Base → Result Decision Refusal → Base
with_decision b (Ok (Makes deed)) = row (size b) deed ∷ b
with_decision b decided = b

-- what is decided of commands, one after the other, with no build active
abbrev pub decisions : Base → List Command → List (Result Decision Refusal)
decisions b [] = []
decisions b (command ∷ commands) =
    let decided = decision (record { base = b; active = []; moment = 1700000000 }) command in
    decided ∷ decisions (with_decision b decided) commands
