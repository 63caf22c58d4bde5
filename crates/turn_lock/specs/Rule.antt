-- What holds of a lock between any two moves.
use Rattle.std.specs.Prelude.{◌≡◌, ◌⊎◌, ℕ, ◌+◌, ◌%◌, ◌^◌, ◌<◌, ◌≤◌, List, [], ◌∷◌, Option, Some, sum_by}
use mathlib.Core.Option.{none, some}
use mathlib.Core.Option as maybe
use mathlib.Core.List.{IsPrefix}
use lib.ListN.{get_elem?}
use Rattle.atomic_table.specs.Table.{State}
use Rattle.turn_lock.specs.declared.rule.Stage.{Stage}
use Rattle.turn_lock.specs.declared.rule.Stage.TheVariants.{Idle, Joined, Waits, Turn}
use Rattle.turn_lock.specs.declared.rule.View.{View}
use Rattle.turn_lock.specs.Stages.{ticket_of, tickets_of, weight_of, spent}

-- a word holds a number modulo 2 ^ 64
abbrev pub in_word : ℕ → ℕ
in_word n = n % 2 ^ 64

module _ {D : Type 0} where
  -- a fact of each pass
  abbrev pub Each : (View D → Type 0) → List (View D) → Type 0
  Each P views = (seat : ℕ) (v : View D) → get_elem? views seat ≡ some v → P v

  -- a ticket is one of those drawn and not yet served; the one whose turn it is is the next to be served
  abbrev pub IsInLine : ℕ → ℕ → Stage D → Type 0
  IsInLine served drawn Idle = Unit {0}
  IsInLine served drawn (Joined shorter) = Unit {0}
  IsInLine served drawn (Waits ticket) = (served ≤ ticket) × (ticket < drawn)
  IsInLine served drawn (Turn ticket story) = (ticket ≡ served) × (ticket < drawn)

  -- the pass has not taken the value
  abbrev pub HasNoTurn : Stage D → Type 0
  HasNoTurn Idle = Unit {0}
  HasNoTurn (Joined shorter) = Unit {0}
  HasNoTurn (Waits ticket) = Unit {0}
  HasNoTurn (Turn ticket story) = ⊥

  -- no two passes have one ticket
  abbrev pub IsApart : List (View D) → Type 0
  IsApart views = (seat other : ℕ) (v w : View D) → get_elem? views seat ≡ some v → get_elem? views other ≡ some w
      → (ticket : ℕ) → ticket_of v.stage ≡ Some ticket → ticket_of w.stage ≡ Some ticket → seat ≡ other

  -- each pass that is not spent has a weight, and the weights add up; the tickets are counted, differ and are in_line
  pub record IsCounted (served drawn whole : ℕ) (views : List (View D)) : Type 0 where
    pub count : served + sum_by tickets_of views ≡ drawn
    pub sum : sum_by weight_of views ≡ whole
    pub weighty : Each (λ v. v.weight ≡ 0 → v ≡ spent) views
    pub in_line : Each (λ v. IsInLine served drawn v.stage) views
    pub apart : IsApart views

  -- of two passes joined, the story that the one had seen begins what the other had
  abbrev pub Agrees : Stage D → List D → Type 0
  Agrees Idle seen = Unit {0}
  Agrees (Joined shorter) seen = IsPrefix shorter seen
  Agrees (Waits ticket) seen = Unit {0}
  Agrees (Turn ticket story) seen = Unit {0}

  -- a story begins with what a pass has seen of it
  abbrev pub Knows : List D → View D → Type 0
  Knows story v = IsPrefix v.seen story × Agrees v.stage v.seen

-- what a slot holds while the value is at home, and while it is out
abbrev pub Homes : Type 0 → Type 0
Homes T = List (maybe.Option (Option T))

module _ {T D : Type 0} (story : T → List D) where
  -- The value is at home, and no pass has the turn. The value's story begins with all that was seen, and some pass has seen it
  -- whole.
  pub record IsHome (homes : Homes T) (views : List (View D)) : Type 0 where
    pub value : T
    pub home : homes ≡ some (Some value) ∷ []
    pub nobody : Each (λ v. HasNoTurn v.stage) views
    pub known : Each (Knows (story value)) views
    pub newest : (seat : ℕ) × (v : View D) × (get_elem? views seat ≡ some v) × (0 < v.weight) × (v.seen ≡ story value)

  -- The value is out with the pass whose turn it is. The story that this pass keeps begins with all that was seen.
  pub record IsOut (served : ℕ) (homes : Homes T) (views : List (View D)) : Type 0 where
    pub kept : List D
    pub away : homes ≡ none ∷ []
    pub holder : (seat : ℕ) × (v : View D) × (get_elem? views seat ≡ some v) × (v.stage ≡ Turn served kept)
    pub known : Each (Knows kept) views

  -- The rule of a lock whose passes have this weight together.
  pub record LockRule (whole : ℕ) (s : State (Option T) (View D)) : Type 0 where
    pub served : ℕ
    pub drawn : ℕ
    pub words : s.words ≡ in_word drawn ∷ in_word served ∷ []
    pub small : whole < 2 ^ 64
    pub counted : IsCounted served drawn whole s.views
    pub place : IsHome s.homes s.views ⊎ IsOut served s.homes s.views
