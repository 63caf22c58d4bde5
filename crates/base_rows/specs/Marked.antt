-- The marks that rows leave for the keys of what they affect: links, each of which names the next older one of its key.
use Rattle.std.specs.Prelude.{◌≡◌, ℕ, ◌<◌, ◌≤◌, ◌==◌, ◌++◌, Bool, true, false, nat_lt, Option, Some, None, List, [], ◌∷◌, length}
use Rattle.std.specs.Prelude.{reverse, IfSome}
use Rattle.std.specs.declared.random_state.RandomState.{RandomState}
use Rattle.cc_names.specs.Versions.{put_if}
use Rattle.base_model.specs.Rows.{Base, size}
use Rattle.base_rows.specs.Subjects.{keys_of}
use Rattle.base_rows.specs.declared.marks.Link.{Link}

-- whether this is the place
abbrev pub is_place : Option ℕ → ℕ → Bool
is_place None place = false
is_place (Some p) place = p == place

-- The rows along the links from a place on. The links stand newest first, and places are counted from the oldest.
abbrev pub rows_from : List Link → Option ℕ → List ℕ
rows_from [] next = []
rows_from (link ∷ older) next = elim (is_place next (length older)) [
  | true ↦ link.row ∷ rows_from older link.older
  | false ↦
      rows_from older next
]

-- some rows are the last ones of others
pub record IsEnd (rows all : List ℕ) : Type 0 where
  pub passed : List ℕ
  pub is : all ≡ passed ++ rows

-- a link leads to older ones: to the next one, and to one at which the rows from there on end
pub record IsLinked (link : Link) (older : List Link) : Type 0 where
  pub next : IfSome link.older (λ place. place < length older)
  pub skips : IfSome link.skip (λ place. place < length older)
  pub end : IsEnd (rows_from older link.skip) (rows_from older link.older)

-- the link at a place, and the rows along the links from there on
pub record LeadsOn (links : List Link) (p : ℕ) (link : Link) : Type 0 where
  pub rows : rows_from links (Some p) ≡ link.row ∷ rows_from links link.older
  pub next : IfSome link.older (λ place. place < p)
  pub skips : IfSome link.skip (λ place. place < p)
  pub end : IsEnd (rows_from links link.skip) (rows_from links link.older)

-- each link leads to older ones
abbrev pub AreLinked : List Link → Type 0
AreLinked [] = Unit {0}
AreLinked (link ∷ older) = IsLinked link older × AreLinked older

-- none of these rows is newer than row n
abbrev pub AreAtMost : ℕ → List ℕ → Type 0
AreAtMost n [] = Unit {0}
AreAtMost n (m ∷ rows) = (m ≤ n) × AreAtMost n rows

-- none of these rows is newer than the one before it
abbrev pub Sink : List ℕ → Type 0
Sink [] = Unit {0}
Sink (n ∷ rows) = AreAtMost n rows × Sink rows

-- the rows below a bound
abbrev pub rows_below : ℕ → List ℕ → List ℕ
rows_below bound [] = []
rows_below bound (n ∷ rows) = put_if (nat_lt n bound) n (rows_below bound rows)

-- the links lead to older ones, and each head is one of them
pub record IsChained (links : List Link) (heads : ℕ → Option ℕ) : Type 0 where
  pub linked : AreLinked (reverse links)
  pub within : (key : ℕ) → IfSome (heads key) (λ place. place < length links)

-- the rows that are marked for a key, newest first
abbrev pub rows_by : List Link → (ℕ → Option ℕ) → ℕ → List ℕ
rows_by links heads key = rows_from (reverse links) (heads key)

-- the rows of a key, with a row that marks these keys
abbrev pub with_marks : ℕ → ℕ → List ℕ → List ℕ → List ℕ
with_marks row key [] rows = rows
with_marks row key (k ∷ keys) rows = with_marks row key keys (put_if (k == key) row rows)

-- the rows of a base that affect something of this key
abbrev pub marked_rows : RandomState → ℕ → Base → List ℕ
marked_rows hashing key [] = []
marked_rows hashing key (row ∷ older) = with_marks (size older) key (keys_of hashing older row.deed)
    (marked_rows hashing key older)

-- the links are the marks of a base's rows
pub record IsMarked (hashing : RandomState) (links : List Link) (heads : ℕ → Option ℕ) (b : Base) : Type 0 where
  pub chained : IsChained links heads
  pub rows : (key : ℕ) → rows_by links heads key ≡ marked_rows hashing key b
