-- Which objects have to be run again.
use Rattle.std.specs.Prelude.{◌≡◌, ℕ, ◌<◌, ◌≤◌, ◌==◌, Bool, true, ◌&&◌, is_some, List}
use Rattle.std.specs.List.{list_any}
use Rattle.cc_names.specs.declared.rows.ReadOf.{ReadOf}
use Rattle.base_model.specs.Rows.{Base, size}
use Rattle.base_model.specs.Changes.{live_row}
use Rattle.base_model.specs.Closures.{is_publish}
use Rattle.base_model.specs.Objects.{record_of}

-- whether an entry names this row, and the row is an object
abbrev pub is_object_of : Base → ℕ → ReadOf → Bool
is_object_of b id entry = (entry.row == id) && is_publish b entry.row

-- whether entries name the object
abbrev pub name_object : Base → List ReadOf → ℕ → Bool
name_object b entries id = list_any (is_object_of b id) entries

-- each live object is among these
abbrev pub HasLive : Base → (ℕ → Bool) → Type 0
HasLive b needed = (id : ℕ) → id < size b → is_some (live_row b id) ≡ true → needed id ≡ true

-- each object is among these that an entry of one of them names
abbrev pub IsClosed : Base → (ℕ → Bool) → Type 0
IsClosed b needed = (id object : ℕ) → needed id ≡ true → name_object b (record_of b id) object ≡ true → needed object ≡ true

-- From this number on, live objects are among these, and those that an entry of one of them names.
pub record NeedsFrom (b : Base) (n : ℕ) (needed : ℕ → Bool) : Type 0 where
  pub lives : (id : ℕ) → n ≤ id → id < size b → is_some (live_row b id) ≡ true → needed id ≡ true
  pub closed : (id object : ℕ) → n ≤ id → needed id ≡ true → name_object b (record_of b id) object ≡ true → needed object ≡ true
