-- A base without the bytes of its objects, and bases that differ in such bytes alone.
use Rattle.std.specs.Prelude.{◌≡◌, ℕ, Bool, true, false, is_some, List, [], ◌∷◌, map}
use Rattle.cc_names.specs.Formed.{Plain}
use Rattle.cc_names.specs.declared.rows.Deed.{Deed}
use Rattle.cc_names.specs.declared.rows.Deed.TheVariants as deeds
use Rattle.base_model.specs.Rows.{Base, size, deed_at}
use Rattle.base_model.specs.Changes.{live_row}

-- outputs without their bytes
abbrev pub blank_outputs : List (List ℕ) → List (List ℕ)
blank_outputs outputs = map (λ output. []) outputs

-- a deed, of a publish without the bytes of its outputs
abbrev pub blank_deed : Deed → Deed
blank_deed (deeds.Publish v targets script entries outputs) = deeds.Publish v targets script entries (blank_outputs outputs)
blank_deed deed = deed

-- the same of a row
abbrev pub blank_row : Plain → Plain
blank_row row = record row { deed = blank_deed row.deed }

-- a row, without the bytes of its outputs unless a test holds
abbrev pub blank_unless : Bool → Plain → Plain
blank_unless true row = row
blank_unless false row = blank_row row

-- rows of which those with these numbers alone keep the bytes of their outputs
abbrev pub blanked_but : (ℕ → Bool) → Base → Base
blanked_but keeps [] = []
blanked_but keeps (row ∷ older) = blank_unless (keeps (size older)) row ∷ blanked_but keeps older

-- A base with each output of each publish emptied.
abbrev pub with_blanks : Base → Base
with_blanks b = blanked_but (λ id. false) b

-- A base with each output of each scrubbed object emptied.
abbrev pub without_bytes : Base → Base
without_bytes b = blanked_but (λ id. is_some (live_row b id)) b

-- Two bases have the same rows but for what their publishes have as outputs.
abbrev pub AreSameButForOutputs : Base → Base → Type 0
AreSameButForOutputs one two = with_blanks one ≡ with_blanks two

-- They differ in outputs of scrubbed objects alone: those of each live object are the same.
pub record AreSameButForScrubbedOutputs (one two : Base) : Type 0 where
  pub rows : AreSameButForOutputs one two
  pub kept : (id : ℕ) → is_some (live_row one id) ≡ true → deed_at two id ≡ deed_at one id
