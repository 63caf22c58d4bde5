-- Rows whose outputs are in the file of objects.
use Rattle.std.proofs.Common.{◌≡◌, ℕ, ◌<◌, ◌≤◌, ◌+◌, ◌^◌, suc, List, [], ◌∷◌, ◌++◌, length, map, get_or, drop, refl, sym, ◌∙◌}
use Rattle.std.proofs.Common.{ap, subst, arith}
use Rattle.std.specs.List.{flat_map, AllByRecursion}
use Rattle.std.proofs.lemmas.List.{append_assoc, append-nil, drop_all, drop_more, length-map}
use Rattle.cc_names.specs.Formed.{Plain, IsText, IsStored, IsDeedFormed, IsTag, IsFormed}
use Rattle.cc_names.specs.declared.rows.Tag.{Tag}
use Rattle.cc_names.specs.declared.rows.ReadOf.{ReadOf}
use Rattle.cc_names.specs.declared.rows.Extent.{Extent}
use Rattle.cc_names.specs.declared.rows.Stored.{Stored}
use Rattle.cc_names.specs.declared.rows.Stored.TheVariants.{Here, There}
use Rattle.cc_names.specs.declared.rows.Deed.{Deed}
use Rattle.cc_names.specs.declared.rows.Deed.TheVariants as deeds
use Rattle.row_form.specs.Fields.{word, long, list_bytes, stored_bytes}
use Rattle.row_form.specs.Spelled.{spelling_of, head_of, first_byte, code_of, fields_of}
use Rattle.row_form.specs.Extents.{stored_first, stored_at, deed_at_extents, row_at_extents, in_frame, plain_deed}

-- the bytes of outputs of which each large one has the next of these extents
abbrev pub bytes_at : List (List ℕ) → List Extent → List ℕ
bytes_at outputs extents = flat_map stored_bytes (stored_at outputs extents)

pub as_many : (outputs : List (List ℕ)) (extents : List Extent) → length (stored_at outputs extents) ≡ length outputs
as_many [] extents = refl
as_many (output ∷ outputs) extents = ap suc (as_many outputs (stored_first output extents).1)

pub none_left : (outputs : List (List ℕ)) (extents : List Extent) (index : ℕ) → length outputs ≤ index
    → bytes_at (drop index outputs) extents ≡ []
none_left outputs extents index h = ap (λ rest. bytes_at rest extents) (drop_all index outputs h)

pub one_less : (outputs : List (List ℕ)) (index : ℕ) (output : List ℕ) → index < length outputs
    → output ≡ get_or outputs index output
    → drop index outputs ≡ output ∷ drop (index + 1) outputs
one_less outputs index output h e =
    drop_more outputs index output h ∙ ap (λ t. t ∷ drop (index + 1) outputs) (sym e)

pub one_written : (before after whole output : List ℕ) (rest others : List (List ℕ)) (extents left : List Extent)
    → before ++ bytes_at rest extents ≡ whole → rest ≡ output ∷ others
    → after ≡ before ++ stored_bytes (stored_first output extents).0 → left ≡ (stored_first output extents).1
    → after ++ bytes_at others left ≡ whole
one_written before after whole output rest others extents left all first written taken =
    let next = stored_first output extents in
    ap (λ bytes. bytes ++ bytes_at others left) written
    ∙ ap (λ free. (before ++ stored_bytes next.0) ++ bytes_at others free) taken
    ∙ append_assoc before (stored_bytes next.0) (bytes_at others next.1)
    ∙ ap (λ outputs. before ++ bytes_at outputs extents) (sym first)
    ∙ all

pub all_written : (before after : List ℕ) (outputs : List (List ℕ)) (extents left : List Extent) (index : ℕ)
    → after ++ bytes_at (drop index outputs) left ≡ (before ++ word (length outputs)) ++ bytes_at outputs extents
    → length outputs ≤ index
    → after ≡ before ++ list_bytes stored_bytes (stored_at outputs extents)
all_written before after outputs extents left index all none =
    sym (append-nil after) ∙ ap (λ bytes. after ++ bytes) (sym (none_left outputs left index none)) ∙ all
    ∙ append_assoc before (word (length outputs)) (bytes_at outputs extents)
    ∙ ap (λ count. before ++ (word count ++ bytes_at outputs extents)) (sym (as_many outputs extents))

-- a head and what is written after it
regroup : (a b c d rest : List ℕ) → (a ++ (b ++ (c ++ d))) ++ rest ≡ a ++ (b ++ (c ++ (d ++ rest)))
regroup a b c d rest =
    append_assoc a (b ++ (c ++ d)) rest ∙ ap (λ s. a ++ s) (append_assoc b (c ++ d) rest
    ∙ ap (λ s. b ++ s) (append_assoc c d rest))

abbrev pub behind_head : Plain → List ℕ → List ℕ
behind_head row rest =
    first_byte row.deed ∷ (word row.tag.phase ++ (word row.tag.lane ++ (word row.tag.command ++ (long row.moment ++ rest))))

pub head_then : (row : Plain) (rest : List ℕ) → head_of row ++ rest ≡ behind_head row rest
head_then row rest =
    ap (λ s. first_byte row.deed ∷ s) (regroup (word row.tag.phase) (word row.tag.lane) (word row.tag.command) (long row.moment)
    rest)

pub whole_row : (row : Plain) (m n o : List ℕ) → m ≡ head_of row → n ≡ m ++ code_of row.deed ∷ [] → o ≡ n ++ fields_of row.deed
    → o ≡ spelling_of row
whole_row row m n o head code fields =
    fields ∙ ap (λ s. s ++ fields_of row.deed) (code ∙ ap (λ s. s ++ code_of row.deed ∷ []) head)
    ∙ append_assoc (head_of row) (code_of row.deed ∷ []) (fields_of row.deed)
    ∙ head_then row (code_of row.deed ∷ fields_of row.deed)

-- no other row than a publish has extents
not_published : (extents : List Extent) (deed : Deed)
    → ((view : List ℕ) (targets : List (List ℕ)) (script : List ℕ) (entries : List ReadOf) (outputs : List (List ℕ))
    → deed ≡ deeds.Publish view targets script entries outputs → ⊥)
    → deed_at_extents extents deed ≡ deed
not_published extents (deeds.Publish view targets script entries outputs) none =
    absurd (none view targets script entries outputs refl)
not_published extents deed none = refl

pub same_at_extents : (extents : List Extent) (row : Plain) (deed : Deed) → deed ≡ row.deed
    → ((view : List ℕ) (targets : List (List ℕ)) (script : List ℕ) (entries : List ReadOf) (outputs : List (List ℕ))
    → deed ≡ deeds.Publish view targets script entries outputs → ⊥)
    → row_at_extents extents row ≡ row
same_at_extents [] row deed is none = refl
same_at_extents (extent ∷ extents) row deed is none =
    let here = ap (deed_at_extents (extent ∷ extents)) (sym is) ∙ not_published (extent ∷ extents) deed none ∙ is in
    λ i. record { tag = row.tag; moment = row.moment; deed = here i }

-- the form of the row of the base
texts_in_frame : (outputs : List Stored) → AllByRecursion IsStored outputs → AllByRecursion IsText (map in_frame outputs)
texts_in_frame [] h = tt
texts_in_frame (Here bytes ∷ outputs) h = (h.0, texts_in_frame outputs h.1)
texts_in_frame (There extent ∷ outputs) h = (omega arith, texts_in_frame outputs h.1)

pub formed_plain : (deed : Deed) → IsDeedFormed deed → IsDeedFormed (plain_deed deed)
formed_plain (deeds.PublishAt view targets script entries outputs) h =
    let count = length-map outputs in_frame in
    ((h.0.0, h.0.1, h.0.2, h.0.3, count ∙ h.0.4), (subst (λ n. n < 2 ^ 32) (sym count) h.1.0, texts_in_frame outputs h.1.1))
formed_plain deed h = h

pub formed_row : (row : Plain) (tag : Tag) (moment : ℕ) (deed : Deed) → IsFormed row → tag ≡ row.tag → moment ≡ row.moment
    → deed ≡ plain_deed row.deed → IsFormed (record { tag = tag; moment = moment; deed = deed })
formed_row row tag moment deed formed same_tag same_moment plain = record {
  tag = subst IsTag (sym same_tag) formed.tag;
  moment = subst (λ m. m ≤ 253402300799) (sym same_moment) formed.moment;
  deed = subst IsDeedFormed (sym plain) (formed_plain row.deed formed.deed);
}
