-- Verdicts on small bases: one object; one with a byte that is wrong; one that was made from an object that was scrubbed.
use Rattle.std.proofs.Common.{refl, ℕ, List, [], ◌∷◌}
use Rattle.std.specs.Prelude.{codes}
use Rattle.cc_names.specs.declared.rows.Deed.TheVariants as deeds
use Rattle.base_model.specs.Rows.{Base}
use Rattle.legal_history.specs.Queries.VersionNames.{line}
use Rattle.legal_history.specs.Worked.{base_of}
use Rattle.object_check.specs.Verdicts.{IsVerdict}
use Rattle.object_check.specs.declared.verdicts.Verdict.TheVariants.{Sound, Unsound}

abbrev v : List ℕ
v = codes "v"

-- a view with a source, and an object that was made from it with this text
abbrev one_object : List ℕ → Base
one_object text = base_of (
    deeds.Mkview v
    ∷ deeds.Put v (codes "Makefile") (line (codes "out: in"))
    ∷ deeds.Put v (codes "in") (line (codes "hi"))
    ∷ deeds.Publish v (codes "out" ∷ []) (line (codes "cat in > out")) (record { path = codes "in"; row = 3 } ∷ []) (text ∷ [])
    ∷ [])

no_rows_are_sound : IsVerdict [] (Sound 0)
no_rows_are_sound = (refl, refl)

it_is_true : IsVerdict (one_object (line (codes "hi"))) (Sound 1)
it_is_true = (refl, refl)

one_byte_is_wrong : IsVerdict (one_object (line (codes "ji"))) (Unsound 4)
one_byte_is_wrong = refl

-- an object that was made from another, which was scrubbed since
abbrev of_scrubbed : List ℕ → List ℕ → Base
of_scrubbed middle text = base_of (
    deeds.Mkview v
    ∷ deeds.Put v (codes "in") (line (codes "hi"))
    ∷ deeds.Publish v (codes "mid" ∷ []) (line (codes "cat in > mid")) (record { path = codes "in"; row = 2 } ∷ []) (middle ∷ [])
    ∷ deeds.Publish v (codes "out" ∷ []) (line (codes "cat mid > out")) (record { path = codes "mid"; row = 3 } ∷ []) (text ∷ [])
    ∷ deeds.Drop v (codes "mid")
    ∷ deeds.Scrub (3 ∷ [])
    ∷ [])

-- what the scrubbed object had stored does not matter, only what its record gives
the_live_one_is_true : IsVerdict (of_scrubbed (line (codes "ji")) (line (codes "hi"))) (Sound 1)
the_live_one_is_true = (refl, refl)

it_follows_the_stored_text : IsVerdict (of_scrubbed (line (codes "ji")) (line (codes "ji"))) (Unsound 4)
it_follows_the_stored_text = refl

-- an object whose record lacks what its script reads is not true
it_lacks_an_entry : IsVerdict (base_of (
    deeds.Mkview v
    ∷ deeds.Publish v (codes "out" ∷ []) (line (codes "cat in > out")) [] (line (codes "hi") ∷ [])
    ∷ [])) (Unsound 2)
it_lacks_an_entry = refl
