-- Places of faults, worked out by computation: a row of `mkview v` by the first command, at the moment 1,700,000,000, and what
-- is wrong with it in turn.
use Rattle.std.proofs.Common.{◌≡◌, ℕ, Some, None, List, [], ◌∷◌, ◌++◌, refl}
use Rattle.row_form.specs.RowReader.{fault_of}

abbrev tag_and_moment : List ℕ
tag_and_moment = 1 ∷ 0 ∷ 0 ∷ 0 ∷ 1 ∷ 0 ∷ 0 ∷ 0 ∷ 1 ∷ 0 ∷ 0 ∷ 0 ∷ 0 ∷ 241 ∷ 83 ∷ 101 ∷ 0 ∷ 0 ∷ 0 ∷ 0 ∷ []

-- a row of this first byte and code
abbrev row : ℕ → ℕ → List ℕ → List ℕ
row form code fields = form ∷ (tag_and_moment ++ (code ∷ fields))

-- the name `v`
abbrev v : List ℕ
v = 1 ∷ 0 ∷ 0 ∷ 0 ∷ 118 ∷ []

a_row : fault_of (row 1 1 v) ≡ None
a_row = refl

no_bytes : fault_of [] ≡ Some 0
no_bytes = refl

a_first_byte_of_no_row : fault_of (row 3 1 v) ≡ Some 0
a_first_byte_of_no_row = refl

a_code_of_no_deed : fault_of (row 1 24 v) ≡ Some 21
a_code_of_no_deed = refl

a_deed_of_one_form : fault_of (row 2 1 v) ≡ Some 21
a_deed_of_one_form = refl

a_cut_name : fault_of (row 1 1 (1 ∷ 0 ∷ 0 ∷ 0 ∷ [])) ≡ Some 22
a_cut_name = refl

a_byte_left_over : fault_of (row 1 1 (v ++ 0 ∷ [])) ≡ Some 27
a_byte_left_over = refl

-- a scrub of the objects 5 and 5 breaks the rule of its list; one whose count is too high lacks a member

an_object_twice : fault_of (row 1 20 (2 ∷ 0 ∷ 0 ∷ 0 ∷ 5 ∷ 0 ∷ 0 ∷ 0 ∷ 0 ∷ 0 ∷ 0 ∷ 0 ∷ 5 ∷ 0 ∷ 0 ∷ 0 ∷ 0 ∷ 0 ∷ 0 ∷ 0 ∷ []))
    ≡ Some 22
an_object_twice = refl

a_count_past_the_end : fault_of (row 1 20 (255 ∷ 255 ∷ 255 ∷ 255 ∷ 5 ∷ 0 ∷ 0 ∷ 0 ∷ 0 ∷ 0 ∷ 0 ∷ 0 ∷ [])) ≡ Some 34
a_count_past_the_end = refl

-- an output of a publish at at the place 5 with the length 0 fails at the length
an_empty_extent : fault_of (row 1 23 (v ++ (1 ∷ 0 ∷ 0 ∷ 0 ∷ 1 ∷ 0 ∷ 0 ∷ 0 ∷ 120 ∷ 0 ∷ 0 ∷ 0 ∷ 0 ∷ 0 ∷ 0 ∷ 0 ∷ 0 ∷ 1 ∷ 0 ∷ 0 ∷ 0
    ∷ 1
    ∷ 5 ∷ 0 ∷ 0 ∷ 0 ∷ 0 ∷ 0 ∷ 0 ∷ 0 ∷ 0 ∷ 0 ∷ 0 ∷ 0 ∷ 0 ∷ 0 ∷ 0 ∷ 0 ∷ []))) ≡ Some 57
an_empty_extent = refl
