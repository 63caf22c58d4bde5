-- A thing of a view, given by the newest row that does something to it and by the last end of a life of the view.
use Rattle.std.proofs.Common.{◌≡◌, ℕ, ◌<◌, ◌≤◌, Bool, true, false, cond, Option, Some, None, IfSome, [], ◌∷◌, nat_lt, refl, ap}
use Rattle.std.proofs.Common.{sym, ◌∙◌, arith}
use Rattle.std.specs.Prelude.{option_map}
use Rattle.std.specs.Option.{option_or}
use Rattle.std.proofs.lemmas.Bool.Decides.{nat_tests}
use Rattle.cc_names.specs.Last.{Effect, Keeps, Ends, Sets, value_after}
use Rattle.cc_names.specs.declared.rows.Deed.{Deed}
use Rattle.base_model.specs.Rows.{Base, size, only_where}
use Rattle.base_rows.specs.Effects.{map_effect, map_update}
use Rattle.base_rows.specs.Lifetimes.{number_of, ended_or, is_behind, within, later, or_else}
use Rattle.base_rows.specs.LookUps.{Deeds, Update, update_by_row, newest, last_of}
use Rattle.base_rows.proofs.Newest.{newest_below}

behind_bound : (ended : Option ℕ) (n : ℕ) → IfSome ended (λ m. m < n) → is_behind ended n ≡ true
behind_bound None n below = refl
behind_bound (Some m) n below = grind (arith, nat_tests)

not_behind : (n m : ℕ) → m ≤ n → nat_lt n m ≡ false
not_behind n m h = grind (arith, nat_tests)

-- nothing is left where a row ended the thing
none_where : {A : Type 0} (is : Bool) (a : Option A) → None ≡ a → None ≡ only_where is a
none_where true a h = h
none_where false a h = refl

-- nothing is left after the end of the life
gone : {A : Type 0} (n : ℕ) (row : Option (Update A)) → IfSome row (λ r. r.0 ≤ n) → None ≡ within (Some n) row
gone n None below = refl
gone n (Some row) below = sym (ap (λ is. only_where is row.1) (not_behind n row.0 below))

at_most : {A : Type 0} (row : Option (Update A)) (n : ℕ) → IfSome row (λ r. r.0 < n) → IfSome row (λ r. r.0 ≤ n)
at_most None n h = tt
at_most (Some row) n h = omega arith

update_here : {A : Type 0} (n : ℕ) (is : Effect A) (rows : Option (Update A)) → IfSome rows (λ r. r.0 < n)
    → IfSome (option_or (update_by_row n is) rows) (λ r. r.0 ≤ n)
update_here n Keeps rows h = at_most rows n h
update_here n Ends rows h = omega arith
update_here n (Sets a) rows h = omega arith

-- the last end of a life
abbrev pub ended_by : Option (Update ℕ) → Option ℕ
ended_by row = option_map number_of row

ended_below : (row : Option (Update ℕ)) (n : ℕ) → IfSome row (λ r. r.0 < n) → IfSome (ended_by row) (λ m. m < n)
ended_below None n h = tt
ended_below (Some row) n h = h

step : {A : Type 0} (n : ℕ) (one : Effect ℕ) (two : Effect A) (before : Option A) (ends : Option (Update ℕ))
    (rows : Option (Update A)) → IfSome ends (λ r. r.0 < n) → IfSome rows (λ r. r.0 < n)
    → before ≡ within (ended_by ends) rows → value_after (ended_or one two) before
    ≡ within (ended_by (option_or (update_by_row n one) ends)) (option_or (update_by_row n two) rows)
step n Ends two before ends rows h j same = gone n (option_or (update_by_row n two) rows) (update_here n two rows j)
step n (Sets m) two before ends rows h j same = gone n (option_or (update_by_row n two) rows) (update_here n two rows j)
step n Keeps Keeps before ends rows h j same = same
step n Keeps Ends before ends rows h j same = none_where (is_behind (ended_by ends) n) None refl
step n Keeps (Sets a) before ends rows h j same =
    sym (ap (λ is. only_where is (Some a)) (behind_bound (ended_by ends) n (ended_below ends n h)))

-- What is left of a thing of a view: what the newest row leaves that does something to it, unless the view's life ended there or
-- after.
pub last_within : {A : Type 0} (all : Deeds A) (one : Deeds ℕ) (two : Deeds A)
    → ((older : Base) (deed : Deed) → all older deed ≡ ended_or (one older deed) (two older deed)) → (b : Base)
    → last_of all b ≡ within (ended_by (newest one b)) (newest two b)
last_within all one two parts [] = refl
last_within all one two parts (row ∷ older) =
    ap (λ is. value_after is (last_of all older)) (parts older row.deed)
    ∙ step (size older) (one older row.deed) (two older row.deed) (last_of all older) (newest one older) (newest two older)
    (newest_below one older) (newest_below two older) (last_within all one two parts older)

later_two : {A : Type 0} (ones : Option (Update A)) (row : Update A) → IfSome ones (λ r. r.0 < row.0)
    → Some row ≡ later ones (Some row)
later_two None row h = refl
later_two (Some one) row h =
    let behind : nat_lt one.0 row.0 ≡ true = grind (arith, nat_tests) in
    sym (ap (λ is. cond is (Some row) (Some one)) behind)

later_one : {A : Type 0} (row : Update A) (twos : Option (Update A)) → IfSome twos (λ r. r.0 ≤ row.0)
    → Some row ≡ later (Some row) twos
later_one row None h = refl
later_one row (Some two) h = sym (ap (λ is. cond is (Some two) (Some row)) (not_behind row.0 two.0 h))

later_step : {A : Type 0} (n : ℕ) (one two : Effect A) (ones twos : Option (Update A)) → IfSome ones (λ r. r.0 < n)
    → IfSome twos (λ r. r.0 < n)
    → option_or (update_by_row n (or_else one two)) (later ones twos) ≡ later (option_or (update_by_row n one) ones)
    (option_or (update_by_row n two) twos)
later_step n Keeps Keeps ones twos h j = refl
later_step n Keeps Ends ones twos h j = later_two ones (n, None) h
later_step n Keeps (Sets a) ones twos h j = later_two ones (n, Some a) h
later_step n Ends two ones twos h j = later_one (n, None) (option_or (update_by_row n two) twos) (update_here n two twos j)
later_step n (Sets a) two ones twos h j = later_one (n, Some a) (option_or (update_by_row n two) twos) (update_here n two twos j)

-- Of a thing to which two kinds of rows do something, the later row tells.
pub newest_of_two : {A : Type 0} (all one two : Deeds A) → ((older : Base) (deed : Deed)
    → all older deed ≡ or_else (one older deed) (two older deed)) → (b : Base)
    → newest all b ≡ later (newest one b) (newest two b)
newest_of_two all one two parts [] = refl
newest_of_two all one two parts (row ∷ older) =
    ap (λ is. option_or (update_by_row (size older) is) (newest all older)) (parts older row.deed)
    ∙ ap (option_or (update_by_row (size older) (or_else (one older row.deed) (two older row.deed))))
    (newest_of_two all one two parts older)
    ∙ later_step (size older) (one older row.deed) (two older row.deed) (newest one older) (newest two older)
    (newest_below one older) (newest_below two older)

map_step : {A B : Type 0} (f : A → B) (n : ℕ) (effect : Effect A) (rows : Option (Update A)) (mapped : Option (Update B))
    → mapped ≡ option_map (map_update f) rows → option_or (update_by_row n (map_effect f effect)) mapped
    ≡ option_map (map_update f) (option_or (update_by_row n effect) rows)
map_step f n Keeps rows mapped h = h
map_step f n Ends rows mapped h = refl
map_step f n (Sets a) rows mapped h = refl

-- the same row tells of another kind of thing
pub newest_mapped : {A B : Type 0} (f : A → B) (effect : Deeds A) (b : Base)
    → newest (λ older deed. map_effect f (effect older deed)) b ≡ option_map (map_update f) (newest effect b)
newest_mapped f effect [] = refl
newest_mapped f effect (row ∷ older) = map_step f (size older) (effect older row.deed) (newest effect older)
    (newest (λ b deed. map_effect f (effect b deed)) older) (newest_mapped f effect older)

mapped_where : {A B : Type 0} (f : A → B) (is : Bool) (item : Option A)
    → only_where is (option_map f item) ≡ option_map f (only_where is item)
mapped_where f true item = refl
mapped_where f false item = refl

pub within_mapped : {A B : Type 0} (f : A → B) (ended : Option ℕ) (row : Option (Update A))
    → within ended (option_map (map_update f) row) ≡ option_map f (within ended row)
within_mapped f ended None = refl
within_mapped f ended (Some row) = mapped_where f (is_behind ended row.0) row.1
