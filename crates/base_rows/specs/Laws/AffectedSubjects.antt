-- Each row that does something to a thing affects the thing's subject: a line for each deed that does.
use Rattle.std.specs.Prelude.{◌≡◌, ℕ, Bool, true, false, ◌&&◌, ◌||◌, ◌==◌, Option, Some, None, List, [], ◌∷◌, map, bytes_eq}
use Rattle.std.specs.Prelude.{refl, is_some}
use Rattle.std.proofs.Common.{ap, sym, ◌∙◌}
use Rattle.std.specs.List.{list_any}
use Rattle.cc_names.specs.Last.{Effect, Keeps, Ends, Sets, only_if}
use Rattle.cc_names.specs.declared.rows.Deed.TheVariants as deeds
use Rattle.cc_names.specs.declared.rows.Out.TheVariants as outs
use Rattle.cc_names.specs.declared.rows.Placed.{Placed}
use Rattle.cc_names.specs.Versions.{is_number}
use Rattle.base_model.specs.Catalogs.{is_out}
use Rattle.base_model.specs.Changes.{targets_of, live_row}
use Rattle.base_model.specs.Rows.{Base, size}
use Rattle.base_rows.specs.Effects.{life_effect, end_effect, gone_effect, file_effect, object_effect, living_effect}
use Rattle.base_rows.specs.Effects.{named_effect, merge_effect, merged_effect, set_effect, map_effect, stored_checkout}
use Rattle.base_rows.specs.Effects.{checkout_effect, saved_effect, reserving_effect, stands, standing_effect, holds_one}
use Rattle.base_rows.specs.Effects.{winked_effect, pool_effect, leaving_effect, branch_named_effect}
use Rattle.base_model.specs.Objects.{are_same_paths}
use Rattle.base_rows.specs.Giving.{naming_effect, own_effect}
use Rattle.base_rows.specs.Histories.{history_effect, is_placed_on}
use Rattle.base_rows.specs.LookUps.{ActsBySubject}
use Rattle.base_rows.specs.Made.{is_target}
use Rattle.base_rows.specs.Subjects.{Life, Spec, AllCheckedOut, File, Object, Out, Saved, Reserved, Named, Living, Winked, Merge}
use Rattle.base_rows.specs.Subjects.{Merged, History, Leaving, BranchNamed, Owned, Given, history_at, is_same_subject}
use Rattle.base_rows.specs.Subjects.{reserved_branch, reserved_subjects, taken_subjects, Pool}
use Rattle.base_rows.specs.Pool.{Test}

-- an effect where a test holds is none where neither it nor another holds
unless : {A : Type 0} (test other : Bool) (effect : Effect A) → (test || other) ≡ false → only_if test effect ≡ Keeps
unless true other effect h = ap (λ is. only_if is effect) h
unless false other effect h = refl

-- the same, where a test comes to the one of the subjects
unless_by : {A : Type 0} (test is : Bool) (effect : Effect A) → is ≡ test → is ≡ false → only_if test effect ≡ Keeps
unless_by test is effect same h = ap (λ b. only_if b effect) (sym same ∙ h)

no_stored : {A B : Type 0} (f : A → B) (effect : Effect A) → effect ≡ Keeps → map_effect f effect ≡ Keeps
no_stored f effect h = ap (map_effect f) h

pub life_affects : (v : List ℕ) → ActsBySubject (Life v) (life_effect v)
life_affects v older (deeds.Mkview w) h = unless (bytes_eq w v) false (Sets (size older)) h
life_affects v older (deeds.Rmview w) h = unless (bytes_eq w v) false Ends h
life_affects v older deed h = refl

pub end_affects : (v : List ℕ) → ActsBySubject (Life v) (end_effect v)
end_affects v older (deeds.Mkview w) h = unless (bytes_eq w v) false Ends h
end_affects v older (deeds.Rmview w) h = unless (bytes_eq w v) false Ends h
end_affects v older deed h = refl

pub gone_affects : (v : List ℕ) → ActsBySubject (Life v) (gone_effect v)
gone_affects v older (deeds.Rmview w) h = unless (bytes_eq w v) false Ends h
gone_affects v older deed h = refl

pub file_affects : (v path : List ℕ) → ActsBySubject (File v path) (file_effect v path)
file_affects v path older (deeds.Put w q text) h = unless (bytes_eq w v && bytes_eq q path) false (Sets (size older)) h
file_affects v path older (deeds.Rm w q) h = unless (bytes_eq w v && bytes_eq q path) false Ends h
file_affects v path older deed h = refl

-- an object among those of one view, by its target
among_by : (path v w : List ℕ) (is : Bool) → bytes_eq w v ≡ is → (targets : List (List ℕ))
    → list_any (is_same_subject (Object v path)) (map (Object w) targets) ≡ (is && is_target path targets)
among_by path v w true e [] = refl
among_by path v w false e [] = refl
among_by path v w true e (target ∷ targets) =
    ap (λ same. (same && bytes_eq target path) || list_any (is_same_subject (Object v path)) (map (Object w) targets)) e
    ∙ ap (λ rest. bytes_eq target path || rest) (among_by path v w true e targets)
among_by path v w false e (target ∷ targets) =
    ap (λ same. (same && bytes_eq target path) || list_any (is_same_subject (Object v path)) (map (Object w) targets)) e
    ∙ among_by path v w false e targets

pub among_targets : (path v w : List ℕ) (targets : List (List ℕ)) → list_any (is_same_subject (Object v path))
    (map (Object w) targets) ≡ (bytes_eq w v && is_target path targets)
among_targets path v w targets = among_by path v w (bytes_eq w v) refl targets

pub object_affects : (v path : List ℕ) → ActsBySubject (Object v path) (object_effect v path)
object_affects v path older (deeds.Publish w targets script entries outputs) h =
    unless_by (bytes_eq w v && is_target path targets) (list_any (is_same_subject (Object v path)) (map (Object w) targets))
    (Sets (size older)) (among_targets path v w targets) h
object_affects v path older (deeds.Wink w id) h =
    unless_by (bytes_eq w v && is_target path (targets_of older id)) (list_any (is_same_subject (Object v path))
    (map (Object w) (targets_of older id))) (Sets id) (among_targets path v w (targets_of older id)) h
object_affects v path older (deeds.Drop w q) h = unless (bytes_eq w v && bytes_eq q path) false Ends h
object_affects v path older deed h = refl

among_objects : (id : ℕ) (objects : List ℕ) → list_any (is_same_subject (Living id)) (map Living objects)
    ≡ list_any (λ object. object == id) objects
among_objects id [] = refl
among_objects id (object ∷ objects) = ap (λ rest. (object == id) || rest) (among_objects id objects)

pub living_affects : (id : ℕ) → ActsBySubject (Living id) (living_effect id)
living_affects id older (deeds.Publish w targets script entries outputs) h =
    unless (size older == id) (list_any (is_same_subject (Living id)) (map (Object w) targets)) (Sets (size older)) h
living_affects id older (deeds.Scrub objects) h =
    unless_by (list_any (λ object. object == id) objects) (list_any (is_same_subject (Living id)) (map Living objects)) Ends
    (among_objects id objects) h
living_affects id older deed h = refl

-- where two tests hold, of which the first one is the one of a subject among others
unless_with : {A : Type 0} (test other rest : Bool) (effect : Effect A) → (test || rest) ≡ false
    → only_if (test && other) effect ≡ Keeps
unless_with true other rest effect h = absurd (cc)
unless_with false other rest effect h = refl

pub winked_affects : (b : Base) (id : ℕ) → ActsBySubject (Winked id) (winked_effect b id)
winked_affects b id older (deeds.Wink v other) h =
    unless_with (other == id) (holds_one b v id (targets_of older other))
    (list_any (is_same_subject (Winked id)) (map (Object v) (targets_of older other))) (Sets other) h
winked_affects b id older deed h = refl

-- an effect where a test does not hold is none, whatever another test says
never : {A : Type 0} (other : Bool) (effect : Effect A) → only_if (other && false) effect ≡ Keeps
never true effect = refl
never false effect = refl

-- nor is there one where two of three tests are to hold, of which the first one fails
unless_same : {A : Type 0} (other same passes rest : Bool) (effect : Effect A) → (same || rest) ≡ false
    → only_if (other && (same && passes)) effect ≡ Keeps
unless_same other true passes rest effect h = absurd (cc)
unless_same other false passes rest effect h = never other effect

pub pool_affects : (b : Base) (targets : List (List ℕ)) (passes : Test)
    → ActsBySubject (Pool targets) (pool_effect b targets passes)
pool_affects b targets passes older (deeds.Publish w made script entries outputs) h =
    unless_same (is_some (live_row b (size older))) (are_same_paths made targets) (passes script entries)
    (list_any (is_same_subject (Pool targets)) (map (Object w) made)) (Sets (size older)) h
pool_affects b targets passes older deed h = never (is_some (live_row b (size older))) (Sets (size older))

pub named_affects : (name : List ℕ) → ActsBySubject (Named name) (named_effect name)
named_affects name older (deeds.Mktype kind made) h = unless (bytes_eq made name) false (Sets kind) h
named_affects name older deed h = refl

pub merge_affects : (e tail head : ℕ) → ActsBySubject (Merge e tail head) (merge_effect e tail head)
merge_affects e tail head older (deeds.Arrow f one two) h = unless ((f == e) && (one == tail) && (two == head)) false
    (Sets (size older)) h
merge_affects e tail head older deed h = refl

pub merged_affects : (head : ℕ) → ActsBySubject (Merged head) (merged_effect head)
merged_affects head older (deeds.Arrow e tail into) h = unless (into == head) false (Sets (size older)) h
merged_affects head older deed h = refl

pub set_affects : (v : List ℕ) → ActsBySubject (Spec v) (set_effect v)
set_affects v older (deeds.Setcs w text) h = unless (bytes_eq w v) false (Sets (size older)) h
set_affects v older deed h = refl

pub checkout_affects : (v : List ℕ) (e : ℕ) → ActsBySubject (Out v e) (checkout_effect v e)
checkout_affects v e older (deeds.Mkelem w directory name kind true) h =
    no_stored stored_checkout (only_if (bytes_eq w v && (size older == e))
    (Sets (record { row = size older; origin = size older; reserved = true })))
    (unless (bytes_eq w v && (size older == e)) false (Sets (record { row = size older; origin = size older; reserved = true }))
    h)
checkout_affects v e older (deeds.Mkelem w directory name kind false) h = refl
checkout_affects v e older (deeds.Checkout w f origin reserved) h =
    no_stored stored_checkout (only_if (bytes_eq w v && (f == e)) (Sets
    (record { row = size older; origin = origin; reserved = reserved })))
    (unless (bytes_eq w v && (f == e)) (list_any (is_same_subject (Out v e))
    (reserved_subjects (reserved_branch older (deeds.Checkout w f origin reserved))))
    (Sets (record { row = size older; origin = origin; reserved = reserved })) h)
checkout_affects v e older (deeds.Branch w f origin name outs.No) h = refl
checkout_affects v e older (deeds.Branch w f origin name outs.Reserved) h =
    no_stored stored_checkout (only_if (bytes_eq w v && (f == e)) (Sets
    (record { row = size older; origin = size older; reserved = true })))
    (unless (bytes_eq w v && (f == e)) false (Sets (record { row = size older; origin = size older; reserved = true })) h)
checkout_affects v e older (deeds.Branch w f origin name outs.Unreserved) h =
    no_stored stored_checkout (only_if (bytes_eq w v && (f == e)) (Sets
    (record { row = size older; origin = size older; reserved = false })))
    (unless (bytes_eq w v && (f == e)) false (Sets (record { row = size older; origin = size older; reserved = false })) h)
checkout_affects v e older (deeds.Checkin w f) h = no_stored stored_checkout (only_if (bytes_eq w v && (f == e)) Ends)
    (unless (bytes_eq w v && (f == e)) false Ends h)
checkout_affects v e older (deeds.Uncheckout w f) h = no_stored stored_checkout (only_if (bytes_eq w v && (f == e)) Ends)
    (unless (bytes_eq w v && (f == e)) false Ends h)
checkout_affects v e older deed h = refl

pub saved_affects : (v : List ℕ) (e : ℕ) → ActsBySubject (Saved v e) (saved_effect v e)
saved_affects v e older (deeds.Save w f text) h = unless (bytes_eq w v && (f == e)) false (Sets (size older)) h
saved_affects v e older deed h = refl

-- where two tests hold, of which the first one fails
unless_both : {A : Type 0} (test other more : Bool) (effect : Effect A) → (test || more) ≡ false
    → only_if (test && other) effect ≡ Keeps
unless_both true other more effect h = ap (λ is. only_if (is && other) effect) h
unless_both false other more effect h = refl

pub standing_affects : (b : Base) (v : List ℕ) → ActsBySubject (AllCheckedOut v) (standing_effect b v)
standing_affects b v older (deeds.Mkelem w directory name kind true) h =
    unless_both (bytes_eq w v) (stands b (record {
      view = w;
      element = size older;
      checkout = record { row = size older; origin = size older; reserved = true };
    })) false (Sets (size older)) h
standing_affects b v older (deeds.Mkelem w directory name kind false) h = refl
standing_affects b v older (deeds.Checkout w e origin reserved) h =
    unless_both (bytes_eq w v) (stands b (record {
      view = w;
      element = e;
      checkout = record { row = size older; origin = origin; reserved = reserved };
    }))
    (list_any (is_same_subject (AllCheckedOut v)) (reserved_subjects (reserved_branch older
    (deeds.Checkout w e origin reserved)))) (Sets (size older)) h
standing_affects b v older (deeds.Branch w e origin name outs.No) h = refl
standing_affects b v older (deeds.Branch w e origin name outs.Reserved) h =
    unless_both (bytes_eq w v) (stands b (record {
      view = w;
      element = e;
      checkout = record { row = size older; origin = size older; reserved = true };
    })) false (Sets (size older)) h
standing_affects b v older (deeds.Branch w e origin name outs.Unreserved) h =
    unless_both (bytes_eq w v) (stands b (record {
      view = w;
      element = e;
      checkout = record { row = size older; origin = size older; reserved = false };
    })) false (Sets (size older)) h
standing_affects b v older deed h = refl

unless_reserved : (branch n : ℕ) (reserved : Option ℕ) → list_any (is_same_subject (Reserved branch)) (reserved_subjects reserved)
    ≡ false → only_if (is_number branch reserved) (Sets n) ≡ Keeps
unless_reserved branch n None h = refl
unless_reserved branch n (Some other) h = unless (branch == other) false (Sets n) h

pub reserving_affects : (branch : ℕ) → ActsBySubject (Reserved branch) (reserving_effect branch)
reserving_affects branch older (deeds.Mkelem v directory name kind true) h = unless_reserved branch (size older)
    (Some (size older)) h
reserving_affects branch older (deeds.Mkelem v directory name kind false) h = refl
reserving_affects branch older (deeds.Checkout v e origin reserved) h =
    unless_reserved branch (size older) (reserved_branch older (deeds.Checkout v e origin reserved)) h
reserving_affects branch older (deeds.Branch v e origin name outs.No) h = refl
reserving_affects branch older (deeds.Branch v e origin name outs.Reserved) h = unless_reserved branch (size older)
    (Some (size older)) h
reserving_affects branch older (deeds.Branch v e origin name outs.Unreserved) h = refl
reserving_affects branch older deed h = refl

-- an element among those on which a label is put
among_placed : (e : ℕ) (placed : List Placed) → list_any (is_same_subject (History e)) (map history_at placed)
    ≡ list_any (is_placed_on e) placed
among_placed e [] = refl
among_placed e (one ∷ placed) = ap (λ rest. (one.element == e) || rest) (among_placed e placed)

pub history_affects : (e : ℕ) → ActsBySubject (History e) (history_effect e)
history_affects e older (deeds.Mkelem v directory name kind out) h =
    unless (size older == e) (list_any (is_same_subject (History e)) (taken_subjects out v (size older)
    (reserved_branch older (deeds.Mkelem v directory name kind out)))) (Sets (size older)) h
history_affects e older (deeds.Branch v f origin name out) h =
    unless (f == e) (list_any (is_same_subject (History e)) (taken_subjects (is_out out) v f
    (reserved_branch older (deeds.Branch v f origin name out)))) (Sets (size older)) h
history_affects e older (deeds.Checkin v f) h = unless (f == e) false (Sets (size older)) h
history_affects e older (deeds.Label label f version) h = unless (f == e) false (Sets (size older)) h
history_affects e older (deeds.Unlabel label f) h = unless (f == e) false (Sets (size older)) h
history_affects e older (deeds.Labels label placed) h =
    unless_by (list_any (is_placed_on e) placed) (list_any (is_same_subject (History e)) (map history_at placed))
    (Sets (size older)) (among_placed e placed) h
history_affects e older deed h = refl

pub leaving_affects : (version : ℕ) → ActsBySubject (Leaving version) (leaving_effect version)
leaving_affects version older (deeds.Branch v e origin name out) h =
    unless (origin == version) (list_any (is_same_subject (Leaving version))
    (taken_subjects (is_out out) v e (reserved_branch older (deeds.Branch v e origin name out)))) (Sets (size older)) h
leaving_affects version older deed h = refl

pub branch_named_affects : (e : ℕ) (name : List ℕ) → ActsBySubject (BranchNamed e name) (branch_named_effect e name)
branch_named_affects e name older (deeds.Branch v f origin own out) h =
    unless ((e == f) && bytes_eq name own) (list_any (is_same_subject (BranchNamed e name))
    (taken_subjects (is_out out) v f (reserved_branch older (deeds.Branch v f origin own out)))) (Sets (size older)) h
branch_named_affects e name older deed h = refl

pub own_affects : (v : List ℕ) → ActsBySubject (Owned v) (own_effect v)
own_affects v older (deeds.Put w path text) h = unless (bytes_eq w v) false (Sets (size older)) h
own_affects v older (deeds.Publish w targets script entries outputs) h =
    unless (bytes_eq w v) (list_any (is_same_subject (Owned v)) (map (Object w) targets)) (Sets (size older)) h
own_affects v older (deeds.Wink w id) h = unless (bytes_eq w v) (list_any (is_same_subject (Owned v))
    (map (Object w) (targets_of older id))) (Sets (size older)) h
own_affects v older deed h = refl

pub naming_affects : (d : ℕ) → ActsBySubject (Given d) (naming_effect d)
naming_affects d older (deeds.Mkelem v f name kind out) h =
    unless (f == d) (list_any (is_same_subject (Given d)) (taken_subjects out v (size older)
    (reserved_branch older (deeds.Mkelem v f name kind out)))) (Sets (size older)) h
naming_affects d older (deeds.Mv v f from_name to_name) h = unless (f == d) false (Sets (size older)) h
naming_affects d older deed h = refl
