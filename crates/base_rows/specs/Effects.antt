-- What rows do to the things that are looked up.
use Rattle.std.specs.Prelude.{ℕ, Bool, false, ◌&&◌, ◌==◌, Option, Some, None, List, option_map, bytes_eq, is_some}
use Rattle.std.specs.List.{list_any}
use Rattle.cc_names.specs.Last.{Effect, Keeps, Ends, Sets, only_if}
use Rattle.cc_names.specs.References.{held_at}
use Rattle.cc_names.specs.declared.rows.Deed.{Deed}
use Rattle.cc_names.specs.declared.rows.Deed.TheVariants as deeds
use Rattle.cc_names.specs.declared.rows.TypeKind.{TypeKind}
use Rattle.base_model.specs.Changes.{objects_held, live_effect, targets_of, type_effect, live_row}
use Rattle.cc_names.specs.Versions.{is_number}
use Rattle.base_model.specs.Checkouts.{row_of_checkout}
use Rattle.base_model.specs.Conditions.{is_arrow}
use Rattle.base_model.specs.Rows.{Base, size}
use Rattle.base_model.specs.Views as model
use Rattle.base_rows.specs.Lifetimes.{or_else}
use Rattle.base_rows.specs.LookUps.{Deeds, Update}
use Rattle.base_rows.specs.Made.{is_target}
use Rattle.base_rows.specs.Subjects.{reserved_branch}
use Rattle.base_rows.specs.Pool.{Test, publishes}
use Rattle.base_rows.specs.declared.checkouts.Checkout.{Checkout}
use Rattle.base_rows.specs.declared.checkouts.Taken.{Taken}

-- a view's life begins and ends
abbrev pub life_effect : List ℕ → Deeds ℕ
life_effect v older deed = model.view_effect v (size older) deed

-- what a view has of its own ends where its life begins and where it ends
abbrev pub end_effect : List ℕ → Deeds ℕ
end_effect v older (deeds.Mkview w) = only_if (bytes_eq w v) Ends
end_effect v older (deeds.Rmview w) = only_if (bytes_eq w v) Ends
end_effect v older deed = Keeps

-- what it holds ends with its life
abbrev pub gone_effect : List ℕ → Deeds ℕ
gone_effect v older (deeds.Rmview w) = only_if (bytes_eq w v) Ends
gone_effect v older deed = Keeps

-- a private file is put and taken away
abbrev pub file_effect : List ℕ → List ℕ → Deeds ℕ
file_effect v path older (deeds.Put w q text) = only_if (bytes_eq w v && bytes_eq q path) (Sets (size older))
file_effect v path older (deeds.Rm w q) = only_if (bytes_eq w v && bytes_eq q path) Ends
file_effect v path older deed = Keeps

-- an object is held at its targets, until another one is or it is dropped
abbrev pub object_effect : List ℕ → List ℕ → Deeds ℕ
object_effect v path older (deeds.Publish w targets script entries outputs) =
    only_if (bytes_eq w v && is_target path targets) (Sets (size older))
object_effect v path older (deeds.Wink w id) = only_if (bytes_eq w v && is_target path (targets_of older id)) (Sets id)
object_effect v path older (deeds.Drop w q) = only_if (bytes_eq w v && bytes_eq q path) Ends
object_effect v path older deed = Keeps

-- whether a view holds an object at one of these paths
abbrev pub holds_one : Base → List ℕ → ℕ → List (List ℕ) → Bool
holds_one b v id targets = list_any (λ target. is_number id (held_at (objects_held b) v target)) targets

-- whether the view of the row that made an object holds it at one of its targets
abbrev pub held_by_maker : Base → ℕ → Option Deed → Bool
held_by_maker b id (Some (deeds.Publish v targets script entries outputs)) = holds_one b v id targets
held_by_maker b id _ = false

-- a view winks an object in that it still holds at one of its targets
abbrev pub winked_effect : Base → ℕ → Deeds ℕ
winked_effect b id older (deeds.Wink v other) = only_if ((other == id) && holds_one b v id (targets_of older other)) (Sets other)
winked_effect b id older deed = Keeps

-- an object is made and scrubbed
abbrev pub living_effect : ℕ → Deeds ℕ
living_effect id older deed = live_effect id (size older) deed

-- an object of these targets is made that is live in a base and whose record passes
abbrev pub pool_effect : Base → List (List ℕ) → Test → Deeds ℕ
pool_effect b targets passes older deed =
    only_if (is_some (live_row b (size older)) && publishes targets passes deed) (Sets (size older))

-- a type is made
abbrev pub named_effect : List ℕ → Deeds TypeKind
named_effect name older deed = type_effect name deed

-- two versions are merged
abbrev pub merge_effect : ℕ → ℕ → ℕ → Deeds ℕ
merge_effect e tail head older deed = only_if (is_arrow e tail head deed) (Sets (size older))

-- a version is merged into this one
abbrev pub merged_effect : ℕ → Deeds ℕ
merged_effect head older (deeds.Arrow e tail into) = only_if (into == head) (Sets (size older))
merged_effect head older deed = Keeps

-- a config spec is set
abbrev pub set_effect : List ℕ → Deeds ℕ
set_effect v older (deeds.Setcs w text) = only_if (bytes_eq w v) (Sets (size older))
set_effect v older deed = Keeps

-- an effect on another kind of thing
abbrev pub map_effect : {A B : Type 0} → (A → B) → Effect A → Effect B
map_effect f Keeps = Keeps
map_effect f Ends = Ends
map_effect f (Sets a) = Sets (f a)

-- an update of another kind of thing
abbrev pub map_update : {A B : Type 0} → (A → B) → Update A → Update B
map_update f row = (row.0, option_map f row.1)

-- a checkout as code has it, and as the model has it
abbrev pub stored_checkout : model.Checkout → Checkout
stored_checkout checkout = record { row = checkout.row; origin = checkout.origin; reserved = checkout.reserved }

abbrev pub plain_checkout : Checkout → model.Checkout
plain_checkout checkout = record { row = checkout.row; origin = checkout.origin; reserved = checkout.reserved }

-- an element is taken out and given back, whatever becomes of the view
abbrev pub taken_effect : List ℕ → ℕ → Deeds model.Checkout
taken_effect v e older (deeds.Checkin w f) = only_if (bytes_eq w v && (f == e)) Ends
taken_effect v e older (deeds.Uncheckout w f) = only_if (bytes_eq w v && (f == e)) Ends
taken_effect v e older deed = model.set_by v e (model.made_out (size older) deed)

abbrev pub checkout_effect : List ℕ → ℕ → Deeds Checkout
checkout_effect v e older deed = map_effect stored_checkout (taken_effect v e older deed)

-- a text is saved
abbrev pub saved_effect : List ℕ → ℕ → Deeds ℕ
saved_effect v e older (deeds.Save w f text) = only_if (bytes_eq w v && (f == e)) (Sets (size older))
saved_effect v e older deed = Keeps

-- the row that made a checkout
abbrev pub row_of_stored : Checkout → ℕ
row_of_stored checkout = checkout.row

-- a view has a config spec by the row that begins it or that sets the spec
abbrev pub spec_row_effect : List ℕ → Deeds ℕ
spec_row_effect v older deed = or_else (life_effect v older deed) (set_effect v older deed)

-- a checkout by a view as the model has it
abbrev pub plain_taken : Taken → model.TakenOut
plain_taken taken = record { view = taken.view.now; element = taken.element; checkout = plain_checkout taken.checkout }

-- whether a checkout stands in a base
abbrev pub stands : Base → model.TakenOut → Bool
stands b taken = is_number taken.checkout.row (option_map row_of_checkout (model.out b taken.view taken.element))

-- a view has something out that stands in a base
abbrev pub standing_of : Base → List ℕ → Option model.TakenOut → Effect ℕ
standing_of b v None = Keeps
standing_of b v (Some taken) = only_if (bytes_eq taken.view v && stands b taken) (Sets taken.checkout.row)

abbrev pub standing_effect : Base → List ℕ → Deeds ℕ
standing_effect b v older deed = standing_of b v (model.made_out (size older) deed)

-- a branch is reserved
abbrev pub reserving_effect : ℕ → Deeds ℕ
reserving_effect branch older deed = only_if (is_number branch (reserved_branch older deed)) (Sets (size older))

-- a branch is made that leaves a version
abbrev pub leaving_effect : ℕ → Deeds ℕ
leaving_effect version older (deeds.Branch v e origin name out) = only_if (origin == version) (Sets (size older))
leaving_effect version older deed = Keeps

-- the element's branch of a name is made
abbrev pub branch_named_effect : ℕ → List ℕ → Deeds ℕ
branch_named_effect e name older (deeds.Branch v f origin own out) = only_if ((e == f) && bytes_eq name own) (Sets (size older))
branch_named_effect e name older deed = Keeps
