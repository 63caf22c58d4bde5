-- All checkouts of a base, and the views that have a branch reserved.
use Rattle.std.specs.Prelude.{ℕ, Bool, not, ◌&&◌, Option, Some, None, List, [], ◌∷◌, find, option_map, option_and_then, bytes_eq}
use Rattle.std.specs.Option.{option_or}
use Rattle.cc_names.specs.Branches.{branch_of_version}
use Rattle.cc_names.specs.Versions.{is_number, latest, put_if}
use Rattle.base_model.specs.Rows.{Base, size, only_where}
use Rattle.base_model.specs.Changes.{tree}
use Rattle.base_model.specs.Views.{Checkout, TakenOut, made_out, out}

-- the row that made a checkout
abbrev pub row_of_checkout : Checkout → ℕ
row_of_checkout checkout = checkout.row

-- one more checkout, where a row made one that its view still has
abbrev pub with_standing : Base → Option TakenOut → List TakenOut → List TakenOut
with_standing b None older = older
with_standing b (Some taken) older =
    put_if (is_number taken.checkout.row (option_map row_of_checkout (out b taken.view taken.element))) taken older

-- the checkouts that some rows made and that stand in the base, newest first
abbrev pub standing_among : Base → Base → List TakenOut
standing_among b [] = []
standing_among b (row ∷ older) = with_standing b (made_out (size older) row.deed) (standing_among b older)

-- the checkouts that stand in the base, newest first
abbrev pub checkouts : Base → List TakenOut
checkouts b = standing_among b b

-- the view of a checkout
abbrev pub checkout_view : TakenOut → List ℕ
checkout_view taken = taken.view

-- the branch of a checkout: that of its origin
abbrev pub branch_of : Base → Checkout → Option ℕ
branch_of b checkout = branch_of_version (tree b) checkout.origin

-- whether a checkout reserves the branch
abbrev pub reserves : Base → ℕ → TakenOut → Bool
reserves b branch taken = taken.checkout.reserved && is_number branch (branch_of b taken.checkout)

-- the view that holds a reserved checkout on the branch
abbrev pub reserver : Base → ℕ → Option (List ℕ)
reserver b branch = option_map checkout_view (find (reserves b branch) (checkouts b))

-- whether a checkout is another view's and reserves the branch
abbrev pub is_others : Base → List ℕ → ℕ → TakenOut → Bool
is_others b v branch taken = not (bytes_eq taken.view v) && reserves b branch taken

-- the other view that holds a reserved checkout on the branch
abbrev pub other_reserver : Base → List ℕ → ℕ → Option (List ℕ)
other_reserver b v branch = option_map checkout_view (find (is_others b v branch) (checkouts b))

-- the oldest row of the view's checkouts in a list that has the newest first
abbrev pub oldest_of : List ℕ → List TakenOut → Option ℕ
oldest_of v [] = None
oldest_of v (taken ∷ older) = option_or (oldest_of v older) (only_where (bytes_eq taken.view v) (Some taken.checkout.row))

-- the row that made the view's oldest checkout
abbrev pub oldest_out : Base → List ℕ → Option ℕ
oldest_out b v = oldest_of v (checkouts b)

-- the latest version of the branch on which a version stands
abbrev pub latest_beside : Base → ℕ → Option ℕ
latest_beside b version = option_and_then (λ branch. latest (tree b) branch None) (branch_of_version (tree b) version)

-- whether a version is the latest of its branch
abbrev pub is_latest : Base → ℕ → Bool
is_latest b version = is_number version (latest_beside b version)
