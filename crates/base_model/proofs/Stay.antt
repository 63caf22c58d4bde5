-- What a base says of its first rows never changes when rows are added.
use Rattle.std.proofs.Common.{◌≡◌, refl, ◌∙◌, ℕ, ◌<◌, ◌≤◌, List, [], ◌∷◌, ◌++◌, arith}
use Rattle.std.proofs.lemmas.Bool.Decides.{nat_tests}
use Rattle.cc_names.specs.Formed.{Plain}
use Rattle.base_model.specs.Rows.{Base, size, first_rows, row_at}
use Rattle.base_model.specs.Catalogs.{catalog_of}
use Rattle.base_model.specs.Texts.{text}

pub first_rows_stay : (row : Plain) (b : Base) (t : ℕ) → t ≤ size b → first_rows t (row ∷ b) ≡ first_rows t b
first_rows_stay row b t h = grind (arith, nat_tests)

-- all rows are among as many rows or more
pub all_rows : (b : Base) (t : ℕ) → size b ≤ t → first_rows t b ≡ b
all_rows [] t h = refl
all_rows (row ∷ older) t h = grind (arith, nat_tests)

pub row_stays : (row : Plain) (b : Base) (n : ℕ) → n < size b → row_at (row ∷ b) n ≡ row_at b n
row_stays row b n h = grind (arith, nat_tests)

pub text_stays : (row : Plain) (b : Base) (r : ℕ) (path : List ℕ) → r < size b → text (row ∷ b) r path ≡ text b r path
text_stays row b r path h = grind (arith, nat_tests)

pub catalog_stays : (row : Plain) (b : Base) (r : ℕ) → r < size b → catalog_of (row ∷ b) r ≡ catalog_of b r
catalog_stays row b r h = grind (arith, nat_tests)

pub more_below : (more b : Base) (n : ℕ) → n < size b → n < size (more ++ b)
more_below [] b n h = h
more_below (row ∷ more) b n h = let below = more_below more b n h in omega arith

more_within : (more b : Base) (t : ℕ) → t ≤ size b → t ≤ size (more ++ b)
more_within [] b t h = h
more_within (row ∷ more) b t h = let within = more_within more b t h in omega arith

pub first_rows_stay_all : (more b : Base) (t : ℕ) → t ≤ size b → first_rows t (more ++ b) ≡ first_rows t b
first_rows_stay_all [] b t h = refl
first_rows_stay_all (row ∷ more) b t h = first_rows_stay row (more ++ b) t (more_within more b t h)
    ∙ first_rows_stay_all more b t h

pub row_stays_all : (more b : Base) (n : ℕ) → n < size b → row_at (more ++ b) n ≡ row_at b n
row_stays_all [] b n h = refl
row_stays_all (row ∷ more) b n h = row_stays row (more ++ b) n (more_below more b n h) ∙ row_stays_all more b n h

pub text_stays_all : (more b : Base) (r : ℕ) (path : List ℕ) → r < size b → text (more ++ b) r path ≡ text b r path
text_stays_all [] b r path h = refl
text_stays_all (row ∷ more) b r path h = text_stays row (more ++ b) r path (more_below more b r h)
    ∙ text_stays_all more b r path h

pub catalog_stays_all : (more b : Base) (r : ℕ) → r < size b → catalog_of (more ++ b) r ≡ catalog_of b r
catalog_stays_all [] b r h = refl
catalog_stays_all (row ∷ more) b r h = catalog_stays row (more ++ b) r (more_below more b r h) ∙ catalog_stays_all more b r h
