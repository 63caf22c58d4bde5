-- How the first segment and the first name that are left go together.
use Rattle.std.specs.Prelude.{◌≡◌, ℕ, true, false, List, [], ◌∷◌}
use Rattle.std.specs.Option.{option_copied}
use Rattle.cc_names.specs.declared.selection.Segment.{Segment}
use Rattle.base_model.specs.ConfigSpecs.Patterns.{is_dots, fits_name, matches_names}
use Rattle.spec_text.specs.Parts.{parts_left}
use Rattle.spec_text.specs.declared.matching.Step.{Step}
use Rattle.spec_text.specs.declared.matching.Step.TheVariants.{AnyNames, OneName, End, Mismatch}

-- the first segment is `...`, before these
pub record IsDotsBefore (segments behind : List Segment) : Type 0 where
  pub segment : Segment
  pub prefix : segments ≡ segment ∷ behind
  pub wild : is_dots segment ≡ true

-- the first segment is another one and matches the first name; these are after them
pub record IsNameBefore (segments : List Segment) (names : List (List ℕ)) (behind : List Segment) (rest : List (List ℕ)) : Type 0
  where
    pub segment : Segment
    pub name : List ℕ
    pub prefix : segments ≡ segment ∷ behind
    pub first : names ≡ name ∷ rest
    pub plain : is_dots segment ≡ false
    pub fit : fits_name segment name ≡ true

-- what each step says of the segments and the names
abbrev pub IsSegmentStep : List Segment → List (List ℕ) → Step → Type 0
IsSegmentStep segments names (AnyNames behind) = IsDotsBefore segments behind.now
IsSegmentStep segments names (OneName behind rest) = IsNameBefore segments names behind.now (parts_left 47 (option_copied rest))
IsSegmentStep segments names End = (segments ≡ []) × (names ≡ [])
IsSegmentStep segments names Mismatch = matches_names segments names ≡ false
