-- Which paths a pattern of a config spec matches, and which bytes spell a pattern.
use Rattle.std.specs.Prelude.{ℕ, Bool, true, false, not, ◌&&◌, ◌||◌, ◌==◌, Result, Ok, Err, List, [], ◌∷◌, map, if◌then◌else◌}
use Rattle.std.specs.List.{list_any, list_all, slice_split}
use Rattle.cc_names.specs.Names.{is_name_byte, is_dot}
use Rattle.cc_names.specs.Paths.{is_slash}
use Rattle.cc_names.specs.declared.refusals.SpecCause.{SpecCause}
use Rattle.cc_names.specs.declared.refusals.SpecCause.TheVariants.{BadPattern}
use Rattle.cc_names.specs.declared.selection.Pattern.{Pattern}
use Rattle.cc_names.specs.declared.selection.Segment.{Segment}
use Rattle.cc_names.specs.declared.selection.Segment.TheVariants.{AnyNames, OneName}
use Rattle.base_model.specs.ConfigSpecs.WildCards.{list_suffixes, has_none, cards_match}

-- whether a byte is `*`
abbrev pub is_star : ℕ → Bool
is_star b = b == 42

-- whether a byte is `?`
abbrev pub is_question_mark : ℕ → Bool
is_question_mark b = b == 63

-- whether a byte of a segment, other than `*`, stands for this byte of a name
abbrev pub fits_byte : ℕ → ℕ → Bool
fits_byte c b = is_question_mark c || (c == b)

-- whether the bytes of a segment match a name: `*` stands for any bytes of it, `?` for one
abbrev pub matches_name : List ℕ → List ℕ → Bool
matches_name = cards_match is_star fits_byte

-- whether a segment is `...`
abbrev pub is_dots : Segment → Bool
is_dots AnyNames = true
is_dots (OneName bytes) = false

-- whether a segment matches one name
abbrev pub fits_name : Segment → List ℕ → Bool
fits_name AnyNames name = false
fits_name (OneName bytes) name = matches_name bytes name

-- whether segments match names, all of them: `...` stands for any names, each other segment for one
abbrev pub matches_names : List Segment → List (List ℕ) → Bool
matches_names = cards_match is_dots fits_name

-- whether the segments are the one segment `*`
abbrev pub is_lone_star : List Segment → Bool
is_lone_star (OneName (b ∷ []) ∷ []) = is_star b
is_lone_star _ = false

-- whether segments match names: all of them where they are anchored, else those from some name on or after the last
abbrev pub matches_where : Bool → List Segment → List (List ℕ) → Bool
matches_where true segments names = matches_names segments names
matches_where false segments names = list_any (matches_names segments) (list_suffixes names)

-- Whether a pattern matches the path of these names. The pattern `*` matches the root too.
abbrev pub matches : Pattern → List (List ℕ) → Bool
matches pattern names =
    matches_where pattern.anchored pattern.segments names
    || (not pattern.anchored && is_lone_star pattern.segments && has_none names)

-- a byte of a segment: one of a name, `*` or `?`
abbrev pub is_segment_byte : ℕ → Bool
is_segment_byte b = is_name_byte b || is_star b || is_question_mark b

-- bytes that are three dots
abbrev pub are_three_dots : List ℕ → Bool
are_three_dots (a ∷ b ∷ c ∷ []) = is_dot a && is_dot b && is_dot c
are_three_dots _ = false

-- whether bytes spell a segment
abbrev pub is_segment : List ℕ → Bool
is_segment bytes = not (has_none bytes) && list_all is_segment_byte bytes

-- the segment that bytes spell
abbrev pub segment_of : List ℕ → Segment
segment_of bytes = if are_three_dots bytes then AnyNames else OneName bytes

-- the pattern of segments that are joined by `/`
abbrev pub pattern_of_segments : Bool → List (List ℕ) → Result Pattern SpecCause
pattern_of_segments anchored segments =
    if list_all is_segment segments then Ok (record { anchored = anchored; segments = map segment_of segments })
    else Err BadPattern

-- a word read as a pattern: segments joined by `/`, with a `/` before them where it is anchored
abbrev pub pattern_of : List ℕ → Result Pattern SpecCause
pattern_of [] = Err BadPattern
pattern_of (b ∷ bs) =
    if is_slash b then pattern_of_segments true (slice_split is_slash bs)
    else pattern_of_segments false (slice_split is_slash (b ∷ bs))
