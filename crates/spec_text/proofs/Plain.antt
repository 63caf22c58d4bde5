-- Patterns without wild cards.
use Rattle.std.proofs.Common.{◌≡◌, ℕ, Bool, true, false, not, ◌==◌, ◌&&◌, ◌||◌, inl, inr, List, [], ◌∷◌, ◌++◌, map, refl, sym}
use Rattle.std.proofs.Common.{ap, ◌∙◌, eq-eqb}
use Rattle.std.specs.List.{list_all, list_any}
use Rattle.std.proofs.lemmas.Bool.{eqb-true, and_parts, and_from, or_cases, or_left, or_right}
use Rattle.cc_names.specs.declared.selection.Segment.TheVariants.{OneName}
use Rattle.cc_names.proofs.Common.{not_true}
use Rattle.base_model.specs.ConfigSpecs.WildCards.{list_suffixes, has_none}
use Rattle.spec_text.specs.Laws.{is_plain, MatchesOwnPath, MatchesEndsOfPaths}
use Rattle.base_model.specs.ConfigSpecs.Patterns.{is_star, is_question_mark, fits_byte, matches_name, matches_names, is_lone_star}

same_byte : (question same : Bool) → question ≡ false → (question || same) ≡ true → same ≡ true
same_byte true same e h = cc
same_byte false same e h = h

name_to : (name other : List ℕ) → is_plain name ≡ true → matches_name name other ≡ true → other ≡ name
name_to [] [] plain h = refl
name_to [] (b ∷ bs) plain h = cc
name_to (c ∷ cs) [] plain h =
    let here = and_parts (not (is_star c) && not (is_question_mark c)) (is_plain cs) plain in
    let star = not_true (is_star c) (and_parts (not (is_star c)) (not (is_question_mark c)) here.0).0 in
    let bad = rw star at h in cc
name_to (c ∷ cs) (b ∷ bs) plain h =
    let here = and_parts (not (is_star c) && not (is_question_mark c)) (is_plain cs) plain in
    let tests = and_parts (not (is_star c)) (not (is_question_mark c)) here.0 in
    let star = not_true (is_star c) tests.0 in
    let question = not_true (is_question_mark c) tests.1 in
    let fit = rw star at h in
    let parts = and_parts (fits_byte c b) (matches_name cs bs) fit in
    let same = eqb-true c b (same_byte (is_question_mark c) (c == b) question parts.0) in
    let rest = name_to cs bs here.1 parts.1 in
    cc

name_from : (name : List ℕ) → is_plain name ≡ true → matches_name name name ≡ true
name_from [] plain = refl
name_from (c ∷ cs) plain =
    let here = and_parts (not (is_star c) && not (is_question_mark c)) (is_plain cs) plain in
    let star = not_true (is_star c) (and_parts (not (is_star c)) (not (is_question_mark c)) here.0).0 in
    rw star (and_from (fits_byte c c) (matches_name cs cs) (or_right (is_question_mark c) (c == c) (eq-eqb c c refl))
    (name_from cs here.1))

names_to : (names path : List (List ℕ)) → list_all is_plain names ≡ true → matches_names (map OneName names) path ≡ true
    → path ≡ names
names_to [] [] plain h = refl
names_to [] (name ∷ path) plain h = cc
names_to (name ∷ names) [] plain h = cc
names_to (name ∷ names) (other ∷ path) plain h =
    let here = and_parts (is_plain name) (list_all is_plain names) plain in
    let parts = and_parts (matches_name name other) (matches_names (map OneName names) path) h in
    let first = name_to name other here.0 parts.0 in
    let rest = names_to names path here.1 parts.1 in
    cc

names_from : (names : List (List ℕ)) → list_all is_plain names ≡ true → matches_names (map OneName names) names ≡ true
names_from [] plain = refl
names_from (name ∷ names) plain =
    let here = and_parts (is_plain name) (list_all is_plain names) plain in
    and_from (matches_name name name) (matches_names (map OneName names) names) (name_from name here.0) (names_from names here.1)

-- an end of a list passes, and the list ends in it
end_to : {A : Type 0} (test : List A → Bool) (xs : List A) → list_any test (list_suffixes xs) ≡ true → (above : List A)
    × (end : List A) × (xs ≡ above ++ end) × (test end ≡ true)
end_to test [] h = ([], [], refl, sym (or_nothing (test [])) ∙ h)
  where
    or_nothing : (b : Bool) → (b || false) ≡ b
    or_nothing true = refl
    or_nothing false = refl
end_to {A} test (x ∷ xs) h =
    elim (or_cases (test (x ∷ xs)) (list_any test (list_suffixes xs)) h) [
      | inl here ↦ ([], x ∷ xs, refl, here)
      | inr there ↦ (let found = end_to test xs there in (x ∷ found.0, found.1, ap (λ (ys : List A). x ∷ ys) found.2, found.3))
    ]

end_from : {A : Type 0} (test : List A → Bool) (above end : List A) → test end ≡ true
    → list_any test (list_suffixes (above ++ end)) ≡ true
end_from test [] [] h = or_left (test []) false h
end_from test [] (x ∷ xs) h = or_left (test (x ∷ xs)) (list_any test (list_suffixes xs)) h
end_from test (y ∷ above) end h = or_right (test (y ∷ (above ++ end))) (list_any test (list_suffixes (above ++ end)))
    (end_from test above end h)

pub own_path : MatchesOwnPath
own_path names path plain = (
  λ h. elim (or_cases (matches_names (map OneName names) path) false h) [
    | inl here ↦ names_to names path plain here
    | inr there ↦
        cc
  ],
  λ e. rw e (or_left (matches_names (map OneName names) names) false (names_from names plain)),
)

not_lone_star : (names : List (List ℕ)) → list_all is_plain names ≡ true → is_lone_star (map OneName names) ≡ false
not_lone_star [] plain = refl
not_lone_star ([] ∷ []) plain = refl
not_lone_star ((b ∷ []) ∷ []) plain =
    let here = and_parts (is_plain (b ∷ [])) true plain in
    let byte = and_parts (not (is_star b) && not (is_question_mark b)) true here.0 in
    not_true (is_star b) (and_parts (not (is_star b)) (not (is_question_mark b)) byte.0).0
not_lone_star ((b ∷ c ∷ bs) ∷ []) plain = refl
not_lone_star ([] ∷ name ∷ names) plain = refl
not_lone_star ((b ∷ []) ∷ name ∷ names) plain = refl
not_lone_star ((b ∷ c ∷ bs) ∷ name ∷ names) plain = refl

pub ends_of_paths : MatchesEndsOfPaths
ends_of_paths names path plain = (
  λ h. elim (or_cases (list_any (matches_names (map OneName names)) (list_suffixes path))
      (is_lone_star (map OneName names) && has_none path) h) [
        | inl here ↦ (let found = end_to (matches_names (map OneName names)) path here in
            let same = names_to names found.1 plain found.3 in
            (found.0, found.2 ∙ ap (λ end. found.0 ++ end) same))
        | inr there ↦ (let lone = not_lone_star names plain in let bad = rw lone at there in cc)
      ],
  λ e. rw e.1 (or_left (list_any (matches_names (map OneName names)) (list_suffixes (e.0 ++ names)))
      (is_lone_star (map OneName names) && has_none (e.0 ++ names))
      (end_from (matches_names (map OneName names)) e.0 names (names_from names plain))),
)
