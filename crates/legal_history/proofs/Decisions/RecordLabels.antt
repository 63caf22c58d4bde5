-- A record is labelled as listed.
use Rattle.std.proofs.Common.{◌≡◌, refl, ap, sym, subst, ◌∙◌, ℕ, zero, suc, ◌+◌, ◌<◌, ◌⊎◌, inl, inr, Bool, true, false, cond}
use Rattle.std.proofs.Common.{◌&&◌, ◌==◌, Option, Some, None, Ok, List, [], ◌∷◌, map, length, Contains, get_or, arith, nat_lt}
use Rattle.std.proofs.lemmas.Bool.Decides.{nat_tests}
use Rattle.std.specs.Bool.{⊤}
use Rattle.std.specs.Cmp.{unsigned_tied, nat_cmp_is}
use Rattle.std.specs.FinMap.Entries.{find, is_sorted, below_all}
use Rattle.std.specs.List.Sorted.{IsStrictlyIncreasing}
use Rattle.std.specs.Option.{option_or}
use Rattle.std.specs.Ordering.{nat_cmp, is_lt}
use Rattle.std.specs.Prelude.{◌↔◌, is_some, is_none, option_map}
use Rattle.std.specs.declared.cmp.Ordering.TheVariants.{Equal, Greater}
use Rattle.cc_names.specs.References.{held_at}
use Rattle.cc_names.specs.Versions.{version_id}
use Rattle.cc_names.specs.declared.commands.Command.TheVariants as commands
use Rattle.cc_names.specs.declared.commands.Change.TheVariants as changes
use Rattle.cc_names.specs.declared.refusals.Refusal.{Refusal}
use Rattle.cc_names.specs.declared.refusals.Refusal.TheVariants as refusals
use Rattle.cc_names.specs.declared.rows.Deed.TheVariants as deeds
use Rattle.cc_names.specs.declared.rows.Placed.{Placed}
use Rattle.cc_names.proofs.Common.{same_number, and_first, and_second}
use Rattle.base_model.specs.Rows.{Base, only_where}
use Rattle.base_model.specs.Changes.{objects_held, targets_of, tree}
use Rattle.base_model.specs.Closures.{Input, Inputs, Listing, closure, is_path_among, listing, recorded_version, as_placed}
use Rattle.base_model.specs.Closures.{placed_by}
use Rattle.legal_history.specs.Commands.Decisions.{Decision, Scene, Makes}
use Rattle.legal_history.specs.Commands.LabelLines.{labels_or_nothing, mklabel_config_of, mklabel_config_tests, outsider_among}
use Rattle.legal_history.specs.Commands.Found.{for_object}
use Rattle.legal_history.specs.Commands.Lines.{decision}
use Rattle.legal_history.specs.Commands.Tests.{needs_view}
use Rattle.legal_history.proofs.Decisions.Handed.{IfDecided, past_is, object_is, row_is, answer_is}
use Rattle.legal_history.proofs.Decisions.Passed.{AllPass}
use Rattle.base_model.specs.Listed.{IsListed}
use Rattle.base_model.proofs.HeldObjects.{true_by}
use Rattle.base_model.proofs.Listings.{SaysOf, one_of, at_head, behind, none_of, listing_says, in_order}

-- a number that comes before another is below it
lower : (x y : ℕ) → is_lt (nat_cmp x y) ≡ true → x < y
lower x y h = by (nat_lt x y) (nat_lt y x) refl refl
  where
    by : (t u : Bool) → nat_lt x y ≡ t → nat_lt y x ≡ u → x < y
    by true u e f = grind (arith, nat_tests)
    by false true e f = let more : y < x = grind (arith, nat_tests) in let no : is_lt Greater ≡ true =
        ap is_lt (nat_cmp_is x y Greater more) ∙ h in absurd (cc)
    by false false e f = let same : x ≡ y = grind (arith, nat_tests) in let no : is_lt Equal ≡ true =
        ap is_lt (nat_cmp_is x y Equal same) ∙ h in absurd (cc)

-- what a listing places is in ascending order of elements
ascending : (entries : Listing) → is_sorted nat_cmp entries ≡ true → IsStrictlyIncreasing
    (map (λ one. one.element) (map as_placed entries))
ascending [] h = λ k low. absurd (omega arith)
ascending (entry ∷ []) h = λ k low. absurd (omega arith)
ascending (entry ∷ next ∷ entries) h = λ k low. by k low (ascending (next ∷ entries) (and_second _ _ h))
  where
    by : (k : ℕ) → k + 1 < length (map (λ one. one.element) (map as_placed (entry ∷ next ∷ entries)))
        → IsStrictlyIncreasing (map (λ one. one.element) (map as_placed (next ∷ entries))) →
        get_or (map (λ one. one.element) (map as_placed (entry ∷ next ∷ entries))) k 0
        < get_or (map (λ one. one.element) (map as_placed (entry ∷ next ∷ entries))) (k + 1) 0
    by zero low rest = lower entry.0 next.0 (and_first _ _ (and_first _ _ h))
    by (suc k) low rest =
        subst (λ n. get_or (map (λ one. one.element) (map as_placed (next ∷ entries))) k 0
        < get_or (map (λ one. one.element) (map as_placed (entry ∷ next ∷ entries))) n 0) {x = suc (k + 1)} {y =
        suc k + 1} (omega arith)
        (rest k (omega arith))

-- the elements of entries that follow are higher
higher : (e : ℕ) (entries : Listing) (one : Placed) → below_all nat_cmp e entries ≡ true → Contains (map as_placed entries) one
    → e < one.element
higher e [] one h among = absurd (none_of one among)
higher e (entry ∷ entries) one h among = by (one_of (as_placed entry) one (map as_placed entries) among)
    (higher e entries one (and_second _ _ h))
  where
    by : (as_placed entry ≡ one) ⊎ Contains (map as_placed entries) one → (Contains (map as_placed entries) one → e < one.element)
        → e < one.element
    by (inl same) rest = subst (λ p. e < p.element) same (lower e entry.0 (and_first _ _ h))
    by (inr later) rest = rest later

-- what is placed is found at its element
found : (entries : Listing) (one : Placed) → is_sorted nat_cmp entries ≡ true → Contains (map as_placed entries) one
    → find nat_cmp one.element entries ≡ Some one.version
found [] one h among = absurd (none_of one among)
found (entry ∷ entries) one h among = by (one_of (as_placed entry) one (map as_placed entries) among)
    (found entries one (and_second _ _ h))
  where
    by : (as_placed entry ≡ one) ⊎ Contains (map as_placed entries) one
        → (Contains (map as_placed entries) one → find nat_cmp one.element entries ≡ Some one.version)
        → find nat_cmp one.element (entry ∷ entries) ≡ Some one.version
    by (inl same) rest =
        let element : entry.0 ≡ one.element = ap (λ (p : Placed). p.element) same in
        let here : (one.element == entry.0) ≡ true = grind (arith, nat_tests) in
        ap (λ t. cond t (Some entry.1) (find nat_cmp one.element entries)) (unsigned_tied one.element entry.0 ∙ here)
        ∙ ap (λ (p : Placed). Some p.version) same
    by (inr later) rest =
        let above = higher entry.0 entries one (and_first _ _ h) later in
        let apart : (one.element == entry.0) ≡ false = grind (arith, nat_tests) in
        ap (λ t. cond t (Some entry.1) (find nat_cmp one.element entries)) (unsigned_tied one.element entry.0 ∙ apart)
        ∙ rest later

-- and what is found is placed
placed : (entries : Listing) (one : Placed) → find nat_cmp one.element entries ≡ Some one.version
    → Contains (map as_placed entries) one
placed [] one is = absurd (cc)
placed (entry ∷ entries) one is = by (one.element == entry.0) refl (ap
    (λ t. cond t (Some entry.1) (find nat_cmp one.element entries)) (sym (unsigned_tied one.element entry.0))
    ∙ is) (placed entries one)
  where
    by : (t : Bool) → (one.element == entry.0) ≡ t → cond t (Some entry.1) (find nat_cmp one.element entries) ≡ Some one.version
        → (find nat_cmp one.element entries ≡ Some one.version → Contains (map as_placed entries) one)
        → Contains (map as_placed (entry ∷ entries)) one
    by true here is rest =
        let element : one.element ≡ entry.0 = same_number one.element entry.0 here in
        let version : entry.1 ≡ one.version = cc in
        let same : as_placed entry ≡ one = λ i. record { element = sym element i; version = version i } in
        at_head (as_placed entry) one (map as_placed entries) same
    by false here is rest = behind (as_placed entry) one (map as_placed entries) (rest is)

-- what the listing of an object says of an element, from both sides
listed_is : (b : Base) (inputs : Inputs) (e version : ℕ) (o : Option ℕ) → SaysOf b inputs e o → o ≡ Some version
    → IsListed b inputs e version
listed_is b inputs e version None h is = absurd (cc)
listed_is b inputs e version (Some other) h is = let same : other ≡ version = cc in subst (IsListed b inputs e) same h

is_listed : (b : Base) (inputs : Inputs) (e version : ℕ) (o : Option ℕ) → SaysOf b inputs e o → IsListed b inputs e version
    → o ≡ Some version
is_listed b inputs e version None h is = absurd (h version is.rests)
is_listed b inputs e version (Some other) h is = let up = is.greatest other h.rests in let down = h.greatest version is.rests in
    let same : other ≡ version = omega arith in ap Some same

-- no input that is there is an outsider
all_versions : (b : Base) (inputs : Inputs) (input : Input × ℕ) → outsider_among b inputs ≡ None → Contains inputs input
    → 0 < input.1 → is_some (version_id (tree b) input.1) ≡ true
all_versions b [] input none among there = absurd (none_of input among)
all_versions b (first ∷ inputs) input none among there = by (nat_lt 0 first.1) (version_id (tree b) first.1) refl refl none
    (one_of first input inputs among) (λ none later. all_versions b inputs input none later there)
  where
    by : (t : Bool) (o : Option _) → nat_lt 0 first.1 ≡ t → version_id (tree b) first.1 ≡ o
        → option_or (only_where (t && is_none o) (Some first.0.0)) (outsider_among b inputs) ≡ None → (first ≡ input)
        ⊎ Contains inputs input →
        (outsider_among b inputs ≡ None → Contains inputs input → is_some (version_id (tree b) input.1) ≡ true)
        → is_some (version_id (tree b) input.1) ≡ true
    by t (Some at) above is none (inl same) rest = ap (λ (s : Input × ℕ). is_some (version_id (tree b) s.1)) (sym same)
        ∙ ap is_some is
    by true None above is none (inl same) rest = absurd (cc)
    by false None above is none (inl same) rest = let row : first.1 ≡ input.1 = ap (λ (s : Input × ℕ). s.1) same in
        absurd (grind (arith, nat_tests))
    by true (Some at) above is none (inr later) rest = rest none later
    by true None above is none (inr later) rest = absurd (cc)
    by false (Some at) above is none (inr later) rest = rest none later
    by false None above is none (inr later) rest = rest none later

no_refusal : {A : Type 0} (f : A → Refusal) (o : Option A) → option_map f o ≡ None → o ≡ None
no_refusal f None h = refl
no_refusal f (Some a) h = absurd (cc)

-- the labels of a row that was decided: of the object that the view holds, with what was tested
record Labelled (s : Scene) (v path label : List ℕ) (replace : Bool) (given : List Placed) : Type 0 where
  id : ℕ
  is_held : held_at (objects_held s.base) v path ≡ Some id
  pass : AllPass (mklabel_config_tests s replace label id)
  are : given ≡ placed_by s.base id

IsLabelled : (s : Scene) (v path label : List ℕ) (replace : Bool) → Decision → Type 0
IsLabelled s v path label replace (Makes (deeds.Labels name given)) = Labelled s v path label replace given
IsLabelled s v path label replace d = ⊤

labelled_by : (s : Scene) (v path label : List ℕ) (replace : Bool) (id : ℕ) (places : List Placed)
    → held_at (objects_held s.base) v path ≡ Some id → places ≡ placed_by s.base id →
    IfDecided (IsLabelled s v path label replace) (labels_or_nothing s (mklabel_config_tests s replace label id) label places)
unfolding IsLabelled
labelled_by s v path label replace id [] is are = answer_is (IsLabelled s v path label replace)
    (mklabel_config_tests s replace label id) [] tt
labelled_by s v path label replace id (one ∷ places) is are =
    row_is (IsLabelled s v path label replace) s (mklabel_config_tests s replace label id) (deeds.Labels label (one ∷ places))
    (λ m. record { id = id; is_held = is; pass = m.pass; are = are })

labelled : (s : Scene) (v path label name : List ℕ) (replace : Bool) (given : List Placed)
    → decision s (commands.Change (changes.MklabelConfig v replace path label)) ≡ Ok (Makes (deeds.Labels name given)) →
    Labelled s v path label replace given
unfolding IsLabelled
labelled s v path label name replace given h = by (Makes (deeds.Labels name given)) h
  where
    by : IfDecided (IsLabelled s v path label replace) (decision s (commands.Change (changes.MklabelConfig v replace path label)))
    by =
        past_is (IsLabelled s v path label replace) (needs_view s.base v ∷ [])
        (for_object path (held_at (objects_held s.base) v path) (mklabel_config_of s replace label))
        (λ before. object_is (IsLabelled s v path label replace) path (held_at (objects_held s.base) v path)
        (mklabel_config_of s replace label)
        (λ id is. labelled_by s v path label replace id (placed_by s.base id) is refl))

-- the object is the one that is held
same_object : (s : Scene) (v path label : List ℕ) (replace : Bool) (given : List Placed)
    (l : Labelled s v path label replace given) (id : ℕ) → held_at (objects_held s.base) v path ≡ Some id → l.id ≡ id
same_object s v path label replace given l id is = let held_is = l.is_held in cc

pub labels_in_order : (s : Scene) (v path label name : List ℕ) (replace : Bool) (given : List Placed)
    → decision s (commands.Change (changes.MklabelConfig v replace path label)) ≡ Ok (Makes (deeds.Labels name given))
    → IsStrictlyIncreasing (map (λ one. one.element) given)
labels_in_order s v path label name replace given h =
    let l = labelled s v path label name replace given h in
    let sorted = true_by (is_sorted nat_cmp (listing s.base l.id)) (in_order s.base (closure s.base l.id)) in
    subst (λ places. IsStrictlyIncreasing (map (λ one. one.element) places)) (sym l.are) (ascending (listing s.base l.id) sorted)

-- what is labelled is what is found
labels_found : (s : Scene) (v path label name : List ℕ) (replace : Bool) (given : List Placed) (id : ℕ) (one : Placed)
    → decision s (commands.Change (changes.MklabelConfig v replace path label)) ≡ Ok (Makes (deeds.Labels name given))
    → held_at (objects_held s.base) v path ≡ Some id →
    Contains given one ↔ (find nat_cmp one.element (listing s.base id) ≡ Some one.version)
labels_found s v path label name replace given id one h is =
    let sorted = true_by (is_sorted nat_cmp (listing s.base id)) (in_order s.base (closure s.base id)) in
    let l = labelled s v path label name replace given h in
    let are : given ≡ placed_by s.base id = l.are ∙ ap (placed_by s.base) (same_object s v path label replace given l id is) in (
      λ among. found (listing s.base id) one sorted (subst (λ places. Contains places one) are among),
      λ at. subst (λ places. Contains places one) (sym are) (placed (listing s.base id) one at),
    )

pub labels_exactly : (s : Scene) (v path label name : List ℕ) (replace : Bool) (given : List Placed) (id : ℕ) (one : Placed)
    → decision s (commands.Change (changes.MklabelConfig v replace path label)) ≡ Ok (Makes (deeds.Labels name given))
    → held_at (objects_held s.base) v path ≡ Some id →
    Contains given one ↔ IsListed s.base (closure s.base id) one.element one.version
labels_exactly s v path label name replace given id one h is =
    let both = labels_found s v path label name replace given id one h is in
    let says = listing_says s.base (closure s.base id) one.element in (
      λ among. listed_is s.base (closure s.base id) one.element one.version _ says (both.0 among),
      λ greatest. both.1 (is_listed s.base (closure s.base id) one.element one.version _ says greatest),
    )

pub labels_selected : (s : Scene) (v path label name : List ℕ) (replace : Bool) (given : List Placed) (id : ℕ) (target : List ℕ)
    (one : Placed) → decision s (commands.Change (changes.MklabelConfig v replace path label))
    ≡ Ok (Makes (deeds.Labels name given)) → held_at (objects_held s.base) v path ≡ Some id →
    is_path_among target (targets_of s.base id) ≡ true → Contains given one
    ↔ (recorded_version s.base id target one.element ≡ Some one.version)
labels_selected s v path label name replace given id target one h is of_object =
    let both = labels_found s v path label name replace given id one h is in
    let there : recorded_version s.base id target one.element ≡ find nat_cmp one.element (listing s.base id) =
    ap (λ t. only_where t (find nat_cmp one.element (listing s.base id))) of_object in (
      λ among. there ∙ both.0 among,
      λ at. both.1 (sym there ∙ at),
    )

pub labels_versions : (s : Scene) (v path label name : List ℕ) (replace : Bool) (given : List Placed) (id : ℕ) (input : Input × ℕ)
    → decision s (commands.Change (changes.MklabelConfig v replace path label)) ≡ Ok (Makes (deeds.Labels name given))
    → held_at (objects_held s.base) v path ≡ Some id →
    Contains (closure s.base id) input → 0 < input.1 → is_some (version_id (tree s.base) input.1) ≡ true
labels_versions s v path label name replace given id input h is among there =
    let l = labelled s v path label name replace given h in
    let same = same_object s v path label replace given l id is in
    all_versions s.base (closure s.base id) input
    (subst (λ n. outsider_among s.base (closure s.base n) ≡ None) same
    (no_refusal refusals.NotVersion (outsider_among s.base (closure s.base l.id)) l.pass.1.0)) among there
