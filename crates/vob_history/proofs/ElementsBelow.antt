-- The elements at a path and below it, path by path.
use Rattle.std.proofs.Common.{◌≡◌, refl, ap, ap₂, sym, subst, ◌∙◌, ℕ, zero, suc, Bool, true, false, cond, ◌&&◌, ◌||◌, Option}
use Rattle.std.proofs.Common.{Some, None, Ok, Err, List, [], ◌∷◌, ◌++◌, length, reverse, bytes_eq, arith}
use Rattle.std.specs.Prelude.{T, is_some, nat_le, nat_lt, if◌then◌else◌}
use Rattle.std.specs.BTreeMap.{is_at}
use Rattle.std.specs.Cmp.Lexicographic.{slice_cmp}
use Rattle.std.specs.FinMap.Entries.{below_all, find, find-put, is_sorted, is_sorted-put, same_entries}
use Rattle.std.specs.List.{AllByRecursion, list_any}
use Rattle.std.specs.List.Sorted.{IsStrictlySortedBy}
use Rattle.std.specs.Map.{keys_of, lookup}
use Rattle.std.specs.Ordering.{is_eq, is_lt, nat_cmp}
use Rattle.std.specs.declared.cmp.Ordering.TheVariants.{Less}
use Rattle.std.proofs.lemmas.Bool.Decides.{nat_tests}
use Rattle.std.proofs.lemmas.Cmp.{nat_list_cmp_total, nat_list_eq_equiv}
use Rattle.std.proofs.lemmas.List.{reverse-append, reverse-reverse}
use Rattle.std.proofs.lemmas.Map.Text.{is_eq-slice_cmp}
use Rattle.std.proofs.lemmas.Slice.Eq.{bytes_eq-Decides}
use Rattle.std.proofs.lemmas.Bool.{and_from, or_left, or_right}
use Rattle.cc_names.specs.Names.{IsName}
use Rattle.cc_names.specs.Paths.{IsPath, join_of, path_of_names, names_of}
use Rattle.cc_names.specs.declared.names.NameFault.TheVariants.{TooLong}
use Rattle.cc_names.specs.declared.selection.Seen.{Seen}
use Rattle.cc_names.specs.declared.selection.Seen.TheVariants.{Element, Nothing}
use Rattle.cc_names.proofs.Common.{and_false, same_bytes, test_both, texts_tied, and_first, and_second, same_test}
use Rattle.base_model.specs.Catalogs.{Catalog, element_named}
use Rattle.base_model.specs.Closures.{is_path_among}
use Rattle.base_model.specs.Rows.{Base, size}
use Rattle.base_model.specs.Seen as seeing
use Rattle.base_model.specs.Seen.{at, at_names, below, element_at, entries_of, private_or}
use Rattle.base_model.specs.Views.{private}
use Rattle.legal_history.specs.Queries.DirectoryTexts.{catalog_or_none, path_of_entry}
use Rattle.legal_history.specs.Queries.Merges.{Elements, elements_below, in_catalog, with_element}
use Rattle.vob_history.specs.ElementsBelow.{is_element, lies_below, lies_below_joined, seen_where}
use Rattle.view_lookup.proofs.NamesInPaths.{names_in_path}

-- ---- the table of the model

where_both : (s t : Bool) (b : Base) (v q : List ℕ) (before : Option Seen)
    → seen_where s b v q (seen_where t b v q before) ≡ seen_where (s || t) b v q before
where_both true t b v q before = refl
where_both false t b v q before = refl

find_element : (q path : List ℕ) (seen : Seen) (found : Elements) → find (slice_cmp nat_cmp) q (with_element path seen found)
    ≡ cond (is_element seen && bytes_eq q path) (Some seen) (find (slice_cmp nat_cmp) q found)
find_element q path (Element e picked) found =
    find-put (slice_cmp nat_cmp) nat_list_cmp_total q path (Element e picked) found
    ∙ ap (λ is. cond is (Some (Element e picked)) (find (slice_cmp nat_cmp) q found)) (is_eq-slice_cmp q path)
find_element q path seen found = refl

-- what stands at a path is what stands at the other, where they are one
at_same : (b : Base) (v path q : List ℕ) (t : Bool) → bytes_eq q path ≡ t → (before : Option Seen)
    → cond t (Some (at b v path)) before ≡ seen_where t b v q before
at_same b v path q true e before = ap (λ p. Some (at b v p)) (sym (same_bytes q path e))
at_same b v path q false e before = refl

element_same : (b : Base) (v path q : List ℕ) (s t : Bool) → bytes_eq q path ≡ t → (before : Option Seen)
    → cond (s && t) (Some (at b v path)) before ≡ seen_where (s && t) b v q before
element_same b v path q true t e before = at_same b v path q t e before
element_same b v path q false t e before = refl

module _ (b : Base) (v q : List ℕ) where
  find_in_catalog : (under : List ℕ → Elements → Elements) (lies : List ℕ → Bool)
      → ((path : List ℕ) (found : Elements) → find (slice_cmp nat_cmp) q (under path found)
      ≡ seen_where (lies path) b v q (find (slice_cmp nat_cmp) q found)) →
      (directory : List ℕ) (catalog : Catalog) (found : Elements) →
      find (slice_cmp nat_cmp) q (in_catalog under directory catalog found)
      ≡ seen_where (list_any (λ entry. lies (path_of_entry directory entry.0)) catalog) b v q
      (find (slice_cmp nat_cmp) q found)
  find_in_catalog under lies h directory [] found = refl
  find_in_catalog under lies h directory (entry ∷ catalog) found =
      h (path_of_entry directory entry.0) (in_catalog under directory catalog found)
      ∙ ap (seen_where (lies (path_of_entry directory entry.0)) b v q) (find_in_catalog under lies h directory catalog found)
      ∙ where_both (lies (path_of_entry directory entry.0)) (list_any (λ entry. lies (path_of_entry directory entry.0)) catalog) b
      v q (find (slice_cmp nat_cmp) q found)

  find_below : (depth : ℕ) (path : List ℕ) (found : Elements) → find (slice_cmp nat_cmp) q (elements_below depth b v path found)
      ≡ seen_where (lies_below depth b v path q) b v q (find (slice_cmp nat_cmp) q found)
  find_below zero path found = refl
  find_below (suc depth) path found =
      let catalog = catalog_or_none (entries_of b v (at b v path)) in
      let rest = in_catalog (elements_below depth b v) path catalog found in
      let here = is_element (at b v path) && bytes_eq q path in
      let deeper = list_any (λ entry. lies_below depth b v (path_of_entry path entry.0) q) catalog in
      find_element q path (at b v path) rest
      ∙ element_same b v path q (is_element (at b v path)) (bytes_eq q path) refl (find (slice_cmp nat_cmp) q rest)
      ∙ ap (seen_where here b v q) (find_in_catalog (elements_below depth b v) (λ under. lies_below depth b v under q)
      (find_below depth) path catalog found)
      ∙ where_both here deeper b v q (find (slice_cmp nat_cmp) q found)

sorted_element : (path : List ℕ) (seen : Seen) (found : Elements) → T (is_sorted (slice_cmp nat_cmp) found)
    → T (is_sorted (slice_cmp nat_cmp) (with_element path seen found))
sorted_element path (Element e picked) found h = is_sorted-put (slice_cmp nat_cmp) nat_list_cmp_total path (Element e picked)
    found h
sorted_element path seen found h = h

sorted_catalog : (under : List ℕ → Elements → Elements) → ((path : List ℕ) (found : Elements)
    → T (is_sorted (slice_cmp nat_cmp) found) → T (is_sorted (slice_cmp nat_cmp) (under path found))) →
    (directory : List ℕ) (catalog : Catalog) (found : Elements) → T (is_sorted (slice_cmp nat_cmp) found)
    → T (is_sorted (slice_cmp nat_cmp) (in_catalog under directory catalog found))
sorted_catalog under h directory [] found sorted = sorted
sorted_catalog under h directory (entry ∷ catalog) found sorted = h (path_of_entry directory entry.0)
    (in_catalog under directory catalog found) (sorted_catalog under h directory catalog found sorted)

sorted_below : (b : Base) (v : List ℕ) (depth : ℕ) (path : List ℕ) (found : Elements) → T (is_sorted (slice_cmp nat_cmp) found)
    → T (is_sorted (slice_cmp nat_cmp) (elements_below depth b v path found))
sorted_below b v zero path found h = h
sorted_below b v (suc depth) path found h =
    sorted_element path (at b v path) (in_catalog (elements_below depth b v) path (catalog_or_none (entries_of b v (at b v path)))
    found)
    (sorted_catalog (elements_below depth b v) (sorted_below b v depth) path (catalog_or_none (entries_of b v (at b v path)))
    found h)

-- ---- a map that has the same at each path

found_as : (q : List ℕ) (found : Elements) → find (slice_cmp nat_cmp) q found ≡ lookup (is_at (slice_cmp nat_cmp q)) found
found_as q [] = refl
found_as q (entry ∷ found) = ap (cond (is_eq (slice_cmp nat_cmp q entry.0)) (Some entry.1)) (found_as q found)

below_keys : (path : List ℕ) (found : Elements) → AllByRecursion (λ other. slice_cmp nat_cmp path other ≡ Less) (keys_of found)
    → T (below_all (slice_cmp nat_cmp) path found)
below_keys path [] h = tt
below_keys path (entry ∷ found) h = test_both (is_lt (slice_cmp nat_cmp path entry.0)) (below_all (slice_cmp nat_cmp) path found)
    (subst (λ o. T (is_lt o)) (sym h.0) tt) (below_keys path found h.1)

sorted_keys : (found : Elements) → IsStrictlySortedBy (slice_cmp nat_cmp) (keys_of found)
    → T (is_sorted (slice_cmp nat_cmp) found)
unfolding IsStrictlySortedBy
sorted_keys [] h = tt
sorted_keys (entry ∷ found) h = test_both (below_all (slice_cmp nat_cmp) entry.0 found) (is_sorted (slice_cmp nat_cmp) found)
    (below_keys entry.0 found h.0) (sorted_keys found h.1)

pub same_elements : (b : Base) (v path : List ℕ) (found : Elements) → IsStrictlySortedBy (slice_cmp nat_cmp) (keys_of found) →
    ((q : List ℕ) → lookup (is_at (slice_cmp nat_cmp q)) found ≡ seen_where (lies_below (size b) b v path q) b v q None)
    → found ≡ elements_below (size b) b v path []
same_elements b v path found ordered has =
    same_entries (slice_cmp nat_cmp) nat_list_cmp_total texts_tied found (elements_below (size b) b v path [])
    (sorted_keys found ordered) (sorted_below b v (size b) path [] tt)
    (λ q. found_as q found ∙ has q ∙ sym (find_below b v q (size b) path []))

-- ---- the names of a directory

named_or : (name : List ℕ) (entry : List ℕ × ℕ) (catalog : Catalog) → is_some (element_named name (entry ∷ catalog))
    ≡ (bytes_eq name entry.0 || is_some (element_named name catalog))
named_or name entry catalog = ap (λ t. is_some (cond t (Some entry.1) (element_named name catalog)))
    (is_eq-slice_cmp name entry.0) ∙ by (bytes_eq name entry.0)
  where
    by : (t : Bool) → is_some (cond t (Some entry.1) (element_named name catalog)) ≡ (t || is_some (element_named name catalog))
    by true = refl
    by false = refl

module _ (test : List ℕ → Bool) where
  -- a name of a catalog that passes is that of an entry that does
  entry_passes : (name : List ℕ) (catalog : Catalog) → is_some (element_named name catalog) ≡ true → test name ≡ true
      → list_any (λ entry. test entry.0) catalog ≡ true
  entry_passes name [] is h = absurd (cc)
  entry_passes name (entry ∷ catalog) is h = by (bytes_eq name entry.0) refl (sym (named_or name entry catalog)
      ∙ is) (entry_passes name catalog)
    where
      by : (t : Bool) → bytes_eq name entry.0 ≡ t → (t || is_some (element_named name catalog)) ≡ true
          → (is_some (element_named name catalog) ≡ true → test name ≡ true → list_any (λ entry. test entry.0) catalog ≡ true) →
          (test entry.0 || list_any (λ entry. test entry.0) catalog) ≡ true
      by true same is rest = or_left (test entry.0) (list_any (λ entry. test entry.0) catalog)
          (ap test (sym (same_bytes name entry.0 same)) ∙ h)
      by false same is rest = or_right (test entry.0) (list_any (λ entry. test entry.0) catalog) (rest is h)

  some_name : (catalog : Catalog) (names : List (List ℕ)) → list_any (λ name. is_some (element_named name catalog) && test name)
      names ≡ true → list_any (λ entry. test entry.0) catalog ≡ true
  some_name catalog [] h = absurd (cc)
  some_name catalog (name ∷ names) h = by (is_some (element_named name catalog) && test name) refl h (some_name catalog names)
    where
      by : (t : Bool) → (is_some (element_named name catalog) && test name) ≡ t
          → (t || list_any (λ name. is_some (element_named name catalog) && test name) names) ≡ true →
          (list_any (λ name. is_some (element_named name catalog) && test name) names ≡ true
          → list_any (λ entry. test entry.0) catalog ≡ true) → list_any (λ entry. test entry.0) catalog ≡ true
      by true is h rest = entry_passes name catalog (and_first (is_some (element_named name catalog)) (test name) is)
          (and_second (is_some (element_named name catalog)) (test name) is)
      by false is h rest = rest h

  -- a name that passes, of a catalog
  record Passing (catalog : Catalog) : Type 0 where
    name : List ℕ
    there : is_some (element_named name catalog) ≡ true
    passes : test name ≡ true

  passing : (catalog : Catalog) → list_any (λ entry. test entry.0) catalog ≡ true → Passing catalog
  passing [] h = absurd (cc)
  passing (entry ∷ catalog) h = by (test entry.0) refl h (passing catalog)
    where
      by : (t : Bool) → test entry.0 ≡ t → (t || list_any (λ entry. test entry.0) catalog) ≡ true
          → (list_any (λ entry. test entry.0) catalog ≡ true → Passing catalog) → Passing (entry ∷ catalog)
      by true is h rest = record {
        name = entry.0;
        there = named_or entry.0 entry catalog ∙ or_left (bytes_eq entry.0 entry.0) (is_some (element_named entry.0 catalog))
            ((bytes_eq-Decides entry.0 entry.0).1 refl);
        passes = is;
      }
      by false is h rest =
          let one = rest h in
          record {
            name = one.name;
            there = named_or one.name entry catalog
                ∙ or_right (bytes_eq one.name entry.0) (is_some (element_named one.name catalog)) one.there;
            passes = one.passes;
          }

  among_names : (catalog : Catalog) (names : List (List ℕ)) (name : List ℕ) → is_some (element_named name catalog) ≡ true
      → test name ≡ true → is_path_among name names ≡ true →
      list_any (λ name. is_some (element_named name catalog) && test name) names ≡ true
  among_names catalog [] name there h among = absurd (cc)
  among_names catalog (first ∷ names) name there h among = by (bytes_eq name first) refl among
      (among_names catalog names name there h)
    where
      by : (t : Bool) → bytes_eq name first ≡ t → (t || is_path_among name names) ≡ true
          → (is_path_among name names ≡ true → list_any (λ name. is_some (element_named name catalog) && test name) names ≡ true)
          →
          ((is_some (element_named first catalog) && test first) || list_any (λ name. is_some (element_named name catalog)
          && test name) names) ≡ true
      by true same among rest =
          let one = same_bytes name first same in
          or_left (is_some (element_named first catalog) && test first)
          (list_any (λ name. is_some (element_named name catalog) && test name) names)
          (and_from (is_some (element_named first catalog)) (test first) (ap (λ n. is_some (element_named n catalog)) (sym one)
          ∙ there) (ap test (sym one) ∙ h))
      by false same among rest = or_right (is_some (element_named first catalog) && test first)
          (list_any (λ name. is_some (element_named name catalog) && test name) names) (rest among)

  -- names among which are all of a catalog have one of it that passes where an entry does
  by_names : (catalog : Catalog) (names : List (List ℕ)) → ((name : List ℕ) → is_some (element_named name catalog) ≡ true
      → is_path_among name names ≡ true) →
      list_any (λ name. is_some (element_named name catalog) && test name) names ≡ list_any (λ entry. test entry.0) catalog
  by_names catalog names all =
      same_test (list_any (λ name. is_some (element_named name catalog) && test name) names)
      (list_any (λ entry. test entry.0) catalog)
      (some_name catalog names)
      (λ h. let one = passing catalog h in among_names catalog names one.name one.there one.passes (all one.name one.there))

module _ (b : Base) (v : List ℕ) where
  -- the catalog of what stands at a path
  abbrev pub catalog_at : List ℕ → Catalog
  catalog_at path = catalog_or_none (entries_of b v (at b v path))

  -- whether a path lies below a name of the catalog of what stands at another
  abbrev pub lies_named : ℕ → List ℕ → List ℕ → List ℕ → Bool
  lies_named depth path q name = is_some (element_named name (catalog_at path))
      && lies_below depth b v (path_of_entry path name) q

  -- nothing lies below what is no element
  nowhere : (depth : ℕ) (path q : List ℕ) → is_element (at b v path) ≡ false → lies_below depth b v path q ≡ false
  nowhere zero path q h = refl
  nowhere (suc depth) path q h = by (at b v path) h
    where
      by : (seen : Seen) → is_element seen ≡ false → ((is_element seen && bytes_eq q path)
          || list_any (λ entry. lies_below depth b v (path_of_entry path entry.0) q) (catalog_or_none (entries_of b v seen)))
          ≡ false
      by (Element e picked) h = absurd (cc)
      by seen h = refl

  at_name : (path name : List ℕ) → IsPath path → IsName name → at b v (path_of_entry path name)
      ≡ below b v (names_of path ++ name ∷ []) name (entries_of b v (at b v path))
  at_name path name is_path is_name =
      ap (λ names. at_names b v (reverse names)) (names_in_path path name is_path is_name)
      ∙ ap (at_names b v) (reverse-append (names_of path) (name ∷ []))
      ∙ ap (λ names. below b v names name (entries_of b v (at b v path)))
      (sym (ap reverse (reverse-append (names_of path) (name ∷ []))) ∙ reverse-reverse (names_of path ++ name ∷ []))

  -- no element stands at a name that the catalog has not, and none at a path that is too long
  unnamed : (names : List (List ℕ)) (name : List ℕ) (entries : Option Catalog)
      → element_named name (catalog_or_none entries) ≡ None → is_element (below b v names name entries) ≡ false
  unnamed names name None h = refl
  unnamed names name (Some catalog) h =
      ap (λ found. is_element (seeing.unless_too_long (path_of_names names)
      (private_or (private b v (path_of_names names)) (element_at b v names found)))) h
      ∙ by (nat_le (length (path_of_names names)) 1024) (private b v (path_of_names names))
    where
      by : (short : Bool) (row : Option ℕ) → is_element (if short then private_or row Nothing else Nothing) ≡ false
      by true (Some row) = refl
      by true None = refl
      by false row = refl

  too_long : (names : List (List ℕ)) (name : List ℕ) (entries : Option Catalog)
      → nat_lt 1024 (length (path_of_names names)) ≡ true → is_element (below b v names name entries) ≡ false
  too_long names name None long = refl
  too_long names name (Some catalog) long =
      ap (λ (short : Bool). is_element (if short then private_or (private b v (path_of_names names))
      (element_at b v names (element_named name catalog)) else Nothing)) not_short
    where
      not_short : nat_le (length (path_of_names names)) 1024 ≡ false
      not_short = grind (arith, nat_tests, long)

  -- what lies below the path of a name in a directory
  pub joined_lies : (depth : ℕ) (path name q : List ℕ) → IsPath path → IsName name
      → lies_below_joined depth b v (join_of path name) q ≡ lies_named depth path q name
  joined_lies depth path name q is_path is_name = by (nat_lt 1024 (length (path_of_entry path name))) refl
    where
      by_name : (found : Option ℕ) → element_named name (catalog_at path) ≡ found
          → lies_below depth b v (path_of_entry path name) q ≡ (is_some found && lies_below depth b v (path_of_entry path name) q)
      by_name None none =
          nowhere depth (path_of_entry path name) q
          (ap is_element (at_name path name is_path is_name) ∙ unnamed (names_of path ++ name ∷ []) name
          (entries_of b v (at b v path)) none)
      by_name (Some e) some = refl

      by : (long : Bool) → nat_lt 1024 (length (path_of_entry path name)) ≡ long
          → lies_below_joined depth b v (if long then Err (TooLong (length (path_of_entry path name))) else Ok
          (path_of_entry path name)) q ≡ lies_named depth path q name
      by true long =
          sym (ap (λ t. is_some (element_named name (catalog_at path)) && t)
          (nowhere depth (path_of_entry path name) q
          (ap is_element (at_name path name is_path is_name) ∙ too_long (names_of path ++ name ∷ []) name
          (entries_of b v (at b v path)) long))
          ∙ and_false (is_some (element_named name (catalog_at path))))
      by false short = by_name (element_named name (catalog_at path)) refl

  -- what was found at a path, once an element was put in at another
  pub put_in : (path key q : List ℕ) (before : Option Seen) → key ≡ path
      → cond (is_at (slice_cmp nat_cmp key) q) (Some (at b v path)) before ≡ seen_where (bytes_eq q path) b v q before
  put_in path key q before same =
      ap (λ t. cond t (Some (at b v path)) before) (is_eq-slice_cmp key q ∙ ap (λ k. bytes_eq k q) same
      ∙ nat_list_eq_equiv.symm path q)
      ∙ at_same b v path q (bytes_eq q path) refl before

  -- what is found once an element and what lies below the names in it were put in
  pub all_put_in : (depth : ℕ) (path q : List ℕ) (names : List (List ℕ)) → is_element (at b v path) ≡ true
      → ((name : List ℕ) → is_some (element_named name (catalog_at path)) ≡ true → is_path_among name names ≡ true) →
      (old inserted found : Option Seen) → inserted ≡ seen_where (bytes_eq q path) b v q old
      → found ≡ seen_where (list_any (lies_named depth path q) names) b v q inserted →
      found ≡ seen_where (lies_below (suc depth) b v path q) b v q old
  all_put_in depth path q names element all old inserted found first rest =
      rest
      ∙ ap₂ (λ (t : Bool) (before : Option Seen). seen_where t b v q before)
      (by_names (λ name. lies_below depth b v (path_of_entry path name) q) (catalog_at path) names all) first
      ∙ turned (list_any (λ entry. lies_below depth b v (path_of_entry path entry.0) q) (catalog_at path)) (bytes_eq q path)
      ∙ ap (λ t. seen_where ((t && bytes_eq q path) || list_any (λ entry. lies_below depth b v (path_of_entry path entry.0) q)
      (catalog_at path)) b v q old) (sym element)
    where
      turned : (s t : Bool) → seen_where s b v q (seen_where t b v q old) ≡ seen_where ((true && t) || s) b v q old
      turned true true = refl
      turned true false = refl
      turned false true = refl
      turned false false = refl

  -- one name more, of those that are left
  pub one_put_in : (depth : ℕ) (path name q : List ℕ) (left : List (List ℕ)) (old new : Option Seen) → IsPath path → IsName name →
      new ≡ seen_where (lies_below_joined depth b v (join_of path name) q) b v q old →
      seen_where (list_any (lies_named depth path q) left) b v q new ≡ seen_where
      (list_any (lies_named depth path q) (name ∷ left)) b v q old
  one_put_in depth path name q left old new is_path is_name put =
      ap (seen_where (list_any (lies_named depth path q) left) b v q) (put
      ∙ ap (λ t. seen_where t b v q old) (joined_lies depth path name q is_path is_name))
      ∙ turned (list_any (lies_named depth path q) left) (lies_named depth path q name)
    where
      turned : (s t : Bool) → seen_where s b v q (seen_where t b v q old) ≡ seen_where (t || s) b v q old
      turned true true = refl
      turned true false = refl
      turned false true = refl
      turned false false = refl
