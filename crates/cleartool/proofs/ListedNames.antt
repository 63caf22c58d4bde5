-- The names of a directory are given by those that rows gave there and by the paths at which rows gave the view something.
use Rattle.std.proofs.Common.{◌≡◌, ℕ, ◌<◌, Bool, true, false, cond, ◌&&◌, ◌||◌, List, [], ◌∷◌, ◌++◌, Option, Some, None, Ok, Err}
use Rattle.std.proofs.Common.{length, map, reverse, refl, ap, ap₂, sym, subst, ◌∙◌, arith, bytes_eq}
use Rattle.std.specs.Prelude.{T, is_some, nat_le, nat_lt, unwrap_or, if◌then◌else◌}
use Rattle.std.specs.Cmp.Lexicographic.{slice_cmp}
use Rattle.std.specs.FinMap.Entries.{find, find-put, is_sorted, is_sorted-put}
use Rattle.std.specs.List.{concat, last_or}
use Rattle.std.specs.List.Sorted.{IsStrictlySortedBy}
use Rattle.std.specs.Option.{option_map_or}
use Rattle.std.specs.Ordering.{eq_by_cmp, nat_cmp}
use Rattle.std.proofs.lemmas.Bool.Decides.{nat_tests}
use Rattle.std.proofs.lemmas.Cmp.{nat_list_cmp_total, nat_list_eq_equiv}
use Rattle.std.proofs.lemmas.List.{reverse-append, reverse-reverse}
use Rattle.std.proofs.lemmas.Map.Text.{is_eq-slice_cmp}
use Rattle.std.proofs.lemmas.Slice.Eq.{bytes_eq-Decides}
use Rattle.std.proofs.lemmas.Bool.{and_parts, and_from, or_left, or_right}
use Rattle.cc_names.specs.Formed.{IsBelowRoot, Plain}
use Rattle.cc_names.specs.Last.{Ends, Sets, value_after, only_if}
use Rattle.cc_names.specs.Names.{IsName}
use Rattle.cc_names.specs.PathLaws.{PartsJoin}
use Rattle.cc_names.specs.Paths.{IsPath, join_of, last_of, names_of, parent_of, root, without_last}
use Rattle.cc_names.specs.References.{ReferencesByPath, held_at, view_path_cmp}
use Rattle.cc_names.specs.declared.names.NameFault.TheVariants.{TooLong}
use Rattle.cc_names.specs.declared.rows.Deed.{Deed}
use Rattle.cc_names.specs.declared.rows.Deed.TheVariants as deeds
use Rattle.cc_names.specs.declared.selection.Picked.{Picked}
use Rattle.cc_names.specs.declared.selection.Seen.{Seen}
use Rattle.cc_names.specs.declared.selection.Seen.TheVariants.{Nothing}
use Rattle.cc_names.proofs.NamesOfPaths.{path-short}
use Rattle.cc_names.proofs.PathParts.{path_of_names-names_of, last_or-append}
use Rattle.cc_names.proofs.PathParts.{without_last-append}
use Rattle.cc_names.proofs.Common.{same_bytes, bytes_equal_themselves}
use Rattle.base_model.specs.Catalogs.{Catalog, catalog_of, element_named, own_of}
use Rattle.base_model.specs.Changes.{objects_held}
use Rattle.base_model.specs.Closures.{is_path_among}
use Rattle.base_model.specs.Fits.{is_base}
use Rattle.base_model.specs.Rows.{Base, size}
use Rattle.base_model.specs.Seen as seeing
use Rattle.base_model.specs.Seen.{as_seen, at, at_names, below, catalog_by, element_at, entries_by, entries_of, private_or}
use Rattle.base_model.specs.Seen.{selection_at}
use Rattle.base_model.specs.Views.{private, private_effect}
use Rattle.legal_history.specs.Commands.FileLines.{last_name, parent}
use Rattle.legal_history.specs.Queries.DirectoryTexts.{Names, catalog_names, catalog_or_none, is_something, ls_text, names_in}
use Rattle.legal_history.specs.Queries.DirectoryTexts.{object_names, path_of_entry, private_names, with_name_if, with_private}
use Rattle.base_model.proofs.Makings.{seen_element}
use Rattle.base_model.proofs.Picks.{picked_is}
use Rattle.base_rows.specs.Giving.{gives_view}
use Rattle.view_lookup.specs.GivenNames.{is_name}
use Rattle.cleartool.specs.Owned.{paths_given, was_given}
use Rattle.base_rows.proofs.Holdings.{same_view_path}
use Rattle.cleartool.specs.Listed.{HasNames, SeesDirectory, lies_in, line_at, seen_line, seen_line_where}
use Rattle.view_lookup.proofs.ByKeys.{by_keys, text_of_key}
use Rattle.cleartool.proofs.HeldListed.{held_given}
use Rattle.view_lookup.proofs.NamesGiven.{checkout_given, version_given}
use Rattle.view_lookup.proofs.NamesInPaths.{names_in_path}

is_itself : (a b : List ℕ) → a ≡ b → bytes_eq a b ≡ true
is_itself a b same = (bytes_eq-Decides a b).1 same

not_true : (t : Bool) → (t ≡ true → ⊥) → t ≡ false
not_true true h = absurd (h refl)
not_true false h = refl

-- ---- paths in a directory

parent_in : (directory name : List ℕ) → IsPath directory → IsName name → parent_of (path_of_entry directory name) ≡ Some directory
parent_in directory name path is =
    ap without_last (names_in_path directory name path is)
    ∙ without_last-append (names_of directory) name
    ∙ ap Some (path_of_names-names_of directory)

last_in : (directory name : List ℕ) → IsPath directory → IsName name → last_of (path_of_entry directory name) ≡ Some name
last_in directory name path is = ap (last_or None) (names_in_path directory name path is)
    ∙ last_or-append None (names_of directory) name

-- a path below the root by its parent and its last name
record Parts (path : List ℕ) : Type 0 where
  directory : List ℕ
  name : List ℕ
  above : parent_of path ≡ Some directory
  last : last_of path ≡ Some name
  is : path ≡ path_of_entry directory name

parts_of : PartsJoin → (path : List ℕ) → IsBelowRoot path → Parts path
parts_of law path low =
    let p = law path low.0 low.1 in
    record {
      directory = p.0;
      name = p.1;
      above = p.2;
      last = p.3;
      is = by p.0 p.1 (nat_lt 1024 (length (path_of_entry p.0 p.1)))
          p.4;
    }
  where
    by : (directory name : List ℕ) (t : Bool) → (if t then Err (TooLong (length (path_of_entry directory name))) else Ok
        (path_of_entry directory name)) ≡ Ok path → path ≡ path_of_entry directory name
    by directory name true is = absurd (cc)
    by directory name false is = cc

-- the path with this parent and this last name
path_by : PartsJoin → (directory name path : List ℕ) → IsBelowRoot path → bytes_eq (parent path) directory ≡ true
    → bytes_eq name (last_name path) ≡ true → path ≡ path_of_entry directory name
path_by law directory name path low above last =
    let p = parts_of law path low in
    let one : p.directory ≡ directory = sym (ap (λ (o : Option (List ℕ)). unwrap_or o root) p.above)
    ∙ same_bytes (parent path) directory above in
    let two : p.name ≡ name = sym (ap (λ (o : Option (List ℕ)). unwrap_or o []) p.last)
    ∙ sym (same_bytes name (last_name path) last) in
    p.is ∙ ap₂ path_of_entry one two

lies_there : PartsJoin → (directory name path : List ℕ) → IsBelowRoot path → bytes_eq (parent path) directory ≡ true
    → bytes_eq name (last_name path) ≡ true → lies_in directory name path ≡ true
lies_there law directory name path low above last =
    let p = parts_of law path low in
    and_from (is_name directory (parent_of path)) (is_name name (last_of path))
    (ap (is_name directory) p.above ∙ is_itself directory p.directory (sym (same_bytes (parent path) directory above)
    ∙ ap (λ (o : Option (List ℕ)). unwrap_or o root) p.above))
    (ap (is_name name) p.last ∙ is_itself name p.name (same_bytes name (last_name path) last
    ∙ ap (λ (o : Option (List ℕ)). unwrap_or o []) p.last))

-- ---- one name more in a table

find_if : (t : Bool) (name key : List ℕ) (seen : Seen) (names : Names)
    → find (slice_cmp nat_cmp) name (with_name_if t key seen names) ≡ cond (t && bytes_eq name key) (Some seen)
    (find (slice_cmp nat_cmp) name names)
find_if true name key seen names =
    find-put (slice_cmp nat_cmp) nat_list_cmp_total name key seen names
    ∙ ap (λ is. cond is (Some seen) (find (slice_cmp nat_cmp) name names)) (is_eq-slice_cmp name key)
find_if false name key seen names = refl

sorted_if : (t : Bool) (key : List ℕ) (seen : Seen) (names : Names) → T (is_sorted (slice_cmp nat_cmp) names)
    → T (is_sorted (slice_cmp nat_cmp) (with_name_if t key seen names))
sorted_if true key seen names h = is_sorted-put (slice_cmp nat_cmp) nat_list_cmp_total key seen names h
sorted_if false key seen names h = h

-- what one is found by, or else what was found before
found_or : {A : Type 0} (P : Type 0) (t : Bool) (a : A) (found : Option A) → is_some (cond t (Some a) found) ≡ true
    → (t ≡ true → P) → (is_some found ≡ true → P) → P
found_or P true a found is here before = here refl
found_or P false a found is here before = before is

module _ (law : PartsJoin) (b : Base) (v directory : List ℕ) where
  -- what stands at the path of a name in the directory
  abbrev seen_at : List ℕ → Seen
  seen_at name = at b v (path_of_entry directory name)

  -- ---- the names of a catalog

  catalog_find : (name : List ℕ) (catalog : Catalog) (rest : Names) → find (slice_cmp nat_cmp) name
      (catalog_names b v directory catalog rest)
      ≡ cond (is_some (element_named name catalog) && is_something (seen_at name)) (Some (seen_at name))
      (find (slice_cmp nat_cmp) name rest)
  catalog_find name [] rest = refl
  catalog_find name (entry ∷ catalog) rest =
      find_if (is_something (seen_at entry.0)) name entry.0 (seen_at entry.0) (catalog_names b v directory catalog rest)
      ∙ by (bytes_eq name entry.0) refl (catalog_find name catalog rest)
      ∙ sym (ap (λ t. cond (is_some (cond t (Some entry.1) (element_named name catalog)) && is_something (seen_at name))
      (Some (seen_at name)) (find (slice_cmp nat_cmp) name rest)) (is_eq-slice_cmp name entry.0))
    where
      here : (s c : Bool) (a : Seen) (older : Option Seen) → cond (s && true) (Some a) (cond (c && s) (Some a) older)
          ≡ cond (true && s) (Some a) older
      here true c a older = refl
      here false true a older = refl
      here false false a older = refl

      passed : (s : Bool) (a : Seen) (older : Option Seen) → cond (s && false) (Some a) older ≡ older
      passed true a older = refl
      passed false a older = refl

      by : (t : Bool) → bytes_eq name entry.0 ≡ t → find (slice_cmp nat_cmp) name (catalog_names b v directory catalog rest)
          ≡ cond (is_some (element_named name catalog) && is_something (seen_at name)) (Some (seen_at name))
          (find (slice_cmp nat_cmp) name rest) →
          cond (is_something (seen_at entry.0) && t) (Some (seen_at entry.0))
          (find (slice_cmp nat_cmp) name (catalog_names b v directory catalog rest))
          ≡ cond (is_some (cond t (Some entry.1) (element_named name catalog)) && is_something (seen_at name))
          (Some (seen_at name)) (find (slice_cmp nat_cmp) name rest)
      by true e before =
          ap₂ (λ (key : List ℕ) (found : Option Seen). cond (is_something (seen_at key) && true) (Some (seen_at key)) found)
          (sym (same_bytes name entry.0 e)) before
          ∙ here (is_something (seen_at name)) (is_some (element_named name catalog)) (seen_at name)
          (find (slice_cmp nat_cmp) name rest)
      by false e before = passed (is_something (seen_at entry.0)) (seen_at entry.0)
          (find (slice_cmp nat_cmp) name (catalog_names b v directory catalog rest)) ∙ before

  catalog_sorted : (catalog : Catalog) (rest : Names) → T (is_sorted (slice_cmp nat_cmp) rest)
      → T (is_sorted (slice_cmp nat_cmp) (catalog_names b v directory catalog rest))
  catalog_sorted [] rest h = h
  catalog_sorted (entry ∷ catalog) rest h = sorted_if (is_something (seen_at entry.0)) entry.0 (seen_at entry.0)
      (catalog_names b v directory catalog rest) (catalog_sorted catalog rest h)

  -- ---- the names of private files

  -- whether a deed puts a private file at a path
  abbrev puts : List ℕ → Deed → Bool
  puts path (deeds.Put w p text) = bytes_eq w v && bytes_eq p path
  puts path deed = false

  abbrev is_put : List ℕ → Base → Bool
  is_put path [] = false
  is_put path (row ∷ older) = puts path row.deed || is_put path older

  -- the paths at which some rows gave the view something lie below the root
  abbrev AreBelow : Base → Type 0
  AreBelow rows = (path : List ℕ) → was_given b v path rows ≡ true → IsBelowRoot path

  older_below : (row : Plain) (older : Base) → AreBelow (row ∷ older) → AreBelow older
  older_below row older low = λ path given. low path (or_right (gives_view v row.deed
      && is_path_among path (paths_given b row.deed)) (was_given b v path older) given)

  put_below : (row : Plain) (older : Base) (w p text : List ℕ) → row.deed ≡ deeds.Put w p text → bytes_eq w v ≡ true
      → AreBelow (row ∷ older) → IsBelowRoot p
  put_below row older w p text is own low =
      low p (or_left (gives_view v row.deed && is_path_among p (paths_given b row.deed)) (was_given b v p older)
      (ap (λ d. gives_view v d && is_path_among p (paths_given b d)) is
      ∙ ap₂ (λ (one two : Bool). one && (two || false)) own (bytes_equal_themselves p)))

  private_find : (name : List ℕ) → IsPath directory → IsName name → (rows : Base) (rest : Names) → AreBelow rows
      → find (slice_cmp nat_cmp) name (private_names b v directory rows rest)
      ≡ cond (is_put (path_of_entry directory name) rows && is_some (private b v (path_of_entry directory name)))
      (Some (seen_at name)) (find (slice_cmp nat_cmp) name rest)
  private_find name path is [] rest low = refl
  private_find name path is (row ∷ older) rest low = by row.deed refl (private_find name path is older rest
      (older_below row older low))
    where
      at_path : List ℕ
      at_path = path_of_entry directory name

      by_path : (p : List ℕ) → IsBelowRoot p → (t : Bool) → bytes_eq p (path_of_entry directory name) ≡ t →
          find (slice_cmp nat_cmp) name (private_names b v directory older rest)
          ≡ cond (is_put (path_of_entry directory name) older && is_some (private b v (path_of_entry directory name)))
          (Some (seen_at name)) (find (slice_cmp nat_cmp) name rest) →
          cond ((bytes_eq (parent p) directory && is_some (private b v p)) && bytes_eq name (last_name p)) (Some (at b v p))
          (find (slice_cmp nat_cmp) name (private_names b v directory older rest))
          ≡ cond ((t || is_put (path_of_entry directory name) older) && is_some (private b v (path_of_entry directory name)))
          (Some (seen_at name)) (find (slice_cmp nat_cmp) name rest)
      by_path p low true same before =
          let one : p ≡ path_of_entry directory name = same_bytes p (path_of_entry directory name) same in
          let above : bytes_eq (parent p) directory ≡ true = is_itself (parent p) directory (ap parent one
          ∙ ap (λ (o : Option (List ℕ)). unwrap_or o root) (parent_in directory name path is)) in
          let last : bytes_eq name (last_name p) ≡ true = is_itself name (last_name p) (sym (ap last_name one
          ∙ ap (λ (o : Option (List ℕ)). unwrap_or o []) (last_in directory name path is))) in
          ap₂ (λ (x y : Bool). cond ((x && is_some (private b v p)) && y) (Some (at b v p))
          (find (slice_cmp nat_cmp) name (private_names b v directory older rest))) above last
          ∙ ap₂ (λ (q : List ℕ) (found : Option Seen). cond ((true && is_some (private b v q)) && true) (Some (at b v q)) found)
          one before
          ∙ there (is_some (private b v (path_of_entry directory name))) (is_put (path_of_entry directory name) older)
          (seen_at name) (find (slice_cmp nat_cmp) name rest)
        where
          there : (q more : Bool) (a : Seen) (older : Option Seen) → cond ((true && q) && true) (Some a)
              (cond (more && q) (Some a) older) ≡ cond ((true || more) && q) (Some a) older
          there true more a older = refl
          there false true a older = refl
          there false false a older = refl
      by_path p low false other before =
          let none : ((bytes_eq (parent p) directory && is_some (private b v p)) && bytes_eq name (last_name p)) ≡ false =
          not_true ((bytes_eq (parent p) directory && is_some (private b v p)) && bytes_eq name (last_name p)) (λ h.
          let parts = and_parts (bytes_eq (parent p) directory && is_some (private b v p)) (bytes_eq name (last_name p)) h in
          let more = and_parts (bytes_eq (parent p) directory) (is_some (private b v p)) parts.0 in
          let same = is_itself p (path_of_entry directory name) (path_by law directory name p low more.0 parts.1) in
          cc (same, other)) in
          ap (λ t. cond t (Some (at b v p)) (find (slice_cmp nat_cmp) name (private_names b v directory older rest))) none
          ∙ before

      by_view : (w p text : List ℕ) (own : Bool) → bytes_eq w v ≡ own → row.deed ≡ deeds.Put w p text →
          find (slice_cmp nat_cmp) name (private_names b v directory older rest)
          ≡ cond (is_put (path_of_entry directory name) older && is_some (private b v (path_of_entry directory name)))
          (Some (seen_at name)) (find (slice_cmp nat_cmp) name rest) →
          cond (((own && bytes_eq (parent p) directory) && is_some (private b v p)) && bytes_eq name (last_name p))
          (Some (at b v p)) (find (slice_cmp nat_cmp) name (private_names b v directory older rest))
          ≡ cond (((own && bytes_eq p (path_of_entry directory name)) || is_put (path_of_entry directory name) older)
          && is_some (private b v (path_of_entry directory name))) (Some (seen_at name)) (find (slice_cmp nat_cmp) name rest)
      by_view w p text true own deed before = by_path p (put_below row older w p text deed own low)
          (bytes_eq p (path_of_entry directory name)) refl before
      by_view w p text false own deed before = before

      by : (deed : Deed) → row.deed ≡ deed → find (slice_cmp nat_cmp) name (private_names b v directory older rest)
          ≡ cond (is_put (path_of_entry directory name) older && is_some (private b v (path_of_entry directory name)))
          (Some (seen_at name)) (find (slice_cmp nat_cmp) name rest) →
          find (slice_cmp nat_cmp) name (with_private b v directory deed (private_names b v directory older rest))
          ≡ cond ((puts (path_of_entry directory name) deed || is_put (path_of_entry directory name) older)
          && is_some (private b v (path_of_entry directory name))) (Some (seen_at name)) (find (slice_cmp nat_cmp) name rest)
      by (deeds.Put w p text) same before =
          find_if ((bytes_eq w v && bytes_eq (parent p) directory) && is_some (private b v p)) name (last_name p) (at b v p)
          (private_names b v directory older rest)
          ∙ by_view w p text (bytes_eq w v) refl same before
      by deed same before = before

  private_sorted : (rows : Base) (rest : Names) → T (is_sorted (slice_cmp nat_cmp) rest)
      → T (is_sorted (slice_cmp nat_cmp) (private_names b v directory rows rest))
  private_sorted [] rest h = h
  private_sorted (row ∷ older) rest h = by row.deed (private_sorted older rest h)
    where
      by : (deed : Deed) → T (is_sorted (slice_cmp nat_cmp) (private_names b v directory older rest))
          → T (is_sorted (slice_cmp nat_cmp) (with_private b v directory deed (private_names b v directory older rest)))
      by (deeds.Put w p text) before = sorted_if ((bytes_eq w v && bytes_eq (parent p) directory) && is_some (private b v p))
          (last_name p) (at b v p) (private_names b v directory older rest) before
      by deed before = before

  -- a private file that is there was put
  private_put : (path : List ℕ) (rows : Base) → is_some (private rows v path) ≡ true → is_put path rows ≡ true
  private_put path [] h = absurd (cc)
  private_put path (row ∷ older) h = by row.deed h (private_put path older)
    where
      ends : (t : Bool) (before : Option ℕ) → is_some (value_after (only_if t Ends) before) ≡ true → is_some before ≡ true
      ends true before h = absurd (cc)
      ends false before h = h

      sets : (t : Bool) (n : ℕ) (before : Option ℕ) (rest : Bool) → is_some (value_after (only_if t (Sets n)) before) ≡ true
          → (is_some before ≡ true → rest ≡ true) → (t || rest) ≡ true
      sets true n before rest h more = refl
      sets false n before rest h more = more h

      by : (deed : Deed) → is_some (value_after (private_effect v path (size older) deed) (private older v path)) ≡ true
          → (is_some (private older v path) ≡ true → is_put path older ≡ true) → (puts path deed || is_put path older) ≡ true
      by (deeds.Mkview w) h before = before (ends (bytes_eq w v) (private older v path) h)
      by (deeds.Rmview w) h before = before (ends (bytes_eq w v) (private older v path) h)
      by (deeds.Put w q text) h before = sets (bytes_eq w v && bytes_eq q path) (size older) (private older v path)
          (is_put path older) h before
      by (deeds.Rm w q) h before = before (ends (bytes_eq w v && bytes_eq q path) (private older v path) h)
      by deed h before = before h

  -- what was put was given to the view
  put_given : (path : List ℕ) (rows : Base) → is_put path rows ≡ true → was_given b v path rows ≡ true
  put_given path [] h = absurd (cc)
  put_given path (row ∷ older) h = by row.deed h (put_given path older)
    where
      or_more : (t rest more : Bool) → (t || rest) ≡ true → (rest ≡ true → more ≡ true) → (t || more) ≡ true
      or_more true rest more h k = refl
      or_more false rest more h k = k h

      turned : (w p : List ℕ) → (bytes_eq w v && bytes_eq p path) ≡ (bytes_eq w v && (bytes_eq path p || false))
      turned w p = ap (λ t. bytes_eq w v && t) (sym_eq p path)
        where
          false_more : (t : Bool) → t ≡ (t || false)
          false_more true = refl
          false_more false = refl

          sym_eq : (p q : List ℕ) → bytes_eq p q ≡ (bytes_eq q p || false)
          sym_eq p q = nat_list_eq_equiv.symm p q ∙ false_more (bytes_eq q p)

      by : (deed : Deed) → (puts path deed || is_put path older) ≡ true
          → (is_put path older ≡ true → was_given b v path older ≡ true)
          → ((gives_view v deed && is_path_among path (paths_given b deed)) || was_given b v path older) ≡ true
      by (deeds.Put w p text) h before = or_more (bytes_eq w v && (bytes_eq path p || false)) (is_put path older)
          (was_given b v path older) (sym (ap (λ t. t || is_put path older) (turned w p)) ∙ h) before
      by deed h before = or_right (gives_view v deed && is_path_among path (paths_given b deed)) (was_given b v path older)
          (before h)

  -- ---- the names of objects

  -- the paths of the view in some references lie below the root
  abbrev HeldBelow : ReferencesByPath → Type 0
  HeldBelow objects_held = (path : List ℕ) → is_some (held_at objects_held v path) ≡ true → IsBelowRoot path

  some_if : (t : Bool) (id : ℕ) (found : Option ℕ) → is_some found ≡ true → is_some (cond t (Some id) found) ≡ true
  some_if true id found h = refl
  some_if false id found h = h

  rest_below : (entry : (List ℕ × List ℕ) × ℕ) (objects_held : ReferencesByPath) → HeldBelow (entry ∷ objects_held)
      → HeldBelow objects_held
  rest_below entry objects_held low = λ path is. low path (some_if (eq_by_cmp view_path_cmp (v, path) entry.0) entry.1
      (held_at objects_held v path) is)

  entry_below : (entry : (List ℕ × List ℕ) × ℕ) (objects_held : ReferencesByPath) → bytes_eq entry.0.0 v ≡ true
      → HeldBelow (entry ∷ objects_held) → IsBelowRoot entry.0.1
  entry_below entry objects_held own low =
      low entry.0.1 (ap (λ t. is_some (cond t (Some entry.1) (held_at objects_held v entry.0.1)))
      (same_view_path v entry.0.1 entry.0.0 entry.0.1 ∙ ap₂ (λ (one two : Bool). one && two) own
      (bytes_equal_themselves entry.0.1)))

  object_find : (name : List ℕ) → IsPath directory → IsName name → (objects_held : ReferencesByPath) → HeldBelow objects_held
      → find (slice_cmp nat_cmp) name (object_names b v directory objects_held [])
      ≡ cond (is_some (held_at objects_held v (path_of_entry directory name))) (Some (seen_at name)) None
  object_find name path is [] low = refl
  object_find name path is (entry ∷ objects_held) low =
      find_if (bytes_eq entry.0.0 v && bytes_eq (parent entry.0.1) directory) name (last_name entry.0.1) (at b v entry.0.1)
      (object_names b v directory objects_held [])
      ∙ by_view (bytes_eq entry.0.0 v) refl (object_find name path is objects_held (rest_below entry objects_held low))
      ∙ sym (ap (λ t. cond (is_some (cond t (Some entry.1) (held_at objects_held v (path_of_entry directory name))))
      (Some (seen_at name)) None) (same_view_path v (path_of_entry directory name) entry.0.0 entry.0.1))
    where
      by_path : IsBelowRoot entry.0.1 → (t : Bool) → bytes_eq entry.0.1 (path_of_entry directory name) ≡ t →
          find (slice_cmp nat_cmp) name (object_names b v directory objects_held [])
          ≡ cond (is_some (held_at objects_held v (path_of_entry directory name))) (Some (seen_at name)) None →
          cond (bytes_eq (parent entry.0.1) directory && bytes_eq name (last_name entry.0.1)) (Some (at b v entry.0.1))
          (find (slice_cmp nat_cmp) name (object_names b v directory objects_held []))
          ≡ cond (is_some (cond t (Some entry.1) (held_at objects_held v (path_of_entry directory name)))) (Some (seen_at name))
          None
      by_path low true same before =
          let one : entry.0.1 ≡ path_of_entry directory name = same_bytes entry.0.1 (path_of_entry directory name) same in
          let above : bytes_eq (parent entry.0.1) directory ≡ true = is_itself (parent entry.0.1) directory (ap parent one
          ∙ ap (λ (o : Option (List ℕ)). unwrap_or o root) (parent_in directory name path is)) in
          let last : bytes_eq name (last_name entry.0.1) ≡ true = is_itself name (last_name entry.0.1) (sym (ap last_name one
          ∙ ap (λ (o : Option (List ℕ)). unwrap_or o []) (last_in directory name path is))) in
          ap₂ (λ (x y : Bool). cond (x && y) (Some (at b v entry.0.1))
          (find (slice_cmp nat_cmp) name (object_names b v directory objects_held []))) above last
          ∙ ap (λ (q : List ℕ). Some (at b v q)) one
      by_path low false other before =
          let none : (bytes_eq (parent entry.0.1) directory && bytes_eq name (last_name entry.0.1)) ≡ false =
          not_true (bytes_eq (parent entry.0.1) directory && bytes_eq name (last_name entry.0.1)) (λ h.
          let parts = and_parts (bytes_eq (parent entry.0.1) directory) (bytes_eq name (last_name entry.0.1)) h in
          let same = is_itself entry.0.1 (path_of_entry directory name) (path_by law directory name entry.0.1 low parts.0 parts.1)
          in
          cc (same, other)) in
          ap (λ t. cond t (Some (at b v entry.0.1)) (find (slice_cmp nat_cmp) name (object_names b v directory objects_held [])))
          none ∙ before

      by_view : (own : Bool) → bytes_eq entry.0.0 v ≡ own →
          find (slice_cmp nat_cmp) name (object_names b v directory objects_held [])
          ≡ cond (is_some (held_at objects_held v (path_of_entry directory name))) (Some (seen_at name)) None →
          cond ((own && bytes_eq (parent entry.0.1) directory) && bytes_eq name (last_name entry.0.1)) (Some (at b v entry.0.1))
          (find (slice_cmp nat_cmp) name (object_names b v directory objects_held []))
          ≡ cond (is_some (cond (own && bytes_eq entry.0.1 (path_of_entry directory name)) (Some entry.1)
          (held_at objects_held v (path_of_entry directory name)))) (Some (seen_at name)) None
      by_view true own before = by_path (entry_below entry objects_held own low)
          (bytes_eq entry.0.1 (path_of_entry directory name)) refl before
      by_view false own before = before

  object_sorted : (objects_held : ReferencesByPath) → T (is_sorted (slice_cmp nat_cmp)
      (object_names b v directory objects_held []))
  object_sorted [] = tt
  object_sorted (entry ∷ objects_held) =
      sorted_if (bytes_eq entry.0.0 v && bytes_eq (parent entry.0.1) directory) (last_name entry.0.1) (at b v entry.0.1)
      (object_names b v directory objects_held []) (object_sorted objects_held)

  -- ---- each name that is listed is among names that are all

  module _ (e : ℕ) (names : List (List ℕ)) (has : HasNames b v directory e names) where
    private_has : (name : List ℕ) (P : Type 0) (rows : Base) (rest : Names)
        → ((path : List ℕ) → was_given b v path rows ≡ true → was_given b v path b ≡ true) →
        is_some (find (slice_cmp nat_cmp) name (private_names b v directory rows rest)) ≡ true →
        (is_path_among name names ≡ true → P) → (is_some (find (slice_cmp nat_cmp) name rest) ≡ true → P) → P
    private_has name P [] rest all is among before = before is
    private_has name P (row ∷ older) rest all is among before =
        by row.deed refl is (λ found. private_has name P older rest (λ path given. all path
        (or_right (gives_view v row.deed && is_path_among path (paths_given b row.deed)) (was_given b v path older) given))
        found among before)
      where
        by : (deed : Deed) → row.deed ≡ deed → is_some (find (slice_cmp nat_cmp) name
            (with_private b v directory deed (private_names b v directory older rest))) ≡ true →
            (is_some (find (slice_cmp nat_cmp) name (private_names b v directory older rest)) ≡ true → P) → P
        by (deeds.Put w p text) same is more =
            found_or P (((bytes_eq w v && bytes_eq (parent p) directory) && is_some (private b v p))
            && bytes_eq name (last_name p)) (at b v p) (find (slice_cmp nat_cmp) name
            (private_names b v directory older rest))
            (sym (ap is_some (find_if ((bytes_eq w v && bytes_eq (parent p) directory) && is_some (private b v p)) name
            (last_name p) (at b v p) (private_names b v directory older rest))) ∙ is)
            (λ h.
            let parts = and_parts ((bytes_eq w v && bytes_eq (parent p) directory) && is_some (private b v p))
            (bytes_eq name (last_name p)) h in
            let more = and_parts (bytes_eq w v && bytes_eq (parent p) directory) (is_some (private b v p)) parts.0 in
            let two = and_parts (bytes_eq w v) (bytes_eq (parent p) directory) more.0 in
            let given : was_given b v p b ≡ true = all p (or_left (gives_view v row.deed
            && is_path_among p (paths_given b row.deed)) (was_given b v p older)
            (ap (λ d. gives_view v d && is_path_among p (paths_given b d)) same
            ∙ ap₂ (λ (one two : Bool). one && (two || false)) two.0 (bytes_equal_themselves p))) in
            among (has.own p name given (lies_there law directory name p (has.below p given) two.1 parts.1)))
            more
        by deed same is more = more is

    object_has : (name : List ℕ) (held' : ReferencesByPath) → ((path : List ℕ) → is_some (held_at held' v path) ≡ true
        → was_given b v path b ≡ true) →
        is_some (find (slice_cmp nat_cmp) name (object_names b v directory held' [])) ≡ true → is_path_among name names ≡ true
    object_has name [] all is = absurd (cc)
    object_has name (entry ∷ held') all is =
        found_or (is_path_among name names ≡ true) ((bytes_eq entry.0.0 v && bytes_eq (parent entry.0.1) directory)
        && bytes_eq name (last_name entry.0.1)) (at b v entry.0.1)
        (find (slice_cmp nat_cmp) name (object_names b v directory held' []))
        (sym (ap is_some (find_if (bytes_eq entry.0.0 v && bytes_eq (parent entry.0.1) directory) name (last_name entry.0.1)
        (at b v entry.0.1) (object_names b v directory held' []))) ∙ is)
        (λ h.
        let parts = and_parts (bytes_eq entry.0.0 v && bytes_eq (parent entry.0.1) directory)
        (bytes_eq name (last_name entry.0.1))
        h in
        let two = and_parts (bytes_eq entry.0.0 v) (bytes_eq (parent entry.0.1) directory) parts.0 in
        let given : was_given b v entry.0.1 b ≡ true =
        all entry.0.1 (ap (λ t. is_some (cond t (Some entry.1) (held_at held' v entry.0.1)))
        (same_view_path v entry.0.1 entry.0.0 entry.0.1 ∙ ap₂ (λ (one two : Bool). one && two) two.0
        (bytes_equal_themselves entry.0.1))) in
        has.own entry.0.1 name given (lies_there law directory name entry.0.1 (has.below entry.0.1 given) two.1 parts.1))
        (object_has name held' (λ path found. all path (some_if (eq_by_cmp view_path_cmp (v, path) entry.0) entry.1
        (held_at held' v path) found)))

    catalog_has : (name : List ℕ) (P : Type 0) (catalog : Catalog) (rest : Names)
        → is_some (find (slice_cmp nat_cmp) name (catalog_names b v directory catalog rest)) ≡ true →
        (is_some (element_named name catalog) ≡ true → P) → (is_some (find (slice_cmp nat_cmp) name rest) ≡ true → P) → P
    catalog_has name P catalog rest is here before =
        found_or P (is_some (element_named name catalog) && is_something (seen_at name)) (seen_at name)
        (find (slice_cmp nat_cmp) name rest)
        (sym (ap is_some (catalog_find name catalog rest)) ∙ is)
        (λ h. here (and_parts (is_some (element_named name catalog)) (is_something (seen_at name)) h).0) before

    -- ---- the directory bytes_equal_themselves

    module _ (base : is_base b ≡ true) (path : IsPath directory) (sees : SeesDirectory b v directory e) where
      abbrev catalog : Catalog
      catalog = catalog_by sees.picked.out (own_of b v e) (catalog_of b sees.picked.row)

      entries : entries_of b v (at b v directory) ≡ Some catalog
      entries = ap (entries_of b v) sees.seen ∙ ap (entries_by b v e sees.picked) sees.kind

      catalog_given : (name : List ℕ) → is_some (element_named name catalog) ≡ true → is_path_among name names ≡ true
      catalog_given name is = by sees.picked.out refl is
        where
          by : (own : Bool) → sees.picked.out ≡ own → is_some (element_named name
              (catalog_by own (own_of b v e) (catalog_of b sees.picked.row))) ≡ true → is_path_among name names ≡ true
          by true out is = has.given name (checkout_given b v e name base is)
          by false out is =
              let seen = seen_element b v (reverse (names_of directory)) e sees.picked sees.seen in
              let pick = picked_is b v e (reverse (reverse (names_of directory))) sees.picked base seen.element seen.picks in
              has.given name (version_given b e sees.picked.row name base (pick.version out) is)

      abbrev table : Names
      table = names_in b v directory

      abbrev own_names : Names
      own_names = private_names b v directory b (object_names b v directory (objects_held b) [])

      table_is : table ≡ catalog_names b v directory catalog own_names
      table_is = ap (λ o. catalog_names b v directory (catalog_or_none o) own_names) entries

      has_keys : (name : List ℕ) → is_some (find (slice_cmp nat_cmp) name table) ≡ true → is_path_among name names ≡ true
      has_keys name is =
          catalog_has name (is_path_among name names ≡ true) catalog own_names
          (sym (ap (λ (all : Names). is_some (find (slice_cmp nat_cmp) name all)) table_is) ∙ is)
          (catalog_given name)
          (λ found. private_has name (is_path_among name names ≡ true) b (object_names b v directory (objects_held b) [])
          (λ p given. given) found (λ among. among)
          (object_has name (objects_held b) (held_given b v)))

      table_sorted : T (is_sorted (slice_cmp nat_cmp) table)
      table_sorted =
          subst (λ (all : Names). T (is_sorted (slice_cmp nat_cmp) all)) (sym table_is)
          (catalog_sorted catalog own_names (private_sorted b (object_names b v directory (objects_held b) [])
          (object_sorted (objects_held b))))

      -- what stands at the path of a name
      at_in : (name : List ℕ) → IsName name → seen_at name
          ≡ seeing.unless_too_long (path_of_entry directory name) (private_or (private b v (path_of_entry directory name))
          (element_at b v (names_of directory ++ name ∷ []) (element_named name catalog)))
      at_in name is =
          ap (λ ns. at_names b v (reverse ns)) (names_in_path directory name path is)
          ∙ ap (at_names b v) (reverse-append (names_of directory) (name ∷ []))
          ∙ ap₂ (λ (ns : List (List ℕ)) (o : Option Catalog). below b v ns name o)
          (sym (ap reverse (reverse-append (names_of directory) (name ∷ [])))
          ∙ reverse-reverse (names_of directory ++ name ∷ [])) entries

      found_in : (name : List ℕ) → IsName name → find (slice_cmp nat_cmp) name table
          ≡ cond (is_some (element_named name catalog) && is_something (seen_at name)) (Some (seen_at name))
          (cond (is_some (private b v (path_of_entry directory name))) (Some (seen_at name))
          (cond (is_some (held_at (objects_held b) v (path_of_entry directory name))) (Some (seen_at name)) None))
      found_in name is =
          ap (λ (all : Names). find (slice_cmp nat_cmp) name all) table_is
          ∙ catalog_find name catalog own_names
          ∙ ap (λ found. cond (is_some (element_named name catalog) && is_something (seen_at name)) (Some (seen_at name)) found)
          (private_find name path is b (object_names b v directory (objects_held b) []) has.below
          ∙ ap₂ (λ (t : Bool) (found : Option Seen). cond t (Some (seen_at name)) found)
          (put_there (is_some (private b v (path_of_entry directory name))) refl)
          (object_find name path is (objects_held b) (λ p found. has.below p (held_given b v p found))))
        where
          put_there : (q : Bool) → is_some (private b v (path_of_entry directory name)) ≡ q
              → (is_put (path_of_entry directory name) b && is_some (private b v (path_of_entry directory name)))
              ≡ is_some (private b v (path_of_entry directory name))
          put_there true e = ap (λ t. t && is_some (private b v (path_of_entry directory name)))
              (private_put (path_of_entry directory name) b e)
          put_there false e = ap (λ t. is_put (path_of_entry directory name) b && t) e
              ∙ never (is_put (path_of_entry directory name) b) ∙ sym e
            where
              never : (t : Bool) → (t && false) ≡ false
              never true = refl
              never false = refl

      -- a path that is too long is nothing's
      none_long : (name : List ℕ) → nat_lt 1024 (length (path_of_entry directory name)) ≡ true
          → was_given b v (path_of_entry directory name) b ≡ true → ⊥
      none_long name long given =
          let short = path-short (path_of_entry directory name) (has.below (path_of_entry directory name) given).0 in
          let above : 1024 < length (path_of_entry directory name) = grind (arith, nat_tests, long) in
          omega (arith, short, above)

      -- the line of a name is what the table tells of it
      pub line_at_is : (name : List ℕ) → IsName name → text_of_key (seen_line b v directory) table name
          ≡ line_at b v directory name (join_of directory name)
      line_at_is name is =
          ap (λ found. option_map_or (seen_line b v directory name) found []) (found_in name is)
          ∙ by (nat_lt 1024 (length (path_of_entry directory name))) refl
        where
          long_seen : nat_lt 1024 (length (path_of_entry directory name)) ≡ true
              → nat_le (length (path_of_entry directory name)) 1024 ≡ false
          long_seen long = grind (arith, nat_tests, long)

          short_seen : nat_lt 1024 (length (path_of_entry directory name)) ≡ false
              → nat_le (length (path_of_entry directory name)) 1024 ≡ true
          short_seen short = grind (arith, nat_tests, short)

          nothing_there : (c q o : Bool) (a : Seen) → is_something a ≡ false → q ≡ false → o ≡ false
              → option_map_or (seen_line b v directory name) (cond (c && is_something a) (Some a)
              (cond q (Some a) (cond o (Some a) None))) [] ≡ []
          nothing_there true q o a s p r = ap₂ (λ (x y : Bool). option_map_or (seen_line b v directory name)
              (cond x (Some a) (cond y (Some a) (cond o (Some a) None))) []) s p
              ∙ ap (λ z. option_map_or (seen_line b v directory name) (cond z (Some a) None) []) r
          nothing_there false q o a s p r = ap₂ (λ (y z : Bool). option_map_or (seen_line b v directory name)
              (cond y (Some a) (cond z (Some a) None)) []) p r

          element_line : (object : Option ℕ) (found : ℕ) (picked : Option Picked) →
              option_map_or (seen_line b v directory name) (cond (true && is_something (as_seen found picked))
              (Some (as_seen found picked)) (cond false (Some (as_seen found picked))
              (cond (is_some object) (Some (as_seen found picked)) None))) []
              ≡ seen_line_where b v directory name (as_seen found picked) object
          element_line object found (Some picked) = refl
          element_line object found None = refl

          shown : (row : Option ℕ) (found : Option ℕ) (object : Option ℕ) (a : Seen)
              → a ≡ private_or row (element_at b v (names_of directory ++ name ∷ []) found) →
              option_map_or (seen_line b v directory name) (cond (is_some found && is_something a) (Some a)
              (cond (is_some row) (Some a) (cond (is_some object) (Some a) None))) []
              ≡ seen_line_where b v directory name a object
          shown (Some row) None object a is = ap (λ (x : Seen). option_map_or (seen_line b v directory name)
              (cond (false && is_something x) (Some x) (cond true (Some x) (cond (is_some object) (Some x) None))) []) is
              ∙ sym (ap (λ (x : Seen). seen_line_where b v directory name x object) is)
          shown (Some row) (Some found) object a is = ap (λ (x : Seen). option_map_or (seen_line b v directory name)
              (cond (true && is_something x) (Some x) (cond true (Some x) (cond (is_some object) (Some x) None))) []) is
              ∙ sym (ap (λ (x : Seen). seen_line_where b v directory name x object) is)
          shown None None None a is = sym (ap (λ (x : Seen). seen_line_where b v directory name x None) is)
          shown None None (Some object) a is = ap (λ (x : Seen). option_map_or (seen_line b v directory name)
              (cond (false && is_something x) (Some x) (cond false (Some x) (cond true (Some x) None))) []) is
              ∙ sym (ap (λ (x : Seen). seen_line_where b v directory name x (Some object)) is)
          shown None (Some found) object a is =
              ap (λ (x : Seen). option_map_or (seen_line b v directory name)
              (cond (true && is_something x) (Some x) (cond false (Some x) (cond (is_some object) (Some x) None))) []) is
              ∙ element_line object found (selection_at b v found (names_of directory ++ name ∷ []))
              ∙ sym (ap (λ (x : Seen). seen_line_where b v directory name x object) is)

          by : (t : Bool) → nat_lt 1024 (length (path_of_entry directory name)) ≡ t →
              option_map_or (seen_line b v directory name) (cond (is_some (element_named name catalog)
              && is_something (seen_at name)) (Some (seen_at name))
              (cond (is_some (private b v (path_of_entry directory name))) (Some (seen_at name))
              (cond (is_some (held_at (objects_held b) v (path_of_entry directory name))) (Some (seen_at name)) None))) []
              ≡ line_at b v directory name (if t then Err (TooLong (length (path_of_entry directory name))) else Ok
              (path_of_entry directory name))
          by true long =
              let unseen : seen_at name ≡ Nothing =
              at_in name is ∙ ap (λ t. if t then private_or (private b v (path_of_entry directory name))
              (element_at b v (names_of directory ++ name ∷ []) (element_named name catalog)) else Nothing) (long_seen long)
              in
              nothing_there (is_some (element_named name catalog)) (is_some (private b v (path_of_entry directory name)))
              (is_some (held_at (objects_held b) v (path_of_entry directory name))) (seen_at name)
              (ap is_something unseen)
              (not_true (is_some (private b v (path_of_entry directory name)))
              (λ h. none_long name long (put_given (path_of_entry directory name) b
              (private_put (path_of_entry directory name) b h))))
              (not_true (is_some (held_at (objects_held b) v (path_of_entry directory name)))
              (λ h. none_long name long (held_given b v (path_of_entry directory name) h)))
          by false short =
              let visible : seen_at name ≡ private_or (private b v (path_of_entry directory name))
              (element_at b v (names_of directory ++ name ∷ []) (element_named name catalog)) =
              at_in name is ∙ ap (λ t. if t then private_or (private b v (path_of_entry directory name))
              (element_at b v (names_of directory ++ name ∷ []) (element_named name catalog)) else Nothing) (short_seen short)
              in
              shown (private b v (path_of_entry directory name)) (element_named name catalog)
              (held_at (objects_held b) v (path_of_entry directory name)) (seen_at name) visible

      -- The names of the directory are given by these names.
      pub ls_by_names : IsStrictlySortedBy (slice_cmp nat_cmp) names → concat
          (map (text_of_key (seen_line b v directory) table) names) ≡ ls_text b v directory
      ls_by_names ordered = by_keys (seen_line b v directory) names table ordered table_sorted has_keys
