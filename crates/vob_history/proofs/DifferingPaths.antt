-- The paths at which two records differ, found by their keys.
use Rattle.std.proofs.Common.{◌≡◌, refl, ap, ap₂, sym, ◌∙◌, ℕ, suc, ◌-◌, ◌<◌, Bool, true, false, cond, ◌||◌, Option, Some, None}
use Rattle.std.proofs.Common.{List, [], ◌∷◌, length, drop, drop-cons, get_or, map, ◌++◌, bytes_eq, arith}
use Rattle.std.proofs.lemmas.Cmp.{nat_list_cmp_total}
use Rattle.std.proofs.lemmas.Map.Text.{is_eq-slice_cmp}
use Rattle.std.proofs.lemmas.Slice.Eq.{bytes_eq-Decides}
use Rattle.std.specs.BTreeMap.{is_at}
use Rattle.std.specs.Cmp.Lexicographic.{slice_cmp}
use Rattle.std.specs.FinMap.Entries.{find, find-put, is_sorted, is_sorted-put}
use Rattle.std.specs.List.{concat}
use Rattle.std.specs.List.Sorted.{IsStrictlySortedBy}
use Rattle.std.specs.Option.{option_map_or}
use Rattle.std.specs.Ordering.{nat_cmp}
use Rattle.std.specs.Prelude.{T, codes, is_some, option_map, find as find_in}
use Rattle.cc_names.specs.declared.rows.ReadOf.{ReadOf}
use Rattle.cc_names.proofs.Common.{or_first_false, or_second_false}
use Rattle.base_model.specs.Changes.{targets_of}
use Rattle.base_model.specs.Closures.{is_path_among}
use Rattle.base_model.specs.Objects.{are_same_paths, record_of, row_in}
use Rattle.base_model.specs.Rows.{Base}
use Rattle.legal_history.specs.Queries.RecordTexts.{Paths, diffcr_text, recorded_script, path_lines, with_paths, unless_same}
use Rattle.vob_history.specs.Differences.{is_path_read, difference_lines}
use Rattle.vob_history.specs.declared.records.Record.{Record}
use Rattle.view_lookup.proofs.ByKeys.{by_keys, text_of_key}

-- the row of a path, by the first entry
row_first : (entry : ReadOf) (entries : List ReadOf) (path : List ℕ) → row_in (entry ∷ entries) path
    ≡ cond (bytes_eq entry.path path) (Some entry.row) (row_in entries path)
row_first entry entries path = by (bytes_eq entry.path path)
  where
    by : (t : Bool) → option_map (λ (e : ReadOf). e.row) (cond t (Some entry) (find_in (λ e. bytes_eq e.path path) entries))
        ≡ cond t (Some entry.row) (row_in entries path)
    by true = refl
    by false = refl

-- one entry more, before those that were taken
pub row_more : (entries : List ReadOf) (i : ℕ) (entry : ReadOf) (key path : List ℕ) (old new : Option ℕ) → i - 1 < length entries
    → 0 < i → entry ≡ get_or entries (i - 1) entry → key ≡ entry.path →
    old ≡ row_in (drop i entries) path → new ≡ cond (is_at (slice_cmp nat_cmp key) path) (Some entry.row) old
    → new ≡ row_in (drop (i - 1) entries) path
row_more entries i entry key path old new within some at same stood put_in =
    let next : suc (i - 1) ≡ i = omega arith in
    let prefix : drop (i - 1) entries ≡ entry ∷ drop i entries =
    drop-cons entries (i - 1) entry within ∙ ap (λ e. e ∷ drop (suc (i - 1)) entries) (sym at)
    ∙ ap (λ n. entry ∷ drop n entries) next in
    put_in
    ∙ ap (λ t. cond t (Some entry.row) old) (is_eq-slice_cmp key path ∙ ap (λ p. bytes_eq p path) same)
    ∙ ap (cond (bytes_eq entry.path path) (Some entry.row)) stood
    ∙ sym (ap (λ (left : List ReadOf). row_in left path) prefix ∙ row_first entry (drop i entries) path)

-- a path that no entry has
unread : (entries : List ReadOf) (path : List ℕ) → is_path_read path entries ≡ false → row_in entries path ≡ None
unread [] path h = refl
unread (entry ∷ entries) path h = row_first entry entries path ∙ by (bytes_eq path entry.path) refl h (unread entries path)
  where
    turned : bytes_eq path entry.path ≡ false → bytes_eq entry.path path ≡ false
    turned apart = by (bytes_eq entry.path path) refl
      where
        by : (t : Bool) → bytes_eq entry.path path ≡ t → t ≡ false
        by true e = absurd (cc (apart, (bytes_eq-Decides path entry.path).1 (sym ((bytes_eq-Decides entry.path path).0 e))))
        by false e = refl

    by : (t : Bool) → bytes_eq path entry.path ≡ t → (t || is_path_read path entries) ≡ false
        → (is_path_read path entries ≡ false → row_in entries path ≡ None) → cond (bytes_eq entry.path path) (Some entry.row)
        (row_in entries path) ≡ None
    by true e h rest = absurd (cc)
    by false e h rest = ap (λ t. cond t (Some entry.row) (row_in entries path)) (turned e) ∙ rest h

-- which paths are put among others
put_paths : (entries : List ReadOf) (paths : Paths) (path : List ℕ) → is_some
    (find (slice_cmp nat_cmp) path (with_paths entries paths)) ≡ (is_path_read path entries
    || is_some (find (slice_cmp nat_cmp) path paths))
put_paths [] paths path = refl
put_paths (entry ∷ entries) paths path =
    ap is_some (find-put (slice_cmp nat_cmp) nat_list_cmp_total path entry.path entry.path (with_paths entries paths))
    ∙ ap (λ t. is_some (cond t (Some entry.path) (find (slice_cmp nat_cmp) path (with_paths entries paths))))
    (is_eq-slice_cmp path entry.path)
    ∙ by (bytes_eq path entry.path) (put_paths entries paths path)
  where
    by : (t : Bool) → is_some (find (slice_cmp nat_cmp) path (with_paths entries paths))
        ≡ (is_path_read path entries || is_some (find (slice_cmp nat_cmp) path paths)) →
        is_some (cond t (Some entry.path) (find (slice_cmp nat_cmp) path (with_paths entries paths)))
        ≡ ((t || is_path_read path entries) || is_some (find (slice_cmp nat_cmp) path paths))
    by true rest = refl
    by false rest = rest

put_sorted : (entries : List ReadOf) (paths : Paths) → T (is_sorted (slice_cmp nat_cmp) paths)
    → T (is_sorted (slice_cmp nat_cmp) (with_paths entries paths))
put_sorted [] paths h = h
put_sorted (entry ∷ entries) paths h = is_sorted-put (slice_cmp nat_cmp) nat_list_cmp_total entry.path entry.path
    (with_paths entries paths) (put_sorted entries paths h)

either : (a b : Bool) → (a || (b || false)) ≡ (a || b)
either true b = refl
either false true = refl
either false false = refl

same_map : (f g : List ℕ → List ℕ) (keys : List (List ℕ)) → ((key : List ℕ) → f key ≡ g key) → map f keys ≡ map g keys
same_map f g [] same = refl
same_map f g (key ∷ keys) same = ap₂ (λ (one : List ℕ) (more : List (List ℕ)). one ∷ more) (same key) (same_map f g keys same)

-- what is known of a path, as a table tells it
abbrev of_path : Base → List ReadOf → List ReadOf → List ℕ → List ℕ → List ℕ
of_path b one two key path = path_lines b one two key

-- the paths of two records
abbrev table_of : List ReadOf → List ReadOf → Paths
table_of one two = with_paths one (with_paths two [])

has_path : (one two : List ReadOf) (path : List ℕ) → is_some (find (slice_cmp nat_cmp) path (table_of one two))
    ≡ (is_path_read path one || is_path_read path two)
has_path one two path = put_paths one (with_paths two []) path ∙ ap (λ t. is_path_read path one || t) (put_paths two [] path)
    ∙ either (is_path_read path one) (is_path_read path two)

-- what is known of a path, by the table
path_by_table : (b : Base) (one two : List ReadOf) (key : List ℕ) → path_lines b one two key
    ≡ text_of_key (of_path b one two) (table_of one two) key
path_by_table b one two key = by (find (slice_cmp nat_cmp) key (table_of one two)) refl
  where
    by : (found : Option (List ℕ)) → find (slice_cmp nat_cmp) key (table_of one two) ≡ found
        → path_lines b one two key ≡ option_map_or (of_path b one two key) found []
    by (Some path) e = refl
    by None e =
        let neither : (is_path_read key one || is_path_read key two) ≡ false = sym (has_path one two key) ∙ ap is_some e in
        ap₂ (difference_lines b key) (unread one key (or_first_false (is_path_read key one) (is_path_read key two) neither))
        (unread two key (or_second_false (is_path_read key one) (is_path_read key two) neither))

-- Paths in order that are those of two records tell what the model tells.
pub paths_found : (b : Base) (one two : List ReadOf) (keys : List (List ℕ)) → IsStrictlySortedBy (slice_cmp nat_cmp) keys
    → ((path : List ℕ) → is_path_among path keys ≡ (is_path_read path one || is_path_read path two)) →
    concat (map (path_lines b one two) keys) ≡ concat (map (λ path. path_lines b one two path.0)
    (with_paths one (with_paths two [])))
paths_found b one two keys ordered among =
    ap concat (same_map (path_lines b one two) (text_of_key (of_path b one two) (table_of one two)) keys
    (path_by_table b one two))
    ∙ by_keys (of_path b one two) keys (table_of one two) ordered (put_sorted one (with_paths two []) (put_sorted two [] tt))
    (λ key is. among key ∙ sym (has_path one two key) ∙ is)

-- How two records differ, as it is written.
pub differences_written : (b : Base) (one two : ℕ) (first second : Record) (same_targets same_script : Bool)
    (keys : List (List ℕ)) (text : List ℕ) →
    first.targets.now ≡ targets_of b one → second.targets.now ≡ targets_of b two → first.script.now ≡ recorded_script b one
    → second.script.now ≡ recorded_script b two → first.entries.now ≡ record_of b one → second.entries.now ≡ record_of b two →
    same_targets ≡ are_same_paths first.targets.now second.targets.now
    → same_script ≡ bytes_eq first.script.now second.script.now
    → IsStrictlySortedBy (slice_cmp nat_cmp) keys → ((path : List ℕ)
    → is_path_among path keys ≡ (is_path_read path first.entries.now || is_path_read path second.entries.now)) →
    text ≡ (unless_same same_targets (codes "targets differ\n") ++ unless_same same_script (codes "script differs\n"))
    ++ concat (map (path_lines b first.entries.now second.entries.now) keys) → text ≡ diffcr_text b one two
differences_written b one two first second same_targets same_script keys text one_targets two_targets one_script two_script
    one_entries two_entries targets script ordered among is =
    let listed = concat (map (path_lines b first.entries.now second.entries.now) keys) in
    let targets_line = unless_same (are_same_paths (targets_of b one) (targets_of b two)) (codes "targets differ\n") in
    let script_line = unless_same (bytes_eq (recorded_script b one) (recorded_script b two)) (codes "script differs\n") in
    is
    ∙ ap (λ t. (unless_same t (codes "targets differ\n") ++ unless_same same_script (codes "script differs\n")) ++ listed)
    (targets ∙ ap₂ are_same_paths one_targets two_targets)
    ∙ ap (λ t. (targets_line ++ unless_same t (codes "script differs\n")) ++ listed) (script ∙ ap₂ bytes_eq one_script two_script)
    ∙ ap (λ (rest : List ℕ). (targets_line ++ script_line) ++ rest)
    (paths_found b first.entries.now second.entries.now keys ordered among
    ∙ ap₂ (λ (one two : List ReadOf). concat (map (λ path. path_lines b one two path.0) (with_paths one (with_paths two []))))
    one_entries two_entries)
