-- A view that selects by the record of an object covers the record.
use Rattle.std.proofs.Common.{◌≡◌, refl, ap, sym, subst, ◌∙◌, ℕ, zero, suc, ◌<◌, Bool, true, false, not, cond, ◌==◌, Option}
use Rattle.std.proofs.Common.{Some, None, List, [], ◌∷◌, arith}
use Rattle.std.proofs.lemmas.List.{reverse-reverse}
use Rattle.std.specs.FinMap.Entries.{find}
use Rattle.std.specs.Option.{option_or}
use Rattle.std.specs.Ordering.{nat_cmp}
use Rattle.std.specs.Prelude.{is_some, option_and_then, option_map, reverse}
use Rattle.cc_names.specs.Paths.{names_of}
use Rattle.cc_names.specs.Versions.{version_id, kind_of}
use Rattle.cc_names.specs.declared.changes.VersionId.{VersionId}
use Rattle.cc_names.specs.declared.rows.Kind.TheVariants.{File}
use Rattle.cc_names.specs.declared.selection.Picked.{Picked}
use Rattle.cc_names.proofs.Common.{same_number}
use Rattle.base_model.specs.ConfigSpecs.Rules.{finds, is_checkout, picked_by}
use Rattle.base_model.specs.Rows.{Base, only_where}
use Rattle.base_model.specs.Changes.{targets_of, tree}
use Rattle.base_model.specs.Closures.{Input, Inputs, input_cmp, closure, greater_of, is_path_among, is_version_of}
use Rattle.base_model.specs.Closures.{recorded_version, listing, listing_of, version_listed, with_version_at}
use Rattle.base_model.specs.Fits.{is_base}
use Rattle.base_model.specs.Objects.{uncovered_path, uncovered_among, agrees}
use Rattle.base_model.specs.Seen.{file_at, file_seen, row_of_file, selection_at, sources}
use Rattle.base_model.proofs.Tables.{find_after_put}
use Rattle.base_model.proofs.LabelsHold.{greater, version_id_listed}
use Rattle.base_model.proofs.Makings.{seen_element}
use Rattle.base_model.proofs.Owned.{same_is_same}
use Rattle.base_model.proofs.VersionsStay.{is_version}
use Rattle.legal_history.specs.Laws.Selected.{SeesByRecord, IsOnlyVersion, IsSelected, WasAbsent, IsVersion}
use Rattle.legal_history.proofs.Reuse.ClosureFiles.{listed_is_file}
use Rattle.base_model.proofs.Covered.{Keyed, closure_keyed, prefix_found, later_found}

-- what the listing of some inputs has of an element is the row of one of them that is a version of it
listed_is : (b : Base) (P : ℕ → Type 0) (e : ℕ) (inputs : Inputs) (r : ℕ) → Keyed inputs
    → ((input : Input) → is_some (find input_cmp input inputs) ≡ true → is_version_of b e input.1 ≡ true → P input.1) →
    find nat_cmp e (listing_of b inputs) ≡ Some r → P r
listed_is b P e [] r keyed each h = absurd (cc)
listed_is b P e (input ∷ rest) r keyed each h =
    by (version_listed b input.1) refl h (λ r found. listed_is b P e rest r keyed.1
    (λ q has version. each q (later_found q input rest has) version) found)
  where
    own : (p : VersionId) → version_id (tree b) input.1 ≡ Some p → p.element ≡ e → P input.1
    own p is same = subst P (sym keyed.0) (each input.0 (prefix_found input rest) (ap (is_version_of b e) (sym keyed.0)
        ∙ is_version b e input.1 p is same))

    or_greater : (p : VersionId) → version_id (tree b) input.1 ≡ Some p → p.element ≡ e
        → ((r : ℕ) → find nat_cmp e (listing_of b rest) ≡ Some r → P r) → (o : Option ℕ)
        → find nat_cmp p.element (listing_of b rest) ≡ o → P (greater_of input.1 o)
    or_greater p is same before None found = own p is same
    or_greater p is same before (Some other) found = greater P input.1 other (own p is same)
        (before other (ap (λ k. find nat_cmp k (listing_of b rest)) (sym same) ∙ found))

    by_number : (p : VersionId) (t : Bool) → version_id (tree b) input.1 ≡ Some p → (e == p.element) ≡ t
        → cond t (Some (greater_of input.1 (find nat_cmp p.element (listing_of b rest)))) (find nat_cmp e (listing_of b rest))
        ≡ Some r →
        ((r : ℕ) → find nat_cmp e (listing_of b rest) ≡ Some r → P r) → P r
    by_number p true is test h before =
        let same : greater_of input.1 (find nat_cmp p.element (listing_of b rest)) ≡ r = cc in
        subst P same (or_greater p is (sym (same_number e p.element test)) before (find nat_cmp p.element (listing_of b rest))
        refl)
    by_number p false is test h before = before r h

    by : (o : Option VersionId) → version_listed b input.1 ≡ o → find nat_cmp e (with_version_at input.1 o (listing_of b rest))
        ≡ Some r → ((r : ℕ) → find nat_cmp e (listing_of b rest) ≡ Some r → P r) → P r
    by None is h before = before r h
    by (Some p) is h before =
        by_number p (e == p.element) (version_id_listed b input.1 p is) refl
        (sym (find_after_put e p.element (greater_of input.1 (find nat_cmp p.element (listing_of b rest)))
        (listing_of b rest)) ∙ h) before

-- what is listed of an element is its only version in the closure, and the element is a file
only_listed : (b : Base) (id e row : ℕ) (target : List ℕ) (r : ℕ) → is_base b ≡ true → IsOnlyVersion b id e row
    → recorded_version b id target e ≡ Some r → (r ≡ row) × (0 < r → kind_of (tree b) e ≡ Some File)
only_listed b id e row target r base o h = by (is_path_among target (targets_of b id)) h
  where
    by : (t : Bool) → only_where t (find nat_cmp e (listing b id)) ≡ Some r → (r ≡ row) × (0 < r → kind_of (tree b) e ≡ Some File)
    by true h =
        listed_is b (λ k. (k ≡ row) × (0 < k → kind_of (tree b) e ≡ Some File)) e (closure b id) r (closure_keyed b id)
        (λ input has version. (o.only input has version, listed_is_file b id e input base has version)) h
    by false h = absurd (cc)

-- the row that is picked by a record is the one that it lists
picked_row : (b : Base) (v target : List ℕ) (id : ℕ) (path : List ℕ) (e : ℕ) (s : SeesByRecord b v target id path e)
    → recorded_version b id target e ≡ Some s.picked.row
picked_row b v target id path e s = by (recorded_version b id target e) refl found
  where
    seen : selection_at b v e (names_of path) ≡ Some s.picked
    seen = ap (selection_at b v e) (sym (reverse-reverse (names_of path)))
        ∙ (seen_element b v (reverse (names_of path)) e s.picked s.stands).picks

    found : option_map (λ row. record { row = row; line = s.rule.line; out = is_checkout s.rule.selector })
        (recorded_version b id target e) ≡ Some s.picked
    found = ap (λ selector. option_map (λ row. record { row = row; line = s.rule.line; out = is_checkout s.rule.selector })
        (finds (sources b v e) e s.rule.before selector)) (sym s.by_record)
        ∙ sym (ap (option_and_then (picked_by (sources b v e) e)) s.decides) ∙ seen

    by : (o : Option ℕ) → recorded_version b id target e ≡ o → option_map
        (λ row. record { row = row; line = s.rule.line; out = is_checkout s.rule.selector }) o ≡ Some s.picked
        → o ≡ Some s.picked.row
    by None is h = absurd (cc)
    by (Some r) is h =
        let same : record { row = r; line = s.rule.line; out = is_checkout s.rule.selector } ≡ s.picked = cc in
        ap (λ (p : Picked). Some p.row) same

seen_file : (b : Base) (v target : List ℕ) (id : ℕ) (path : List ℕ) (e : ℕ) (s : SeesByRecord b v target id path e)
    → kind_of (tree b) e ≡ Some File → file_at b v path ≡ Some s.picked.row
seen_file b v target id path e s kind = ap (file_seen b) s.stands ∙ ap (row_of_file s.picked) kind

selected_agrees : (b : Base) (v target : List ℕ) (id : ℕ) (path : List ℕ) (row : ℕ) → is_base b ≡ true
    → IsSelected b v target id path row → agrees row (file_at b v path) ≡ true
selected_agrees b v target id path row base (WasAbsent none unseen) = ap (λ k. agrees k (file_at b v path)) none
    ∙ ap (agrees 0) unseen
selected_agrees b v target id path zero base (IsVersion e above only s) = absurd (omega arith)
selected_agrees b v target id path (suc r) base (IsVersion e above only s) =
    let picked : (s.picked.row ≡ suc r) × (0 < s.picked.row → kind_of (tree b) e ≡ Some File) =
    only_listed b id e (suc r) target s.picked.row base only (picked_row b v target id path e s) in
    let kind : kind_of (tree b) e ≡ Some File = picked.1 (subst (λ k. 0 < k) (sym picked.0) above) in
    ap (agrees (suc r)) (seen_file b v target id path e s kind ∙ ap Some picked.0) ∙ same_is_same (suc r)

all_covered : (b : Base) (v : List ℕ) (inputs : Inputs) → Keyed inputs
    → ((input : Input) → is_some (find input_cmp input inputs) ≡ true → agrees input.1 (file_at b v input.0) ≡ true)
    → uncovered_among b v inputs ≡ None
all_covered b v [] keyed each = refl
all_covered b v (input ∷ rest) keyed each =
    ap (λ t. option_or (only_where (not t) (Some input.0.0)) (uncovered_among b v rest))
    (ap (λ k. agrees k (file_at b v input.0.0)) keyed.0 ∙ each input.0 (prefix_found input rest))
    ∙ all_covered b v rest keyed.1 (λ q has. each q (later_found q input rest has))

-- The law of a selection by a record.
pub selection_covers : (b : Base) (v target : List ℕ) (id : ℕ) → is_base b ≡ true
    → ((path : List ℕ) (row : ℕ) → is_some (find input_cmp (path, row) (closure b id)) ≡ true → IsSelected b v target id path row)
    → uncovered_path b v id ≡ None
selection_covers b v target id base each = all_covered b v (closure b id) (closure_keyed b id)
    (λ input has. selected_agrees b v target id input.0 input.1 base (each input.0 input.1 has))
