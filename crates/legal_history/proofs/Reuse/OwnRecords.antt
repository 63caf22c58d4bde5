-- Where a unit may reuse nothing, no live object has the record that the unit would publish.
use Rattle.std.proofs.Common.{◌≡◌, refl, ap, sym, subst, ◌∙◌, ℕ, zero, suc, Bool, true, false, ◌&&◌, Option, Some, None, List}
use Rattle.std.proofs.Common.{[], ◌∷◌, map, arith}
use Rattle.std.proofs.lemmas.Map.Text.{is_eq-slice_cmp}
use Rattle.std.proofs.lemmas.Slice.Eq.{bytes_eq-Decides}
use Rattle.std.specs.Bool.{⊤}
use Rattle.std.specs.Cmp.Lexicographic.{slice_cmp}
use Rattle.std.specs.FinMap.Entries.{put, by_order}
use Rattle.std.specs.List.{list_all}
use Rattle.std.specs.Ordering.{nat_cmp, is_eq}
use Rattle.std.specs.Prelude.{is_some, bytes_eq, reverse}
use Rattle.std.specs.declared.cmp.Ordering.{Ordering}
use Rattle.std.specs.declared.cmp.Ordering.TheVariants.{Less, Equal, Greater}
use Rattle.cc_names.specs.Paths.{names_of, path_of_names}
use Rattle.cc_names.specs.Versions.{kind_of}
use Rattle.cc_names.specs.declared.rows.Deed.TheVariants as deeds
use Rattle.cc_names.specs.declared.rows.Kind.{Kind}
use Rattle.cc_names.specs.declared.rows.Kind.TheVariants.{File, Directory}
use Rattle.cc_names.specs.declared.selection.Picked.{Picked}
use Rattle.cc_names.specs.declared.selection.Seen.{Seen}
use Rattle.cc_names.specs.declared.selection.Seen.TheVariants.{Private, Element, Unselected, Nothing}
use Rattle.cc_names.specs.declared.units.Unit.{Unit}
use Rattle.cc_names.proofs.Common.{bytes_equal_themselves}
use Rattle.base_model.specs.Rows.{Base, first_rows, deed_at}
use Rattle.legal_history.specs.Builds.Active.{Build}
use Rattle.base_model.specs.Changes.{live_row, tree}
use Rattle.legal_history.specs.Builds.Choices.{as_entry, entries, entry_row, here, in_order, visible}
use Rattle.base_model.specs.Closures.{is_version_of}
use Rattle.base_model.specs.Fits.{is_base}
use Rattle.legal_history.specs.Builds.Fresh.{script_text}
use Rattle.base_model.specs.Objects.{agrees}
use Rattle.legal_history.specs.Builds.Reuse.{entry_agrees, matches, record_matches, reusable}
use Rattle.base_model.specs.Seen.{at, file_at, file_seen, row_of_file}
use Rattle.base_model.proofs.PrivateFiles.{private_at}
use Rattle.base_model.proofs.Makings.{seen_element}
use Rattle.base_model.proofs.Owned.{same_is_same}
use Rattle.base_model.proofs.Picks.{IsPick, picked_is}
use Rattle.base_model.proofs.NamedEdits.{one_element}
use Rattle.base_model.proofs.RootRow.{no_row, root_is_directory, root_version}
use Rattle.base_model.proofs.OwnRows.{making_text, private_put}
use Rattle.legal_history.specs.Laws.Objects.{GivesLive}
use Rattle.legal_history.proofs.Reuse.Members.{seen_by}
use Rattle.legal_history.specs.Laws.Given.{SeenBy, ByUnit, ByFile}
use Rattle.legal_history.proofs.Reuse.PassedOver.{nothing_passed_over}
use Rattle.legal_history.proofs.Reuse.Reusables.{first_are_base}
use Rattle.legal_history.proofs.Reuse.SoundRows.{live_above}
use Rattle.legal_history.proofs.Reuse.TrueObjects.{texts_alike}

-- no view sees row 0 as a file
no_root_file : (b : Base) (v path : List ℕ) → is_base b ≡ true → file_at b v path ≡ Some 0 → ⊥
no_root_file b v path base h = by (at b v path) refl h
  where
    of_pick : (e : ℕ) (picked : Picked) (own : Bool) → picked.out ≡ own → IsPick b v e picked → picked.row ≡ 0
        → kind_of (tree b) e ≡ Some File → ⊥
    of_pick e picked true is pick zero_row kind = let text = making_text b v e 0 (pick.own is ∙ ap Some zero_row) in
        no_row b text.deed text.made
    of_pick e picked false is pick zero_row kind =
        let version : is_version_of b e 0 ≡ true = subst (λ r. is_version_of b e r ≡ true) zero_row (pick.version is) in
        let root : e ≡ 0 = one_element b e 0 0 version (root_version b) in
        let clash : Some File ≡ Some Directory = sym kind ∙ ap (kind_of (tree b)) root ∙ root_is_directory b in
        cc

    of_kind : (e : ℕ) (picked : Picked) (k : Option Kind) → kind_of (tree b) e ≡ k → IsPick b v e picked
        → row_of_file picked k ≡ Some 0 → ⊥
    of_kind e picked None is pick h = cc
    of_kind e picked (Some Directory) is pick h = cc
    of_kind e picked (Some File) is pick h = of_pick e picked picked.out refl pick (cc) is

    by : (seen : Seen) → at b v path ≡ seen → file_seen b seen ≡ Some 0 → ⊥
    by (Private row) is h =
        let same : row ≡ 0 = cc in
        let put_it = private_put b v (path_of_names (reverse (reverse (names_of path)))) row
        (private_at b v (reverse (names_of path)) row is) in
        no_row b put_it.deed (ap (deed_at b) (sym same) ∙ put_it.made)
    by (Element e picked) is h =
        let seen = seen_element b v (reverse (names_of path)) e picked is in
        of_kind e picked (kind_of (tree b) e) refl (picked_is b v e (reverse (reverse (names_of path))) picked base seen.element
        seen.picks) h
    by (Unselected e) is h = cc
    by Nothing is h = cc

-- the entry that is made of what a unit sees agrees with it
own_agrees : (b : Base) (build : Build) (n : ℕ) (unit : Unit) (path : List ℕ) → is_base (first_rows build.rows b) ≡ true
    → GivesLive b build → agrees (entry_row (visible b build n unit path)) (visible b build n unit path) ≡ true
own_agrees b build n unit path base gives = by (visible b build n unit path) refl
  where
    no_root : SeenBy b build n unit path 0 → ⊥
    no_root (ByUnit g) = let above = live_above b 0 (gives.lives g.m 0 g.given) in absurd (omega arith)
    no_root (ByFile file) = no_root_file (first_rows build.rows b) build.view path base file

    by : (o : Option ℕ) → visible b build n unit path ≡ o → agrees (entry_row o) o ≡ true
    by None is = refl
    by (Some zero) is = absurd (no_root (seen_by b build n unit path 0 is))
    by (Some (suc r)) is = same_is_same (suc r)

-- entries that are put in order agree
abbrev AllAgree : (List ℕ → Option ℕ) → List (List ℕ × ℕ) → Type 0
AllAgree rows [] = ⊤
AllAgree rows (pair ∷ pairs) = (entry_agrees rows (as_entry pair) ≡ true) × AllAgree rows pairs

put_agrees : (rows : List ℕ → Option ℕ) (path : List ℕ) (row : ℕ) (pairs : List (List ℕ × ℕ)) → agrees row (rows path) ≡ true
    → AllAgree rows pairs → AllAgree rows (put (slice_cmp nat_cmp) path row pairs)
put_agrees rows path row [] agree h = (agree, tt)
put_agrees rows path row (pair ∷ pairs) agree h = by (slice_cmp nat_cmp path pair.0) refl
    (put_agrees rows path row pairs agree h.1)
  where
    by : (o : Ordering) → slice_cmp nat_cmp path pair.0 ≡ o → AllAgree rows (put (slice_cmp nat_cmp) path row pairs) →
        AllAgree rows (by_order o ((path, row) ∷ pair ∷ pairs) ((pair.0, row) ∷ pairs)
        (pair ∷ put (slice_cmp nat_cmp) path row pairs))
    by Less place rest = (agree, h)
    by Equal place rest = (
      subst (λ p. agrees row (rows p) ≡ true) ((bytes_eq-Decides path pair.0).0
          (sym (is_eq-slice_cmp path pair.0) ∙ ap is_eq place)) agree,
      h.1,
    )
    by Greater place rest = (h.0, rest)

in_order_agrees : (rows : List ℕ → Option ℕ) (paths : List (List ℕ)) → ((path : List ℕ)
    → agrees (entry_row (rows path)) (rows path) ≡ true) → AllAgree rows (in_order rows paths)
in_order_agrees rows [] each = tt
in_order_agrees rows (path ∷ paths) each = put_agrees rows path (entry_row (rows path)) (in_order rows paths) (each path)
    (in_order_agrees rows paths each)

all_entries : (rows : List ℕ → Option ℕ) (pairs : List (List ℕ × ℕ)) → AllAgree rows pairs
    → list_all (entry_agrees rows) (map as_entry pairs) ≡ true
all_entries rows [] h = refl
all_entries rows (pair ∷ pairs) h = ap (λ t. t && list_all (entry_agrees rows) (map as_entry pairs)) h.0
    ∙ all_entries rows pairs h.1

-- an object with the record that the unit would publish matches the unit
same_matches : (b : Base) (build : Build) (n : ℕ) (unit : Unit) (id : ℕ) (v : List ℕ) (outputs : List (List ℕ))
    → is_base (first_rows build.rows b) ≡ true → GivesLive b build →
    deed_at b id ≡ Some (deeds.Publish v unit.targets (script_text unit.script)
    (entries (visible b build n unit) (here b build n unit).reads) outputs) → matches b build n unit id ≡ true
same_matches b build n unit id v outputs base gives is =
    ap (record_matches unit.targets script rows) is
    ∙ ap (λ t. (t && bytes_eq script script) && list_all (entry_agrees rows) (entries rows reads)) (texts_alike unit.targets)
    ∙ ap (λ t. t && list_all (entry_agrees rows) (entries rows reads)) (bytes_equal_themselves script)
    ∙ all_entries rows (in_order rows reads) (in_order_agrees rows reads (λ path. own_agrees b build n unit path base gives))
  where
    script : List ℕ
    script = script_text unit.script

    rows : List ℕ → Option ℕ
    rows = visible b build n unit

    reads : List (List ℕ)
    reads = (here b build n unit).reads

pub no_second_record : (b : Base) (build : Build) (n : ℕ) (unit : Unit) (id : ℕ) (v : List ℕ) (outputs : List (List ℕ))
    → is_base b ≡ true → GivesLive b build → build.own_only ≡ false → build.rebuild ≡ false → reusable b build n unit ≡ None →
    deed_at b id ≡ Some (deeds.Publish v unit.targets (script_text unit.script)
    (entries (visible b build n unit) (here b build n unit).reads) outputs) → is_some (live_row b id) ≡ false
no_second_record b build n unit id v outputs base gives own_only rebuild none is = by (is_some (live_row b id)) refl
  where
    by : (t : Bool) → is_some (live_row b id) ≡ t → t ≡ false
    by false e = refl
    by true e =
        let passed = nothing_passed_over b build n unit id own_only rebuild none e in
        let match = same_matches b build n unit id v outputs (first_are_base b build.rows base) gives is in
        sym match ∙ passed
