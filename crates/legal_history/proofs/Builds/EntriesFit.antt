-- The record of a ready unit's run fits: each entry says that nothing was there, or names the text of a file or an output.
use Rattle.std.proofs.Common.{◌≡◌, refl, ap, sym, subst, ◌∙◌, ℕ, zero, suc, Bool, true, false, ◌&&◌, ◌||◌, ◌==◌, Option, Some}
use Rattle.std.proofs.Common.{None, List, [], ◌∷◌, map, arith}
use Rattle.std.specs.Bool.{⊤}
use Rattle.std.specs.Option.{option_or}
use Rattle.std.specs.Cmp.Lexicographic.{slice_cmp}
use Rattle.std.specs.List.{AllByRecursion, list_all}
use Rattle.std.specs.Ordering.{nat_cmp}
use Rattle.std.specs.declared.cmp.Ordering.{Ordering}
use Rattle.std.specs.declared.cmp.Ordering.TheVariants.{Less, Equal, Greater}
use Rattle.std.specs.FinMap.Entries.{put, by_order}
use Rattle.std.proofs.lemmas.Bool.{or_left, or_right}
use Rattle.cc_names.specs.declared.units.Unit.{Unit}
use Rattle.cc_names.proofs.Common.{texts_tied}
use Rattle.base_model.specs.Rows.{Base, first_rows, deed_at, only_where}
use Rattle.legal_history.specs.Builds.Active.{Build, object_of}
use Rattle.base_model.specs.Changes.{targets_of}
use Rattle.legal_history.specs.Builds.Choices.{unit_of_member, members_before, object_among, visible, entry_row, in_order}
use Rattle.legal_history.specs.Builds.Choices.{as_entry, entries}
use Rattle.base_model.specs.Closures.{is_path_among}
use Rattle.base_model.specs.Conditions.{is_entry, makes_file_text}
use Rattle.legal_history.specs.Builds.Consistency.{IsObjectOf, IsReady, IsConsistent}
use Rattle.base_model.specs.Seen.{file_at}
use Rattle.legal_history.specs.Builds.Serials.{makes, needed_units}
use Rattle.base_model.proofs.FilesBelow.{beyond}
use Rattle.legal_history.proofs.Builds.Pairs.{Pair, unit_in, member_of, pairs_before, members_paired, needed_mapped}
use Rattle.base_model.proofs.FileRows.{FileText, file_is_text, file_text_stays_all}
use Rattle.legal_history.proofs.Builds.NeededAgree.{needed_each, ready_over}

-- the object that a unit was given has the unit's targets
abbrev HasItsTargets : Base → Pair → Type 0
HasItsTargets b p = (id : ℕ) → object_of p.came ≡ Some id → IsObjectOf b p.unit id

-- an object that one of some such units was given at a path has this path as a target
object_has : (b : Base) (path : List ℕ) (id : ℕ) (pairs : List Pair) → AllByRecursion (HasItsTargets b) pairs
    → object_among path (map member_of pairs) ≡ Some id → is_path_among path (targets_of b id) ≡ true
object_has b path id [] all is = absurd (cc)
object_has b path id (p ∷ pairs) all is = by (makes path p.unit) refl is (object_has b path id pairs all.1)
  where
    by_object : (o : Option ℕ) → makes path p.unit ≡ true → object_of p.came ≡ o
        → option_or o (object_among path (map member_of pairs)) ≡ Some id →
        (object_among path (map member_of pairs) ≡ Some id → is_path_among path (targets_of b id) ≡ true)
        → is_path_among path (targets_of b id) ≡ true
    by_object None made of_pair is rest = rest is
    by_object (Some other) made of_pair is rest = ap (is_path_among path) (all.0 id (of_pair ∙ is)).targets ∙ made

    by : (t : Bool) → makes path p.unit ≡ t → option_or (only_where t (object_of p.came))
        (object_among path (map member_of pairs)) ≡ Some id →
        (object_among path (map member_of pairs) ≡ Some id → is_path_among path (targets_of b id) ≡ true)
        → is_path_among path (targets_of b id) ≡ true
    by true made is rest = by_object (object_of p.came) made refl is rest
    by false made is rest = rest is

-- the entry of what a ready unit sees
entry_fits : (b : Base) (build : Build) (n : ℕ) (u : Unit) (path : List ℕ) → IsConsistent b build → IsReady build u →
    is_entry b (record { path = path; row = entry_row (visible b build n u path) }) ≡ true
entry_fits b build n u path h ready = by (object_among path (needed_units unit_of_member u.prerequisites
    (members_before build n))) (file_at (first_rows build.rows b) build.view path) refl refl
  where
    paired : needed_units unit_of_member u.prerequisites (members_before build n)
        ≡ map member_of (needed_units unit_in u.prerequisites (pairs_before (first_rows build.rows b) build n))
    paired = ap (needed_units unit_of_member u.prerequisites) (members_paired (first_rows build.rows b) build n)
        ∙ needed_mapped member_of unit_of_member u.prerequisites (pairs_before (first_rows build.rows b) build n)

    of_file : (r : ℕ) → file_at (first_rows build.rows b) build.view path ≡ Some r
        → is_entry b (record { path = path; row = r }) ≡ true
    of_file zero is = refl
    of_file (suc r) is =
        let more = beyond b build.rows in
        let text : FileText b (suc r) = subst (λ c. FileText c (suc r)) (sym more.is)
        (file_text_stays_all more.more (first_rows build.rows b) (suc r)
        (file_is_text (first_rows build.rows b) build.view path (suc r) h.base is (omega arith))) in
        or_left ((suc r == 0) || makes_file_text b (suc r) (deed_at b (suc r))) (is_path_among path (targets_of b (suc r)))
        (or_right (suc r == 0) (makes_file_text b (suc r) (deed_at b (suc r))) text.makes)

    by : (o file : Option ℕ) → object_among path (needed_units unit_of_member u.prerequisites (members_before build n)) ≡ o
        → file_at (first_rows build.rows b) build.view path ≡ file →
        is_entry b (record { path = path; row = entry_row (option_or o file) }) ≡ true
    by (Some id) file of_object of_path =
        or_right ((id == 0) || makes_file_text b id (deed_at b id)) (is_path_among path (targets_of b id))
        (object_has b path id (needed_units unit_in u.prerequisites (pairs_before (first_rows build.rows b) build n))
        (needed_each (HasItsTargets b) b build n u.prerequisites h (λ m unit is outcome id own. h.objects m unit id is own)
        (ready_over b build u h ready)) (sym (ap (object_among path) paired) ∙ of_object))
    by None None of_object of_path = refl
    by None (Some r) of_object of_path = of_file r of_path

-- entries that are put in order fit
abbrev AllFit : Base → List (List ℕ × ℕ) → Type 0
AllFit b [] = ⊤
AllFit b (pair ∷ pairs) = (is_entry b (as_entry pair) ≡ true) × AllFit b pairs

put_fits : (b : Base) (path : List ℕ) (row : ℕ) (pairs : List (List ℕ × ℕ))
    → is_entry b (record { path = path; row = row }) ≡ true → AllFit b pairs → AllFit b (put (slice_cmp nat_cmp) path row pairs)
put_fits b path row [] fit h = (fit, tt)
put_fits b path row (pair ∷ pairs) fit h = by (slice_cmp nat_cmp path pair.0) refl (put_fits b path row pairs fit h.1)
  where
    by : (o : Ordering) → slice_cmp nat_cmp path pair.0 ≡ o → AllFit b (put (slice_cmp nat_cmp) path row pairs) →
        AllFit b (by_order o ((path, row) ∷ pair ∷ pairs) ((pair.0, row) ∷ pairs) (pair ∷ put (slice_cmp nat_cmp) path row pairs))
    by Less place rest = (fit, h)
    by Equal place rest = (
      subst (λ p. is_entry b (record { path = p; row = row }) ≡ true) (texts_tied path pair.0 place) fit,
      h.1,
    )
    by Greater place rest = (h.0, rest)

in_order_fits : (b : Base) (rows : List ℕ → Option ℕ) (paths : List (List ℕ))
    → ((path : List ℕ) → is_entry b (record { path = path; row = entry_row (rows path) }) ≡ true) → AllFit b (in_order rows paths)
in_order_fits b rows [] each = tt
in_order_fits b rows (path ∷ paths) each = put_fits b path (entry_row (rows path)) (in_order rows paths) (each path)
    (in_order_fits b rows paths each)

all_entries : (b : Base) (pairs : List (List ℕ × ℕ)) → AllFit b pairs → list_all (is_entry b) (map as_entry pairs) ≡ true
all_entries b [] h = refl
all_entries b (pair ∷ pairs) h = ap (λ t. t && list_all (is_entry b) (map as_entry pairs)) h.0 ∙ all_entries b pairs h.1

-- Each entry of a ready unit's record fits.
pub entries_fit : (b : Base) (build : Build) (n : ℕ) (u : Unit) (reads : List (List ℕ)) → IsConsistent b build → IsReady build u
    → list_all (is_entry b) (entries (visible b build n u) reads) ≡ true
entries_fit b build n u reads h ready = all_entries b (in_order (visible b build n u) reads)
    (in_order_fits b (visible b build n u) reads (λ path. entry_fits b build n u path h ready))
