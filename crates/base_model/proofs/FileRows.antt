-- The row of a file that a view sees made the text of a file.
use Rattle.std.proofs.Common.{◌≡◌, refl, ap, subst, ◌∙◌, ℕ, ◌<◌, Bool, true, false, ◌||◌, Option, Some, None, List, [], ◌∷◌}
use Rattle.std.proofs.Common.{◌++◌, arith}
use Rattle.std.specs.Prelude.{reverse}
use Rattle.std.proofs.lemmas.Bool.{or_left, or_right}
use Rattle.cc_names.specs.Formed.{Plain}
use Rattle.cc_names.specs.Paths.{names_of, path_of_names}
use Rattle.cc_names.specs.Versions.{kind_of}
use Rattle.cc_names.specs.declared.rows.Deed.{Deed}
use Rattle.cc_names.specs.declared.rows.Kind.{Kind}
use Rattle.cc_names.specs.declared.rows.Kind.TheVariants.{File, Directory}
use Rattle.cc_names.specs.declared.selection.Picked.{Picked}
use Rattle.cc_names.specs.declared.selection.Seen.{Seen}
use Rattle.cc_names.specs.declared.selection.Seen.TheVariants.{Private, Element, Unselected, Nothing}
use Rattle.base_model.specs.Rows.{Base, size, deed_of, deed_at}
use Rattle.base_model.specs.Changes.{tree}
use Rattle.base_model.specs.Closures.{is_version_of}
use Rattle.base_model.specs.Conditions.{element_of_text, is_put, is_file, is_file_kind, is_some_file, makes_file_text}
use Rattle.base_model.specs.Fits.{is_base}
use Rattle.base_model.specs.Seen.{at, file_at, file_seen, row_of_file}
use Rattle.base_model.proofs.PrivateFiles.{private_at}
use Rattle.base_model.proofs.Makings.{seen_element}
use Rattle.base_model.proofs.Picks.{IsPick, picked_is}
use Rattle.base_model.proofs.Stay.{row_stays}
use Rattle.base_model.proofs.VersionsStay.{kind_stays}
use Rattle.base_model.proofs.VersionRows.{TextAt, element_stays, version_text}
use Rattle.base_model.proofs.OwnRows.{making_text, PutAt, private_put}

-- row r made the text of a file
pub record FileText (b : Base) (r : ℕ) : Type 0 where
  pub low : r < size b
  pub makes : makes_file_text b r (deed_at b r) ≡ true

text_is_file : (b : Base) (r e : ℕ) → kind_of (tree b) e ≡ Some File → TextAt b r e → FileText b r
text_is_file b r e kind h = record {
  low = h.low;
  makes = ap (makes_file_text b r) h.made ∙ or_right (is_put h.deed) (is_some_file b (element_of_text b r h.deed))
      (ap (is_some_file b) h.of_element ∙ ap is_file_kind kind);
}

put_is_file : (b : Base) (r : ℕ) → PutAt b r → FileText b r
put_is_file b r h = record {
  low = h.low;
  makes = ap (makes_file_text b r) h.made
      ∙ or_left (is_put h.deed) (is_some_file b (element_of_text b r h.deed)) h.puts;
}

-- the row of a file that is seen, if it is not row 0
pub file_is_text : (b : Base) (v path : List ℕ) (r : ℕ) → is_base b ≡ true → file_at b v path ≡ Some r → 0 < r → FileText b r
file_is_text b v path r base h above = by (at b v path) refl h
  where
    picked_text : (e : ℕ) (picked : Picked) (own : Bool) → picked.out ≡ own → IsPick b v e picked → picked.row ≡ r → TextAt b r e
    picked_text e picked true is pick same = making_text b v e r (pick.own is ∙ ap Some same)
    picked_text e picked false is pick same = version_text b e r base (subst (λ r. is_version_of b e r ≡ true) same
        (pick.version is)) above

    of_kind : (e : ℕ) (picked : Picked) (k : Option Kind) → kind_of (tree b) e ≡ k → IsPick b v e picked
        → row_of_file picked k ≡ Some r → FileText b r
    of_kind e picked None is pick h = absurd (cc)
    of_kind e picked (Some Directory) is pick h = absurd (cc)
    of_kind e picked (Some File) is pick h = text_is_file b r e is (picked_text e picked picked.out refl pick cc)

    by : (seen : Seen) → at b v path ≡ seen → file_seen b seen ≡ Some r → FileText b r
    by (Private row) is h =
        let same : row ≡ r = cc in
        subst (FileText b) same (put_is_file b row (private_put b v (path_of_names (reverse (reverse (names_of path)))) row
        (private_at b v (reverse (names_of path)) row is)))
    by (Element e picked) is h =
        let seen = seen_element b v (reverse (names_of path)) e picked is in
        of_kind e picked (kind_of (tree b) e) refl (picked_is b v e (reverse (reverse (names_of path))) picked base seen.element
        seen.picks) h
    by (Unselected e) is h = absurd (cc)
    by Nothing is h = absurd (cc)

-- what made the text of a file made it also among more rows
some_file_stays : (row : Plain) (b : Base) (o : Option ℕ) → is_some_file b o ≡ true → is_some_file (row ∷ b) o ≡ true
some_file_stays row b None h = h
some_file_stays row b (Some e) h = by (kind_of (tree b) e) refl h
  where
    by : (k : Option Kind) → kind_of (tree b) e ≡ k → is_file_kind k ≡ true → is_file (row ∷ b) e ≡ true
    by None is h = absurd (cc)
    by (Some Directory) is h = absurd (cc)
    by (Some File) is h = ap is_file_kind (kind_stays row b e File is)

file_text_by : (row : Plain) (b : Base) (r : ℕ) (o : Option Deed) → makes_file_text b r o ≡ true
    → makes_file_text (row ∷ b) r o ≡ true
file_text_by row b r None h = h
file_text_by row b r (Some deed) h = by (is_put deed) h
  where
    by : (t : Bool) → (t || is_some_file b (element_of_text b r deed)) ≡ true
        → (t || is_some_file (row ∷ b) (element_of_text (row ∷ b) r deed)) ≡ true
    by true h = refl
    by false h = ap (is_some_file (row ∷ b)) (element_stays b (row ∷ b) r deed)
        ∙ some_file_stays row b (element_of_text b r deed) h

pub file_text_stays : (row : Plain) (b : Base) (r : ℕ) → FileText b r → FileText (row ∷ b) r
file_text_stays row b r h = record {
  low = let low = h.low in omega arith;
  makes = ap (λ o. makes_file_text (row ∷ b) r (deed_of o)) (row_stays row b r h.low)
      ∙ file_text_by row b r (deed_at b r) h.makes;
}

pub file_text_stays_all : (more b : Base) (r : ℕ) → FileText b r → FileText (more ++ b) r
file_text_stays_all [] b r h = h
file_text_stays_all (row ∷ more) b r h = file_text_stays row (more ++ b) r (file_text_stays_all more b r h)
