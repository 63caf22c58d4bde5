-- Each name of the catalog of a directory that a view sees was given in the directory.
use Rattle.std.proofs.Common.{◌≡◌, refl, ap, sym, ◌∙◌, ℕ, Bool, true, false, Option, Some, None, List, reverse}
use Rattle.std.specs.Prelude.{is_some}
use Rattle.cc_names.specs.Paths.{names_of}
use Rattle.cc_names.specs.Versions.{kind_of}
use Rattle.cc_names.specs.declared.rows.Kind.{Kind}
use Rattle.cc_names.specs.declared.rows.Kind.TheVariants.{File, Directory}
use Rattle.cc_names.specs.declared.selection.Picked.{Picked}
use Rattle.cc_names.specs.declared.selection.Seen.TheVariants.{Element}
use Rattle.base_model.specs.Catalogs.{catalog_of, element_named, own_of}
use Rattle.base_model.specs.Changes.{tree}
use Rattle.base_model.specs.Fits.{is_base}
use Rattle.base_model.specs.Rows.{Base}
use Rattle.base_model.specs.Seen.{at, catalog_by, entries_by, entries_of}
use Rattle.legal_history.specs.Queries.DirectoryTexts.{catalog_or_none}
use Rattle.base_model.proofs.Makings.{seen_element}
use Rattle.base_model.proofs.Picks.{picked_is}
use Rattle.view_lookup.specs.GivenNames.{was_named}
use Rattle.vob_history.proofs.ElementsBelow.{catalog_at}
use Rattle.view_lookup.proofs.NamesGiven.{checkout_given, version_given}

pub names_given : (b : Base) (v path : List ℕ) (e : ℕ) (picked : Picked) → is_base b ≡ true → at b v path ≡ Element e picked
    → (name : List ℕ) → is_some (element_named name (catalog_at b v path)) ≡ true → was_named e name b ≡ true
names_given b v path e picked base sees name is = by_kind (kind_of (tree b) e)
    (sym (ap (λ seen. is_some (element_named name (catalog_or_none (entries_of b v seen)))) sees) ∙ is)
  where
    by_own : (own : Bool) → picked.out ≡ own → is_some (element_named name
        (catalog_by own (own_of b v e) (catalog_of b picked.row))) ≡ true → was_named e name b ≡ true
    by_own true out is = checkout_given b v e name base is
    by_own false out is =
        let seen = seen_element b v (reverse (names_of path)) e picked sees in
        let pick = picked_is b v e (reverse (reverse (names_of path))) picked base seen.element seen.picks in
        version_given b e picked.row name base (pick.version out) is

    by_kind : (kind : Option Kind) → is_some (element_named name (catalog_or_none (entries_by b v e picked kind))) ≡ true
        → was_named e name b ≡ true
    by_kind (Some Directory) is = by_own picked.out refl is
    by_kind (Some File) is = absurd (cc)
    by_kind None is = absurd (cc)
