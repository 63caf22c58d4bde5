-- A private file that stands somewhere in a view is the view's own.
use Rattle.std.proofs.Common.{◌≡◌, ℕ, Option, Some, None, List, [], ◌∷◌}
use Rattle.std.specs.Prelude.{reverse}
use Rattle.cc_names.specs.Paths.{path_of_names}
use Rattle.cc_names.specs.declared.selection.Picked.{Picked}
use Rattle.cc_names.specs.declared.selection.Seen.{Seen}
use Rattle.cc_names.specs.declared.selection.Seen.TheVariants.{Private}
use Rattle.base_model.specs.Rows.{Base}
use Rattle.base_model.specs.Catalogs.{Catalog, element_named}
use Rattle.base_model.specs.Seen.{at_names, below, private_or, as_seen, element_at, entries_of, selection_at}
use Rattle.base_model.specs.Views.{private}
use Rattle.base_model.proofs.Makings.{short_is_seen}

-- a private file that stands somewhere is the view's
private_of_or : (o : Option ℕ) (seen : Seen) (row : ℕ) → ((r : ℕ) → seen ≡ Private r → ⊥) → private_or o seen ≡ Private row
    → o ≡ Some row
private_of_or None seen row never e = absurd (never row e)
private_of_or (Some r) seen row never e = cc

no_private : (e : ℕ) (picked : Option Picked) (r : ℕ) → as_seen e picked ≡ Private r → ⊥
no_private e None r h = cc
no_private e (Some picked) r h = cc

no_private_element : (b : Base) (v : List ℕ) (names : List (List ℕ)) (e : Option ℕ) (r : ℕ) → element_at b v names e ≡ Private r
    → ⊥
no_private_element b v names None r h = cc
no_private_element b v names (Some e) r h = no_private e (selection_at b v e names) r h

private_below : (b : Base) (v : List ℕ) (names : List (List ℕ)) (name : List ℕ) (entries : Option Catalog) (row : ℕ) →
    below b v names name entries ≡ Private row → private b v (path_of_names names) ≡ Some row
private_below b v names name None row h = absurd (cc)
private_below b v names name (Some entries) row h =
    private_of_or (private b v (path_of_names names)) (element_at b v names (element_named name entries)) row
    (no_private_element b v names (element_named name entries))
    (short_is_seen (path_of_names names) _ (Private row) (λ e. cc) h)

pub private_at : (b : Base) (v : List ℕ) (back : List (List ℕ)) (row : ℕ) → at_names b v back ≡ Private row
    → private b v (path_of_names (reverse back)) ≡ Some row
private_at b v [] row h = absurd (no_private 0 (selection_at b v 0 []) row h)
private_at b v (name ∷ above) row h = private_below b v (reverse (name ∷ above)) name (entries_of b v (at_names b v above)) row h
