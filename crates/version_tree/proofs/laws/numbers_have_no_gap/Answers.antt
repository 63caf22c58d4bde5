use Rattle.std.proofs.Common.{◌≡◌, ℕ, Bool, true, false, eqb, List, [], ◌∷◌, length, map, refl, ap}
use Rattle.cc_names.specs.Versions.{Version, branch_of_change, versions_on, version_of_change, number_of_version, put_if}
use Rattle.cc_names.specs.declared.changes.TreeChange.{TreeChange}
use Rattle.version_tree.specs.Laws.{numbers_below}
use Rattle.version_tree.proofs.laws.numbers_have_no_gap.Goals as goal

-- one version more, or not
one_more : (t : Bool) (change : TreeChange) (vs : List Version) → map number_of_version vs ≡ numbers_below (length vs)
    → map number_of_version (put_if t (version_of_change change (length vs)) vs)
    ≡ numbers_below (length (put_if t (version_of_change change (length vs)) vs))
one_more true change vs below = ap (λ ns. length vs ∷ ns) below
one_more false change vs below = below

numbered : (changes : List TreeChange) (branch : ℕ) → map number_of_version (versions_on changes branch)
    ≡ numbers_below (length (versions_on changes branch))
numbered [] branch = refl
numbered (change ∷ older) branch = one_more (eqb (branch_of_change change) branch) change (versions_on older branch)
    (numbered older branch)

pub returns : goal.returns
returns c = numbered
