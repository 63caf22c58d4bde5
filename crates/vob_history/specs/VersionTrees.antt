-- The parts of a tree of versions that are left to tell, and in how many steps they are told.
use Rattle.std.specs.Prelude.{◌≡◌, ℕ, zero, suc, ◌+◌, List, [], ◌∷◌, ◌++◌, codes, drop, map, reverse, sum_by}
use Rattle.std.specs.BTreeSet.{BTreeSet}
use Rattle.std.specs.HashMap.{HashMap}
use Rattle.std.specs.List.{concat}
use Rattle.cc_names.specs.Versions.{row_of_version, versions_on}
use Rattle.base_model.specs.Changes.{tree}
use Rattle.base_model.specs.Rows.{Base}
use Rattle.legal_history.specs.Queries.ElementTexts.{branch_lines, branches_leaving, in_brackets, labels_on}
use Rattle.legal_history.specs.Queries.VersionNames.{at_version, line, version_name}
use Rattle.vob_history.specs.LabelSets.{labels_at}
use Rattle.vob_history.specs.declared.version_trees.Part.{Part}
use Rattle.vob_history.specs.declared.version_trees.Part.TheVariants.{Branch, Versions}

-- a word with a comma before it
abbrev pub behind_comma : List ℕ → List ℕ
behind_comma word = codes ", " ++ word

-- a table has the labels on the versions of the element
abbrev pub TableHasLabels : {S : Type 0} → HashMap ℕ (BTreeSet (List ℕ)) S → Base → ℕ → Type 0
TableHasLabels labels b e = (version : ℕ) → labels_at labels version ≡ labels_on b e version

-- the rows that made the versions on a branch, oldest first
abbrev pub rows_on : Base → ℕ → List ℕ
rows_on b branch = map row_of_version (reverse (versions_on (tree b) branch))

-- a version that a row made, with the branches that leave it
abbrev pub row_lines : Base → List ℕ → ℕ → (ℕ → List ℕ) → ℕ → List ℕ
row_lines b path e branch_lines row =
    line (at_version path (version_name b row) ++ in_brackets (labels_on b e row))
    ++ concat (map branch_lines (reverse (branches_leaving row (tree b))))

-- the lines of a part
abbrev pub part_lines : Base → List ℕ → ℕ → Part → List ℕ
part_lines b path e (Branch depth branch) = branch_lines depth b path e branch
part_lines b path e (Versions depth branch number) = concat (map (row_lines b path e (branch_lines depth b path e))
    (drop number (rows_on b branch)))

-- the lines of the parts that are left, the last one first
abbrev pub left_lines : Base → List ℕ → ℕ → List Part → List ℕ
left_lines b path e left = concat (map (part_lines b path e) (reverse left))

-- in how many steps versions are told, where a branch takes so many
abbrev pub steps_along : Base → (ℕ → ℕ) → List ℕ → ℕ
steps_along b steps [] = 1
steps_along b steps (row ∷ rows) = suc (sum_by steps (branches_leaving row (tree b)) + steps_along b steps rows)

-- in how many steps a branch is told
abbrev pub steps_on : Base → ℕ → ℕ → ℕ
steps_on b zero branch = 1
steps_on b (suc depth) branch = suc (steps_along b (steps_on b depth) (rows_on b branch))

-- in how many steps a part is told
abbrev pub steps_of : Base → Part → ℕ
steps_of b (Branch depth branch) = steps_on b depth branch
steps_of b (Versions depth branch number) = steps_along b (steps_on b depth) (drop number (rows_on b branch))

-- in how many steps all parts are told that are left
abbrev pub steps_left : Base → List Part → ℕ
steps_left b left = sum_by (steps_of b) left
