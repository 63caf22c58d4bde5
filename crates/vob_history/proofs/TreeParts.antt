-- What is left to tell once a part was reported of, and in how many steps.
use Rattle.std.proofs.Common.{◌≡◌, ◌≢◌, ℕ, zero, suc, ◌+◌, ◌-◌, ◌<◌, List, [], ◌∷◌, ◌++◌, append-nil, append_assoc, codes, drop}
use Rattle.std.proofs.Common.{map, reverse, refl, ap, sym, ◌∙◌, arith}
use Rattle.std.specs.List.{concat, fold, sum_by}
use Rattle.std.proofs.lemmas.List.Sums.{sum_by-append}
use Rattle.std.proofs.lemmas.List.{map-append, reverse-append}
use Rattle.std.proofs.lemmas.List.Folds.{concat-append}
use Rattle.cc_names.specs.Versions.{row_of_version, versions_on}
use Rattle.base_model.specs.Changes.{tree}
use Rattle.base_model.specs.Rows.{Base}
use Rattle.legal_history.specs.Queries.ElementTexts.{branch_lines, branches_leaving, in_brackets, labels_on, version_lines}
use Rattle.legal_history.specs.Queries.ElementTexts.{with_commas}
use Rattle.legal_history.specs.Queries.VersionNames.{at_version, branch_name, line, version_name}
use Rattle.vob_history.specs.VersionTrees.{behind_comma, left_lines, part_lines, row_lines, rows_on, steps_along, steps_left}
use Rattle.vob_history.specs.VersionTrees.{steps_of, steps_on}
use Rattle.vob_history.specs.declared.version_trees.Part.{Part}
use Rattle.vob_history.specs.declared.version_trees.Part.TheVariants.{Branch, Versions}

-- words after a first one, each with a comma before it
pub commas_more : (word : List ℕ) (words : List (List ℕ)) → with_commas (word ∷ words) ≡ word ++ concat (map behind_comma words)
commas_more word [] = sym (append-nil word)
commas_more word (next ∷ words) =
    append_assoc word (codes ", ") (with_commas (next ∷ words))
    ∙ ap (λ (rest : List ℕ). word ++ (codes ", " ++ rest)) (commas_more next words)
    ∙ ap (λ (rest : List ℕ). word ++ rest) (sym (append_assoc (codes ", ") next (concat (map behind_comma words))))

pub map_map : {A B C : Type 0} (f : B → C) (g : A → B) (xs : List A) → map f (map g xs) ≡ map (λ x. f (g x)) xs
map_map f g [] = refl
map_map f g (x ∷ xs) = ap (λ ys. f (g x) ∷ ys) (map_map f g xs)

module _ (b : Base) (path : List ℕ) (e : ℕ) where
  -- the versions of a branch are given by their rows
  pub by_rows : (depth branch : ℕ) → concat (map (version_lines b path e (branch_lines depth b path e))
      (reverse (versions_on (tree b) branch))) ≡ part_lines b path e (Versions depth branch 0)
  by_rows depth branch =
      ap concat (sym (map_map (row_lines b path e (branch_lines depth b path e)) row_of_version
      (reverse (versions_on (tree b) branch))))

  -- one more part is told first
  pub one_left : (left : List Part) (part : Part) → left_lines b path e (left ++ part ∷ []) ≡ part_lines b path e part
      ++ left_lines b path e left
  one_left left part = ap (λ (parts : List Part). concat (map (part_lines b path e) parts)) (reverse-append left (part ∷ []))

  -- so are more branches, the last one first
  pub branches_left : (left : List Part) (depth : ℕ) (branches : List ℕ)
      → left_lines b path e (left ++ map (Branch depth) branches) ≡ concat (map (branch_lines depth b path e) (reverse branches))
      ++ left_lines b path e left
  branches_left left depth [] = ap (left_lines b path e) (append-nil left)
  branches_left left depth (branch ∷ branches) =
      let lines : ℕ → List ℕ = branch_lines depth b path e in
      let rest = left_lines b path e left in
      ap (left_lines b path e) (sym (append_assoc left (Branch depth branch ∷ []) (map (Branch depth) branches)))
      ∙ branches_left (left ++ Branch depth branch ∷ []) depth branches
      ∙ ap (λ (bytes : List ℕ). concat (map lines (reverse branches)) ++ bytes) (one_left left (Branch depth branch))
      ∙ sym (append_assoc (concat (map lines (reverse branches))) (lines branch) rest)
      ∙ ap (λ (bytes : List ℕ). bytes ++ rest) (sym (reported lines branch branches))
    where
      reported : (lines : ℕ → List ℕ) (branch : ℕ) (branches : List ℕ)
          → concat (map lines (reverse (branch ∷ branches))) ≡ concat (map lines (reverse branches)) ++ lines branch
      reported lines branch branches =
          ap (λ (rows : List ℕ). concat (map lines rows)) (reverse-append (branch ∷ []) branches)
          ∙ ap concat (map-append lines (reverse branches) (branch ∷ []))
          ∙ concat-append (map lines (reverse branches)) (lines branch ∷ [])
          ∙ ap (λ (bytes : List ℕ). concat (map lines (reverse branches)) ++ bytes) (append-nil (lines branch))

module _ (b : Base) where
  -- one more part takes its own steps
  pub one_step_more : (left : List Part) (part : Part) → steps_left b (left ++ part ∷ []) ≡ steps_left b left + steps_of b part
  one_step_more left part = let whole = sum_by-append (steps_of b) left (part ∷ []) in grind (arith, whole)

  same_fold : (depth n : ℕ) (branches : List ℕ) → fold (λ a part. a + steps_of b part) n (map (Branch depth) branches)
      ≡ fold (λ a branch. a + steps_on b depth branch) n branches
  same_fold depth n [] = refl
  same_fold depth n (branch ∷ branches) = same_fold depth (n + steps_on b depth branch) branches

  pub branch_steps : (left : List Part) (depth : ℕ) (branches : List ℕ)
      → steps_left b (left ++ map (Branch depth) branches) ≡ steps_left b left + sum_by (steps_on b depth) branches
  branch_steps left depth branches =
      sum_by-append (steps_of b) left (map (Branch depth) branches) ∙ ap (λ n. steps_left b left + n) (same_fold depth 0 branches)

module _ (b : Base) (path : List ℕ) (e : ℕ) where
  -- the line of a branch, and its versions left to tell
  pub branch_is_written : (text : List ℕ) (left : List Part) (depth branch : ℕ) → depth ≢ 0 →
      (text ++ line (at_version path (branch_name b branch))) ++ left_lines b path e (left ++ Versions (depth - 1) branch 0 ∷ [])
      ≡ text ++ (branch_lines depth b path e branch ++ left_lines b path e left)
  branch_is_written text left zero branch some = absurd (some refl)
  branch_is_written text left (suc depth) branch some =
      let less : suc depth - 1 ≡ depth = omega arith in
      let own = line (at_version path (branch_name b branch)) in
      let versions = part_lines b path e (Versions depth branch 0) in
      let rest = left_lines b path e left in
      ap (λ n. (text ++ own) ++ left_lines b path e (left ++ Versions n branch 0 ∷ [])) less
      ∙ ap (λ (bytes : List ℕ). (text ++ own) ++ bytes) (one_left b path e left (Versions depth branch 0))
      ∙ append_assoc text own (versions ++ rest)
      ∙ ap (λ (bytes : List ℕ). text ++ bytes) (sym (append_assoc own versions rest))
      ∙ ap (λ (bytes : List ℕ). text ++ ((own ++ bytes) ++ rest)) (sym (by_rows b path e depth branch))

  -- the line of a version; the branches that leave it and the versions after it left to tell
  pub version_is_written : (text : List ℕ) (left : List Part) (depth branch number version : ℕ)
      → drop number (rows_on b branch) ≡ version ∷ drop (number + 1) (rows_on b branch) →
      (text ++ line (at_version path (version_name b version) ++ in_brackets (labels_on b e version)))
      ++ left_lines b path e ((left ++ Versions depth branch (number + 1) ∷ [])
      ++ map (Branch depth) (branches_leaving version (tree b)))
      ≡ text ++ (part_lines b path e (Versions depth branch number) ++ left_lines b path e left)
  version_is_written text left depth branch number version next =
      let own = line (at_version path (version_name b version) ++ in_brackets (labels_on b e version)) in
      let leaving = concat (map (branch_lines depth b path e) (reverse (branches_leaving version (tree b)))) in
      let behind = part_lines b path e (Versions depth branch (number + 1)) in
      let rest = left_lines b path e left in
      ap (λ (bytes : List ℕ). (text ++ own) ++ bytes)
      (branches_left b path e (left ++ Versions depth branch (number + 1) ∷ []) depth (branches_leaving version (tree b))
      ∙ ap (λ (bytes : List ℕ). leaving ++ bytes) (one_left b path e left (Versions depth branch (number + 1))))
      ∙ append_assoc text own (leaving ++ (behind ++ rest))
      ∙ ap (λ (bytes : List ℕ). text ++ (own ++ bytes)) (sym (append_assoc leaving behind rest))
      ∙ ap (λ (bytes : List ℕ). text ++ bytes) (sym (append_assoc own (leaving ++ behind) rest))
      ∙ ap (λ (bytes : List ℕ). text ++ (bytes ++ rest)) (sym (append_assoc own leaving behind))
      ∙ ap (λ (rows : List ℕ). text ++ (concat (map (row_lines b path e (branch_lines depth b path e)) rows) ++ rest)) (sym next)

module _ (b : Base) where
  pub branch_fewer : (left : List Part) (depth branch : ℕ) → depth ≢ 0
      → steps_left b (left ++ Versions (depth - 1) branch 0 ∷ []) < steps_of b (Branch depth branch) + steps_left b left
  branch_fewer left zero branch some = absurd (some refl)
  branch_fewer left (suc depth) branch some =
      let less : suc depth - 1 ≡ depth = omega arith in
      let steps : steps_left b (left ++ Versions (suc depth - 1) branch 0 ∷ [])
      ≡ steps_left b left + steps_along b (steps_on b depth) (rows_on b branch) =
      ap (λ n. steps_left b (left ++ Versions n branch 0 ∷ [])) less ∙ one_step_more b left (Versions depth branch 0) in
      omega (arith, steps)

  pub version_fewer : (left : List Part) (depth branch number version : ℕ)
      → drop number (rows_on b branch) ≡ version ∷ drop (number + 1) (rows_on b branch) →
      steps_left b ((left ++ Versions depth branch (number + 1) ∷ []) ++ map (Branch depth) (branches_leaving version (tree b)))
      < steps_of b (Versions depth branch number) + steps_left b left
  version_fewer left depth branch number version next =
      let more = branch_steps b (left ++ Versions depth branch (number + 1) ∷ []) depth (branches_leaving version (tree b)) in
      let one = one_step_more b left (Versions depth branch (number + 1)) in
      let whole : steps_of b (Versions depth branch number) ≡ suc (sum_by (steps_on b depth) (branches_leaving version (tree b)) +
      steps_along b (steps_on b depth) (drop (number + 1) (rows_on b branch))) =
      ap (steps_along b (steps_on b depth)) next in
      omega (arith, more, one, whole)

  -- where no version is left a part has one step and no lines
  pub none_fewer : (left : List Part) (depth branch number : ℕ) → drop number (rows_on b branch) ≡ []
      → steps_left b left < steps_of b (Versions depth branch number) + steps_left b left
  none_fewer left depth branch number none =
      let one : steps_of b (Versions depth branch number) ≡ 1 = ap (steps_along b (steps_on b depth)) none in
      omega (arith, one)

  pub zero_fewer : (left : List Part) (depth branch : ℕ) → depth ≡ 0 → steps_left b left
      < steps_of b (Branch depth branch) + steps_left b left
  zero_fewer left depth branch none =
      let one : steps_of b (Branch depth branch) ≡ 1 = ap (λ d. steps_on b d branch) none in
      omega (arith, one)
