-- Words that are paths.
use Rattle.std.proofs.Common.{◌≡◌, refl, sym, ap, ◌∙◌, ℕ, Bool, true, false, not, ◌&&◌, Option, Some, None, Result, Ok, Err}
use Rattle.std.proofs.Common.{List, [], ◌∷◌, is_some, if◌then◌else◌}
use Rattle.std.specs.List.{list_all}
use Rattle.cc_names.specs.Paths.{path_before}
use Rattle.cc_names.specs.declared.refusals.MakeCause.{MakeCause}
use Rattle.cc_names.specs.declared.refusals.MakeCause.TheVariants.{BadPath}
use Rattle.make_grammar.proofs.ServingLaws.{same_path}
use Rattle.make_grammar.specs.WordPaths.{path_below_root, paths_below_root}
use Rattle.make_text.specs.RuleLines.{words_below_root}
use Rattle.make_grammar.specs.Statements.{is_path, or_cause, cause_where}

-- the paths that words are, are the words
paths_are : (words : List (List ℕ)) → paths_below_root words ≡ (if list_all is_path words then Some words else None)
paths_are [] = refl
paths_are (word ∷ words) = ap (path_before (path_below_root word)) (paths_are words)
    ∙ by (path_below_root word) refl (list_all is_path words)
  where
    by : (o : Option (List ℕ)) → path_below_root word ≡ o → (t : Bool)
        → path_before o (if t then Some words else None) ≡ (if is_some o && t then Some (word ∷ words) else None)
    by None is t = refl
    by (Some path) is true = ap (λ p. Some (p ∷ words)) (same_path word path is)
    by (Some path) is false = refl

-- what is read of words as paths
abbrev pub as_result : Option (List (List ℕ)) → Result (List (List ℕ)) MakeCause
as_result None = Err BadPath
as_result (Some paths) = Ok paths

pub below_root_is : (words : List (List ℕ)) (read : Option (List (List ℕ))) → read ≡ paths_below_root words
    → words_below_root words ≡ as_result read
below_root_is words read h = by (list_all is_path words) ∙ ap as_result (sym (h ∙ paths_are words))
  where
    by : (t : Bool) → or_cause (cause_where (not t) BadPath) words ≡ as_result (if t then Some words else None)
    by true = refl
    by false = refl
