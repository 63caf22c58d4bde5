-- Rules as contracts see them.
use Rattle.std.specs.Prelude.{ℕ, Option, List}

-- What its targets are made of, and by which script. The script is as it was read, each of its lines without the tab and ended
-- by a newline; its macros are not expanded yet.
pub record MakeRule : Type 0 where
  pub targets : List (List ℕ)
  -- each once, in the order of first appearance
  pub prerequisites : List (List ℕ)
  pub script : Option (List ℕ)

-- how paths that end with one suffix are made from those that end with another; the script is as in a rule
pub record SuffixRule : Type 0 where
  pub from : List ℕ
  pub to : List ℕ
  pub script : List ℕ

-- how a suffix rule serves a path
pub record Inference : Type 0 where
  -- what stands before the suffix of the path
  pub stem : List ℕ
  -- what the path is made of
  pub source : List ℕ
  -- the script of the rule
  pub script : List ℕ

-- A rule as it serves a build: what it makes of what, by which script, whose macros are not expanded yet, and for which stem,
-- which is empty unless it is a suffix rule.
pub record Serving : Type 0 where
  pub targets : List (List ℕ)
  pub prerequisites : List (List ℕ)
  pub script : Option (List ℕ)
  pub stem : List ℕ
