-- One option of a rule, beside those that were read before it.
use Rattle.std.specs.Prelude.{◌≡◌, ◌≤◌, ℕ, Option, Some, None, List, ◌∷◌, length}
use Rattle.std.specs.Option.{option_copied}
use Rattle.base_model.specs.ConfigSpecs.Lines.{Options, options_from}
use Rattle.spec_text.specs.declared.options.Options.{Options as OptionWords}

-- options without where their words lie in memory
abbrev pub plain_options : OptionWords → Options
plain_options words = record {
  time = option_copied words.time;
  nocheckout = words.nocheckout;
  mkbranch = option_copied words.mkbranch;
}

-- reading goes on with these options and what is left, which is no more than before
pub record OptionsGoOn (word : List ℕ) (words : List (List ℕ)) (before : Options) (rest : List (List ℕ))
    (options : Options) : Type 0 where
  pub same : options_from (word ∷ words) before ≡ options_from rest options
  pub less : length rest ≤ length words

-- what reading the next option gives, and the words that are left then
abbrev pub IsNextOption : List ℕ → List (List ℕ) → Options → List (List ℕ) → Option Options → Type 0
IsNextOption word words before rest None = options_from (word ∷ words) before ≡ None
IsNextOption word words before rest (Some options) = OptionsGoOn word words before rest options
