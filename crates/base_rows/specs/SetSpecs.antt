-- The config specs that rows set, read as rules.
use Rattle.std.specs.Prelude.{ℕ, ◌^◌, ◌==◌, nat_lt, Option, Some, None, Result, Ok, Err, List, [], ◌∷◌, find, length}
use Rattle.std.specs.Option.{option_and_then, option_map}
use Rattle.cc_names.specs.declared.refusals.SpecError.{SpecError}
use Rattle.cc_names.specs.declared.rows.Deed.{Deed}
use Rattle.cc_names.specs.declared.selection.Rule.{Rule}
use Rattle.base_model.specs.ConfigSpecs.Specs.{rules_of}
use Rattle.base_model.specs.Rows.{Base, size, only_where}
use Rattle.base_rows.specs.Made.{spec_made}
use Rattle.base_rows.specs.declared.view_specs.Parsed.{Parsed}

-- the rules of a text that can be read
abbrev pub if_read : Result (List Rule) SpecError → Option (List Rule)
if_read (Ok rules) = Some rules
if_read (Err error) = None

-- the rules that a text spells, where it can be read
abbrev pub parsed_rules : List ℕ → Option (List Rule)
parsed_rules text = if_read (rules_of text)

-- the same for a text of fewer than 2 ^ 32 bytes, as those of rows are
abbrev pub parsed_if_short : List ℕ → Option (List Rule)
parsed_if_short text = only_where (nat_lt (length text) (2 ^ 32)) (parsed_rules text)

-- the rules that a row of this deed gives to its view
abbrev pub rules_set : Deed → Option (List Rule)
rules_set deed = option_and_then parsed_rules (spec_made deed)

-- the same, where the text is short
abbrev pub rules_set_if_short : Deed → Option (List Rule)
rules_set_if_short deed = option_and_then parsed_if_short (spec_made deed)

-- the config specs with one more that a row gave, where it gave one
abbrev pub with_spec : ℕ → Option (List Rule) → List Parsed → List Parsed
with_spec n None specs = specs
with_spec n (Some rules) specs = record { row = n; spec = rules } ∷ specs

-- the config specs that the rows of a base gave, the newest first
abbrev pub specs_set : Base → List Parsed
specs_set [] = []
specs_set (row ∷ older) = with_spec (size older) (rules_set row.deed) (specs_set older)

-- rules, or none
abbrev pub or_no_rules : Option (List Rule) → List Rule
or_no_rules None = []
or_no_rules (Some rules) = rules

-- the row that gave a config spec, and its rules
abbrev pub row_of_parsed : Parsed → ℕ
row_of_parsed one = one.row

abbrev pub rules_of_parsed : Parsed → List Rule
rules_of_parsed one = one.spec

-- the rules that a row gave, among config specs
abbrev pub rules_at : ℕ → List Parsed → Option (List Rule)
rules_at n specs = option_map rules_of_parsed (find (λ one. row_of_parsed one == n) specs)
