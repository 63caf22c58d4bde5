-- What a run of a record says of its object.
use Rattle.std.specs.Prelude.{◌≡◌, Option}
use Rattle.cc_names.specs.declared.rows.Deed.{Deed}
use Rattle.script_grammar.specs.Run.{Ran}
use Rattle.legal_history.specs.Builds.Values.{is_true_deed}
use Rattle.object_check.specs.Kept.{kept_of}
use Rattle.object_check.specs.declared.checks.Checked.{Checked}

-- whether it is true, and what is kept of it
pub record IsChecked (ran : Option Ran) (deed : Option Deed) (checked : Checked) : Type 0 where
  pub is_true : checked.is_true ≡ is_true_deed ran deed
  pub value : checked.value ≡ kept_of ran deed
