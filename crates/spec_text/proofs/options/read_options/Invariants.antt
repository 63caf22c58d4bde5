use Rattle.std.proofs.Common.{◌≡◌, length}
use Rattle.spec_text.specs.OptionSteps.{plain_options}
use Rattle.base_model.specs.ConfigSpecs.Lines.{no_options, options_from}
use Rattle.spec_text.proofs.options.read_options.Given as goal

-- the options so far are those that were read before what is left
abbrev pub invariant-loop-word : goal.invariant-loop-word
invariant-loop-word l = options_from l.initial.words no_options ≡ options_from l.words (plain_options l.options)

abbrev pub decreases-loop-word : goal.decreases-loop-word
decreases-loop-word l = length l.words
