-- What the code's own record of what a line has made stands for.
use Rattle.script_grammar.specs.Run.{Made}
use Rattle.build_script.specs.declared.making.Made.{Made as CodeMade}

abbrev pub made_of : CodeMade → Made
made_of made = record { bytes = made.bytes.items; probes = made.probes }
