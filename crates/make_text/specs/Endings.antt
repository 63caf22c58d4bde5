-- What is tested after the last line of a makefile.
use Rattle.std.specs.Prelude.{Result, Ok}
use Rattle.cc_names.specs.declared.refusals.MakeError.{MakeError}
use Rattle.make_grammar.specs.Contents.{Contents}
use Rattle.make_grammar.specs.Grammar.{checked_contents}
use Rattle.make_grammar.specs.Statements.{Reading}

-- what a makefile says by what was read of it, or the first fault after its last line
abbrev pub checked_reading : Reading → Result Contents MakeError
checked_reading reading = checked_contents (Ok reading)
