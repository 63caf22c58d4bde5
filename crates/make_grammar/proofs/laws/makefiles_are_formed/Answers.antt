use Rattle.make_grammar.proofs.FormedMakefiles as makefiles
use Rattle.make_grammar.proofs.laws.makefiles_are_formed.Goals as goal

pub returns : goal.returns
returns c = makefiles.makefiles_are_formed
