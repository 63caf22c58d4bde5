-- Every makefile that is read is formed.
use Rattle.std.proofs.Common.{◌≡◌, subst, ℕ, not, Option, Some, None, Result, Ok, Err, List, [], reverse}
use Rattle.cc_names.specs.Files.{Files}
use Rattle.cc_names.specs.declared.commands.Macro.{Macro}
use Rattle.cc_names.specs.declared.refusals.MakeError.{MakeError}
use Rattle.make_grammar.proofs.JoinedLaws.{joined_formed}
use Rattle.make_grammar.proofs.RuleLineLaws.{AreLines, HasLines, lines_of_makefile}
use Rattle.make_grammar.specs.Contents.{Contents, groups_of, is_suffix_rule}
use Rattle.make_grammar.specs.Grammar.{checked_contents, contents_of, make_fault_or, lines_read, macros_fault, makefile_of_text}
use Rattle.make_grammar.specs.Grammar.{phony_fault, unless_fault}
use Rattle.make_grammar.specs.Statements.{Reading, macros_of}
use Rattle.make_grammar.specs.UnitLaws.{IsFormedMakefile, MakefilesAreFormed}

-- what is said by rule lines in their form
contents_formed : (reading : Reading) → AreLines reading.rules → IsFormedMakefile (contents_of reading (reverse reading.rules))
contents_formed reading h =
    let kept = joined_formed reading.rules (λ rule. not (is_suffix_rule reading.suffixes (groups_of (reverse reading.rules))
    rule)) h in
    record { rules = kept.rules_are; apart = kept.apart }

without_fault : (fault : Option MakeError) (made make : Contents) → unless_fault fault made ≡ Ok make → made ≡ make
without_fault None made make h = cc
without_fault (Some fault) made make h = absurd (cc)

checked_formed : (read : Result Reading MakeError) (make : Contents) → HasLines read → checked_contents read ≡ Ok make
    → IsFormedMakefile make
checked_formed (Err fault) make kept h = absurd (cc)
checked_formed (Ok reading) make kept h =
    subst IsFormedMakefile
    (without_fault (make_fault_or (macros_fault (macros_of reading.macros) reading.macros)
    (phony_fault reading.phony (reverse reading.rules)))
    (contents_of reading (reverse reading.rules)) make h)
    (contents_formed reading kept)

text_formed : (files : Files) (file : List ℕ) (overrides : List Macro) (text : Option (List ℕ)) (make : Contents)
    → makefile_of_text files file overrides text ≡ Ok make → IsFormedMakefile make
text_formed files file overrides None make h = checked_formed (lines_read files file [] overrides) make
    (lines_of_makefile files file [] overrides) h
text_formed files file overrides (Some text) make h = checked_formed (lines_read files file text overrides) make
    (lines_of_makefile files file text overrides) h

-- Every makefile that is read is formed.
pub makefiles_are_formed : MakefilesAreFormed
makefiles_are_formed files file overrides make h = text_formed files file overrides (files file) make h
