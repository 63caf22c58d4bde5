-- What is tested after the last line of a makefile.
use Rattle.std.proofs.Common.{◌≡◌, refl, ap, ◌∙◌, ℕ, Option, Some, None, Result, Ok, Err, List, [], unwrap_or}
use Rattle.cc_names.specs.Answers.{FaultIs}
use Rattle.cc_names.specs.Files.{Files}
use Rattle.cc_names.specs.declared.commands.Macro.{Macro}
use Rattle.cc_names.specs.declared.memory.Or.{Or}
use Rattle.cc_names.specs.declared.memory.Or.TheVariants.{NoMemory, Is}
use Rattle.cc_names.specs.declared.refusals.MakeError.{MakeError}
use Rattle.make_grammar.specs.Contents.{Contents}
use Rattle.make_grammar.specs.Grammar.{checked_contents, make_fault_or, unless_fault, lines_read, makefile_of_text}
use Rattle.make_text.specs.MacroChecks.{FindsFault}
use Rattle.make_grammar.specs.Statements.{Reading}

-- the first fault that is found
pub first_found : (U : Type 0) (fault : Or MakeError) (found later : Option MakeError) (make : Contents)
    → FindsFault {U = U} {E = MakeError} (Err fault) found → FaultIs fault (unless_fault (make_fault_or found later) make)
first_found U NoMemory found later make h = tt
first_found U (Is fault) found later make h = ap (λ (o : Option MakeError). unless_fault (make_fault_or o later) make) h

pub second_found : (U : Type 0) (fault : Or MakeError) (found later : Option MakeError) (make : Contents) → found ≡ None
    → FindsFault {U = U} {E = MakeError} (Err fault) later → FaultIs fault (unless_fault (make_fault_or found later) make)
second_found U NoMemory found later make none h = tt
second_found U (Is fault) found later make none h =
    ap (λ (o : Option MakeError). unless_fault (make_fault_or o later) make) none
    ∙ ap (λ (o : Option MakeError). unless_fault o make) h

pub none_found : (found later : Option MakeError) (make : Contents) → found ≡ None → later ≡ None
    → unless_fault (make_fault_or found later) make ≡ Ok make
none_found found later make none also =
    ap (λ (o : Option MakeError). unless_fault (make_fault_or o later) make) none
    ∙ ap (λ (o : Option MakeError). unless_fault o make) also

-- a fault of the lines is one of the makefile
pub checked_fault : (fault : Or MakeError) (read : Result Reading MakeError) → FaultIs fault read
    → FaultIs fault (checked_contents read)
checked_fault NoMemory read h = tt
checked_fault (Is fault) read h = ap checked_contents h

-- a makefile that is not there is read as one without lines
pub makefile_is : (files : Files) (file : List ℕ) (overrides : List Macro) (text : Option (List ℕ))
    → makefile_of_text files file overrides text ≡ checked_contents (lines_read files file (unwrap_or text []) overrides)
makefile_is files file overrides None = refl
makefile_is files file overrides (Some text) = refl
