use Rattle.std.proofs.Common.{◌≡◌, [], ◌<◌, refl, arith}
use Rattle.std.proofs.lemmas.List.{nil_from_length}
use Rattle.make_grammar.specs.Statements.{macros_of}
use Rattle.make_grammar.specs.Macros.{Expansion}
use Rattle.make_text.specs.Steps.{automatic_of, MacroEnded, IsExpanding, Took, StepWent, FallsBelow, work_of}
use Rattle.make_text.specs.declared.expansions.Expanding.{Expanding}
use Rattle.make_text.proofs.StepLemmas.{ends_safely, ended_went, ended_falls, took_went, took_falls, where_ok}
use Rattle.make_text.proofs.expansions.Expanding.step.Goals as goal

pub end-requires : goal.end-requires
end-requires c = ends_safely (macros_of c.args.macros.now) (automatic_of c.args.automatic.now) c.requires.runs.0 c.args.self.now
    c.requires.runs.1

pub returns-then-is_empty-clause-went : goal.returns-then-is_empty-clause-went
returns-then-is_empty-clause-went c =
    let macros = (macros_of c.args.macros.now) in
    let automatic = automatic_of c.args.automatic.now in
    let none : c.args.self.now.rest.now ≡ [] = nil_from_length c.args.self.now.rest.now (grind arith) in
    where_ok (λ step. MacroEnded c.args.self.now step c.end.new.self)
    (λ step. (total : Expansion) → IsExpanding macros automatic total [] c.args.self.now
    → StepWent macros automatic total step c.end.new.self)
    c.end.result c.end.ensures
    (λ step ended total h. ended_went macros automatic total c.args.self.now c.end.new.self step c.requires.apart h none ended)

pub returns-then-is_empty-clause-falls : goal.returns-then-is_empty-clause-falls
returns-then-is_empty-clause-falls c =
    let macros = (macros_of c.args.macros.now) in
    let automatic = automatic_of c.args.automatic.now in
    let none : c.args.self.now.rest.now ≡ [] = nil_from_length c.args.self.now.rest.now (grind arith) in
    where_ok (λ step. MacroEnded c.args.self.now step c.end.new.self)
    (λ step. FallsBelow (work_of macros c.args.self.now) step (work_of macros c.end.new.self))
    c.end.result c.end.ensures
    (λ step ended. ended_falls macros automatic c.requires.runs.0 c.args.self.now c.end.new.self step c.requires.runs.1 none
    ended)

pub returns-clause-went : goal.returns-clause-went
returns-clause-went c =
    let macros = (macros_of c.args.macros.now) in
    let automatic = automatic_of c.args.automatic.now in
    let cut : Expanding = record c.args.self.now { rest = c.cut_part.result.1 } in
    where_ok (λ step. Took macros automatic c.cut_part.result.0 cut c.take.new.self step)
    (λ step. (total : Expansion) → IsExpanding macros automatic total [] c.args.self.now
    → StepWent macros automatic total step c.take.new.self)
    c.take.result c.take.ensures
    (λ step took total h. took_went macros automatic total c.cut_part.result.0 c.args.self.now cut c.take.new.self step
    c.requires.apart h c.cut_part.ensures.pieces refl took)

pub returns-clause-falls : goal.returns-clause-falls
returns-clause-falls c =
    let macros = (macros_of c.args.macros.now) in
    let automatic = automatic_of c.args.automatic.now in
    let cut : Expanding = record c.args.self.now { rest = c.cut_part.result.1 } in
    let shorter : work_of macros cut < work_of macros c.args.self.now = let l = c.cut_part.ensures.shorter in omega arith in
    where_ok (λ step. Took macros automatic c.cut_part.result.0 cut c.take.new.self step)
    (λ step. FallsBelow (work_of macros c.args.self.now) step (work_of macros c.take.new.self))
    c.take.result c.take.ensures
    (λ step took. took_falls macros automatic c.cut_part.result.0 cut c.take.new.self step (work_of macros c.args.self.now)
    c.requires.runs.1.runs.known took shorter)
