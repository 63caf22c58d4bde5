use Rattle.std.proofs.Common.{◌≡◌, ap, ◌∙◌, sym, subst, Result, Ok, ℕ, suc, ◌-◌, ◌<◌, List, ◌∷◌, drop, length, arith}
use Rattle.std.proofs.Math.Seq.{drop-cons}
use Rattle.cc_names.specs.Answers.{FaultIs, Gives}
use Rattle.cc_names.specs.declared.memory.Or.{Or}
use Rattle.cc_names.specs.declared.refusals.MakeCause.TheVariants.{IncludeAbsent}
use Rattle.cc_names.specs.declared.refusals.MakeError.{MakeError}
use Rattle.make_grammar.specs.LogicalLines.{logical_lines}
use Rattle.make_text.specs.ReadingSteps.{counted_file}
use Rattle.make_grammar.specs.Statements.{Reading, reading_fault, reading_of_include, include_line, include_paths, read_lines}
use Rattle.make_grammar.specs.Statements.{within_limits}
use Rattle.make_text.proofs.IncludeLemmas.{absent_is, too_many}
use Rattle.make_text.proofs.ReaderLemmas.{paths_fault, included_is}
use Rattle.make_text.proofs.including.+files.Goals as goal

pub include_line-returns-in-Err : goal.include_line-returns-in-Err
include_line-returns-in-Err g t c =
    let include = reading_of_include (g.X.Texts.texts c.args.texts.now) c.args.left c.args.file.now.value c.args.line in
    subst (λ (file : List ℕ). FaultIs c.in-Err.fault (include_line include file c.args.line c.args.behind.now c.args.reader))
    c.deref.ensures
    (c.in-Err.ensures include)

pub include_line-returns-in-Err-reading_of_include : goal.include_line-returns-in-Err-reading_of_include
include_line-returns-in-Err-reading_of_include g t c =
    let include = reading_of_include (g.X.Texts.texts c.args.texts.now) c.args.left c.args.file.now.value c.args.line in
    let paths = c.as_slice-path-items.result.now in
    let i = c.loop-path.path-index in
    let path : List ℕ = c.path-item.result in
    let within : i < length paths = omega arith in
    let cut : drop i paths ≡ path ∷ drop (suc i) paths =
    drop-cons paths i path within ∙ ap (λ (x : List ℕ). x ∷ drop (suc i) paths) (sym c.path-item.is) in
    let read = ap (λ (l : List (List ℕ)). include_paths include l (Ok c.loop-path.reader)) (sym cut) ∙ c.loop-path.invariant in
    subst (FaultIs c.in-Err-reading_of_include.fault) read
    (paths_fault include (drop (suc i) paths) c.in-Err-reading_of_include.fault (include c.loop-path.reader path)
    c.in-Err-reading_of_include.ensures)

pub reading_of_include-returns-in-Ok-shared_copy : goal.reading_of_include-returns-in-Ok-shared_copy
reading_of_include-returns-in-Ok-shared_copy g t c =
    let files = g.X.Texts.texts c.args.texts.now in
    let old = c.args.reader in
    let next = c.in-Ok.reader in
    let open_ = ap (λ (file : List ℕ). within_limits file c.args.line (counted_file old)) (sym c.deref-2.ensures)
    ∙ c.in-Ok.ensures in
    let path = c.in-Ok-shared_copy.ensures in
    let read = included_is files c.args.left c.args.file.now.value c.args.line old next c.args.path.now c.in-Some.text.now
    c.if-left-eq0.false c.in-Some.ensures open_ in
    subst (Gives c.read_lines.result) (sym read)
    (subst (λ (p : List ℕ). Gives c.read_lines.result
    (read_lines (reading_of_include files (c.args.left - 1) p) p (logical_lines c.in-Some.text.now) next)) path
    c.read_lines.ensures)

pub reading_of_include-returns-in_default : goal.reading_of_include-returns-in_default
reading_of_include-returns-in_default g t c =
    let files = g.X.Texts.texts c.args.texts.now in
    let fault = subst (λ (file : List ℕ). FaultIs c.reading_fault.result (reading_fault file c.args.line IncludeAbsent))
    c.deref.ensures
    c.reading_fault.ensures in
    let read = absent_is files c.args.left c.args.file.now.value c.args.line c.args.reader c.args.path.now c.in_default.ensures in
    subst (λ (r : Result Reading (Or MakeError)). Gives r
    (reading_of_include files c.args.left c.args.file.now.value c.args.line c.args.reader c.args.path.now))
    (sym c.refuse.ensures) (subst (FaultIs c.reading_fault.result) (sym read) fault)

pub reading_of_include-returns-in-Err : goal.reading_of_include-returns-in-Err
reading_of_include-returns-in-Err g t c =
    let files = g.X.Texts.texts c.args.texts.now in
    let fault = subst
    (λ (file : List ℕ). FaultIs c.in-Err.fault (within_limits file c.args.line (counted_file c.args.reader)))
    c.deref-2.ensures c.in-Err.ensures in
    too_many files c.args.left c.args.file.now.value c.args.line c.args.reader c.args.path.now c.in-Some.text.now
    c.in-Err.fault c.if-left-eq0.false c.in-Some.ensures fault
