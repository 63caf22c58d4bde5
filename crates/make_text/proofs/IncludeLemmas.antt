-- Files that may not be included.
use Rattle.std.proofs.Common.{◌≡◌, refl, sym, ap, subst, ℕ, zero, suc, Some, None, List}
use Rattle.cc_names.specs.Answers.{FaultIs}
use Rattle.cc_names.specs.Files.{Files}
use Rattle.cc_names.specs.declared.memory.Or.{Or}
use Rattle.cc_names.specs.declared.refusals.MakeCause.TheVariants.{IncludeAbsent, IncludeDepth}
use Rattle.cc_names.specs.declared.refusals.MakeError.{MakeError}
use Rattle.make_grammar.specs.LogicalLines.{logical_lines}
use Rattle.make_text.specs.ReadingSteps.{counted_file}
use Rattle.make_grammar.specs.Statements.{Reading, reading_fault, if_no_fault, reading_of_include, read_lines, with_text}
use Rattle.make_grammar.specs.Statements.{within_limits}
use Rattle.make_text.proofs.ReaderLemmas.{then_fault}

-- a file that is not there is a fault
pub absent_is : (files : Files) (left : ℕ) (file : List ℕ) (n : ℕ) (reading : Reading) (path : List ℕ) → None ≡ files path →
    reading_of_include files left file n reading path ≡ reading_fault file n IncludeAbsent
absent_is files zero file n reading path at = ap (with_text file n (λ text. reading_fault file n IncludeDepth)) (sym at)
absent_is files (suc left) file n reading path at =
    ap (with_text file n
    (λ text. if_no_fault (within_limits file n (counted_file reading))
    (read_lines (reading_of_include files left path) path (logical_lines text)))) (sym at)

-- and so is one too many
pub too_many : (files : Files) (left : ℕ) (file : List ℕ) (n : ℕ) (reading : Reading) (path text : List ℕ)
    (fault : Or MakeError) → (left ≡ 0 → ⊥) → Some text ≡ files path → FaultIs fault (within_limits file n (counted_file reading))
    →
    FaultIs fault (reading_of_include files left file n reading path)
too_many files zero file n reading path text fault some at h = absurd (some refl)
too_many files (suc left) file n reading path text fault some at h =
    let is = ap
    (with_text file n
    (λ text. if_no_fault (within_limits file n (counted_file reading))
    (read_lines (reading_of_include files left path) path (logical_lines text)))) (sym at) in
    subst (FaultIs fault) (sym is)
    (then_fault fault (within_limits file n (counted_file reading))
    (read_lines (reading_of_include files left path) path (logical_lines text)) h)
