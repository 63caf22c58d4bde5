use Rattle.std.proofs.Common.{◌≡◌, ◌+◌, ◌*◌, Ok, drop, length}
use Rattle.make_grammar.specs.LogicalLines.{logical_lines}
use Rattle.make_grammar.specs.Statements.{reading_of_include, include_line, include_paths, read_lines}
use Rattle.make_text.proofs.including.+files.Given as goal

abbrev pub decreases-reading_of_include : goal.decreases-reading_of_include
decreases-reading_of_include g l = 5 * l.left

abbrev pub decreases-include_line : goal.decreases-include_line
decreases-include_line g l = 5 * l.left + 1

abbrev pub decreases-read_line : goal.decreases-read_line
decreases-read_line g l = 5 * l.left + 2

abbrev pub decreases-counted_line : goal.decreases-counted_line
decreases-counted_line g l = 5 * l.left + 3

abbrev pub decreases-read_lines : goal.decreases-read_lines
decreases-read_lines g l = 5 * l.left + 4

abbrev pub invariant-include_line-loop-path : goal.invariant-include_line-loop-path
invariant-include_line-loop-path g l =
    include_paths (reading_of_include (g.X.Texts.texts l.texts) l.left l.file.value l.line) (drop l.path-index l.path-items)
    (Ok l.reader)
    ≡ include_line (reading_of_include (g.X.Texts.texts l.texts) l.left l.file.value l.line) l.file.value l.line l.behind
    l.fn.reader

abbrev pub invariant-read_lines-lines : goal.invariant-read_lines-lines
invariant-read_lines-lines g l =
    read_lines (reading_of_include (g.X.Texts.texts l.texts) l.left l.file.value) l.file.value l.lines l.reader
    ≡ read_lines (reading_of_include (g.X.Texts.texts l.texts) l.left l.file.value) l.file.value (logical_lines l.text)
    l.fn.reader

abbrev pub decreases-read_lines-lines : goal.decreases-read_lines-lines
decreases-read_lines-lines g l = length l.lines
