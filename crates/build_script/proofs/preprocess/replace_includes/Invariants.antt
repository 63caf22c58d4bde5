use Rattle.std.proofs.Common.{Ok, length}
use Rattle.build_script.specs.MadeOf.{made_of}
use Rattle.build_script.specs.Making.{output_by_parts, preprocessing, resumed_making, left_of}
use Rattle.build_script.specs.OpenTexts.{rests_of}
use Rattle.script_grammar.specs.Parts.{Performed, own_of}
use Rattle.script_grammar.specs.Run.{preprocessed_text, depth_limit}
use Rattle.build_script.proofs.preprocess.replace_includes.Given as goal

abbrev pub invariant-loop-innermost : goal.invariant-loop-innermost
invariant-loop-innermost g l =
    let pp = preprocessing (own_of l.making.written.now) l.directories (output_by_parts l.making.path.now l.making.before) in
    Performed g.F.Files.stands g.F.Files.broken g.F.Files.follows l.initial.reads.keys
    (preprocessed_text depth_limit pp l.fn.text (made_of l.initial.made))
    (λ (u : Unit {0}). resumed_making pp (rests_of l.inside.items) (made_of l.made)) (Ok tt) l.reads.keys l.initial.files l.files

abbrev pub decreases-loop-innermost : goal.decreases-loop-innermost
decreases-loop-innermost g l = left_of (output_by_parts l.making.path.now l.making.before) (made_of l.made)
    (length l.inside.items)
