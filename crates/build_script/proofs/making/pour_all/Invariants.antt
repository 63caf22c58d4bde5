use Rattle.std.proofs.Common.{ℕ, List, Ok, map, drop}
use Rattle.build_script.specs.MadeOf.{made_of}
use Rattle.build_script.specs.Making.{form_of, output_by_parts}
use Rattle.script_grammar.specs.Parts.{Performed, own_of}
use Rattle.script_grammar.specs.Run.{TextOf, with_parts}
use Rattle.build_script.proofs.making.pour_all.Given as goal

abbrev pub invariant-loop-path : goal.invariant-loop-path
invariant-loop-path g l =
    let put = λ (paths : List (List ℕ)). map (λ (path : List ℕ). TextOf (form_of l.form path) path) paths in
    let own = own_of l.making.written.now in
    let output = output_by_parts l.making.path.now l.making.before in
    Performed g.F.Files.stands g.F.Files.broken g.F.Files.follows l.initial.reads.keys
    (with_parts own output (put l.paths) (made_of l.initial.made))
    (λ (u : Unit {0}). with_parts own output (put (drop l.path-index l.paths)) (made_of l.made)) (Ok tt) l.reads.keys
    l.initial.files l.files
