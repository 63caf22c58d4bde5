use Rattle.std.proofs.Common.{◌++◌, ◌+◌, ◌∙◌, sym, ap, drop, arith, length-drop}
use Rattle.std.proofs.lemmas.List.{take_rest}
use Rattle.make_grammar.specs.Macros.{pieces_of}
use Rattle.make_text.specs.Scanning.{pieces_in}
use Rattle.make_text.proofs.PieceLemmas.{name_to, name_open}
use Rattle.make_text.proofs.pieces.cut_name.Goals as goal

pub returns-in-Some : goal.returns-in-Some
returns-in-Some c =
    let text = c.args.text.now in
    let rest = take_rest text (c.in-Some.end + 1) in
    record {
      pieces =
          name_to c.args.close c.in-Some.end text (sym c.in-Some.ensures.place)
          ∙ ap (λ v. v ++ pieces_of (drop (c.in-Some.end + 1) text)) (sym c.piece_of_name.ensures)
          ∙ ap (λ v. pieces_in c.piece_of_name.result ++ pieces_of v) (sym rest);
      shorter = rw rest (omega (arith, length-drop (c.in-Some.end + 1) text));
    }

pub returns-in-None : goal.returns-in-None
returns-in-None c = record {
  pieces = name_open c.args.close c.args.text.now (sym c.in-None.ensures.place);
  shorter = omega arith;
}
