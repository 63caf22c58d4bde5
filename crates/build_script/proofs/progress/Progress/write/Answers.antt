use Rattle.std.proofs.Common.{Ok, ◌++◌, refl}
use Rattle.std.proofs.lemmas.Result.{err_from_is_err_and}
use Rattle.script_grammar.specs.Parts.{own_of}
use Rattle.script_grammar.specs.Run.{Made, Done, output_start, wrote}
use Rattle.script_grammar.proofs.CarriedLemmas.{carried_then, carried_failed, carried_pure, carried_given_up}
use Rattle.build_script.proofs.progress.Progress.write.Goals as goal

pub returns-in_err-make : goal.returns-in_err-make
returns-in_err-make g c =
    let p = err_from_is_err_and c.from_residual.result c.from_residual.ensures.1 in
    let own = own_of c.args.self.now.written in
    let more = λ (made : Made). Done (Ok (record {
      own = wrote c.args.path.now (output_start c.args.appends (own c.args.path.now)
          ++ made.bytes) own;
      probes = made.probes;
    })) in
    rw (p.1, p.2) (carried_failed more _ (rw (c.length_before.ensures, c.begin-made.ensures) at c.in_err-make.ensures))

pub returns-in_err-store : goal.returns-in_err-store
returns-in_err-store g c =
    let p = err_from_is_err_and c.from_residual-in_err-store.result c.from_residual-in_err-store.ensures.1 in
    let own = own_of c.args.self.now.written in
    let more = λ (made : Made). Done (Ok (record {
      own = wrote c.args.path.now (output_start c.args.appends (own c.args.path.now)
          ++ made.bytes) own;
      probes = made.probes;
    })) in
    rw (p.1, p.2) (carried_then g.met.F.Files.transitive more (rw (
      c.length_before.ensures,
      c.begin-made.ensures,
    ) at c.in_ok-make.ensures)
    (carried_given_up g.met.F.Files.reflexive))

pub returns : goal.returns
returns g c =
    let own = own_of c.args.self.now.written in
    let more = λ (made : Made). Done (Ok (record {
      own = wrote c.args.path.now (output_start c.args.appends (own c.args.path.now)
          ++ made.bytes) own;
      probes = made.probes;
    })) in
    rw c.in_ok-store.ensures (carried_then g.met.F.Files.transitive more
    (rw (c.length_before.ensures, c.begin-made.ensures) at c.in_ok-make.ensures)
    (carried_pure g.met.F.Files.reflexive refl))
