use Rattle.std.proofs.Common.{◌≡◌, ap, ◌∙◌, sym, true, ◌-◌, [], Option, length}
use Rattle.cc_names.specs.declared.refusals.MakeCause.{MakeCause}
use Rattle.make_text.specs.Expanding.{refer}
use Rattle.make_text.specs.MacroChecks.{AtEndUnless, RunsTo, macro_fault_of}
use Rattle.make_grammar.specs.Macros.{Expansion}
use Rattle.make_text.specs.Runs.{macro_at}
use Rattle.make_grammar.specs.Statements.{macros_of}
use Rattle.make_text.specs.Steps.{automatic_of, IsExpanding}
use Rattle.make_text.specs.declared.expansions.Step.TheVariants.{Loops}
use Rattle.make_text.proofs.CheckLemmas.{total_of, total_is, begins, referred_goes, part_of_whole, known_result, at_end}
use Rattle.make_text.proofs.StepLemmas.{referred_went, where_ok}
use Rattle.make_text.proofs.expansions.Expanding.test.Goals as goal

pub known_len-requires : goal.known_len-requires
known_len-requires c = rw c.requires.ended.running.runs.known c.requires.within

pub run-requires : goal.run-requires
run-requires c =
    let macros = macros_of c.args.macros.now in
    let automatic = automatic_of c.args.automatic.now in
    let old = c.args.self.now in
    let total = total_of macros automatic old.written.items c.args.name.now in
    record {
      apart = c.requires.apart;
      runs = (
        total,
        referred_goes macros automatic total c.args.name.now old c.refer.new.self c.in_ok-refer.field-0 c.requires.apart
            c.in_default-2.not-Loops
            (begins macros automatic old c.args.name.now c.requires.ended) c.in_ok-refer.ensures,
      );
    }

pub returns-in-Loops-clause-fault : goal.returns-in-Loops-clause-fault
returns-in-Loops-clause-fault c =
    let macros = macros_of c.args.macros.now in
    let automatic = automatic_of c.args.automatic.now in
    let old = c.args.self.now in
    let name = c.args.name.now in
    let total = total_of macros automatic old.written.items name in
    let part = refer macros automatic (length macros) [] name in
    let referred = rw c.in-Loops.is at c.in_ok-refer.ensures in
    let went = referred_went macros automatic total name old c.refer.new.self Loops c.requires.apart
    (begins macros automatic old name c.requires.ended) referred in
    let whole = c.refer.new.self.written.items in
    let parts = part_of_whole old.written.items whole part true (sym went ∙ total_is macros automatic old.written.items name) in
    let start = sym (c.len-start.ensures ∙ old.written.ok.0) in
    c.fault_of_expansion-in-Loops.ensures part (parts.0 ∙ (ap (λ n. length whole - n) start ∙ sym c.written_behind.ensures)) parts.1

pub returns-in_default-2 : goal.returns-in_default-2
returns-in_default-2 c =
    let macros = macros_of c.args.macros.now in
    let automatic = automatic_of c.args.automatic.now in
    let old = c.args.self.now in
    let name = c.args.name.now in
    let total = total_of macros automatic old.written.items name in
    let part = refer macros automatic (length macros) [] name in
    let running = referred_goes macros automatic total name old c.refer.new.self c.in_ok-refer.field-0 c.requires.apart
    c.in_default-2.not-Loops
    (begins macros automatic old name c.requires.ended) c.in_ok-refer.ensures in
    let start = sym (c.len-start.ensures ∙ old.written.ok.0) in
    let whole = total_is macros automatic old.written.items name in
    let Ran = λ (cause : Option MakeCause). (t : Expansion) → IsExpanding macros automatic t [] c.refer.new.self
    → RunsTo macros automatic t c.len-start.result cause c.run.new.self in
    record {
      fault = where_ok Ran (λ cause. cause ≡ macro_fault_of macros automatic name) c.run.result c.run.ensures
          (λ cause ran. (ran total running old.written.items part start whole).0);
      ended = where_ok Ran (λ cause. AtEndUnless macros automatic cause c.run.new.self) c.run.result c.run.ensures
          (λ cause ran. (ran total running old.written.items part start whole).1);
    }

pub returns-in-Some : goal.returns-in-Some
returns-in-Some c =
    let macros = macros_of c.args.macros.now in
    let automatic = automatic_of c.args.automatic.now in
    let old = c.args.self.now in
    let known = known_result macros automatic old c.args.index c.in-Some.len c.requires.ended c.requires.within c.in-Some.ensures
    in
    let named = c.requires.named in
    record {
      fault = c.fault_of_expansion.ensures (refer macros automatic (length macros) [] (macro_at macros c.args.index).name) known.0 known.1
          ∙ ap (macro_fault_of macros automatic) named;
      ended = at_end macros automatic c.fault_of_expansion.result old c.requires.ended;
    }
