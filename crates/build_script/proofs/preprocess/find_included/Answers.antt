use Rattle.std.proofs.Common.{◌≡◌, Bool, true, false, [], ◌∷◌, refl, sym, ap, ◌∙◌, if◌then◌else◌}
use Rattle.std.specs.List.{filter_map}
use Rattle.std.proofs.lemmas.Result.{err_from_is_err_and}
use Rattle.cc_names.specs.Paths.{is_root}
use Rattle.script_grammar.specs.Includes.{under}
use Rattle.build_script.specs.Making.{found_with}
use Rattle.script_grammar.specs.Parts.{gives, own_of}
use Rattle.script_grammar.specs.Run.{probe_of}
use Rattle.script_grammar.proofs.CarriedLemmas.{carried_on, carried_as, carried_pure, carried_ended, carried_passed}
use Rattle.build_script.proofs.preprocess.find_included.Goals as goal

pub returns-in_err-found-clause-went : goal.returns-in_err-found-clause-went
returns-in_err-found-clause-went g c =
    let p = err_from_is_err_and c.from_residual.result c.from_residual.ensures.1 in
    let others = if is_root c.args.path.now then [] else filter_map (under c.args.path.now) c.args.directories.now in
    rw (p.1, p.2) (carried_ended (gives (found_with c.probe.new.probes)) (c.in_err-found.ensures.went others))

pub returns-in-Some-clause-went : goal.returns-in-Some-clause-went
returns-in-Some-clause-went g c =
    let others = if is_root c.args.path.now then [] else filter_map (under c.args.path.now) c.args.directories.now in
    let found = rw c.in-Some.is at (c.in_ok-found.ensures.went others) in
    carried_passed (gives (found_with c.probe.new.probes)) c.in-Some.text refl found

pub returns-then-is_root-clause-went : goal.returns-then-is_root-clause-went
returns-then-is_root-clause-went g c =
    let root : is_root c.args.path.now ≡ true = sym c.is_root.ensures ∙ c.if-is_root.true in
    let looks = λ (b : Bool). probe_of (own_of c.args.making.written.now) c.args.path.now
    (c.args.path.now ∷ (if b then [] else filter_map (under c.args.path.now) c.args.directories.now)) c.args.probes.now in
    let missed = rw c.in_default.is at (c.in_ok-found.ensures.went []) in
    carried_as (ap looks (sym root)) (carried_on g.met.F.Files.transitive missed
    (carried_pure g.met.F.Files.reflexive (c.absent.ensures c.probe.new.probes)))

pub returns-clause-went : goal.returns-clause-went
returns-clause-went g c =
    let below : is_root c.args.path.now ≡ false = sym c.is_root.ensures ∙ c.if-is_root.false in
    let looks = λ (b : Bool). probe_of (own_of c.args.making.written.now) c.args.path.now
    (c.args.path.now ∷ (if b then [] else filter_map (under c.args.path.now) c.args.directories.now)) c.args.probes.now in
    let missed = rw c.in_default.is at (c.in_ok-found.ensures.went (filter_map (under c.args.path.now) c.args.directories.now)) in
    carried_as (ap looks (sym below)) (carried_on g.met.F.Files.transitive missed c.find_under.ensures.went)
