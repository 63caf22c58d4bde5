use Rattle.std.proofs.Common.{◌∙◌, sym, arith}
use Rattle.make_text.specs.Joining.{joined_targets, HasNew, HasLonger, HasTarget}
use Rattle.make_text.proofs.JoinLemmas.{target_there, target_new}
use Rattle.make_text.proofs.NumberLemmas.{number_within}
use Rattle.make_text.proofs.ReaderLemmas.{on_ok}
use Rattle.make_text.proofs.joining.Joining.join_at.Goals as goal

pub join_to-requires-clause-within : goal.join_to-requires-clause-within
join_to-requires-clause-within c =
    let path = c.args.target.now in
    let within = number_within joined_targets 0 path c.args.self.now.rules.items c.in-Some.rule (sym (c.requires.known path)
    ∙ sym c.in-Some.ensures) in
    omega (arith, within)

pub returns-in-Some-clause-rules : goal.returns-in-Some-clause-rules
returns-in-Some-clause-rules c =
    let path = c.args.target.now in
    let lines = c.args.lines.now in
    let rules = c.args.self.now.rules.items in
    let new = c.join_to.new.self.rules.items in
    on_ok c.join_to.result (HasLonger c.in-Some.rule c.args.line rules new) (HasTarget lines c.args.line path rules new)
    c.join_to.ensures.rules
    (λ longer. target_there lines c.args.line c.in-Some.rule path rules new (sym (c.requires.known path)
    ∙ sym c.in-Some.ensures) longer)

pub returns-in_ok-targets-in-None-clause-rules : goal.returns-in_ok-targets-in-None-clause-rules
returns-in_ok-targets-in-None-clause-rules c =
    let path = c.args.target.now in
    let lines = c.args.lines.now in
    let rules = c.args.self.now.rules.items in
    let new = c.add.new.self.rules.items in
    let targets = c.in_ok-targets-in-None.targets in
    on_ok c.add.result (HasNew targets c.args.line rules new) (HasTarget lines c.args.line path rules new) c.add.ensures.rules
    (λ has. target_new lines c.args.line path targets rules new (sym (c.requires.known path)
    ∙ sym c.in-None.ensures) c.in_ok-targets-in-None.ensures has)
