use Rattle.std.proofs.Math.ListN.{set}
use Rattle.make_text.specs.Joining.{KnowsJoined, HasJoined, HasLonger}
use Rattle.make_text.proofs.JoinLemmas.{joined_longer, known_longer}
use Rattle.make_text.proofs.ReaderLemmas.{on_ok}
use Rattle.make_text.proofs.joining.Joining.join_to.Goals as goal

pub returns-clause-rules : goal.returns-clause-rules
returns-clause-rules c =
    let rules = c.args.self.now.rules.items in
    let old = c.index_mut.result.now in
    on_ok c.join.result (HasJoined old c.args.line c.join.new.self) (HasLonger c.args.rule c.args.line rules
    (set rules c.args.rule c.join.new.self)) c.join.ensures
    (λ has. joined_longer rules c.args.rule c.args.line old c.join.new.self c.requires.within c.index_mut.ensures.value has)

pub returns-clause-known : goal.returns-clause-known
returns-clause-known c =
    let rules = c.args.self.now.rules.items in
    let old = c.index_mut.result.now in
    on_ok c.join.result (HasJoined old c.args.line c.join.new.self) (KnowsJoined c.args.self.now.numbers
    (set rules c.args.rule c.join.new.self)) c.join.ensures
    (λ has. known_longer c.args.self.now.numbers rules c.args.rule c.args.line old c.join.new.self c.index_mut.ensures.value has
    c.requires.known)
