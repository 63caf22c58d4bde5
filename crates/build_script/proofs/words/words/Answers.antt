use Rattle.std.proofs.Common.{◌≡◌, ◌++◌, append_assoc, rules}
use Rattle.std.proofs.lemmas.List.Sorted.{answers_always}
use Rattle.script_grammar.specs.Words.{is_alike, words, words_of_run}
use Rattle.build_script.proofs.WordLemmas.{words_cut}
use Rattle.build_script.proofs.words.words.Goals as goal

pub loop-run-preserved : goal.loop-run-preserved
loop-run-preserved c =
    let s = c.in-Some.ensures.steps in
    let prefix = (s.2 is_alike (answers_always _ _ _ (λ f a r f' called. search rules))).1 in
    let cut : words c.loop-run.run-iterator.rest.now ≡ words_of_run c.in-Some.run'.now ++ words c.next.new.self.rest.now =
    words_cut _ _ _ s.0 s.1 prefix in
    rw c.in_ok-push_words.ensures (rw append_assoc (rw (← cut) c.loop-run.invariant))
