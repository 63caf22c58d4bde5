use Rattle.std.proofs.Common.{◌∷◌, ap, ◌∙◌, rules}
use Rattle.session_text.specs.Clearmake.{asked_by, asked_behind}
use Rattle.session_text.proofs.BuildWords.{asked_by-one, asked_by-option}
use Rattle.session_text.proofs.builds.asked_by.Goals as goal

pub loop-word-preserved-then-not-is_option : goal.loop-word-preserved-then-not-is_option
loop-word-preserved-then-not-is_option c =
    c.loop-word.invariant ∙ ap (λ v. asked_by v c.loop-word.asked) c.in-Some.ensures
    ∙ asked_by-one c.in-Some.word.now c.next.new.self c.loop-word.asked (search rules)
    ∙ ap (λ v. asked_behind (asked_by c.next.new.self) v) c.in_ok-add_one.ensures

pub loop-word-preserved : goal.loop-word-preserved
loop-word-preserved c =
    c.loop-word.invariant ∙ ap (λ v. asked_by v c.loop-word.asked) c.in-Some.ensures
    ∙ ap (λ v. asked_by (c.in-Some.word.now ∷ v) c.loop-word.asked) c.in-Some-next.ensures
    ∙ asked_by-option c.in-Some.word.now c.in-Some-next.next.now c.next-in-Some.new.self c.loop-word.asked (search rules)
    ∙ ap (λ v. asked_behind (asked_by c.next-in-Some.new.self) v) c.in_ok-add_option.ensures
