use Rattle.std.proofs.Common.{sym, ap, ◌∙◌, List, ℕ, take, drop, ◌+◌, subst}
use Rattle.std.specs.List.{slice_split}
use Rattle.cc_names.specs.Answers.{Gives}
use Rattle.cc_names.specs.Paths.{is_slash}
use Rattle.cc_names.proofs.Common.{rest_is_whole}
use Rattle.session_text.specs.Words.{version_behind_main, with_branch, version_of_parts, type_word}
use Rattle.session_text.proofs.Versions.{version_behind_main-next, version_behind_main-last, fault-of_branch, fault-along}
use Rattle.session_text.proofs.words.version_behind_main.Goals as goal

pub returns-in-Err : goal.returns-in-Err
returns-in-Err c =
    let place = sym c.first_slash.ensures.place ∙ c.in-Some.is in
    fault-along c.in-Err.fault _ _ (c.branches.invariant ∙ version_behind_main-next c.branches.rest.now c.in-Some.slash
    c.branches.branches.items place)
    (fault-of_branch c.in-Err.fault (version_behind_main (slice_split is_slash (drop (c.in-Some.slash + 1) c.branches.rest.now)))
    c.branches.branches.items (type_word (take c.in-Some.slash c.branches.rest.now)) c.in-Err.ensures)

pub branches-preserved : goal.branches-preserved
branches-preserved c =
    let place = sym c.first_slash.ensures.place ∙ c.in-Some.is in
    let whole = rest_is_whole (c.in-Some.slash + 1) c.branches.rest.now in
    c.branches.invariant ∙ version_behind_main-next c.branches.rest.now c.in-Some.slash c.branches.branches.items place
    ∙ ap (λ v. with_branch (version_behind_main (slice_split is_slash (drop (c.in-Some.slash + 1) c.branches.rest.now)))
    c.branches.branches.items v) c.in-Ok.ensures
    ∙ ap (λ v. version_behind_main (slice_split is_slash (drop (c.in-Some.slash + 1) c.branches.rest.now)) v)
    (sym c.in_ok-push-in-Ok.ensures.items)
    ∙ ap (λ (v : List ℕ). version_behind_main (slice_split is_slash v) c.push.new.self.items) (sym whole)

pub returns : goal.returns
returns c =
    let all = c.branches.invariant ∙ version_behind_main-last c.branches.rest.now c.branches.branches.items
    (sym c.first_slash.ensures.place ∙ c.in_default.is) ∙ ap (λ v. version_of_parts c.branches.branches.items v)
    (sym c.number.ensures) in
    subst (Gives c.version_of_parts.result) (sym all) c.version_of_parts.ensures
