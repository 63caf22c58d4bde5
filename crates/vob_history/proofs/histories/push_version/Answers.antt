-- The line has the name of the version.
use Rattle.std.proofs.Common.{◌≡◌, ℕ, List, ◌++◌, OnOk, codes, subst, ◌∙◌}
use Rattle.legal_history.specs.Queries.HistoryTexts.{dated_line}
use Rattle.vob_history.proofs.histories.push_version.Goals as goal

pub returns : goal.returns
returns c =
    subst (λ (name : List ℕ). OnOk c.push_history_line.result (c.push_history_line.new.text.items
    ≡ c.args.text.now.items ++ dated_line c.args.moment (codes "create version " ++ name)))
    (c.as_bytes.ensures ∙ c.in_ok-name.ensures) c.push_history_line.ensures
