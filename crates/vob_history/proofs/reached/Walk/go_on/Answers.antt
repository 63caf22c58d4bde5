-- What a version follows comes before it on its branch, or is where its branch leaves, or is the tail of an arrow.
use Rattle.std.proofs.Common.{ℕ, Bool, ◌||◌, ap, ap₂, sym, ◌∙◌}
use Rattle.cc_names.specs.Versions.{is_number}
use Rattle.legal_history.specs.Queries.Merges.{follows, is_arrow_between}
use Rattle.vob_history.proofs.Predecessors.{branch_by, successor_by}
use Rattle.vob_history.proofs.AddedVersions.{alike, both_taken}
use Rattle.vob_history.proofs.reached.Walk.go_on.Goals as goal

pub returns : goal.returns
returns c =
    let b = c.args.rows.now in
    let version = c.args.version in
    let before : ℕ → Bool = λ n. is_number n c.predecessor.result in
    let origin : ℕ → Bool = λ n. is_number n c.origin_of.result in
    let tails : ℕ → Bool = λ n. is_arrow_between b n version in
    alike (λ n. (before n || origin n) || tails n) (λ n. follows b n version) c.args.self.now c.add_arrow_sources.new.self
    (λ n. ap₂ (λ (one two : Bool). (one || two) || tails n) (ap (is_number n) c.predecessor.ensures
    ∙ sym (successor_by b n version)) (ap (is_number n) c.origin_of.ensures ∙ sym (branch_by b n version)))
    (both_taken (λ n. before n || origin n) tails c.args.self.now c.take-2.new.self c.add_arrow_sources.new.self
    (both_taken before origin c.args.self.now c.take.new.self c.take-2.new.self c.in_ok-take.ensures c.in_ok-take-2.ensures)
    c.in_ok-add_arrow_sources.ensures)
