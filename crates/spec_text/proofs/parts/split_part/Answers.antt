use Rattle.std.proofs.Common.{◌==◌, ℕ, sym, ◌∙◌}
use Rattle.cc_names.proofs.Splits.{slice_split-at, slice_split-none}
use Rattle.spec_text.proofs.parts.split_part.Goals as goal

pub returns-in-Some-end_of_part : goal.returns-in-Some-end_of_part
returns-in-Some-end_of_part c =
    let found = sym c.end_of_part.ensures.place ∙ c.in-Some-end_of_part.is in
    rw (c.in-Some.is, c.behind.ensures) (slice_split-at (λ (b : ℕ). b == c.args.at) 0 c.in-Some.bytes.now
    c.in-Some-end_of_part.end found)

pub returns-in-None : goal.returns-in-None
returns-in-None c =
    let found = sym c.end_of_part.ensures.place ∙ c.in-None.is in
    rw c.in-Some.is (slice_split-none (λ (b : ℕ). b == c.args.at) c.in-Some.bytes.now found)
