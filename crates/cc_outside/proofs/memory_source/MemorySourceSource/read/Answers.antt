use Rattle.std.proofs.Common.{◌-◌, ◌∙◌, ap, sym, List, ◌≡◌, length, drop, take, ℕ}
use Rattle.std.proofs.lemmas.List.{take_rest}
use Rattle.cc_outside.specs.Feeds.{Feed}
use Rattle.cc_outside.proofs.Flows.{takes_prefix}
use Rattle.cc_outside.proofs.memory_source.MemorySourceSource.read.Goals as goal

abbrev left_of : Feed → List ℕ
left_of feed = feed.left

pub returns-clause-bytes : goal.returns-clause-bytes
returns-clause-bytes c =
    let rest : take (length c.deref-2.result.now - c.self.inside.place) (drop c.self.inside.place c.deref-2.result.now)
    ≡ drop c.self.inside.place c.self.inside.bytes.items =
    take_rest c.deref-2.result.now c.self.inside.place ∙ ap (λ v. drop c.self.inside.place v) c.deref-2.ensures.value in
    let count = rw rest at c.min-count.ensures in
    let piece = rw rest at c.copy_from_slice.ensures.after in
    let taken = takes_prefix c.self.inside.bytes.items c.args.into.now c.copy_from_slice.new.self c.self.inside.place
    c.min-count.result count piece in
    rw (ap left_of (sym c.self.view_is)) taken
