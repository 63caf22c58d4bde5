use Rattle.std.proofs.Common.{refl, sym, subst, ◌∙◌, ◌+◌, ◌<◌, ◌≤◌, ℕ, List, take, set, get_or, length, arith}
use Rattle.std.proofs.lemmas.List.{length-set, take_all}
use Rattle.std.specs.Int.RustNames.{bit_or}
use Rattle.make_graph.proofs.NumberSetLemmas.{Joined, none_joined, one_joined, numbers_joined, read_at}
use Rattle.make_graph.proofs.number_sets.put_numbers.Goals as goal

pub loop-index-init : goal.loop-index-init
loop-index-init c = record {
  length = refl;
  words = none_joined c.args.words.now.items c.args.other.now;
}

pub loop-index-preserved : goal.loop-index-preserved
loop-index-preserved c =
    let words = c.loop-index.words.items in
    let other = c.args.other.now in
    let i = c.loop-index.index in
    let within : i < length other = omega arith in
    let room : i < length words = omega (arith, c.loop-index.invariant.length, c.requires, within) in
    let read = read_at words i c.index_mut.result.now room c.index_mut.ensures.value in
    record {
      length = length-set words i (bit_or c.index_mut.result.now (get_or other i 0)) ∙ c.loop-index.invariant.length;
      words = subst (λ w. Joined c.args.words.now.items (take (i + 1) other) (set words i (bit_or w (get_or other i 0))))
          (sym read)
          (one_joined c.args.words.now.items other words i within room c.loop-index.invariant.words);
    }

pub returns-clause-numbers : goal.returns-clause-numbers
returns-clause-numbers c n =
    let other = c.args.other.now in
    let past : length other ≤ c.loop-index.index = omega arith in
    numbers_joined c.args.words.now.items other c.loop-index.words.items
    (subst (λ (l : List ℕ). Joined c.args.words.now.items l c.loop-index.words.items) (take_all c.loop-index.index other past)
    c.loop-index.invariant.words) n
