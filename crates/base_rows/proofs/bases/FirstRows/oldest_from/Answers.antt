-- The links of the key lead from one of its rows to the next older one, as far as the row from which on rows count.
use Rattle.std.proofs.Common.{◌≡◌, ℕ, suc, ◌<◌, ◌≤◌, ◌∷◌, nat_eq, List, length, get_or, take, reverse, Option, None, IfSome, sym, ap}
use Rattle.std.proofs.Common.{subst, ◌∙◌, arith, rules}
use Rattle.std.specs.HashMap.{get}
use Rattle.std.specs.Option.{option_or}
use Rattle.std.proofs.lemmas.List.{length-take-le}
use Rattle.base_model.specs.Rows.{Base, first_rows}
use Rattle.base_rows.specs.LookUps.{from_row, last_set, oldest, set_at}
use Rattle.base_rows.specs.Marked.{Sink, marked_rows, rows_from}
use Rattle.base_rows.specs.Shown.{Shown}
use Rattle.base_rows.specs.Subjects.{key}
use Rattle.base_rows.specs.declared.marks.Link.{Link}
use Rattle.base_rows.proofs.Chains.{link_at, none_from}
use Rattle.base_rows.proofs.MarksSink.{marked_sinks}
use Rattle.base_rows.proofs.Oldest.{or_none, or_of_three}
use Rattle.base_rows.proofs.RowsSince.{all_below, first_kept, numbers_from, oldest_since}
use Rattle.base_rows.proofs.bases.FirstRows.oldest_from.Goals as goal

-- the search begins at the newest row of the key
pub loop-next-init : goal.loop-next-init
loop-next-init g c =
    let effect = g.L.LookUp.effect c.args.look.now in
    let subject = g.L.LookUp.about c.args.look.now in
    let since = c.args.since in
    let count = c.self.inside.count in
    let all : Base = reverse c.base.inside.rows.items in
    let links = c.base.inside.links.items in
    let heads : ℕ → Option ℕ = get nat_eq c.base.inside.newest in
    let found : c.copied-next.result ≡ heads c.key.result = search rules in
    let at_key : c.key.result ≡ key c.base.inside.hashing subject = c.key.ensures
    ∙ ap (key c.base.inside.hashing) c.subject.ensures in
    let next : c.copied-next.result ≡ heads (key c.base.inside.hashing subject) = found ∙ ap heads at_key in
    let same : c.as_slice-links.result.now ≡ links = c.as_slice-links.ensures.value in
    let first : first_rows (suc count) all ≡ c.args.self.now = ap (λ (shown : Shown). first_rows (suc count) shown.base)
    c.base.view_is ∙ c.self.view_is in
    let marked : List ℕ = marked_rows c.base.inside.hashing (key c.base.inside.hashing subject) all in
    let oldest_one : last_set (set_at effect c.args.self.now) (numbers_from since marked)
    ≡ oldest (from_row since effect) c.args.self.now =
    subst (λ (b : Base). last_set (set_at effect b) (numbers_from since marked) ≡ oldest (from_row since effect) b) first
    (oldest_since c.base.inside.hashing subject effect since (g.met.L.LookUp.affects c.args.look.now) (suc count) all) in
    let from : rows_from (reverse c.as_slice-links.result.now) c.copied-next.result ≡ marked =
    ap (λ (ls : List Link). rows_from (reverse ls) c.copied-next.result) same ∙ ap (rows_from (reverse links)) next
    ∙ c.base.invariant.marks.rows (key c.base.inside.hashing subject) in
    let kept : List ℕ = numbers_from since (rows_from (reverse c.as_slice-links.result.now) c.copied-next.result) in
    record {
      within = rw (next, same) (c.base.invariant.marks.chained.within (key c.base.inside.hashing subject));
      shorter = omega arith;
      linked = rw same c.base.invariant.marks.chained.linked;
      sinks = subst Sink (sym from) (marked_sinks c.base.inside.hashing (key c.base.inside.hashing subject) all);
      left = or_none (last_set (set_at effect c.args.self.now) kept)
          ∙ ap (λ rows. last_set (set_at effect c.args.self.now) (numbers_from since rows)) from ∙ oldest_one;
    }

pub offset_bounds-links-place : goal.offset_bounds-links-place
offset_bounds-links-place g c =
    let within : c.in-Some.place < length c.loop-next.links.now = subst (λ n. IfSome n (λ p. p < length c.loop-next.links.now))
    c.in-Some.is c.loop-next.invariant.within in
    let in_range : c.in-Some.place < length c.as_slice-links.result.now = omega (arith, c.loop-next.invariant.shorter) in
    search rules

-- a row that lies below the first one that counts is older than none that does
pub returns-then-link-since : goal.returns-then-link-since
returns-then-link-since g c =
    let at = set_at (g.L.LookUp.effect c.args.look.now) c.args.self.now in
    let since = c.args.since in
    let links = c.loop-next.links.now in
    let place = c.in-Some.place in
    let within : place < length links = subst (λ n. IfSome n (λ p. p < length links)) c.in-Some.is c.loop-next.invariant.within in
    let link : Link = get_or links place (record { row = 0; older = None; skip = None; depth = 0 }) in
    let along = link_at links place (record { row = 0; older = None; skip = None; depth = 0 }) within in
    let rest = rows_from (reverse (take place links)) link.older in
    let here : rows_from (reverse links) c.loop-next.next ≡ link.row ∷ rest = ap (rows_from (reverse links)) c.in-Some.is
    ∙ along.rows in
    let itself : link.row ≤ link.row = omega arith in
    let below : link.row < since = omega arith in
    ap (λ rows. option_or (last_set at rows) c.loop-next.oldest) (sym (ap (numbers_from since) here
    ∙ all_below since link.row (link.row ∷ rest) below (itself, (subst Sink here c.loop-next.invariant.sinks).0)))
    ∙ c.loop-next.invariant.left

-- what the row sets comes before what newer ones set
pub loop-next-preserved : goal.loop-next-preserved
loop-next-preserved g c =
    let at = set_at (g.L.LookUp.effect c.args.look.now) c.args.self.now in
    let since = c.args.since in
    let links = c.loop-next.links.now in
    let place = c.in-Some.place in
    let within : place < length links = subst (λ n. IfSome n (λ p. p < length links)) c.in-Some.is c.loop-next.invariant.within in
    let link : Link = get_or links place (record { row = 0; older = None; skip = None; depth = 0 }) in
    let along = link_at links place (record { row = 0; older = None; skip = None; depth = 0 }) within in
    let rest = rows_from (reverse (take place links)) link.older in
    let fewer : length (take place links) ≡ place = length-take-le place links (omega arith) in
    let here : rows_from (reverse links) c.loop-next.next ≡ link.row ∷ rest = ap (rows_from (reverse links)) c.in-Some.is
    ∙ along.rows in
    record {
      within = subst (λ n. IfSome link.older (λ p. p < n)) (sym fewer) (along.older c.loop-next.invariant.linked);
      shorter = omega (arith, fewer, c.loop-next.invariant.shorter);
      linked = along.linked c.loop-next.invariant.linked;
      sinks = (subst Sink here c.loop-next.invariant.sinks).1;
      left = ap (option_or (last_set at (numbers_from since rest))) c.set_at-oldest.ensures
          ∙ sym (or_of_three (last_set at (numbers_from since rest)) (at link.row) c.loop-next.oldest)
          ∙ ap (λ rows. option_or (last_set at rows) c.loop-next.oldest) (sym (ap (numbers_from since) here
          ∙ first_kept since link.row rest (omega arith)))
          ∙ c.loop-next.invariant.left;
    }

-- where the links end no row sets anything
pub returns : goal.returns
returns g c =
    let at = set_at (g.L.LookUp.effect c.args.look.now) c.args.self.now in
    let none : c.loop-next.next ≡ None = search rules in
    ap (λ rows. option_or (last_set at (numbers_from c.args.since rows)) c.loop-next.oldest)
    (sym (ap (rows_from (reverse c.loop-next.links.now)) none ∙ none_from (reverse c.loop-next.links.now)))
    ∙ c.loop-next.invariant.left
