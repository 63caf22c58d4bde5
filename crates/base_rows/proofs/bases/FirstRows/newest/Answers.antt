-- The links of the key lead from one of its rows to the next older one.
use Rattle.std.proofs.Common.{◌≡◌, ℕ, suc, ◌<◌, ◌≤◌, nat_eq, List, length, get_or, take, reverse, Option, Some, None, IfSome}
use Rattle.std.proofs.Common.{sym, ap, subst, ◌∙◌, arith, rules}
use Rattle.std.specs.HashMap.{get}
use Rattle.std.specs.Option.{option_or}
use Rattle.std.proofs.lemmas.List.{length-take-le}
use Rattle.base_model.specs.Rows.{Base, first_rows}
use Rattle.base_rows.specs.LookUps.{update_at, first_update, newest}
use Rattle.base_rows.specs.Indexed.{IsIndexed}
use Rattle.base_rows.specs.Marked.{AreLinked, Sink, rows_from, marked_rows}
use Rattle.base_rows.specs.Shown.{Shown}
use Rattle.base_rows.specs.Subjects.{Subject, key}
use Rattle.base_rows.specs.declared.bases.Rows.TheInside.{Inside}
use Rattle.base_rows.specs.declared.marks.Link.{Link}
use Rattle.base_rows.proofs.Chains.{link_at, none_from}
use Rattle.base_rows.proofs.MarksSink.{marked_sinks, no_update, updating_rows_below}
use Rattle.base_rows.proofs.Newest.{marks_of_first}
use Rattle.base_rows.proofs.bases.FirstRows.newest.Goals as goal

-- the walk begins among the marks of the key, which stand newest first
record IsStart (inside : Inside) (links : List Link) (head : Option ℕ) (subject : Subject) : Type 0 where
  linked : AreLinked (reverse links)
  within : IfSome head (λ place. place < length links)
  rows : rows_from (reverse links) head ≡ marked_rows inside.hashing (key inside.hashing subject) (reverse inside.rows.items)
  sinks : Sink (rows_from (reverse links) head)

starts : (inside : Inside) (links : List Link) (head : Option ℕ) (subject : Subject) (k : ℕ) → IsIndexed inside
    → links ≡ inside.links.items → head ≡ get nat_eq inside.newest k → k ≡ key inside.hashing subject
    → IsStart inside links head subject
starts inside links head subject k indexed same found at_key =
    let all : Base = reverse inside.rows.items in
    let heads : ℕ → Option ℕ = get nat_eq inside.newest in
    let next : head ≡ heads (key inside.hashing subject) = found ∙ ap heads at_key in
    let rows : rows_from (reverse links) head ≡ marked_rows inside.hashing (key inside.hashing subject) all =
    ap (λ (ls : List Link). rows_from (reverse ls) head) same ∙ ap (rows_from (reverse inside.links.items)) next
    ∙ indexed.marks.rows (key inside.hashing subject) in
    record {
      linked = rw same indexed.marks.chained.linked;
      within = rw (next, same) (indexed.marks.chained.within (key inside.hashing subject));
      rows = rows;
      sinks = subst Sink (sym rows) (marked_sinks inside.hashing (key inside.hashing subject) all);
    }

pub first_below-next-requires : goal.first_below-next-requires
first_below-next-requires g c =
    let start = starts c.base.inside c.as_slice-links.result.now c.copied-start.result (g.L.LookUp.about c.args.look.now)
    c.key.result c.base.invariant c.as_slice-links.ensures.value (search rules)
    (c.key.ensures ∙ ap (key c.base.inside.hashing) c.subject.ensures) in
    record { linked = start.linked; there = start.within; sinks = start.sinks }

-- and at the first one that is among the rows
pub loop-next-init : goal.loop-next-init
loop-next-init g c =
    let effect = g.L.LookUp.effect c.args.look.now in
    let subject = g.L.LookUp.about c.args.look.now in
    let count = c.self.inside.count in
    let all : Base = reverse c.base.inside.rows.items in
    let links = c.as_slice-links.result.now in
    let b = c.args.self.now in
    let start = starts c.base.inside links c.copied-start.result subject c.key.result c.base.invariant
    c.as_slice-links.ensures.value (search rules)
    (c.key.ensures ∙ ap (key c.base.inside.hashing) c.subject.ensures) in
    let first : first_rows (suc count) all ≡ b = ap (λ (shown : Shown). first_rows (suc count) shown.base) c.base.view_is
    ∙ c.self.view_is in
    let update_by_row : first_update (update_at effect b) (marked_rows c.base.inside.hashing (key c.base.inside.hashing subject)
    all) ≡ newest effect b =
    subst (λ (rows : Base). first_update (update_at effect rows) (marked_rows c.base.inside.hashing
    (key c.base.inside.hashing subject) all) ≡ newest effect rows) first
    (marks_of_first c.base.inside.hashing subject effect (g.met.L.LookUp.affects c.args.look.now) (suc count) all) in
    let none : (n : ℕ) → c.size.result ≤ n → update_at effect b n ≡ None =
    λ n behind. no_update effect b n (subst (λ bound. bound ≤ n) c.size.ensures.size behind) in
    record {
      within = c.first_below-next.ensures.there;
      shorter = omega arith;
      linked = start.linked;
      left = updating_rows_below (update_at effect b) c.size.result none (rows_from (reverse links) c.first_below-next.result)
          (rows_from (reverse links) c.copied-start.result) c.first_below-next.ensures.below
          ∙ ap (first_update (update_at effect b)) start.rows
          ∙ update_by_row;
    }

pub offset_bounds-links-place : goal.offset_bounds-links-place
offset_bounds-links-place g c =
    let within : c.in-Some.place < length c.loop-next.links.now = subst (λ n. IfSome n (λ p. p < length c.loop-next.links.now))
    c.in-Some.is c.loop-next.invariant.within in
    let in_range : c.in-Some.place < length c.as_slice-links.result.now = omega (arith, c.loop-next.invariant.shorter) in
    search rules

-- a row of the key that does something is the newest one
pub returns-in-Some-update_at : goal.returns-in-Some-update_at
returns-in-Some-update_at g c =
    let at = update_at (g.L.LookUp.effect c.args.look.now) c.args.self.now in
    let links = c.loop-next.links.now in
    let place = c.in-Some.place in
    let within : place < length links = subst (λ n. IfSome n (λ p. p < length links)) c.in-Some.is c.loop-next.invariant.within in
    let link : Link = get_or links place (record { row = 0; older = None; skip = None; depth = 0 }) in
    let along = link_at links place (record { row = 0; older = None; skip = None; depth = 0 }) within in
    let rest = rows_from (reverse (take place links)) link.older in
    let here : at link.row ≡ Some c.in-Some-update_at.update_by_row = sym c.update_at.ensures ∙ c.in-Some-update_at.is in
    sym (ap (λ found. option_or found (first_update at rest)) here)
    ∙ ap (first_update at) (sym (ap (rows_from (reverse links)) c.in-Some.is ∙ along.rows))
    ∙ c.loop-next.invariant.left

-- one that does nothing is passed
pub loop-next-preserved : goal.loop-next-preserved
loop-next-preserved g c =
    let at = update_at (g.L.LookUp.effect c.args.look.now) c.args.self.now in
    let links = c.loop-next.links.now in
    let place = c.in-Some.place in
    let within : place < length links = subst (λ n. IfSome n (λ p. p < length links)) c.in-Some.is c.loop-next.invariant.within in
    let link : Link = get_or links place (record { row = 0; older = None; skip = None; depth = 0 }) in
    let along = link_at links place (record { row = 0; older = None; skip = None; depth = 0 }) within in
    let rest = rows_from (reverse (take place links)) link.older in
    let none : c.update_at.result ≡ None = search rules in
    let here : at link.row ≡ None = sym c.update_at.ensures ∙ none in
    let fewer : length (take place links) ≡ place = length-take-le place links (omega arith) in
    record {
      within = subst (λ n. IfSome link.older (λ p. p < n)) (sym fewer) (along.older c.loop-next.invariant.linked);
      shorter = omega (arith, fewer, c.loop-next.invariant.shorter);
      linked = along.linked c.loop-next.invariant.linked;
      left = sym (ap (λ found. option_or found (first_update at rest)) here)
          ∙ ap (first_update at) (sym (ap (rows_from (reverse links)) c.in-Some.is ∙ along.rows))
          ∙ c.loop-next.invariant.left;
    }

-- where the links end no row does anything
pub returns : goal.returns
returns g c =
    let at = update_at (g.L.LookUp.effect c.args.look.now) c.args.self.now in
    let none : c.loop-next.next ≡ None = search rules in
    ap (first_update at) (sym (ap (rows_from (reverse c.loop-next.links.now)) none ∙ none_from (reverse c.loop-next.links.now)))
    ∙ c.loop-next.invariant.left
