-- Links that lead further back than to the next older one of their key.
use Rattle.std.proofs.Common.{◌≡◌, ℕ, ◌<◌, ◌≤◌, ◌==◌, true, false, List, [], ◌∷◌, ◌++◌, length, get_or, nat_lt, reverse, Option}
use Rattle.std.proofs.Common.{Some, None, IfSome, refl, sym, ap, subst, ◌∙◌, arith, append_assoc}
use Rattle.std.proofs.lemmas.Bool.Decides.{nat_tests}
use Rattle.std.proofs.lemmas.List.{reverse-reverse, reverse-append, length-reverse}
use Rattle.std.proofs.Math.ListN.{get_or-append}
use Rattle.std.proofs.Math.Seq.{get_or-append_seam}
use Rattle.cc_names.specs.Versions.{put_if}
use Rattle.base_rows.specs.Marked.{rows_from, AreLinked, AreAtMost, IsEnd, LeadsOn, Sink, rows_below}
use Rattle.base_rows.specs.declared.marks.Link.{Link}
use Rattle.base_rows.proofs.Chains.{not_last}

-- a newer link leads nowhere that older ones do not
pub rows_stay : (link : Link) (older : List Link) (next : Option ℕ) → IfSome next (λ place. place < length older)
    → rows_from (link ∷ older) next ≡ rows_from older next
rows_stay link older next within = ap (λ is. elim is [
  | true ↦ link.row ∷ rows_from older link.older
  | false ↦
      rows_from older next
]) (not_last next (length older) within)

pub sooner : (next : Option ℕ) (p n : ℕ) → p < n → IfSome next (λ place. place < p) → IfSome next (λ place. place < n)
sooner None p n less within = tt
sooner (Some q) p n less within = omega arith

pub end_of : (rows all rows' all' : List ℕ) → rows' ≡ rows → all' ≡ all → IsEnd rows all → IsEnd rows' all'
end_of rows all rows' all' same whole e = record {
  passed = e.passed;
  is = whole ∙ e.is
      ∙ ap (λ rest. e.passed ++ rest) (sym same);
}

in_links : (links : List Link) (p : ℕ) (d : Link) → p < length links → AreLinked links
    → LeadsOn links p (get_or (reverse links) p d)
in_links [] p d within linked = absurd (omega arith)
in_links (link ∷ older) p d within linked =
    rw (reverse-append (link ∷ []) older) (elim (p == length older) as (λ is. (p == length older) ≡ is
    → LeadsOn (link ∷ older) p (get_or (reverse older ++ link ∷ []) p d)) [
      | true ↦ λ e.
          let at_end : p ≡ length (reverse older) = grind (arith, nat_tests, length-reverse older) in
          let place : p ≡ length older = grind (arith, nat_tests) in
          let there : get_or (reverse older ++ link ∷ []) p d ≡ link = rw at_end (get_or-append_seam (reverse older) link [] d) in
          rw there (record {
            rows = ap (λ is. elim is [ true ↦ link.row ∷ rows_from older link.older | false ↦ rows_from older (Some p) ]) e
                ∙ ap (λ rest. link.row ∷ rest) (sym (rows_stay link older link.older linked.0.next));
            next = subst (λ n. IfSome link.older (λ q. q < n)) (sym place) linked.0.next;
            skips = subst (λ n. IfSome link.skip (λ q. q < n)) (sym place) linked.0.skips;
            end = end_of _ _ _ _ (rows_stay link older link.skip linked.0.skips) (rows_stay link older link.older linked.0.next)
                linked.0.end;
          })
      | false ↦ λ e.
          let inside : p < length older = grind (arith, nat_tests) in
          let inside' : p < length (reverse older) = omega (arith, length-reverse older) in
          let there : get_or (reverse older ++ link ∷ []) p d ≡ get_or (reverse older) p d =
          get_or-append (reverse older) (link ∷ []) d p inside' in
          let it : Link = get_or (reverse older) p d in
          let behind = in_links older p d inside linked.1 in
          let next = rows_stay link older it.older (sooner it.older p (length older) inside behind.next) in
          rw there (record {
            rows = rows_stay link older (Some p) inside ∙ behind.rows ∙ ap (λ rest. it.row ∷ rest) (sym next);
            next = behind.next;
            skips = behind.skips;
            end = end_of _ _ _ _ (rows_stay link older it.skip (sooner it.skip p (length older) inside behind.skips)) next
                behind.end;
          })
    ] refl)

-- a link of a list that is read from its other end
pub link_in : (links : List Link) (p : ℕ) (d : Link) → p < length links → AreLinked (reverse links)
    → LeadsOn (reverse links) p (get_or links p d)
link_in links p d within linked =
    let here = in_links (reverse links) p d (omega (arith, length-reverse links)) linked in
    subst (λ (own : List Link). LeadsOn (reverse links) p (get_or own p d)) (reverse-reverse links) here

-- the end of an end
pub end_of_end : (one two three : List ℕ) → IsEnd one two → IsEnd two three → IsEnd one three
end_of_end one two three e f = record {
  passed = f.passed ++ e.passed;
  is = f.is ∙ ap (λ rest. f.passed ++ rest) e.is
      ∙ sym (append_assoc f.passed e.passed one);
}

pub whole_end : (rows : List ℕ) → IsEnd rows rows
whole_end rows = record { passed = []; is = refl }

pub next_end : (n : ℕ) (rows all : List ℕ) → IsEnd rows all → IsEnd rows (n ∷ all)
next_end n rows all e = record { passed = n ∷ e.passed; is = ap (λ rest. n ∷ rest) e.is }

sinks_end : (passed rows : List ℕ) → Sink (passed ++ rows) → Sink rows
sinks_end [] rows sinks = sinks
sinks_end (n ∷ passed) rows sinks = sinks_end passed rows sinks.1

-- the end of rows that sink sinks
pub sinks_from : (rows all : List ℕ) → IsEnd rows all → Sink all → Sink rows
sinks_from rows all e sinks = sinks_end e.passed rows (subst Sink e.is sinks)

last_at_most : (n q : ℕ) (passed rest : List ℕ) → AreAtMost n (passed ++ q ∷ rest) → q ≤ n
last_at_most n q [] rest most = most.0
last_at_most n q (m ∷ passed) rest most = last_at_most n q passed rest most.1

not_below : (bound n : ℕ) → bound ≤ n → nat_lt n bound ≡ false
not_below bound n behind = grind (arith, nat_tests)

above_too : (bound q n : ℕ) → bound ≤ q → q ≤ n → bound ≤ n
above_too bound q n one two = omega arith

passed_over : (bound q : ℕ) (passed rest : List ℕ) → bound ≤ q → Sink (passed ++ q ∷ rest)
    → rows_below bound (passed ++ q ∷ rest) ≡ rows_below bound (q ∷ rest)
passed_over bound q [] rest behind sinks = refl
passed_over bound q (n ∷ passed) rest behind sinks =
    ap (λ is. put_if is n (rows_below bound (passed ++ q ∷ rest))) (not_below bound n
    (above_too bound q n behind (last_at_most n q passed rest sinks.0)))
    ∙ passed_over bound q passed rest behind sinks.1

-- rows before one that does not lie below a bound do not either
pub skipped : (bound q : ℕ) (rest rows all : List ℕ) → bound ≤ q → rows ≡ q ∷ rest → IsEnd rows all → Sink all
    → rows_below bound rows ≡ rows_below bound all
skipped bound q rest rows all behind here e sinks =
    let whole : all ≡ e.passed ++ q ∷ rest = e.is ∙ ap (λ own. e.passed ++ own) here in
    ap (rows_below bound) here ∙ sym (ap (rows_below bound) whole ∙ passed_over bound q e.passed rest behind
    (subst Sink whole sinks))

-- nor does one that does not
pub one_passed : (bound n : ℕ) (rest : List ℕ) → bound ≤ n → rows_below bound rest ≡ rows_below bound (n ∷ rest)
one_passed bound n rest behind = sym (ap (λ is. put_if is n (rows_below bound rest)) (not_below bound n behind))
