-- The rows along the links of one key.
use Rattle.std.proofs.Common.{◌≡◌, ℕ, ◌+◌, ◌<◌, ◌==◌, Bool, true, false, cond, List, [], ◌∷◌, ◌++◌, length, get_or, take}
use Rattle.std.proofs.Common.{reverse, Option, Some, None, IfSome, refl, sym, ap, ap₂, subst, ◌∙◌, arith}
use Rattle.std.proofs.lemmas.Bool.Decides.{nat_tests}
use Rattle.std.proofs.lemmas.List.{reverse-reverse, reverse-append, length-reverse, length-append, take-append-le}
use Rattle.std.proofs.Math.ListN.{get_or-append}
use Rattle.std.proofs.Math.Seq.{get_or-append_seam, take-append_seam}
use Rattle.cc_names.specs.Versions.{put_if}
use Rattle.base_rows.specs.Marked.{is_place, rows_from, AreLinked, IsChained, IsLinked, rows_by}
use Rattle.base_rows.specs.declared.marks.Link.{Link}

-- nothing is led to from nowhere
pub none_from : (links : List Link) → rows_from links None ≡ []
none_from [] = refl
none_from (link ∷ older) = none_from older

-- a link of a list that is read from its other end
pub record IsLinkAt (links : List Link) (p : ℕ) (link : Link) : Type 0 where
  pub rows : rows_from (reverse links) (Some p) ≡ link.row ∷ rows_from (reverse (take p links)) link.older
  pub older : AreLinked (reverse links) → IfSome link.older (λ place. place < p)
  pub linked : AreLinked (reverse links) → AreLinked (reverse (take p links))

-- the same for the list as it is, newest first
record IsNewestAt (links prefix : List Link) (p : ℕ) (link : Link) : Type 0 where
  rows : rows_from links (Some p) ≡ link.row ∷ rows_from (reverse prefix) link.older
  older : AreLinked links → IfSome link.older (λ place. place < p)
  linked : AreLinked links → AreLinked (reverse prefix)

link_in : (links : List Link) (p : ℕ) (d : Link) → p < length links → IsNewestAt links (take p (reverse links)) p
    (get_or (reverse links) p d)
link_in [] p d within = absurd (omega arith)
link_in (link ∷ older) p d within =
    rw (reverse-append (link ∷ []) older) (elim (p == length older) as (λ is. (p == length older) ≡ is
    → IsNewestAt (link ∷ older) (take p (reverse older ++ link ∷ [])) p (get_or (reverse older ++ link ∷ []) p d)) [
      | true ↦ λ e.
          let at_end : p ≡ length (reverse older) = grind (arith, nat_tests, length-reverse older) in
          let prefix : reverse (take p (reverse older ++ link ∷ [])) ≡ older =
          rw at_end (rw (take-append_seam (reverse older) (link ∷ [])) (reverse-reverse older)) in
          let there : get_or (reverse older ++ link ∷ []) p d ≡ link = rw at_end (get_or-append_seam (reverse older) link [] d) in
          let place : p ≡ length older = grind (arith, nat_tests) in
          rw there (record {
            rows = rw (rows_from, e, prefix) refl;
            older = λ linked. subst (λ n. IfSome link.older (λ q. q < n)) (sym place) linked.0.next;
            linked = λ linked. rw prefix linked.1;
          })
      | false ↦ λ e.
          let inside : p < length older = grind (arith, nat_tests) in
          let inside' : p < length (reverse older) = omega (arith, length-reverse older) in
          let prefix : take p (reverse older ++ link ∷ []) ≡ take p (reverse older) =
          take-append-le p (reverse older) (link ∷ []) (omega arith) in
          let there : get_or (reverse older ++ link ∷ []) p d ≡ get_or (reverse older) p d =
          get_or-append (reverse older) (link ∷ []) d p inside' in
          let behind = link_in older p d inside in
          rw (prefix, there) (record {
            rows = rw (rows_from, e) behind.rows;
            older = λ linked. behind.older linked.1;
            linked = λ linked. behind.linked linked.1;
          })
    ] refl)

pub link_at : (links : List Link) (p : ℕ) (d : Link) → p < length links → IsLinkAt links p (get_or links p d)
link_at links p d within =
    let here = link_in (reverse links) p d (omega (arith, length-reverse links)) in
    let same = reverse-reverse links in
    let rows : rows_from (reverse links) (Some p) ≡ (get_or links p d).row
    ∷ rows_from (reverse (take p links)) (get_or links p d).older = rw same at here.rows in
    record {
      rows = rows;
      older = rw same at here.older;
      linked = rw same at here.linked;
    }

-- a place that is there is not after the last one
pub not_last : (next : Option ℕ) (n : ℕ) → IfSome next (λ place. place < n) → is_place next n ≡ false
not_last None n within = refl
not_last (Some p) n within = grind (arith, nat_tests)

more_within : (next : Option ℕ) (n : ℕ) → IfSome next (λ place. place < n) → IfSome next (λ place. place < n + 1)
more_within None n within = tt
more_within (Some p) n within = omega arith

-- what is marked for the key is one link more
module _ (links : List Link) (heads heads' : ℕ → Option ℕ) (row key : ℕ) (link : Link) (chained : IsChained links heads)
    (updates : (q : ℕ) → heads' q ≡ cond (key == q) (Some (length links)) (heads q))
    (own : link.row ≡ row) (next : link.older ≡ heads key) (linked : IsLinked link (reverse links)) where
  grown : reverse (links ++ link ∷ []) ≡ link ∷ reverse links
  grown = reverse-append links (link ∷ [])

  pub mark_chained : IsChained (links ++ link ∷ []) heads'
  mark_chained = record {
    linked = rw grown (linked, chained.linked);
    within = λ q. rw (length-append links (link ∷ []), updates q) (by_key (key == q) q);
  }
    where
      by_key : (is : Bool) (q : ℕ) → IfSome (cond is (Some (length links)) (heads q)) (λ place. place < length links + 1)
      by_key true q = omega arith
      by_key false q = more_within (heads q) (length links) (chained.within q)

  pub mark_rows : (q : ℕ) → rows_by (links ++ link ∷ []) heads' q ≡ put_if (key == q) row (rows_by links heads q)
  mark_rows q = rw (grown, updates q) (elim (key == q) as (λ is. (key == q) ≡ is
      → rows_from (link ∷ reverse links) (cond is (Some (length links)) (heads q)) ≡ put_if is row (rows_by links heads q)) [
        | true ↦ λ e.
            let here : is_place (Some (length links)) (length (reverse links)) ≡ true =
            grind (arith, nat_tests, length-reverse links) in
            let same : key ≡ q = grind (arith, nat_tests) in
            rw (rows_from, here) (ap₂ (λ n place. n ∷ rows_from (reverse links) place) own (next ∙ ap heads same))
        | false ↦ λ e.
            let other : is_place (heads q) (length (reverse links)) ≡ false =
            not_last (heads q) (length (reverse links)) (subst (λ n. IfSome (heads q) (λ place. place < n))
            (sym (length-reverse links)) (chained.within q)) in
            rw (rows_from, other) refl
      ] refl)
