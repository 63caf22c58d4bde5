-- Making room changes nothing but room.
use Rattle.std.proofs.Common.{◌≡◌, ℕ, ◌<◌, ◌≤◌, true, List, [], ◌∷◌, ◌++◌, length, get_or, slice_get, Some, vec_len}
use Rattle.std.proofs.Common.{vec_capacity, refl, sym, ap, subst, ◌∙◌, arith}
use Rattle.std.specs.Map.{values_of}
use Rattle.std.proofs.lemmas.Bool.Decides.{nat_tests}
use Rattle.indexmap.specs.IndexMap.{set_value_at}
use Rattle.label_book.specs.Marks.{KeepsMarks, of_pair}
use Rattle.label_book.specs.Holding.{MovesByPlace, Held, MoveList, all_held, held_among, AreNamed, HasGrown}
use Rattle.label_book.specs.BookFields.{marks_in}
use Rattle.label_book.proofs.Added.{same_changes}
use Rattle.label_book.proofs.Entries.{held_moves, held_push, held_grown, writes}
use Rattle.label_book.proofs.Pairs.{of_pair_push}
use Rattle.label_book.proofs.Ready.{has_room, set_keeps, push_keeps}

-- with at least as much room for the same moves
pub stored_set : (names : List (List ℕ)) (entries : List MovesByPlace) (p : ℕ) (old new : MoveList)
    → p < length (all_held names entries) → slice_get (values_of entries) p ≡ Some old
    → new.items ≡ old.items → vec_len new ≡ vec_len old → vec_capacity old ≤ vec_capacity new
    → KeepsMarks (marks_in (all_held names entries)) (marks_in (all_held names (set_value_at entries p new)))
stored_set names entries p old new within is items len room =
    let all = all_held names entries in
    let write = writes names entries p new within in
    let there = held_moves names entries p old is within in
    let moves : (f : Held) → write.held.moves.items ≡ (get_or all p f).moves.items =
    λ f. ap (λ (m : MoveList). m.items) write.written ∙ items ∙ ap (λ (m : MoveList). m.items) (sym (there f)) in
    let grows : (f : Held) → has_room (get_or all p f) ≡ true → has_room write.held ≡ true = λ f roomy.
    rw write.written (grind (arith, nat_tests, len, room, rw (there f) at roomy)) in
    subst (λ after. KeepsMarks (marks_in all) (marks_in after)) (sym write.set) (record {
      pairs = λ l e. ap (of_pair l e) (same_changes all p write.held within write.same moves);
      ready = λ l e is. set_keeps l e all p write.held within (λ f. ap (λ k. record { label = k; element = write.held.element })
          (write.same f).label ∙ ap (λ n. record { label = (get_or all p f).label; element = n }) (write.same f).element) grows
          is;
    })

-- with more names
pub stored_grown : (old new : List (List ℕ)) (entries : List MovesByPlace) → HasGrown old new → AreNamed old entries
    → KeepsMarks (marks_in (all_held old entries)) (marks_in (all_held new entries))
stored_grown old new entries grown named = subst (λ after. KeepsMarks (marks_in (all_held old entries)) (marks_in after))
    (sym (held_grown old new entries grown named)) (record {
      pairs = λ l e. refl;
      ready = λ l e is. is;
    })

-- with more names, and one entry more that has no moves
pub stored_push : (old new : List (List ℕ)) (entries : List MovesByPlace) (entry : MovesByPlace) → HasGrown old new
    → AreNamed old entries → entry.1.items ≡ []
    → KeepsMarks (marks_in (all_held old entries)) (marks_in (all_held new (entries ++ entry ∷ [])))
stored_push old new entries entry grown named empty =
    let all = all_held old entries in
    let after : all_held new (entries ++ entry ∷ []) ≡ all ++ held_among new entry ∷ [] = held_push new entries entry
    ∙ ap (λ xs. xs ++ held_among new entry ∷ []) (held_grown old new entries grown named) in
    subst (λ xs. KeepsMarks (marks_in all) (marks_in xs)) (sym after) (record {
      pairs = λ l e. of_pair_push l e all (held_among new entry) empty;
      ready = λ l e is. push_keeps l e all (held_among new entry) is;
    })
