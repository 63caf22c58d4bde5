-- The element has one label more.
use Rattle.std.proofs.Common.{◌≡◌, ◌++◌, ◌∷◌, [], None, Some, Option, is_some, nat_eq, position, refl, sym, ap, ◌∙◌, rules}
use Rattle.std.specs.Map.{keys_of}
use Rattle.indexmap.proofs.CallerLemmas.{insert_entry-new}
use Rattle.indexmap.specs.IndexMap.{get}
use Rattle.label_book.specs.Listed.{has_listed, labels_of_list}
use Rattle.label_book.proofs.ListedLabels.{has, has_last, has_more, kept_push, kept_set, listed_set}
use Rattle.label_book.proofs.element_labels.list_label.Goals as goal

pub returns-in_err-push-clause-kept : goal.returns-in_err-push-clause-kept
returns-in_err-push-clause-kept c =
    kept_set c.args.lists.now.entries c.in-Some.place c.index_mut-labels.result.now c.push.new.self
    c.index_mut-labels.ensures.value
    (λ n is. ap (has n) c.in_err-push.ensures.items ∙ is)

pub returns-in-Some-clause-kept : goal.returns-in-Some-clause-kept
returns-in-Some-clause-kept c =
    kept_set c.args.lists.now.entries c.in-Some.place c.index_mut-labels.result.now c.push.new.self
    c.index_mut-labels.ensures.value
    (λ n is. ap (has n) c.in_ok-push.ensures.items ∙ has_more n c.args.label c.index_mut-labels.result.now.items is)

pub returns-in-Some-clause-listed : goal.returns-in-Some-clause-listed
returns-in-Some-clause-listed c =
    let found : position (λ f. nat_eq c.args.element f) (keys_of c.args.lists.now.entries) ≡ Some c.in-Some.place =
    search rules in
    ap (λ labels. has c.args.label (labels_of_list labels))
    (listed_set c.args.lists.now.entries c.args.element c.in-Some.place c.push.new.self found)
    ∙ ap (has c.args.label) c.in_ok-push.ensures.items
    ∙ has_last c.args.label c.index_mut-labels.result.now.items

none_there : {A : Type 0} (found : Option A) → is_some {T = A} None ≡ is_some found → found ≡ None
none_there None is = refl
none_there (Some a) is = absurd (cc)

pub returns-clause-kept : goal.returns-clause-kept
returns-clause-kept c =
    let lists = c.args.lists.now in
    let labels = c.push_reserved.new.self in
    let missed : c.get_index_of.result ≡ None = search rules in
    let none : get nat_eq lists c.args.element ≡ None = none_there (get nat_eq lists c.args.element)
    (ap is_some (sym missed) ∙ c.get_index_of.ensures.found) in
    let put : c.insert.new.self.entries ≡ lists.entries ++ (c.args.element, labels) ∷ [] = c.in_ok-insert.ensures.entries
    ∙ insert_entry-new nat_eq lists c.args.element labels none in
    λ e n is. ap (λ after. has_listed after e n) put ∙ kept_push lists.entries (c.args.element, labels) e n is
