-- The row's marks, its changes of the trees and of the labels, its config spec, what is kept of what objects list and the places
-- of its targets are those of the row.
use Rattle.std.proofs.Common.{◌≡◌, ℕ, ◌+◌, ◌≤◌, ◌&&◌, true, Option, List, [], ◌∷◌, length, map, reverse, nat_eq, nat_lt, sym, ap}
use Rattle.std.proofs.Common.{ap₂, subst, ◌∙◌, arith, IfSome}
use Rattle.std.proofs.lemmas.Grind.{common_steps}
use Rattle.std.proofs.lemmas.List.{length-reverse, reverse-append}
use Rattle.std.specs.HashMap.{get}
use Rattle.cc_names.specs.Falling.{IsAbove}
use Rattle.cc_names.specs.Formed.{IsDeedFormed, Plain}
use Rattle.cc_names.specs.Versions.{row_of_change}
use Rattle.cc_names.specs.declared.changes.LabelChange.{LabelChange}
use Rattle.cc_names.specs.declared.changes.TreeChange.{TreeChange}
use Rattle.cc_names.specs.declared.rows.Deed.{Deed}
use Rattle.cc_names.proofs.Common.{and_second}
use Rattle.label_book.specs.Marks.{rows_of_pair}
use Rattle.base_model.specs.Changes.{labels, labels_after, tree}
use Rattle.base_model.specs.Fits.{deed_fits, fits, is_base, row_limit}
use Rattle.base_model.specs.Rows.{Base, size}
use Rattle.base_rows.specs.Growing.{HasPlace, change_of, tree_change, with_change}
use Rattle.base_rows.specs.Labelling.{AreLabels, HasLabelRoom}
use Rattle.base_rows.specs.Listings.{AreListings}
use Rattle.base_rows.specs.Marked.{IsMarked, rows_by, with_marks}
use Rattle.base_rows.specs.Preparing.{IsPrepared}
use Rattle.base_rows.specs.SeenFiles.{AreSeenByViews}
use Rattle.base_rows.specs.SetSpecs.{rules_set, specs_set, with_spec}
use Rattle.base_rows.specs.Shown.{Shown}
use Rattle.base_rows.specs.Subjects.{keys_of}
use Rattle.base_rows.specs.TargetOrders.{AreOfObject, AreOrders, Places, with_order}
use Rattle.base_rows.proofs.FilesSeen.{seen_more}
use Rattle.base_rows.proofs.Growths.{above_tree, tree_by_change}
use Rattle.base_rows.proofs.Labellings.{above_labels, after_same, same_twice}
use Rattle.base_rows.proofs.ListingsStay.{listings_before, made_after}
use Rattle.base_rows.proofs.SpecsSet.{set_short}
use Rattle.base_rows.proofs.TargetOrders.{orders_more}
use Rattle.base_rows.proofs.bases.Rows.push.Goals as goal

pub grow-requires-clause-above : goal.grow-requires-clause-above
grow-requires-clause-above c =
    let older : Base = reverse c.self.inside.rows.items in
    let len : c.len.result ≡ length older = grind (arith, common_steps, length-reverse c.self.inside.rows.items) in
    let number : c.len.result + 1 ≡ size older = omega arith in
    subst (λ n. IsAbove n (map row_of_change c.self.inside.tree.changes)) (sym number)
    (subst (λ (changes : List TreeChange). IsAbove (size older) (map row_of_change changes)) (sym c.self.invariant.trees)
    (above_tree older))

pub grow-requires-clause-place : goal.grow-requires-clause-place
grow-requires-clause-place c = subst (λ (shown : Shown). HasPlace shown.trees c.args.prepared.growth) (sym c.self.view_is)
    c.requires.room.place

pub relabel-requires-clause-above : goal.relabel-requires-clause-above
relabel-requires-clause-above c = λ l e.
    let older : Base = reverse c.self.inside.rows.items in
    let kept = c.self.inside.labels.changes in
    let len : c.len.result ≡ length older = grind (arith, common_steps, length-reverse c.self.inside.rows.items) in
    let number : c.len.result + 1 ≡ size older = omega arith in
    subst (λ n. IsAbove n (rows_of_pair l e kept)) (sym number) (above_labels older kept c.self.invariant.labelled l e)

pub relabel-requires-clause-room : goal.relabel-requires-clause-room
relabel-requires-clause-room c =
    let kept = subst (λ (shown : Shown). HasLabelRoom shown.labels c.args.row.deed) (sym c.self.view_is) c.requires.room.labels in
    subst (λ (deed : Deed). HasLabelRoom c.self.inside.labels deed) (sym c.deed.ensures.deed) kept

pub relabel-requires-clause-formed : goal.relabel-requires-clause-formed
relabel-requires-clause-formed c = subst IsDeedFormed (sym c.deed.ensures.deed) c.deed.ensures.formed.deed

pub keep_spec-requires : goal.keep_spec-requires
keep_spec-requires c =
    let room = subst (λ (shown : Shown). 1 ≤ shown.spec_room) (sym c.self.view_is) c.requires.room.spec_room in
    omega arith

pub keep_listings-requires : goal.keep_listings-requires
keep_listings-requires c = subst (λ (shown : Shown). length c.args.prepared.listings.items ≤ shown.listing_room)
    (sym c.self.view_is) c.requires.room.listing_room

pub keep_places-requires : goal.keep_places-requires
keep_places-requires c =
    let room = subst (λ (shown : Shown). 1 ≤ shown.order_room) (sym c.self.view_is) c.requires.room.order_room in
    omega arith

pub invariant_of-self : goal.invariant_of-self
invariant_of-self c =
    let row : Plain = c.args.row in
    let older : Base = reverse c.self.inside.rows.items in
    let hashing = c.self.inside.hashing in
    let growth = c.args.prepared.growth in
    let moment = c.moment.result in
    let base_is : older ≡ c.args.self.now.base = ap (λ (shown : Shown). shown.base) c.self.view_is in
    let len : c.len.result ≡ length older = grind (arith, common_steps, length-reverse c.self.inside.rows.items) in
    let number : c.len.result + 1 ≡ size older = omega arith in
    let back : reverse c.push_reserved.new.self.items ≡ row ∷ older = ap reverse c.push_reserved.ensures.items
    ∙ reverse-append c.self.inside.rows.items (row ∷ []) in
    let fitting : fits older row.deed ≡ true = subst (λ (b : Base). fits b row.deed ≡ true) (sym base_is) c.requires.fits in
    let based : is_base (row ∷ older) ≡ true = ap₂ (λ one two. one && two) fitting c.self.invariant.fitting in
    let ready : IsPrepared c.args.prepared hashing older row.deed =
    subst (λ (shown : Shown). IsPrepared c.args.prepared shown.hashing shown.base row.deed) (sym c.self.view_is)
    c.requires.room.ready in
    let change : change_of (c.len.result + 1) moment growth ≡ tree_change older row.moment row.deed =
    ap (λ n. change_of n moment growth) number ∙ ready.change moment ∙ ap (λ at. tree_change older at row.deed) c.moment.ensures
    in
    let keys : c.as_slice.result.now ≡ keys_of hashing older row.deed = c.as_slice.ensures.value ∙ ready.keys in
    let marks : IsMarked hashing c.mark_keys.new.links.items (get nat_eq c.mark_keys.new.newest) (row ∷ older) = record {
      chained = c.mark_keys.ensures.marks.chained c.self.invariant.marks.chained;
      rows = λ q.
          c.mark_keys.ensures.marks.rows c.self.invariant.marks.chained q
          ∙ ap₂ (λ n ks. with_marks n q ks (rows_by c.self.inside.links.items (get nat_eq c.self.inside.newest) q)) number keys
          ∙ ap (with_marks (size older) q (keys_of hashing older row.deed)) (c.self.invariant.marks.rows q);
    } in
    let kept = c.self.inside.labels.changes in
    let at_number : labels_after (c.len.result + 1) c.deed.result.now (labels older) ≡ labels (row ∷ older) =
    ap₂ (λ n deed. labels_after n deed (labels older)) number c.deed.ensures.deed in
    let labelled : AreLabels c.relabel.new.book.changes (labels_after (c.len.result + 1) c.deed.result.now (labels older)) =
    same_twice c.relabel.new.book.changes (labels_after (c.len.result + 1) c.deed.result.now kept)
    (labels_after (c.len.result + 1) c.deed.result.now (labels older))
    c.relabel.ensures (after_same (c.len.result + 1) c.deed.result.now kept (labels older) c.self.invariant.labelled) in
    let given : c.args.prepared.rules ≡ rules_set row.deed = ready.rules ∙ set_short row.deed c.deed.ensures.formed.deed in
    let orders : ℕ → Option Places = get nat_eq c.self.inside.orders in
    let deed_fit = and_second (nat_lt (size older) row_limit) (deed_fits older row.deed) fitting in
    record {
      fitting = ap is_base back ∙ based;
      marks = subst (λ (b : Base). IsMarked hashing c.mark_keys.new.links.items (get nat_eq c.mark_keys.new.newest) b) (sym back)
          marks;
      trees = c.grow.ensures
          ∙ ap (λ added. with_change added c.self.inside.tree.changes) change
          ∙ ap (with_change (tree_change older row.moment row.deed)) c.self.invariant.trees
          ∙ sym (tree_by_change row older)
          ∙ ap tree (sym back);
      labelled = subst (λ (changes : List LabelChange). AreLabels c.relabel.new.book.changes changes) (at_number
          ∙ ap labels (sym back)) labelled;
      specs = c.keep_spec.ensures
          ∙ ap₂ (λ n rules. with_spec n rules (reverse c.self.inside.specs.items)) number given
          ∙ ap (with_spec (size older) (rules_set row.deed)) c.self.invariant.specs
          ∙ ap specs_set (sym back);
      listed = subst (AreListings (get nat_eq c.keep_listings.new.listings)) (sym back)
          (c.keep_listings.ensures (row ∷ older)
          (listings_before (get nat_eq c.self.inside.listings) row older c.self.invariant.fitting c.self.invariant.listed)
          (made_after row older c.args.prepared.listings.items c.self.invariant.fitting deed_fit ready.listings));
      ordered = subst (AreOrders (get nat_eq c.keep_places.new.orders)) (sym back)
          (λ id. subst (λ found. IfSome found (λ places. AreOfObject (row ∷ older) id places.items))
          (sym (c.keep_places.ensures id ∙ ap (λ n. with_order n c.args.prepared.places orders id) number))
          (orders_more orders c.args.prepared.places row older c.self.invariant.ordered ready.places id));
      seen = subst (λ (b : Base). AreSeenByViews b c.self.inside.seen) (sym back)
          (seen_more row older c.self.inside.seen c.self.invariant.seen);
    }
