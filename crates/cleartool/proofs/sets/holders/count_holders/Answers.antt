-- The maker's view and those that winked the object in are all that hold it.
use Rattle.std.proofs.Common.{◌≡◌, ℕ, Bool, true, false, ◌||◌, List, refl, ap, ap₂, ◌∙◌}
use Rattle.std.specs.List.{list_any}
use Rattle.cc_names.specs.References.{is_held_by}
use Rattle.base_model.specs.Changes.{objects_held}
use Rattle.base_model.specs.Closures.{is_path_among}
use Rattle.view_lookup.specs.GivenNames.{is_name}
use Rattle.cleartool.specs.Owned.{winker_at}
use Rattle.cleartool.proofs.HoldersFound.{holder_found, holders_counted}
use Rattle.cleartool.proofs.sets.holders.count_holders.Goals as goal

turned_round : (winks maker : Bool) → (winks || (maker || false)) ≡ (maker || winks)
turned_round true true = refl
turned_round true false = refl
turned_round false true = refl
turned_round false false = refl

pub returns : goal.returns
returns c =
    let b = c.args.rows.now in
    let id = c.args.object in
    let views = c.add_winkers.new.views.keys in
    let among : (w : List ℕ) → is_path_among w views ≡ is_held_by (objects_held b) w id = λ w.
    let is : ℕ → Bool = λ n. is_name w (winker_at b n) in
    c.in_ok-add_winkers.ensures w
    ∙ ap₂ (λ (winks maker : Bool). winks || maker)
    (ap (list_any is) (c.deref.ensures.value ∙ c.in_ok-winks.ensures))
    (c.in_ok-add_name.ensures w ∙ ap₂ (λ (maker none : Bool). maker || none) (ap (is_name w) c.maker_of.ensures)
    (ap (is_path_among w) c.new-views.ensures.empty))
    ∙ turned_round _ _
    ∙ holder_found b id w in
    c.len.ensures.len ∙ holders_counted b id views c.len.ensures.ordered among
