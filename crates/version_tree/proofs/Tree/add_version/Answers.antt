use Rattle.std.proofs.Common.{◌≡◌, ◌<◌, eqb, ltb, [], ◌∷◌, length, get_or, map, reverse, slice_get, true, None, vec_len}
use Rattle.std.proofs.Common.{vec_capacity, refl, sym, ap, ◌∙◌, arith, rules}
use Rattle.std.specs.Prelude.{find}
use Rattle.std.specs.List.{list_any}
use Rattle.std.proofs.lemmas.List.{reverse-append, get_or_default}
use Rattle.std.proofs.lemmas.Bool.Decides.{nat_tests}
use Rattle.cc_names.specs.declared.changes.TreeChange.TheVariants.{VersionMade}
use Rattle.cc_names.specs.Falling.{IsAbove}
use Rattle.version_tree.specs.TreeFields.{row_of_made, ready_branches}
use Rattle.version_tree.specs.declared.changes.Made.{Made}
use Rattle.version_tree.specs.declared.branches.Branch.{Branch}
use Rattle.version_tree.proofs.Steps.{rows_of_made, version_added, row_there, has_room, not_ready}
use Rattle.version_tree.proofs.Readiness.{others_keep}
use Rattle.version_tree.proofs.Tree.add_version.Goals as goal

-- a branch that is ready has room
pub push_reserved-requires-in-Some : goal.push_reserved-requires-in-Some
push_reserved-requires-in-Some c =
    let items = c.self.inside.branches.items in
    let place = c.in-Some.place in
    let on = c.index_mut-on.result.now in
    let found : slice_get items place ≡ find (λ b. eqb b.row c.args.branch) items = search rules in
    let within : place < length items = search rules in
    let there : get_or items place on ≡ on = search rules in
    let room : ltb (vec_len (get_or items place on).later) (vec_capacity (get_or items place on).later) ≡ true =
    has_room items c.args.branch place c.self.invariant.branches_fall within found on (rw (← c.self.view_is) at c.requires.ready)
    in
    let here : ltb (vec_len on.later) (vec_capacity on.later) ≡ true = rw there at room in
    grind (arith, nat_tests)

-- the version is the branch's newest
pub invariant_of-self : goal.invariant_of-self
invariant_of-self c =
    let made = c.self.inside.made.items in
    let items = c.self.inside.branches.items in
    let place = c.in-Some.place in
    let on = c.index_mut-on.result.now in
    let m : Made = record { change = VersionMade c.args.row c.args.moment c.args.branch } in
    let b : Branch = record { row = on.row; moment = on.moment; later = c.push_reserved-in-Some.new.self } in
    let found : slice_get items place ≡ find (λ x. eqb x.row c.args.branch) items = search rules in
    let within : place < length items = search rules in
    let there : get_or items place on ≡ on = search rules in
    let at : (d : Branch) → get_or items place d ≡ on = λ d. get_or_default items place d on within ∙ there in
    let above : IsAbove c.args.row (map row_of_made (reverse made)) = rw (rows_of_made (reverse made)) at
    (rw (← c.self.view_is) at c.requires.above) in
    let same_row : on.row ≡ c.args.branch = rw (at on) at (row_there items c.args.branch place c.self.invariant.branches_fall
    within found on) in
    rw (c.push_reserved.ensures.items, reverse-append made (m ∷ []))
    (version_added m (reverse made) items place b c.args.row c.args.moment c.args.branch c.self.invariant refl above within found
    same_row
    (λ d. ap (λ (x : Branch). x.moment) (sym (at d)))
    (λ d. rw (at d) c.push_reserved-in-Some.ensures.items))

-- a branch that is ready is there
pub unreachable-requires : goal.unreachable-requires
unreachable-requires c =
    let items = c.self.inside.branches.items in
    let missed : find (λ b. eqb b.row c.args.branch) items ≡ None = search rules in
    let unready = not_ready c.args.branch items missed in
    let ready : list_any (λ b. eqb b c.args.branch) (ready_branches items) ≡ true = rw (← c.self.view_is) at c.requires.ready in
    cc

-- other branches that have room keep it
pub returns : goal.returns
returns c =
    let made = c.self.inside.made.items in
    let m : Made = record { change = VersionMade c.args.row c.args.moment c.args.branch } in
    let items = c.self.inside.branches.items in
    let place = c.in-Some.place in
    let on = c.index_mut-on.result.now in
    let b : Branch = record { row = on.row; moment = on.moment; later = c.push_reserved-in-Some.new.self } in
    let found : slice_get items place ≡ find (λ x. eqb x.row c.args.branch) items = search rules in
    let within : place < length items = search rules in
    let there = row_there items c.args.branch place c.self.invariant.branches_fall within found in
    rw (← c.self.view_is) (record {
      changes = rw (c.push_reserved.ensures.items, reverse-append made (m ∷ [])) refl;
      room = search rules;
      ready = λ q other is. others_keep q items place b within (λ d. rw (there d) other) is;
    })
