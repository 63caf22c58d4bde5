-- Which object a unit may reuse at its turn, in builds one after the other and side by side.
use Rattle.std.proofs.Common.{◌≡◌, refl, ℕ, Bool, true, false, ◌&&◌, Some, None, Ok, List, [], ◌∷◌, ◌++◌}
use Rattle.std.specs.Prelude.{codes}
use Rattle.cc_names.specs.declared.commands.Command.{Command}
use Rattle.cc_names.specs.declared.commands.Command.TheVariants as commands
use Rattle.cc_names.specs.declared.rows.Deed.{Deed}
use Rattle.cc_names.specs.declared.rows.Deed.TheVariants as deeds
use Rattle.base_model.specs.Rows.{Base, first_rows}
use Rattle.legal_history.specs.Builds.Active.{Build}
use Rattle.legal_history.specs.Commands.Decisions.{Begins}
use Rattle.base_model.specs.Fits.{is_base}
use Rattle.legal_history.specs.Builds.Fresh.{fresh}
use Rattle.legal_history.specs.Builds.Reuse.{reusable}
use Rattle.base_model.specs.Objects.{held_at_all}
use Rattle.legal_history.specs.Stories.Steps.{new_build}
use Rattle.legal_history.specs.Worked.{tag, base_of, decisions}
use Rattle.legal_history.proofs.Worked.TwoViews.{v, w, hi, makefile, script, unit, built, publish, first_deeds, all_deeds}
use Rattle.legal_history.proofs.Worked.TwoViews.{two_views}

-- a build of the one unit in a view, at some reference rows, with `-V` or not, and with `-u` or not
abbrev build_with : Bool → Bool → List ℕ → ℕ → Build
build_with own_only rebuild view rows =
    record {
      tag = tag 1 1 1;
      view = view;
      rows = rows;
      own_only = own_only;
      rebuild = rebuild;
      units = unit ∷ [];
      comes = [];
      faulted = false;
    }

abbrev pub build_in : List ℕ → ℕ → Build
build_in view rows = build_with false false view rows

-- a build of private files
abbrev private_build : Base
private_build = base_of (deeds.Mkview v ∷ deeds.Put v (codes "Makefile") makefile ∷ deeds.Put v (codes "in") hi
    ∷ deeds.Publish v (codes "out" ∷ []) script (record { path = codes "in"; row = 3 } ∷ []) (hi ∷ []) ∷ [])

a_first_build_runs : reusable (first_rows 4 private_build) (build_in v 4) 0 unit ≡ None
a_first_build_runs = refl

a_first_build_from_nothing : fresh (first_rows 4 private_build) v None [] (codes "out" ∷ []) ≡ Ok built
a_first_build_from_nothing = refl

a_second_build_keeps : reusable private_build (build_in v 5) 0 unit ≡ Some 4
a_second_build_keeps = refl

what_is_kept_is_held : held_at_all private_build v (codes "out" ∷ []) ≡ Some 4
what_is_kept_is_held = refl

-- a build of elements, and then one in another view
the_first_view_runs : reusable (first_rows 10 two_views) (build_in v 10) 0 unit ≡ None
the_first_view_runs = refl

another_view_winks_in : reusable (first_rows 12 two_views) (build_in w 12) 0 unit ≡ Some 10
another_view_winks_in = refl

it_holds_nothing_yet : held_at_all (first_rows 12 two_views) w (codes "out" ∷ []) ≡ None
it_holds_nothing_yet = refl

-- a checkout of the source is another row
a_checkout_is_built_anew : reusable (base_of (all_deeds ++ (deeds.Checkout w 6 8 true ∷ []))) (build_in w 14) 0 unit ≡ None
a_checkout_is_built_anew = refl

-- two views build side by side, each at the same reference rows
abbrev before_both : List Deed
before_both = first_deeds ++ (deeds.Mkview w ∷ [])

v_runs_where_it_is_first : reusable (base_of before_both) (build_in v 11) 0 unit ≡ None
v_runs_where_it_is_first = refl

w_runs_where_it_is_first : reusable (base_of before_both) (build_in w 11) 0 unit ≡ None
w_runs_where_it_is_first = refl

abbrev pub publish_in : List ℕ → Deed
publish_in view = deeds.Publish view (codes "out" ∷ []) script (record { path = codes "in"; row = 8 } ∷ []) (hi ∷ [])

where_v_is_first : reusable (base_of (before_both ++ (publish_in v ∷ []))) (build_in w 11) 0 unit ≡ Some 11
where_v_is_first = refl

where_w_is_first : reusable (base_of (before_both ++ (publish_in w ∷ []))) (build_in v 11) 0 unit ≡ Some 11
where_w_is_first = refl

both_orders_fit :
    is_base (base_of (before_both ++ (publish_in v ∷ deeds.Wink w 11 ∷ [])))
    && is_base (base_of (before_both ++ (publish_in w ∷ deeds.Wink v 11 ∷ [])))
    ≡ true
both_orders_fit = refl

-- a build with `-V` looks at the view's own object alone, one with `-u` at none
abbrev own_clearmake : Command
own_clearmake = commands.Build (record {
  view = w;
  file = None;
  own_only = true;
  rebuild = false;
  jobs = 1;
  macros = [];
  goals = [];
})

abbrev anew_clearmake : Command
anew_clearmake = commands.Build (record {
  view = w;
  file = None;
  own_only = false;
  rebuild = true;
  jobs = 1;
  macros = [];
  goals = [];
})

own_is_of_the_view : new_build (tag 1 1 1) 12 (unit ∷ []) own_clearmake ≡ Some (build_with true false w 12)
own_is_of_the_view = refl

anew_reuses_nothing : new_build (tag 1 1 1) 13 (unit ∷ []) anew_clearmake ≡ Some (build_with false true w 13)
anew_reuses_nothing = refl

-- the first build with `-V` publishes, the second one keeps what it has, and the one with `-u` publishes again
abbrev own_built : Base
own_built = base_of (first_deeds ++ (publish ∷ deeds.Mkview w ∷ publish_in w ∷ publish_in w ∷ []))

own_fits : is_base own_built ≡ true
own_fits = refl

own_begins : decisions (first_rows 12 own_built) (own_clearmake ∷ []) ≡ Ok (Begins (unit ∷ [])) ∷ []
own_begins = refl

others_begin : decisions (first_rows 13 own_built) (own_clearmake ∷ anew_clearmake ∷ []) ≡ Ok (Begins (unit ∷ []))
    ∷ Ok (Begins (unit ∷ [])) ∷ []
others_begin = refl

own_builds : reusable (first_rows 12 own_built) (build_with true false w 12) 0 unit ≡ None
own_builds = refl

own_keeps : reusable (first_rows 13 own_built) (build_with true false w 13) 0 unit ≡ Some 12
own_keeps = refl

what_own_keeps_is_held : held_at_all (first_rows 13 own_built) w (codes "out" ∷ []) ≡ Some 12
what_own_keeps_is_held = refl

anew_builds : reusable (first_rows 13 own_built) (build_with false true w 13) 0 unit ≡ None
anew_builds = refl

each_from_nothing : fresh (first_rows 13 own_built) w None [] [] ≡ Ok built
each_from_nothing = refl
