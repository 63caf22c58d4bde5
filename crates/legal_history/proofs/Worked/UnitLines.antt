-- The replies of builds, worked: an object that one view builds and another winks in; one that is built again once it was
-- scrubbed; builds of a view for itself; a build of a view that selects by a record; and one on a checkout. Each is replied as
-- from nothing.
use Rattle.std.proofs.Common.{◌≡◌, refl, ℕ, Bool, true, false, List, [], ◌∷◌, ◌++◌}
use Rattle.std.specs.Prelude.{codes}
use Rattle.cc_names.specs.declared.replies.Digest.{Digest}
use Rattle.cc_names.specs.declared.replies.Reply.{Reply}
use Rattle.cc_names.specs.declared.replies.Reply.TheVariants.{Built}
use Rattle.cc_names.specs.declared.replies.UnitWord.{UnitWord}
use Rattle.cc_names.specs.declared.replies.UnitWord.TheVariants as words
use Rattle.cc_names.specs.declared.rows.Deed.{Deed}
use Rattle.cc_names.specs.declared.rows.Deed.TheVariants as deeds
use Rattle.cc_names.specs.declared.rows.TypeKind.TheVariants as type_kinds
use Rattle.cc_names.specs.declared.steps.UnitEnd.TheVariants.{Kept}
use Rattle.sha2.specs.Sha256.{sha256}
use Rattle.base_model.specs.Rows.{Base, first_rows}
use Rattle.legal_history.specs.Builds.Active.{Build, Came, Concluded, Given}
use Rattle.base_model.specs.Fits.{is_base}
use Rattle.legal_history.specs.Queries.VersionNames.{line}
use Rattle.legal_history.specs.Worked.{tag, row}
use Rattle.legal_history.proofs.Worked.TwoViews.{v, w, hi, script, unit, two_views}
use Rattle.legal_history.specs.Builds.Replied.{reply_of, reply_from_nothing}

-- the one line `out WORD 3 DIGEST`
abbrev out_line : (Digest → UnitWord) → Reply
out_line word = Built (record { path = codes "out"; word = word (record { length = 3; sha256 = sha256 hi }) } ∷ [])

-- the build of a view by command n of the one lane, at some reference rows, whose unit has come to this; with `-V` or not, and
-- with
-- `-u` or not
abbrev build_with : Bool → Bool → List ℕ → ℕ → ℕ → Came → Build
build_with own_only rebuild view n rows came = record {
  tag = tag 1 1 n;
  view = view;
  rows = rows;
  own_only = own_only;
  rebuild = rebuild;
  units = unit ∷ [];
  comes = (0, came) ∷ [];
  faulted = false;
}

abbrev build_in : List ℕ → ℕ → ℕ → Came → Build
build_in view n rows came = build_with false false view n rows came

-- the object of a view that read this row of the source
abbrev object : List ℕ → ℕ → Deed
object view source = deeds.Publish view (codes "out" ∷ []) script (record { path = codes "in"; row = source } ∷ []) (hi ∷ [])

-- command 10 builds in v, and command 12 takes the object of row 10 in
v_builds : reply_of (first_rows 11 two_views) (build_in v 10 10 (Given 10)) ≡ out_line words.Made
v_builds = refl

v_from_nothing : reply_from_nothing (first_rows 11 two_views) (build_in v 10 10 (Given 10)) ≡ out_line words.Made
v_from_nothing = refl

w_winks : reply_of two_views (build_in w 12 12 (Given 10)) ≡ out_line words.Winked
w_winks = refl

w_from_nothing : reply_from_nothing two_views (build_in w 12 12 (Given 10)) ≡ out_line words.Winked
w_from_nothing = refl

-- commands 13 and 15 drop the object, 16 scrubs it, and 17 builds again; 14 was a scrub that found nothing
abbrev built_again : Base
built_again = row 17 (object w 8) ∷ row 16 (deeds.Scrub (10 ∷ [])) ∷ row 15 (deeds.Drop v (codes "out"))
    ∷ row 13 (deeds.Drop w (codes "out")) ∷ two_views

built_again_fits : is_base built_again ≡ true
built_again_fits = refl

w_builds_again : reply_of built_again (build_in w 17 16 (Given 16)) ≡ out_line words.Made
w_builds_again = refl

w_again_from_nothing : reply_from_nothing built_again (build_in w 17 16 (Given 16)) ≡ out_line words.Made
w_again_from_nothing = refl

-- in w, command 12 builds with `-V`, 13 with `-V` again, and 14 with `-u`
abbrev own_built : Base
own_built = row 14 (object w 8) ∷ row 12 (object w 8) ∷ first_rows 12 two_views

own_built_fits : is_base own_built ≡ true
own_built_fits = refl

w_builds_its_own : reply_of (first_rows 13 own_built) (build_with true false w 12 12 (Given 12)) ≡ out_line words.Made
w_builds_its_own = refl

own_from_nothing : reply_from_nothing (first_rows 13 own_built) (build_with true false w 12 12 (Given 12)) ≡ out_line words.Made
own_from_nothing = refl

w_keeps_its_own : reply_of (first_rows 13 own_built) (build_with true false w 13 13 (Concluded (Kept 12))) ≡ out_line words.Kept
w_keeps_its_own = refl

kept_from_nothing : reply_from_nothing (first_rows 13 own_built) (build_with true false w 13 13 (Concluded (Kept 12)))
    ≡ out_line words.Kept
kept_from_nothing = refl

w_builds_anew : reply_of own_built (build_with false true w 14 13 (Given 13)) ≡ out_line words.Made
w_builds_anew = refl

anew_from_nothing : reply_from_nothing own_built (build_with false true w 14 13 (Given 13)) ≡ out_line words.Made
anew_from_nothing = refl

-- commands 13 and 14 label the record, 16 to 18 make a newer version of the source, 20 and 21 make a view that selects by the
-- record, and 22 builds there; 15 and 19 were questions
abbrev by_record : Base
by_record =
    row 22 (deeds.Wink (codes "x") 10)
    ∷ row 21 (deeds.Setcs (codes "x") (line (codes "element in -config out@@10") ++ line (codes "element * /main/LATEST")))
    ∷ row 20 (deeds.Mkview (codes "x"))
    ∷ row 18 (deeds.Checkin v 6)
    ∷ row 17 (deeds.Save v 6 (line (codes "foo")))
    ∷ row 16 (deeds.Checkout v 6 8 true)
    ∷ row 14 (deeds.Labels (codes "REL") (record { element = 6; version = 8 } ∷ []))
    ∷ row 13 (deeds.Mktype type_kinds.Label (codes "REL"))
    ∷ two_views

by_record_fits : is_base by_record ≡ true
by_record_fits = refl

x_winks : reply_of by_record (build_in (codes "x") 22 20 (Given 10)) ≡ out_line words.Winked
x_winks = refl

x_from_nothing : reply_from_nothing by_record (build_in (codes "x") 22 20 (Given 10)) ≡ out_line words.Winked
x_from_nothing = refl

-- command 15 takes the source out, and 16 builds; 13 and 14 were questions
abbrev on_a_checkout : Base
on_a_checkout =
    row 16 (object w 13) ∷ row 15 (deeds.Checkout w 6 8 true) ∷ two_views

on_a_checkout_fits : is_base on_a_checkout ≡ true
on_a_checkout_fits = refl

w_builds_on_it : reply_of on_a_checkout (build_in w 16 14 (Given 14)) ≡ out_line words.Made
w_builds_on_it = refl

on_it_from_nothing : reply_from_nothing on_a_checkout (build_in w 16 14 (Given 14)) ≡ out_line words.Made
on_it_from_nothing = refl
