-- The reply of a build of one unit, worked: its own object, another build's object, a unit that fails, and a kept object; then
-- a unit of two targets, at both where it is made, and at the first where it fails or is blocked.
use Rattle.std.proofs.Common.{◌≡◌, refl, ℕ, false, List, [], ◌∷◌, ◌++◌}
use Rattle.std.specs.Prelude.{codes}
use Rattle.cc_names.specs.declared.refusals.UnitFault.TheVariants.{NoRule}
use Rattle.cc_names.specs.declared.replies.Reply.{Reply}
use Rattle.cc_names.specs.declared.replies.Reply.TheVariants.{Built}
use Rattle.cc_names.specs.declared.replies.UnitWord.{UnitWord}
use Rattle.cc_names.specs.declared.replies.UnitWord.TheVariants as words
use Rattle.cc_names.specs.declared.rows.Deed.{Deed}
use Rattle.cc_names.specs.declared.rows.Deed.TheVariants as deeds
use Rattle.cc_names.specs.declared.steps.UnitEnd.TheVariants.{Blocked, Kept, Failed}
use Rattle.cc_names.specs.declared.units.UnitScript.TheVariants.{Lines}
use Rattle.base_model.specs.Rows.{Base}
use Rattle.legal_history.specs.Builds.Active.{Build, Came, Concluded, Given}
use Rattle.legal_history.specs.Queries.VersionNames.{line}
use Rattle.legal_history.specs.Worked.{tag, base_of}
use Rattle.legal_history.specs.Builds.Replied.{digest_of, reply_of, reply_from_nothing}

abbrev script : List ℕ
script = line (codes "cat in > out")

abbrev publish : Deed
publish = deeds.Publish (codes "v") (codes "out" ∷ []) script (record { path = codes "in"; row = 2 } ∷ [])
    (line (codes "hi") ∷ [])

abbrev base : Base
base = base_of (deeds.Mkview (codes "v") ∷ deeds.Put (codes "v") (codes "in") (line (codes "hi")) ∷ publish ∷ [])

-- the build by command n of the one lane, at this many reference rows, whose unit has come to this
abbrev build : ℕ → ℕ → Came → Build
build n rows came = record {
  tag = tag 1 1 n;
  view = codes "v";
  rows = rows;
  own_only = false;
  rebuild = false;
  units = record { targets = codes "out" ∷ []; prerequisites = codes "in" ∷ []; script = Lines script } ∷ [];
  comes = (0, came) ∷ [];
  faulted = false;
}

abbrev reply : UnitWord → Reply
reply word = Built (record { path = codes "out"; word = word } ∷ [])

own_is_built : reply_of base (build 3 3 (Given 3)) ≡ reply (words.Made (digest_of (line (codes "hi"))))
own_is_built = refl

own_from_nothing : reply_from_nothing base (build 3 3 (Given 3)) ≡ reply (words.Made (digest_of (line (codes "hi"))))
own_from_nothing = refl

other_is_winked : reply_of base (build 4 4 (Given 3)) ≡ reply (words.Winked (digest_of (line (codes "hi"))))
other_is_winked = refl

other_from_nothing : reply_from_nothing base (build 4 4 (Given 3)) ≡ reply (words.Winked (digest_of (line (codes "hi"))))
other_from_nothing = refl

-- at two reference rows there is no source yet
failed : reply_of base (build 2 2 (Concluded (Failed (NoRule (codes "in"))))) ≡ reply (words.Failed (NoRule (codes "in")))
failed = refl

failed_from_nothing : reply_from_nothing base (build 2 2 (Concluded (Failed (NoRule (codes "in")))))
    ≡ reply (words.Failed (NoRule (codes "in")))
failed_from_nothing = refl

-- the view keeps its own object
kept : reply_of base (build 4 4 (Concluded (Kept 3))) ≡ reply (words.Kept (digest_of (line (codes "hi"))))
kept = refl

kept_from_nothing : reply_from_nothing base (build 4 4 (Concluded (Kept 3))) ≡ reply (words.Kept (digest_of (line (codes "hi"))))
kept_from_nothing = refl

-- a unit that makes two targets
abbrev pair_script : List ℕ
pair_script = line (codes "cat in > x") ++ line (codes "echo foo > y")

abbrev pair : Deed
pair = deeds.Publish (codes "v") (codes "x" ∷ codes "y" ∷ []) pair_script (record { path = codes "in"; row = 2 } ∷ [])
    (line (codes "hi") ∷ line (codes "foo") ∷ [])

abbrev pair_base : Base
pair_base = base_of (deeds.Mkview (codes "v") ∷ deeds.Put (codes "v") (codes "in") (line (codes "hi")) ∷ pair ∷ [])

abbrev pair_build : ℕ → Came → Build
pair_build rows came = record {
  tag = tag 1 1 3;
  view = codes "v";
  rows = rows;
  own_only = false;
  rebuild = false;
  units = record { targets = codes "x" ∷ codes "y" ∷ []; prerequisites = codes "in" ∷ []; script = Lines pair_script } ∷ [];
  comes = (0, came) ∷ [];
  faulted = false;
}

abbrev pair_reply : Reply
pair_reply = Built (record { path = codes "x"; word = words.Made (digest_of (line (codes "hi"))) }
    ∷ record { path = codes "y"; word = words.Made (digest_of (line (codes "foo"))) } ∷ [])

abbrev first_reply : UnitWord → Reply
first_reply word = Built (record { path = codes "x"; word = word } ∷ [])

pair_is_built : reply_of pair_base (pair_build 3 (Given 3)) ≡ pair_reply
pair_is_built = refl

pair_from_nothing : reply_from_nothing pair_base (pair_build 3 (Given 3)) ≡ pair_reply
pair_from_nothing = refl

pair_failed : reply_of pair_base (pair_build 2 (Concluded (Failed (NoRule (codes "in")))))
    ≡ first_reply (words.Failed (NoRule (codes "in")))
pair_failed = refl

pair_failed_from_nothing : reply_from_nothing pair_base (pair_build 2 (Concluded (Failed (NoRule (codes "in")))))
    ≡ first_reply (words.Failed (NoRule (codes "in")))
pair_failed_from_nothing = refl

pair_blocked : reply_of pair_base (pair_build 3 (Concluded (Blocked (codes "in")))) ≡ first_reply (words.Blocked (codes "in"))
pair_blocked = refl
