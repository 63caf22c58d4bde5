-- Two views on one makefile and one source: elements are made, saved and brought in; one view builds, and the other takes
-- the object in.
use Rattle.std.proofs.Common.{◌≡◌, refl, ℕ, true, false, Some, None, Ok, List, [], ◌∷◌, ◌++◌, map}
use Rattle.std.specs.Prelude.{codes}
use Rattle.std.specs.Fmt.{digits}
use Rattle.cc_names.specs.declared.commands.Command.{Command}
use Rattle.cc_names.specs.declared.commands.Command.TheVariants as commands
use Rattle.cc_names.specs.declared.commands.Change.TheVariants as changes
use Rattle.cc_names.specs.declared.rows.Deed.{Deed}
use Rattle.cc_names.specs.declared.rows.Deed.TheVariants as deeds
use Rattle.cc_names.specs.declared.rows.Kind.TheVariants.{File}
use Rattle.cc_names.specs.declared.units.Unit.{Unit}
use Rattle.cc_names.specs.declared.units.UnitScript.TheVariants as scripts
use Rattle.base_model.specs.Rows.{Base, first_rows}
use Rattle.base_model.specs.Catalogs.{catalog_of}
use Rattle.base_model.specs.Changes.{objects_held}
use Rattle.legal_history.specs.Commands.Decisions.{Makes, Begins}
use Rattle.base_model.specs.Fits.{is_base}
use Rattle.legal_history.specs.Builds.Fresh.{fresh}
use Rattle.base_model.specs.Seen.{file_at, directory_at}
use Rattle.legal_history.specs.Builds.Serials.{Made, Finished}
use Rattle.base_model.specs.Texts.{text}
use Rattle.legal_history.specs.Queries.VersionNames.{line, version_name}
use Rattle.legal_history.specs.Worked.{base_of, decisions}

abbrev pub v : List ℕ
v = codes "v"

abbrev pub w : List ℕ
w = codes "w"

abbrev pub makefile : List ℕ
makefile = line (codes "out: in") ++ line (9 ∷ codes "cat in > out")

abbrev pub script : List ℕ
script = line (codes "cat in > out")

abbrev pub hi : List ℕ
hi = line (codes "hi")

-- the commands that make the elements
abbrev pub first_commands : List Command
first_commands =
    commands.Change (changes.Mkview v)
    ∷ commands.Change (changes.Checkout v false (codes "."))
    ∷ commands.Change (changes.Mkelem v false (codes "Makefile"))
    ∷ commands.Change (changes.Save v (codes "Makefile") makefile)
    ∷ commands.Change (changes.Checkin v false (codes "Makefile"))
    ∷ commands.Change (changes.Mkelem v false (codes "in"))
    ∷ commands.Change (changes.Save v (codes "in") hi)
    ∷ commands.Change (changes.Checkin v false (codes "in"))
    ∷ commands.Change (changes.Checkin v false (codes "."))
    ∷ []

-- the rows that they make
abbrev pub first_deeds : List Deed
first_deeds =
    deeds.Mkview v
    ∷ deeds.Checkout v 0 0 true
    ∷ deeds.Mkelem v 0 (codes "Makefile") File true
    ∷ deeds.Save v 3 makefile
    ∷ deeds.Checkin v 3
    ∷ deeds.Mkelem v 0 (codes "in") File true
    ∷ deeds.Save v 6 hi
    ∷ deeds.Checkin v 6
    ∷ deeds.Checkin v 0
    ∷ []

first_are_decided : decisions [] first_commands ≡ map (λ deed. Ok (Makes deed)) first_deeds
first_are_decided = refl

abbrev pub unit : Unit
unit = record { targets = codes "out" ∷ []; prerequisites = codes "in" ∷ []; script = scripts.Lines script }

abbrev pub clearmake : List ℕ → Command
clearmake view = commands.Build (record {
  view = view;
  file = None;
  own_only = false;
  rebuild = false;
  jobs = 1;
  macros = [];
  goals = [];
})

first_build_begins : decisions (base_of first_deeds) (clearmake v ∷ []) ≡ Ok (Begins (unit ∷ [])) ∷ []
first_build_begins = refl

-- what the unit comes to from nothing
abbrev pub built : List Finished
built = record { unit = unit; outcome = Made (hi ∷ []) } ∷ []

first_build_from_nothing : fresh (base_of first_deeds) v None [] [] ≡ Ok built
first_build_from_nothing = refl

-- the object that the first build publishes
abbrev pub publish : Deed
publish = deeds.Publish v (codes "out" ∷ []) script (record { path = codes "in"; row = 8 } ∷ []) (hi ∷ [])

abbrev pub all_deeds : List Deed
all_deeds = first_deeds ++ (publish ∷ deeds.Mkview w ∷ deeds.Wink w 10 ∷ [])

-- the base of all twelve rows
abbrev pub two_views : Base
two_views = base_of all_deeds

all_fit : is_base two_views ≡ true
all_fit = refl

second_build_begins :
    decisions (base_of (first_deeds ++ (publish ∷ []))) (commands.Change (changes.Mkview w) ∷ clearmake w ∷ [])
    ≡ Ok (Makes (deeds.Mkview w)) ∷ Ok (Begins (unit ∷ [])) ∷ []
second_build_begins = refl

second_build_from_nothing : fresh (first_rows 12 two_views) w None [] [] ≡ Ok built
second_build_from_nothing = refl

object_has_its_text : text two_views 10 (codes "out") ≡ Some hi
object_has_its_text = refl

source_is_the_version : file_at two_views w (codes "in") ≡ Some 8
source_is_the_version = refl

-- the root as it was taken out, the makefile, the source, and the root as it was brought in
versions_have_names :
    map (version_name two_views) (0 ∷ 5 ∷ 8 ∷ 9 ∷ [])
    ≡ codes "/main/0" ∷ codes "/main/1" ∷ codes "/main/1" ∷ codes "/main/1" ∷ []
unfolding digits
versions_have_names = refl

source_was_a_checkout : file_at (first_rows 8 two_views) v (codes "in") ≡ Some 7
source_was_a_checkout = refl

source_is_not_seen_before_its_directory : file_at (first_rows 9 two_views) w (codes "in") ≡ None
source_is_not_seen_before_its_directory = refl

root_is_the_version : directory_at two_views w (codes ".") ≡ Some 9
root_is_the_version = refl

catalog_has_both : catalog_of two_views 9 ≡ (codes "Makefile", 3) ∷ (codes "in", 6) ∷ []
catalog_has_both = refl

checkin_keeps_the_text : text two_views 8 (codes "in") ≡ Some hi
checkin_keeps_the_text = refl

both_hold_the_object : objects_held two_views ≡ ((v, codes "out"), 10) ∷ ((w, codes "out"), 10) ∷ []
both_hold_the_object = refl
