-- Builds that are refused for want of a makefile, and units that fail without a run, on the smallest bases, worked by hand.
use Rattle.std.proofs.Common.{◌≡◌, refl, ℕ, true, false, Option, Some, None, Result, Ok, Err, List, [], ◌∷◌, ◌++◌}
use Rattle.std.specs.Prelude.{codes, replicate}
use Rattle.cc_names.specs.declared.refusals.Refusal.{Refusal}
use Rattle.cc_names.specs.declared.refusals.Refusal.TheVariants as refusals
use Rattle.cc_names.specs.declared.refusals.UnitFault.TheVariants.{NoDirectory, NoRule, ScriptTooLong}
use Rattle.cc_names.specs.declared.rows.Deed.{Deed}
use Rattle.cc_names.specs.declared.rows.Deed.TheVariants as deeds
use Rattle.cc_names.specs.declared.rows.Kind.TheVariants.{Directory}
use Rattle.cc_names.specs.declared.steps.UnitEnd.TheVariants.{Failed}
use Rattle.cc_names.specs.declared.units.Unit.{Unit}
use Rattle.cc_names.specs.declared.units.UnitScript.TheVariants as scripts
use Rattle.legal_history.specs.Builds.Fresh.{fresh}
use Rattle.legal_history.specs.Builds.Serials.{Without, Finished, Good, early_end}
use Rattle.legal_history.specs.Commands.Decisions.{Begins, Decision}
use Rattle.legal_history.specs.Commands.ObjectLines.{clearmake}
use Rattle.legal_history.specs.Queries.VersionNames.{line}
use Rattle.legal_history.specs.Worked.{base_of}
use Rattle.legal_history.proofs.Worked.TwoViews.{v}

-- what is decided of a build of the first target, by the makefile that is named, if one is
abbrev build : List Deed → Option (List ℕ) → Result Decision Refusal
build deeds named = clearmake (record { base = base_of deeds; active = []; moment = 1700000000 }) v named [] []

-- what it comes to from nothing in view `v` with this private file `Makefile`
abbrev built : List ℕ → Result (List Finished) Refusal
built makefile = fresh (base_of (deeds.Mkview v ∷ deeds.Put v (codes "Makefile") makefile ∷ [])) v None [] []

-- no makefile: without a name the refusal says `Makefile`, else the name
no_makefile : build (deeds.Mkview v ∷ []) None ≡ Err (refusals.NoMakefile (codes "Makefile"))
no_makefile = refl

no_named_makefile : build (deeds.Mkview v ∷ deeds.Put v (codes "Makefile") [] ∷ []) (Some (codes "other"))
    ≡ Err (refusals.NoMakefile (codes "other"))
no_named_makefile = refl

a_directory_is_no_makefile : build
    (deeds.Mkview v ∷ deeds.Checkout v 0 0 true ∷ deeds.Mkelem v 0 (codes "Makefile") Directory true ∷ []) None
    ≡ Err (refusals.NoMakefile (codes "Makefile"))
a_directory_is_no_makefile = refl

-- a target of a unit
abbrev unit : List ℕ → List (List ℕ) → List ℕ → Unit
unit target prerequisites script = record {
  targets = target ∷ [];
  prerequisites = prerequisites;
  script = scripts.Lines (line script);
}

-- `makefile` goes before `Makefile`
the_first_makefile : build
    (deeds.Mkview v ∷ deeds.Put v (codes "Makefile") (codes "b:\n\techo hi > b\n")
    ∷ deeds.Put v (codes "makefile") (codes "a:\n\techo hi > a\n") ∷ []) None
    ≡ Ok (Begins (unit (codes "a") [] (codes "echo hi > a") ∷ []))
the_first_makefile = refl

-- the target's parent is no directory of the view, which is told before the prerequisite that is missing
no_directory : built (codes "d/out: in\n\tcat in > d/out\n")
    ≡ Ok (record {
      unit = unit (codes "d/out") (codes "in" ∷ []) (codes "cat in > d/out");
      outcome = Without (Failed (NoDirectory (codes "d")));
    } ∷ [])
no_directory = refl

-- the first prerequisite that is neither a unit nor a file
no_rule : built (codes "out: Makefile in two\n\tcat in > out\n")
    ≡ Ok (record {
      unit = unit (codes "out") (codes "Makefile" ∷ codes "in" ∷ codes "two" ∷ []) (codes "cat in > out");
      outcome = Without (Failed (NoRule (codes "in")));
    } ∷ [])
no_rule = refl

a_directory_is_no_file : fresh (base_of (deeds.Mkview v ∷ deeds.Checkout v 0 0 true ∷ deeds.Mkelem v 0 (codes "d") Directory true
    ∷ deeds.Put v (codes "Makefile") (codes "out: d\n\techo hi > out\n") ∷ [])) v None [] []
    ≡ Ok (record {
      unit = unit (codes "out") (codes "d" ∷ []) (codes "echo hi > out");
      outcome = Without (Failed (NoRule (codes "d")));
    } ∷ [])
a_directory_is_no_file = refl

-- A makefile whose last macro has 65,520 bytes and these besides. The macros before it have 16, 256 and 4,096 bytes, and it has
-- fifteen of each.
abbrev four : List ℕ → List ℕ
four text = text ++ text ++ text ++ text

abbrev fifteen : List ℕ → List ℕ
fifteen text = four text ++ four text ++ four text ++ text ++ text ++ text

abbrev long : List ℕ → List ℕ
long more =
    line (codes "A=aaaaaaaaaaaaaaaa") ++ line (codes "B=$A" ++ fifteen (codes "$A"))
    ++ line (codes "C=$B" ++ fifteen (codes "$B"))
    ++ line (codes "D=" ++ fifteen (codes "$C") ++ fifteen (codes "$B") ++ fifteen (codes "$A") ++ more)
    ++ codes "out:\n\techo $D > out\n"

-- its script has 12 bytes more than the macro
as_long_as_may_be : build (deeds.Mkview v ∷ deeds.Put v (codes "Makefile") (long (codes "aaaa")) ∷ []) None
    ≡ Ok (Begins (unit (codes "out") [] (codes "echo " ++ replicate 65524 97 ++ codes " > out") ∷ []))
as_long_as_may_be = refl

one_byte_too_long : built (long (codes "aaaaa"))
    ≡ Ok (record {
      unit = record { targets = codes "out" ∷ []; prerequisites = []; script = scripts.TooLong };
      outcome = Without (Failed (ScriptTooLong (codes "out")));
    } ∷ [])
one_byte_too_long = refl

-- it is told last: after a directory that is missing
no_directory_for_it : early_end (λ path. false) (λ path. Good) (record {
  targets = codes "d/out" ∷ [];
  prerequisites = codes "in" ∷ [];
  script = scripts.TooLong;
}) ≡ Some (Failed (NoDirectory (codes "d")))
no_directory_for_it = refl
