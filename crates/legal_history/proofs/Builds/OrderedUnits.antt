-- The units that a makefile gives are in order.
use Rattle.std.proofs.Common.{◌≡◌, refl, ap, sym, ◌∙◌, ℕ, ◌+◌, true, false, Option, Some, None, Result, Ok, Err, List, [], ◌∷◌}
use Rattle.std.specs.Prelude.{is_some}
use Rattle.cc_names.specs.Files.{Files}
use Rattle.cc_names.specs.declared.commands.Macro.{Macro}
use Rattle.cc_names.specs.declared.refusals.GraphFault.{GraphFault}
use Rattle.cc_names.specs.declared.refusals.MakeError.{MakeError}
use Rattle.cc_names.specs.declared.units.Unit.{Unit}
use Rattle.make_grammar.specs.Contents.{Contents}
use Rattle.make_grammar.specs.Grammar.{makefile_of}
use Rattle.make_grammar.specs.Graphs.{graph_of, units_of, units_at, units}
use Rattle.make_grammar.specs.Numbers.{number_from as number_of}
use Rattle.make_grammar.specs.UnitLaws.{IsFormedMakefile, InOrder as AreOrdered, made_by_unit}
use Rattle.make_grammar.specs.Units.{units_unless_refused, main_file}
use Rattle.make_grammar.proofs.FormedMakefiles.{makefiles_are_formed}
use Rattle.make_grammar.proofs.UnitLaws as laws
use Rattle.legal_history.specs.Builds.Active.{number_from}
use Rattle.base_model.specs.Closures.{is_path_among}
use Rattle.legal_history.specs.Builds.Consistency.{InOrder}

-- units are counted alike
pub same_number : (n : ℕ) (path : List ℕ) (us : List Unit) → number_from n path us ≡ number_of made_by_unit n path us
same_number n path [] = refl
same_number n path (unit ∷ us) =
    ap (λ rest. elim (is_path_among path unit.targets) as (λ b. Option ℕ) [ true ↦ Some n | false ↦ rest ])
    (same_number (n + 1) path us)

pub in_order : (us : List Unit) → AreOrdered us → InOrder us
in_order us h = record {
  one = λ n unit path is made. same_number 0 path us ∙ h.one n unit path is made;
  earlier = λ n m unit path is among found. h.earlier n m unit path is among (sym (same_number 0 path us) ∙ found);
}

unless_refused_is : (r : Result (List Unit) GraphFault) (made : List Unit) → units_unless_refused r ≡ Ok made → r ≡ Ok made
unless_refused_is (Ok us) made h = cc
unless_refused_is (Err fault) made h = absurd (cc)

-- The units of a build are those of a makefile that is formed.
pub record AreOfFormed (files : Files) (goals : List (List ℕ)) (us : List Unit) : Type 0 where
  pub make : Contents
  pub formed : IsFormedMakefile make
  pub graph : graph_of make goals (λ path. is_some (files path)) ≡ Ok us

of_contents : (files : Files) (goals : List (List ℕ)) (read : Result Contents MakeError) (us : List Unit)
    → ((make : Contents) → read ≡ Ok make → IsFormedMakefile make) → units_of files goals read ≡ Ok us
    → AreOfFormed files goals us
of_contents files goals (Err fault) us formed h = absurd (cc)
of_contents files goals (Ok make) us formed h =
    record {
      make = make;
      formed = formed make refl;
      graph = unless_refused_is
          (graph_of make goals (λ path. is_some (files path))) us h;
    }

at_file : (files : Files) (macros : List Macro) (goals : List (List ℕ)) (file : List ℕ) (o : Option (List ℕ)) (us : List Unit)
    → units_at files macros goals file o ≡ Ok us → AreOfFormed files goals us
at_file files macros goals file None us h = absurd (cc)
at_file files macros goals file (Some text) us h = of_contents files goals (makefile_of files file macros) us
    (λ make is. makefiles_are_formed files file macros make is) h

pub of_formed : (files : Files) (file : Option (List ℕ)) (macros : List Macro) (goals : List (List ℕ)) (us : List Unit)
    → units files file macros goals ≡ Ok us → AreOfFormed files goals us
of_formed files file macros goals us h = at_file files macros goals (main_file files file) (files (main_file files file)) us h

-- The units that a makefile gives are in order.
pub units_in_order : (files : Files) (file : Option (List ℕ)) (macros : List Macro) (goals : List (List ℕ)) (us : List Unit)
    → units files file macros goals ≡ Ok us → InOrder us
units_in_order files file macros goals us h =
    let of = of_formed files file macros goals us h in
    in_order us (laws.units_in_order of.make goals (λ path. is_some (files path)) us of.formed of.graph)
