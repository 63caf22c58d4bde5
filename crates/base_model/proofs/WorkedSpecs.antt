-- Config specs worked out by hand, by computation.
use Rattle.std.specs.Prelude.{◌≡◌, refl, ◌++◌, ℕ, false, [], ◌∷◌, Option, Some, None, Ok, Err, codes}
use Rattle.cc_names.specs.declared.refusals.SpecCause.TheVariants.{BadRule, BadSelector, NoBlock}
use Rattle.cc_names.specs.declared.selection.Rule.{Rule}
use Rattle.cc_names.specs.declared.selection.Selector.{Selector}
use Rattle.cc_names.specs.declared.selection.Selector.TheVariants.{CheckedOut, Latest, Wherever}
use Rattle.cc_names.specs.declared.selection.Segment.TheVariants.{OneName}
use Rattle.date_text.proofs.OnLiterals.{dates_on_literals}
use Rattle.base_model.specs.ConfigSpecs.Specs.{rules_of}

-- a rule on all elements or on `in`
abbrev on_all : ℕ → Selector → Option ℕ → Rule
on_all line selector before = record {
  line = line;
  pattern = record { anchored = false; segments = OneName (codes "*") ∷ [] };
  selector = selector;
  before = before;
  nocheckout = false;
  mkbranch = None;
}

abbrev on_in : ℕ → Selector → Option ℕ → Rule
on_in line selector before = record (on_all line selector before) {
  pattern = record {
    anchored = false;
    segments = OneName (codes "in") ∷ [];
  };
}

default : rules_of (codes "element * CHECKEDOUT" ++ 10 ∷ codes "element * /main/LATEST" ++ 10 ∷ [])
    ≡ Ok (on_all 1 CheckedOut None ∷ on_all 2 (Latest []) None ∷ [])
default = refl

selected_by_time : rules_of (codes "element in .../fix/LATEST" ++ 10 ∷ codes "element in /main/LATEST -time 14-Nov-2023.22:13:21")
    ≡ Ok (on_in 1 (Wherever (codes "fix")) None ∷ on_in 2 (Latest []) (Some 1700000001) ∷ [])
unfolding dates_on_literals
selected_by_time = refl

no_object : rules_of (codes "element in -config out") ≡ Err (record { line = 1; cause = BadSelector })
no_object = refl

no_block : rules_of (codes "# none" ++ 10 ∷ codes "end time") ≡ Err (record { line = 2; cause = NoBlock })
no_block = refl

twice : rules_of (codes "element * -none -nocheckout -nocheckout") ≡ Err (record { line = 1; cause = BadRule })
twice = refl
