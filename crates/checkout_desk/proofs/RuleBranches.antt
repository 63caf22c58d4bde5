-- The branches that rules make have the names of types, as they were read.
use Rattle.std.proofs.Common.{◌≡◌, ℕ, ◌+◌, Bool, true, false, ◌&&◌, cond, Option, Some, None, Result, Ok, Err, List, [], ◌∷◌}
use Rattle.std.proofs.Common.{refl, codes, ◌==◌}
use Rattle.std.specs.Prelude.{IfOk, IfSome, is_ok, option_map, find, slice_get}
use Rattle.std.specs.Option.{ok_or}
use Rattle.std.specs.List.{AllByRecursion}
use Rattle.std.specs.Str.{bytes_eq}
use Rattle.cc_names.specs.Cuts.{lines_of, words_of}
use Rattle.cc_names.specs.Formed.{IsTypeName, begins_with_letter}
use Rattle.cc_names.specs.Names.{name_fault, unless_fault}
use Rattle.cc_names.specs.declared.names.NameFault.{NameFault}
use Rattle.cc_names.specs.declared.refusals.SpecCause.{SpecCause}
use Rattle.cc_names.specs.declared.refusals.SpecCause.TheVariants.{BadType}
use Rattle.cc_names.specs.declared.refusals.SpecError.{SpecError}
use Rattle.cc_names.specs.declared.selection.Picked.{Picked}
use Rattle.cc_names.specs.declared.selection.Rule.{Rule}
use Rattle.base_model.specs.ConfigSpecs.Lines.{◌>>=◌, Options, line_of_words, element_line, object_line, time_line, end_line}
use Rattle.base_model.specs.ConfigSpecs.Lines.{with_options, rule_of, options_from, no_options, before_of, moment_of_word}
use Rattle.base_model.specs.ConfigSpecs.Lines.{is_comment}
use Rattle.base_model.specs.ConfigSpecs.Patterns.{pattern_of}
use Rattle.base_model.specs.ConfigSpecs.Selectors.{branch_type_of, selector_of}
use Rattle.base_model.specs.ConfigSpecs.Specs.{rules_from, rules_of, with_line, before_rules}
use Rattle.base_model.specs.Rows.{Base}
use Rattle.base_model.specs.Seen.{rules, rules_of_spec, rules_read}
use Rattle.base_model.specs.Views.{spec_text}
use Rattle.legal_history.specs.Commands.CheckoutLines.{branch_by, deciding_rule}

-- a branch has the name of a type, where there is one
abbrev pub IsBranchNamed : Option (List ℕ) → Type 0
IsBranchNamed branch = IfSome branch IsTypeName

-- the same of the branch that a rule makes
abbrev IsNamed : Rule → Type 0
IsNamed rule = IsBranchNamed rule.mkbranch

-- the same of each of some rules
abbrev AreNamed : List Rule → Type 0
AreNamed rules = AllByRecursion IsNamed rules

typed : (bytes : List ℕ) (letter : Bool) (fault : Option NameFault) → begins_with_letter bytes ≡ letter → name_fault bytes ≡ fault
    → IfOk (ok_or (option_map Some (cond (letter && is_ok (unless_fault fault bytes)) (Some bytes) None)) BadType) IsBranchNamed
typed bytes false fault l e = tt
typed bytes true None l e = (record { no_fault = e }, l)
typed bytes true (Some fault) l e = tt

branch_named : (word : Option (List ℕ)) → IfOk (branch_type_of word) IsBranchNamed
branch_named None = tt
branch_named (Some bytes) = typed bytes (begins_with_letter bytes) (name_fault bytes) refl refl

-- what a line does to the rules after it
abbrev Does : Type 0 → Type 0
Does B = ℕ → List ℕ → Result B SpecCause → (List ℕ → Result (List Rule) SpecError) → Result (List Rule) SpecError

-- what was read of a line keeps rules named: those after it and its own
abbrev Keeps : {B : Type 0} → Does B → Result B SpecCause → Type 0
Keeps does read =
    (line : ℕ) (blocks : List ℕ) (behind : List ℕ → Result (List Rule) SpecError)
    → ((inside : List ℕ) → IfOk (behind inside) AreNamed) → IfOk (does line blocks read behind) AreNamed

refuses : (cause : SpecCause) → Keeps with_line (Err cause)
refuses cause = λ line blocks behind all. tt

-- steps of reading, of which the last keeps them named
then_named : {A B : Type 0} (does : Does B) → ((cause : SpecCause) → Keeps does (Err cause))
    → (r : Result A SpecCause) (f : A → Result B SpecCause)
    → ((a : A) → Keeps does (f a)) → Keeps does (r >>= f)
then_named does none (Ok a) f all = all a
then_named does none (Err cause) f all = none cause

branch_then : {B : Type 0} (does : Does B) → ((cause : SpecCause) → Keeps does (Err cause))
    → (r : Result (Option (List ℕ)) SpecCause)
    (f : Option (List ℕ) → Result B SpecCause) → IfOk r IsBranchNamed → ((branch : Option (List ℕ)) → IsBranchNamed branch
    → Keeps does (f branch))
    → Keeps does (r >>= f)
branch_then does none (Ok branch) f named all = all branch named
branch_then does none (Err cause) f named all = none cause

either : (test : Bool) (one other : _) → Keeps with_line one → Keeps with_line other → Keeps with_line (cond test one other)
either true one other a b = a
either false one other a b = b

before_named : (rule : Rule) (more : Result (List Rule) SpecError) → IsNamed rule → IfOk more AreNamed
    → IfOk (before_rules rule more) AreNamed
before_named rule (Ok rules) named all = (named, all)
before_named rule (Err error) named all = tt

rule_named : (line : ℕ) (block : Option ℕ) (pattern : List ℕ) (of_object : Bool) (selector : List ℕ) (options : Options)
    → Keeps with_line (rule_of line block pattern of_object selector options)
rule_named line block pattern of_object selector options =
    then_named with_line refuses (pattern_of pattern) _ (λ segments. then_named with_line refuses (selector_of of_object selector)
    _ (λ version.
    then_named with_line refuses (before_of options.time block) _ (λ before. branch_then with_line refuses
    (branch_type_of options.mkbranch) _ (branch_named options.mkbranch)
    (λ branch named. λ at blocks behind all. before_named _ (behind blocks) named (all blocks)))))

options_named : (line : ℕ) (block : Option ℕ) (pattern : List ℕ) (of_object : Bool) (selector : List ℕ) (options : Option Options)
    → Keeps with_line (with_options line block pattern of_object selector options)
options_named line block pattern of_object selector None = λ at blocks behind all. tt
options_named line block pattern of_object selector (Some options) = rule_named line block pattern of_object selector options

object_named : (line : ℕ) (block : Option ℕ) (pattern : List ℕ) (words : List (List ℕ))
    → Keeps with_line (object_line line block pattern words)
object_named line block pattern [] = λ at blocks behind all. tt
object_named line block pattern (object ∷ words) = options_named line block pattern true object (options_from words no_options)

element_named : (line : ℕ) (block : Option ℕ) (words : List (List ℕ)) → Keeps with_line (element_line line block words)
element_named line block [] = λ at blocks behind all. tt
element_named line block (pattern ∷ []) = λ at blocks behind all. tt
element_named line block (pattern ∷ selector ∷ words) =
    either (bytes_eq selector (codes "-config")) _ _ (object_named line block pattern words)
    (options_named line block pattern false selector (options_from words no_options))

time_named : (words : List (List ℕ)) → Keeps with_line (time_line words)
time_named [] = λ at blocks behind all. tt
time_named (date ∷ []) = then_named with_line refuses (moment_of_word date) _
    (λ moment. λ at blocks behind all. all (moment ∷ blocks))
time_named (date ∷ next ∷ words) = λ at blocks behind all. tt

-- `end time` leaves the innermost block
closes : Keeps with_line (end_line (codes "time" ∷ []))
closes line [] behind all = tt
closes line (innermost ∷ outer) behind all = all outer

end_named : (words : List (List ℕ)) → Keeps with_line (end_line words)
end_named [] = λ at blocks behind all. tt
end_named (word ∷ []) =
    either (bytes_eq word (codes "time")) _ _ closes (λ at blocks behind all. tt)
end_named (word ∷ next ∷ words) = λ at blocks behind all. tt

line_named : (line : ℕ) (block : Option ℕ) (words : List (List ℕ)) → Keeps with_line (line_of_words line block words)
line_named line block [] = λ at blocks behind all. all blocks
line_named line block (word ∷ words) =
    either (is_comment word) _ _ (λ at blocks behind all. all blocks) (either (bytes_eq word (codes "element")) _ _
    (element_named line block words)
    (either (bytes_eq word (codes "time")) _ _ (time_named words) (either (bytes_eq word (codes "end")) _ _ (end_named words)
    (λ at blocks behind all. tt))))

lines_named : (lines : List (List ℕ)) (line : ℕ) (blocks : List ℕ) → IfOk (rules_from lines line blocks) AreNamed
lines_named [] line blocks = tt
lines_named (bytes ∷ lines) line blocks =
    line_named line (slice_get blocks 0) (words_of bytes) line blocks (rules_from lines (line + 1)) (lines_named lines (line + 1))

read_named : (read : Result (List Rule) SpecError) → IfOk read AreNamed → AreNamed (rules_read read)
read_named (Ok rules) all = all
read_named (Err error) all = tt

spec_named : (text : Option (List ℕ)) → AreNamed (rules_of_spec text)
spec_named None = tt
spec_named (Some text) = read_named (rules_of text) (lines_named (lines_of text) 1 [])

by_test : (is : Bool) (rule : Rule) (rest : Option Rule) → IsNamed rule → IsBranchNamed (branch_by rest)
    → IsBranchNamed (branch_by (cond is (Some rule) rest))
by_test true rule rest named others = named
by_test false rule rest named others = others

found_named : (decides : Rule → Bool) (rules : List Rule) → AreNamed rules → IsBranchNamed (branch_by (find decides rules))
found_named decides [] all = tt
found_named decides (rule ∷ rules) all = by_test (decides rule) rule (find decides rules) all.0 (found_named decides rules all.1)

-- the branch by the rule that decided, if it makes one, has the name of a type
pub deciding_named : (b : Base) (v : List ℕ) (picked : Picked) → IsBranchNamed (branch_by (deciding_rule b v picked))
deciding_named b v picked = found_named (λ rule. rule.line == picked.line) (rules b v) (spec_named (spec_text b v))
