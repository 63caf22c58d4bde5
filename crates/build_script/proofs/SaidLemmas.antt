-- How what a line says goes on.
use Rattle.std.proofs.Common.{◌≡◌, ℕ, ◌+◌, ◌≤◌, Bool, true, false, Result, Ok, Err, List, ◌++◌, length, refl, ap, sym, ◌∙◌}
use Rattle.std.proofs.Common.{if◌then◌else◌, arith, append_assoc, length-append}
use Rattle.std.specs.Prelude.{nat_lt}
use borrow.Author.Tests.{ltb-true, ltb-false}
use Rattle.cc_names.specs.declared.refusals.ScriptFault.{ScriptFault}
use Rattle.cc_names.specs.declared.refusals.ScriptFault.TheVariants.{TooBig}
use Rattle.script_grammar.specs.Parts.{PartGave}
use Rattle.script_grammar.specs.Run.{Output, Made, with_output, output_limit}
use Rattle.script_grammar.specs.declared.halts.Halt.{Halt}
use Rattle.script_grammar.specs.declared.halts.Halt.TheVariants.{Fault, GivenUp, NoMemory}

-- more after what was said, unless that was a fault
abbrev pub then_said : Output → List ℕ → Result Made ScriptFault → Result Made ScriptFault
then_said output more (Err fault) = Err fault
then_said output more (Ok made) = with_output output more made

-- bytes in two parts are said one after the other
pub with_output-append : (output : Output) (one two : List ℕ) (made : Made)
    → with_output output (one ++ two) made ≡ then_said output two (with_output output one made)
with_output-append output one two made = by (nat_lt output_limit (output.before + length made.bytes + length one)) refl
    (nat_lt output_limit (output.before + length made.bytes + length (one ++ two))) refl
  where
    size : ℕ
    size = output.before + length made.bytes

    by : (s : Bool) → nat_lt output_limit (size + length one) ≡ s → (t : Bool)
        → nat_lt output_limit (size + length (one ++ two)) ≡ t →
        (if t then Err (TooBig output.path) else Ok (record made { bytes = made.bytes ++ (one ++ two) }))
        ≡ then_said output two (if s then Err (TooBig output.path) else Ok (record made { bytes = made.bytes ++ one }))
    by true low true high = refl
    by true low false high = absurd (omega (arith, ltb-true _ _ low, ltb-false _ _ high, length-append one two))
    by false low t high =
        let same : output.before + length (made.bytes ++ one) + length two ≡ size + length (one ++ two) =
        omega (arith, length-append one two, length-append made.bytes one) in
        rw same (rw high (ap (λ (bytes : List ℕ). if t then Err (TooBig output.path) else Ok (record made { bytes = bytes }))
        (sym (append_assoc made.bytes one two))))

-- what is not said in a first part is not said in the whole
pub gave_prefix : {X Y : Type 0} (output : Output) (one two : List ℕ) (made : Made) (whole : Result Made ScriptFault) (shown : X
    → Made) (other : Y → Made) (halt : Halt) →
    whole ≡ with_output output (one ++ two) made → PartGave {X = X} (with_output output one made) shown (Err halt)
    → PartGave {X = Y} whole other (Err halt)
gave_prefix output one two made whole shown other (Fault fault) e gave = e ∙ with_output-append output one two made
    ∙ ap (then_said output two) gave
gave_prefix output one two made whole shown other (GivenUp cause) e gave = gave
gave_prefix output one two made whole shown other NoMemory e gave = tt

-- what is said in a first part leaves the second
pub gave_rest : (output : Output) (one two : List ℕ) (made after : Made) (whole : Result Made ScriptFault) →
    whole ≡ with_output output (one ++ two) made → with_output output one made ≡ Ok after → whole ≡ with_output output two after
gave_rest output one two made after whole e gave = e ∙ with_output-append output one two made ∙ ap (then_said output two) gave

-- what was said
pub record Says (output : Output) (more : List ℕ) (made after : Made) : Type 0 where
  pub size : length after.bytes ≡ length made.bytes + length more
  pub within : output.before + length made.bytes + length more ≤ output_limit
  pub probes : after.probes ≡ made.probes

pub said_so : (output : Output) (more : List ℕ) (made after : Made) → with_output output more made ≡ Ok after
    → Says output more made after
said_so output more made after e = by (nat_lt output_limit (output.before + length made.bytes + length more)) refl e
  where
    by : (t : Bool) → nat_lt output_limit (output.before + length made.bytes + length more) ≡ t →
        (if t then Err (TooBig output.path) else Ok (record made { bytes = made.bytes ++ more })) ≡ Ok after
        → Says output more made after
    by true high e = absurd (cc)
    by false low e =
        let same : record made { bytes = made.bytes ++ more } ≡ after = cc in
        record {
          size = ap (λ (m : Made). length m.bytes) (sym same) ∙ length-append made.bytes more;
          within = ltb-false _ _ low;
          probes = ap (λ (m : Made). m.probes) (sym same);
        }
