-- A rule line by its two sides.
use Rattle.std.proofs.Common.{◌≡◌, refl, sym, ap, ◌∙◌, ℕ, Bool, true, false, Option, Some, None, Result, Ok, Err, List, [], ◌++◌}
use Rattle.std.proofs.Common.{◌||◌, ◌+◌, ◌<◌, length, nat_lt, if◌then◌else◌, length-append, arith, subst, not, ◌&&◌}
use Rattle.std.specs.List.{list_all}
use Rattle.std.proofs.lemmas.Bool.{ltb-true, lt-ltb, or_parts}
use Rattle.std.proofs.lemmas.List.{append-nil}
use Rattle.cc_names.specs.Answers.{FaultIs}
use Rattle.cc_names.specs.Cuts.{words_of}
use Rattle.cc_names.specs.declared.commands.Macro.{Macro}
use Rattle.cc_names.specs.declared.memory.Or.{Or}
use Rattle.cc_names.specs.declared.memory.Or.TheVariants.{NoMemory, Is}
use Rattle.cc_names.specs.declared.refusals.MakeCause.{MakeCause}
use Rattle.cc_names.specs.declared.refusals.MakeCause.TheVariants.{LineTooLong, MacroLoop, BadLine}
use Rattle.make_grammar.specs.Macros.{Expansion, plain, one_after_other, is_too_long, is_among}
use Rattle.make_text.specs.RuleLines.{rule_of_sides, expanded_sides, AreSaid}
use Rattle.make_grammar.specs.Statements.{or_cause, cause_or, expansion_fault, expanded_by, before_mark, mark_of, is_grouped}
use Rattle.make_grammar.specs.Statements.{rule_expansion, rule_bytes_fault, rule_words_fault, rule_words, rule_fault}
use Rattle.make_grammar.specs.Statements.{line_words_fault, cause_where, is_suffix, suffixes_name}
use Rattle.make_grammar.specs.declared.rule_lines.RuleWords.{RuleWords}

-- where there is something, there was no cause
no_cause : {A : Type 0} (o : Option MakeCause) (x y : A) → Ok y ≡ or_cause o x → (o ≡ None) × (y ≡ x)
no_cause None x y h = (refl, cc)
no_cause (Some cause) x y h = absurd (cc)

a_cause : {A : Type 0} (o : Option MakeCause) (x : A) (cause : MakeCause) → Err cause ≡ or_cause o x → o ≡ Some cause
a_cause None x cause h = absurd (cc)
a_cause (Some other) x cause h = cc

-- an expansion without a fault is its bytes
no_fault : (total : Expansion) → expansion_fault total ≡ None → total ≡ plain total.bytes
no_fault total h = by (is_too_long total) total.loops refl h
  where
    by : (long loops : Bool) → total.loops ≡ loops → (if long then Some LineTooLong else if loops then Some MacroLoop else None)
        ≡ None → total ≡ plain total.bytes
    by true loops is h = absurd (cc)
    by false true is h = absurd (cc)
    by false false is h = ap (λ (b : Bool). record { bytes = total.bytes; loops = b }) is

-- the fault of an expansion is that of what begins with it
fault_follows : (one rest : Expansion) (cause : MakeCause) → expansion_fault one ≡ Some cause
    → expansion_fault (one_after_other one rest) ≡ Some cause
fault_follows one rest cause h = by (is_too_long one) one.loops refl refl h
  where
    longer : nat_lt 65536 (length one.bytes) ≡ true → (more : List ℕ) → nat_lt 65536 (length (one.bytes ++ more)) ≡ true
    longer long more =
        let before : 65536 < length one.bytes = ltb-true _ _ long in
        let all : length (one.bytes ++ more) ≡ length one.bytes + length more = length-append one.bytes more in
        lt-ltb _ _ (omega (arith, before, all))

    by : (long loops : Bool) → is_too_long one ≡ long → one.loops ≡ loops
        → (if long then Some LineTooLong else if loops then Some MacroLoop else None) ≡ Some cause
        → expansion_fault (one_after_other one rest) ≡ Some cause
    by true loops l is h =
        ap (λ b. if b then Some LineTooLong else if one.loops || rest.loops then Some MacroLoop else None)
        (longer l (if one.loops then [] else rest.bytes)) ∙ h
    by false true l is h =
        ap (λ b. if nat_lt 65536 (length (one.bytes ++ (if b then [] else rest.bytes))) then Some LineTooLong else if b
        || rest.loops then Some MacroLoop else None) is
        ∙ (ap (λ (x : List ℕ). if nat_lt 65536 (length x) then Some LineTooLong else Some MacroLoop) (append-nil one.bytes)
        ∙ (ap (λ b. if b then Some LineTooLong else Some MacroLoop) l ∙ h))
    by false false l is h = absurd (cc)

-- the expansion of a rule line whose first side has no fault
first_side : (macros : List Macro) (before behind : List ℕ) (first : List ℕ) →
    Ok first ≡ or_cause (expansion_fault (expanded_by macros (before_mark before)))
    (expanded_by macros (before_mark before)).bytes →
    rule_expansion macros before behind ≡ one_after_other (plain first)
    (one_after_other (plain (mark_of before)) (expanded_by macros behind))
first_side macros before behind first h =
    let one = expanded_by macros (before_mark before) in
    let fine = no_cause (expansion_fault one) one.bytes first h in
    ap (λ (e : Expansion). one_after_other e (one_after_other (plain (mark_of before)) (expanded_by macros behind)))
    (no_fault one fine.0 ∙ ap plain (sym fine.1))

-- both sides, where the first has no fault
pub second_sides : (macros : List Macro) (before behind first mark : List ℕ) (read : Result (List ℕ × List ℕ) MakeCause) →
    Ok first ≡ or_cause (expansion_fault (expanded_by macros (before_mark before)))
    (expanded_by macros (before_mark before)).bytes →
    mark ≡ mark_of before →
    read ≡ or_cause (expansion_fault (one_after_other (plain first) (one_after_other (plain mark) (expanded_by macros behind))))
    (first, (expanded_by macros behind).bytes) →
    expanded_sides macros before behind ≡ read
second_sides macros before behind first mark read h m r =
    let one = expanded_by macros (before_mark before) in
    let fine = no_cause (expansion_fault one) one.bytes first h in
    ap (λ (e : Expansion). or_cause (expansion_fault e) (one.bytes, (expanded_by macros behind).bytes))
    (first_side macros before behind first h)
    ∙ ap (λ (x : List ℕ × List ℕ). or_cause (expansion_fault (one_after_other (plain x.0)
    (one_after_other (plain x.1) (expanded_by macros behind)))) (one.bytes, (expanded_by macros behind).bytes))
    (ap (λ (b : List ℕ). (first, b)) (sym m))
    ∙ ap (λ (b : List ℕ). or_cause (expansion_fault (one_after_other (plain first)
    (one_after_other (plain mark) (expanded_by macros behind)))) (b, (expanded_by macros behind).bytes)) (sym fine.1)
    ∙ sym r

-- a fault of the first side is one of the line
pub first_fault : (macros : List Macro) (before behind : List ℕ) (cause : MakeCause) →
    Err cause ≡ or_cause (expansion_fault (expanded_by macros (before_mark before)))
    (expanded_by macros (before_mark before)).bytes →
    expanded_sides macros before behind ≡ Err cause
first_fault macros before behind cause h =
    let one = expanded_by macros (before_mark before) in
    let rest = one_after_other (plain (mark_of before)) (expanded_by macros behind) in
    ap (λ (o : Option MakeCause). or_cause o (one.bytes, (expanded_by macros behind).bytes))
    (fault_follows one rest cause (a_cause (expansion_fault one) one.bytes cause h))

-- a rule line whose sides have a fault, and one whose sides have none
pub line_fault : (macros : List Macro) (before behind : List ℕ) (fault : Or MakeCause) → None ≡ rule_bytes_fault before behind →
    FaultIs fault (expanded_sides macros before behind) → FaultIs fault (rule_words macros before behind)
line_fault macros before behind NoMemory none h = h
line_fault macros before behind (Is cause) none h =
    let o = expansion_fault (rule_expansion macros before behind) in
    let sides : List ℕ × List ℕ = ((expanded_by macros (before_mark before)).bytes, (expanded_by macros behind).bytes) in
    let words = rule_words_fault (is_grouped before) (words_of sides.0) (words_of sides.1) in
    let made : RuleWords = record { is_group = is_grouped before; targets = words_of sides.0; prerequisites = words_of sides.1 }
    in
    ap (λ (b : Option MakeCause). or_cause (cause_or b (cause_or o words)) made) (sym none)
    ∙ ap (λ (p : Option MakeCause). or_cause (cause_or p words) made) (a_cause o sides cause (sym h))

pub line_words : (macros : List Macro) (before behind first second : List ℕ) → None ≡ rule_bytes_fault before behind →
    expanded_sides macros before behind ≡ Ok (first, second) → rule_words macros before behind
    ≡ rule_of_sides (is_grouped before) first second
line_words macros before behind first second none h =
    let o = expansion_fault (rule_expansion macros before behind) in
    let sides : List ℕ × List ℕ = ((expanded_by macros (before_mark before)).bytes, (expanded_by macros behind).bytes) in
    let words = rule_words_fault (is_grouped before) (words_of sides.0) (words_of sides.1) in
    let made : RuleWords = record { is_group = is_grouped before; targets = words_of sides.0; prerequisites = words_of sides.1 }
    in
    let fine = no_cause o sides (first, second) (sym h) in
    ap (λ (b : Option MakeCause). or_cause (cause_or b (cause_or o words)) made) (sym none)
    ∙ ap (λ (p : Option MakeCause). or_cause (cause_or p words) made) fine.0
    ∙ ap (λ (x : List ℕ × List ℕ). rule_of_sides (is_grouped before) x.0 x.1) (sym fine.1)

-- ---- what is said after `.SUFFIXES`

first_none : (one other : Option MakeCause) → cause_or one other ≡ None → (one ≡ None) × (other ≡ None)
first_none None other h = (refl, h)
first_none (Some cause) other h = absurd (cc)

not_so : (b : Bool) (cause : MakeCause) → cause_where b cause ≡ None → b ≡ false
not_so false cause h = refl
not_so true cause h = absurd (cc)

implied : (a b : Bool) → (a && not b) ≡ false → a ≡ true → b ≡ true
implied a true h is = refl
implied true false h is = absurd (cc)
implied false false h is = absurd (cc)

-- the words of a rule line that was read are suffixes after `.SUFFIXES`
pub words_said : (macros : List Macro) (before behind : List ℕ) (words : RuleWords) →
    rule_words macros before behind ≡ Ok words → AreSaid words
words_said macros before behind words h =
    let targets = words_of (expanded_by macros (before_mark before)).bytes in
    let prerequisites = words_of (expanded_by macros behind).bytes in
    let read : RuleWords = record { is_group = is_grouped before; targets = targets; prerequisites = prerequisites } in
    let none = no_cause (rule_fault macros before behind) read words (sym h) in
    let expanded = (first_none (rule_bytes_fault before behind) _ none.0).1 in
    let worded = (first_none (expansion_fault (rule_expansion macros before behind)) _ expanded).1 in
    let line = (first_none (line_words_fault (is_grouped before) targets prerequisites) _ worded).0 in
    let last = (or_parts _ (is_among targets suffixes_name && not (list_all is_suffix prerequisites))
    (not_so _ BadLine line)).1 in
    subst (λ (w : RuleWords). AreSaid w) (sym none.1)
    (λ named. implied (is_among targets suffixes_name) (list_all is_suffix prerequisites) last named)
