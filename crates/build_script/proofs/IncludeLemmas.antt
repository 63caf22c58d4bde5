-- How include lines are looked for and how `pp` goes on.
use Rattle.std.proofs.Common.{◌≡◌, ℕ, zero, suc, ◌+◌, ◌-◌, ◌<◌, Some, None, false, Result, Ok, Err}
use Rattle.std.proofs.Common.{List, [], ◌∷◌, ◌++◌, length, map, drop, reverse, refl, ap, sym, ◌∙◌, arith, length-append}
use Rattle.std.proofs.lemmas.List.{map-append, reverse-append, length-reverse, length-map}
use Rattle.std.proofs.lemmas.Bool.{lt-ltb}
use Rattle.cc_names.specs.declared.refusals.ScriptFault.{ScriptFault}
use Rattle.script_grammar.specs.Forms.{lines_in}
use Rattle.cc_names.specs.Paths.{is_root}
use Rattle.script_grammar.specs.Includes.{include_of, under}
use Rattle.script_grammar.specs.Lines.{path_in}
use Rattle.build_script.specs.Making.{includes, resumed_making}
use Rattle.build_script.specs.OpenTexts.{rest_of, rests_of}
use Rattle.script_grammar.specs.Run.{Asking, Done, and_then, unless_fault, Made, Preprocessing, preprocessed_text}
use Rattle.script_grammar.specs.Run.{lines_expanded, with_output, depth_limit}
use Rattle.build_script.specs.declared.open_texts.OpenText.{OpenText}
use Rattle.script_grammar.proofs.CarriedLemmas.{and_then-assoc}

-- too many bytes are no path
too_long : (bytes : List ℕ) → 1024 < length bytes → path_in bytes ≡ None
too_long [] h = absurd (omega arith)
too_long (b ∷ bytes) h = rw (lt-ltb 1024 (length (b ∷ bytes)) h) refl

-- and so there is no such path under a directory
pub under_too_long : (path directory : List ℕ) → is_root directory ≡ false → 1024 < length directory + 1 + length path
    → under path directory ≡ None
under_too_long path directory below h =
    rw below (too_long (directory ++ 47 ∷ path) (omega (arith, length-append directory (47 ∷ path))))

-- `pp` at so many levels, by what an include line comes to there
pub preprocessed_text-lines : (levels : ℕ) (pp : Preprocessing) (text : List ℕ)
    → preprocessed_text levels pp text ≡ lines_expanded (includes levels pp) pp.output (lines_in text)
preprocessed_text-lines zero pp text = refl
preprocessed_text-lines (suc levels) pp text = refl

-- what is said or included after a stack of texts
resumed_making-lines : (pp : Preprocessing) (rest : List ℕ) (below : List (List ℕ)) (made : Made) →
    resumed_making pp (rest ∷ below) made ≡ and_then (lines_expanded (includes (depth_limit - length below) pp) pp.output
    (lines_in rest) made) (unless_fault (resumed_making pp below))
resumed_making-lines pp rest below made = ap (λ (f : Made → Asking (Result Made ScriptFault)). and_then (f made)
    (unless_fault (resumed_making pp below))) (preprocessed_text-lines (depth_limit - length below) pp rest)

pub resumed_making-empty : (pp : Preprocessing) (rest : List ℕ) (below : List (List ℕ)) (made : Made) → rest ≡ []
    → resumed_making pp (rest ∷ below) made ≡ resumed_making pp below made
resumed_making-empty pp rest below made e = resumed_making-lines pp rest below made ∙ rw e refl

pub resumed_making-with_output : (pp : Preprocessing) (rest line behind : List ℕ) (below : List (List ℕ)) (made made' : Made) →
    lines_in rest ≡ line ∷ lines_in behind → include_of line ≡ None → with_output pp.output line made ≡ Ok made'
    → resumed_making pp (rest ∷ below) made ≡ resumed_making pp (behind ∷ below) made'
resumed_making-with_output pp rest line behind below made made' lines plain says =
    resumed_making-lines pp rest below made ∙ rw lines (rw plain (rw says (sym (resumed_making-lines pp behind below made'))))

pub resumed_making-unsaid : (pp : Preprocessing) (rest line behind : List ℕ) (below : List (List ℕ)) (made : Made)
    (fault : ScriptFault) →
    lines_in rest ≡ line ∷ lines_in behind → include_of line ≡ None → with_output pp.output line made ≡ Err fault
    → resumed_making pp (rest ∷ below) made ≡ Done (Err fault)
resumed_making-unsaid pp rest line behind below made fault lines plain says = resumed_making-lines pp rest below made
    ∙ rw lines (rw plain (rw says refl))

pub resumed_making-included_text : (pp : Preprocessing) (rest line behind path : List ℕ) (below : List (List ℕ)) (made : Made) →
    lines_in rest ≡ line ∷ lines_in behind → include_of line ≡ Some path →
    resumed_making pp (rest ∷ below) made ≡ and_then (includes (depth_limit - length below) pp path made)
    (unless_fault (resumed_making pp (behind ∷ below)))
resumed_making-included_text pp rest line behind path below made lines is =
    resumed_making-lines pp rest below made ∙ rw lines (rw is
    (and_then-assoc (includes (depth_limit - length below) pp path made)
    (lines_expanded (includes (depth_limit - length below) pp) pp.output (lines_in behind)) (resumed_making pp below)
    ∙ ap (λ (f : Made → Asking (Result Made ScriptFault)). and_then (includes (depth_limit - length below) pp path made)
    (unless_fault f)) (λ i made. sym (resumed_making-lines pp behind below made) i)))

-- what is after a line
pub lines_behind : (rest line behind past : List ℕ) → lines_in rest ≡ line ∷ lines_in behind → rest ≡ line ++ behind
    → past ≡ drop (length line) rest → lines_in rest ≡ line ∷ lines_in past
lines_behind rest line behind past lines whole is =
    lines ∙ ap (λ (b : List ℕ). line ∷ lines_in b) (sym (is ∙ ap (drop (length line)) whole ∙ behind_prefix line behind))
  where
    behind_prefix : (prefix rest : List ℕ) → drop (length prefix) (prefix ++ rest) ≡ rest
    behind_prefix [] rest = refl
    behind_prefix (b ∷ prefix) rest = behind_prefix prefix rest

-- the texts that `pp` is inside of, with one more, and their number
pub rests_pushed : (opens : List OpenText) (opened : OpenText) → rests_of (opens ++ opened ∷ []) ≡ rest_of opened ∷ rests_of opens
rests_pushed opens opened = ap reverse (map-append rest_of opens (opened ∷ []))
    ∙ reverse-append (map rest_of opens) (rest_of opened ∷ [])

pub rests_length : (opens : List OpenText) → length (rests_of opens) ≡ length opens
rests_length opens = length-reverse (map rest_of opens) ∙ length-map opens rest_of
