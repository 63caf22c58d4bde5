-- Where a text ends with some bytes.
use Rattle.std.proofs.Common.{◌≡◌, ◌∙◌, ℕ, ◌+◌, ◌-◌, ◌≤◌, List, drop, length, sym, ap, arith, drop-drop, length-drop}
use Rattle.session_text.specs.Reading.{IsTextEnd}

none_less : (n : ℕ) → n - n ≡ 0
none_less n = omega arith

-- a text ends with itself
pub end-all : (text : List ℕ) → IsTextEnd text text
end-all text = record { within = omega arith; same = ap (λ n. drop n text) (sym (none_less (length text))) }

-- and with what its end ends with
pub end-behind : (text bytes rest : List ℕ) → IsTextEnd bytes text → IsTextEnd rest bytes → IsTextEnd rest text
end-behind text bytes rest a b = record {
  within = omega (arith, a.within, b.within);
  same =
      b.same ∙ ap (λ v. drop (length bytes - length rest) v) a.same
      ∙ drop-drop (length bytes - length rest) (length text - length bytes) text
      ∙ ap (λ n. drop n text) (meets (length text) (length bytes) (length rest) a.within b.within);
}
  where
    meets : (t b r : ℕ) → b ≤ t → r ≤ b → t - b + (b - r) ≡ t - r
    meets t b r h k = omega arith

-- and with what stands from a place on
pub end-from : (text : List ℕ) (from : ℕ) → from ≤ length text → IsTextEnd (drop from text) text
end-from text from h =
    let len = length-drop from text in
    record {
      within = omega arith;
      same = ap (λ n. drop n text) (let e : from
          ≡ length text - length (drop from text) = omega arith in e);
    }
