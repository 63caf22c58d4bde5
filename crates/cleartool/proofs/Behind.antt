-- Texts that are written one after the other, from the first on.
use Rattle.std.proofs.Common.{◌≡◌, ℕ, List, ◌++◌, append_assoc, ap, ◌∙◌}

pub three_behind : (a b c d : List ℕ) → ((a ++ b) ++ c) ++ d ≡ a ++ ((b ++ c) ++ d)
three_behind a b c d = ap (λ (x : List ℕ). x ++ d) (append_assoc a b c) ∙ append_assoc a (b ++ c) d

pub four_behind : (a b c d e : List ℕ) → (((a ++ b) ++ c) ++ d) ++ e ≡ a ++ (((b ++ c) ++ d) ++ e)
four_behind a b c d e = ap (λ (x : List ℕ). x ++ e) (three_behind a b c d) ∙ append_assoc a ((b ++ c) ++ d) e

pub five_behind : (a b c d e f : List ℕ) → ((((a ++ b) ++ c) ++ d) ++ e) ++ f ≡ a ++ ((((b ++ c) ++ d) ++ e) ++ f)
five_behind a b c d e f = ap (λ (x : List ℕ). x ++ f) (four_behind a b c d e) ∙ append_assoc a (((b ++ c) ++ d) ++ e) f
