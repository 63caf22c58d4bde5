-- Fields that are written one after the other.
use Rattle.std.proofs.Common.{◌≡◌, Result, OnOk, List, ℕ, ◌++◌, ◌∙◌, ap}
use Rattle.std.proofs.lemmas.List.{append_assoc}
use Rattle.std.proofs.lemmas.Result.{on_ok_weaker}
use Rattle.cc_names.proofs.Common.{appended_twice}

after_three : (old a b c d m n : List ℕ) → m ≡ old ++ (a ++ (b ++ c)) → n ≡ m ++ d → n ≡ old ++ (a ++ (b ++ (c ++ d)))
after_three old a b c d m n first second =
    appended_twice old (a ++ (b ++ c)) d m n first second ∙ ap (λ s. old ++ s) (append_assoc a (b ++ c) d
    ∙ ap (λ s. a ++ s) (append_assoc b c d))

-- The bytes before a row's fields, the first two of its fields, and what the last write answers.
module _ {T E : Type 0} (r : Result T E) (old a b : List ℕ) where
  -- these two were written together, and then others one by one
  pub then_three : (c m n : List ℕ) → m ≡ old ++ (a ++ b) → OnOk r (n ≡ m ++ c) → OnOk r (n ≡ old ++ (a ++ (b ++ c)))
  then_three c m n first second = on_ok_weaker r (λ h. appended_twice old (a ++ b) c m n first h
      ∙ ap (λ s. old ++ s) (append_assoc a b c)) second

  pub then_four : (c d m k n : List ℕ) → m ≡ old ++ (a ++ b) → k ≡ m ++ c → OnOk r (n ≡ k ++ d)
      → OnOk r (n ≡ old ++ (a ++ (b ++ (c ++ d))))
  then_four c d m k n first second third =
      on_ok_weaker r (λ h. appended_twice old (a ++ b) (c ++ d) m n first (appended_twice m c d k n second h)
      ∙ ap (λ s. old ++ s) (append_assoc a b (c ++ d))) third

  pub then_five : (c d e m k l n : List ℕ) → m ≡ old ++ (a ++ b) → k ≡ m ++ c → l ≡ k ++ d → OnOk r (n ≡ l ++ e)
      → OnOk r (n ≡ old ++ (a ++ (b ++ (c ++ (d ++ e)))))
  then_five c d e m k l n first second third fourth =
      on_ok_weaker r (λ h. appended_twice old (a ++ b) (c ++ (d ++ e)) m n first
      (appended_twice m c (d ++ e) k n second (appended_twice k d e l n third h))
      ∙ ap (λ s. old ++ s) (append_assoc a b (c ++ (d ++ e)))) fourth

  -- these two and a third were written together
  pub three_then_one : (c d m n : List ℕ) → m ≡ old ++ (a ++ (b ++ c)) → OnOk r (n ≡ m ++ d)
      → OnOk r (n ≡ old ++ (a ++ (b ++ (c ++ d))))
  three_then_one c d m n first second = on_ok_weaker r (after_three old a b c d m n first) second

  pub three_then_two : (c d e m k n : List ℕ) → m ≡ old ++ (a ++ (b ++ c)) → k ≡ m ++ d → OnOk r (n ≡ k ++ e)
      → OnOk r (n ≡ old ++ (a ++ (b ++ (c ++ (d ++ e)))))
  three_then_two c d e m k n first second third =
      on_ok_weaker r (λ h. after_three old a b c (d ++ e) m n first (appended_twice m d e k n second h)) third
