-- Pieces that are written one after the other.
use Rattle.std.proofs.Common.{◌≡◌, ℕ, List, ◌++◌}
use Rattle.cc_names.proofs.Common.{appended_twice}

pub two_more : (old p q r a b c : List ℕ) → a ≡ old ++ p → b ≡ a ++ q → c ≡ b ++ r → c ≡ old ++ (p ++ (q ++ r))
two_more old p q r a b c a_is b_is c_is = appended_twice old p (q ++ r) a c a_is (appended_twice a q r b c b_is c_is)

pub three_more : (old p q r s a b c d : List ℕ) → a ≡ old ++ p → b ≡ a ++ q → c ≡ b ++ r → d ≡ c ++ s
    → d ≡ old ++ (p ++ (q ++ (r ++ s)))
three_more old p q r s a b c d a_is b_is c_is d_is =
    appended_twice old p (q ++ (r ++ s)) a d a_is (two_more a q r s b c d b_is c_is d_is)
