-- What follows from the cases of an option and of two tests.
use Rattle.std.proofs.Common.{◌≡◌, Some}

-- one thing is the other
pub some_same : {A : Type 0} (one other : A) → Some one ≡ Some other → one ≡ other
some_same one other e = cc
