-- The large sessions of the seed 1 and the size 1, and of the seed 7 and the size 2, written out line by line from the rule.
use Rattle.std.proofs.Common.{◌≡◌, [], ◌∷◌, ◌++◌, refl}
use Rattle.std.specs.Prelude.{codes}
use Rattle.std.specs.Fmt.{digits}
use Rattle.large_session.specs.LargeSession.{lines, made, making, large_session}

the_smallest : large_session 1 1 ≡ lines (
    codes "phase" ∷ codes "lane a" ∷ codes "mkview v0" ∷ codes "checkout v0 ." ∷ codes "mkelem v0 Makefile" ∷
    codes "save v0 Makefile" ∷ codes "|all: o1" ∷ codes "|o1: s1 s1" ∷ (codes "|" ++ 9 ∷ codes "cat s1 s1 > o1") ∷
    codes "checkin v0 Makefile" ∷ codes "mkelem v0 s1" ∷ codes "save v0 s1" ∷ codes "|w774" ∷
    codes "checkin v0 s1" ∷ codes "checkin v0 ." ∷ codes "mkview v1" ∷ codes "mkview v2" ∷ codes "mkview v3" ∷
    codes "mkview v4" ∷ codes "mkview v5" ∷ codes "mkview v6" ∷ codes "mkview v7" ∷ codes "phase" ∷
    codes "lane b1" ∷ codes "clearmake v1 -J 4" ∷ codes "lane b2" ∷ codes "clearmake v2 -J 4" ∷ codes "lane b3" ∷
    codes "clearmake v3 -J 4" ∷ codes "lane b4" ∷ codes "clearmake v4 -J 4" ∷ codes "lane b5" ∷
    codes "clearmake v5 -J 4" ∷ codes "lane b6" ∷ codes "clearmake v6 -J 4" ∷ codes "lane b7" ∷
    codes "clearmake v7 -J 4" ∷ codes "phase" ∷ codes "lane a" ∷ codes "checkout v0 s1" ∷ codes "save v0 s1" ∷
    codes "|changed" ∷ codes "checkin v0 s1" ∷ codes "clearmake v1" ∷ [])
unfolding digits made making
the_smallest = refl

two_files : large_session 7 2 ≡ lines (
    codes "phase" ∷ codes "lane a" ∷ codes "mkview v0" ∷ codes "checkout v0 ." ∷ codes "mkelem v0 Makefile" ∷
    codes "save v0 Makefile" ∷ codes "|all: o1 o2" ∷ codes "|o1: s1 s2" ∷
    (codes "|" ++ 9 ∷ codes "cat s1 s2 > o1") ∷ codes "|o2: s2 s2" ∷ (codes "|" ++ 9 ∷ codes "cat s2 s2 > o2") ∷
    codes "checkin v0 Makefile" ∷ codes "mkelem v0 s1" ∷ codes "save v0 s1" ∷ codes "|w278" ∷
    codes "checkin v0 s1" ∷ codes "mkelem v0 s2" ∷ codes "save v0 s2" ∷ codes "|w753" ∷ codes "checkin v0 s2" ∷
    codes "checkin v0 ." ∷ codes "mkview v1" ∷ codes "mkview v2" ∷ codes "mkview v3" ∷ codes "mkview v4" ∷
    codes "mkview v5" ∷ codes "mkview v6" ∷ codes "mkview v7" ∷ codes "phase" ∷ codes "lane b1" ∷
    codes "clearmake v1 -J 4" ∷ codes "lane b2" ∷ codes "clearmake v2 -J 4" ∷ codes "lane b3" ∷
    codes "clearmake v3 -J 4" ∷ codes "lane b4" ∷ codes "clearmake v4 -J 4" ∷ codes "lane b5" ∷
    codes "clearmake v5 -J 4" ∷ codes "lane b6" ∷ codes "clearmake v6 -J 4" ∷ codes "lane b7" ∷
    codes "clearmake v7 -J 4" ∷ codes "phase" ∷ codes "lane a" ∷ codes "checkout v0 s1" ∷ codes "save v0 s1" ∷
    codes "|changed" ∷ codes "checkin v0 s1" ∷ codes "clearmake v1" ∷ [])
unfolding digits made making
two_files = refl
