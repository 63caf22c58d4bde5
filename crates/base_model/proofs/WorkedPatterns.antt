-- Patterns and paths worked out by hand, by computation.
use Rattle.std.specs.Prelude.{◌≡◌, refl, ℕ, Bool, true, false, List, [], ◌∷◌, Ok, Err, codes}
use Rattle.cc_names.specs.Paths.{names_of}
use Rattle.cc_names.specs.declared.refusals.SpecCause.TheVariants.{BadPattern}
use Rattle.base_model.specs.ConfigSpecs.Patterns.{matches, pattern_of}
use Rattle.cc_names.specs.declared.selection.Segment.TheVariants.{AnyNames, OneName}

-- whether the pattern that bytes spell matches the path
abbrev matched : List ℕ → List ℕ → Bool
matched bytes path = elim (pattern_of bytes) [ Ok pattern ↦ matches pattern (names_of path) | Err cause ↦ false ]

star_root : matched (codes "*") (codes ".") ≡ true
star_root = refl

star_path : matched (codes "*") (codes "a/b") ≡ true
star_path = refl

anchored_star : matched (codes "/*") (codes ".") ≡ false
anchored_star = refl

dots : matched (codes "/...") (codes ".") ≡ true
dots = refl

suffix : matched (codes "b.c") (codes "a/b.c") ≡ true
suffix = refl

inside_a_name : matched (codes "b.c") (codes "a/ab.c") ≡ false
inside_a_name = refl

anchored : matched (codes "/b.c") (codes "a/b.c") ≡ false
anchored = refl

below : matched (codes "/a/.../*.c") (codes "a/b/d/x.c") ≡ true
below = refl

bad : pattern_of (codes "a//b") ≡ Err BadPattern
bad = refl

spelled : pattern_of (codes "/a/...") ≡ Ok (record { anchored = true; segments = OneName (codes "a") ∷ AnyNames ∷ [] })
spelled = refl
