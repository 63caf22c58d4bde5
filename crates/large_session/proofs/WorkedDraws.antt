-- Draws, worked out by computation: two of the seed 1, and the files of two sessions.
use Rattle.std.proofs.Common.{◌≡◌, ℕ, [], ◌∷◌, ◌^◌, ◌-◌, refl}
use Rattle.large_session.specs.declared.draws.SourceFile.{SourceFile}
use Rattle.large_session.specs.Draws.{next_state, draw_of, files_of}

abbrev file : ℕ → ℕ → ℕ → SourceFile
file number content joined = record { number = number; content = content; joined = joined }

the_first_state : next_state 1 ≡ 7806831264735756412
the_first_state = refl

the_first_draw : draw_of 7806831264735756412 ≡ 908834774
the_first_draw = refl

the_second_state : next_state 7806831264735756412 ≡ 9396908728118811419
the_second_state = refl

the_second_draw : draw_of 9396908728118811419 ≡ 1093944153
the_second_draw = refl

no_file : files_of 1 0 ≡ []
no_file = refl

one_file : files_of 1 1 ≡ file 1 774 1 ∷ []
one_file = refl

two_files : files_of 7 2 ≡ file 1 278 2 ∷ file 2 753 2 ∷ []
two_files = refl

-- the least and the greatest seed

of_seed_zero : files_of 0 3 ≡ file 1 807 1 ∷ file 2 937 2 ∷ file 3 125 3 ∷ []
of_seed_zero = refl

of_the_last_seed : files_of (2 ^ 64 - 1) 3 ≡ file 1 488 3 ∷ file 2 677 3 ∷ file 3 864 3 ∷ []
of_the_last_seed = refl
