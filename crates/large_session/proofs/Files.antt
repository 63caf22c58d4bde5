-- The files that are drawn stand before those that are still to be drawn.
use Rattle.std.proofs.Common.{◌≡◌, ℕ, suc, ◌+◌, ◌-◌, ◌<◌, ◌≤◌, List, [], ◌∷◌, ◌++◌, sym, ◌∙◌, arith}
use Rattle.std.proofs.lemmas.List.{append_assoc, append-nil}
use Rattle.large_session.specs.declared.draws.SourceFile.{SourceFile}
use Rattle.large_session.specs.Draws.{next_state, drawn_file, files_from}

-- one file is drawn
pub one_more : (size index x state : ℕ) (file : SourceFile) (files more whole : List SourceFile) → index < size
    → file ≡ drawn_file size (index + 1) x → more ≡ files ++ file ∷ [] → state ≡ next_state (next_state x)
    → files ++ files_from size (index + 1) x (size - index) ≡ whole
    → more ++ files_from size (index + 1 + 1) state (size - (index + 1)) ≡ whole
one_more size index x state file files more whole below file_is more_is state_is h =
    let left : size - index ≡ suc (size - (index + 1)) = omega arith in
    let before = rw left at h in
    rw (more_is, state_is, file_is, append_assoc) before

-- none is left
pub all_drawn : (size index x : ℕ) (files whole : List SourceFile) → size ≤ index
    → files ++ files_from size (index + 1) x (size - index) ≡ whole → files ≡ whole
all_drawn size index x files whole past h =
    let none : size - index ≡ 0 = omega arith in
    let before = rw none at h in
    sym (append-nil files) ∙ before
