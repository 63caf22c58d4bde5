-- A version's name, part by part.
use Rattle.std.proofs.Common.{◌≡◌, ◌≢◌, ℕ, ◌+◌, Some, None, List, [], ◌∷◌, length, take, drop, refl, ap, ◌∙◌, arith}
use Rattle.std.specs.List.{position, slice_split}
use Rattle.std.proofs.lemmas.List.Splits.{length-slice_split}
use Rattle.cc_names.specs.Answers.{FaultIs}
use Rattle.cc_names.specs.Paths.{is_slash}
use Rattle.cc_names.specs.declared.commands.VersionName.{VersionName}
use Rattle.cc_names.specs.declared.memory.Or.{Or}
use Rattle.cc_names.specs.declared.memory.Or.TheVariants.{NoMemory, Is}
use Rattle.cc_names.specs.declared.refusals.SessionCause.{SessionCause}
use Rattle.cc_names.proofs.Splits.{slice_split-at, slice_split-none}
use Rattle.session_text.specs.Words.{Said, type_word, with_branch, version_of_parts, version_behind_main}
use Rattle.cc_names.specs.Numbers.{number_of}

some_part : (bytes : List ℕ) → slice_split is_slash bytes ≢ []
some_part bytes e = let l : length (slice_split is_slash bytes) ≡ 0 = ap length e in let m = length-slice_split is_slash bytes in
    absurd (omega arith)

version_behind_main-branch : (branch : List ℕ) (parts branches : List (List ℕ)) → parts ≢ []
    → version_behind_main (branch ∷ parts) branches ≡ with_branch (version_behind_main parts) branches (type_word branch)
version_behind_main-branch branch [] branches h = absurd (h refl)
version_behind_main-branch branch (next ∷ parts) branches h = refl

-- up to the next slash there is the name of a branch
pub version_behind_main-next : (rest : List ℕ) (slash : ℕ) (branches : List (List ℕ)) → position is_slash rest ≡ Some slash
    → version_behind_main (slice_split is_slash rest) branches ≡ with_branch
    (version_behind_main (slice_split is_slash (drop (slash + 1) rest))) branches (type_word (take slash rest))
version_behind_main-next rest slash branches h =
    ap (λ v. version_behind_main v branches) (slice_split-at is_slash 0 rest slash h)
    ∙ version_behind_main-branch (take slash rest) (slice_split is_slash (drop (slash + 1) rest)) branches
    (some_part (drop (slash + 1) rest))

pub version_behind_main-last : (rest : List ℕ) (branches : List (List ℕ)) → position is_slash rest ≡ None
    → version_behind_main (slice_split is_slash rest) branches ≡ version_of_parts branches (number_of rest)
version_behind_main-last rest branches h = ap (λ v. version_behind_main v branches) (slice_split-none is_slash rest h)

-- a fault in the name of a branch is one of the version's name
pub fault-of_branch : (fault : Or SessionCause) (more : List (List ℕ) → Said VersionName) (branches : List (List ℕ))
    (branch : Said (List ℕ)) → FaultIs fault branch → FaultIs fault (with_branch more branches branch)
fault-of_branch NoMemory more branches branch h = tt
fault-of_branch (Is cause) more branches branch h = ap (λ v. with_branch more branches v) h

-- a fault stays where what it is of is the same
pub fault-along : {X : Type 0} (fault : Or SessionCause) (one other : Said X) → one ≡ other → FaultIs fault other
    → FaultIs fault one
fault-along NoMemory one other e h = tt
fault-along (Is cause) one other e h = e ∙ h
