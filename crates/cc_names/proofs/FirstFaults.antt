-- The first fault of a path, name by name.
use Rattle.std.proofs.Common.{◌≡◌, ℕ, ◌+◌, ◌<◌, true, false, Option, Some, None, is_some, List, length, take, drop, refl, ap}
use Rattle.std.proofs.Common.{◌∙◌, arith}
use Rattle.std.specs.List.{position, slice_split}
use Rattle.std.proofs.lemmas.List.{length-take}
use Rattle.cc_names.specs.Names.{fault_at}
use Rattle.cc_names.specs.Paths.{fault_or, first_fault, is_slash}
use Rattle.cc_names.specs.declared.names.NameFault.{NameFault}
use Rattle.cc_names.proofs.Splits.{slice_split-at, slice_split-none}

fault_or-some : (fault later : Option NameFault) → is_some fault ≡ true → fault_or fault later ≡ fault
fault_or-some (Some fault) later h = refl
fault_or-some None later h = cc

fault_or-none : (fault later : Option NameFault) → is_some fault ≡ false → fault_or fault later ≡ later
fault_or-none (Some fault) later h = cc
fault_or-none None later h = refl

fault_or-alone : (fault : Option NameFault) → fault_or fault None ≡ fault
fault_or-alone (Some fault) = refl
fault_or-alone None = refl

-- the name before the first slash has a fault, and it is the first
pub first_fault-found : (place : ℕ) (rest : List ℕ) (i : ℕ) → position is_slash rest ≡ Some i
    → is_some (fault_at place (take i rest)) ≡ true → first_fault place (slice_split is_slash rest) ≡ fault_at place (take i rest)
first_fault-found place rest i h fault =
    ap (first_fault place) (slice_split-at is_slash 0 rest i h) ∙ fault_or-some _ _ fault

-- the name before the first slash has none, and the search goes on after the slash
pub first_fault-passed : (place : ℕ) (rest : List ℕ) (i : ℕ) → position is_slash rest ≡ Some i → i < length rest
    → is_some (fault_at place (take i rest)) ≡ false → first_fault place (slice_split is_slash rest)
    ≡ first_fault (place + (i + 1)) (slice_split is_slash (drop (i + 1) rest))
first_fault-passed place rest i h inside fault =
    let next : place + length (take i rest) + 1 ≡ place + (i + 1) = omega (arith, length-take i rest) in
    ap (first_fault place) (slice_split-at is_slash 0 rest i h)
    ∙ fault_or-none _ _ fault
    ∙ ap (λ n. first_fault n (slice_split is_slash (drop (i + 1) rest))) next

-- after the last slash stands one name
pub first_fault-last : (place : ℕ) (rest : List ℕ) → position is_slash rest ≡ None
    → first_fault place (slice_split is_slash rest) ≡ fault_at place rest
first_fault-last place rest h =
    ap (first_fault place) (slice_split-none is_slash rest h) ∙ fault_or-alone (fault_at place rest)
