-- Masters in turn, versions by number and branches by name, worked out by hand.
use Rattle.std.proofs.Common.{◌≡◌, ℕ, true, false, List, [], ◌∷◌, refl}
use Rattle.std.specs.Prelude.{codes}
use Rattle.std.specs.declared.cmp.Ordering.TheVariants.{Less, Greater}
use Rattle.vob_replica.specs.declared.events.Identity.{Identity}
use Rattle.vob_replica.specs.declared.operations.Operation.{Operation}
use Rattle.vob_replica.specs.declared.operations.SiteDeed.TheVariants as deeds
use Rattle.vob_replica.specs.Branches.{is_number_below, count_passing, version_place, has_number_at}
use Rattle.vob_replica.specs.BranchNames.{name_order, is_named}
use Rattle.vob_replica.specs.Masters.{follows_last, is_chain}
use Rattle.vob_replica.specs.Trees.{Tree, VersionMade}

abbrev a1 : Identity
a1 = record { site = codes "a"; number = 1 }

abbrev a2 : Identity
a2 = record { site = codes "a"; number = 2 }

abbrev b1 : Identity
b1 = record { site = codes "b"; number = 1 }

-- the mastership of a:1 is given away
abbrev gives : Identity → List Identity → List ℕ → Operation
gives own needs to = record { identity = own; needs = needs; deed = deeds.Master a1 to }

-- by its maker, and then by who has it
abbrev first : Operation
first = gives a2 (a1 ∷ []) (codes "b")

abbrev second : Operation
second = gives b1 (a2 ∷ []) (codes "c")

-- by one that does not know of the first
abbrev apart : Operation
apart = gives b1 (a1 ∷ []) (codes "c")

in_turn : is_chain (first ∷ second ∷ []) ≡ true
in_turn = refl

turned_round : is_chain (second ∷ first ∷ []) ≡ false
turned_round = refl

not_known : is_chain (first ∷ apart ∷ []) ≡ false
not_known = refl

first_of_all : follows_last [] apart ≡ true
first_of_all = refl

abbrev version : ℕ → VersionMade
version number = record { number = number; identity = a2; word = codes "w" }

abbrev versions : List VersionMade
versions = version 1 ∷ version 2 ∷ version 2 ∷ version 4 ∷ []

lower_ones : count_passing (is_number_below 2) versions ≡ 1
lower_ones = refl

behind_equals : version_place 2 versions ≡ 3
behind_equals = refl

is_there : has_number_at versions 1 2 ≡ true
is_there = refl

is_missing : has_number_at versions 3 3 ≡ false
is_missing = refl

abbrev tree : Identity → List ℕ → Tree
tree identity name = record { identity = identity; element = a1; name = name; masters = []; versions = [] }

by_element_and_name : is_named a1 (codes "fix") (tree a2 (codes "fix")) ≡ true
by_element_and_name = refl

other_name : is_named a1 (codes "main") (tree a2 (codes "fix")) ≡ false
other_name = refl

other_element : is_named b1 (codes "fix") (tree a2 (codes "fix")) ≡ false
other_element = refl

-- names stand by element, then in byte order
by_name : name_order (record { element = a1; name = codes "main" }) (record { element = a1; name = codes "fix" }) ≡ Greater
by_name = refl

by_element : name_order (record { element = a1; name = codes "main" }) (record { element = a2; name = codes "fix" }) ≡ Less
by_element = refl
