-- What single words of a text of sites say.
use Rattle.std.specs.Prelude.{ℕ, ◌+◌, Bool, ◌&&◌, ◌==◌, nat_le, Option, Some, None, Result, Ok, Err, List, take, drop}
use Rattle.std.specs.Prelude.{if◌then◌else◌}
use Rattle.std.specs.List.{list_all, position}
use Rattle.cc_names.specs.Numbers.{number_of}
use Rattle.cc_names.specs.TypeNames.{type_name_of}
use Rattle.vob_replica.specs.declared.events.Identity.{Identity}
use Rattle.vob_replica.specs.declared.events.SiteCause.{SiteCause}
use Rattle.vob_replica.specs.declared.events.SiteCause.TheVariants.{BadWord}

-- what words say, or why they cannot be read
abbrev pub Said : Type 0 → Type 0
Said X = Result X SiteCause

-- what was read, where something was; else the word is bad
abbrev pub or_bad : {X : Type 0} → Option X → Said X
or_bad (Some x) = Ok x
or_bad None = Err BadWord

-- two readings, where both gave something; else the first cause
abbrev pub both : {X Y : Type 0} → Said X → Said Y → Said (X × Y)
both (Err cause) y = Err cause
both (Ok x) (Err cause) = Err cause
both (Ok x) (Ok y) = Ok (x, y)

-- what was read, made into something else
abbrev pub says : {X Y : Type 0} → (X → Y) → Said X → Said Y
says make (Ok x) = Ok (make x)
says make (Err cause) = Err cause

-- the name of a site, a packet or a branch: a name that begins with a letter
abbrev pub replica_name_word : List ℕ → Said (List ℕ)
replica_name_word word = or_bad (type_name_of word)

-- a number in decimal digits without leading zeros, below 2^64
abbrev pub number_word : List ℕ → Said ℕ
number_word word = or_bad (number_of word)

-- a `:`
abbrev pub is_colon : ℕ → Bool
is_colon b = b == 58

-- an identity, by the place of the first `:`
abbrev pub identity_by : List ℕ → Option ℕ → Said Identity
identity_by word None = Err BadWord
identity_by word (Some place) =
    says (λ at. record { site = at.0; number = at.1 }) (both (replica_name_word (take place word))
    (number_word (drop (place + 1) word)))

-- an identity, SITE:NUMBER
abbrev pub identity_word : List ℕ → Said Identity
identity_word word = identity_by word (position is_colon word)

-- a byte of a word, from `!` to `~`
abbrev pub is_word_byte : ℕ → Bool
is_word_byte b = nat_le 33 b && nat_le b 126

-- any word
abbrev pub text_word : List ℕ → Said (List ℕ)
text_word word = if list_all is_word_byte word then Ok word else Err BadWord
