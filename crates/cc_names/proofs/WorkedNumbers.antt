-- Numbers and names of types, read from bytes and checked by computation.
use Rattle.std.proofs.Common.{◌≡◌, Some, None, [], refl}
use Rattle.std.specs.Prelude.{codes}
use Rattle.cc_names.specs.Numbers.{number_of}
use Rattle.cc_names.specs.TypeNames.{type_name_of}

zero-read : number_of (codes "0") ≡ Some 0
zero-read = refl

digits-read : number_of (codes "1207") ≡ Some 1207
digits-read = refl

-- the last number of eight bytes, and the next one
last-read : number_of (codes "18446744073709551615") ≡ Some 18446744073709551615
last-read = refl

past_last : number_of (codes "18446744073709551616") ≡ None
past_last = refl

no_digits : number_of [] ≡ None
no_digits = refl

leading_zero : number_of (codes "01") ≡ None
leading_zero = refl

sign : number_of (codes "+1") ≡ None
sign = refl

type_read : type_name_of (codes "REL_1.0") ≡ Some (codes "REL_1.0")
type_read = refl

-- a name, but of no type
not_a_letter : type_name_of (codes "1.0") ≡ None
not_a_letter = refl

-- begins with a letter, but is no name
not_a_name : type_name_of (codes "a b") ≡ None
not_a_name = refl
