-- What commands name, and the lanes in which they stand.
use Rattle.std.specs.Prelude.{ℕ, zero, suc, Option, None, List, [], slice_get}
use Rattle.cc_names.specs.declared.commands.Change.{Change}
use Rattle.cc_names.specs.declared.commands.Change.TheVariants as changes
use Rattle.cc_names.specs.declared.commands.Lane.{Lane}
use Rattle.cc_names.specs.declared.commands.Phase.{Phase}

-- the view in which a change is made; no bytes where it names none
abbrev pub view_of : Change → List ℕ
view_of (changes.Mkview view) = view
view_of (changes.Rmview view force) = view
view_of (changes.Setcs view text) = view
view_of (changes.Mkelem view nco path) = view
view_of (changes.Mkdir view nco path) = view
view_of (changes.Checkout view unreserved path) = view
view_of (changes.Mkbranch view nco branch path) = view
view_of (changes.Save view path text) = view
view_of (changes.Rm view path) = view
view_of (changes.Checkin view identical path) = view
view_of (changes.Uncheckout view path) = view
view_of (changes.Rmname view path) = view
view_of (changes.Mv view path name) = view
view_of (changes.Mklbtype name) = []
view_of (changes.Mkbrtype name) = []
view_of (changes.Mklabel view replace label path) = view
view_of (changes.MklabelConfig view replace path label) = view
view_of (changes.Rmlabel view label path) = view
view_of (changes.Mkarrow view path version) = view
view_of (changes.Rmdo view path) = view
view_of (changes.Scrub age) = []

-- the lane of this number, counted from 1
abbrev pub lane_at : Phase → ℕ → Option Lane
lane_at phase zero = None
lane_at phase (suc n) = slice_get phase.lanes n
