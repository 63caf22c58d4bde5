-- One object after the other is taken, from the newest on, and the entries of its record are taken in.
use Rattle.std.proofs.Common.{◌≡◌, ◌<◌, true, false, Option, None, List, [], ◌∷◌, ℕ, length, refl, ap, ap₂, sym, ◌∙◌, arith}
use Rattle.std.specs.BTreeMap.{get, is_at}
use Rattle.std.specs.Map.{lookup}
use Rattle.std.specs.Ordering.{nat_cmp}
use Rattle.std.specs.Prelude.{is_some}
use Rattle.base_rows.specs.Listings.{greater, greatest_of_all, greatest_of_entries}
use Rattle.base_rows.proofs.JoinedListings.{greater_none}
use Rattle.base_rows.proofs.LeftListings.{object_taken}
use Rattle.base_rows.proofs.RecordEntries.{walk_falls}
use Rattle.base_rows.proofs.listings.listing_of.Goals as goal

pub loop-versions-init : goal.loop-versions-init
loop-versions-init c = λ e.
    let b = c.args.rows.now in
    let all = greatest_of_entries b e c.args.entries.now in
    c.in_ok-put_entries.ensures.versions e
    ∙ ap₂ (λ (entries : List (ℕ × ℕ)) (ids : List ℕ).
    greater all (greater (lookup (is_at (nat_cmp e)) entries) (greatest_of_all b e ids)))
    c.new-versions.ensures.empty c.new-left.ensures.empty
    ∙ greater_none all

pub loop-versions-smaller : goal.loop-versions-smaller
loop-versions-smaller c =
    walk_falls c.args.rows.now c.in-Some.object c.loop-versions.left.keys c.pop_last.new.self.keys
    c.put_entries-in-Some.new.left.keys c.record_of-record.result.now c.size.ensures.base c.in-Some.ensures.removal
    c.in-Some.ensures.all_below c.record_of-record.ensures c.in_ok-put_entries-in-Some.ensures.above

pub loop-versions-preserved : goal.loop-versions-preserved
loop-versions-preserved c = λ e.
    let b = c.args.rows.now in
    object_taken b e c.in-Some.object c.loop-versions.left.keys c.pop_last.new.self.keys c.put_entries-in-Some.new.left.keys
    c.record_of-record.result.now (get nat_cmp c.loop-versions.versions e) (get nat_cmp c.put_entries-in-Some.new.versions e)
    (greatest_of_entries b e c.args.entries.now) c.size.ensures.base c.in-Some.ensures.removal c.record_of-record.ensures
    (c.in_ok-put_entries-in-Some.ensures.versions e) (c.loop-versions.invariant e)

no_more : (ids : List ℕ) (popped : Option ℕ) → popped ≡ None → (0 < length ids → is_some popped ≡ true) → ids ≡ []
no_more [] popped none some = refl
no_more (id ∷ ids) popped none some =
    let there : is_some popped ≡ true = some (omega arith) in
    let missing : is_some popped ≡ false = ap is_some none in
    absurd (cc)

pub returns-in-None : goal.returns-in-None
returns-in-None c = λ e.
    let b = c.args.rows.now in
    let version = get nat_cmp c.loop-versions.versions e in
    let none : c.loop-versions.left.keys ≡ [] =
    no_more c.loop-versions.left.keys c.pop_last.result c.in-None.is c.pop_last.ensures.variant.1 in
    sym (ap (λ (ids : List ℕ). greater version (greatest_of_all b e ids)) none ∙ greater_none version)
    ∙ c.loop-versions.invariant e
