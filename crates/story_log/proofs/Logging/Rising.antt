-- Counts that rise.
use Rattle.std.proofs.Common.{◌≡◌, ℕ, ◌-◌, ◌<◌, ◌≤◌, ◌^◌, ◌==◌, ◌&&◌, ◌||◌, nat_lt, Bool, true, false, refl, ap, ap₂, ◌∙◌, arith}
use Rattle.std.proofs.lemmas.Bool.Decides.{nat_tests}
use Rattle.disk_model.specs.Counting.{next_count}
use Rattle.cc_names.specs.Counts.{rises}

-- a greater count rose
pub rises_more : (before now : ℕ) → before < now → rises before now ≡ true
rises_more before now e =
    let less : nat_lt before now ≡ true = grind (arith, nat_tests) in
    ap (λ b. b || ((before == 2 ^ 64 - 1) && (now == 2 ^ 64 - 1))) less

-- a count that stands at its last number
rises_last : (before now : ℕ) → before ≡ 2 ^ 64 - 1 → now ≡ 2 ^ 64 - 1 → rises before now ≡ true
rises_last before now a b =
    let past : nat_lt before now ≡ false = grind (arith, nat_tests) in
    let one : (before == 2 ^ 64 - 1) ≡ true = grind (arith, nat_tests) in
    let two : (now == 2 ^ 64 - 1) ≡ true = grind (arith, nat_tests) in
    ap₂ (λ c d. nat_lt before now || (c && d)) one two ∙ ap (λ b. b || true) past

-- a count that was raised, and what it was at most before
pub rises_raised : (before old now : ℕ) → before ≤ old → old < 2 ^ 64 → next_count old ≤ now → now < 2 ^ 64
    → rises before now ≡ true
rises_raised before old now less small rose within = by (nat_lt before now) refl
  where
    by : (is : Bool) → nat_lt before now ≡ is → rises before now ≡ true
    by true is = ap (λ b. b || ((before == 2 ^ 64 - 1) && (now == 2 ^ 64 - 1))) is
    by false is =
        let past : now ≤ before = grind (arith, nat_tests) in
        rises_last before now (omega (arith, past, rose, less, small, within)) (omega (arith, past, rose, less, small, within))
