-- Deeds that have the form of a row, one of each, and deeds that a rule keeps out.
use Rattle.std.proofs.Common.{◌≡◌, ◌≤◌, true, false, Some, None, [], ◌∷◌, refl, lit<, lit≤, arith}
use Rattle.std.specs.Prelude.{codes}
use Rattle.std.specs.List.{IsDistinct}
use Rattle.std.specs.List.Sorted.{IsStrictlySortedBy}
use Rattle.std.specs.Ordering.{nat_cmp}
use Rattle.std.specs.declared.cmp.Ordering.TheVariants.{Less}
use Rattle.std.specs.Cmp.Lexicographic.{slice_cmp}
use Rattle.cc_names.specs.Names.{IsName}
use Rattle.cc_names.specs.Formed.{IsTypeName, IsBelowRoot, AreEntries, AreTargets, IsDeedFormed, IsFormed}
use Rattle.cc_names.specs.declared.names.NameFault.TheVariants.{Empty}
use Rattle.cc_names.specs.declared.rows.Stored.TheVariants.{Here, There}
use Rattle.cc_names.specs.declared.rows.Kind.TheVariants.{File}
use Rattle.cc_names.specs.declared.rows.TypeKind.TheVariants as types
use Rattle.cc_names.specs.declared.rows.Out.TheVariants.{Reserved}
use Rattle.cc_names.specs.declared.rows.Deed.TheVariants as deeds

v : IsName (codes "v")
v = record { no_fault = refl }

in-a : IsBelowRoot (codes "in")
in-a = (record { no_fault = refl }, refl)

out-a : IsBelowRoot (codes "lib/out")
out-a = (record { no_fault = refl }, refl)

fix : IsTypeName (codes "fix")
fix = (record { no_fault = refl }, refl)

entries : AreEntries (record { path = codes "in"; row = 3 } ∷ record { path = codes "lib/out"; row = 0 } ∷ [])
unfolding IsStrictlySortedBy
entries = ((lit< tt, ((in-a, lit< tt), ((out-a, lit< tt), tt))), ((refl, tt), (tt, tt)))

targets : AreTargets (codes "in" ∷ codes "lib/out" ∷ [])
unfolding IsDistinct
targets = ((lit< tt, (in-a, (out-a, tt))), (λ e. cc), ((refl, tt), (tt, tt)))

mkview : IsDeedFormed (deeds.Mkview (codes "v"))
mkview = v

rmview : IsDeedFormed (deeds.Rmview (codes "v"))
rmview = v

setcs : IsDeedFormed (deeds.Setcs (codes "v") (codes "element * CHECKEDOUT"))
setcs = (v, lit< tt)

mkelem : IsDeedFormed (deeds.Mkelem (codes "v") 0 (codes "a.c") File true)
mkelem = (v, lit< tt, record { no_fault = refl })

checkout : IsDeedFormed (deeds.Checkout (codes "v") 0 0 true)
checkout = (v, lit< tt, lit< tt)

branch : IsDeedFormed (deeds.Branch (codes "v") 4 4 (codes "fix") Reserved)
branch = (v, lit< tt, lit< tt, fix)

save : IsDeedFormed (deeds.Save (codes "v") 4 [])
save = (v, lit< tt, lit< tt)

checkin : IsDeedFormed (deeds.Checkin (codes "v") 18446744073709551615)
checkin = (v, lit< tt)

uncheckout : IsDeedFormed (deeds.Uncheckout (codes "v") 4)
uncheckout = (v, lit< tt)

rmname : IsDeedFormed (deeds.Rmname (codes "v") 0 (codes "a.c"))
rmname = (v, lit< tt, record { no_fault = refl })

mv : IsDeedFormed (deeds.Mv (codes "v") 0 (codes "a.c") (codes "b.c"))
mv = (v, lit< tt, record { no_fault = refl }, record { no_fault = refl })

put : IsDeedFormed (deeds.Put (codes "v") (codes "lib/out") (codes "hi"))
put = (v, out-a, lit< tt)

rm : IsDeedFormed (deeds.Rm (codes "v") (codes "in"))
rm = (v, in-a)

mktype : IsDeedFormed (deeds.Mktype types.Branch (codes "fix"))
mktype = fix

label : IsDeedFormed (deeds.Label (codes "fix") 4 9)
label = (fix, lit< tt, lit< tt)

unlabel : IsDeedFormed (deeds.Unlabel (codes "fix") 4)
unlabel = (fix, lit< tt)

publish : IsDeedFormed (deeds.Publish (codes "v") (codes "in" ∷ codes "lib/out" ∷ []) (codes "fail")
    (record { path = codes "in"; row = 3 } ∷ record { path = codes "lib/out"; row = 0 } ∷ []) (codes "hi" ∷ [] ∷ []))
publish = ((v, targets, lit< tt, entries, refl), (lit< tt, (lit< tt, (lit< tt, tt))))

wink : IsDeedFormed (deeds.Wink (codes "v") 9)
wink = (v, lit< tt)

drop : IsDeedFormed (deeds.Drop (codes "v") (codes "in"))
drop = (v, in-a)

scrub : IsDeedFormed (deeds.Scrub (4 ∷ 9 ∷ []))
unfolding IsStrictlySortedBy
scrub = ((lit< tt, (lit< tt, (lit< tt, tt))), (λ e. cc), ((refl, tt), (tt, tt)))

labels : IsDeedFormed (deeds.Labels (codes "fix") (record { element = 4; version = 9 } ∷ record { element = 5; version = 5 }
    ∷ []))
unfolding IsStrictlySortedBy
labels = (fix, (lit< tt, ((lit< tt, lit< tt), ((lit< tt, lit< tt), tt))), (λ e. cc), ((refl, tt), (tt, tt)))

arrow : IsDeedFormed (deeds.Arrow 4 9 12)
arrow = (lit< tt, lit< tt, lit< tt)

publish_at : IsDeedFormed (deeds.PublishAt (codes "v") (codes "in" ∷ codes "lib/out" ∷ []) [] []
    (Here (codes "hi") ∷ There (record { place = 0; length = 4096 }) ∷ []))
unfolding IsStrictlySortedBy
publish_at =
    ((v, targets, lit< tt, ((lit< tt, tt), tt), refl), (lit< tt, (lit< tt, ((lit< tt, lit≤ tt, lit< tt), tt))), refl)

-- a row: the first tag may be 0, and the last moment is the end of the year 9999
row : IsFormed (record {
  tag = record { phase = 0; lane = 1; command = 4294967295 };
  moment = 253402300799;
  deed = deeds.Mkview (codes "v");
})
row = record { tag = (lit< tt, lit< tt, lit< tt); moment = lit≤ tt; deed = v }

no_later_moment : IsFormed (record {
  tag = record { phase = 1; lane = 1; command = 1 };
  moment = 253402300800;
  deed = deeds.Mkview (codes "v");
}) → ⊥
no_later_moment h = let late = h.moment in omega arith

no_empty_view : IsDeedFormed (deeds.Mkview []) → ⊥
no_empty_view h = let fault : Some Empty ≡ None = h.no_fault in cc

no_root : IsDeedFormed (deeds.Rm (codes "v") (codes ".")) → ⊥
no_root h = let rooted : true ≡ false = h.1.1 in cc

no_digit : IsDeedFormed (deeds.Mktype types.Label (codes "1st")) → ⊥
no_digit h = let letter : false ≡ true = h.1 in cc

no_empty_scrub : IsDeedFormed (deeds.Scrub []) → ⊥
no_empty_scrub h = h.1 refl

no_scrub_twice : IsDeedFormed (deeds.Scrub (4 ∷ 4 ∷ [])) → ⊥
unfolding IsStrictlySortedBy
no_scrub_twice h = let order : nat_cmp 4 4 ≡ Less = h.2.0.0 in cc

no_missing_output : IsDeedFormed (deeds.Publish (codes "v") (codes "in" ∷ codes "lib/out" ∷ []) [] [] (codes "hi" ∷ [])) → ⊥
no_missing_output h = let counts : 1 ≡ 2 = h.0.4 in omega arith

no_target_twice : IsDeedFormed (deeds.Publish (codes "v") (codes "in" ∷ codes "in" ∷ []) [] [] ([] ∷ [] ∷ [])) → ⊥
unfolding IsDistinct
no_target_twice h = let same : true ≡ false = h.0.1.2.0.0 in cc

no_entry_out_of_order : AreEntries (record { path = codes "b"; row = 3 } ∷ record { path = codes "a"; row = 3 } ∷ []) → ⊥
unfolding IsStrictlySortedBy
no_entry_out_of_order h = let order : slice_cmp nat_cmp (codes "b") (codes "a") ≡ Less = h.1.0.0 in cc

no_extent_missing : IsDeedFormed (deeds.PublishAt (codes "v") (codes "in" ∷ []) [] [] (Here (codes "hi") ∷ [])) → ⊥
no_extent_missing h = let there : false ≡ true = h.2 in cc

no_long_extent : IsDeedFormed (deeds.PublishAt (codes "v") (codes "in" ∷ []) [] [] (There (record { place = 0; length = 1048577 })
    ∷ [])) → ⊥
no_long_extent h = let long : 1048577 ≤ 1048576 = h.1.1.0.1 in omega arith
