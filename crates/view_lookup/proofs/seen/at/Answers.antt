-- From the root on, what stands at the path of the first names is what stands below that of the names before.
use Rattle.std.proofs.Common.{◌≡◌, ℕ, ◌+◌, ◌-◌, ◌≤◌, false, List, [], ◌∷◌, ◌++◌, length, take, drop, reverse, sym, ap, subst}
use Rattle.std.proofs.Common.{◌∙◌, arith, add-one}
use Rattle.std.specs.List.{position}
use Rattle.std.proofs.lemmas.List.{length-drop, reverse-append, reverse-reverse, take_rest}
use Rattle.cc_names.proofs.PathParts.{names_of-below}
use Rattle.cc_names.proofs.Splits.{each-fails}
use Rattle.cc_names.specs.Paths.{is_root, is_slash, names_of, IsPath}
use Rattle.cc_names.specs.declared.selection.Seen.{Seen}
use Rattle.base_model.specs.Rows.{Base}
use Rattle.base_model.specs.Seen.{at, at_names, below, entries_of}
use Rattle.view_lookup.proofs.PathPrefixes.{BeginsName, FirstSlash, IsUncut, begins_behind, first_slash, names_before}
use Rattle.view_lookup.proofs.PathPrefixes.{names_of_prefix, split_prefix, split_whole}
use Rattle.view_lookup.proofs.seen.at.Goals as goal

at_more : (b : Base) (v : List ℕ) (above : List (List ℕ)) (name : List ℕ)
    → at_names b v (reverse (above ++ (name ∷ []))) ≡ below b v (above ++ (name ∷ [])) name
    (entries_of b v (at_names b v (reverse above)))
at_more b v above name =
    let turned : reverse (above ++ (name ∷ [])) ≡ name ∷ reverse above = reverse-append above (name ∷ []) in
    ap (at_names b v) turned
    ∙ ap (λ names. below b v names name (entries_of b v (at_names b v (reverse above)))) (ap reverse (sym turned)
    ∙ reverse-reverse (above ++ (name ∷ [])))

-- what stands at the path that ends before a slash
to_slash : (b : Base) (v path : List ℕ) (start len : ℕ) (seen : Seen) → IsPath path → is_root path ≡ false → start ≤ length path
    → BeginsName path start → FirstSlash (drop start path) len → seen ≡ at_names b v (reverse (names_before path start)) →
    below b v (names_of (take (start + len) path)) (take len (drop start path)) (entries_of b v seen)
    ≡ at_names b v (reverse (names_before path (start + len + 1)))
to_slash b v path start len seen is_path below_root inside begins slash seen_is =
    let name = take len (drop start path) in
    let before = names_before path start in
    let split = split_prefix path start len begins slash.uncut in
    ap (λ names. below b v names name (entries_of b v seen)) (names_of_prefix path start len is_path below_root inside slash
    ∙ split)
    ∙ ap (λ s. below b v (before ++ (name ∷ [])) name (entries_of b v s)) seen_is
    ∙ sym (at_more b v before name)
    ∙ ap (λ names. at_names b v (reverse names)) (sym split ∙ ap (names_before path) (sym (add-one (start + len))))

-- what stands at the whole path
to_end : (b : Base) (v path : List ℕ) (start : ℕ) (seen : Seen) → is_root path ≡ false → BeginsName path start
    → IsUncut (drop start path) → seen ≡ at_names b v (reverse (names_before path start)) →
    below b v (names_of path) (drop start path) (entries_of b v seen) ≡ at b v path
to_end b v path start seen below_root begins uncut seen_is =
    let name = drop start path in
    let before = names_before path start in
    let split = names_of-below path below_root ∙ split_whole path start begins uncut in
    ap (λ names. below b v names name (entries_of b v seen)) split
    ∙ ap (λ s. below b v (before ++ (name ∷ [])) name (entries_of b v s)) seen_is
    ∙ sym (at_more b v before name)
    ∙ ap (λ names. at_names b v (reverse names)) (sym split)

pub loop-length-preserved : goal.loop-length-preserved
loop-length-preserved c =
    let b = c.args.rows.now in
    let v = c.args.view.now in
    let bytes = c.as_bytes-bytes.result.now in
    let start = c.loop-length.start in
    let len = c.in-Some.length in
    let seen = c.loop-length.seen in
    let h = c.loop-length.invariant in
    let is_path = subst IsPath (sym c.as_bytes-bytes.ensures.bytes) c.as_bytes-bytes.ensures.path in
    let below_root = ap is_root c.as_bytes-bytes.ensures.bytes ∙ sym c.is_root.ensures ∙ c.if-is_root.false in
    let found = ap (position is_slash) (sym (take_rest bytes start)) ∙ sym c.first_slash.ensures.place ∙ c.in-Some.is in
    let slash = first_slash (drop start bytes) len found in
    let long : start + len - start ≡ len = omega arith in
    record {
      within = omega (arith, slash.within, length-drop start bytes);
      begins = begins_behind bytes start len slash h.within;
      seen =
          c.below-seen.ensures
          ∙ ap (λ n. below b v (names_of (take (start + len) bytes)) (take n (drop start bytes)) (entries_of b v seen)) long
          ∙ to_slash b v bytes start len seen is_path below_root h.within h.begins slash h.seen;
    }

pub returns : goal.returns
returns c =
    let b = c.args.rows.now in
    let v = c.args.view.now in
    let bytes = c.as_bytes-bytes.result.now in
    let start = c.loop-length.start in
    let seen = c.loop-length.seen in
    let h = c.loop-length.invariant in
    let below_root = ap is_root c.as_bytes-bytes.ensures.bytes ∙ sym c.is_root.ensures ∙ c.if-is_root.false in
    let none = ap (position is_slash) (sym (take_rest bytes start)) ∙ sym c.first_slash.ensures.place ∙ c.in_default.is in
    c.below.ensures
    ∙ ap (λ name. below b v (names_of bytes) name (entries_of b v seen)) (take_rest bytes start)
    ∙ to_end b v bytes start seen below_root h.begins (each-fails is_slash (drop start bytes) none) h.seen
    ∙ ap (at b v) c.as_bytes-bytes.ensures.bytes
