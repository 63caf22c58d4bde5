-- A path more is written after its length.
use Rattle.std.proofs.Common.{◌≡◌, ℕ, ◌+◌, ◌<◌, List, [], ◌∷◌, length, drop, get_or, add-one, sym, ap, ap₂, ◌∙◌}
use Rattle.std.specs.Prelude.{fold}
use Rattle.std.specs.Hash.{u64, usize}
use Rattle.std.specs.Hash.DefaultHasher.{write, finish}
use Rattle.std.proofs.Math.ListN.{drop_of_length-le}
use Rattle.std.proofs.Math.Seq.{drop-cons}
use Rattle.base_rows.specs.NumberKeys.{path_writes}
use Rattle.base_rows.proofs.number_keys.key_by_paths.Goals as goal

-- the next path is the first of those that are left
next_path : (paths : List (List ℕ)) (i : ℕ) (path : List ℕ) → i < length paths → path ≡ get_or paths i path
    → drop i paths ≡ path ∷ drop (i + 1) paths
next_path paths i path within at = drop-cons paths i path within ∙ ap₂ (λ p n. p ∷ drop n paths) (sym at) (sym (add-one i))

pub loop-path-init : goal.loop-path-init
loop-path-init c =
    ap (λ h. fold write h (path_writes c.args.paths.now)) (c.write_u64.ensures
    ∙ ap (λ h. fold write h (u64 c.args.number)) c.build_hasher-hasher.ensures)

pub loop-path-preserved : goal.loop-path-preserved
loop-path-preserved c =
    let paths = c.args.paths.now in
    let i = c.loop-path.path-index in
    let path = c.path-item.result in
    let h = c.loop-path.hasher in
    let sized : c.write_usize.new.self ≡ fold write h (usize (length path)) = c.write_usize.ensures
    ∙ ap (λ bytes. fold write h (usize (length bytes))) c.as_bytes.ensures.bytes in
    ap (λ after. fold write after (path_writes (drop (i + 1) paths))) (c.write.ensures
    ∙ ap₂ write sized c.as_bytes-in-loop-path.ensures.bytes)
    ∙ sym (ap (λ rest. fold write h (path_writes rest)) (next_path paths i path c.loop-path-test.true c.path-item.is))
    ∙ c.loop-path.invariant

pub returns : goal.returns
returns c =
    let left : path_writes (drop c.loop-path.path-index c.args.paths.now) ≡ path_writes [] =
    ap path_writes (drop_of_length-le c.args.paths.now c.loop-path-test.false) in
    c.finish.ensures ∙ ap finish (sym (ap (fold write c.loop-path.hasher) left) ∙ c.loop-path.invariant)
