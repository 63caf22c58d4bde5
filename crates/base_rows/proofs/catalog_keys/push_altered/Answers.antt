-- The keys of one row after the other are added.
use Rattle.std.proofs.Common.{ℕ, ◌+◌, List, ◌++◌, drop, get_or, append-nil, append_assoc, ap, sym, ◌∙◌}
use Rattle.std.proofs.lemmas.List.{at_drop_all, at_drop_more}
use Rattle.base_model.specs.Rows.{deed_at}
use Rattle.base_rows.specs.Changed.{names_by, names_of_deed}
use Rattle.base_rows.proofs.KeysAdded.{keys_of_names, names_parted}
use Rattle.base_rows.proofs.catalog_keys.push_altered.Goals as goal

pub loop-number-preserved : goal.loop-number-preserved
loop-number-preserved c =
    let numbers = c.args.numbers.now in
    let i = c.loop-number.number-index in
    let keys = c.loop-number.keys.items in
    let b = c.args.rows.now in
    let n = get_or numbers i 0 in
    let rest = keys_of_names c.args.hashing c.args.branch (names_by b (drop (i + 1) numbers)) in
    ap (λ (added : List ℕ). added ++ rest) c.in_ok-push_name_keys.ensures
    ∙ append_assoc keys (keys_of_names c.args.hashing c.args.branch (names_of_deed (deed_at b n))) rest
    ∙ ap (λ (more : List ℕ). keys ++ more) (sym (names_parted c.args.hashing c.args.branch (names_of_deed (deed_at b n))
    (names_by b (drop (i + 1) numbers))))
    ∙ sym (at_drop_more (λ (left : List ℕ). keys ++ keys_of_names c.args.hashing c.args.branch (names_by b left)) numbers i 0
    c.loop-number-test.true)
    ∙ c.loop-number.invariant

pub returns : goal.returns
returns c =
    let b = c.args.rows.now in
    let keys = c.loop-number.keys.items in
    sym (append-nil keys)
    ∙ sym (at_drop_all (λ (left : List ℕ). keys ++ keys_of_names c.args.hashing c.args.branch (names_by b left))
    c.args.numbers.now c.loop-number.number-index c.loop-number-test.false)
    ∙ c.loop-number.invariant
