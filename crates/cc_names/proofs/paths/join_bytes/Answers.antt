use Rattle.std.proofs.Common.{◌≡◌, ◌+◌, ◌≤◌, ◌∷◌, ◌++◌, List, ℕ, Ok, length, length-append, sym, ap, subst, ◌∙◌, arith}
use Rattle.std.proofs.lemmas.Grind.{common_steps}
use Rattle.cc_names.specs.Paths.{IsPath}
use Rattle.cc_names.proofs.Joins.{join-below, join-long, unless_long-short, holds-join}
use Rattle.cc_names.proofs.paths.join_bytes.Goals as goal

pub returns-then-length-gt1024-clause-joined : goal.returns-then-length-gt1024-clause-joined
returns-then-length-gt1024-clause-joined c =
    join-long c.args.directory.now c.args.name.now c.requires.below c.if-length-gt1024.true

short : (directory name : List ℕ) → length directory + 1 + length name ≤ 1024 → length (directory ++ 47 ∷ name) ≤ 1024
short directory name h = omega (arith, length-append directory (47 ∷ name))

pub returns-clause-joined : goal.returns-clause-joined
returns-clause-joined c =
    let directory = c.args.directory.now in
    let name = c.args.name.now in
    let whole : c.of.result ≡ directory ++ 47 ∷ name = grind (arith, common_steps) in
    join-below directory name c.requires.below ∙ unless_long-short _ (short directory name c.if-length-gt1024.false)
    ∙ ap Ok (sym whole)

pub returns-clause-path : goal.returns-clause-path
returns-clause-path c =
    let directory = c.args.directory.now in
    let name = c.args.name.now in
    let whole : c.of.result ≡ directory ++ 47 ∷ name = grind (arith, common_steps) in
    let given = unless_long-short (directory ++ 47 ∷ name) (short directory name c.if-length-gt1024.false) in
    subst IsPath (sym whole) (holds-join directory name _ c.requires.path c.requires.below c.requires.name given)
