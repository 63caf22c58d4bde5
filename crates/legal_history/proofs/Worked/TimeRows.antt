-- A rule with a time takes the last version made before it.
use Rattle.std.proofs.Common.{◌≡◌, refl, ℕ, ◌+◌, true, false, Some, None, Result, Ok, List, [], ◌∷◌, ◌++◌, map}
use Rattle.std.specs.Fmt.{digits}
use Rattle.std.specs.Prelude.{codes}
use Rattle.cc_names.specs.Formed.{Plain}
use Rattle.cc_names.specs.declared.commands.Command.{Command}
use Rattle.cc_names.specs.declared.commands.Command.TheVariants as commands
use Rattle.cc_names.specs.declared.commands.Query.TheVariants as queries
use Rattle.cc_names.specs.declared.commands.Change.TheVariants as changes
use Rattle.cc_names.specs.declared.refusals.Refusal.{Refusal}
use Rattle.cc_names.specs.declared.rows.Deed.{Deed}
use Rattle.cc_names.specs.declared.rows.Deed.TheVariants as deeds
use Rattle.cc_names.specs.declared.rows.Kind.TheVariants.{File}
use Rattle.date_text.proofs.OnLiterals.{dates_on_literals}
use Rattle.base_model.specs.Rows.{Base}
use Rattle.legal_history.specs.Commands.Decisions.{Decision, Makes, Answers}
use Rattle.base_model.specs.Fits.{is_base}
use Rattle.legal_history.specs.Commands.Lines.{decision}
use Rattle.base_model.specs.Seen.{file_at}
use Rattle.legal_history.specs.Queries.VersionNames.{line, version_name}
use Rattle.legal_history.specs.Worked.{tag, base_of, decisions}
use Rattle.legal_history.proofs.Worked.TwoViews.{v, w}

-- a row of the second phase, one second later
abbrev later : ℕ → Deed → Plain
later n deed = record { tag = tag 2 1 n; moment = 1700000001; deed = deed }

abbrev by_time : List ℕ
by_time =
    line (codes "element in .../fix/LATEST") ++ line (codes "element in /main/LATEST -time 14-Nov-2023.22:13:21")
    ++ line (codes "element * CHECKEDOUT") ++ line (codes "element * /main/LATEST")

-- the rows of the first phase, and those of the second by their commands
abbrev first_phase : List Deed
first_phase =
    deeds.Mkview v ∷ deeds.Checkout v 0 0 true ∷ deeds.Mkelem v 0 (codes "in") File true
    ∷ deeds.Save v 3 (line (codes "foo")) ∷ deeds.Checkin v 3 ∷ deeds.Checkin v 0 ∷ []

abbrev two_moments : Base
two_moments =
    later 5 (deeds.Setcs w by_time) ∷ later 4 (deeds.Mkview w) ∷ later 3 (deeds.Checkin v 3)
    ∷ later 2 (deeds.Save v 3 (line (codes "bar"))) ∷ later 1 (deeds.Checkout v 3 5 true) ∷ base_of first_phase

all_fit : is_base two_moments ≡ true
unfolding dates_on_literals
all_fit = refl

the_first_phase_is_decided :
    decisions [] (
    commands.Change (changes.Mkview v)
    ∷ commands.Change (changes.Checkout v false (codes "."))
    ∷ commands.Change (changes.Mkelem v false (codes "in"))
    ∷ commands.Change (changes.Save v (codes "in") (line (codes "foo")))
    ∷ commands.Change (changes.Checkin v false (codes "in"))
    ∷ commands.Change (changes.Checkin v false (codes ".")) ∷ [])
    ≡ map (λ deed. Ok (Makes deed)) first_phase
the_first_phase_is_decided = refl

-- a base with the row of a decision on command n of the second phase
abbrev with_later : ℕ → Base → Result Decision Refusal → Base
with_later n b (Ok (Makes deed)) = later n deed ∷ b
with_later n b decided = b

-- what is decided of commands of the second phase, numbered from n on
abbrev later_decisions : ℕ → Base → List Command → List (Result Decision Refusal)
later_decisions n b [] = []
later_decisions n b (command ∷ commands) =
    let decided = decision (record { base = b; active = []; moment = 1700000001 }) command in
    decided ∷ later_decisions (n + 1) (with_later n b decided) commands

-- the moment of the second version is the time of the rule, and so not before it
the_second_phase_is_decided :
    later_decisions 1 (base_of first_phase) (
    commands.Change (changes.Checkout v false (codes "in"))
    ∷ commands.Change (changes.Save v (codes "in") (line (codes "bar")))
    ∷ commands.Change (changes.Checkin v false (codes "in"))
    ∷ commands.Change (changes.Mkview w)
    ∷ commands.Change (changes.Setcs w by_time)
    ∷ commands.Query (queries.Cat w (codes "in") None)
    ∷ commands.Query (queries.Cat v (codes "in") None) ∷ [])
    ≡
    Ok (Makes (deeds.Checkout v 3 5 true))
    ∷ Ok (Makes (deeds.Save v 3 (line (codes "bar"))))
    ∷ Ok (Makes (deeds.Checkin v 3))
    ∷ Ok (Makes (deeds.Mkview w))
    ∷ Ok (Makes (deeds.Setcs w by_time))
    ∷ Ok (Answers (line (codes "foo")))
    ∷ Ok (Answers (line (codes "bar")))
    ∷ []
unfolding dates_on_literals
the_second_phase_is_decided = refl

versions_have_names : map (version_name two_moments) (5 ∷ 9 ∷ []) ≡ codes "/main/1" ∷ codes "/main/2" ∷ []
unfolding digits
versions_have_names = refl

each_view_sees_its_version : map (λ view. file_at two_moments view (codes "in")) (v ∷ w ∷ []) ≡ Some 9 ∷ Some 5 ∷ []
unfolding dates_on_literals
each_view_sees_its_version = refl
