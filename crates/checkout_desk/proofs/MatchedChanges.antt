-- What is decided of the form of a change that was matched is decided of the change.
use Rattle.std.proofs.Common.{◌≡◌, sym, subst, Option, Result, Ok, Err}
use Rattle.cc_names.specs.Commands.{view_of}
use Rattle.cc_names.specs.Formed.{Plain}
use Rattle.cc_names.specs.declared.commands.Change.{Change}
use Rattle.cc_names.specs.declared.occasions.Occasion.{Occasion}
use Rattle.cc_names.specs.declared.memory.Or.{Or}
use Rattle.cc_names.specs.declared.refusals.Refusal.{Refusal}
use Rattle.cc_names.specs.declared.rows.Tag.{Tag}
use Rattle.base_model.specs.Rows.{Base}
use Rattle.legal_history.specs.Commands.Decisions.{Decision, Scene}
use Rattle.legal_history.specs.Commands.Lines.{change_decision}
use Rattle.checkout_desk.specs.Deciding.{Decides, DecidesIfAny, Sees, with_row}

-- an answer is what is decided of a change on an occasion, in every scene that has these rows
abbrev IsDecided : Base → Occasion → Result (Option Plain) (Or Refusal) → Change → Type 0
IsDecided rows on answer change =
    (scene : Scene) → Sees scene rows on.moment (view_of change) on.busy on.taken
    → DecidesIfAny on.tag on.moment answer (change_decision scene change)

-- where nothing may be found for a row
pub matched : (rows : Base) (on : Occasion) (answer : Result (Option Plain) (Or Refusal)) (change form : Change) → change ≡ form
    → IsDecided rows on answer form → IsDecided rows on answer change
matched rows on answer change form is decided = subst (IsDecided rows on answer) (sym is) decided

any : (tag : Tag) (moment : _) (answer : Result Plain (Or Refusal)) (decision : Result Decision Refusal)
    → Decides tag moment answer decision → DecidesIfAny tag moment (with_row answer) decision
any tag moment (Ok row) decision decided = decided
any tag moment (Err refusal) decision decided = decided

-- where there is always a row
pub matched_made : (rows : Base) (on : Occasion) (answer : Result Plain (Or Refusal))
    (result : Result (Option Plain) (Or Refusal)) (change form : Change) → change ≡ form → result ≡ with_row answer
    → ((scene : Scene) → Sees scene rows on.moment (view_of form) on.busy on.taken
    → Decides on.tag on.moment answer (change_decision scene form)) → IsDecided rows on result change
matched_made rows on answer result change form is made_is decided =
    matched rows on result change form is (subst (λ answers. IsDecided rows on answers form) (sym made_is)
    (λ scene sees. any on.tag on.moment answer (change_decision scene form) (decided scene sees)))
