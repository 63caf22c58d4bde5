use Rattle.std.proofs.Common.{◌≡◌, ◌∙◌, None, List, ℕ, length, ap, sym, subst}
use Rattle.session_text.specs.Formed.{IsFormedSession}
use Rattle.session_text.specs.Kinds.{kinds_of}
use Rattle.session_text.specs.Reading.{Place, lines_at}
use Rattle.session_text.specs.Sessions.{error_in, phases_of}
use Rattle.session_text.proofs.FormedReading.{phases_read}
use Rattle.session_text.proofs.sessions.read.Goals as goal

pub first-requires-clause-right : goal.first-requires-clause-right
first-requires-clause-right c = ap (λ (v : List ℕ). error_in (kinds_of v)) (sym c.as_bytes.ensures)
    ∙ c.in_ok-check_lines.ensures.right

pub returns-clause-formed : goal.returns-clause-formed
returns-clause-formed c =
    let right : error_in (kinds_of c.args.text) ≡ None =
    ap (λ (v : List ℕ). error_in (kinds_of v)) (sym c.as_bytes.ensures) ∙ c.in_ok-check_lines.ensures.right in
    let P : Place → Type 0 = λ place. IsFormedSession (length c.args.text) (record { phases = phases_of (lines_at place) }) in
    subst P (sym c.in_ok-place.ensures) (phases_read c.args.text right)
