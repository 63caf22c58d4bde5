-- The summary of the transcripts of a session, worked out by hand: one unit is built, one has no script, one fails, and one
-- command is refused. The lines of an answer's text count for nothing.
use Rattle.std.proofs.Common.{◌≡◌, ℕ, List, [], ◌∷◌, refl}
use Rattle.std.specs.Prelude.{codes}
use Rattle.cc_names.specs.Cuts.{lines_of}
use Rattle.large_session.specs.Summaries.{count_of, digested_text, is_refused_line, is_reply_line, is_unit_line, lengths_of}

transcripts : List (List ℕ)
transcripts =
    codes "phase 1" ∷ codes "lane a" ∷ codes "1 mkview ok" ∷ codes "2 mkview refused C2 ViewExists" ∷ codes "3 cat ok" ∷
    codes "|1 mkview refused" ∷ codes "|  out built 3 98ea" ∷ codes "4 clearmake failed" ∷ codes "  out built 3 98ea" ∷
    codes "  a failed X1 Absent nothere" ∷ codes "  all blocked a" ∷ codes "5 clearmake ok" ∷ codes "  out winked 14 98eb" ∷
    codes "  all made" ∷ []

they_are_lines : lines_of (codes "phase 1\nlane a\n1 mkview ok\n") ≡ codes "phase 1" ∷ codes "lane a" ∷ codes "1 mkview ok" ∷ []
they_are_lines = refl

commands : count_of is_reply_line transcripts ≡ 5
unfolding transcripts
commands = refl

refused : count_of is_refused_line transcripts ≡ 1
unfolding transcripts
refused = refl

units : count_of is_unit_line transcripts ≡ 5
unfolding transcripts
units = refl

bytes : lengths_of transcripts ≡ 17
unfolding transcripts
bytes = refl

digested : digested_text transcripts
    ≡ codes "  out made 3 98ea\n  a failed X1 Absent nothere\n  all blocked a\n  out made 14 98eb\n  all made\n"
unfolding transcripts
digested = refl
