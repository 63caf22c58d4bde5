-- The lines of lanes, by the words of their commands.
use Rattle.std.proofs.Common.{◌≡◌, ℕ, ◌+◌, List, [], ◌∷◌, ◌++◌, length, refl, ap}
use Rattle.std.specs.Prelude.{map, suc}
use Rattle.session_text.specs.CommandWords.{lane_words, words_of_command}
use Rattle.cc_names.specs.declared.commands.Lane.{Lane}
use Rattle.cc_names.specs.declared.commands.LaneWords.{LaneWords}
use Rattle.cc_names.specs.declared.commands.Phase.{Phase}
use Rattle.cc_names.specs.declared.commands.PhaseWords.{PhaseWords}
use Rattle.reply_text.specs.Replies.{render_words}
use Rattle.session_run.specs.Story.Rendered.{Replies, lanes_text}

-- the lines of lanes that are numbered from n on
abbrev pub lanes_modeled : PhaseWords → ℕ → List LaneWords → Replies → List ℕ
lanes_modeled phase n [] replies = []
lanes_modeled phase n (lane ∷ lanes) replies = render_words phase n (replies n) ++ lanes_modeled phase (n + 1) lanes replies

-- they are those of the lanes themselves
pub modeled_by_words : (phase : Phase) (n : ℕ) (lanes : List Lane) (replies : Replies)
    → lanes_text phase n lanes replies ≡ lanes_modeled (words_of_command phase) n (map lane_words lanes) replies
modeled_by_words phase n [] replies = refl
modeled_by_words phase n (lane ∷ lanes) replies = ap (λ lines. render_words (words_of_command phase) n (replies n) ++ lines)
    (modeled_by_words phase (n + 1) lanes replies)

-- and as many lanes
pub as_many : (lanes : List Lane) → length (map lane_words lanes) ≡ length lanes
as_many [] = refl
as_many (lane ∷ lanes) = ap suc (as_many lanes)
