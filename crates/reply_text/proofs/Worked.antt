-- The transcript of a session that makes a view, saves two files and builds one target, worked out by hand.
use Rattle.std.proofs.Common.{◌≡◌, List, [], ◌∷◌, ◌++◌, refl}
use Rattle.std.specs.Prelude.{codes}
use Rattle.std.specs.Fmt.{digits}
use Rattle.hex.specs.Hex.{encode_with}
use Rattle.cc_names.specs.declared.commands.PhaseWords.{PhaseWords}
use Rattle.cc_names.specs.declared.replies.Reply.{Reply}
use Rattle.cc_names.specs.declared.replies.Reply.TheVariants as replies
use Rattle.cc_names.specs.declared.replies.UnitWord.TheVariants as words
use Rattle.cc_names.specs.declared.refusals.Refusal.TheVariants as refusals
use Rattle.reply_text.specs.Replies.{render_words}

phase : PhaseWords
phase = record {
  lanes = record { name = codes "a"; words = codes "mkview" ∷ codes "save" ∷ codes "clearmake" ∷ [] } ∷ [];
}

answers : List Reply
answers =
    replies.Good ∷ replies.Refused (refusals.Building (record { phase = 1; lane = 1; command = 12 }))
    ∷ replies.Built (record { path = codes "out"; word = words.Made (record { length = 3; sha256 = 152 ∷ 7 ∷ [] }) } ∷ []) ∷ []

-- the lines of the lane
lines_are : render_words phase 1 answers ≡
    codes "lane a" ++ 10 ∷ codes "1 mkview ok" ++ 10 ∷ codes "2 save refused C18 Building a 12" ++ 10
    ∷ codes "3 clearmake ok" ++ 10 ∷ codes "  out built 3 9807" ++ 10 ∷ []
unfolding phase answers digits encode_with
lines_are = refl
