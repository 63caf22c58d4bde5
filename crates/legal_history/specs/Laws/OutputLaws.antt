-- What does not hang on the bytes of objects. Each is promised by a function of `laws::outputs`.
use Rattle.std.specs.Prelude.{◌≡◌, ℕ, List, true, false, is_some}
use Rattle.cc_names.specs.declared.rows.Deed.{Deed}
use Rattle.base_model.specs.Blanked.{blank_deed, with_blanks, without_bytes, AreSameButForOutputs, AreSameButForScrubbedOutputs}
use Rattle.base_model.specs.Changes.{live_row, targets_of}
use Rattle.base_model.specs.Closures.{is_publish}
use Rattle.base_model.specs.Fits.{fits, is_base}
use Rattle.base_model.specs.Rows.{Base}
use Rattle.base_model.specs.Texts.{text}
use Rattle.legal_history.specs.Builds.Values.{rerun, IsSound}

-- A base with all outputs emptied says what the full one says: which rows fit, with their own outputs emptied too, and
-- whether it is a base; which objects are live, and their targets; the runs of records; and the text of each row that
-- published nothing.
abbrev pub BlankedSaysTheSameFits : Type 0
BlankedSaysTheSameFits = (b : Base) (deed : Deed) → fits (with_blanks b) (blank_deed deed) ≡ fits b deed

-- The same law, its part *base*.
abbrev pub BlankedSaysTheSameBase : Type 0
BlankedSaysTheSameBase = (b : Base) → is_base (with_blanks b) ≡ is_base b

-- The same law, its part *live*.
abbrev pub BlankedSaysTheSameLive : Type 0
BlankedSaysTheSameLive = (b : Base) (id : ℕ) → live_row (with_blanks b) id ≡ live_row b id

-- The same law, its part *targets*.
abbrev pub BlankedSaysTheSameTargets : Type 0
BlankedSaysTheSameTargets = (b : Base) (id : ℕ) → targets_of (with_blanks b) id ≡ targets_of b id

-- The same law, its part *text*.
abbrev pub BlankedSaysTheSameText : Type 0
BlankedSaysTheSameText = (b : Base) (r : ℕ) (path : List ℕ) → is_base b ≡ true → is_publish b r ≡ false
    → text (with_blanks b) r path ≡ text b r path

-- The same law, its part *rerun*.
abbrev pub BlankedSaysTheSameRerun : Type 0
BlankedSaysTheSameRerun = (b : Base) (id : ℕ) → is_base b ≡ true → rerun (with_blanks b) id ≡ rerun b id

-- So two bases that have the same rows but for outputs say the same.
abbrev pub OutputsChangeNothingFits : Type 0
OutputsChangeNothingFits = (one two : Base) (deed other : Deed) → AreSameButForOutputs one two
    → blank_deed deed ≡ blank_deed other → fits two other ≡ fits one deed

-- The same law, its part *base*.
abbrev pub OutputsChangeNothingBase : Type 0
OutputsChangeNothingBase = (one two : Base) → AreSameButForOutputs one two → is_base two ≡ is_base one

-- The same law, its part *live*.
abbrev pub OutputsChangeNothingLive : Type 0
OutputsChangeNothingLive = (one two : Base) (id : ℕ) → AreSameButForOutputs one two → live_row two id ≡ live_row one id

-- The same law, its part *targets*.
abbrev pub OutputsChangeNothingTargets : Type 0
OutputsChangeNothingTargets = (one two : Base) (id : ℕ) → AreSameButForOutputs one two
    → targets_of two id ≡ targets_of one id

-- The same law, its part *text*.
abbrev pub OutputsChangeNothingText : Type 0
OutputsChangeNothingText = (one two : Base) (r : ℕ) (path : List ℕ) → AreSameButForOutputs one two → is_base one ≡ true
    → is_publish one r ≡ false → text two r path ≡ text one r path

-- The same law, its part *rerun*.
abbrev pub OutputsChangeNothingRerun : Type 0
OutputsChangeNothingRerun = (one two : Base) (id : ℕ) → AreSameButForOutputs one two → is_base one ≡ true
    → rerun two id ≡ rerun one id

-- A base that differs from a sound one in outputs of scrubbed objects alone is sound, and live objects have the same texts.
abbrev pub ScrubbedOutputsAreFreeSound : Type 0
ScrubbedOutputsAreFreeSound = (one two : Base) → AreSameButForScrubbedOutputs one two → is_base one ≡ true
    → IsSound one → IsSound two

-- The same law, its part *text*.
abbrev pub ScrubbedOutputsAreFreeText : Type 0
ScrubbedOutputsAreFreeText = (one two : Base) (id : ℕ) (path : List ℕ) → AreSameButForScrubbedOutputs one two
    → is_some (live_row one id) ≡ true → text two id path ≡ text one id path

-- A base with the outputs of scrubbed objects emptied is the same but for these, so it is a base where the full one is,
-- and a sound one where the full one is sound.
abbrev pub EmptiedBaseIsTheSameRows : Type 0
EmptiedBaseIsTheSameRows = (b : Base) → AreSameButForScrubbedOutputs b (without_bytes b)

-- The same law, its part *base*.
abbrev pub EmptiedBaseIsTheSameBase : Type 0
EmptiedBaseIsTheSameBase = (b : Base) → is_base (without_bytes b) ≡ is_base b

-- The same law, its part *sound*.
abbrev pub EmptiedBaseIsTheSameSound : Type 0
EmptiedBaseIsTheSameSound = (b : Base) → is_base b ≡ true → IsSound b → IsSound (without_bytes b)
