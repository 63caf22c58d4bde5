-- How refusals and faults are printed: their code and name, and then their arguments.
use Rattle.std.specs.Prelude.{ℕ, Option, Some, None, List, [], ◌∷◌, codes}
use Rattle.std.specs.Fmt.{decimal}
use Rattle.cc_names.specs.declared.commands.LaneWords.{LaneWords}
use Rattle.cc_names.specs.declared.commands.PhaseWords.{PhaseWords}
use Rattle.cc_names.specs.declared.refusals.Refusal.{Refusal}
use Rattle.cc_names.specs.declared.refusals.Refusal.TheVariants as refusals
use Rattle.cc_names.specs.declared.refusals.UnitFault.{UnitFault}
use Rattle.cc_names.specs.declared.refusals.UnitFault.TheVariants as units
use Rattle.cc_names.specs.declared.refusals.ScriptFault.{ScriptFault}
use Rattle.cc_names.specs.declared.refusals.ScriptFault.TheVariants as scripts
use Rattle.cc_names.specs.declared.refusals.SpecCause.{SpecCause}
use Rattle.cc_names.specs.declared.refusals.SpecCause.TheVariants as spec_causes
use Rattle.cc_names.specs.declared.refusals.MakeCause.{MakeCause}
use Rattle.cc_names.specs.declared.refusals.MakeCause.TheVariants as make_causes
use Rattle.reply_text.specs.Words.{lane_words_at}

-- the cause of a bad config spec
abbrev pub spec_cause : SpecCause → List ℕ
spec_cause spec_causes.BadRule = codes "BadRule"
spec_cause spec_causes.BadPattern = codes "BadPattern"
spec_cause spec_causes.BadSelector = codes "BadSelector"
spec_cause spec_causes.BadDate = codes "BadDate"
spec_cause spec_causes.BadType = codes "BadType"
spec_cause spec_causes.NoBlock = codes "NoBlock"

-- the cause of a bad makefile
abbrev pub make_cause : MakeCause → List ℕ
make_cause make_causes.BadLine = codes "BadLine"
make_cause make_causes.BadMacro = codes "BadMacro"
make_cause make_causes.BadPath = codes "BadPath"
make_cause make_causes.LineTooLong = codes "LineTooLong"
make_cause make_causes.MacroLoop = codes "MacroLoop"
make_cause make_causes.TwoScripts = codes "TwoScripts"
make_cause make_causes.IncludeAbsent = codes "IncludeAbsent"
make_cause make_causes.IncludeDepth = codes "IncludeDepth"
make_cause make_causes.TooMany = codes "TooMany"
make_cause make_causes.PhonyScript = codes "PhonyScript"

-- the code and the name of a refusal
abbrev pub refusal_name : Refusal → List ℕ
refusal_name refusals.NoView = codes "C1 NoView"
refusal_name refusals.ViewExists = codes "C2 ViewExists"
refusal_name (refusals.NoPath path) = codes "C3 NoPath"
refusal_name (refusals.NotDirectory path) = codes "C4 NotDirectory"
refusal_name (refusals.NameTaken path) = codes "C5 NameTaken"
refusal_name (refusals.NotElement path) = codes "C6 NotElement"
refusal_name (refusals.NotCheckedOut path) = codes "C7 NotCheckedOut"
refusal_name (refusals.AlreadyOut row) = codes "C8 AlreadyOut"
refusal_name (refusals.Reserved view) = codes "C9 Reserved"
refusal_name (refusals.NotLatest row) = codes "C10 NotLatest"
refusal_name (refusals.Identical row) = codes "C11 Identical"
refusal_name (refusals.ParentNotOut path) = codes "C12 ParentNotOut"
refusal_name (refusals.NoType name) = codes "C13 NoType"
refusal_name (refusals.TypeExists name) = codes "C14 TypeExists"
refusal_name (refusals.BranchExists row) = codes "C15 BranchExists"
refusal_name (refusals.LabelElsewhere row) = codes "C16 LabelElsewhere"
refusal_name (refusals.NoCheckoutRule line) = codes "C17 NoCheckoutRule"
refusal_name (refusals.Building tag) = codes "C18 Building"
refusal_name (refusals.IsDerived path) = codes "C19 IsDerived"
refusal_name (refusals.NoObject path) = codes "C20 NoObject"
refusal_name (refusals.HasCheckouts row) = codes "C21 HasCheckouts"
refusal_name (refusals.BadSpec line cause) = codes "C22 BadSpec"
refusal_name (refusals.Full rows) = codes "C23 Full"
refusal_name (refusals.NoLabel path) = codes "C24 NoLabel"
refusal_name (refusals.IsDirectory path) = codes "C25 IsDirectory"
refusal_name (refusals.NotVersion path) = codes "C26 NotVersion"
refusal_name (refusals.NoVersion path) = codes "C27 NoVersion"
refusal_name (refusals.ArrowExists row) = codes "C28 ArrowExists"
refusal_name (refusals.SameVersion row) = codes "C29 SameVersion"
refusal_name (refusals.NoMakefile path) = codes "B1 NoMakefile"
refusal_name (refusals.MakeError file line cause) = codes "M1 MakeError"
refusal_name (refusals.NoGoal path) = codes "G1 NoGoal"
refusal_name (refusals.Cycle path) = codes "G2 Cycle"
refusal_name (refusals.TargetIsSource path) = codes "G3 TargetIsSource"

-- the name of a lane, where there is one
abbrev pub name_of_lane : Option LaneWords → List ℕ
name_of_lane (Some lane) = lane.name
name_of_lane None = []

-- The arguments of a refusal, in order. A running build is named by its lane and the number of its command.
abbrev pub refusal_arguments : PhaseWords → Refusal → List (List ℕ)
refusal_arguments phase refusals.NoView = []
refusal_arguments phase refusals.ViewExists = []
refusal_arguments phase (refusals.NoPath path) = path ∷ []
refusal_arguments phase (refusals.NotDirectory path) = path ∷ []
refusal_arguments phase (refusals.NameTaken path) = path ∷ []
refusal_arguments phase (refusals.NotElement path) = path ∷ []
refusal_arguments phase (refusals.NotCheckedOut path) = path ∷ []
refusal_arguments phase (refusals.AlreadyOut row) = decimal row ∷ []
refusal_arguments phase (refusals.Reserved view) = view ∷ []
refusal_arguments phase (refusals.NotLatest row) = decimal row ∷ []
refusal_arguments phase (refusals.Identical row) = decimal row ∷ []
refusal_arguments phase (refusals.ParentNotOut path) = path ∷ []
refusal_arguments phase (refusals.NoType name) = name ∷ []
refusal_arguments phase (refusals.TypeExists name) = name ∷ []
refusal_arguments phase (refusals.BranchExists row) = decimal row ∷ []
refusal_arguments phase (refusals.LabelElsewhere row) = decimal row ∷ []
refusal_arguments phase (refusals.NoCheckoutRule line) = decimal line ∷ []
refusal_arguments phase (refusals.Building tag) = name_of_lane (lane_words_at phase tag.lane) ∷ decimal tag.command ∷ []
refusal_arguments phase (refusals.IsDerived path) = path ∷ []
refusal_arguments phase (refusals.NoObject path) = path ∷ []
refusal_arguments phase (refusals.HasCheckouts row) = decimal row ∷ []
refusal_arguments phase (refusals.BadSpec line cause) = decimal line ∷ spec_cause cause ∷ []
refusal_arguments phase (refusals.Full rows) = decimal rows ∷ []
refusal_arguments phase (refusals.NoLabel path) = path ∷ []
refusal_arguments phase (refusals.IsDirectory path) = path ∷ []
refusal_arguments phase (refusals.NotVersion path) = path ∷ []
refusal_arguments phase (refusals.NoVersion path) = path ∷ []
refusal_arguments phase (refusals.ArrowExists row) = decimal row ∷ []
refusal_arguments phase (refusals.SameVersion row) = decimal row ∷ []
refusal_arguments phase (refusals.NoMakefile path) = path ∷ []
refusal_arguments phase (refusals.MakeError file line cause) = file ∷ decimal line ∷ make_cause cause ∷ []
refusal_arguments phase (refusals.NoGoal path) = path ∷ []
refusal_arguments phase (refusals.Cycle path) = path ∷ []
refusal_arguments phase (refusals.TargetIsSource path) = path ∷ []

-- a refusal as words
abbrev pub refusal_words : PhaseWords → Refusal → List (List ℕ)
refusal_words phase refusal = refusal_name refusal ∷ refusal_arguments phase refusal

-- the fault of a script as words
abbrev pub script_words : ScriptFault → List (List ℕ)
script_words (scripts.Absent path) = codes "X1 Absent" ∷ path ∷ []
script_words (scripts.BadLine line) = codes "X2 BadLine" ∷ decimal line ∷ []
script_words (scripts.TooBig path) = codes "X3 TooBig" ∷ path ∷ []
script_words (scripts.IncludeDepth path) = codes "X4 IncludeDepth" ∷ path ∷ []
script_words (scripts.Failed line) = codes "X5 Failed" ∷ decimal line ∷ []
script_words (scripts.StrayWrite path) = codes "X6 StrayWrite" ∷ path ∷ []
script_words (scripts.NotWritten path) = codes "X7 NotWritten" ∷ path ∷ []

-- the fault of a unit as words
abbrev pub fault_words : UnitFault → List (List ℕ)
fault_words (units.NoRule path) = codes "U1 NoRule" ∷ path ∷ []
fault_words (units.NoDirectory path) = codes "U2 NoDirectory" ∷ path ∷ []
fault_words (units.ScriptTooLong path) = codes "U3 ScriptTooLong" ∷ path ∷ []
fault_words (units.Script fault) = script_words fault
