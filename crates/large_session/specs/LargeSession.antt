-- The large session, as text.
use Rattle.std.specs.Prelude.{ℕ, List, [], ◌∷◌, ◌++◌, codes}
use Rattle.std.specs.Fmt.{decimal}
use Rattle.std.specs.List.{flat_map}
use Rattle.large_session.specs.declared.draws.SourceFile.{SourceFile}
use Rattle.large_session.specs.Draws.{files_of}

-- a line
abbrev pub line : List ℕ → List ℕ
line bytes = bytes ++ 10 ∷ []

-- a line of the body of a `save`
abbrev pub body_line : List ℕ → List ℕ
body_line bytes = codes "|" ++ line bytes

abbrev pub lines : List (List ℕ) → List ℕ
lines = flat_map line

-- the name of a source file
abbrev pub source_name : ℕ → List ℕ
source_name number = codes "s" ++ decimal number

-- the name of the object that is made of it
abbrev pub object_name : ℕ → List ℕ
object_name number = codes "o" ++ decimal number

-- the two source files of an object
abbrev pub object_sources : SourceFile → List ℕ
object_sources file = source_name file.number ++ (codes " " ++ source_name file.joined)

-- the rule of an object: its line, and its script, which begins with a tab
abbrev pub object_rule_line : SourceFile → List ℕ
object_rule_line file = body_line (object_name file.number ++ (codes ": " ++ object_sources file))

abbrev pub object_script_line : SourceFile → List ℕ
object_script_line file = body_line (9 ∷ (codes "cat " ++ (object_sources file ++ (codes " > " ++ object_name file.number))))

abbrev pub rule : SourceFile → List ℕ
rule file = object_rule_line file ++ object_script_line file

-- the name of an object among those that the first goal wants
abbrev pub wanted_name : SourceFile → List ℕ
wanted_name file = codes " " ++ object_name file.number

-- the Makefile: a goal that wants all objects, and the rule of each
abbrev pub makefile : List SourceFile → List ℕ
makefile files = body_line (codes "all:" ++ flat_map wanted_name files) ++ flat_map rule files

-- the commands that make a file element in v0 with this text
unfoldable pub made : List ℕ → List ℕ → List ℕ
made name text = line (codes "mkelem v0 " ++ name) ++ (line (codes "save v0 " ++ name)
    ++ (text ++ line (codes "checkin v0 " ++ name)))

-- a source file: one line of one word
abbrev pub source_text : SourceFile → List ℕ
source_text file = body_line (codes "w" ++ decimal file.content)

abbrev pub made_source : SourceFile → List ℕ
made_source file = made (source_name file.number) (source_text file)

-- the numbers of the views that build, and of their lanes
abbrev pub builders : List (List ℕ)
builders = codes "1" ∷ codes "2" ∷ codes "3" ∷ codes "4" ∷ codes "5" ∷ codes "6" ∷ codes "7" ∷ []

-- phase 1: the files are made, and then the views that build
unfoldable pub making : List SourceFile → List ℕ
making files =
    lines (codes "phase" ∷ codes "lane a" ∷ codes "mkview v0" ∷ codes "checkout v0 ." ∷ [])
    ++ (made (codes "Makefile") (makefile files) ++ (flat_map made_source files
    ++ (line (codes "checkin v0 .") ++ flat_map (λ n. line (codes "mkview v" ++ n)) builders)))

-- phase 2: each of these views builds, in a lane of its own
abbrev pub building_phase : List ℕ
building_phase =
    line (codes "phase") ++ flat_map (λ n. line (codes "lane b" ++ n) ++ line (codes "clearmake v" ++ (n ++ codes " -J 4")))
    builders

-- phase 3: a source file is changed, and one view builds again
abbrev pub changing_phase : List ℕ
changing_phase =
    lines (codes "phase" ∷ codes "lane a" ∷ codes "checkout v0 s1" ∷ codes "save v0 s1" ∷ codes "|changed" ∷ codes "checkin v0 s1"
    ∷ codes "clearmake v1" ∷ [])

-- the session of these files
abbrev pub session_text_of : List SourceFile → List ℕ
session_text_of files = making files ++ (building_phase ++ changing_phase)

-- The text of the large session of this seed and size.
abbrev pub large_session : ℕ → ℕ → List ℕ
large_session seed size = session_text_of (files_of seed size)
