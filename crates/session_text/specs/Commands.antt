-- The commands: the word of each, the words after it, and what they say. Where a command comes, it gets a definition and
-- a line of the table or of a part of it here.
use Rattle.std.specs.Prelude.{ℕ, Bool, true, false, Result, Ok, Err, List, [], ◌∷◌, ◌++◌, codes, map, if◌then◌else◌, IfSome}
use Rattle.std.specs.Str.{bytes_eq}
use Rattle.cc_names.specs.declared.commands.Change.{Change}
use Rattle.cc_names.specs.declared.commands.Change.TheVariants as changes
use Rattle.cc_names.specs.declared.commands.Command.{Command}
use Rattle.cc_names.specs.declared.commands.Command.TheVariants as commands
use Rattle.cc_names.specs.declared.commands.Query.{Query}
use Rattle.cc_names.specs.declared.commands.Query.TheVariants as queries
use Rattle.cc_names.specs.Answers.{Gives}
use Rattle.cc_names.specs.Formed.{IsBelowRoot, IsTypeName}
use Rattle.cc_names.specs.Names.{IsName}
use Rattle.cc_names.specs.Paths.{IsPath}
use Rattle.cc_names.specs.declared.memory.Or.{Or}
use Rattle.cc_names.specs.declared.refusals.SessionCause.{SessionCause}
use Rattle.cc_names.specs.declared.refusals.SessionCause.TheVariants.{UnknownCommand, BadWord}
use Rattle.session_text.specs.Words.{Said, where_so, name_word, age_word, version_word, cat_word, latest_word, both, says}
use Rattle.session_text.specs.Words.{IsVersionName, and_says}
use Rattle.session_text.specs.Shapes.{has_flag, without_flag, view, only_type, view_path, view_below, type_path, path_type}
use Rattle.session_text.specs.Shapes.{maybe_path, read_first_name, behind_first, flag_path, flag_below, fits_beside}
use Rattle.session_text.specs.Clearmake.{clearmake}

-- `mkview V`
abbrev pub read_mkview : List (List ℕ) → Said Change
read_mkview words = says changes.Mkview (view words)

-- `rmview V`, `rmview -force V`
abbrev pub read_rmview : List (List ℕ) → Said Change
read_rmview words =
    says (λ v. changes.Rmview v (has_flag (codes "-force") words)) (view (without_flag (codes "-force") words))

-- `setcs V`, with a body
abbrev pub read_setcs : List (List ℕ) → List ℕ → Said Change
read_setcs words text = says (λ v. changes.Setcs v text) (view words)

-- `mkelem V [-nco] P`
abbrev pub read_mkelem : List (List ℕ) → Said Change
read_mkelem words = says (λ at. changes.Mkelem at.0 at.1 at.2) (flag_below (codes "-nco") words)

-- `mkdir V [-nco] P`
abbrev pub read_mkdir : List (List ℕ) → Said Change
read_mkdir words = says (λ at. changes.Mkdir at.0 at.1 at.2) (flag_below (codes "-nco") words)

-- `checkout V [-unreserved] P`
abbrev pub read_checkout : List (List ℕ) → Said Change
read_checkout words = says (λ at. changes.Checkout at.0 at.1 at.2) (flag_path (codes "-unreserved") words)

-- `mkbranch V [-nco] B P`
abbrev pub read_mkbranch : List (List ℕ) → Said Change
read_mkbranch words =
    says (λ at. changes.Mkbranch at.0 (has_flag (codes "-nco") (behind_first words)) at.1.0 at.1.1)
    (both (read_first_name words) (type_path (without_flag (codes "-nco") (behind_first words))))

-- `save V P`, with a body
abbrev pub read_save : List (List ℕ) → List ℕ → Said Change
read_save words text = says (λ at. changes.Save at.0 at.1 text) (view_below words)

-- `rm V P`
abbrev pub read_rm : List (List ℕ) → Said Change
read_rm words = says (λ at. changes.Rm at.0 at.1) (view_below words)

-- `checkin V [-identical] P`
abbrev pub read_checkin : List (List ℕ) → Said Change
read_checkin words = says (λ at. changes.Checkin at.0 at.1 at.2) (flag_path (codes "-identical") words)

-- `uncheckout V P`
abbrev pub read_uncheckout : List (List ℕ) → Said Change
read_uncheckout words = says (λ at. changes.Uncheckout at.0 at.1) (view_path words)

-- `rmname V P`
abbrev pub read_rmname : List (List ℕ) → Said Change
read_rmname words = says (λ at. changes.Rmname at.0 at.1) (view_below words)

-- a move, where the new name makes a path
abbrev pub moves : (List ℕ × List ℕ) × List ℕ → Said Change
moves at = where_so (fits_beside at.0.1 at.1) (Ok (changes.Mv at.0.0 at.0.1 at.1))

-- `mv V P NAME`, where NAME beside P makes a path
abbrev pub read_mv : List (List ℕ) → Said Change
read_mv (v ∷ p ∷ name ∷ []) = and_says moves (both (view_below (v ∷ p ∷ [])) (name_word name))
read_mv _ = Err BadWord

-- `mklbtype L`
abbrev pub read_mklbtype : List (List ℕ) → Said Change
read_mklbtype words = says changes.Mklbtype (only_type words)

-- `mkbrtype B`
abbrev pub read_mkbrtype : List (List ℕ) → Said Change
read_mkbrtype words = says changes.Mkbrtype (only_type words)

-- `mklabel V [-replace] -config P L`, by the words behind `-config`
abbrev pub by_record : List ℕ → Bool → List (List ℕ) → Said Change
by_record v replace words = says (λ at. changes.MklabelConfig v replace at.0 at.1) (path_type words)

-- `mklabel V [-replace] L P`, and with `-config`, by the words after the flag
abbrev pub read_labels : Bool → List (List ℕ) → List ℕ → Said Change
read_labels replace words v =
    if has_flag (codes "-config") words then by_record v replace (without_flag (codes "-config") words)
    else says (λ at. changes.Mklabel v replace at.0 at.1) (type_path words)

-- `mklabel V [-replace] L P`, `mklabel V [-replace] -config P L`
abbrev pub read_mklabel : List (List ℕ) → Said Change
read_mklabel words =
    and_says (read_labels (has_flag (codes "-replace") (behind_first words))
    (without_flag (codes "-replace") (behind_first words)))
    (read_first_name words)

-- `rmlabel V L P`
abbrev pub read_rmlabel : List (List ℕ) → Said Change
read_rmlabel words =
    says (λ at. changes.Rmlabel at.0 at.1.0 at.1.1) (both (read_first_name words) (type_path (behind_first words)))

-- `mkarrow V P VERSION`
abbrev pub read_mkarrow : List (List ℕ) → Said Change
read_mkarrow (v ∷ p ∷ version ∷ []) =
    says (λ at. changes.Mkarrow at.0.0 at.0.1 at.1) (both (view_below (v ∷ p ∷ [])) (version_word version))
read_mkarrow _ = Err BadWord

-- `rmdo V P`
abbrev pub read_rmdo : List (List ℕ) → Said Change
read_rmdo words = says (λ at. changes.Rmdo at.0 at.1) (view_below words)

-- `scrub AGE`
abbrev pub read_scrub : List (List ℕ) → Said Change
read_scrub (age ∷ []) = says changes.Scrub (age_word age)
read_scrub _ = Err BadWord

-- `catcs V`
abbrev pub read_catcs : List (List ℕ) → Said Query
read_catcs words = says queries.Catcs (view words)

-- `lsdo V`
abbrev pub read_lsdo : List (List ℕ) → Said Query
read_lsdo words = says queries.Lsdo (view words)

-- `ls V`, `ls V P`
abbrev pub read_ls : List (List ℕ) → Said Query
read_ls words = says (λ at. queries.Ls at.0 at.1) (both (read_first_name words) (maybe_path (behind_first words)))

-- `cat V P`, `cat V P@@VERSION`
abbrev pub read_cat : List (List ℕ) → Said Query
read_cat (v ∷ p ∷ []) = says (λ at. queries.Cat at.0 at.1.0 at.1.1) (both (name_word v) (cat_word p))
read_cat _ = Err BadWord

-- `describe V P`
abbrev pub read_describe : List (List ℕ) → Said Query
read_describe words = says (λ at. queries.Describe at.0 at.1) (view_path words)

-- `lsvtree V P`
abbrev pub read_lsvtree : List (List ℕ) → Said Query
read_lsvtree words = says (λ at. queries.Lsvtree at.0 at.1) (view_path words)

-- `lshistory V P`
abbrev pub read_lshistory : List (List ℕ) → Said Query
read_lshistory words = says (λ at. queries.Lshistory at.0 at.1) (view_path words)

-- `catcr V P`
abbrev pub read_catcr : List (List ℕ) → Said Query
read_catcr words = says (λ at. queries.Catcr at.0 at.1) (view_below words)

-- `diffcr V P W Q`
abbrev pub read_diffcr : List (List ℕ) → Said Query
read_diffcr (v ∷ p ∷ words) =
    says (λ at. queries.Diffcr at.0.0 at.0.1 at.1.0 at.1.1) (both (view_below (v ∷ p ∷ [])) (view_below words))
read_diffcr _ = Err BadWord

-- `covers W V P`
abbrev pub read_covers : List (List ℕ) → Said Query
read_covers words =
    says (λ at. queries.Covers at.0 at.1.0 at.1.1) (both (read_first_name words) (view_path (behind_first words)))

-- `findmerge V P -fversion .../B/LATEST`
abbrev pub read_findmerge : List (List ℕ) → Said Query
read_findmerge (v ∷ p ∷ flag ∷ latest ∷ []) =
    where_so (bytes_eq flag (codes "-fversion"))
    (says (λ at. queries.Findmerge at.0.0 at.0.1 at.1) (both (view_path (v ∷ p ∷ [])) (latest_word latest)))
read_findmerge _ = Err BadWord

-- the word of a query
abbrev pub query_word : Query → List ℕ
query_word (queries.Catcs view) = codes "catcs"
query_word (queries.Lsdo view) = codes "lsdo"
query_word (queries.Ls view path) = codes "ls"
query_word (queries.Cat view path version) = codes "cat"
query_word (queries.Describe view path) = codes "describe"
query_word (queries.Lsvtree view path) = codes "lsvtree"
query_word (queries.Lshistory view path) = codes "lshistory"
query_word (queries.Catcr view path) = codes "catcr"
query_word (queries.Diffcr view path other second) = codes "diffcr"
query_word (queries.Covers seer view path) = codes "covers"
query_word (queries.Findmerge view path branch) = codes "findmerge"

-- the form of a query
abbrev pub IsQuery : Query → Type 0
IsQuery (queries.Catcs view) = IsName view
IsQuery (queries.Lsdo view) = IsName view
IsQuery (queries.Ls view path) = IsName view × IfSome path IsPath
IsQuery (queries.Cat view path version) = IsName view × IsPath path × IfSome version IsVersionName
IsQuery (queries.Describe view path) = IsName view × IsPath path
IsQuery (queries.Lsvtree view path) = IsName view × IsPath path
IsQuery (queries.Lshistory view path) = IsName view × IsPath path
IsQuery (queries.Catcr view path) = IsName view × IsBelowRoot path
IsQuery (queries.Diffcr view path other second) = IsName view × IsBelowRoot path × IsName other × IsBelowRoot second
IsQuery (queries.Covers seer view path) = IsName seer × IsName view × IsPath path
IsQuery (queries.Findmerge view path branch) = IsName view × IsPath path × IsTypeName branch

-- what a reader of one kind of command answered is answered as a command, whatever was read
abbrev pub GivesAs : {X : Type 0} → (X → Command) → Result X (Or SessionCause) → Result Command (Or SessionCause) → Type 0
GivesAs {X} make said result = (read : Said X) → Gives said read → Gives result (says make read)

-- a command's word, and what the words after it and the text of its body say
pub record Line : Type 0 where
  pub word : List ℕ
  pub says : List (List ℕ) → List ℕ → Said Command

-- the word of a command that takes no body, and what the words after it say
pub record Reader (X : Type 0) : Type 0 where
  pub word : List ℕ
  pub reads : List (List ℕ) → Said X

-- this word, and what is read after it
abbrev pub after : {X : Type 0} → List ℕ → (List (List ℕ) → Said X) → Reader X
after word reads = record { word = word; reads = reads }

-- the changes of views and elements that take no body
abbrev pub view_table : List (Reader Change)
view_table =
    after (codes "mkview") read_mkview
    ∷ after (codes "rmview") read_rmview
    ∷ after (codes "mkelem") read_mkelem
    ∷ after (codes "mkdir") read_mkdir
    ∷ after (codes "checkout") read_checkout
    ∷ after (codes "mkbranch") read_mkbranch
    ∷ after (codes "rm") read_rm
    ∷ after (codes "checkin") read_checkin
    ∷ after (codes "uncheckout") read_uncheckout
    ∷ after (codes "rmname") read_rmname
    ∷ after (codes "mv") read_mv
    ∷ []

-- the changes of types, labels, arrows and objects
abbrev pub type_table : List (Reader Change)
type_table =
    after (codes "mklbtype") read_mklbtype
    ∷ after (codes "mkbrtype") read_mkbrtype
    ∷ after (codes "mklabel") read_mklabel
    ∷ after (codes "rmlabel") read_rmlabel
    ∷ after (codes "mkarrow") read_mkarrow
    ∷ after (codes "rmdo") read_rmdo
    ∷ after (codes "scrub") read_scrub
    ∷ []

-- the queries
abbrev pub query_table : List (Reader Query)
query_table =
    after (codes "catcs") read_catcs
    ∷ after (codes "lsdo") read_lsdo
    ∷ after (codes "ls") read_ls
    ∷ after (codes "cat") read_cat
    ∷ after (codes "describe") read_describe
    ∷ after (codes "lsvtree") read_lsvtree
    ∷ after (codes "lshistory") read_lshistory
    ∷ after (codes "catcr") read_catcr
    ∷ after (codes "diffcr") read_diffcr
    ∷ after (codes "covers") read_covers
    ∷ after (codes "findmerge") read_findmerge
    ∷ []

-- the line of a command that takes no body
abbrev pub plain : {X : Type 0} → (X → Command) → Reader X → Line
plain make it = record { word = it.word; says = λ words text. says make (it.reads words) }

-- the line of a change that takes a body
abbrev pub with_body : List ℕ → (List (List ℕ) → List ℕ → Said Change) → Line
with_body word said = record { word = word; says = λ words text. says commands.Change (said words text) }

-- the lines of the queries
abbrev pub query_lines : List Line
query_lines = map (plain commands.Query) query_table

-- the lines of the build and of the queries
abbrev pub build_on : List Line
build_on = plain commands.Build (after (codes "clearmake") clearmake) ∷ query_lines

-- the lines of the changes of types, labels, arrows and objects, and of all that is no change
abbrev pub types_on : List Line
types_on = map (plain commands.Change) type_table ++ build_on

-- the commands: the changes that take a body, those of views and elements, and all others
abbrev pub table : List Line
table =
    with_body (codes "setcs") read_setcs
    ∷ with_body (codes "save") read_save
    ∷ map (plain commands.Change) view_table ++ types_on

-- what the line of this word says, of these lines
abbrev pub said_in : List Line → List ℕ → List (List ℕ) → List ℕ → Said Command
said_in [] word words text = Err UnknownCommand
said_in (line ∷ lines) word words text =
    if bytes_eq word line.word then line.says words text else said_in lines word words text

-- The command that a word says with the words after it and with the text of its body; or the cause where it says
-- none.
abbrev pub command_of : List ℕ → List (List ℕ) → List ℕ → Said Command
command_of word words text = said_in table word words text

-- whether body lines may stand under a command
abbrev pub takes_body : Command → Bool
takes_body (commands.Change (changes.Setcs view text)) = true
takes_body (commands.Change (changes.Save view path text)) = true
takes_body _ = false
