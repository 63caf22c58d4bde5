-- What rows affect. Each deed says once which subjects it affects; the rows that affect a subject say what has become of it.
-- Marks, and all that is looked up by them, rest on this alone.
use Rattle.std.specs.Prelude.{ℕ, Bool, true, false, ◌&&◌, ◌==◌, Option, Some, None, List, [], ◌∷◌, ◌++◌, map, bytes_eq}
use Rattle.std.specs.List.{list_any}
use Rattle.std.specs.declared.random_state.RandomState.{RandomState}
use Rattle.cc_names.specs.Branches.{branch_of_version}
use Rattle.cc_names.specs.Keys.{key_at, key_of}
use Rattle.cc_names.specs.declared.rows.Deed.{Deed}
use Rattle.cc_names.specs.declared.rows.Deed.TheVariants as deeds
use Rattle.cc_names.specs.declared.rows.Out.TheVariants as outs
use Rattle.cc_names.specs.declared.rows.Placed.{Placed}
use Rattle.base_model.specs.Catalogs.{is_out}
use Rattle.base_model.specs.Changes.{targets_of, tree}
use Rattle.base_model.specs.Rows.{Base, size}
use Rattle.base_model.specs.Objects.{are_same_paths}
use Rattle.base_rows.specs.Changed.{changing, checked_in_on, checked_in_rows, names_by}
use Rattle.base_rows.specs.NumberKeys.{key_by, key_by_paths, key_in, key_with}
use Rattle.base_rows.specs.declared.subjects.Subject as code
use Rattle.base_rows.specs.declared.subjects.Subject.TheVariants as codes

-- A view's life, its config spec, and all that it takes out; a view's private file at a path, and the object that it holds
-- there; a view's checkout of an element, the texts that it saves there, and a name that it changes there; the reserved
-- checkouts on a branch; the type of a name; an object, its winks, and the objects of a list of targets; a merge of two versions
-- of an element, and the merges into a version; what is done to an element and to its labels; the branches that leave a version,
-- and the branches of an element that have a name; what a view puts or comes to hold, at whatever paths; the names that are given
-- in a directory; the names that are changed in the checkout that a row began; and the versions of a branch that are made from a
-- checkout in which a name was changed.
pub data Subject : Type 0 where
  Life : List ℕ → Subject
  Spec : List ℕ → Subject
  AllCheckedOut : List ℕ → Subject
  File : List ℕ → List ℕ → Subject
  Object : List ℕ → List ℕ → Subject
  Out : List ℕ → ℕ → Subject
  Saved : List ℕ → ℕ → Subject
  NameIn : List ℕ → ℕ → List ℕ → Subject
  Reserved : ℕ → Subject
  Named : List ℕ → Subject
  Living : ℕ → Subject
  Winked : ℕ → Subject
  Pool : List (List ℕ) → Subject
  Merge : ℕ → ℕ → ℕ → Subject
  Merged : ℕ → Subject
  History : ℕ → Subject
  Leaving : ℕ → Subject
  BranchNamed : ℕ → List ℕ → Subject
  Owned : List ℕ → Subject
  Given : ℕ → Subject
  Changing : ℕ → Subject
  Altered : ℕ → List ℕ → Subject

-- the branch that a checkout reserves, where it reserves one
abbrev pub reserved_subjects : Option ℕ → List Subject
reserved_subjects None = []
reserved_subjects (Some branch) = Reserved branch ∷ []

-- what a checkout of an element by a view affects, where a deed makes one and where it reserves a branch
abbrev pub taken_subjects : Bool → List ℕ → ℕ → Option ℕ → List Subject
taken_subjects false v e branch = []
taken_subjects true v e branch = Out v e ∷ AllCheckedOut v ∷ reserved_subjects branch

-- what a deed that makes row n takes out, changes or gives back, where its checkout reserves this branch
abbrev pub checkout_subjects : ℕ → Option ℕ → Deed → List Subject
checkout_subjects n branch (deeds.Mkelem v directory name kind out) =
    NameIn v directory name ∷ History n ∷ Given directory ∷ taken_subjects out v n branch
checkout_subjects n branch (deeds.Checkout v e origin reserved) = taken_subjects true v e branch
checkout_subjects n branch (deeds.Branch v e origin name out) =
    History e ∷ Leaving origin ∷ BranchNamed e name ∷ taken_subjects (is_out out) v e branch
checkout_subjects n branch (deeds.Save v e text) = Saved v e ∷ []
checkout_subjects n branch (deeds.Checkin v e) = Out v e ∷ History e ∷ []
checkout_subjects n branch (deeds.Uncheckout v e) = Out v e ∷ []
checkout_subjects n branch (deeds.Rmname v directory name) = NameIn v directory name ∷ []
checkout_subjects n branch (deeds.Mv v directory from_name to_name) = NameIn v directory from_name ∷ NameIn v directory to_name
    ∷ Given directory ∷ []
checkout_subjects n branch deed = []

-- what becomes of objects by a deed that makes row n, where the object that it names has these targets and its checkout reserves
-- this branch
abbrev pub object_subjects : ℕ → List (List ℕ) → Option ℕ → Deed → List Subject
object_subjects n targets branch (deeds.Publish v own script entries outputs) = Living n ∷ Pool own ∷ Owned v ∷ map (Object v) own
object_subjects n targets branch (deeds.Wink v id) = Winked id ∷ Owned v ∷ map (Object v) targets
object_subjects n targets branch (deeds.Drop v path) = Object v path ∷ []
object_subjects n targets branch (deeds.Scrub objects) = map Living objects
object_subjects n targets branch deed = checkout_subjects n branch deed

-- the element of a version on which a label is put
abbrev pub history_at : Placed → Subject
history_at placed = History placed.element

-- the subjects on which a deed bears that makes row n, where the object that it names has these targets and its checkout reserves
-- this branch
abbrev pub subjects : ℕ → List (List ℕ) → Option ℕ → Deed → List Subject
subjects n targets branch (deeds.Mkview v) = Life v ∷ []
subjects n targets branch (deeds.Rmview v) = Life v ∷ []
subjects n targets branch (deeds.Setcs v text) = Spec v ∷ []
subjects n targets branch (deeds.Put v path text) = File v path ∷ Owned v ∷ []
subjects n targets branch (deeds.Rm v path) = File v path ∷ []
subjects n targets branch (deeds.Mktype kind name) = Named name ∷ []
subjects n targets branch (deeds.Arrow e tail head) = Merge e tail head ∷ Merged head ∷ []
subjects n targets branch (deeds.Label label e version) = History e ∷ []
subjects n targets branch (deeds.Unlabel label e) = History e ∷ []
subjects n targets branch (deeds.Labels label placed) = map history_at placed
subjects n targets branch deed = object_subjects n targets branch deed

-- the targets of the object that a deed names, which an older row made
abbrev pub named_targets : Base → Deed → List (List ℕ)
named_targets older (deeds.Wink v id) = targets_of older id
named_targets older deed = []

-- the branch that the next row's checkout reserves: that of its origin, a new one for a new element or branch
abbrev pub reserved_branch : Base → Deed → Option ℕ
reserved_branch older (deeds.Mkelem v directory name kind true) = Some (size older)
reserved_branch older (deeds.Checkout v e origin true) = branch_of_version (tree older) origin
reserved_branch older (deeds.Branch v e origin name outs.Reserved) = Some (size older)
reserved_branch older deed = None

-- the checkout in which names are changed, which a row began
abbrev pub changing_subjects : Option ℕ → List Subject
changing_subjects None = []
changing_subjects (Some began) = Changing began ∷ []

-- the names that a version of a branch alters, where there is one
abbrev pub altered_subjects : Option ℕ → List (List ℕ) → List Subject
altered_subjects None names = []
altered_subjects (Some branch) names = map (Altered branch) names

-- what the next row changes of catalogs
abbrev pub catalog_subjects : Base → Deed → List Subject
catalog_subjects older deed =
    changing_subjects (changing older deed) ++ altered_subjects (checked_in_on older deed)
    (names_by older (checked_in_rows older deed))

-- what it affects else
abbrev pub plain_subjects : Base → Deed → List Subject
plain_subjects older deed = subjects (size older) (named_targets older deed) (reserved_branch older deed) deed

-- the subjects on which the next row bears
abbrev pub affected_subjects : Base → Deed → List Subject
affected_subjects older deed = catalog_subjects older deed ++ plain_subjects older deed

-- whether two subjects are one
abbrev pub is_same_subject : Subject → Subject → Bool
is_same_subject (Life v) (Life w) = bytes_eq w v
is_same_subject (Spec v) (Spec w) = bytes_eq w v
is_same_subject (AllCheckedOut v) (AllCheckedOut w) = bytes_eq w v
is_same_subject (File v path) (File w q) = bytes_eq w v && bytes_eq q path
is_same_subject (Object v path) (Object w q) = bytes_eq w v && bytes_eq q path
is_same_subject (Out v e) (Out w f) = bytes_eq w v && (f == e)
is_same_subject (Saved v e) (Saved w f) = bytes_eq w v && (f == e)
is_same_subject (NameIn v directory name) (NameIn w other one) = bytes_eq w v && (other == directory) && bytes_eq one name
is_same_subject (Reserved branch) (Reserved other) = branch == other
is_same_subject (Named name) (Named other) = bytes_eq other name
is_same_subject (Living id) (Living other) = other == id
is_same_subject (Winked id) (Winked other) = other == id
is_same_subject (Pool targets) (Pool others) = are_same_paths others targets
is_same_subject (Merge e tail head) (Merge f one two) = (f == e) && (one == tail) && (two == head)
is_same_subject (Merged head) (Merged other) = other == head
is_same_subject (History e) (History f) = f == e
is_same_subject (Leaving version) (Leaving other) = other == version
is_same_subject (BranchNamed e name) (BranchNamed f own) = (e == f) && bytes_eq name own
is_same_subject (Owned v) (Owned w) = bytes_eq w v
is_same_subject (Given directory) (Given other) = other == directory
is_same_subject (Changing began) (Changing other) = began == other
is_same_subject (Altered branch name) (Altered other one) = (other == branch) && bytes_eq one name
is_same_subject one two = false

-- The key by which the marks of a subject are found. Subjects that share one are distinguished by the rows.
abbrev pub key : RandomState → Subject → ℕ
key hashing (Life v) = key_of hashing 0 v
key hashing (Spec v) = key_of hashing 1 v
key hashing (AllCheckedOut v) = key_of hashing 2 v
key hashing (File v path) = key_at hashing 3 v path
key hashing (Object v path) = key_at hashing 4 v path
key hashing (Out v e) = key_with hashing 5 e v
key hashing (Saved v e) = key_with hashing 6 e v
key hashing (Named name) = key_of hashing 7 name
key hashing (Living id) = key_by hashing 8 (id ∷ [])
key hashing (Merge e tail head) = key_by hashing 9 (e ∷ tail ∷ head ∷ [])
key hashing (Merged head) = key_by hashing 15 (head ∷ [])
key hashing (NameIn v directory name) = key_in hashing 10 directory v name
key hashing (Reserved branch) = key_by hashing 11 (branch ∷ [])
key hashing (Pool targets) = key_by_paths hashing 12 targets
key hashing (Winked id) = key_by hashing 13 (id ∷ [])
key hashing (History e) = key_by hashing 14 (e ∷ [])
key hashing (Leaving version) = key_by hashing 16 (version ∷ [])
key hashing (Owned v) = key_of hashing 17 v
key hashing (BranchNamed e name) = key_with hashing 19 e name
key hashing (Given directory) = key_by hashing 18 (directory ∷ [])
key hashing (Changing began) = key_by hashing 20 (began ∷ [])
key hashing (Altered branch name) = key_with hashing 21 branch name

-- whether the next row affects a subject
abbrev pub affects : Subject → Base → Deed → Bool
affects (Changing began) older deed = list_any (is_same_subject (Changing began)) (catalog_subjects older deed)
affects (Altered branch name) older deed = list_any (is_same_subject (Altered branch name)) (catalog_subjects older deed)
affects subject older deed = list_any (is_same_subject subject) (plain_subjects older deed)

-- the keys of the subjects on which the next row bears
abbrev pub keys_of : RandomState → Base → Deed → List ℕ
keys_of hashing older deed = map (key hashing) (affected_subjects older deed)

-- a subject without where its names lie in memory
abbrev pub plain : code.Subject → Subject
plain (codes.Life v) = Life v.now
plain (codes.Spec v) = Spec v.now
plain (codes.AllCheckedOut v) = AllCheckedOut v.now
plain (codes.File v path) = File v.now path.now
plain (codes.Object v path) = Object v.now path.now
plain (codes.Out v e) = Out v.now e
plain (codes.Saved v e) = Saved v.now e
plain (codes.NameIn v directory name) = NameIn v.now directory name.now
plain (codes.Reserved branch) = Reserved branch
plain (codes.Named name) = Named name.now
plain (codes.Living id) = Living id
plain (codes.Winked id) = Winked id
plain (codes.Pool targets) = Pool targets.now
plain (codes.Merge e tail head) = Merge e tail head
plain (codes.Merged head) = Merged head
plain (codes.History e) = History e
plain (codes.Leaving version) = Leaving version
plain (codes.BranchNamed e name) = BranchNamed e name.now
plain (codes.Owned v) = Owned v.now
plain (codes.Given directory) = Given directory
plain (codes.Changing began) = Changing began
plain (codes.Altered branch name) = Altered branch name.now
