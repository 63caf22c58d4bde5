-- What single words and the words of a command say has its form.
use Rattle.std.proofs.Common.{◌≡◌, ℕ, ◌<◌, ◌≤◌, Bool, true, false, cond, Option, Some, None, List, [], ◌∷◌, ◌++◌, length, take}
use Rattle.std.proofs.Common.{drop, refl, arith}
use Rattle.std.specs.Prelude.{Ok, Err, IfOk, IfSome, is_ok, ◌&&◌, ◌^◌, nat_le, nat_lt, codes, not, ◌-◌}
use Rattle.std.specs.List.{AllByRecursion, list_all, slice_split, position}
use Rattle.std.specs.Option.{option_map_or}
use Rattle.std.specs.Result.{result_ok}
use Rattle.std.specs.Str.{bytes_eq}
use Rattle.std.specs.Str.Parse.{digits_value}
use Rattle.std.specs.Char.{is_ascii_digit}
use Rattle.std.proofs.lemmas.Bool.{leb-true}
use borrow.Author.Tests.{ltb-true}
use Rattle.cc_names.specs.declared.names.NameFault.{NameFault}
use Rattle.cc_names.specs.declared.commands.VersionName.{VersionName}
use Rattle.cc_names.specs.declared.refusals.SessionCause.TheVariants.{BadWord}
use Rattle.cc_names.specs.Formed.{IsTypeName, IsBelowRoot, begins_with_letter}
use Rattle.cc_names.specs.Names.{IsName, name_fault, unless_fault}
use Rattle.cc_names.specs.Numbers.{number_of, below_limit, begins_no_number}
use Rattle.cc_names.specs.Paths.{IsPath, path_fault, is_root, is_slash, join_of, is_at}
use Rattle.session_text.specs.Formed.{MakesPath}
use Rattle.session_text.specs.Words.{IsVersionName}
use Rattle.session_text.specs.Shapes.{read_first_name, view, only_type, view_path, view_below, maybe_path, type_path, path_type}
use Rattle.session_text.specs.Shapes.{flag_path, flag_below, has_flag, without_flag}
use Rattle.session_text.specs.Words.{Said, or_bad, where_so, name_word, path_word, below_root, type_word, within_limits}
use Rattle.session_text.specs.Words.{age_word, jobs_word, version_of_parts, with_branch, version_behind_main, version_word, both}
use Rattle.session_text.specs.Words.{says, and_says, cat_by, cat_word, latest_word}

pub both_is : {X Y : Type 0} (P : X → Type 0) (Q : Y → Type 0) (x : Said X) (y : Said Y) → IfOk x P → IfOk y Q
    → IfOk (both x y) (λ z. P z.0 × Q z.1)
both_is P Q (Err cause) y p q = tt
both_is P Q (Ok x) (Err cause) p q = tt
both_is P Q (Ok x) (Ok y) p q = (p, q)

pub says_is : {X Y : Type 0} (P : X → Type 0) (Q : Y → Type 0) (make : X → Y) (x : Said X) → ((v : X) → P v → Q (make v))
    → IfOk x P → IfOk (says make x) Q
says_is P Q make (Err cause) f p = tt
says_is P Q make (Ok x) f p = f x p

pub and_says_is : {X Y : Type 0} (P : X → Type 0) (Q : Y → Type 0) (more : X → Said Y) (x : Said X)
    → ((v : X) → P v → IfOk (more v) Q) → IfOk x P → IfOk (and_says more x) Q
and_says_is P Q more (Err cause) f p = tt
and_says_is P Q more (Ok x) f p = f x p

pub where_so_is : {X : Type 0} (P : X → Type 0) (test : Bool) (x : Said X) → IfOk x P → IfOk (where_so test x) P
where_so_is P true x p = p
where_so_is P false x p = tt

named : (word : List ℕ) (fault : Option NameFault) → name_fault word ≡ fault
    → IfOk (or_bad (result_ok (unless_fault fault word))) IsName
named word None e = record { no_fault = e }
named word (Some fault) e = tt

pub name_word_is : (word : List ℕ) → IfOk (name_word word) IsName
name_word_is word = named word (name_fault word) refl

pathed : (word : List ℕ) (fault : Option NameFault) → path_fault word ≡ fault
    → IfOk (or_bad (result_ok (unless_fault fault word))) IsPath
pathed word None e = record { no_fault = e }
pathed word (Some fault) e = tt

pub path_word_is : (word : List ℕ) → IfOk (path_word word) IsPath
path_word_is word = pathed word (path_fault word) refl

pathed_below : (word : List ℕ) (root : Bool) (fault : Option NameFault) → is_root word ≡ root → path_fault word ≡ fault
    → IfOk (cond root (Err BadWord) (or_bad (result_ok (unless_fault fault word)))) IsBelowRoot
pathed_below word true fault r e = tt
pathed_below word false None r e = (record { no_fault = e }, r)
pathed_below word false (Some fault) r e = tt

pub below_root_is : (word : List ℕ) → IfOk (below_root word) IsBelowRoot
below_root_is word = pathed_below word (is_root word) (path_fault word) refl refl

typed : (word : List ℕ) (letter : Bool) (fault : Option NameFault) → begins_with_letter word ≡ letter → name_fault word ≡ fault
    → IfOk (or_bad (cond (letter && is_ok (unless_fault fault word)) (Some word) None)) IsTypeName
typed word false fault l e = tt
typed word true None l e = (record { no_fault = e }, l)
typed word true (Some fault) l e = tt

pub type_word_is : (word : List ℕ) → IfOk (type_word word) IsTypeName
type_word_is word = typed word (begins_with_letter word) (name_fault word) refl refl

pub view_is : (words : List (List ℕ)) → IfOk (view words) IsName
view_is [] = tt
view_is (v ∷ []) = name_word_is v
view_is (v ∷ w ∷ words) = tt

pub only_type_is : (words : List (List ℕ)) → IfOk (only_type words) IsTypeName
only_type_is [] = tt
only_type_is (l ∷ []) = type_word_is l
only_type_is (l ∷ w ∷ words) = tt

pub first_name_is : (words : List (List ℕ)) → IfOk (read_first_name words) IsName
first_name_is [] = tt
first_name_is (word ∷ words) = name_word_is word

pub view_path_is : (words : List (List ℕ)) → IfOk (view_path words) (λ at. IsName at.0 × IsPath at.1)
view_path_is [] = tt
view_path_is (v ∷ []) = tt
view_path_is (v ∷ p ∷ []) = both_is IsName IsPath (name_word v) (path_word p) (name_word_is v) (path_word_is p)
view_path_is (v ∷ p ∷ w ∷ words) = tt

pub view_below_is : (words : List (List ℕ)) → IfOk (view_below words) (λ at. IsName at.0 × IsBelowRoot at.1)
view_below_is [] = tt
view_below_is (v ∷ []) = tt
view_below_is (v ∷ p ∷ []) = both_is IsName IsBelowRoot (name_word v) (below_root p) (name_word_is v) (below_root_is p)
view_below_is (v ∷ p ∷ w ∷ words) = tt

pub type_path_is : (words : List (List ℕ)) → IfOk (type_path words) (λ at. IsTypeName at.0 × IsPath at.1)
type_path_is [] = tt
type_path_is (l ∷ []) = tt
type_path_is (l ∷ p ∷ []) = both_is IsTypeName IsPath (type_word l) (path_word p) (type_word_is l) (path_word_is p)
type_path_is (l ∷ p ∷ w ∷ words) = tt

pub path_type_is : (words : List (List ℕ)) → IfOk (path_type words) (λ at. IsPath at.0 × IsTypeName at.1)
path_type_is [] = tt
path_type_is (p ∷ []) = tt
path_type_is (p ∷ l ∷ []) = both_is IsPath IsTypeName (path_word p) (type_word l) (path_word_is p) (type_word_is l)
path_type_is (p ∷ l ∷ w ∷ words) = tt

some_path : (said : Said (List ℕ)) → IfOk said IsPath → IfOk (says Some said) (λ path. IfSome path IsPath)
some_path (Ok path) h = h
some_path (Err cause) h = tt

pub maybe_path_is : (words : List (List ℕ)) → IfOk (maybe_path words) (λ path. IfSome path IsPath)
maybe_path_is [] = tt
maybe_path_is (p ∷ []) = some_path (path_word p) (path_word_is p)
maybe_path_is (p ∷ w ∷ words) = tt

pub flag_path_is : (flag : List ℕ) (words : List (List ℕ)) → IfOk (flag_path flag words) (λ at. IsName at.0 × IsPath at.2)
flag_path_is flag [] = tt
flag_path_is flag (v ∷ words) =
    says_is (λ at. IsName at.0 × IsPath at.1) (λ at. IsName at.0 × IsPath at.2) (λ at. (at.0, has_flag flag words, at.1))
    (view_path (v ∷ without_flag flag words)) (λ at h. h) (view_path_is (v ∷ without_flag flag words))

pub flag_below_is : (flag : List ℕ) (words : List (List ℕ)) → IfOk (flag_below flag words) (λ at. IsName at.0 × IsBelowRoot at.2)
flag_below_is flag [] = tt
flag_below_is flag (v ∷ words) =
    says_is (λ at. IsName at.0 × IsBelowRoot at.1) (λ at. IsName at.0 × IsBelowRoot at.2)
    (λ at. (at.0, has_flag flag words, at.1)) (view_below (v ∷ without_flag flag words)) (λ at h. h)
    (view_below_is (v ∷ without_flag flag words))

chosen : Bool → ℕ → Said ℕ
chosen so n = cond so (Ok n) (Err BadWord)

between : (least most n : ℕ) (low high : Bool) → nat_le least n ≡ low → nat_le n most ≡ high
    → IfOk (chosen (low && high) n) (λ m. (least ≤ m) × (m ≤ most))
unfolding chosen
between least most n true true l h = (leb-true least n l, leb-true n most h)
between least most n true false l h = tt
between least most n false high l h = tt

within_is : (least most : ℕ) (number : Option ℕ) → IfOk (within_limits least most number) (λ m. (least ≤ m) × (m ≤ most))
unfolding chosen
within_is least most None = tt
within_is least most (Some n) = between least most n (nat_le least n) (nat_le n most) refl refl

pub age_word_is : (word : List ℕ) → IfOk (age_word word) (λ age. age < 2 ^ 63)
age_word_is word = narrower (within_limits 0 9223372036854775807 (number_of word))
    (within_is 0 9223372036854775807 (number_of word))
  where
    narrower : (said : Said ℕ) → IfOk said (λ m. (0 ≤ m) × (m ≤ 9223372036854775807)) → IfOk said (λ age. age < 2 ^ 63)
    narrower (Ok n) h = omega (arith, h.1)
    narrower (Err cause) h = tt

pub jobs_word_is : (word : List ℕ) → IfOk (jobs_word word) (λ jobs. (1 ≤ jobs) × (jobs ≤ 64))
jobs_word_is word = within_is 1 64 (number_of word)

limited : (n : ℕ) (below : Bool) → nat_lt n (2 ^ 64) ≡ below → IfSome (cond below (Some n) None) (λ m. m < 2 ^ 64)
limited n true e = ltb-true n (2 ^ 64) e
limited n false e = tt

if_below : (so : Bool) (n : ℕ) → IfSome (cond so (below_limit n) None) (λ m. m < 2 ^ 64)
if_below true n = limited n (nat_lt n (2 ^ 64)) refl
if_below false n = tt

number_is : (bytes : List ℕ) → IfSome (number_of bytes) (λ m. m < 2 ^ 64)
number_is bytes = if_below (list_all is_ascii_digit bytes && not (begins_no_number bytes)) (digits_value 10 bytes)

numbered_is : (branches : List (List ℕ)) (number : Option ℕ) → AllByRecursion IsTypeName branches
    → IfSome number (λ m. m < 2 ^ 64) → IfOk (version_of_parts branches number) IsVersionName
numbered_is branches None b n = tt
numbered_is branches (Some number) b n = (b, n)

pushed_is : {X : Type 0} (P : X → Type 0) (xs : List X) (x : X) → AllByRecursion P xs → P x → AllByRecursion P (xs ++ x ∷ [])
pushed_is P [] x hs h = (h, tt)
pushed_is P (y ∷ ys) x hs h = (hs.0, pushed_is P ys x hs.1 h)

with_branch_is : (more : List (List ℕ) → Said VersionName) (branches : List (List ℕ)) (branch : Said (List ℕ))
    → ((b : List (List ℕ)) → AllByRecursion IsTypeName b → IfOk (more b) IsVersionName)
    → AllByRecursion IsTypeName branches → IfOk branch IsTypeName → IfOk (with_branch more branches branch) IsVersionName
with_branch_is more branches (Ok branch) m b h = m (branches ++ branch ∷ []) (pushed_is IsTypeName branches branch b h)
with_branch_is more branches (Err cause) m b h = tt

behind_main_is : (parts branches : List (List ℕ)) → AllByRecursion IsTypeName branches
    → IfOk (version_behind_main parts branches) IsVersionName
behind_main_is [] branches b = tt
behind_main_is (number ∷ []) branches b = numbered_is branches (number_of number) b (number_is number)
behind_main_is (branch ∷ next ∷ parts) branches b =
    with_branch_is (version_behind_main (next ∷ parts)) branches (type_word branch)
    (λ more h. behind_main_is (next ∷ parts) more h) b (type_word_is branch)

pub version_word_is : (word : List ℕ) → IfOk (version_word word) IsVersionName
version_word_is word =
    where_so_is IsVersionName (bytes_eq (take 6 word) (codes "/main/"))
    (version_behind_main (slice_split is_slash (drop 6 word)) [])
    (behind_main_is (slice_split is_slash (drop 6 word)) [] tt)

cat_by_is : (word : List ℕ) (place : Option ℕ) → IfOk (cat_by word place) (λ at. IsPath at.0 × IfSome at.1 IsVersionName)
cat_by_is word None =
    says_is IsPath (λ at. IsPath at.0 × IfSome at.1 IsVersionName) (λ path. (path, None)) (path_word word) (λ path h. (h, tt))
    (path_word_is word)
cat_by_is word (Some place) =
    where_so_is (λ at. IsPath at.0 × IfSome at.1 IsVersionName) (bytes_eq (take 2 (drop place word)) (codes "@@")) _
    (both_is IsPath (λ v. IfSome v IsVersionName) (path_word (take place word))
    (says Some (version_word (drop 2 (drop place word)))) (path_word_is (take place word))
    (says_is IsVersionName (λ v. IfSome v IsVersionName) Some (version_word (drop 2 (drop place word))) (λ v h. h)
    (version_word_is (drop 2 (drop place word)))))

pub cat_word_is : (word : List ℕ) → IfOk (cat_word word) (λ at. IsPath at.0 × IfSome at.1 IsVersionName)
cat_word_is word = cat_by_is word (position is_at word)

pub latest_word_is : (word : List ℕ) → IfOk (latest_word word) IsTypeName
latest_word_is word =
    where_so_is IsTypeName (bytes_eq (take 4 word) (codes ".../")) _
    (where_so_is IsTypeName (bytes_eq (drop (length (drop 4 word) - 7) (drop 4 word)) (codes "/LATEST")) _
    (type_word_is (take (length (drop 4 word) - 7) (drop 4 word))))

pub beside_is : (path name : List ℕ) (parent : Option (List ℕ)) → option_map_or (λ p. is_ok (join_of p name)) parent true ≡ true
    → IfSome parent (MakesPath name)
beside_is path name None e = tt
beside_is path name (Some parent) e = e
