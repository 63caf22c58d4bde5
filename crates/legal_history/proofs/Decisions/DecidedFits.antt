-- Whatever row is decided fits.
use Rattle.std.proofs.Common.{◌≡◌, refl, sym, subst, ℕ, Bool, true, false, not, ◌&&◌, nat_le, ◌+◌, Option, Some, None, Result}
use Rattle.std.proofs.Common.{Ok, Err, List, [], ◌∷◌, ◌++◌, map, length}
use Rattle.std.proofs.lemmas.List.{reverse-append}
use Rattle.std.specs.Prelude.{is_some, reverse}
use Rattle.std.specs.Bool.{⊤}
use Rattle.std.specs.List.{list_all}
use Rattle.std.specs.Ordering.{nat_cmp}
use Rattle.std.specs.declared.cmp.Ordering.{Ordering}
use Rattle.std.specs.declared.cmp.Ordering.TheVariants.{Less, Equal, Greater}
use Rattle.std.specs.FinMap.Entries.{put, find, by_order}
use Rattle.cc_names.specs.References.{held_at, is_held}
use Rattle.cc_names.specs.Versions.{version_id, put_if}
use Rattle.cc_names.specs.declared.changes.VersionId.{VersionId}
use Rattle.cc_names.specs.declared.commands.Command.{Command}
use Rattle.cc_names.specs.declared.commands.Command.TheVariants as commands
use Rattle.cc_names.specs.declared.commands.Change.TheVariants as changes
use Rattle.cc_names.specs.declared.refusals.Refusal.{Refusal}
use Rattle.cc_names.specs.declared.rows.Deed.{Deed}
use Rattle.cc_names.specs.declared.rows.Deed.TheVariants as deeds
use Rattle.cc_names.specs.declared.rows.Kind.TheVariants.{File, Directory}
use Rattle.cc_names.specs.declared.rows.Placed.{Placed}
use Rattle.cc_names.specs.declared.rows.TypeKind.TheVariants as type_kinds
use Rattle.cc_names.specs.declared.units.Unit.{Unit}
use Rattle.cc_names.proofs.Common.{and_first, and_second}
use Rattle.make_grammar.specs.Graphs.{units}
use Rattle.base_model.specs.Rows.{Base, size}
use Rattle.legal_history.specs.Commands.Found.{for_object}
use Rattle.legal_history.specs.Commands.Tests.{needs_view}
use Rattle.base_model.specs.Changes.{tree, objects_held, live_row}
use Rattle.base_model.specs.Closures.{Inputs, Listing, closure, listing, listing_of, version_listed, with_version_at, greater_of}
use Rattle.base_model.specs.Closures.{is_version_of, as_placed, placed_by}
use Rattle.base_model.specs.Conditions.{is_label_type, is_placed, may_be_scrubbed}
use Rattle.legal_history.specs.Commands.Decisions.{Makes, Begins, Scene, first_refusal, unless_refused, needs_room}
use Rattle.base_model.specs.Fits.{fits, is_base}
use Rattle.base_model.specs.Texts.{texts}
use Rattle.legal_history.specs.Commands.LabelLines.{mklabel_config, mklabel_config_of, mklabel_config_tests, labels_or_nothing}
use Rattle.legal_history.specs.Commands.Lines.{decision}
use Rattle.legal_history.specs.Queries.QueryLines.{query_answer}
use Rattle.legal_history.specs.Commands.ObjectLines.{due_among, due_objects, scrub, scrub_of, clearmake_tests, build_unless}
use Rattle.legal_history.proofs.Decisions.CheckoutFits.{checkout_fits, mkbranch_fits, uncheckout_fits, checkin_fits}
use Rattle.legal_history.proofs.Decisions.DirectoryFits.{mkelem_fits, rmname_fits, mv_fits}
use Rattle.legal_history.proofs.Decisions.LabelFits.{mklabel_fits, rmlabel_fits, mkarrow_fits}
use Rattle.legal_history.proofs.Decisions.SaveFits.{save_fits}
use Rattle.legal_history.proofs.Decisions.FileFits.{Fits, RowFits, mkview_fits, rmview_fits, setcs_fits, rm_fits, mktype_fits}
use Rattle.legal_history.proofs.Decisions.FileFits.{rmdo_fits}
use Rattle.legal_history.proofs.Decisions.Handed.{past_is, object_is, row_is, answer_is, answered_is}
use Rattle.base_model.proofs.LabelsHold.{greater, all_listed, version_id_listed}
use Rattle.base_model.proofs.Tables.{tied}
use Rattle.legal_history.proofs.Decisions.Passed.{AllPass, unless_passes, fits_by}
use Rattle.base_model.proofs.VersionsStay.{is_version}

-- each entry of a listing is a version of its element
abbrev AllVersions : Base → Listing → Type 0
AllVersions b [] = ⊤
AllVersions b (entry ∷ listing) = (is_version_of b entry.0 entry.1 ≡ true) × AllVersions b listing

by_place : (b : Base) (o : Ordering) (one two three : Listing) → AllVersions b one → AllVersions b two → AllVersions b three
    → AllVersions b (by_order o one two three)
by_place b Less one two three f g h = f
by_place b Equal one two three f g h = g
by_place b Greater one two three f g h = h

put_version : (b : Base) (e r : ℕ) (listing : Listing) → ((f : ℕ) → nat_cmp e f ≡ Equal → is_version_of b f r ≡ true)
    → is_version_of b e r ≡ true → AllVersions b listing → AllVersions b (put nat_cmp e r listing)
put_version b e r [] tied is h = (is, tt)
put_version b e r (entry ∷ listing) tied is h = by (nat_cmp e entry.0) refl (put_version b e r listing tied is h.1)
  where
    by : (o : Ordering) → nat_cmp e entry.0 ≡ o → AllVersions b (put nat_cmp e r listing)
        → AllVersions b (by_order o ((e, r) ∷ entry ∷ listing) ((entry.0, r) ∷ listing) (entry ∷ put nat_cmp e r listing))
    by Less place rest = (is, h)
    by Equal place rest = (tied entry.0 place, h.1)
    by Greater place rest = (h.0, rest)

greatest_version : (b : Base) (e r : ℕ) (o : Option ℕ) → is_version_of b e r ≡ true
    → ((m : ℕ) → o ≡ Some m → is_version_of b e m ≡ true) → is_version_of b e (greater_of r o) ≡ true
greatest_version b e r None own others = own
greatest_version b e r (Some m) own others = greater (λ r. is_version_of b e r ≡ true) r m own (others m refl)

one_version : (b : Base) (row : ℕ) (p : Option VersionId) (inputs : Inputs)
    → ((q : VersionId) → p ≡ Some q → version_id (tree b) row ≡ Some q) → AllVersions b (listing_of b inputs)
    → AllVersions b (with_version_at row p (listing_of b inputs))
one_version b row None inputs is h = h
one_version b row (Some p) inputs is h =
    let r = greater_of row (find nat_cmp p.element (listing_of b inputs)) in
    let version : is_version_of b p.element r ≡ true =
    greatest_version b p.element row (find nat_cmp p.element (listing_of b inputs))
    (is_version b p.element row p (is p refl) refl) (λ m found. (all_listed b inputs).lists p.element m found) in
    put_version b p.element r (listing_of b inputs) (λ f same. subst (λ f. is_version_of b f r ≡ true) (tied p.element f same)
    version) version h

all_versions : (b : Base) (inputs : Inputs) → AllVersions b (listing_of b inputs)
all_versions b [] = tt
all_versions b (input ∷ inputs) = one_version b input.1 (version_listed b input.1) inputs (version_id_listed b input.1)
    (all_versions b inputs)

all_placed : (b : Base) (listing : Listing) → AllVersions b listing → list_all (is_placed b) (map as_placed listing) ≡ true
all_placed b [] h = refl
all_placed b (entry ∷ listing) h = let first : is_version_of b entry.0 entry.1 ≡ true = h.0 in let rest =
    all_placed b listing h.1 in rw (first, rest) refl

labels_made : (s : Scene) (tests : List (Option Refusal)) (label : List ℕ) (placed : List Placed)
    → list_all (is_placed s.base) placed ≡ true →
    (AllPass tests → is_label_type s.base label ≡ true) → RowFits s (labels_or_nothing s tests label placed)
labels_made s tests label [] all type = answer_is (Fits s) tests [] tt
labels_made s tests label (one ∷ more) all type =
    row_is (Fits s) s tests (deeds.Labels label (one ∷ more)) (λ m.
    let typed : is_label_type s.base label ≡ true = type m.pass in
    fits_by s.base (deeds.Labels label (one ∷ more)) m.room (rw (typed, all) refl))

mklabel_config_fits : (s : Scene) (v : List ℕ) (replace : Bool) (path label : List ℕ)
    → RowFits s (mklabel_config s v replace path label)
mklabel_config_fits s v replace path label =
    past_is (Fits s) (needs_view s.base v ∷ []) (for_object path (held_at (objects_held s.base) v path)
    (mklabel_config_of s replace label))
    (λ before. object_is (Fits s) path (held_at (objects_held s.base) v path) (mklabel_config_of s replace label) (λ id is.
    labels_made s (mklabel_config_tests s replace label id) label (placed_by s.base id)
    (all_placed s.base (listing s.base id) (all_versions s.base (closure s.base id))) (λ pass. unless_passes _ _ pass.0)))

-- each object that is due may be scrubbed
list_all_behind : {A : Type 0} (test : A → Bool) (xs ys : List A) → list_all test xs ≡ true → list_all test ys ≡ true
    → list_all test (xs ++ ys) ≡ true
list_all_behind test [] ys h g = g
list_all_behind test (x ∷ xs) ys h g =
    let first : test x ≡ true = and_first _ _ h in let rest = list_all_behind test xs ys (and_second _ _ h) g in
    rw (first, rest) refl

list_all_reversed : {A : Type 0} (test : A → Bool) (xs : List A) → list_all test xs ≡ true → list_all test (reverse xs) ≡ true
list_all_reversed test [] h = refl
list_all_reversed test (x ∷ xs) h =
    let first : test x ≡ true = and_first _ _ h in
    let own : list_all test (x ∷ []) ≡ true = rw first refl in
    subst (λ l. list_all test l ≡ true) (sym (reverse-append (x ∷ []) xs))
    (list_all_behind test (reverse xs) (x ∷ []) (list_all_reversed test xs (and_second _ _ h)) own)

due_fit : (b : Base) (moment age : ℕ) (rows : Base) → list_all (may_be_scrubbed b) (due_among b moment age rows) ≡ true
due_fit b moment age [] = refl
due_fit b moment age (row ∷ older) = by (is_some (live_row b (size older)) && not (is_held (objects_held b) (size older)))
    (nat_le (row.moment + age) moment) refl (due_fit b moment age older)
  where
    by : (x y : Bool) → may_be_scrubbed b (size older) ≡ x → list_all (may_be_scrubbed b) (due_among b moment age older) ≡ true →
        list_all (may_be_scrubbed b) (put_if (x && y) (size older) (due_among b moment age older)) ≡ true
    by true true may rest = rw (may, rest) refl
    by true false may rest = rest
    by false true may rest = rest
    by false false may rest = rest

scrub_made : (s : Scene) (objects : List ℕ) → list_all (may_be_scrubbed s.base) objects ≡ true → RowFits s (scrub_of s objects)
scrub_made s [] all = answer_is (Fits s) [] [] tt
scrub_made s (id ∷ ids) all = row_is (Fits s) s [] (deeds.Scrub (id ∷ ids))
    (λ m. fits_by s.base (deeds.Scrub (id ∷ ids)) m.room all)

scrub_fits : (s : Scene) (age : ℕ) → RowFits s (scrub s age)
scrub_fits s age = scrub_made s (due_objects s.base s.moment age) (list_all_reversed (may_be_scrubbed s.base)
    (due_among s.base s.moment age s.base) (due_fit s.base s.moment age s.base))

-- a build makes no row at its begin
begin_fits : (s : Scene) (refusal : Option Refusal) (us : List Unit) → RowFits s (unless_refused refusal (Begins us))
begin_fits s (Some refusal) us d h = absurd (cc)
begin_fits s None us d h = let is : Begins us ≡ d = cc in subst (Fits s) is tt

build_fits : (s : Scene) (refusal : Option Refusal) (us : Result (List Unit) Refusal) → RowFits s (build_unless s refusal us)
build_fits s (Some refusal) us d h = absurd (cc)
build_fits s None (Err refusal) d h = absurd (cc)
build_fits s None (Ok us) d h = begin_fits s (needs_room s (length us)) us d h

-- what is decided of a command
command_fits : (s : Scene) (command : Command) → is_base s.base ≡ true → RowFits s (decision s command)
command_fits s (commands.Change (changes.Mkview v)) base = mkview_fits s v
command_fits s (commands.Change (changes.Rmview v force)) base = rmview_fits s v force
command_fits s (commands.Change (changes.Setcs v text)) base = setcs_fits s v text
command_fits s (commands.Change (changes.Mkelem v nco path)) base = mkelem_fits s v nco File path
command_fits s (commands.Change (changes.Mkdir v nco path)) base = mkelem_fits s v nco Directory path
command_fits s (commands.Change (changes.Checkout v unreserved path)) base = checkout_fits s v unreserved path base
command_fits s (commands.Change (changes.Mkbranch v nco branch path)) base = mkbranch_fits s v nco branch path base
command_fits s (commands.Change (changes.Save v path text)) base = save_fits s v path text base
command_fits s (commands.Change (changes.Rm v path)) base = rm_fits s v path
command_fits s (commands.Change (changes.Checkin v identical path)) base = checkin_fits s v identical path base
command_fits s (commands.Change (changes.Uncheckout v path)) base = uncheckout_fits s v path
command_fits s (commands.Change (changes.Rmname v path)) base = rmname_fits s v path
command_fits s (commands.Change (changes.Mv v path name)) base = mv_fits s v path name
command_fits s (commands.Change (changes.Mklbtype name)) base = mktype_fits s type_kinds.Label name
command_fits s (commands.Change (changes.Mkbrtype name)) base = mktype_fits s type_kinds.Branch name
command_fits s (commands.Change (changes.Mklabel v replace label path)) base = mklabel_fits s v replace label path base
command_fits s (commands.Change (changes.Rmlabel v label path)) base = rmlabel_fits s v label path
command_fits s (commands.Change (changes.Rmdo v path)) base = rmdo_fits s v path
command_fits s (commands.Change (changes.Scrub age)) base = scrub_fits s age
command_fits s (commands.Change (changes.MklabelConfig v replace path label)) base = mklabel_config_fits s v replace path label
command_fits s (commands.Change (changes.Mkarrow v path version)) base = mkarrow_fits s v path version base
command_fits s (commands.Query query) base = answered_is (Fits s) (query_answer s.base query) (λ text. tt)
command_fits s (commands.Build asked) base =
    build_fits s (first_refusal (clearmake_tests s asked.view)) (units (texts s.base asked.view) asked.file asked.macros
    asked.goals)

-- A row that is decided fits, for every command that makes one.
pub decided_fits : (s : Scene) (command : Command) → is_base s.base ≡ true → (made : Deed) → decision s command ≡ Ok (Makes made)
    → fits s.base made ≡ true
decided_fits s command base made h = command_fits s command base (Makes made) h
