-- Whatever is decided of a command says what a decision says, for each command.
use Rattle.std.proofs.Common.{ℕ, Bool, not, List, [], ◌∷◌}
use Rattle.cc_names.specs.References.{held_at}
use Rattle.cc_names.specs.declared.commands.Command.{Command}
use Rattle.cc_names.specs.declared.commands.Command.TheVariants as commands
use Rattle.cc_names.specs.declared.commands.Change.TheVariants as changes
use Rattle.cc_names.specs.declared.rows.Deed.TheVariants as deeds
use Rattle.cc_names.specs.declared.rows.Kind.{Kind}
use Rattle.cc_names.specs.declared.rows.Kind.TheVariants.{File, Directory}
use Rattle.cc_names.specs.declared.rows.TypeKind.TheVariants as type_kinds
use Rattle.legal_history.specs.Builds.Active.{building}
use Rattle.base_model.specs.Changes.{objects_held}
use Rattle.legal_history.specs.Commands.CheckoutLines.{checkout_of, mkbranch_of, mkbranch_tests, out_unless, checkin_of}
use Rattle.legal_history.specs.Commands.CheckoutLines.{checkin_tests, uncheckout_of}
use Rattle.legal_history.specs.Commands.CheckoutTests.{needs_out}
use Rattle.legal_history.specs.Commands.Decisions.{Scene}
use Rattle.legal_history.specs.Commands.DirectoryLines.{mkelem, mkelem_in, rmname_in, rmname_tests, mv_in, mv_tests}
use Rattle.legal_history.specs.Commands.FileLines.{last_name, mkview_tests, rmview_tests, setcs_tests, save_tests, save_deed}
use Rattle.legal_history.specs.Commands.FileLines.{rm_tests}
use Rattle.legal_history.specs.Commands.Found.{for_selected, for_element, for_object}
use Rattle.legal_history.specs.Commands.LabelLines.{mklabel_of, mklabel_tests, rmlabel_of, rmlabel_tests, mklabel_config_of}
use Rattle.legal_history.specs.Commands.LabelLines.{mklabel_config_tests, mkarrow_of, mkarrow_from, mkarrow_tests, version_named}
use Rattle.base_model.specs.Closures.{placed_by}
use Rattle.legal_history.specs.Commands.Lines.{decision}
use Rattle.legal_history.specs.Queries.QueryLines.{query_answer}
use Rattle.legal_history.specs.Commands.ObjectLines.{rmdo_tests, due_objects}
use Rattle.base_model.specs.Seen.{at}
use Rattle.base_model.specs.Views.{out}
use Rattle.legal_history.specs.Commands.Tests.{needs_view, needs_idle, needs_free_path, needs_free_type}
use Rattle.legal_history.proofs.Decisions.DecidedSays.{Says, by_row, by_checkout, was_idle, saved_suits, by_labels, by_scrub}
use Rattle.legal_history.proofs.Decisions.DecidedSays.{by_build}
use Rattle.legal_history.proofs.Decisions.Handed.{IfDecided, past_is, selected_is, element_is, object_is, version_is, change_is}
use Rattle.legal_history.proofs.Decisions.Handed.{answered_is}

by_element : (s : Scene) (command : Command) (v path : List ℕ) (kind : Kind) (nco : Bool)
    → IfDecided (Says s command) (mkelem s v nco kind path)
by_element s command v path kind nco =
    change_is (Says s command) s v path (mkelem_in s v nco kind path)
    (λ d changes. by_row s command (needs_free_path s.base v path d (last_name path) ∷ [])
    (deeds.Mkelem v d (last_name path) kind (not nco)) (λ p. tt))

-- What was decided of a command says this.
pub decided_says : (s : Scene) (command : Command) → IfDecided (Says s command) (decision s command)
decided_says s (commands.Change (changes.Mkview v)) = by_row s _ (mkview_tests s v) (deeds.Mkview v) (λ p. tt)
decided_says s (commands.Change (changes.Rmview v force)) = by_row s _ (rmview_tests s v force) (deeds.Rmview v)
    (λ p. was_idle (building s.active v) p.1.0)
decided_says s (commands.Change (changes.Setcs v text)) = by_row s _ (setcs_tests s v text) (deeds.Setcs v text) (λ p. tt)
decided_says s (commands.Change (changes.Mkelem v nco path)) = by_element s _ v path File nco
decided_says s (commands.Change (changes.Mkdir v nco path)) = by_element s _ v path Directory nco
decided_says s (commands.Change (changes.Checkout v unreserved path)) =
    past_is (Says s _) (needs_view s.base v ∷ needs_idle s v ∷ []) (for_selected path (at s.base v path)
    (checkout_of s v unreserved))
    (λ before. selected_is (Says s _) path (at s.base v path) (checkout_of s v unreserved)
    (λ e picked is. by_checkout s _ v unreserved e picked))
decided_says s (commands.Change (changes.Mkbranch v nco branch path)) =
    past_is (Says s _) (needs_view s.base v ∷ needs_idle s v ∷ []) (for_selected path (at s.base v path)
    (mkbranch_of s v nco branch))
    (λ before. selected_is (Says s _) path (at s.base v path) (mkbranch_of s v nco branch)
    (λ e picked is. by_row s _ (mkbranch_tests s v branch e) (deeds.Branch v e picked.row branch (out_unless nco)) (λ p. tt)))
decided_says s (commands.Change (changes.Save v path text)) = by_row s _ (save_tests s v path)
    (save_deed v path text (at s.base v path)) (λ p. saved_suits s.active (commands.Change (changes.Save v path text)) v path text
    (at s.base v path))
decided_says s (commands.Change (changes.Rm v path)) = by_row s _ (rm_tests s v path) (deeds.Rm v path) (λ p. tt)
decided_says s (commands.Change (changes.Checkin v identical path)) =
    past_is (Says s _) (needs_view s.base v ∷ needs_idle s v ∷ []) (for_element path (at s.base v path)
    (checkin_of s v identical path))
    (λ before. element_is (Says s _) path (at s.base v path) (checkin_of s v identical path)
    (λ e. by_row s _ (checkin_tests s v identical path e) (deeds.Checkin v e) (λ p. tt)))
decided_says s (commands.Change (changes.Uncheckout v path)) =
    past_is (Says s _) (needs_view s.base v ∷ needs_idle s v ∷ []) (for_element path (at s.base v path) (uncheckout_of s v path))
    (λ before. element_is (Says s _) path (at s.base v path) (uncheckout_of s v path)
    (λ e. by_row s _ (needs_out path (out s.base v e) ∷ []) (deeds.Uncheckout v e) (λ p. tt)))
decided_says s (commands.Change (changes.Rmname v path)) = change_is (Says s _) s v path (rmname_in s v path)
    (λ d changes. by_row s _ (rmname_tests s v path d) (deeds.Rmname v d (last_name path)) (λ p. tt))
decided_says s (commands.Change (changes.Mv v path name)) = change_is (Says s _) s v path (mv_in s v path name)
    (λ d changes. by_row s _ (mv_tests s v path name d) (deeds.Mv v d (last_name path) name) (λ p. tt))
decided_says s (commands.Change (changes.Mklbtype name)) = by_row s _ (needs_free_type s.base name ∷ [])
    (deeds.Mktype type_kinds.Label name) (λ p. tt)
decided_says s (commands.Change (changes.Mkbrtype name)) = by_row s _ (needs_free_type s.base name ∷ [])
    (deeds.Mktype type_kinds.Branch name) (λ p. tt)
decided_says s (commands.Change (changes.Mklabel v replace label path)) =
    past_is (Says s _) (needs_view s.base v ∷ []) (for_selected path (at s.base v path) (mklabel_of s v replace label))
    (λ before. selected_is (Says s _) path (at s.base v path) (mklabel_of s v replace label)
    (λ e picked is. by_row s _ (mklabel_tests s v replace label e picked) (deeds.Label label e picked.row) (λ p. tt)))
decided_says s (commands.Change (changes.Rmlabel v label path)) =
    past_is (Says s _) (needs_view s.base v ∷ []) (for_element path (at s.base v path) (rmlabel_of s label path))
    (λ before. element_is (Says s _) path (at s.base v path) (rmlabel_of s label path)
    (λ e. by_row s _ (rmlabel_tests s label path e) (deeds.Unlabel label e) (λ p. tt)))
decided_says s (commands.Change (changes.Rmdo v path)) = by_row s _ (rmdo_tests s v path) (deeds.Drop v path)
    (λ p. was_idle (building s.active v) p.1.0)
decided_says s (commands.Change (changes.Scrub age)) = by_scrub s age (due_objects s.base s.moment age)
decided_says s (commands.Change (changes.MklabelConfig v replace path label)) =
    past_is (Says s _) (needs_view s.base v ∷ []) (for_object path (held_at (objects_held s.base) v path)
    (mklabel_config_of s replace label))
    (λ before. object_is (Says s _) path (held_at (objects_held s.base) v path) (mklabel_config_of s replace label)
    (λ id is. by_labels s _ (mklabel_config_tests s replace label id) label (placed_by s.base id)))
decided_says s (commands.Change (changes.Mkarrow v path version)) =
    past_is (Says s _) (needs_view s.base v ∷ []) (for_selected path (at s.base v path) (mkarrow_of s v path version))
    (λ before. selected_is (Says s _) path (at s.base v path) (mkarrow_of s v path version)
    (λ e picked is. version_is (Says s _) path (version_named s.base e version) (mkarrow_from s v e picked)
    (λ tail found. by_row s _ (mkarrow_tests s v e picked tail) (deeds.Arrow e tail picked.row) (λ p. tt))))
decided_says s (commands.Query query) = answered_is (Says s (commands.Query query)) (query_answer s.base query) (λ text. tt)
decided_says s (commands.Build build) = by_build s build
