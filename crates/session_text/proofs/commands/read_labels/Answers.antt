use Rattle.std.proofs.Common.{◌≡◌, ℕ, Bool, false, cond, List, [], ◌∷◌, refl, sym, ap, ◌∙◌}
use Rattle.std.specs.Prelude.{Ok, codes}
use Rattle.cc_names.specs.declared.commands.Change.TheVariants as changes
use Rattle.session_text.specs.Commands.{by_record, read_labels}
use Rattle.session_text.specs.Shapes.{has_flag, without_flag, type_path}
use Rattle.session_text.specs.Words.{says}
use Rattle.session_text.proofs.commands.read_labels.Goals as goal

without_flag-none : (flag : List ℕ) (words : List (List ℕ)) → has_flag flag words ≡ false → without_flag flag words ≡ words
without_flag-none flag [] h = refl
without_flag-none flag (word ∷ words) h = ap (λ v. cond v words (word ∷ words)) h

says_label : (replace : Bool) (words left : List (List ℕ)) (v label path : List ℕ) → has_flag (codes "-config") words ≡ false
    → left ≡ without_flag (codes "-config") words → type_path left ≡ Ok (label, path)
    → read_labels replace words v ≡ Ok (changes.Mklabel v replace label path)
says_label replace words left v label path h l e =
    ap (λ b. cond b (by_record v replace (without_flag (codes "-config") words))
    (says (λ at. changes.Mklabel v replace at.0 at.1) (type_path words))) h
    ∙ ap (λ w. says (λ at. changes.Mklabel v replace at.0 at.1) (type_path w)) (sym (l
    ∙ without_flag-none (codes "-config") words h))
    ∙ ap (λ s. says (λ at. changes.Mklabel v replace at.0 at.1) s) e

pub returns : goal.returns
returns c =
    says_label c.args.replace c.args.words c.take_flag.new.words c.args.view c.in_ok-label.label c.in_ok-label.path
    (sym c.take_flag.ensures.has ∙ c.if-take_flag.false) c.take_flag.ensures.left c.in_ok-label.ensures
