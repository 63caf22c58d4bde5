-- What the next of some commands asks for is given by the word of its line.
use Rattle.std.proofs.Common.{◌≡◌, ℕ, Bool, true, false, cond, Some, List, [], ◌∷◌, ◌++◌, refl, sym, subst}
use Rattle.std.specs.Prelude.{Ok, Err, IfOk, codes, map, not}
use Rattle.std.specs.List.{AllByRecursion, list_all}
use Rattle.std.specs.Str.{bytes_eq}
use Rattle.std.proofs.lemmas.Slice.Eq.{bytes_eq-Decides}
use Rattle.cc_names.proofs.Common.{and_first, and_second}
use Rattle.cc_names.specs.declared.commands.Command.{Command}
use Rattle.cc_names.specs.declared.commands.Command.TheVariants as commands
use Rattle.session_text.specs.declared.lanes.Ahead.{Ahead}
use Rattle.session_text.specs.declared.lanes.Ahead.TheVariants.{Act, Build}
use Rattle.session_text.specs.Ahead.{ahead_of, ahead_by}
use Rattle.session_text.specs.Commands.{Line, Reader, view_table, type_table, query_table, plain, build_on, types_on, table}
use Rattle.session_text.specs.Commands.{said_in, command_of}
use Rattle.session_text.specs.Words.{Said, says}

-- the command of these words, where they say one, asks for this
abbrev Asks : Ahead → Said Command → Type 0
Asks ahead said = IfOk said (λ command. ahead_of (Some command) ≡ ahead)

made : {X : Type 0} (ahead : Ahead) (make : X → Command) (said : Said X) → ((x : X) → ahead_of (Some (make x)) ≡ ahead)
    → Asks ahead (says make said)
made ahead make (Ok x) f = f x
made ahead make (Err cause) f = tt

-- each line of the table says commands that ask for the same
TellsAhead : Line → Type 0
TellsAhead line = (words : List (List ℕ)) (text : List ℕ) → Asks (ahead_by line.word) (line.says words text)

-- all words but one tell a command that acts
abbrev is_no_build : {X : Type 0} → Reader X → Bool
is_no_build it = not (bytes_eq it.word (codes "clearmake"))

acts : (word : List ℕ) → not (bytes_eq word (codes "clearmake")) ≡ true → ahead_by word ≡ Act
acts word h = by (bytes_eq word (codes "clearmake")) h
  where
    by : (same : Bool) → not same ≡ true → cond same Build Act ≡ Act
    by true h = absurd (cc)
    by false h = refl

plain_asks : {X : Type 0} (make : X → Command) (rows : List (Reader X)) (lines : List Line)
    → ((x : X) → ahead_of (Some (make x)) ≡ Act) → list_all is_no_build rows ≡ true → AllByRecursion TellsAhead lines
    → AllByRecursion TellsAhead (map (plain make) rows ++ lines)
unfolding TellsAhead
plain_asks make [] lines so h later = later
plain_asks make (it ∷ rows) lines so h later = (
  (λ ws t. subst (λ ahead. Asks ahead (says make (it.reads ws))) (sym (acts it.word (and_first _ _ h)))
      (made Act make (it.reads ws) so)),
  plain_asks make rows lines so (and_second _ _ h) later,
)

table_asks : AllByRecursion TellsAhead table
unfolding TellsAhead
table_asks = (
  (λ ws t. made Act commands.Change _ (λ change. refl)),
  (
    (λ ws t. made Act commands.Change _ (λ change. refl)),
    plain_asks commands.Change view_table types_on (λ change. refl) refl
        (plain_asks commands.Change type_table build_on (λ change. refl) refl (
          (λ ws t. made Build commands.Build _ (λ asked. refl)),
          plain_asks commands.Query query_table [] (λ query. refl) refl tt,
        )),
  ),
)

in_table : (lines : List Line) (word : List ℕ) (words : List (List ℕ)) (text : List ℕ) → AllByRecursion TellsAhead lines
    → Asks (ahead_by word) (said_in lines word words text)
unfolding TellsAhead
in_table [] word words text h = tt
in_table (line ∷ lines) word words text h = by (bytes_eq word line.word) refl (in_table lines word words text h.1)
  where
    by : (same : Bool) → bytes_eq word line.word ≡ same → Asks (ahead_by word) (said_in lines word words text)
        → Asks (ahead_by word) (cond same (line.says words text) (said_in lines word words text))
    by true e later = subst (λ w. Asks (ahead_by w) (line.says words text)) (sym ((bytes_eq-Decides word line.word).0 e))
        (h.0 words text)
    by false e later = later

-- the command of a line asks for what its word tells
pub command_asks : (word : List ℕ) (words : List (List ℕ)) (text : List ℕ)
    → IfOk (command_of word words text) (λ command. ahead_of (Some command) ≡ ahead_by word)
command_asks word words text = in_table table word words text table_asks
