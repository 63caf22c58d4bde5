-- Whether a line says a command, and whether that takes a body, does not depend on the body.
use Rattle.std.proofs.Common.{◌≡◌, ℕ, Bool, true, false, cond, List, [], ◌∷◌, ◌++◌, refl}
use Rattle.std.specs.Prelude.{Ok, Err, map}
use Rattle.std.specs.List.{AllByRecursion}
use Rattle.std.specs.Str.{bytes_eq}
use Rattle.cc_names.specs.declared.commands.Change.{Change}
use Rattle.cc_names.specs.declared.commands.Command.{Command}
use Rattle.cc_names.specs.declared.commands.Command.TheVariants as commands
use Rattle.session_text.specs.Commands.{Line, Reader, view_table, type_table, query_table, plain, build_on, types_on, table}
use Rattle.session_text.specs.Commands.{said_in, command_of, takes_body}
use Rattle.session_text.specs.Sessions.{cause_in, body_follows}
use Rattle.session_text.specs.Words.{Said, says}

-- the same is wrong with both, and body lines may follow both or none
abbrev pub AreAlike : Said Command → Said Command → Type 0
AreAlike said other = (cause_in said ≡ cause_in other) × (body_follows said ≡ body_follows other)

-- a line of the table says alike with each body
IsAlike : Line → Type 0
IsAlike line = (words : List (List ℕ)) (text other : List ℕ) → AreAlike (line.says words text) (line.says words other)

alike : {X : Type 0} (make also : X → Change) (said : Said X) → ((x : X)
    → takes_body (commands.Change (make x)) ≡ takes_body (commands.Change (also x)))
    → AreAlike (says commands.Change (says make said)) (says commands.Change (says also said))
alike make also (Ok x) f = (refl, f x)
alike make also (Err cause) f = (refl, refl)

-- a command that takes no body never looks at it
plain_alike : {X : Type 0} (make : X → Command) (rows : List (Reader X)) (lines : List Line) → AllByRecursion IsAlike lines
    → AllByRecursion IsAlike (map (plain make) rows ++ lines)
unfolding IsAlike
plain_alike make [] lines later = later
plain_alike make (it ∷ rows) lines later = ((λ ws t u. (refl, refl)), plain_alike make rows lines later)

table_alike : AllByRecursion IsAlike table
unfolding IsAlike
table_alike = (
  (λ ws t u. alike _ _ _ (λ x. refl)),
  (
    (λ ws t u. alike _ _ _ (λ x. refl)),
    plain_alike commands.Change view_table types_on
        (plain_alike commands.Change type_table build_on ((λ ws t u. (refl, refl)), plain_alike commands.Query query_table [] tt)),
  ),
)

in_table : (lines : List Line) (word : List ℕ) (words : List (List ℕ)) (text other : List ℕ) → AllByRecursion IsAlike lines
    → AreAlike (said_in lines word words text) (said_in lines word words other)
unfolding IsAlike
in_table [] word words text other h = (refl, refl)
in_table (line ∷ lines) word words text other h = by (bytes_eq word line.word) (h.0 words text other)
    (in_table lines word words text other h.1)
  where
    by : (same : Bool) → AreAlike (line.says words text) (line.says words other)
        → AreAlike (said_in lines word words text) (said_in lines word words other)
        → AreAlike (cond same (line.says words text) (said_in lines word words text))
        (cond same (line.says words other) (said_in lines word words other))
    by true here later = here
    by false here later = later

-- a line says a command whatever its body is
pub commands_alike : (word : List ℕ) (words : List (List ℕ)) (text other : List ℕ)
    → AreAlike (command_of word words text) (command_of word words other)
commands_alike word words text other = in_table table word words text other table_alike
