-- Where lines stand right, the words of their commands are the first words of their lines.
use Rattle.std.proofs.Common.{◌≡◌, ℕ, List, [], ◌∷◌, ◌++◌, sym, ap, ◌∙◌, append_assoc}
use Rattle.std.specs.Prelude.{Ok, Err, IfOk, IsOk, map}
use Rattle.cc_names.specs.declared.commands.Command.{Command}
use Rattle.session_text.specs.CommandWords.{word_of}
use Rattle.session_text.specs.Commands.{command_of}
use Rattle.session_text.specs.Kinds.{Rest, kinds_of}
use Rattle.session_text.specs.Reading.{FindsCommand, IsRight}
use Rattle.session_text.specs.Sessions.{before_commands, body_of, commands_of}
use Rattle.session_text.specs.Words.{Said}
use Rattle.session_text.proofs.FormedCommands.{command_has_word}
use Rattle.session_text.proofs.Right.{right-command}

before_reported : (said : Said Command) (word : List ℕ) (commands : List Command) → IsOk said
    → IfOk said (λ command. word_of command ≡ word)
    → map word_of (before_commands said commands) ≡ word ∷ map word_of commands
before_reported (Ok command) word commands is has = ap (λ w. w ∷ map word_of commands) has
before_reported (Err cause) word commands is has = cc

-- where lines stand right, the word of the next command is the first, before those of the commands after it
pub words-one : (old new : Rest) (word : List ℕ) (words : List (List ℕ)) → FindsCommand old word words new
    → IsRight (kinds_of old.bytes)
    → map word_of (commands_of (kinds_of old.bytes)) ≡ word ∷ map word_of (commands_of (kinds_of new.bytes))
words-one old new word words found right =
    let body = body_of (kinds_of new.bytes) in
    ap (map word_of) found.same
    ∙ before_reported (command_of word words body) word (commands_of (kinds_of new.bytes))
    (right-command word words (kinds_of new.bytes) (found.found.right right)) (command_has_word word words body)

-- a word that was pushed stands after those before it
pub word-pushed : (all before after rest more : List (List ℕ)) (word text : List ℕ) → all ≡ before ++ rest → rest ≡ word ∷ more
    → text ≡ word → after ≡ before ++ text ∷ []
    → all ≡ after ++ more
word-pushed all before after rest more word text a r t p =
    a ∙ ap (λ v. before ++ v) (r ∙ ap (λ v. v ∷ more) (sym t)) ∙ sym (append_assoc before (text ∷ []) more)
    ∙ ap (λ v. v ++ more) (sym p)
