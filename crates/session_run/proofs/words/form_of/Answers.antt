-- four words are those of a large session, or of no form
use Rattle.std.proofs.Common.{◌≡◌, ℕ, ◌<◌, ◌≤◌, List, [], ◌∷◌, length, get_or, ◌∙◌, arith}
use Rattle.session_run.specs.Calls.Asked.{big_form, form_of}
use Rattle.session_run.proofs.words.form_of.Goals as goal

four_words : (words : List (List ℕ)) (word seed size : List ℕ) → 4 ≤ length words → length words < 5
    → word ≡ get_or words 1 word → seed ≡ get_or words 2 seed → size ≡ get_or words 3 size
    → big_form word seed size ≡ form_of words
four_words [] word seed size many few one two three = absurd (omega (arith, many))
four_words (a ∷ []) word seed size many few one two three = absurd (omega (arith, many))
four_words (a ∷ b ∷ []) word seed size many few one two three = absurd (omega (arith, many))
four_words (a ∷ b ∷ c ∷ []) word seed size many few one two three = absurd (omega (arith, many))
four_words (a ∷ b ∷ c ∷ d ∷ []) word seed size many few one two three =
    let is_word : word ≡ b = one in
    let is_seed : seed ≡ c = two in
    let is_size : size ≡ d = three in
    rw (is_word, is_seed, is_size)
four_words (a ∷ b ∷ c ∷ d ∷ e ∷ more) word seed size many few one two three = absurd (omega (arith, few))

pub returns-in-len4 : goal.returns-in-len4
returns-in-len4 c =
    c.big_form.ensures ∙ four_words c.args.words.now _ _ _ c.in-len4.len_at_least c.in-len4.len_below
    c.word-item-then-words-lt5.is c.seed-item.is c.size-item.is
