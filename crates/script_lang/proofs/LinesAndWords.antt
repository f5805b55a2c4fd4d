-- The words of a line, one after the other.
use Rattle.std.proofs.Common.{◌≡◌, ℕ, List, [], ◌∷◌, length, filter, unwrap_or, Option, Some, None, refl, sym, ap, arith, suc}
use Rattle.std.specs.List.{slice_split}
use Rattle.script_definitions.specs.ScriptWords.{is_blank, is_some_word, words_of}
use Rattle.script_lang.specs.Words.{blank_parts, words_left}

-- a part that is a word, and an empty one
pub word_found : (text part : List ℕ) (after : Option (List ℕ)) → slice_split is_blank text ≡ part ∷ blank_parts after → (length part ≡ 0 → ⊥) → words_of text ≡ part ∷ words_of (unwrap_or after [])
word_found text [] after e some = absurd (some refl)
word_found text (b ∷ part) None e some = ap (λ parts. filter is_some_word parts) e
word_found text (b ∷ part) (Some rest) e some = ap (λ parts. filter is_some_word parts) e

pub no_word_there : (text part : List ℕ) (after : Option (List ℕ)) → slice_split is_blank text ≡ part ∷ blank_parts after → length part ≡ 0 → words_left after ≡ words_of text
no_word_there text [] None e none = sym (ap (λ parts. filter is_some_word parts) e)
no_word_there text [] (Some rest) e none = sym (ap (λ parts. filter is_some_word parts) e)
no_word_there text (b ∷ part) after e none = absurd (let k : suc (length part) ≡ 0 = none in omega arith)
