-- What a line's bytes are: UTF-8 or not, with bytes that no word may have or not.
use Rattle.std.proofs.Common.{◌≡◌, ℕ, Bool, true, false, not, cond, ◌&&◌, ◌||◌, List, [], ◌∷◌, filter, refl, sym, ◌∙◌, ap}
use Rattle.std.specs.List.{slice_split, onto_first, list_any}
use Rattle.std.specs.Str.{is_utf8, IsUtf8}
use Rattle.std.proofs.lemmas.Bool.{false_from_ne_true}
use Rattle.std.proofs.lemmas.Str.{is_utf8-from_IsUtf8, IsUtf8-from_is_utf8}
use mathlib.Core.Bool.{or_assoc}
use Rattle.script_definitions.specs.ScriptWords.{is_blank, is_some_word, words_of}
use Rattle.script_definitions.specs.ScriptText.{is_control}
use Rattle.script_definitions.proofs.PartsLaws.{HasFirst, split_has}

pub utf8_found : (bytes : List ℕ) → IsUtf8 bytes → is_utf8 bytes ≡ true
utf8_found bytes h = is_utf8-from_IsUtf8 bytes h

pub utf8_refused : (bytes : List ℕ) → (IsUtf8 bytes → ⊥) → is_utf8 bytes ≡ false
utf8_refused bytes h = false_from_ne_true (is_utf8 bytes) (λ e. h (IsUtf8-from_is_utf8 bytes e))

-- in some part
abbrev in_parts : List (List ℕ) → Bool
in_parts parts = list_any (λ word. list_any is_control word) parts

in_words : (parts : List (List ℕ)) → in_parts (filter is_some_word parts) ≡ in_parts parts
in_words [] = refl
in_words ([] ∷ parts) = in_words parts
in_words ((b ∷ part) ∷ parts) = ap (λ t. list_any is_control (b ∷ part) || t) (in_words parts)

in_first : (b : ℕ) (parts : List (List ℕ)) → HasFirst parts → in_parts (onto_first b parts) ≡ (is_control b || in_parts parts)
in_first b parts h = ap (λ ps. in_parts (onto_first b ps)) h.is ∙ or_assoc (is_control b) (list_any is_control h.first) (in_parts h.rest) ∙ ap (λ ps. is_control b || in_parts ps) (sym h.is)

control_step : (blank : Bool) (b : ℕ) (line : List ℕ) → is_blank b ≡ blank → list_any (λ b. not (is_blank b) && is_control b) line ≡ in_parts (slice_split is_blank line) → ((not blank && is_control b) || list_any (λ b. not (is_blank b) && is_control b) line) ≡ in_parts (cond blank ([] ∷ slice_split is_blank line) (onto_first b (slice_split is_blank line)))
control_step true b line is rest = rest
control_step false b line is rest = ap (λ t. is_control b || t) rest ∙ sym (in_first b (slice_split is_blank line) (split_has is_blank line))

in_split : (line : List ℕ) → list_any (λ b. not (is_blank b) && is_control b) line ≡ in_parts (slice_split is_blank line)
in_split [] = refl
in_split (b ∷ line) = control_step (is_blank b) b line refl (in_split line)

pub control_in_words : (line : List ℕ) → list_any (λ b. not (is_blank b) && is_control b) line ≡ list_any (λ word. list_any is_control word) (words_of line)
control_in_words line = in_split line ∙ sym (in_words (slice_split is_blank line))
