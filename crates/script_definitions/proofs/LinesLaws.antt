-- The lines of a text, one after the other.
use Rattle.std.proofs.Common.{◌≡◌, ℕ, cond, eqb, List, [], ◌∷◌, length, refl, sym, ◌∙◌, ap, arith, suc}
use Rattle.std.specs.List.{slice_split}
use Rattle.std.specs.Str.Lines.{lines, lines_of_parts, strip_carriage_return}
use Rattle.std.proofs.lemmas.Bool.{ne_eqb}
use Rattle.script_definitions.proofs.PartsLaws.{HasFirst, split_has, part_alone}

-- a line with its line feed
parts_then : (x : List ℕ) (parts : List (List ℕ)) → HasFirst parts → lines_of_parts (x ∷ parts) ≡ strip_carriage_return x ∷ lines_of_parts parts
parts_then x parts h = ap (λ ps. lines_of_parts (x ∷ ps)) h.is ∙ ap (λ ps. strip_carriage_return x ∷ lines_of_parts ps) (sym h.is)

pub line_before : (text line after : List ℕ) → slice_split (λ b. eqb b 10) text ≡ line ∷ slice_split (λ b. eqb b 10) after → lines text ≡ strip_carriage_return line ∷ lines after
line_before text line after e = ap lines_of_parts e ∙ parts_then line _ (split_has (λ b. eqb b 10) after)

-- the last line, without a line feed
some_line : (x : ℕ) (xs : List ℕ) → slice_split (λ b. eqb b 10) (x ∷ xs) ≡ (x ∷ xs) ∷ [] → lines (x ∷ xs) ≡ (x ∷ xs) ∷ []
some_line x xs e = ap lines_of_parts e ∙ ap (λ b. cond b [] ((x ∷ xs) ∷ [])) (ne_eqb (suc (length xs)) 0 (λ h. absurd (let k : suc (length xs) ≡ 0 = h in omega arith)))

pub last_line : (text line : List ℕ) → (length text ≡ 0 → ⊥) → slice_split (λ b. eqb b 10) text ≡ line ∷ [] → lines text ≡ text ∷ []
last_line [] line some e = absurd (some refl)
last_line (x ∷ xs) line some e = some_line x xs (e ∙ ap (λ l. l ∷ []) (part_alone (λ b. eqb b 10) (x ∷ xs) line e))
