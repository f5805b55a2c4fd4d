-- The words of a line that is text, and lines that are joined of such words.
use Rattle.std.proofs.Common.{◌≡◌, ℕ, ◌+◌, ◌/◌, ◌%◌, ◌≤◌, ◌<◌, Bool, true, false, not, ◌&&◌, cond, eqb, ltb, List, [], ◌∷◌, ◌++◌, filter, refl, sym, ◌∙◌, ap, arith, zero, suc}
use Rattle.std.specs.List.{list_all, list_any, slice_split, onto_first, join_with_byte}
use Rattle.std.specs.Str.{is_utf8, IsUtf8, IsAscii}
use Rattle.std.proofs.Math.Utf8.{encode, encodes, scalar, scalars}
use Rattle.std.proofs.lemmas.Bool.{and_parts, and_from, or_parts, or_from, not-true, not_from_false, eqb-true, le-ltb, ltb-true, ltb-false, ne_eqb, false_from_ne_true, cond_both}
use Rattle.std.proofs.lemmas.Str.{IsUtf8-append, IsUtf8-nil, IsUtf8-from_ascii, is_utf8-from_IsUtf8, IsUtf8-from_is_utf8, encode_ascii}
use Rattle.std.proofs.lemmas.List.{append-nil}
use Rattle.std.proofs.lemmas.List.Splits.{slice_split-cons_no}
use Rattle.tree_definitions.specs.SaidLines.{hex_digit, hex_byte}
use Rattle.script_definitions.specs.ScriptWords.{is_blank, is_some_word, words_of}
use Rattle.script_definitions.specs.ScriptText.{is_control, is_text}
use Rattle.script_definitions.proofs.Splitting.{all_weaker, all_joined}
use Rattle.script_definitions.proofs.PartsLaws.{HasFirst, split_has}

-- a byte that a word may have
abbrev pub is_word_byte : ℕ → Bool
is_word_byte b = not (is_blank b) && not (is_control b)

-- a word: not empty, of such bytes, and UTF-8
abbrev pub is_good : List ℕ → Bool
is_good word = is_some_word word && list_all is_word_byte word && is_utf8 word

-- parts have no separator
first_free : (p : ℕ → Bool) (x : ℕ) (parts : List (List ℕ)) → p x ≡ false → HasFirst parts → list_all (list_all (λ b. not (p b))) parts ≡ true → list_all (list_all (λ b. not (p b))) (onto_first x parts) ≡ true
first_free p x parts out h e =
    let f = and_parts (list_all (λ b. not (p b)) h.first) (list_all (list_all (λ b. not (p b))) h.rest) (sym (ap (list_all (list_all (λ b. not (p b)))) h.is) ∙ e) in
    ap (λ ps. list_all (list_all (λ b. not (p b))) (onto_first x ps)) h.is
    ∙ and_from (not (p x) && list_all (λ b. not (p b)) h.first) (list_all (list_all (λ b. not (p b))) h.rest) (and_from (not (p x)) (list_all (λ b. not (p b)) h.first) (not_from_false (p x) out) f.0) f.1

free_step : (p : ℕ → Bool) (b : Bool) (x : ℕ) (parts : List (List ℕ)) → p x ≡ b → HasFirst parts → list_all (list_all (λ c. not (p c))) parts ≡ true → list_all (list_all (λ c. not (p c))) (cond b ([] ∷ parts) (onto_first x parts)) ≡ true
free_step p true x parts is h e = e
free_step p false x parts is h e = first_free p x parts is h e

parts_free : (p : ℕ → Bool) (text : List ℕ) → list_all (list_all (λ b. not (p b))) (slice_split p text) ≡ true
parts_free p [] = refl
parts_free p (x ∷ text) = free_step p (p x) x (slice_split p text) refl (split_has p text) (parts_free p text)

-- what holds of all holds of those that are kept
keep_step : {A : Type 0} (p q : A → Bool) (b : Bool) (x : A) (xs : List A) → p x ≡ true → list_all p (filter q xs) ≡ true → list_all p (cond b (x ∷ filter q xs) (filter q xs)) ≡ true
keep_step p q true x xs h e = and_from (p x) (list_all p (filter q xs)) h e
keep_step p q false x xs h e = e

pass_step : {A : Type 0} (q : A → Bool) (b : Bool) (x : A) (xs : List A) → q x ≡ b → list_all q (filter q xs) ≡ true → list_all q (cond b (x ∷ filter q xs) (filter q xs)) ≡ true
pass_step q true x xs h e = and_from (q x) (list_all q (filter q xs)) h e
pass_step q false x xs h e = e

kept_all : {A : Type 0} (p q : A → Bool) (xs : List A) → list_all p xs ≡ true → list_all p (filter q xs) ≡ true
kept_all p q [] e = refl
kept_all p q (x ∷ xs) e =
    let h = and_parts (p x) (list_all p xs) e in
    keep_step p q (q x) x xs h.0 (kept_all p q xs h.1)

kept_pass : {A : Type 0} (q : A → Bool) (xs : List A) → list_all q (filter q xs) ≡ true
kept_pass q [] = refl
kept_pass q (x ∷ xs) = pass_step q (q x) x xs refl (kept_pass q xs)

all_kept : {A : Type 0} (q : A → Bool) (xs : List A) → list_all q xs ≡ true → filter q xs ≡ xs
all_kept q [] e = refl
all_kept q (x ∷ xs) e =
    let h = and_parts (q x) (list_all q xs) e in
    ap (λ b. cond b (x ∷ filter q xs) (filter q xs)) h.0 ∙ ap (λ ys. x ∷ ys) (all_kept q xs h.1)

both_all : {A : Type 0} (p q : A → Bool) (xs : List A) → list_all p xs ≡ true → list_all q xs ≡ true → list_all (λ x. p x && q x) xs ≡ true
both_all p q [] e f = refl
both_all p q (x ∷ xs) e f =
    let h = and_parts (p x) (list_all p xs) e in
    let k = and_parts (q x) (list_all q xs) f in
    and_from (p x && q x) (list_all (λ y. p y && q y) xs) (and_from (p x) (q x) h.0 k.0) (both_all p q xs h.1 k.1)

none_any : {A : Type 0} (p : A → Bool) (xs : List A) → list_any p xs ≡ false → list_all (λ x. not (p x)) xs ≡ true
none_any p [] e = refl
none_any p (x ∷ xs) e =
    let h = or_parts (p x) (list_any p xs) e in
    and_from (not (p x)) (list_all (λ y. not (p y)) xs) (not_from_false (p x) h.0) (none_any p xs h.1)

any_none : {A : Type 0} (p : A → Bool) (xs : List A) → list_all (λ x. not (p x)) xs ≡ true → list_any p xs ≡ false
any_none p [] e = refl
any_none p (x ∷ xs) e =
    let h = and_parts (not (p x)) (list_all (λ y. not (p y)) xs) e in
    or_from (p x) (list_any p xs) (not-true (p x) h.0) (any_none p xs h.1)

-- characters that aren't ASCII have no blank in their bytes
not_blank : (b : ℕ) → 128 ≤ b → not (is_blank b) ≡ true
not_blank b h = not_from_false (is_blank b) (or_from (eqb b 32) (eqb b 9) (ne_eqb b 32 (λ e. absurd (omega arith))) (ne_eqb b 9 (λ e. absurd (omega arith))))

two_bytes : (a b : ℕ) → 128 ≤ a → 128 ≤ b → list_all (λ x. not (is_blank x)) (a ∷ b ∷ []) ≡ true
two_bytes a b h k = and_from (not (is_blank a)) (not (is_blank b) && true) (not_blank a h) (and_from (not (is_blank b)) true (not_blank b k) refl)

three_bytes : (a b c : ℕ) → 128 ≤ a → 128 ≤ b → 128 ≤ c → list_all (λ x. not (is_blank x)) (a ∷ b ∷ c ∷ []) ≡ true
three_bytes a b c h k l = and_from (not (is_blank a)) (list_all (λ x. not (is_blank x)) (b ∷ c ∷ [])) (not_blank a h) (two_bytes b c k l)

four_bytes : (a b c d : ℕ) → 128 ≤ a → 128 ≤ b → 128 ≤ c → 128 ≤ d → list_all (λ x. not (is_blank x)) (a ∷ b ∷ c ∷ d ∷ []) ≡ true
four_bytes a b c d h k l m = and_from (not (is_blank a)) (list_all (λ x. not (is_blank x)) (b ∷ c ∷ d ∷ [])) (not_blank a h) (three_bytes b c d k l m)

wide_bytes : (c : ℕ) → 128 ≤ c → list_all (λ x. not (is_blank x)) (encode c) ≡ true
unfolding encode
wide_bytes c h =
    ap (λ b. list_all (λ x. not (is_blank x)) (cond b (c ∷ []) (cond (ltb c 2048) ((192 + c / 64) ∷ (128 + c % 64) ∷ []) (cond (ltb c 65536) ((224 + c / 4096) ∷ (128 + c / 64 % 64) ∷ (128 + c % 64) ∷ []) ((240 + c / 262144) ∷ (128 + c / 4096 % 64) ∷ (128 + c / 64 % 64) ∷ (128 + c % 64) ∷ []))))) (le-ltb c 128 h)
    ∙ cond_both (ltb c 2048) ((192 + c / 64) ∷ (128 + c % 64) ∷ []) (cond (ltb c 65536) ((224 + c / 4096) ∷ (128 + c / 64 % 64) ∷ (128 + c % 64) ∷ []) ((240 + c / 262144) ∷ (128 + c / 4096 % 64) ∷ (128 + c / 64 % 64) ∷ (128 + c % 64) ∷ [])) (λ t. list_all (λ x. not (is_blank x)) t ≡ true)
    (λ e. two_bytes (192 + c / 64) (128 + c % 64) (omega arith) (omega arith))
    (λ e. cond_both (ltb c 65536) ((224 + c / 4096) ∷ (128 + c / 64 % 64) ∷ (128 + c % 64) ∷ []) ((240 + c / 262144) ∷ (128 + c / 4096 % 64) ∷ (128 + c / 64 % 64) ∷ (128 + c % 64) ∷ []) (λ t. list_all (λ x. not (is_blank x)) t ≡ true)
    (λ f. three_bytes (224 + c / 4096) (128 + c / 64 % 64) (128 + c % 64) (omega arith) (omega arith) (omega arith))
    (λ f. four_bytes (240 + c / 262144) (128 + c / 4096 % 64) (128 + c / 64 % 64) (128 + c % 64) (omega arith) (omega arith) (omega arith) (omega arith)))

-- bytes before the first part
abbrev onto : List ℕ → List (List ℕ) → List (List ℕ)
onto [] parts = parts
onto (b ∷ bytes) parts = onto_first b (onto bytes parts)

split_onto : (bytes text : List ℕ) → list_all (λ x. not (is_blank x)) bytes ≡ true → slice_split is_blank (bytes ++ text) ≡ onto bytes (slice_split is_blank text)
split_onto [] text e = refl
split_onto (b ∷ bytes) text e =
    let h = and_parts (not (is_blank b)) (list_all (λ x. not (is_blank x)) bytes) e in
    slice_split-cons_no is_blank b (bytes ++ text) (not-true (is_blank b) h.0) ∙ ap (onto_first b) (split_onto bytes text h.1)

onto_is : (bytes first : List ℕ) (rest : List (List ℕ)) → onto bytes (first ∷ rest) ≡ (bytes ++ first) ∷ rest
onto_is [] first rest = refl
onto_is (b ∷ bytes) first rest = ap (onto_first b) (onto_is bytes first rest)

onto_utf8 : (bytes : List ℕ) (parts : List (List ℕ)) → HasFirst parts → IsUtf8 bytes → list_all is_utf8 parts ≡ true → list_all is_utf8 (onto bytes parts) ≡ true
onto_utf8 bytes parts h u e =
    let f = and_parts (is_utf8 h.first) (list_all is_utf8 h.rest) (sym (ap (list_all is_utf8) h.is) ∙ e) in
    ap (λ ps. list_all is_utf8 (onto bytes ps)) h.is
    ∙ ap (list_all is_utf8) (onto_is bytes h.first h.rest)
    ∙ and_from (is_utf8 (bytes ++ h.first)) (list_all is_utf8 h.rest) (is_utf8-from_IsUtf8 (bytes ++ h.first) (IsUtf8-append bytes h.first u (IsUtf8-from_is_utf8 h.first f.0))) f.1

one_ascii : (c : ℕ) → c < 128 → IsAscii (c ∷ [])
one_ascii c h zero = h
one_ascii c h (suc i) = omega arith

char_utf8 : (c : ℕ) → scalar c ≡ true → IsUtf8 (encode c)
char_utf8 c e = (c ∷ [], (and_from (scalar c) true e refl, append-nil (encode c)))

-- the parts between blanks of UTF-8 are UTF-8
one_char : (b : Bool) (c : ℕ) (text : List ℕ) → is_blank c ≡ b → c < 128 → list_all is_utf8 (slice_split is_blank text) ≡ true → list_all is_utf8 (cond b ([] ∷ slice_split is_blank text) (onto_first c (slice_split is_blank text))) ≡ true
one_char true c text is low e = and_from (is_utf8 []) (list_all is_utf8 (slice_split is_blank text)) (is_utf8-from_IsUtf8 [] IsUtf8-nil) e
one_char false c text is low e = onto_utf8 (c ∷ []) (slice_split is_blank text) (split_has is_blank text) (IsUtf8-from_ascii (c ∷ []) (one_ascii c low)) e

char_parts : (c : ℕ) (text : List ℕ) → (low : Bool) → ltb c 128 ≡ low → scalar c ≡ true → list_all is_utf8 (slice_split is_blank text) ≡ true → list_all is_utf8 (slice_split is_blank (encode c ++ text)) ≡ true
char_parts c text true is s e = ap (λ t. list_all is_utf8 (slice_split is_blank (t ++ text))) (encode_ascii c (ltb-true c 128 is)) ∙ one_char (is_blank c) c text refl (ltb-true c 128 is) e
char_parts c text false is s e = ap (list_all is_utf8) (split_onto (encode c) text (wide_bytes c (ltb-false c 128 is))) ∙ onto_utf8 (encode c) (slice_split is_blank text) (split_has is_blank text) (char_utf8 c s) e

chars_parts : (cs : List ℕ) → scalars cs ≡ true → list_all is_utf8 (slice_split is_blank (encodes cs)) ≡ true
chars_parts [] e = and_from (is_utf8 []) true (is_utf8-from_IsUtf8 [] IsUtf8-nil) refl
chars_parts (c ∷ cs) e =
    let h = and_parts (scalar c) (scalars cs) e in
    char_parts c (encodes cs) (ltb c 128) refl h.0 (chars_parts cs h.1)

utf8_parts : (line : List ℕ) → is_utf8 line ≡ true → list_all is_utf8 (slice_split is_blank line) ≡ true
utf8_parts line e = let u = IsUtf8-from_is_utf8 line e in sym (ap (λ t. list_all is_utf8 (slice_split is_blank t)) u.1.1) ∙ chars_parts u.0 u.1.0

word_bytes : (w : List ℕ) → (list_all (λ b. not (is_blank b)) w && not (list_any is_control w)) ≡ true → list_all is_word_byte w ≡ true
word_bytes w e =
    let h = and_parts (list_all (λ b. not (is_blank b)) w) (not (list_any is_control w)) e in
    both_all (λ b. not (is_blank b)) (λ b. not (is_control b)) w h.0 (none_any is_control w (not-true (list_any is_control w) h.1))

-- the words of a line that is text
pub words_good : (line : List ℕ) → is_text line ≡ true → list_all is_good (words_of line) ≡ true
words_good line e =
    let h = and_parts (is_utf8 line) (not (list_any (λ w. list_any is_control w) (words_of line))) e in
    let words = words_of line in
    let free : list_all (list_all (λ b. not (is_blank b))) words ≡ true = kept_all (list_all (λ b. not (is_blank b))) is_some_word (slice_split is_blank line) (parts_free is_blank line) in
    let clean : list_all (λ w. not (list_any is_control w)) words ≡ true = none_any (λ w. list_any is_control w) words (not-true (list_any (λ w. list_any is_control w) words) h.1) in
    let utf8 : list_all is_utf8 words ≡ true = kept_all is_utf8 is_some_word (slice_split is_blank line) (utf8_parts line h.0) in
    let some : list_all is_some_word words ≡ true = kept_pass is_some_word (slice_split is_blank line) in
    let bytes : list_all (list_all is_word_byte) words ≡ true = all_weaker (λ w. list_all (λ b. not (is_blank b)) w && not (list_any is_control w)) (list_all is_word_byte) word_bytes words (both_all (list_all (λ b. not (is_blank b))) (λ w. not (list_any is_control w)) words free clean) in
    both_all (λ w. is_some_word w && list_all is_word_byte w) is_utf8 words (both_all is_some_word (list_all is_word_byte) words some bytes) utf8

split_onto_end : (word : List ℕ) → list_all (λ b. not (is_blank b)) word ≡ true → slice_split is_blank word ≡ word ∷ []
split_onto_end word e = sym (ap (slice_split is_blank) (append-nil word)) ∙ split_onto word [] e ∙ onto_is word [] [] ∙ ap (λ t. t ∷ []) (append-nil word)

-- the words of a line that is joined of good words
join_split : (word : List ℕ) (words : List (List ℕ)) → list_all (list_all (λ b. not (is_blank b))) (word ∷ words) ≡ true → slice_split is_blank (join_with_byte 32 (word ∷ words)) ≡ word ∷ words
join_split word [] e = split_onto_end word (and_parts (list_all (λ b. not (is_blank b)) word) true e).0
join_split word (next ∷ words) e =
    let h = and_parts (list_all (λ b. not (is_blank b)) word) (list_all (list_all (λ b. not (is_blank b))) (next ∷ words)) e in
    split_onto word (32 ∷ join_with_byte 32 (next ∷ words)) h.0
    ∙ onto_is word [] (slice_split is_blank (join_with_byte 32 (next ∷ words)))
    ∙ ap (λ t. t ∷ slice_split is_blank (join_with_byte 32 (next ∷ words))) (append-nil word)
    ∙ ap (λ ps. word ∷ ps) (join_split next words h.1)

pub good_some : (w : List ℕ) → is_good w ≡ true → is_some_word w ≡ true
good_some w e = (and_parts (is_some_word w) (list_all is_word_byte w) (and_parts (is_some_word w && list_all is_word_byte w) (is_utf8 w) e).0).0

pub good_bytes : (w : List ℕ) → is_good w ≡ true → list_all is_word_byte w ≡ true
good_bytes w e = (and_parts (is_some_word w) (list_all is_word_byte w) (and_parts (is_some_word w && list_all is_word_byte w) (is_utf8 w) e).0).1

pub good_utf8 : (w : List ℕ) → is_good w ≡ true → is_utf8 w ≡ true
good_utf8 w e = (and_parts (is_some_word w && list_all is_word_byte w) (is_utf8 w) e).1

good_free : (w : List ℕ) → is_good w ≡ true → list_all (λ b. not (is_blank b)) w ≡ true
good_free w e = all_weaker is_word_byte (λ b. not (is_blank b)) (λ b h. (and_parts (not (is_blank b)) (not (is_control b)) h).0) w (good_bytes w e)

good_control : (w : List ℕ) → is_good w ≡ true → not (list_any is_control w) ≡ true
good_control w e = not_from_false (list_any is_control w) (any_none is_control w (all_weaker is_word_byte (λ b. not (is_control b)) (λ b h. (and_parts (not (is_blank b)) (not (is_control b)) h).1) w (good_bytes w e)))

pub joined_words : (word : List ℕ) (words : List (List ℕ)) → list_all is_good (word ∷ words) ≡ true → words_of (join_with_byte 32 (word ∷ words)) ≡ word ∷ words
joined_words word words e =
    ap (filter is_some_word) (join_split word words (all_weaker is_good (list_all (λ b. not (is_blank b))) good_free (word ∷ words) e))
    ∙ all_kept is_some_word (word ∷ words) (all_weaker is_good is_some_word good_some (word ∷ words) e)

join_utf8 : (words : List (List ℕ)) → list_all is_utf8 words ≡ true → IsUtf8 (join_with_byte 32 words)
join_utf8 [] e = IsUtf8-nil
join_utf8 (word ∷ []) e = IsUtf8-from_is_utf8 word (and_parts (is_utf8 word) true e).0
join_utf8 (word ∷ next ∷ words) e =
    let h = and_parts (is_utf8 word) (list_all is_utf8 (next ∷ words)) e in
    IsUtf8-append word (32 ∷ join_with_byte 32 (next ∷ words)) (IsUtf8-from_is_utf8 word h.0) (IsUtf8-append (32 ∷ []) (join_with_byte 32 (next ∷ words)) (IsUtf8-from_ascii (32 ∷ []) (one_ascii 32 (omega arith))) (join_utf8 (next ∷ words) h.1))

pub joined_text : (word : List ℕ) (words : List (List ℕ)) → list_all is_good (word ∷ words) ≡ true → is_text (join_with_byte 32 (word ∷ words)) ≡ true
joined_text word words e =
    and_from (is_utf8 (join_with_byte 32 (word ∷ words))) (not (list_any (λ w. list_any is_control w) (words_of (join_with_byte 32 (word ∷ words)))))
    (is_utf8-from_IsUtf8 (join_with_byte 32 (word ∷ words)) (join_utf8 (word ∷ words) (all_weaker is_good is_utf8 good_utf8 (word ∷ words) e)))
    (not_from_false (list_any (λ w. list_any is_control w) (words_of (join_with_byte 32 (word ∷ words)))) (ap (list_any (λ w. list_any is_control w)) (joined_words word words e) ∙ any_none (λ w. list_any is_control w) (word ∷ words) (all_weaker is_good (λ w. not (list_any is_control w)) good_control (word ∷ words) e)))

-- no line feed or carriage return in it
line_byte : (c : ℕ) → is_control c ≡ true → (b : ℕ) → is_word_byte b ≡ true → not (eqb b c) ≡ true
line_byte c control b e = not_from_false (eqb b c) (false_from_ne_true (eqb b c) (λ t. (let h : not (is_control b) ≡ true = (and_parts (not (is_blank b)) (not (is_control b)) e).1 in let f : is_control b ≡ false = not-true (is_control b) h in let g : is_control b ≡ true = ap is_control (eqb-true b c t) ∙ control in cc)))

pub joined_free : (c : ℕ) (words : List (List ℕ)) → is_control c ≡ true → not (eqb 32 c) ≡ true → list_all is_good words ≡ true → list_all (λ b. not (eqb b c)) (join_with_byte 32 words) ≡ true
joined_free c words control blank e = all_joined (λ b. not (eqb b c)) 32 words blank (all_weaker is_good (list_all (λ b. not (eqb b c))) (λ w h. all_weaker is_word_byte (λ b. not (eqb b c)) (line_byte c control) w (good_bytes w h)) words e)

digit_range : (d : ℕ) (b : Bool) → d < 16 → (48 ≤ cond b (48 + d) (87 + d)) × (cond b (48 + d) (87 + d) < 127)
digit_range d true h = (omega arith, omega arith)
digit_range d false h = (omega arith, omega arith)

range_word : (x : ℕ) → 48 ≤ x → x < 127 → is_word_byte x ≡ true
range_word x h k = and_from (not (is_blank x)) (not (is_control x)) (not_from_false (is_blank x) (or_from (eqb x 32) (eqb x 9) (ne_eqb x 32 (λ e. absurd (omega arith))) (ne_eqb x 9 (λ e. absurd (omega arith))))) (not_from_false (is_control x) (or_from (ltb x 32) (eqb x 127) (le-ltb x 32 (omega arith)) (ne_eqb x 127 (λ e. absurd (omega arith)))))

-- a byte by two digits is a good word
pub hex_good : (b : ℕ) → b < 256 → is_good (hex_byte b) ≡ true
hex_good b h =
    let x = hex_digit (b / 16) in
    let y = hex_digit (b % 16) in
    let p = digit_range (b / 16) (ltb (b / 16) 10) (omega arith) in
    let q = digit_range (b % 16) (ltb (b % 16) 10) (omega arith) in
    and_from (true && list_all is_word_byte (x ∷ y ∷ [])) (is_utf8 (x ∷ y ∷ []))
    (and_from (is_word_byte x) (is_word_byte y && true) (range_word x p.0 p.1) (and_from (is_word_byte y) true (range_word y q.0 q.1) refl))
    (is_utf8-from_IsUtf8 (x ∷ y ∷ []) (IsUtf8-append (x ∷ []) (y ∷ []) (IsUtf8-from_ascii (x ∷ []) (one_ascii x (let k : x < 127 = p.1 in omega arith))) (IsUtf8-from_ascii (y ∷ []) (one_ascii y (let k : y < 127 = q.1 in omega arith)))))
