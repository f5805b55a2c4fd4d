-- What a script that was read asks can be said: its paths are of names, its targets are targets, its texts are of bytes.
use Rattle.std.proofs.Common.{◌≡◌, ℕ, ◌+◌, ◌/◌, ◌%◌, ◌<◌, ◌≤◌, Bool, true, false, not, ◌&&◌, cond, eqb, ltb, leb, inl, inr, List, [], ◌∷◌, length, Ok, sym, ◌∙◌, ap, subst, arith, codes}
use Rattle.std.specs.List.{All, list_all}
use Rattle.std.specs.Fmt.{decimal}
use Rattle.std.specs.Str.{is_utf8}
use Rattle.std.specs.Str.Lines.{lines}
use Rattle.std.proofs.Math.Utf8.{encode, encodes, scalar, scalars, scalar_cases}
use Rattle.std.proofs.lemmas.Str.{IsUtf8-from_is_utf8}
use Rattle.std.proofs.lemmas.Bool.{and_parts, and_from, or_parts, not-true, not_from_false, ltb-true, ltb-false, eqb-false, lt-ltb, le-leb, cond_both}
use Rattle.std.proofs.lemmas.List.Elements.{All-nil, All-cons, All-append}
use Rattle.frang_base.specs.declared.op.Op.{Op}
use Rattle.frang_base.specs.declared.op.Op.TheVariants as op
use Rattle.frang_base.specs.declared.op.What.{What}
use Rattle.frang_base.specs.declared.op.What.TheVariants.{Server, Host}
use Rattle.frang_base.specs.declared.script.Line.{Line}
use Rattle.script_definitions.specs.ScriptWords.{is_blank, is_some_word, words_of}
use Rattle.script_definitions.specs.ScriptText.{is_control, script_of}
use Rattle.tree_definitions.specs.Transcript.{is_halt}
use Rattle.script_definitions.specs.ScriptPrinted.{path_text}
use Rattle.script_definitions.specs.ScriptGrammar.{IsProperOp, IsProperWhat, OpSpelled, WhatSpelled, IsCommand, AreLines}
use Rattle.frang_base.specs.Name.{is_target, is_target_byte}
use Rattle.script_definitions.specs.Sayable.{IsSayableOp, IsSayableWhat, IsSayableLine}
use Rattle.script_definitions.specs.declared.asked.Asked.{Asked}
use Rattle.script_definitions.proofs.Splitting.{all_weaker}
use Rattle.script_definitions.proofs.GoodWords.{is_word_byte, is_good, words_good, good_some, good_bytes, good_utf8}
use Rattle.script_definitions.proofs.JudgedLaws.{line_of, text_sound}

-- the bytes of UTF-8
one_byte : (b : ℕ) (rest : List ℕ) → b < 256 → All (λ x. x < 256) rest → All (λ x. x < 256) (b ∷ rest)
one_byte b rest h k = All-cons (λ x. x < 256) b rest h k

none : All (λ x. x < 256) []
none = All-nil (λ x. x < 256)

char_bytes : (c : ℕ) → c < 1114112 → All (λ x. x < 256) (encode c)
unfolding encode
char_bytes c h =
    cond_both (ltb c 128) (c ∷ []) (cond (ltb c 2048) ((192 + c / 64) ∷ (128 + c % 64) ∷ []) (cond (ltb c 65536) ((224 + c / 4096) ∷ (128 + c / 64 % 64) ∷ (128 + c % 64) ∷ []) ((240 + c / 262144) ∷ (128 + c / 4096 % 64) ∷ (128 + c / 64 % 64) ∷ (128 + c % 64) ∷ []))) (λ t. All (λ x. x < 256) t)
    (λ e. one_byte c [] (let k : c < 128 = ltb-true c 128 e in omega arith) none)
    (λ e. cond_both (ltb c 2048) ((192 + c / 64) ∷ (128 + c % 64) ∷ []) (cond (ltb c 65536) ((224 + c / 4096) ∷ (128 + c / 64 % 64) ∷ (128 + c % 64) ∷ []) ((240 + c / 262144) ∷ (128 + c / 4096 % 64) ∷ (128 + c / 64 % 64) ∷ (128 + c % 64) ∷ [])) (λ t. All (λ x. x < 256) t)
    (λ f. (let k : c < 2048 = ltb-true c 2048 f in one_byte (192 + c / 64) ((128 + c % 64) ∷ []) (omega arith) (one_byte (128 + c % 64) [] (omega arith) none)))
    (λ f. cond_both (ltb c 65536) ((224 + c / 4096) ∷ (128 + c / 64 % 64) ∷ (128 + c % 64) ∷ []) ((240 + c / 262144) ∷ (128 + c / 4096 % 64) ∷ (128 + c / 64 % 64) ∷ (128 + c % 64) ∷ []) (λ t. All (λ x. x < 256) t)
    (λ g. (let k : c < 65536 = ltb-true c 65536 g in one_byte (224 + c / 4096) ((128 + c / 64 % 64) ∷ (128 + c % 64) ∷ []) (omega arith) (one_byte (128 + c / 64 % 64) ((128 + c % 64) ∷ []) (omega arith) (one_byte (128 + c % 64) [] (omega arith) none))))
    (λ g. one_byte (240 + c / 262144) ((128 + c / 4096 % 64) ∷ (128 + c / 64 % 64) ∷ (128 + c % 64) ∷ []) (omega arith) (one_byte (128 + c / 4096 % 64) ((128 + c / 64 % 64) ∷ (128 + c % 64) ∷ []) (omega arith) (one_byte (128 + c / 64 % 64) ((128 + c % 64) ∷ []) (omega arith) (one_byte (128 + c % 64) [] (omega arith) none))))))

scalar_low : (c : ℕ) → scalar c ≡ true → c < 1114112
scalar_low c e = elim (scalar_cases c e) [ inl h ↦ omega (arith, h) | inr h ↦ h.1 ]

chars_bytes : (cs : List ℕ) → scalars cs ≡ true → All (λ x. x < 256) (encodes cs)
chars_bytes [] e = none
chars_bytes (c ∷ cs) e =
    let h = and_parts (scalar c) (scalars cs) e in
    All-append (λ x. x < 256) (encode c) (encodes cs) (char_bytes c (scalar_low c h.0)) (chars_bytes cs h.1)

utf8_bytes : (w : List ℕ) → is_utf8 w ≡ true → All (λ x. x < 256) w
utf8_bytes w e = let u = IsUtf8-from_is_utf8 w e in subst (All (λ x. x < 256)) u.1.1 (chars_bytes u.0 u.1.0)

-- a word of at most 384 bytes is a target
target_byte : (b : ℕ) → is_word_byte b ≡ true → is_target_byte b ≡ true
target_byte b e =
    let h = and_parts (not (is_blank b)) (not (is_control b)) e in
    let blank = or_parts (eqb b 32) (eqb b 9) (not-true (is_blank b) h.0) in
    let control = or_parts (ltb b 32) (eqb b 127) (not-true (is_control b) h.1) in
    let low : 32 ≤ b = ltb-false b 32 control.0 in
    let other : b ≡ 32 → ⊥ = eqb-false b 32 blank.0 in
    and_from (ltb 32 b) (not (eqb b 127)) (lt-ltb 32 b (omega arith)) (not_from_false (eqb b 127) control.1)

some_length : (w : List ℕ) → is_some_word w ≡ true → 0 < length w
some_length [] e = cc
some_length (b ∷ w) e = omega arith

good_target : (w : List ℕ) → is_good w ≡ true → length w ≤ 384 → is_target w ≡ true
good_target w e short =
    and_from (ltb 0 (length w) && leb (length w) 384) (list_all is_target_byte w)
    (and_from (ltb 0 (length w)) (leb (length w) 384) (lt-ltb 0 (length w) (some_length w (good_some w e))) (le-leb (length w) 384 short))
    (all_weaker is_word_byte is_target_byte target_byte w (good_bytes w e))

-- the third and the fourth of good words
third_good : (a b c : List ℕ) (ws : List (List ℕ)) → list_all is_good (a ∷ b ∷ c ∷ ws) ≡ true → is_good c ≡ true
third_good a b c ws e =
    let p = and_parts (is_good a) (list_all is_good (b ∷ c ∷ ws)) e in
    let q = and_parts (is_good b) (list_all is_good (c ∷ ws)) p.1 in
    (and_parts (is_good c) (list_all is_good ws) q.1).0

fourth_good : (a b c d : List ℕ) (ws : List (List ℕ)) → list_all is_good (a ∷ b ∷ c ∷ d ∷ ws) ≡ true → is_good d ≡ true
fourth_good a b c d ws e = third_good b c d ws (and_parts (is_good a) (list_all is_good (b ∷ c ∷ d ∷ ws)) e).1

-- what a line asks
op_sayable : (ws : List (List ℕ)) (o : Op) → IsProperOp o → OpSpelled ws o → list_all is_good ws ≡ true → IsSayableOp o
op_sayable ws (op.Create path) h e g = h.named
op_sayable ws (op.Mkdir path) h e g = h.named
op_sayable ws (op.Link path to) h e g = (h.0.named, h.1.named)
op_sayable ws (op.Symlink path target) h e g = (h.0.named, good_target target (third_good (codes "symlink") (path_text path) target [] (sym (ap (list_all is_good) e) ∙ g)) h.1)
op_sayable ws (op.Unlink path) h e g = h.named
op_sayable ws (op.Rmdir path) h e g = h.named
op_sayable ws (op.Rename path to) h e g = (h.0.named, h.1.named)
op_sayable ws (op.Write path off bytes) h e g = (h.0.named, utf8_bytes bytes (good_utf8 bytes (fourth_good (codes "write") (path_text path) (decimal off) bytes [] (sym (ap (list_all is_good) e) ∙ g))))
op_sayable ws (op.Fill path off len byte) h e g = (h.0.named, h.4)
op_sayable ws (op.Truncate path len) h e g = h.0.named
op_sayable ws (op.Read path off len) h e g = h.0.named
op_sayable ws (op.Stat path) h e g = h.named
op_sayable ws (op.List path) h e g = h.named
op_sayable ws (op.Readlink path) h e g = h.named
op_sayable ws (op.Time path) h e g = h.named
op_sayable ws _ h e g = tt

asked_sayable : (ws : List (List ℕ)) (who : ℕ) (what : What) → IsProperWhat who what → WhatSpelled ws who what → list_all is_good ws ≡ true → IsSayableWhat what
asked_sayable ws who (Server o) h e g = op_sayable e.0 o h.1 e.2 (and_parts (is_good (decimal who)) (list_all is_good e.0) (sym (ap (list_all is_good) e.1) ∙ g)).1
asked_sayable ws who (Host o) h e g = tt

command_sayable : (line : List ℕ) (a : Asked) → IsCommand line a → IsSayableWhat a.what
command_sayable line a c = asked_sayable (words_of line) a.who.0 a.what c.2.0 c.2.1 (words_good line c.1)

lines_sayable : (number : ℕ) (halted : Bool) (ls : List (List ℕ)) (script : List Line) → AreLines number halted ls script → All IsSayableLine script
lines_sayable number halted [] script h = subst (All IsSayableLine) (sym h) (All-nil IsSayableLine)
lines_sayable number halted (line ∷ ls) script (few, inl h) = lines_sayable (number + 1) halted ls script h.1
lines_sayable number halted (line ∷ ls) script (few, inr h) = subst (All IsSayableLine) (sym h.2) (All-cons IsSayableLine (line_of number h.0) h.1 (command_sayable line h.0 h.4) (lines_sayable (number + 1) (is_halt h.0.what) ls h.1 h.5))

pub script_sayable : (bytes : List ℕ) (script : List Line) → script_of bytes ≡ Ok script → All IsSayableLine script
script_sayable bytes script e = lines_sayable 1 false (lines bytes) script (text_sound bytes script e).1
