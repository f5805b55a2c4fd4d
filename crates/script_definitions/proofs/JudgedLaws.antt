-- Lines that are judged, by the grammar, and lines as they are printed.
use Rattle.std.proofs.Common.{◌≡◌, ℕ, ◌+◌, ◌≤◌, Bool, true, false, not, ◌&&◌, ◌||◌, cond, eqb, ltb, inl, inr, List, [], ◌∷◌, length, Option, Some, None, Result, Ok, Err, refl, sym, ◌∙◌, ap, subst, arith, codes, suc}
use Rattle.std.specs.List.{list_all, join_with_byte}
use Rattle.std.specs.Fmt.{decimal}
use Rattle.std.specs.Str.Lines.{lines}
use Rattle.std.proofs.lemmas.Bool.{and_parts, and_from, or_from, not-false, ltb-false, le-ltb, ne_eqb}
use Rattle.std.specs.Str.{bytes_eq}
use Rattle.std.proofs.lemmas.Slice.Eq.{bytes_eq-Decides}
use Rattle.frang_base.specs.declared.op.Op.{Op}
use Rattle.frang_base.specs.declared.op.Op.TheVariants as op
use Rattle.frang_base.specs.declared.op.HostOp.TheVariants as host
use Rattle.frang_base.specs.declared.op.What.{What}
use Rattle.frang_base.specs.declared.op.What.TheVariants.{Server, Host}
use Rattle.frang_base.specs.declared.script.Line.{Line}
use Rattle.frang_base.proofs.Tests.{or_second_alone}
use Rattle.tree_definitions.specs.SaidLines.{hex_byte}
use Rattle.script_definitions.specs.Numerals.{is_numeral}
use Rattle.script_definitions.specs.ScriptFaults.{◌>>=◌}
use Rattle.script_definitions.specs.ScriptWords.{words_of, is_some_word, byte_at, asked_of}
use Rattle.script_definitions.specs.ScriptText.{is_text, is_comment, is_skipped, judged, with_line, fault_at, numbered, after_line, script_from, script_of}
use Rattle.tree_definitions.specs.Transcript.{is_halt}
use Rattle.script_definitions.specs.ScriptPrinted.{path_text, op_words, line_words, line_text}
use Rattle.script_definitions.specs.ScriptGrammar.{IsProperOp, IsProperWhat, OpSpelled, WhatSpelled, IsCommand, AreLines, IsScriptText}
use Rattle.script_definitions.specs.declared.asked.Asked.{Asked}
use Rattle.script_definitions.specs.declared.fault.LineFault.{LineFault}
use Rattle.script_definitions.specs.declared.fault.LineFault.TheVariants as fault
use Rattle.script_definitions.specs.declared.fault.ScriptFault.{ScriptFault}
use Rattle.script_definitions.proofs.NumeralLaws.{numeral-decimal}
use Rattle.script_definitions.proofs.SaidWritten.{numeral_differs}
use Rattle.script_definitions.proofs.AskedLaws.{bind_ok, same_ok, guard_ok, byte_sound, byte_complete}
use Rattle.script_definitions.proofs.AskedRead.{asked_sound, asked_complete}
use Rattle.script_definitions.proofs.GoodWords.{is_good, good_some, words_good, joined_words, joined_text, hex_good}

-- how a line came to be judged
skipped_or : {A : Type 0} (b : Bool) (r : Result (Option A) LineFault) (x : A) → cond b (Ok None) r ≡ Ok (Some x) → (b ≡ false) × (r ≡ Ok (Some x))
skipped_or true r x e = (let f : None ≡ Some x = same_ok None (Some x) e in cc)
skipped_or false r x e = (refl, e)

pub record IsJudged (halted : Bool) (line : List ℕ) (a : Asked) : Type 0 where
  pub goes_on : halted ≡ false
  pub command : IsCommand line a
  pub asks : asked_of (words_of line) ≡ Ok a

pub judged_sound : (halted : Bool) (line : List ℕ) (a : Asked) → judged halted line ≡ Ok (Some a) → IsJudged halted line a
judged_sound halted line a e =
    let s = skipped_or (is_skipped line) _ a e in
    let t = guard_ok (not (is_text line)) fault.NotText _ (Some a) s.1 in
    let h = guard_ok halted fault.AfterHalt _ (Some a) t.1 in
    let b = bind_ok (asked_of (words_of line)) _ (Some a) h.1 in
    let same : b.0 ≡ a = (let f : Some b.0 ≡ Some a = same_ok (Some b.0) (Some a) b.2 in cc) in
    let asks : asked_of (words_of line) ≡ Ok a = b.1 ∙ ap Ok same in
    record { goes_on = h.0; command = (s.0, not-false (is_text line) t.0, asked_sound (words_of line) a asks); asks = asks }

pub judged_complete : (halted : Bool) (line : List ℕ) (a : Asked) → halted ≡ false → IsCommand line a → judged halted line ≡ Ok (Some a)
judged_complete halted line a h c =
    let rest = asked_of (words_of line) >>= λ x. Ok (Some x) in
    ap (λ b. cond b (Ok None) (cond (not (is_text line)) (Err fault.NotText) (cond halted (Err fault.AfterHalt) rest))) c.0
    ∙ ap (λ b. cond (not b) (Err fault.NotText) (cond halted (Err fault.AfterHalt) rest)) c.1
    ∙ ap (λ b. cond b (Err fault.AfterHalt) rest) h
    ∙ ap (λ r. r >>= λ x. Ok (Some x)) (asked_complete (words_of line) a.who a.what c.2.0 c.2.1)

-- the words of a printed line are good where those that were read are
last_good : (g : List ℕ → Bool) (a b c d x y : List ℕ) → list_all g (a ∷ b ∷ c ∷ d ∷ x ∷ []) ≡ true → g y ≡ true → list_all g (a ∷ b ∷ c ∷ d ∷ y ∷ []) ≡ true
last_good g a b c d x y e h =
    let p = and_parts (g a) (g b && (g c && (g d && (g x && true)))) e in
    let q = and_parts (g b) (g c && (g d && (g x && true))) p.1 in
    let r = and_parts (g c) (g d && (g x && true)) q.1 in
    let s = and_parts (g d) (g x && true) r.1 in
    and_from (g a) (g b && (g c && (g d && (g y && true)))) p.0 (and_from (g b) (g c && (g d && (g y && true))) q.0 (and_from (g c) (g d && (g y && true)) r.0 (and_from (g d) (g y && true) s.0 (and_from (g y) true h refl))))

-- what holds of the words that were read holds of those that print it, where it holds of a `fill` with any digits of its byte
pub spelled_by : (P : List (List ℕ) → Type 0) (ws : List (List ℕ)) (o : Op) → OpSpelled ws o → ((path : List (List ℕ)) (off len : ℕ) (digits : List ℕ) (byte : ℕ) → byte_at digits ≡ Ok byte → P (codes "fill" ∷ path_text path ∷ decimal off ∷ decimal len ∷ digits ∷ []) → P (op_words (op.Fill path off len byte))) → P ws → P (op_words o)
spelled_by P ws (op.Fill path off len byte) e fill p = fill path off len e.0 byte e.1 (subst P e.2 p)
spelled_by P ws _ e fill p = subst P e p

op_good : (ws : List (List ℕ)) (o : Op) → OpSpelled ws o → list_all is_good ws ≡ true → list_all is_good (op_words o) ≡ true
op_good ws o e g = spelled_by (λ words. list_all is_good words ≡ true) ws o e (λ path off len digits byte is good. last_good is_good (codes "fill") (path_text path) (decimal off) (decimal len) digits (hex_byte byte) good (hex_good byte (byte_sound digits byte is))) g

pub line_good : (ws : List (List ℕ)) (who : ℕ) (what : What) → IsProperWhat who what → WhatSpelled ws who what → list_all is_good ws ≡ true → list_all is_good (line_words who what) ≡ true
line_good ws who (Server o) h e g =
    let k = and_parts (is_good (decimal who)) (list_all is_good e.0) (sym (ap (list_all is_good) e.1) ∙ g) in
    and_from (is_good (decimal who)) (list_all is_good (op_words o)) k.0 (op_good e.0 o e.2 k.1)
line_good ws who (Host o) h e g = sym (ap (list_all is_good) e) ∙ g

-- printed words ask the same
op_printed : (ws : List (List ℕ)) (o : Op) → IsProperOp o → OpSpelled ws o → OpSpelled (op_words o) o
op_printed ws (op.Fill path off len byte) h e = (hex_byte byte, byte_complete byte h.4, refl)
op_printed ws _ h e = refl

what_printed : (ws : List (List ℕ)) (who : ℕ) (what : What) → IsProperWhat who what → WhatSpelled ws who what → WhatSpelled (line_words who what) who what
what_printed ws who (Server o) h e = (op_words o, refl, op_printed e.0 o h.1 e.2)
what_printed ws who (Host o) h e = refl

-- a printed line isn't a comment
same_bytes : (ds : List ℕ) → bytes_eq ds ds ≡ true
same_bytes ds = (bytes_eq-Decides ds ds).1 refl

and_false : {b : Bool} (a : Bool) → (a && b) ≡ false → b ≡ true → a ≡ false
and_false true e f = cc
and_false false e f = refl

numeral_first : (ds : List ℕ) → is_numeral ds ≡ true → is_comment ds ≡ false
numeral_first [] e = refl
numeral_first (d ∷ ds) e = and_false (eqb d 35) (numeral_differs (d ∷ ds) 35 ds e refl) (same_bytes ds)

comment_first : (b : ℕ) (w : List ℕ) (ws : List (List ℕ)) → is_comment (join_with_byte 32 ((b ∷ w) ∷ ws)) ≡ eqb b 35
comment_first b w [] = refl
comment_first b w (v ∷ ws) = refl

word_first : (w : List ℕ) (ws : List (List ℕ)) → is_some_word w ≡ true → is_comment w ≡ false → is_comment (join_with_byte 32 (w ∷ ws)) ≡ false
word_first [] ws e c = cc
word_first (b ∷ w) ws e c = comment_first b w ws ∙ c

pub record HasWords (words : List (List ℕ)) : Type 0 where
  pub first : List ℕ
  pub rest : List (List ℕ)
  pub is : words ≡ first ∷ rest
  pub no_comment : is_comment first ≡ false

pub line_has : (who : ℕ) (what : What) → IsProperWhat who what → HasWords (line_words who what)
line_has who (Server o) h = record { first = decimal who; rest = op_words o; is = refl; no_comment = numeral_first (decimal who) (numeral-decimal who (omega (arith, h.0))) }
line_has who (Host host.Barrier) h = record { first = codes "barrier"; rest = []; is = refl; no_comment = refl }
line_has who (Host (host.Tick n)) h = record { first = codes "tick"; rest = decimal n ∷ []; is = refl; no_comment = refl }
line_has who (Host host.Halt) h = record { first = codes "halt"; rest = []; is = refl; no_comment = refl }

skipped_none : (line : List ℕ) (w : List ℕ) (ws : List (List ℕ)) → is_comment line ≡ false → words_of line ≡ w ∷ ws → is_skipped line ≡ false
skipped_none line w ws c e = or_from (is_comment line) (eqb (length (words_of line)) 0) c (ap (λ vs. eqb (length vs) 0) e ∙ ne_eqb (suc (length ws)) 0 (λ z. absurd (let k : suc (length ws) ≡ 0 = z in omega arith)))

some_first : (w : List ℕ) (ws : List (List ℕ)) → list_all is_good (w ∷ ws) ≡ true → is_some_word w ≡ true
some_first w ws e = good_some w (and_parts (is_good w) (list_all is_good ws) e).0

printed_command : (words : List (List ℕ)) → HasWords words → list_all is_good words ≡ true → (is_skipped (join_with_byte 32 words) ≡ false) × (is_text (join_with_byte 32 words) ≡ true) × (words_of (join_with_byte 32 words) ≡ words)
printed_command words h g =
    let good : list_all is_good (h.first ∷ h.rest) ≡ true = sym (ap (list_all is_good) h.is) ∙ g in
    let split : words_of (join_with_byte 32 (h.first ∷ h.rest)) ≡ h.first ∷ h.rest = joined_words h.first h.rest good in
    let back : join_with_byte 32 words ≡ join_with_byte 32 (h.first ∷ h.rest) = ap (join_with_byte 32) h.is in (
      ap is_skipped back ∙ skipped_none (join_with_byte 32 (h.first ∷ h.rest)) h.first h.rest (word_first h.first h.rest (some_first h.first h.rest good) h.no_comment) split,
      ap is_text back ∙ joined_text h.first h.rest good,
      ap words_of back ∙ split ∙ sym h.is,
    )

pub command_printed : (line : List ℕ) (a : Asked) → IsCommand line a → IsCommand (line_text a.who.0 a.what) a
command_printed line a c =
    let good = line_good (words_of line) a.who.0 a.what c.2.0 c.2.1 (words_good line c.1) in
    let p = printed_command (line_words a.who.0 a.what) (line_has a.who.0 a.what c.2.0) good in
    (p.0, p.1, (c.2.0, subst (λ ws. WhatSpelled ws a.who.0 a.what) (sym p.2) (what_printed (words_of line) a.who.0 a.what c.2.0 c.2.1)))

-- scripts by the grammar
pub lines_step : (number : ℕ) (halted : Bool) (line : List ℕ) (lines : List (List ℕ)) → number ≤ 65536 → script_from number halted (line ∷ lines) ≡ after_line number halted (numbered number (judged halted line)) (λ h. script_from (number + 1) h lines)
lines_step number halted line lines few = ap (λ b. cond b (Err (fault_at number fault.TooManyLines)) (after_line number halted (numbered number (judged halted line)) (λ h. script_from (number + 1) h lines))) (le-ltb 65536 number few)

abbrev pub line_of : ℕ → Asked → Line
line_of number a = record { number = number; who = a.who; what = a.what }

skipped_judged : (halted : Bool) (line : List ℕ) → is_skipped line ≡ true → judged halted line ≡ Ok None
skipped_judged halted line e = ap (λ b. cond b (Ok None) (cond (not (is_text line)) (Err fault.NotText) (cond halted (Err fault.AfterHalt) (asked_of (words_of line) >>= λ x. Ok (Some x))))) e

none_skipped : (b : Bool) (r : Result Asked LineFault) (t h : Bool) → cond b (Ok None) (cond t (Err fault.NotText) (cond h (Err fault.AfterHalt) (r >>= λ x. Ok (Some x)))) ≡ Ok None → b ≡ true
none_skipped true r t h e = refl
none_skipped false r true h e = cc
none_skipped false r false true e = cc
none_skipped false (Ok x) false false e = (let f : Some x ≡ None = same_ok (Some x) None e in cc)
none_skipped false (Err g) false false e = cc

pub with_line_ok : (line : Line) (r : Result (List Line) ScriptFault) (script : List Line) → with_line line r ≡ Ok script → (rest : List Line) × (r ≡ Ok rest) × (line ∷ rest ≡ script)
with_line_ok line (Ok rest) script e = (rest, refl, same_ok (line ∷ rest) script e)
with_line_ok line (Err f) script e = cc

pub lines_complete : (number : ℕ) (halted : Bool) (ls : List (List ℕ)) (script : List Line) → AreLines number halted ls script → script_from number halted ls ≡ Ok script
lines_complete number halted [] script h = ap Ok (sym h)
lines_complete number halted (line ∷ ls) script (few, inl h) =
    lines_step number halted line ls few
    ∙ ap (λ r. after_line number halted (numbered number r) (λ h. script_from (number + 1) h ls)) (skipped_judged halted line h.0)
    ∙ lines_complete (number + 1) halted ls script h.1
lines_complete number halted (line ∷ ls) script (few, inr h) =
    lines_step number halted line ls few
    ∙ ap (λ r. after_line number halted (numbered number r) (λ h. script_from (number + 1) h ls)) (judged_complete halted line h.0 h.3 h.4)
    ∙ ap (λ b. with_line (line_of number h.0) (script_from (number + 1) b ls)) (or_second_alone halted (is_halt h.0.what) h.3)
    ∙ ap (with_line (line_of number h.0)) (lines_complete (number + 1) (is_halt h.0.what) ls h.1 h.5)
    ∙ ap Ok (sym h.2)

-- a line of the script, and the others
sound_step : (number : ℕ) (halted : Bool) (line : List ℕ) (ls : List (List ℕ)) (script : List Line) (r : Result (Option Asked) LineFault) → number ≤ 65536 → judged halted line ≡ r → ((h : Bool) (rest : List Line) → script_from (number + 1) h ls ≡ Ok rest → AreLines (number + 1) h ls rest) → after_line number halted (numbered number r) (λ h. script_from (number + 1) h ls) ≡ Ok script → AreLines number halted (line ∷ ls) script
sound_step number halted line ls script (Err f) few is more e = cc
sound_step number halted line ls script (Ok None) few is more e = (few, inl (none_skipped (is_skipped line) (asked_of (words_of line)) (not (is_text line)) halted is, more halted script e))
sound_step number halted line ls script (Ok (Some a)) few is more e =
    let w = with_line_ok (line_of number a) (script_from (number + 1) (halted || is_halt a.what) ls) script e in
    let j = judged_sound halted line a is in
    (few, inr (a, w.0, sym w.2, j.goes_on, j.command, more (is_halt a.what) w.0 (ap (λ b. script_from (number + 1) b ls) (sym (or_second_alone halted (is_halt a.what) j.goes_on)) ∙ w.1)))

pub lines_sound : (number : ℕ) (halted : Bool) (ls : List (List ℕ)) (script : List Line) → script_from number halted ls ≡ Ok script → AreLines number halted ls script
lines_sound number halted [] script e = sym (same_ok [] script e)
lines_sound number halted (line ∷ ls) script e =
    let g = guard_ok (ltb 65536 number) (fault_at number fault.TooManyLines) (after_line number halted (numbered number (judged halted line)) (λ h. script_from (number + 1) h ls)) script e in
    sound_step number halted line ls script (judged halted line) (ltb-false 65536 number g.0) refl (λ h rest f. lines_sound (number + 1) h ls rest f) g.1

pub text_complete : (bytes : List ℕ) (script : List Line) → IsScriptText bytes script → script_of bytes ≡ Ok script
text_complete bytes script h =
    ap (λ b. cond b (Err (fault_at 0 fault.ScriptTooLong)) (script_from 1 false (lines bytes))) (le-ltb 1048576 (length bytes) h.0)
    ∙ lines_complete 1 false (lines bytes) script h.1

pub text_sound : (bytes : List ℕ) (script : List Line) → script_of bytes ≡ Ok script → IsScriptText bytes script
text_sound bytes script e =
    let g = guard_ok (ltb 1048576 (length bytes)) (fault_at 0 fault.ScriptTooLong) (script_from 1 false (lines bytes)) script e in
    (ltb-false 1048576 (length bytes) g.0, lines_sound 1 false (lines bytes) script g.1)

pub one_script : (bytes : List ℕ) (s t : List Line) → IsScriptText bytes s → IsScriptText bytes t → s ≡ t
one_script bytes s t h k = same_ok s t (sym (text_complete bytes s h) ∙ text_complete bytes t k)
