-- The text that prints a script is longer than the one that was read by at most the line feed that may lack at its end.
use Rattle.std.proofs.Common.{◌≡◌, ℕ, ◌+◌, ◌-◌, ◌≤◌, Bool, true, false, ◌||◌, cond, eqb, ltb, List, [], ◌∷◌, ◌++◌, length, length-append, take, filter, replicate, Option, Some, None, Result, Ok, Err, refl, sym, ◌∙◌, ap, subst, arith, zero, suc}
use Rattle.std.specs.Prelude.{min}
use Rattle.std.proofs.lemmas.List.{length-take}
use Rattle.std.specs.List.{slice_index, slice_split, onto_first, join_with_byte}
use Rattle.std.specs.Fmt.{decimal}
use Rattle.std.specs.Str.Lines.{lines, lines_of_parts}
use Rattle.frang_base.specs.declared.op.Op.{Op}
use Rattle.frang_base.specs.declared.op.What.{What}
use Rattle.frang_base.specs.declared.op.What.TheVariants.{Server, Host}
use Rattle.frang_base.specs.declared.script.Line.{Line}
use Rattle.script_definitions.specs.ScriptWords.{is_blank, is_some_word, words_of, byte_at}
use Rattle.script_definitions.specs.ScriptText.{judged, fault_at, numbered, after_line, script_from, script_of}
use Rattle.tree_definitions.specs.Transcript.{is_halt}
use Rattle.script_definitions.specs.ScriptPrinted.{op_words, line_words, line_text, printed_from, printed}
use Rattle.script_definitions.specs.ScriptGrammar.{OpSpelled, WhatSpelled}
use Rattle.script_definitions.specs.declared.asked.Asked.{Asked}
use Rattle.script_definitions.specs.declared.fault.LineFault.{LineFault}
use Rattle.script_definitions.specs.declared.fault.LineFault.TheVariants as fault
use Rattle.script_definitions.proofs.PartsLaws.{HasFirst, split_has}
use Rattle.script_definitions.proofs.AskedLaws.{guard_ok, same_ok}
use Rattle.std.proofs.lemmas.Bool.{ltb-false}
use Rattle.script_definitions.proofs.PrintedLaws.{read_again}
use Rattle.script_definitions.proofs.JudgedLaws.{HasWords, line_has, judged_sound, line_of, with_line_ok, spelled_by}

-- the bytes of parts, with one more for each
abbrev span : List (List ℕ) → ℕ
span [] = 0
span (part ∷ parts) = length part + 1 + span parts

join_span : (c : ℕ) (part : List ℕ) (parts : List (List ℕ)) → length (join_with_byte c (part ∷ parts)) + 1 ≡ span (part ∷ parts)
join_span c part [] = omega arith
join_span c part (next ∷ parts) =
    let more = join_span c next parts in
    let both : length (part ++ c ∷ join_with_byte c (next ∷ parts)) ≡ length part + suc (length (join_with_byte c (next ∷ parts))) = length-append part (c ∷ join_with_byte c (next ∷ parts)) in
    omega (arith, more, both)

first_span : (x : ℕ) (parts : List (List ℕ)) → HasFirst parts → span (onto_first x parts) ≡ suc (span parts)
first_span x parts h =
    let onto : span (onto_first x parts) ≡ suc (length h.first) + 1 + span h.rest = ap (λ ps. span (onto_first x ps)) h.is in
    let all : span parts ≡ length h.first + 1 + span h.rest = ap span h.is in
    omega (arith, onto, all)

split_step : (b : Bool) (x : ℕ) (parts : List (List ℕ)) → HasFirst parts → span (cond b ([] ∷ parts) (onto_first x parts)) ≡ suc (span parts)
split_step true x parts h = omega arith
split_step false x parts h = first_span x parts h

split_span : (p : ℕ → Bool) (text : List ℕ) → span (slice_split p text) ≡ length text + 1
split_span p [] = refl
split_span p (x ∷ text) =
    let step : span (slice_split p (x ∷ text)) ≡ suc (span (slice_split p text)) = split_step (p x) x (slice_split p text) (split_has p text) in
    let rest = split_span p text in
    omega (arith, step, rest)

keep_step : (b : Bool) (part : List ℕ) (kept parts : List (List ℕ)) → span kept ≤ span parts → span (cond b (part ∷ kept) kept) ≤ span (part ∷ parts)
keep_step true part kept parts h = omega arith
keep_step false part kept parts h = omega arith

filter_span : (q : List ℕ → Bool) (parts : List (List ℕ)) → span (filter q parts) ≤ span parts
filter_span q [] = omega arith
filter_span q (part ∷ parts) = keep_step (q part) part (filter q parts) parts (filter_span q parts)

words_span : (line : List ℕ) → span (words_of line) ≤ length line + 1
words_span line = subst (λ n. span (words_of line) ≤ n) (split_span is_blank line) (filter_span is_some_word (slice_split is_blank line))

-- printed words are as long as those that were read
two_digits : (digits : List ℕ) (b : ℕ) → byte_at digits ≡ Ok b → length digits ≡ 2
two_digits [] b e = cc
two_digits (x ∷ []) b e = cc
two_digits (x ∷ y ∷ []) b e = refl
two_digits (x ∷ y ∷ z ∷ digits) b e = cc

op_span : (ws : List (List ℕ)) (o : Op) → OpSpelled ws o → span (op_words o) ≡ span ws
op_span ws o e = spelled_by (λ words. span words ≡ span ws) ws o e (λ path off len digits byte is same. (let two = two_digits digits byte is in omega (arith, two, same))) refl

what_span : (ws : List (List ℕ)) (who : ℕ) (what : What) → WhatSpelled ws who what → span (line_words who what) ≡ span ws
what_span ws who (Server o) e = ap (λ n. length (decimal who) + 1 + n) (op_span e.0 o e.2) ∙ sym (ap span e.1)
what_span ws who (Host o) e = sym (ap span e)

words_length : (words : List (List ℕ)) → HasWords words → length (join_with_byte 32 words) + 1 ≡ span words
words_length words h = ap (λ ws. length (join_with_byte 32 ws) + 1) h.is ∙ join_span 32 h.first h.rest ∙ sym (ap span h.is)

text_short : (halted : Bool) (line : List ℕ) (a : Asked) → judged halted line ≡ Ok (Some a) → length (line_text a.who.0 a.what) ≤ length line
text_short halted line a e =
    let asks = (judged_sound halted line a e).command.2 in
    let whole = words_length (line_words a.who.0 a.what) (line_has a.who.0 a.what asks.0) in
    let same = what_span (words_of line) a.who.0 a.what asks.1 in
    let few = words_span line in
    omega (arith, whole, same, few)

-- lines are no longer than their text
strip_step : (b : Bool) (line : List ℕ) → length (cond b (take (length line - 1) line) line) ≤ length line
strip_step true line = let short : length (take (length line - 1) line) ≡ min (length line - 1) (length line) = length-take (length line - 1) line in omega (arith, short)
strip_step false line = omega arith

last_step : (b : Bool) (line : List ℕ) → span (cond b [] (line ∷ [])) ≤ span (line ∷ [])
last_step true line = omega arith
last_step false line = omega arith

parts_span : (parts : List (List ℕ)) → span (lines_of_parts parts) ≤ span parts
parts_span [] = omega arith
parts_span (x ∷ []) = last_step (eqb (length x) 0) x
parts_span (x ∷ y ∷ more) =
    let short = strip_step (eqb (slice_index x (length x - 1)) 13) x in
    let rest = parts_span (y ∷ more) in
    omega (arith, short, rest)

lines_span : (bytes : List ℕ) → span (lines bytes) ≤ length bytes + 1
lines_span bytes = subst (λ n. span (lines bytes) ≤ n) (split_span (λ b. eqb b 10) bytes) (parts_span (slice_split (λ b. eqb b 10) bytes))

-- what some lines print takes no more than they, and the empty lines before them
line_length : (k : ℕ) (text rest : List ℕ) → length (replicate k 10 ++ (text ++ 10 ∷ rest)) ≡ k + (length text + suc (length rest))
line_length zero text rest = let both : length (text ++ 10 ∷ rest) ≡ length text + suc (length rest) = length-append text (10 ∷ rest) in omega (arith, both)
line_length (suc k) text rest = let more = line_length k text rest in omega (arith, more)

step_length : (m n : ℕ) (halted : Bool) (line : List ℕ) (ls : List (List ℕ)) (script : List Line) (r : Result (Option Asked) LineFault) → m ≤ n → judged halted line ≡ r → ((k : ℕ) (h : Bool) (rest : List Line) → k ≤ n + 1 → script_from (n + 1) h ls ≡ Ok rest → length (printed_from k rest) ≤ n + 1 - k + span ls) → after_line n halted (numbered n r) (λ h. script_from (n + 1) h ls) ≡ Ok script → length (printed_from m script) ≤ n - m + span (line ∷ ls)
step_length m n halted line ls script (Err f) low is more e = cc
step_length m n halted line ls script (Ok None) low is more e = let h = more m halted script (omega arith) e in omega (arith, h)
step_length m n halted line ls script (Ok (Some a)) low is more e =
    let w = with_line_ok (line_of n a) (script_from (n + 1) (halted || is_halt a.what) ls) script e in
    let text = line_text a.who.0 a.what in
    let rest = printed_from (n + 1) w.0 in
    let short : length text ≤ length line = text_short halted line a is in
    let left : length rest ≤ n + 1 - (n + 1) + span ls = more (n + 1) (halted || is_halt a.what) w.0 (omega arith) w.1 in
    let all : length (printed_from m (line_of n a ∷ w.0)) ≡ (n - m) + (length text + suc (length rest)) = line_length (n - m) text rest in
    subst (λ s. length (printed_from m s) ≤ n - m + span (line ∷ ls)) w.2 (omega (arith, short, left, all))

lines_length : (ls : List (List ℕ)) (m n : ℕ) (halted : Bool) (script : List Line) → m ≤ n → script_from n halted ls ≡ Ok script → length (printed_from m script) ≤ n - m + span ls
lines_length [] m n halted script low e = subst (λ s. length (printed_from m s) ≤ n - m + 0) (same_ok [] script e) (let z : 0 ≤ n - m + 0 = omega arith in z)
lines_length (line ∷ ls) m n halted script low e =
    let g = guard_ok (ltb 65536 n) (fault_at n fault.TooManyLines) (after_line n halted (numbered n (judged halted line)) (λ h. script_from (n + 1) h ls)) script e in
    step_length m n halted line ls script (judged halted line) low refl (λ k h rest b f. lines_length ls k (n + 1) h rest b f) g.1

pub printed_short : (bytes : List ℕ) (script : List Line) → script_of bytes ≡ Ok script → length (printed script) ≤ length bytes + 1
printed_short bytes script e =
    let g = guard_ok (ltb 1048576 (length bytes)) (fault_at 0 fault.ScriptTooLong) (script_from 1 false (lines bytes)) script e in
    let h = lines_length (lines bytes) 1 1 false script (omega arith) g.1 in
    let k = lines_span bytes in
    omega (arith, h, k)

-- where the text ends by a line feed, its lines take no more than it
split_more : (b : Bool) (x : ℕ) (parts : List (List ℕ)) → HasFirst parts → cond b ([] ∷ (parts ++ [] ∷ [])) (onto_first x (parts ++ [] ∷ [])) ≡ cond b ([] ∷ parts) (onto_first x parts) ++ [] ∷ []
split_more true x parts h = refl
split_more false x parts h = ap (λ ps. onto_first x (ps ++ [] ∷ [])) h.is ∙ sym (ap (λ ps. onto_first x ps ++ [] ∷ []) h.is)

split_ended : (text : List ℕ) → slice_split (λ b. eqb b 10) (text ++ 10 ∷ []) ≡ slice_split (λ b. eqb b 10) text ++ [] ∷ []
split_ended [] = refl
split_ended (x ∷ text) =
    ap (λ ps. cond (eqb x 10) ([] ∷ ps) (onto_first x ps)) (split_ended text)
    ∙ split_more (eqb x 10) x (slice_split (λ b. eqb b 10) text) (split_has (λ b. eqb b 10) text)

ended_span : (parts : List (List ℕ)) → span (lines_of_parts (parts ++ [] ∷ [])) ≤ span parts
ended_span [] = omega arith
ended_span (x ∷ []) = let short = strip_step (eqb (slice_index x (length x - 1)) 13) x in omega (arith, short)
ended_span (x ∷ y ∷ more) =
    let short = strip_step (eqb (slice_index x (length x - 1)) 13) x in
    let rest = ended_span (y ∷ more) in
    omega (arith, short, rest)

ended_lines : (text : List ℕ) → span (lines (text ++ 10 ∷ [])) ≤ length text + 1
ended_lines text =
    let same : lines (text ++ 10 ∷ []) ≡ lines_of_parts (slice_split (λ b. eqb b 10) text ++ [] ∷ []) = ap lines_of_parts (split_ended text) in
    let few = ended_span (slice_split (λ b. eqb b 10) text) in
    let all = split_span (λ b. eqb b 10) text in
    let equal = ap span same in
    omega (arith, few, all, equal)

printed_ended : (text : List ℕ) (script : List Line) → script_of (text ++ 10 ∷ []) ≡ Ok script → length (printed script) ≤ 1048576
printed_ended text script e =
    let bytes = text ++ 10 ∷ [] in
    let g = guard_ok (ltb 1048576 (length bytes)) (fault_at 0 fault.ScriptTooLong) (script_from 1 false (lines bytes)) script e in
    let h = lines_length (lines bytes) 1 1 false script (omega arith) g.1 in
    let k = ended_lines text in
    let few : length bytes ≤ 1048576 = ltb-false 1048576 (length bytes) g.0 in
    let size : length bytes ≡ length text + 1 = length-append text (10 ∷ []) in
    omega (arith, h, k, few, size)

pub ended_again : (text : List ℕ) (script : List Line) → script_of (text ++ 10 ∷ []) ≡ Ok script → script_of (printed script) ≡ Ok script
ended_again text script e = read_again (text ++ 10 ∷ []) script e (printed_ended text script e)
