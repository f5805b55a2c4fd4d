-- A proper line is read back from its bytes.
use Rattle.std.proofs.Common.{◌≡◌, ℕ, ◌+◌, ◌-◌, ◌*◌, ◌/◌, ◌%◌, ◌^◌, ◌≤◌, ◌<◌, Bool, true, false, not, ◌&&◌, cond, eqb, ltb, leb, inl, inr, List, [], ◌∷◌, ◌++◌, length, take, get_or, Some, None, refl, sym, ◌∙◌, ap, arith, append_assoc, codes, suc, if◌then◌else◌, ◌==◌}
use Rattle.std.specs.List.{list_all, slice_split, join_with_byte, flat_map}
use Rattle.std.specs.Option.{option_map, option_and_then}
use Rattle.std.specs.Str.{bytes_eq}
use Rattle.std.specs.Fmt.{decimal}
use Rattle.std.proofs.lemmas.Bool.{and_parts, and_from, ltb-true, ltb-false, leb-true, le-leb, lt-leb, and_right, ne_eqb, lt-ltb, eqb-true, false_from_ne_true}
use Rattle.std.proofs.lemmas.List.{take_at, get_or_at, length_push}
use Rattle.std.proofs.lemmas.List.Splits.{join_with_byte-slice_split}
use Rattle.frang_base.specs.Name.{is_name, is_name_byte, is_dots, is_target, is_target_byte}
use Rattle.frang_base.specs.declared.reply.Reply.{Reply}
use Rattle.frang_base.specs.declared.reply.Reply.TheVariants as reply
use Rattle.frang_base.specs.declared.said.Said.{Said}
use Rattle.frang_base.specs.declared.said.Said.TheVariants as said
use Rattle.frang_base.specs.declared.sector.ServerId.{ServerId}
use Rattle.frang_base.specs.declared.sector.OpNo.{OpNo}
use Rattle.tree_definitions.specs.SaidLines.{hex_digit, hex_byte, spaced, reply_word, run_point, reply_text, who_text, run_line, keeps_text, node_text, said_text, said_line}
use Rattle.script_definitions.specs.Numerals.{is_digit, is_numeral, count_at}
use Rattle.script_definitions.specs.SaidReading.{IsWho, is_path_text, IsProperReply, IsNodeKind, IsProperSaid, parts_of, sole, first_of_parts, server_at, who_at, log_at, two_counts, point_at, op_at, hex_value, byte_at, hex_bytes, shown_of, reply_of, answer_of, note_from, kind_from, node_from, said_from, said_in, without_feed, said_of}
use Rattle.script_definitions.proofs.NumeralLaws.{IsPlain-decimal, numeral-decimal, number_in-decimal}
use Rattle.script_definitions.proofs.PartsLaws.{HasFirst, part_alone}
use Rattle.script_definitions.proofs.Splitting.{is_free, all_weaker, all_append, split_before, split_alone, split_join, joined, all_joined}

-- the kinds of nodes with their numbers
abbrev pub file_kind : ℕ × ℕ → ℕ × ℕ × ℕ
file_kind p = (1, p.0, p.1)

abbrev pub dir_kind : ℕ → ℕ → ℕ × ℕ × ℕ
dir_kind kind n = (kind, n, 0)

-- digits are no separators
not_same : (b c : ℕ) → (b ≡ c → ⊥) → not (eqb b c) ≡ true
not_same b c h = ap not (ne_eqb b c h)

digit_free : (c : ℕ) → is_digit c ≡ false → (b : ℕ) → is_digit b ≡ true → not (eqb b c) ≡ true
digit_free c other b digit = not_same b c (λ e. (let f : is_digit b ≡ false = ap is_digit e ∙ other in cc))

pub decimal_free : (c n : ℕ) → is_digit c ≡ false → n < 2 ^ 64 → is_free c (decimal n) ≡ true
decimal_free c n other small = all_weaker is_digit (λ b. not (eqb b c)) (digit_free c other) (decimal n) (IsPlain-decimal n small).digits

-- bytes of parts stand above the blank
abbrev pub is_above : List ℕ → Bool
is_above part = list_all (λ b. ltb 32 b) part

digit_above : (b : ℕ) → is_digit b ≡ true → ltb 32 b ≡ true
digit_above b e = lt-ltb 32 b (let h : 48 ≤ b = leb-true 48 b (and_parts (leb 48 b) (leb b 57) e).0 in omega arith)

pub decimal_above : (n : ℕ) → n < 2 ^ 64 → is_above (decimal n) ≡ true
decimal_above n small = all_weaker is_digit (λ b. ltb 32 b) digit_above (decimal n) (IsPlain-decimal n small).digits

-- a numeral doesn't begin with anything else
pub numeral_differs : (ds : List ℕ) (c : ℕ) (w : List ℕ) → is_numeral ds ≡ true → is_digit c ≡ false → bytes_eq ds (c ∷ w) ≡ false
numeral_differs [] c w e other = refl
numeral_differs (d ∷ []) c w e other = false_from_ne_true (bytes_eq (d ∷ []) (c ∷ w)) (λ t. (let s : d ≡ c = eqb-true d c (and_parts (eqb d c) (bytes_eq [] w) t).0 in let f : is_digit d ≡ false = ap is_digit s ∙ other in cc))
numeral_differs (d ∷ e ∷ ds) c w n other = false_from_ne_true (bytes_eq (d ∷ e ∷ ds) (c ∷ w)) (λ t.
    (let s : d ≡ c = eqb-true d c (and_parts (eqb d c) (bytes_eq (e ∷ ds) w) t).0 in
    let h = and_parts (is_digit d && not (eqb d 48)) (list_all is_digit (e ∷ ds)) n in
    let g = and_parts (is_digit d) (not (eqb d 48)) h.0 in
    let y : is_digit d ≡ true = g.0 in
    let f : is_digit d ≡ false = ap is_digit s ∙ other in cc))

-- counts
pub count_back : (n : ℕ) → n < 2 ^ 32 → count_at (decimal n) ≡ Some n
count_back n h = number_in-decimal 0 4294967295 n (omega arith) (omega arith) (omega arith)

pub two_back : (m n : ℕ) → m < 2 ^ 32 → n < 2 ^ 32 → two_counts (decimal m ∷ decimal n ∷ []) ≡ Some (m, n)
two_back m n h k =
    ap (λ o. option_and_then (λ a. option_map (λ b. (a, b)) (count_at (decimal n))) o) (count_back m h)
    ∙ ap (λ o. option_map (λ b. (m, b)) o) (count_back n k)

pub point_back : (m n : ℕ) → m < 2 ^ 32 → n < 2 ^ 32 → point_at (run_point m n) ≡ Some (m, n)
unfolding run_point
point_back m n h k =
    ap (λ t. two_counts (slice_split (λ b. eqb b 46) t)) (append_assoc (decimal m) (46 ∷ []) (decimal n))
    ∙ ap two_counts (split_before 46 (decimal m) (decimal n) (decimal_free 46 m refl (omega arith)))
    ∙ ap (λ ps. two_counts (decimal m ∷ ps)) (split_alone 46 (decimal n) (decimal_free 46 n refl (omega arith)))
    ∙ two_back m n h k

pub point_clean : (m n : ℕ) → m < 2 ^ 64 → n < 2 ^ 64 → is_above (run_point m n) ≡ true
unfolding run_point
point_clean m n h k = all_append (λ b. ltb 32 b) (decimal m ++ 46 ∷ []) (decimal n) (all_append (λ b. ltb 32 b) (decimal m) (46 ∷ []) (decimal_above m h) refl) (decimal_above n k)

op_same : (op : ℕ) → (op / 4294967296) * 4294967296 + op % 4294967296 ≡ op
op_same op = omega arith

abbrev op_number : ℕ → OpNo
op_number n = record { 0 = n }

pub op_back : (op : OpNo) → op.0 < 2 ^ 64 → op_at (run_line op.0) ≡ Some op
op_back op h =
    ap (λ o. option_map (λ p. op_number (p.0 * 4294967296 + p.1)) o) (point_back (op.0 / 4294967296) (op.0 % 4294967296) (omega arith) (omega arith))
    ∙ ap (λ n. Some (op_number n)) (op_same op.0)

-- servers
abbrev server_number : ℕ → ServerId
server_number n = record { 0 = n }

pub server_back : (s : ServerId) → s.0 ≤ 15 → server_at (decimal s.0) ≡ Some s
server_back s h = ap (λ o. option_map server_number o) (number_in-decimal 0 15 s.0 (omega arith) h (omega arith))

pub log_back : (s : ServerId) → s.0 ≤ 255 → log_at (decimal s.0) ≡ Some s
log_back s h = ap (λ o. option_map server_number o) (number_in-decimal 0 255 s.0 (omega arith) h (omega arith))

pub who_low : (n : ℕ) → n ≤ 15 → who_text n ≡ decimal n
who_low n h = ap (λ b. cond b (codes "-") (decimal n)) (ne_eqb n 255 (λ e. absurd (omega arith)))

pub who_back : (s : ServerId) → IsWho s.0 → who_at (who_text s.0) ≡ Some s
who_back s (inl h) =
    ap who_at (who_low s.0 h)
    ∙ ap (λ b. cond b (Some (server_number 255)) (server_at (decimal s.0))) (numeral_differs (decimal s.0) 45 [] (numeral-decimal s.0 (omega arith)) refl)
    ∙ server_back s h
who_back s (inr e) = ap (λ n. who_at (who_text n)) e ∙ ap (λ n. Some (server_number n)) (sym e)

pub who_clean : (n : ℕ) → IsWho n → is_above (who_text n) ≡ true
who_clean n (inl h) = ap is_above (who_low n h) ∙ decimal_above n (omega arith)
who_clean n (inr e) = ap (λ k. is_above (who_text k)) e

-- bytes in hexadecimal digits
hex_low : (d : ℕ) → d < 10 → hex_value (48 + d) ≡ Some d
hex_low d h =
    ap (λ b. cond b (Some (48 + d - 48)) (cond (leb 97 (48 + d) && leb (48 + d) 102) (Some (48 + d - 87)) None)) (and_from (leb 48 (48 + d)) (leb (48 + d) 57) (le-leb 48 (48 + d) (omega arith)) (le-leb (48 + d) 57 (omega arith)))
    ∙ ap Some (let e : 48 + d - 48 ≡ d = omega arith in e)

hex_high : (d : ℕ) → 10 ≤ d → d < 16 → hex_value (87 + d) ≡ Some d
hex_high d h k =
    ap (λ b. cond b (Some (87 + d - 48)) (cond (leb 97 (87 + d) && leb (87 + d) 102) (Some (87 + d - 87)) None)) (and_right (leb 48 (87 + d)) (leb (87 + d) 57) (lt-leb (87 + d) 57 (omega arith)))
    ∙ ap (λ b. cond b (Some (87 + d - 87)) None) (and_from (leb 97 (87 + d)) (leb (87 + d) 102) (le-leb 97 (87 + d) (omega arith)) (le-leb (87 + d) 102 (omega arith)))
    ∙ ap Some (let e : 87 + d - 87 ≡ d = omega arith in e)

hex_step : (d : ℕ) (b : Bool) → ltb d 10 ≡ b → d < 16 → hex_value (cond b (48 + d) (87 + d)) ≡ Some d
hex_step d true e h = hex_low d (ltb-true d 10 e)
hex_step d false e h = hex_high d (ltb-false d 10 e) h

digit_back : (d : ℕ) → d < 16 → hex_value (hex_digit d) ≡ Some d
digit_back d h = hex_step d (ltb d 10) refl h

digit_other : (d : ℕ) (b : Bool) → ltb 32 (cond b (48 + d) (87 + d)) ≡ true
digit_other d true = lt-ltb 32 (48 + d) (omega arith)
digit_other d false = lt-ltb 32 (87 + d) (omega arith)

byte_back : (b : ℕ) → b < 256 → byte_at (hex_digit (b / 16)) (hex_digit (b % 16)) ≡ Some b
byte_back b h =
    ap (λ o. option_and_then (λ n. option_map (λ l. n * 16 + l) (hex_value (hex_digit (b % 16)))) o) (digit_back (b / 16) (omega arith))
    ∙ ap (λ o. option_map (λ l. b / 16 * 16 + l) o) (digit_back (b % 16) (omega arith))
    ∙ ap Some (let e : b / 16 * 16 + b % 16 ≡ b = omega arith in e)

pub hex_back : (bytes : List ℕ) → list_all (λ b. ltb b 256) bytes ≡ true → hex_bytes (flat_map hex_byte bytes) ≡ Some bytes
hex_back [] e = refl
hex_back (b ∷ bytes) e =
    let h = and_parts (ltb b 256) (list_all (λ c. ltb c 256) bytes) e in
    ap (λ o. option_and_then (λ c. option_map (λ cs. c ∷ cs) (hex_bytes (flat_map hex_byte bytes))) o) (byte_back b (ltb-true b 256 h.0))
    ∙ ap (λ o. option_map (λ cs. b ∷ cs) o) (hex_back bytes h.1)

pub hex_clean : (bytes : List ℕ) → is_above (flat_map hex_byte bytes) ≡ true
hex_clean [] = refl
hex_clean (b ∷ bytes) = and_from (ltb 32 (hex_digit (b / 16))) (ltb 32 (hex_digit (b % 16)) && is_above (flat_map hex_byte bytes)) (digit_other (b / 16) (ltb (b / 16) 10)) (and_from (ltb 32 (hex_digit (b % 16))) (is_above (flat_map hex_byte bytes)) (digit_other (b % 16) (ltb (b % 16) 10)) (hex_clean bytes))

pub shown_back : (b : ℕ) (bytes : List ℕ) → list_all (λ b. ltb b 256) (b ∷ bytes) ≡ true → shown_of (flat_map hex_byte (b ∷ bytes) ∷ []) ≡ Some (b ∷ bytes)
shown_back b bytes e =
    ap (λ t. cond t None (hex_bytes (flat_map hex_byte (b ∷ bytes)))) (ne_eqb (length (flat_map hex_byte (b ∷ bytes))) 0 (λ h. absurd (let k : suc (suc (length (flat_map hex_byte bytes))) ≡ 0 = h in omega arith)))
    ∙ hex_back (b ∷ bytes) e

-- names and targets
name_byte_clean : (b : ℕ) → is_name_byte b ≡ true → ltb 32 b ≡ true
name_byte_clean b e =
    let h = and_parts (ltb 32 b && not (eqb b 47)) (not (eqb b 127)) e in
    (and_parts (ltb 32 b) (not (eqb b 47)) h.0).0

pub name_bytes : (name : List ℕ) → is_name name ≡ true → list_all is_name_byte name ≡ true
name_bytes name e =
    let h = and_parts (ltb 0 (length name) && leb (length name) 64 && list_all is_name_byte name) (not (is_dots name)) e in
    (and_parts (ltb 0 (length name) && leb (length name) 64) (list_all is_name_byte name) h.0).1

pub name_clean : (name : List ℕ) → is_name name ≡ true → is_above name ≡ true
name_clean name e = all_weaker is_name_byte (λ b. ltb 32 b) name_byte_clean name (name_bytes name e)

pub names_clean : (names : List (List ℕ)) → list_all is_name names ≡ true → list_all is_above names ≡ true
names_clean names e = all_weaker is_name is_above name_clean names e

target_byte_clean : (b : ℕ) → is_target_byte b ≡ true → ltb 32 b ≡ true
target_byte_clean b e = (and_parts (ltb 32 b) (not (eqb b 127)) e).0

pub target_clean : (target : List ℕ) → is_target target ≡ true → is_above target ≡ true
target_clean target e =
    let h = and_parts (ltb 0 (length target) && leb (length target) 384) (list_all is_target_byte target) e in
    all_weaker is_target_byte (λ b. ltb 32 b) target_byte_clean target h.1

below_clean : (text : List ℕ) → list_all is_name (slice_split (λ b. eqb b 47) text) ≡ true → is_above text ≡ true
below_clean text e =
    sym (ap is_above (join_with_byte-slice_split 47 text))
    ∙ all_joined (λ b. ltb 32 b) 47 (slice_split (λ b. eqb b 47) text) refl (names_clean (slice_split (λ b. eqb b 47) text) e)

slash_clean : (b : ℕ) → eqb b 47 ≡ true → ltb 32 b ≡ true
slash_clean b e = ap (ltb 32) (eqb-true b 47 e)

pub path_clean : (path : List ℕ) → is_path_text path ≡ true → is_above path ≡ true
path_clean [] e = refl
path_clean (b ∷ []) e = and_from (ltb 32 b) true (slash_clean b e) refl
path_clean (b ∷ c ∷ text) e =
    let h = and_parts (eqb b 47) (list_all is_name (slice_split (λ d. eqb d 47) (c ∷ text))) e in
    and_from (ltb 32 b) (is_above (c ∷ text)) (slash_clean b h.0) (below_clean (c ∷ text) h.1)

-- the parts of a reply
abbrev pub reply_parts : Reply → List (List ℕ)
reply_parts (reply.Shown []) = codes "data" ∷ []
reply_parts (reply.Shown (b ∷ bytes)) = codes "data" ∷ flat_map hex_byte (b ∷ bytes) ∷ []
reply_parts (reply.File size links) = codes "file" ∷ decimal size ∷ decimal links ∷ []
reply_parts (reply.Dir entries) = codes "dir" ∷ decimal entries ∷ []
reply_parts (reply.Symlink len) = codes "link" ∷ decimal len ∷ []
reply_parts (reply.Names names) = codes "names" ∷ names
reply_parts (reply.Target target) = codes "target" ∷ target ∷ []
reply_parts (reply.Time run tick) = codes "time" ∷ run_point run tick ∷ []
reply_parts reply.NoInode = codes "nospace" ∷ codes "inode" ∷ []
reply_parts reply.NoDirBlock = codes "nospace" ∷ codes "dir" ∷ []
reply_parts (reply.NoBlock m) = codes "nospace" ∷ codes "data" ∷ decimal m ∷ []
reply_parts reply.NoLarge = codes "nospace" ∷ codes "large" ∷ []
reply_parts r = reply_word r ∷ []

pub reply_joined : (r : Reply) → reply_text r ≡ join_with_byte 32 (reply_parts r)
reply_joined (reply.Shown []) = refl
reply_joined (reply.Shown (b ∷ bytes)) = refl
reply_joined (reply.Names names) = sym (joined 32 (codes "names") names)
reply_joined r = refl

pub reply_first : (r : Reply) → HasFirst (reply_parts r)
reply_first (reply.Shown []) = record { first = codes "data"; rest = []; is = refl }
reply_first (reply.Shown (b ∷ bytes)) = record { first = codes "data"; rest = flat_map hex_byte (b ∷ bytes) ∷ []; is = refl }
reply_first (reply.File size links) = record { first = codes "file"; rest = decimal size ∷ decimal links ∷ []; is = refl }
reply_first (reply.Dir entries) = record { first = codes "dir"; rest = decimal entries ∷ []; is = refl }
reply_first (reply.Symlink len) = record { first = codes "link"; rest = decimal len ∷ []; is = refl }
reply_first (reply.Names names) = record { first = codes "names"; rest = names; is = refl }
reply_first (reply.Target target) = record { first = codes "target"; rest = target ∷ []; is = refl }
reply_first (reply.Time run tick) = record { first = codes "time"; rest = run_point run tick ∷ []; is = refl }
reply_first reply.NoInode = record { first = codes "nospace"; rest = codes "inode" ∷ []; is = refl }
reply_first reply.NoDirBlock = record { first = codes "nospace"; rest = codes "dir" ∷ []; is = refl }
reply_first (reply.NoBlock m) = record { first = codes "nospace"; rest = codes "data" ∷ decimal m ∷ []; is = refl }
reply_first reply.NoLarge = record { first = codes "nospace"; rest = codes "large" ∷ []; is = refl }
reply_first r = record { first = reply_word r; rest = []; is = refl }

pub reply_clean : (r : Reply) → IsProperReply r → list_all is_above (reply_parts r) ≡ true
reply_clean (reply.Shown []) h = refl
reply_clean (reply.Shown (b ∷ bytes)) h = and_from (is_above (flat_map hex_byte (b ∷ bytes))) true (hex_clean (b ∷ bytes)) refl
reply_clean (reply.File size links) h = and_from (is_above (decimal size)) (is_above (decimal links) && true) (decimal_above size (omega (arith, h.0))) (and_from (is_above (decimal links)) true (decimal_above links (omega (arith, h.1))) refl)
reply_clean (reply.Dir entries) h = and_from (is_above (decimal entries)) true (decimal_above entries (omega (arith, h))) refl
reply_clean (reply.Symlink len) h = and_from (is_above (decimal len)) true (decimal_above len (omega (arith, h))) refl
reply_clean (reply.Names names) h = names_clean names h
reply_clean (reply.Target target) h = and_from (is_above target) true (target_clean target h) refl
reply_clean (reply.Time run tick) h = and_from (is_above (run_point run tick)) true (point_clean run tick (omega (arith, h.0)) (omega (arith, h.1))) refl
reply_clean (reply.NoBlock m) h = and_from (is_above (decimal m)) true (decimal_above m (omega (arith, h))) refl
reply_clean r h = refl

pub reply_back : (r : Reply) → IsProperReply r → reply_of (reply_parts r) ≡ Some r
reply_back (reply.Shown []) h = refl
reply_back (reply.Shown (b ∷ bytes)) h = ap (option_map reply.Shown) (shown_back b bytes h)
reply_back (reply.File size links) h = ap (option_map (λ p. reply.File p.0 p.1)) (two_back size links h.0 h.1)
reply_back (reply.Dir entries) h = ap (option_map reply.Dir) (count_back entries h)
reply_back (reply.Symlink len) h = ap (option_map reply.Symlink) (count_back len h)
reply_back (reply.Names names) h = ap (λ b. option_map reply.Names (cond b (Some names) None)) h
reply_back (reply.Target target) h = ap (λ b. option_map reply.Target (cond b (Some target) None)) h
reply_back (reply.Time run tick) h = ap (option_map (λ p. reply.Time p.0 p.1)) (point_back run tick h.0 h.1)
reply_back (reply.NoBlock m) h = ap (option_map reply.NoBlock) (count_back m h)
reply_back r h = refl

-- the parts of a node's kind
abbrev pub kind_parts : ℕ → ℕ → ℕ → List (List ℕ)
kind_parts kind size links =
    if kind == 1 then codes "file" ∷ decimal size ∷ decimal links ∷ []
    else (if kind == 2 then codes "dir" ∷ decimal size ∷ [] else codes "link" ∷ decimal size ∷ [])

-- the parts of a line
abbrev pub said_parts : Said → List (List ℕ)
said_parts (said.Answer server line r) = decimal line ∷ who_text server.0 ∷ reply_parts r
said_parts (said.Dead server) = codes "!" ∷ codes "dead" ∷ decimal server.0 ∷ []
said_parts (said.Recovering server by) = codes "!" ∷ codes "recovering" ∷ decimal server.0 ∷ codes "by" ∷ who_text by.0 ∷ []
said_parts (said.Recovered server keeps) = codes "!" ∷ codes "recovered" ∷ decimal server.0 ∷ codes "keeps" ∷ run_line keeps.0 ∷ []
said_parts (said.Renewed server) = codes "!" ∷ codes "renewed" ∷ decimal server.0 ∷ []
said_parts (said.Node path kind size links) = codes "=" ∷ path ∷ kind_parts kind size links
said_parts (said.Redo op) = codes "#" ∷ run_line op.0 ∷ []
said_parts (said.Backup line) = codes "!" ∷ codes "backup" ∷ decimal line ∷ []
said_parts (said.Locks line) = codes "!" ∷ codes "locks" ∷ decimal line ∷ []
said_parts (said.Shown text) = text ∷ []
said_parts said.End = codes "!" ∷ codes "end" ∷ []

join_before : (part : List ℕ) (parts : List (List ℕ)) → HasFirst parts → join_with_byte 32 (part ∷ parts) ≡ part ++ 32 ∷ join_with_byte 32 parts
join_before part parts h = ap (λ ps. join_with_byte 32 (part ∷ ps)) h.is ∙ ap (λ ps. part ++ 32 ∷ join_with_byte 32 ps) (sym h.is)

answer_joined : (line who : List ℕ) (r : Reply) → line ++ spaced who ++ spaced (reply_text r) ≡ join_with_byte 32 (line ∷ who ∷ reply_parts r)
answer_joined line who r =
    append_assoc line (32 ∷ who) (32 ∷ reply_text r)
    ∙ ap (λ t. line ++ 32 ∷ (who ++ 32 ∷ t)) (reply_joined r)
    ∙ ap (λ t. line ++ 32 ∷ t) (sym (join_before who (reply_parts r) (reply_first r)))

node_joined : (kind size links : ℕ) → IsNodeKind kind links → node_text kind size links ≡ join_with_byte 32 (kind_parts kind size links)
node_joined kind size links (inl h) = ap (λ k. node_text k size links) h.0 ∙ sym (ap (λ k. join_with_byte 32 (kind_parts k size links)) h.0)
node_joined kind size links (inr (inl e, z)) = ap (λ k. node_text k size links) e ∙ sym (ap (λ k. join_with_byte 32 (kind_parts k size links)) e)
node_joined kind size links (inr (inr e, z)) = ap (λ k. node_text k size links) e ∙ sym (ap (λ k. join_with_byte 32 (kind_parts k size links)) e)

kind_first : (kind size links : ℕ) → IsNodeKind kind links → HasFirst (kind_parts kind size links)
kind_first kind size links (inl h) = record { first = codes "file"; rest = decimal size ∷ decimal links ∷ []; is = ap (λ k. kind_parts k size links) h.0 }
kind_first kind size links (inr (inl e, z)) = record { first = codes "dir"; rest = decimal size ∷ []; is = ap (λ k. kind_parts k size links) e }
kind_first kind size links (inr (inr e, z)) = record { first = codes "link"; rest = decimal size ∷ []; is = ap (λ k. kind_parts k size links) e }

pub said_joined : (s : Said) → IsProperSaid s → said_text s ≡ join_with_byte 32 (said_parts s)
unfolding keeps_text
said_joined (said.Answer server line r) h = answer_joined (decimal line) (who_text server.0) r
said_joined (said.Recovering server by) h = simp append_assoc
said_joined (said.Recovered server keeps) h = simp append_assoc
said_joined (said.Node path kind size links) h =
    ap (λ t. 61 ∷ 32 ∷ (path ++ 32 ∷ t)) (node_joined kind size links h.1)
    ∙ ap (λ t. 61 ∷ 32 ∷ t) (sym (join_before path (kind_parts kind size links) (kind_first kind size links h.1)))
said_joined (said.Shown text) h = absurd h
said_joined s h = refl

line_clean : (op : ℕ) → op < 2 ^ 64 → is_above (run_line op) ≡ true
line_clean op h = point_clean (op / 4294967296) (op % 4294967296) (omega arith) (omega arith)

kind_clean : (kind size links : ℕ) → IsNodeKind kind links → size < 2 ^ 32 → list_all is_above (kind_parts kind size links) ≡ true
kind_clean kind size links (inl h) k = ap (λ n. list_all is_above (kind_parts n size links)) h.0 ∙ and_from (is_above (decimal size)) (is_above (decimal links) && true) (decimal_above size (omega arith)) (and_from (is_above (decimal links)) true (decimal_above links (omega (arith, h.1))) refl)
kind_clean kind size links (inr (inl e, z)) k = ap (λ n. list_all is_above (kind_parts n size links)) e ∙ and_from (is_above (decimal size)) true (decimal_above size (omega arith)) refl
kind_clean kind size links (inr (inr e, z)) k = ap (λ n. list_all is_above (kind_parts n size links)) e ∙ and_from (is_above (decimal size)) true (decimal_above size (omega arith)) refl

one_clean : (n : ℕ) → n < 2 ^ 64 → (is_above (decimal n) && true) ≡ true
one_clean n h = and_from (is_above (decimal n)) true (decimal_above n h) refl

pub said_clean : (s : Said) → IsProperSaid s → list_all is_above (said_parts s) ≡ true
said_clean (said.Answer server line r) h = and_from (is_above (decimal line)) (is_above (who_text server.0) && list_all is_above (reply_parts r)) (decimal_above line (omega (arith, h.1))) (and_from (is_above (who_text server.0)) (list_all is_above (reply_parts r)) (who_clean server.0 h.0) (reply_clean r h.2))
said_clean (said.Dead server) h = one_clean server.0 (omega (arith, h))
said_clean (said.Recovering server by) h = and_from (is_above (decimal server.0)) (is_above (who_text by.0) && true) (decimal_above server.0 (omega (arith, h.0))) (and_from (is_above (who_text by.0)) true (who_clean by.0 h.1) refl)
said_clean (said.Recovered server keeps) h = and_from (is_above (decimal server.0)) (is_above (run_line keeps.0) && true) (decimal_above server.0 (omega (arith, h.0))) (and_from (is_above (run_line keeps.0)) true (line_clean keeps.0 h.1) refl)
said_clean (said.Renewed server) h = one_clean server.0 (omega (arith, h))
said_clean (said.Node path kind size links) h = and_from (is_above path) (list_all is_above (kind_parts kind size links)) (path_clean path (h.0)) (kind_clean kind size links h.1 h.2)
said_clean (said.Redo op) h = and_from (is_above (run_line op.0)) true (line_clean op.0 h) refl
said_clean (said.Backup line) h = one_clean line (omega (arith, h))
said_clean (said.Locks line) h = one_clean line (omega (arith, h))
said_clean (said.Shown text) h = absurd h
said_clean said.End h = refl

-- what the parts say
kind_back : (path : List ℕ) (kind size links : ℕ) → IsNodeKind kind links → size < 2 ^ 32 → option_map (λ k. said.Node path k.0 k.1 k.2) (first_of_parts kind_from (kind_parts kind size links)) ≡ Some (said.Node path kind size links)
kind_back path kind size links (inl h) k =
    ap (λ n. option_map (λ k. said.Node path k.0 k.1 k.2) (first_of_parts kind_from (kind_parts n size links))) h.0
    ∙ ap (λ o. option_map (λ k. said.Node path k.0 k.1 k.2) (option_map file_kind o)) (two_back size links k h.1)
    ∙ ap (λ n. Some (said.Node path n size links)) (sym h.0)
kind_back path kind size links (inr (inl e, z)) k =
    ap (λ n. option_map (λ k. said.Node path k.0 k.1 k.2) (first_of_parts kind_from (kind_parts n size links))) e
    ∙ ap (λ o. option_map (λ k. said.Node path k.0 k.1 k.2) (option_map (dir_kind 2) o)) (count_back size k)
    ∙ ap (λ n. Some (said.Node path n size 0)) (sym e) ∙ ap (λ n. Some (said.Node path kind size n)) (sym z)
kind_back path kind size links (inr (inr e, z)) k =
    ap (λ n. option_map (λ k. said.Node path k.0 k.1 k.2) (first_of_parts kind_from (kind_parts n size links))) e
    ∙ ap (λ o. option_map (λ k. said.Node path k.0 k.1 k.2) (option_map (dir_kind 3) o)) (count_back size k)
    ∙ ap (λ n. Some (said.Node path n size 0)) (sym e) ∙ ap (λ n. Some (said.Node path kind size n)) (sym z)

answer_back : (server : ServerId) (line : ℕ) (r : Reply) → IsWho server.0 → line < 2 ^ 32 → IsProperReply r → said_from (decimal line) (who_text server.0 ∷ reply_parts r) ≡ Some (said.Answer server line r)
answer_back server line r w l p =
    let n = numeral-decimal line (omega arith) in
    let rest = who_text server.0 ∷ reply_parts r in
    let other = option_and_then (λ k. answer_of k rest) (count_at (decimal line)) in
    ap (λ b. cond b (first_of_parts note_from rest) (cond (bytes_eq (decimal line) (codes "=")) (first_of_parts node_from rest) (cond (bytes_eq (decimal line) (codes "#")) (option_map said.Redo (sole op_at rest)) other))) (numeral_differs (decimal line) 33 [] n refl)
    ∙ ap (λ b. cond b (first_of_parts node_from rest) (cond (bytes_eq (decimal line) (codes "#")) (option_map said.Redo (sole op_at rest)) other)) (numeral_differs (decimal line) 61 [] n refl)
    ∙ ap (λ b. cond b (option_map said.Redo (sole op_at rest)) other) (numeral_differs (decimal line) 35 [] n refl)
    ∙ ap (λ o. option_and_then (λ k. answer_of k rest) o) (count_back line l)
    ∙ ap (λ o. option_and_then (λ who. option_map (λ q. said.Answer who line q) (reply_of (reply_parts r))) o) (who_back server w)
    ∙ ap (λ o. option_map (λ q. said.Answer server line q) o) (reply_back r p)

pub said_back : (s : Said) → IsProperSaid s → first_of_parts said_from (said_parts s) ≡ Some s
said_back (said.Answer server line r) h = answer_back server line r h.0 h.1 h.2
said_back (said.Dead server) h = ap (option_map said.Dead) (server_back server h)
said_back (said.Recovering server by) h =
    ap (λ o. option_and_then (λ s. option_map (λ b. said.Recovering s b) (who_at (who_text by.0))) o) (server_back server h.0)
    ∙ ap (λ o. option_map (λ b. said.Recovering server b) o) (who_back by h.1)
said_back (said.Recovered server keeps) h =
    ap (λ o. option_and_then (λ s. option_map (λ k. said.Recovered s k) (op_at (run_line keeps.0))) o) (log_back server h.0)
    ∙ ap (λ o. option_map (λ k. said.Recovered server k) o) (op_back keeps h.1)
said_back (said.Renewed server) h = ap (option_map said.Renewed) (server_back server h)
said_back (said.Node path kind size links) h =
    ap (λ b. cond b (option_map (λ k. said.Node path k.0 k.1 k.2) (first_of_parts kind_from (kind_parts kind size links))) None) (h.0)
    ∙ kind_back path kind size links h.1 h.2
said_back (said.Redo op) h = ap (option_map said.Redo) (op_back op h)
said_back (said.Backup line) h = ap (option_map said.Backup) (count_back line h)
said_back (said.Locks line) h = ap (option_map said.Locks) (count_back line h)
said_back (said.Shown text) h = absurd h
said_back said.End h = refl

-- the line feed
pub feed_back : (text : List ℕ) → without_feed (text ++ 10 ∷ []) ≡ Some text
feed_back text =
    let n : length (text ++ 10 ∷ []) - 1 ≡ length text = omega (arith, length_push text 10) in
    let last : get_or (text ++ 10 ∷ []) (length (text ++ 10 ∷ []) - 1) 0 ≡ 10 = ap (λ k. get_or (text ++ 10 ∷ []) k 0) n ∙ get_or_at text 10 [] 0 (length text) refl in
    let front : take (length (text ++ 10 ∷ []) - 1) (text ++ 10 ∷ []) ≡ text = ap (λ k. take k (text ++ 10 ∷ [])) n ∙ take_at text (10 ∷ []) (length text) refl in
    ap (λ b. cond b (Some (take (length (text ++ 10 ∷ []) - 1) (text ++ 10 ∷ []))) None) (ap (λ b. eqb b 10) last) ∙ ap Some front

said_has : (s : Said) → IsProperSaid s → HasFirst (said_parts s)
said_has (said.Answer server line r) h = record { first = decimal line; rest = who_text server.0 ∷ reply_parts r; is = refl }
said_has (said.Dead server) h = record { first = codes "!"; rest = codes "dead" ∷ decimal server.0 ∷ []; is = refl }
said_has (said.Recovering server by) h = record { first = codes "!"; rest = codes "recovering" ∷ decimal server.0 ∷ codes "by" ∷ who_text by.0 ∷ []; is = refl }
said_has (said.Recovered server keeps) h = record { first = codes "!"; rest = codes "recovered" ∷ decimal server.0 ∷ codes "keeps" ∷ run_line keeps.0 ∷ []; is = refl }
said_has (said.Renewed server) h = record { first = codes "!"; rest = codes "renewed" ∷ decimal server.0 ∷ []; is = refl }
said_has (said.Node path kind size links) h = record { first = codes "="; rest = path ∷ kind_parts kind size links; is = refl }
said_has (said.Redo op) h = record { first = codes "#"; rest = run_line op.0 ∷ []; is = refl }
said_has (said.Backup line) h = record { first = codes "!"; rest = codes "backup" ∷ decimal line ∷ []; is = refl }
said_has (said.Locks line) h = record { first = codes "!"; rest = codes "locks" ∷ decimal line ∷ []; is = refl }
said_has (said.Shown text) h = absurd h
said_has said.End h = record { first = codes "!"; rest = codes "end" ∷ []; is = refl }

above_free : (part : List ℕ) → is_above part ≡ true → is_free 32 part ≡ true
above_free part e = all_weaker (λ b. ltb 32 b) (λ b. not (eqb b 32)) (λ b h. not_same b 32 (λ s. absurd (let k : 32 < b = ltb-true 32 b h in omega arith))) part e

split_said : (parts : List (List ℕ)) → HasFirst parts → list_all is_above parts ≡ true → parts_of (join_with_byte 32 parts) ≡ parts
split_said parts h e =
    ap (λ ps. parts_of (join_with_byte 32 ps)) h.is
    ∙ split_join 32 h.first h.rest (sym (ap (list_all (is_free 32)) h.is) ∙ all_weaker is_above (is_free 32) above_free parts e)
    ∙ sym h.is

pub said_of_line : (s : Said) → IsProperSaid s → said_of (said_line s) ≡ Some s
said_of_line s h =
    ap (option_and_then said_in) (feed_back (said_text s))
    ∙ ap said_in (said_joined s h)
    ∙ ap (first_of_parts said_from) (split_said (said_parts s) (said_has s h) (said_clean s h))
    ∙ said_back s h

-- no line has a line feed before its end
above_low : (part : List ℕ) → is_above part ≡ true → is_free 10 part ≡ true
above_low part e = all_weaker (λ b. ltb 32 b) (λ b. not (eqb b 10)) (λ b h. not_same b 10 (λ s. absurd (let k : 32 < b = ltb-true 32 b h in omega arith))) part e

second_same : (a b : List ℕ) (xs ys : List (List ℕ)) → a ∷ xs ≡ b ∷ ys → xs ≡ ys
second_same a b xs ys e = cc

pub text_low : (s : Said) → IsProperSaid s → is_free 10 (said_text s) ≡ true
text_low s h =
    ap (is_free 10) (said_joined s h)
    ∙ all_joined (λ b. not (eqb b 10)) 32 (said_parts s) refl (all_weaker is_above (is_free 10) above_low (said_parts s) (said_clean s h))

pub nothing_follows : (xs ys more : List ℕ) (b : ℕ) → is_free 10 xs ≡ true → is_free 10 ys ≡ true → xs ++ 10 ∷ [] ≡ ys ++ 10 ∷ (b ∷ more) → ⊥
nothing_follows xs ys more b x y e =
    let one : slice_split (λ c. eqb c 10) (xs ++ 10 ∷ []) ≡ xs ∷ [] ∷ [] = split_before 10 xs [] x in
    let two : slice_split (λ c. eqb c 10) (ys ++ 10 ∷ (b ∷ more)) ≡ ys ∷ slice_split (λ c. eqb c 10) (b ∷ more) = split_before 10 ys (b ∷ more) y in
    let same : slice_split (λ c. eqb c 10) (b ∷ more) ≡ [] ∷ [] = second_same ys xs (slice_split (λ c. eqb c 10) (b ∷ more)) ([] ∷ []) (sym two ∙ sym (ap (slice_split (λ c. eqb c 10)) e) ∙ one) in
    let none : [] ≡ b ∷ more = part_alone (λ c. eqb c 10) (b ∷ more) [] same in
    cc

-- two proper lines with the same bytes are one
pub one_line : (s t : Said) → IsProperSaid s → IsProperSaid t → said_line s ≡ said_line t → s ≡ t
one_line s t h k e = (let same : Some s ≡ Some t = sym (said_of_line s h) ∙ ap said_of e ∙ said_of_line t k in cc)
