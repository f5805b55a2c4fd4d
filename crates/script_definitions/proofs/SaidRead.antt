-- What is read of a line is proper, and its bytes are the line's.
use Rattle.std.proofs.Common.{◌≡◌, ℕ, ◌+◌, ◌-◌, ◌*◌, ◌/◌, ◌%◌, ◌^◌, ◌≤◌, ◌<◌, Bool, true, false, ◌&&◌, cond, eqb, ltb, leb, ◌⊎◌, inl, inr, List, [], ◌∷◌, ◌++◌, length, take, drop, get_or, Option, Some, None, refl, sym, ◌∙◌, ap, subst, arith, append_assoc, codes}
use Rattle.std.specs.List.{list_all, slice_split, join_with_byte, flat_map}
use Rattle.std.specs.Option.{option_map, option_and_then}
use Rattle.std.specs.Str.{bytes_eq}
use Rattle.std.specs.Fmt.{decimal}
use Rattle.std.proofs.lemmas.Bool.{and_parts, and_from, leb-true, eqb-true, lt-ltb, le-ltb}
use Rattle.std.proofs.lemmas.List.{take-append-drop, drop_more, drop_all}
use Rattle.std.proofs.lemmas.List.Splits.{join_with_byte-slice_split}
use Rattle.std.proofs.lemmas.Slice.Eq.{bytes_eq-Decides}
use Rattle.std.proofs.lemmas.Option.{same_Some}
use Rattle.frang_base.specs.Name.{is_name, is_target}
use Rattle.frang_base.specs.declared.reply.Reply.{Reply}
use Rattle.frang_base.specs.declared.reply.Reply.TheVariants as reply
use Rattle.frang_base.specs.declared.said.Said.{Said}
use Rattle.frang_base.specs.declared.said.Said.TheVariants as said
use Rattle.frang_base.specs.declared.sector.ServerId.{ServerId}
use Rattle.frang_base.specs.declared.sector.OpNo.{OpNo}
use Rattle.frang_base.proofs.Tests.{map_some, then_some}
use Rattle.tree_definitions.specs.SaidLines.{hex_digit, hex_byte, reply_word, run_point, who_text, run_line, said_text, said_line}
use Rattle.script_definitions.specs.Numerals.{number_in, count_at}
use Rattle.script_definitions.specs.SaidReading.{IsWho, IsNodeKind, is_path_text, IsProperReply, IsProperSaid, parts_of, sole, first_of_parts, is_end, at_end, server_at, who_at, log_at, two_counts, point_at, op_at, hex_value, byte_at, hex_bytes, some_bytes, shown_of, names_of, target_at, state_replies, place_replies, limit_replies, reply_among, first_some, plain_at, full_at, nospace_of, short_reply_from, reply_from, reply_of, answer_of, by_of, recovering_of, keeps_of, recovered_of, note_from, kind_from, node_from, said_from, said_in, without_feed, said_of}
use Rattle.script_definitions.proofs.NumeralLaws.{number_in-Some}
use Rattle.script_definitions.proofs.SaidWritten.{text_low, nothing_follows, said_of_line, who_low, file_kind, dir_kind, reply_parts, kind_parts, said_parts, said_joined}

-- fields, and what a `Some` has
abbrev server_number : ℕ → ServerId
server_number n = record { 0 = n }

abbrev number_of_server : ServerId → ℕ
number_of_server s = s.0

abbrev number_of_op : OpNo → ℕ
number_of_op op = op.0

abbrev pair : ℕ → ℕ → ℕ × ℕ
pair m n = (m, n)

abbrev left : ℕ × ℕ → ℕ
left p = p.0

abbrev right : ℕ × ℕ → ℕ
right p = p.1

host_is : (s : ServerId) → Some (server_number 255) ≡ Some s → 255 ≡ s.0
host_is s e = ap number_of_server (same_Some (server_number 255) s e)

wide_op : (m n op : ℕ) → m < 2 ^ 32 → n < 2 ^ 32 → m * 4294967296 + n ≡ op → op < 2 ^ 64
wide_op m n op h k e = omega arith

pub chosen : {A : Type 0} (b : Bool) (x y z : A) → cond b x y ≡ z → ((b ≡ true) × (x ≡ z)) ⊎ ((b ≡ false) × (y ≡ z))
chosen true x y z e = inl (refl, e)
chosen false x y z e = inr (refl, e)

pub only_true : {A : Type 0} (b : Bool) (o : Option A) (z : A) → cond b o None ≡ Some z → (b ≡ true) × (o ≡ Some z)
only_true true o z e = (refl, e)
only_true false o z e = cc

pub word_is : (part w : List ℕ) → bytes_eq part w ≡ true → part ≡ w
word_is part w e = (bytes_eq-Decides part w).0 e

-- parts that are left
end_is : (parts : List (List ℕ)) → is_end parts ≡ true → parts ≡ []
end_is [] e = refl
end_is (p ∷ ps) e = cc

pub sole_some : {A : Type 0} (read : List ℕ → Option A) (parts : List (List ℕ)) (y : A) → sole read parts ≡ Some y → (p : List ℕ) × (parts ≡ p ∷ []) × (read p ≡ Some y)
sole_some read [] y e = cc
sole_some read (p ∷ []) y e = (p, refl, e)
sole_some read (p ∷ q ∷ ps) y e = cc

pub first_some_part : {A : Type 0} (read : List ℕ → List (List ℕ) → Option A) (parts : List (List ℕ)) (y : A) → first_of_parts read parts ≡ Some y → (p : List ℕ) × (ps : List (List ℕ)) × (parts ≡ p ∷ ps) × (read p ps ≡ Some y)
first_some_part read [] y e = cc
first_some_part read (p ∷ ps) y e = (p, ps, refl, e)

pub at_end_some : {A : Type 0} (o : Option A) (parts : List (List ℕ)) (y : A) → at_end o parts ≡ Some y → (parts ≡ []) × (o ≡ Some y)
at_end_some o parts y e = let h = only_true (is_end parts) o y e in (end_is parts h.0, h.1)

-- numbers
pub count_read : (w : List ℕ) (n : ℕ) → count_at w ≡ Some n → (n < 2 ^ 32) × (w ≡ decimal n)
count_read w n e = let h = number_in-Some 0 4294967295 n w (omega arith) e in (let l : n ≤ 4294967295 = h.high_in in omega arith, h.word_is)

pub server_read : (high : ℕ) (w : List ℕ) (s : ServerId) → high < 2 ^ 64 → option_map server_number (number_in 0 high w) ≡ Some s → (s.0 ≤ high) × (w ≡ decimal s.0)
server_read high w s wide e =
    let m = map_some server_number (number_in 0 high w) s e in
    let h = number_in-Some 0 high m.0 w wide m.1 in
    let same : m.0 ≡ s.0 = ap (λ t. number_of_server t) m.2 in
    (subst (λ k. k ≤ high) same h.high_in, h.word_is ∙ ap decimal same)

pub who_read : (w : List ℕ) (s : ServerId) → who_at w ≡ Some s → IsWho s.0 × (w ≡ who_text s.0)
who_read w s e =
    elim (chosen (bytes_eq w (codes "-")) (Some (server_number 255)) (server_at w) (Some s) e) [
      | inl h ↦ (let n : 255 ≡ s.0 = host_is s h.1 in (inr (sym n), word_is w (codes "-") h.0 ∙ ap who_text n))
      | inr h ↦ (let k = server_read 15 w s (omega arith) h.1 in (inl k.0, k.1 ∙ sym (who_low s.0 k.0)))
    ]

pub two_read : (parts : List (List ℕ)) (p : ℕ × ℕ) → two_counts parts ≡ Some p → (p.0 < 2 ^ 32) × (p.1 < 2 ^ 32) × (parts ≡ decimal p.0 ∷ decimal p.1 ∷ [])
two_read [] p e = cc
two_read (a ∷ parts) p e =
    let t = then_some (λ m. option_map (λ n. pair m n) (sole count_at parts)) (count_at a) p e in
    let m = map_some (λ n. pair t.0 n) (sole count_at parts) p t.2 in
    let s = sole_some count_at parts m.0 m.1 in
    let c = count_read a t.0 t.1 in
    let d = count_read s.0 m.0 s.2 in
    let x : t.0 ≡ p.0 = ap (λ q. left q) m.2 in
    let y : m.0 ≡ p.1 = ap (λ q. right q) m.2 in
    (subst (λ k. k < 2 ^ 32) x c.0, subst (λ k. k < 2 ^ 32) y d.0, ap (λ q. a ∷ q) s.1 ∙ ap (λ q. q ∷ s.0 ∷ []) (c.1 ∙ ap decimal x) ∙ ap (λ q. decimal p.0 ∷ q ∷ []) (d.1 ∙ ap decimal y))

pub point_read : (w : List ℕ) (p : ℕ × ℕ) → point_at w ≡ Some p → (p.0 < 2 ^ 32) × (p.1 < 2 ^ 32) × (w ≡ run_point p.0 p.1)
unfolding run_point
point_read w p e =
    let h = two_read (slice_split (λ b. eqb b 46) w) p e in
    (h.0, h.1, sym (join_with_byte-slice_split 46 w) ∙ ap (join_with_byte 46) h.2 ∙ sym (append_assoc (decimal p.0) (46 ∷ []) (decimal p.1)))

run_is : (m n op : ℕ) → n < 2 ^ 32 → m * 4294967296 + n ≡ op → (m ≡ op / 4294967296) × (n ≡ op % 4294967296)
run_is m n op small e = (omega arith, omega arith)

abbrev op_number : ℕ → OpNo
op_number n = record { 0 = n }

pub op_read : (w : List ℕ) (op : OpNo) → op_at w ≡ Some op → (op.0 < 2 ^ 64) × (w ≡ run_line op.0)
op_read w op e =
    let m = map_some (λ p. op_number (p.0 * 4294967296 + p.1)) (point_at w) op e in
    let h = point_read w m.0 m.1 in
    let same : m.0.0 * 4294967296 + m.0.1 ≡ op.0 = ap (λ o. number_of_op o) m.2 in
    let r = run_is m.0.0 m.0.1 op.0 h.1 same in
    (wide_op m.0.0 m.0.1 op.0 h.0 h.1 same, h.2 ∙ ap (λ k. run_point k m.0.1) r.0 ∙ ap (λ k. run_point (op.0 / 4294967296) k) r.1)

-- bytes in hexadecimal digits
hex_read : (b d : ℕ) → hex_value b ≡ Some d → (d < 16) × (b ≡ hex_digit d)
hex_read b d e =
    elim (chosen (leb 48 b && leb b 57) (Some (b - 48)) (cond (leb 97 b && leb b 102) (Some (b - 87)) None) (Some d) e) [
      | inl h ↦ (let r = and_parts (leb 48 b) (leb b 57) h.0 in let l : 48 ≤ b = leb-true 48 b r.0 in let g : b ≤ 57 = leb-true b 57 r.1 in let s : b - 48 ≡ d = same_Some (b - 48) d h.1 in
          (omega arith, (let v : b ≡ 48 + d = omega arith in v) ∙ sym (ap (λ t. cond t (48 + d) (87 + d)) (lt-ltb d 10 (omega arith)))))
      | inr h ↦ (let k = only_true (leb 97 b && leb b 102) (Some (b - 87)) d h.1 in let r = and_parts (leb 97 b) (leb b 102) k.0 in let l : 97 ≤ b = leb-true 97 b r.0 in let g : b ≤ 102 = leb-true b 102 r.1 in let s : b - 87 ≡ d = same_Some (b - 87) d k.1 in
          (omega arith, (let v : b ≡ 87 + d = omega arith in v) ∙ sym (ap (λ t. cond t (48 + d) (87 + d)) (le-ltb d 10 (omega arith)))))
    ]

byte_read : (high low b : ℕ) → byte_at high low ≡ Some b → (b < 256) × (high ≡ hex_digit (b / 16)) × (low ≡ hex_digit (b % 16))
byte_read high low b e =
    let t = then_some (λ h. option_map (λ l. h * 16 + l) (hex_value low)) (hex_value high) b e in
    let m = map_some (λ l. t.0 * 16 + l) (hex_value low) b t.2 in
    let h = hex_read high t.0 t.1 in
    let l = hex_read low m.0 m.1 in
    let x : t.0 < 16 = h.0 in
    let y : m.0 < 16 = l.0 in
    let s : t.0 * 16 + m.0 ≡ b = m.2 in
    let q : t.0 ≡ b / 16 = omega arith in
    let r : m.0 ≡ b % 16 = omega arith in
    (omega arith, h.1 ∙ ap hex_digit q, l.1 ∙ ap hex_digit r)

pub hex_bytes_read : (digits bytes : List ℕ) → hex_bytes digits ≡ Some bytes → (list_all (λ b. ltb b 256) bytes ≡ true) × (digits ≡ flat_map hex_byte bytes)
hex_bytes_read [] bytes e = let n : [] ≡ bytes = same_Some [] bytes e in (ap (list_all (λ b. ltb b 256)) (sym n), ap (flat_map hex_byte) n)
hex_bytes_read (a ∷ []) bytes e = cc
hex_bytes_read (high ∷ low ∷ digits) bytes e =
    let t = then_some (λ b. option_map (λ bs. b ∷ bs) (hex_bytes digits)) (byte_at high low) bytes e in
    let m = map_some (λ bs. t.0 ∷ bs) (hex_bytes digits) bytes t.2 in
    let h = byte_read high low t.0 t.1 in
    let r = hex_bytes_read digits m.0 m.1 in (
      ap (list_all (λ b. ltb b 256)) (sym m.2) ∙ and_from (ltb t.0 256) (list_all (λ b. ltb b 256) m.0) (lt-ltb t.0 256 h.0) r.0,
      ap (λ x. x ∷ low ∷ digits) h.1 ∙ ap (λ x. hex_digit (t.0 / 16) ∷ x ∷ digits) h.2 ∙ ap (λ x. hex_digit (t.0 / 16) ∷ hex_digit (t.0 % 16) ∷ x) r.1 ∙ ap (flat_map hex_byte) m.2,
    )

-- replies: what is proper, and its parts
pub record IsRead (r : Reply) (parts : List (List ℕ)) : Type 0 where
  pub proper : IsProperReply r
  pub parts_are : parts ≡ reply_parts r

shown_none : (part bytes : List ℕ) → (list_all (λ b. ltb b 256) bytes ≡ true) → part ≡ flat_map hex_byte bytes → eqb (length part) 0 ≡ false → IsRead (reply.Shown bytes) (codes "data" ∷ part ∷ [])
shown_none part [] p e n = (let z : eqb (length part) 0 ≡ true = ap (λ t. eqb (length t) 0) e in cc)
shown_none part (b ∷ bytes) p e n = record { proper = p; parts_are = ap (λ t. codes "data" ∷ t ∷ []) e }

not_empty : {A : Type 0} (b : Bool) (o : Option A) (z : A) → cond b None o ≡ Some z → (b ≡ false) × (o ≡ Some z)
not_empty true o z e = cc
not_empty false o z e = (refl, e)

pub shown_read : (parts : List (List ℕ)) (bytes : List ℕ) → shown_of parts ≡ Some bytes → IsRead (reply.Shown bytes) (codes "data" ∷ parts)
shown_read parts bytes e =
    elim (chosen (is_end parts) (Some []) (sole some_bytes parts) (Some bytes) e) [
      | inl h ↦ (let n : [] ≡ bytes = same_Some [] bytes h.1 in subst (λ bs. IsRead (reply.Shown bs) (codes "data" ∷ parts)) n (record { proper = refl; parts_are = ap (λ ps. codes "data" ∷ ps) (end_is parts h.0) }))
      | inr h ↦ (let s = sole_some some_bytes parts bytes h.1 in let n = not_empty (eqb (length s.0) 0) (hex_bytes s.0) bytes s.2 in let r = hex_bytes_read s.0 bytes n.1 in
          subst (λ ps. IsRead (reply.Shown bytes) (codes "data" ∷ ps)) (sym s.1) (shown_none s.0 bytes r.0 r.1 n.0))
    ]

-- replies of one word
abbrev is_plain : Reply → Bool
is_plain (reply.Shown bytes) = false
is_plain (reply.File size links) = false
is_plain (reply.Dir entries) = false
is_plain (reply.Symlink len) = false
is_plain (reply.Names names) = false
is_plain (reply.Target target) = false
is_plain (reply.Time run tick) = false
is_plain reply.NoInode = false
is_plain reply.NoDirBlock = false
is_plain (reply.NoBlock m) = false
is_plain reply.NoLarge = false
is_plain r = true

plain_read : (r : Reply) → is_plain r ≡ true → IsRead r (reply_word r ∷ [])
plain_read (reply.Shown bytes) e = cc
plain_read (reply.File size links) e = cc
plain_read (reply.Dir entries) e = cc
plain_read (reply.Symlink len) e = cc
plain_read (reply.Names names) e = cc
plain_read (reply.Target target) e = cc
plain_read (reply.Time run tick) e = cc
plain_read reply.NoInode e = cc
plain_read reply.NoDirBlock e = cc
plain_read (reply.NoBlock m) e = cc
plain_read reply.NoLarge e = cc
plain_read r e = record { proper = tt; parts_are = refl }

among_read : (replies : List Reply) (w : List ℕ) (r : Reply) → list_all is_plain replies ≡ true → reply_among replies w ≡ Some r → IsRead r (w ∷ [])
among_read [] w r p e = cc
among_read (q ∷ replies) w r p e =
    let h = and_parts (is_plain q) (list_all is_plain replies) p in
    elim (chosen (bytes_eq w (reply_word q)) (Some q) (reply_among replies w) (Some r) e) [
      | inl k ↦ subst (λ t. IsRead t (w ∷ [])) (same_Some q r k.1) (subst (λ t. IsRead q (t ∷ [])) (sym (word_is w (reply_word q) k.0)) (plain_read q h.0))
      | inr k ↦ among_read replies w r h.1 k.1
    ]

either : {A : Type 0} (o p : Option A) (y : A) → first_some o p ≡ Some y → (o ≡ Some y) ⊎ (p ≡ Some y)
either None p y e = inr e
either (Some x) p y e = inl e

pub plain_at_read : (w : List ℕ) (r : Reply) → plain_at w ≡ Some r → IsRead r (w ∷ [])
plain_at_read w r e =
    elim (either (reply_among state_replies w) (first_some (reply_among place_replies w) (reply_among limit_replies w)) r e) [
      | inl h ↦ among_read state_replies w r refl h
      | inr k ↦ elim (either (reply_among place_replies w) (reply_among limit_replies w) r k) [
        | inl h ↦ among_read place_replies w r refl h
        | inr h ↦ among_read limit_replies w r refl h
      ]
    ]

as_read : (q r : Reply) (parts : List (List ℕ)) → q ≡ r → IsRead q parts → IsRead r parts
as_read q r parts e h = subst (λ t. IsRead t parts) e h

of_word : (q r : Reply) (parts : List (List ℕ)) → Some q ≡ Some r → IsRead q parts → IsRead r parts
of_word q r parts e h = as_read q r parts (same_Some q r e) h

-- replies by their first word
full_read : (w : List ℕ) (r : Reply) → full_at w ≡ Some r → IsRead r (codes "nospace" ∷ w ∷ [])
full_read w r e =
    elim (chosen (bytes_eq w (codes "inode")) (Some reply.NoInode) (cond (bytes_eq w (codes "dir")) (Some reply.NoDirBlock) (cond (bytes_eq w (codes "large")) (Some reply.NoLarge) None)) (Some r) e) [
      | inl h ↦ of_word reply.NoInode r (codes "nospace" ∷ w ∷ []) h.1 (record { proper = tt; parts_are = ap (λ t. codes "nospace" ∷ t ∷ []) (word_is w (codes "inode") h.0) })
      | inr k ↦ elim (chosen (bytes_eq w (codes "dir")) (Some reply.NoDirBlock) (cond (bytes_eq w (codes "large")) (Some reply.NoLarge) None) (Some r) k.1) [
        | inl h ↦ of_word reply.NoDirBlock r (codes "nospace" ∷ w ∷ []) h.1 (record { proper = tt; parts_are = ap (λ t. codes "nospace" ∷ t ∷ []) (word_is w (codes "dir") h.0) })
        | inr l ↦ (let h = only_true (bytes_eq w (codes "large")) (Some reply.NoLarge) r l.1 in of_word reply.NoLarge r (codes "nospace" ∷ w ∷ []) h.1 (record { proper = tt; parts_are = ap (λ t. codes "nospace" ∷ t ∷ []) (word_is w (codes "large") h.0) }))
      ]
    ]

-- a count that is left alone
pub sole_count_read : (parts : List (List ℕ)) (n : ℕ) → sole count_at parts ≡ Some n → (n < 2 ^ 32) × (parts ≡ decimal n ∷ [])
sole_count_read parts n e = let s = sole_some count_at parts n e in let c = count_read s.0 n s.2 in (c.0, s.1 ∙ ap (λ t. t ∷ []) c.1)

nospace_read : (w : List ℕ) (parts : List (List ℕ)) (r : Reply) → nospace_of w parts ≡ Some r → IsRead r (codes "nospace" ∷ w ∷ parts)
nospace_read w parts r e =
    elim (chosen (bytes_eq w (codes "data")) (option_map reply.NoBlock (sole count_at parts)) (at_end (full_at w) parts) (Some r) e) [
      | inl h ↦ (let m = map_some reply.NoBlock (sole count_at parts) r h.1 in let c = sole_count_read parts m.0 m.1 in
          as_read (reply.NoBlock m.0) r (codes "nospace" ∷ w ∷ parts) m.2 (record { proper = c.0; parts_are = ap (λ t. codes "nospace" ∷ t ∷ parts) (word_is w (codes "data") h.0) ∙ ap (λ ps. codes "nospace" ∷ codes "data" ∷ ps) c.1 }))
      | inr k ↦ (let h = at_end_some (full_at w) parts r k.1 in subst (λ ps. IsRead r (codes "nospace" ∷ w ∷ ps)) (sym h.0) (full_read w r h.1))
    ]

-- a word, and what was read behind it
word_then : (w text : List ℕ) (parts : List (List ℕ)) (r : Reply) → bytes_eq w text ≡ true → IsRead r (text ∷ parts) → IsRead r (w ∷ parts)
word_then w text parts r e h = subst (λ t. IsRead r (t ∷ parts)) (sym (word_is w text e)) h

file_read : (parts : List (List ℕ)) (r : Reply) → option_map (λ p. reply.File p.0 p.1) (two_counts parts) ≡ Some r → IsRead r (codes "file" ∷ parts)
file_read parts r e = let m = map_some (λ p. reply.File p.0 p.1) (two_counts parts) r e in let h = two_read parts m.0 m.1 in as_read (reply.File m.0.0 m.0.1) r (codes "file" ∷ parts) m.2 (record { proper = (h.0, h.1); parts_are = ap (λ ps. codes "file" ∷ ps) h.2 })

dir_read : (parts : List (List ℕ)) (r : Reply) → option_map reply.Dir (sole count_at parts) ≡ Some r → IsRead r (codes "dir" ∷ parts)
dir_read parts r e = let m = map_some reply.Dir (sole count_at parts) r e in let h = sole_count_read parts m.0 m.1 in as_read (reply.Dir m.0) r (codes "dir" ∷ parts) m.2 (record { proper = h.0; parts_are = ap (λ ps. codes "dir" ∷ ps) h.1 })

link_read : (parts : List (List ℕ)) (r : Reply) → option_map reply.Symlink (sole count_at parts) ≡ Some r → IsRead r (codes "link" ∷ parts)
link_read parts r e = let m = map_some reply.Symlink (sole count_at parts) r e in let h = sole_count_read parts m.0 m.1 in as_read (reply.Symlink m.0) r (codes "link" ∷ parts) m.2 (record { proper = h.0; parts_are = ap (λ ps. codes "link" ∷ ps) h.1 })

time_read : (parts : List (List ℕ)) (r : Reply) → option_map (λ p. reply.Time p.0 p.1) (sole point_at parts) ≡ Some r → IsRead r (codes "time" ∷ parts)
time_read parts r e =
    let m = map_some (λ p. reply.Time p.0 p.1) (sole point_at parts) r e in
    let s = sole_some point_at parts m.0 m.1 in
    let h = point_read s.0 m.0 s.2 in
    as_read (reply.Time m.0.0 m.0.1) r (codes "time" ∷ parts) m.2 (record { proper = (h.0, h.1); parts_are = ap (λ ps. codes "time" ∷ ps) s.1 ∙ ap (λ t. codes "time" ∷ t ∷ []) h.2 })

nospace_first : (parts : List (List ℕ)) (r : Reply) → first_of_parts nospace_of parts ≡ Some r → IsRead r (codes "nospace" ∷ parts)
nospace_first parts r e = let f = first_some_part nospace_of parts r e in subst (λ ps. IsRead r (codes "nospace" ∷ ps)) (sym f.2) (nospace_read f.0 f.1 r f.3)

names_read : (parts : List (List ℕ)) (r : Reply) → option_map reply.Names (names_of parts) ≡ Some r → IsRead r (codes "names" ∷ parts)
names_read parts r e =
    let m = map_some reply.Names (names_of parts) r e in
    let h = only_true (list_all is_name parts) (Some parts) m.0 m.1 in
    let same : parts ≡ m.0 = same_Some parts m.0 h.1 in
    as_read (reply.Names m.0) r (codes "names" ∷ parts) m.2 (record { proper = ap (list_all is_name) (sym same) ∙ h.0; parts_are = ap (λ ps. codes "names" ∷ ps) same })

target_read : (parts : List (List ℕ)) (r : Reply) → option_map reply.Target (sole target_at parts) ≡ Some r → IsRead r (codes "target" ∷ parts)
target_read parts r e =
    let m = map_some reply.Target (sole target_at parts) r e in
    let s = sole_some target_at parts m.0 m.1 in
    let h = only_true (is_target s.0) (Some s.0) m.0 s.2 in
    let same : s.0 ≡ m.0 = same_Some s.0 m.0 h.1 in
    as_read (reply.Target m.0) r (codes "target" ∷ parts) m.2 (record { proper = ap is_target (sym same) ∙ h.0; parts_are = ap (λ ps. codes "target" ∷ ps) (s.1 ∙ ap (λ t. t ∷ []) same) })

data_read : (parts : List (List ℕ)) (r : Reply) → option_map reply.Shown (shown_of parts) ≡ Some r → IsRead r (codes "data" ∷ parts)
data_read parts r e = let m = map_some reply.Shown (shown_of parts) r e in as_read (reply.Shown m.0) r (codes "data" ∷ parts) m.2 (shown_read parts m.0 m.1)

plain_end : (w : List ℕ) (parts : List (List ℕ)) (r : Reply) → at_end (plain_at w) parts ≡ Some r → IsRead r (w ∷ parts)
plain_end w parts r e = let h = at_end_some (plain_at w) parts r e in subst (λ ps. IsRead r (w ∷ ps)) (sym h.0) (plain_at_read w r h.1)

-- a choice by a word, and the other one
by_word : (w text : List ℕ) (parts : List (List ℕ)) (r : Reply) (o p : Option Reply) → (o ≡ Some r → IsRead r (text ∷ parts)) → (p ≡ Some r → IsRead r (w ∷ parts)) → cond (bytes_eq w text) o p ≡ Some r → IsRead r (w ∷ parts)
by_word w text parts r o p f g e = elim (chosen (bytes_eq w text) o p (Some r) e) [ inl h ↦ word_then w text parts r h.0 (f h.1) | inr h ↦ g h.1 ]

short_read : (w : List ℕ) (parts : List (List ℕ)) (r : Reply) → short_reply_from w parts ≡ Some r → IsRead r (w ∷ parts)
short_read w parts r e =
    by_word w (codes "file") parts r _ _ (file_read parts r)
    (by_word w (codes "dir") parts r _ _ (dir_read parts r)
    (by_word w (codes "link") parts r _ _ (link_read parts r)
    (by_word w (codes "time") parts r _ _ (time_read parts r)
    (by_word w (codes "nospace") parts r _ _ (nospace_first parts r) (plain_end w parts r))))) e

reply_from_read : (w : List ℕ) (parts : List (List ℕ)) (r : Reply) → reply_from w parts ≡ Some r → IsRead r (w ∷ parts)
reply_from_read w parts r e =
    by_word w (codes "data") parts r _ _ (data_read parts r)
    (by_word w (codes "names") parts r _ _ (names_read parts r)
    (by_word w (codes "target") parts r _ _ (target_read parts r) (short_read w parts r))) e

pub reply_read : (parts : List (List ℕ)) (r : Reply) → reply_of parts ≡ Some r → IsRead r parts
reply_read parts r e = let f = first_some_part reply_from parts r e in subst (λ ps. IsRead r ps) (sym f.2) (reply_from_read f.0 f.1 r f.3)

-- lines: what is proper, and its parts
pub record IsSaidRead (s : Said) (parts : List (List ℕ)) : Type 0 where
  pub proper : IsProperSaid s
  pub parts_are : parts ≡ said_parts s

as_said : (s t : Said) (parts : List (List ℕ)) → s ≡ t → IsSaidRead s parts → IsSaidRead t parts
as_said s t parts e h = subst (λ u. IsSaidRead u parts) e h

by_part : (w text : List ℕ) (parts : List (List ℕ)) (s : Said) (o p : Option Said) → (o ≡ Some s → IsSaidRead s (text ∷ parts)) → (p ≡ Some s → IsSaidRead s (w ∷ parts)) → cond (bytes_eq w text) o p ≡ Some s → IsSaidRead s (w ∷ parts)
by_part w text parts s o p f g e = elim (chosen (bytes_eq w text) o p (Some s) e) [ inl h ↦ subst (λ t. IsSaidRead s (t ∷ parts)) (sym (word_is w text h.0)) (f h.1) | inr h ↦ g h.1 ]

by_next : (first w text : List ℕ) (parts : List (List ℕ)) (s : Said) (o p : Option Said) → (o ≡ Some s → IsSaidRead s (first ∷ text ∷ parts)) → (p ≡ Some s → IsSaidRead s (first ∷ w ∷ parts)) → cond (bytes_eq w text) o p ≡ Some s → IsSaidRead s (first ∷ w ∷ parts)
by_next first w text parts s o p f g e = elim (chosen (bytes_eq w text) o p (Some s) e) [ inl h ↦ subst (λ t. IsSaidRead s (first ∷ t ∷ parts)) (sym (word_is w text h.0)) (f h.1) | inr h ↦ g h.1 ]

answer_read : (w : List ℕ) (parts : List (List ℕ)) (s : Said) → option_and_then (λ line. answer_of line parts) (count_at w) ≡ Some s → IsSaidRead s (w ∷ parts)
answer_read w [] s e = let t = then_some (λ line. answer_of line []) (count_at w) s e in (let f : None ≡ Some s = t.2 in cc)
answer_read w (a ∷ parts) s e =
    let t = then_some (λ line. answer_of line (a ∷ parts)) (count_at w) s e in
    let u = then_some (λ who. option_map (λ r. said.Answer who t.0 r) (reply_of parts)) (who_at a) s t.2 in
    let m = map_some (λ r. said.Answer u.0 t.0 r) (reply_of parts) s u.2 in
    let c = count_read w t.0 t.1 in
    let x = who_read a u.0 u.1 in
    let r = reply_read parts m.0 m.1 in
    as_said (said.Answer u.0 t.0 m.0) s (w ∷ a ∷ parts) m.2 (record { proper = (x.0, c.0, r.proper); parts_are = ap (λ t. t ∷ a ∷ parts) c.1 ∙ ap (λ y. decimal t.0 ∷ y ∷ parts) x.1 ∙ ap (λ ps. decimal t.0 ∷ who_text u.0.0 ∷ ps) r.parts_are })

sole_server_read : (parts : List (List ℕ)) (v : ServerId) → sole server_at parts ≡ Some v → (v.0 ≤ 15) × (parts ≡ decimal v.0 ∷ [])
sole_server_read parts v e = let s = sole_some server_at parts v e in let h = server_read 15 s.0 v (omega arith) s.2 in (h.0, s.1 ∙ ap (λ t. t ∷ []) h.1)

dead_read : (parts : List (List ℕ)) (s : Said) → option_map said.Dead (sole server_at parts) ≡ Some s → IsSaidRead s (codes "!" ∷ codes "dead" ∷ parts)
dead_read parts s e = let m = map_some said.Dead (sole server_at parts) s e in let h = sole_server_read parts m.0 m.1 in as_said (said.Dead m.0) s (codes "!" ∷ codes "dead" ∷ parts) m.2 (record { proper = h.0; parts_are = ap (λ ps. codes "!" ∷ codes "dead" ∷ ps) h.1 })

renewed_read : (parts : List (List ℕ)) (s : Said) → option_map said.Renewed (sole server_at parts) ≡ Some s → IsSaidRead s (codes "!" ∷ codes "renewed" ∷ parts)
renewed_read parts s e = let m = map_some said.Renewed (sole server_at parts) s e in let h = sole_server_read parts m.0 m.1 in as_said (said.Renewed m.0) s (codes "!" ∷ codes "renewed" ∷ parts) m.2 (record { proper = h.0; parts_are = ap (λ ps. codes "!" ∷ codes "renewed" ∷ ps) h.1 })

backup_read : (parts : List (List ℕ)) (s : Said) → option_map said.Backup (sole count_at parts) ≡ Some s → IsSaidRead s (codes "!" ∷ codes "backup" ∷ parts)
backup_read parts s e = let m = map_some said.Backup (sole count_at parts) s e in let h = sole_count_read parts m.0 m.1 in as_said (said.Backup m.0) s (codes "!" ∷ codes "backup" ∷ parts) m.2 (record { proper = h.0; parts_are = ap (λ ps. codes "!" ∷ codes "backup" ∷ ps) h.1 })

locks_read : (parts : List (List ℕ)) (s : Said) → option_map said.Locks (sole count_at parts) ≡ Some s → IsSaidRead s (codes "!" ∷ codes "locks" ∷ parts)
locks_read parts s e = let m = map_some said.Locks (sole count_at parts) s e in let h = sole_count_read parts m.0 m.1 in as_said (said.Locks m.0) s (codes "!" ∷ codes "locks" ∷ parts) m.2 (record { proper = h.0; parts_are = ap (λ ps. codes "!" ∷ codes "locks" ∷ ps) h.1 })

by_read : (parts : List (List ℕ)) (by : ServerId) → by_of parts ≡ Some by → IsWho by.0 × (parts ≡ codes "by" ∷ who_text by.0 ∷ [])
by_read [] by e = cc
by_read (w ∷ parts) by e =
    let h = only_true (bytes_eq w (codes "by")) (sole who_at parts) by e in
    let s = sole_some who_at parts by h.1 in
    let x = who_read s.0 by s.2 in
    (x.0, ap (λ t. t ∷ parts) (word_is w (codes "by") h.0) ∙ ap (λ ps. codes "by" ∷ ps) s.1 ∙ ap (λ t. codes "by" ∷ t ∷ []) x.1)

recovering_read : (parts : List (List ℕ)) (s : Said) → recovering_of parts ≡ Some s → IsSaidRead s (codes "!" ∷ codes "recovering" ∷ parts)
recovering_read [] s e = cc
recovering_read (w ∷ parts) s e =
    let t = then_some (λ server. option_map (λ by. said.Recovering server by) (by_of parts)) (server_at w) s e in
    let m = map_some (λ by. said.Recovering t.0 by) (by_of parts) s t.2 in
    let h = server_read 15 w t.0 (omega arith) t.1 in
    let b = by_read parts m.0 m.1 in
    as_said (said.Recovering t.0 m.0) s (codes "!" ∷ codes "recovering" ∷ w ∷ parts) m.2 (record { proper = (h.0, b.0); parts_are = ap (λ x. codes "!" ∷ codes "recovering" ∷ x ∷ parts) h.1 ∙ ap (λ ps. codes "!" ∷ codes "recovering" ∷ decimal t.0.0 ∷ ps) b.1 })

keeps_read : (parts : List (List ℕ)) (op : OpNo) → keeps_of parts ≡ Some op → (op.0 < 2 ^ 64) × (parts ≡ codes "keeps" ∷ run_line op.0 ∷ [])
keeps_read [] op e = cc
keeps_read (w ∷ parts) op e =
    let h = only_true (bytes_eq w (codes "keeps")) (sole op_at parts) op e in
    let s = sole_some op_at parts op h.1 in
    let x = op_read s.0 op s.2 in
    (x.0, ap (λ t. t ∷ parts) (word_is w (codes "keeps") h.0) ∙ ap (λ ps. codes "keeps" ∷ ps) s.1 ∙ ap (λ t. codes "keeps" ∷ t ∷ []) x.1)

recovered_read : (parts : List (List ℕ)) (s : Said) → recovered_of parts ≡ Some s → IsSaidRead s (codes "!" ∷ codes "recovered" ∷ parts)
recovered_read [] s e = cc
recovered_read (w ∷ parts) s e =
    let t = then_some (λ log. option_map (λ op. said.Recovered log op) (keeps_of parts)) (log_at w) s e in
    let m = map_some (λ op. said.Recovered t.0 op) (keeps_of parts) s t.2 in
    let h = server_read 255 w t.0 (omega arith) t.1 in
    let k = keeps_read parts m.0 m.1 in
    as_said (said.Recovered t.0 m.0) s (codes "!" ∷ codes "recovered" ∷ w ∷ parts) m.2 (record { proper = (h.0, k.0); parts_are = ap (λ x. codes "!" ∷ codes "recovered" ∷ x ∷ parts) h.1 ∙ ap (λ ps. codes "!" ∷ codes "recovered" ∷ decimal t.0.0 ∷ ps) k.1 })

end_read : (parts : List (List ℕ)) (s : Said) → at_end (Some said.End) parts ≡ Some s → IsSaidRead s (codes "!" ∷ codes "end" ∷ parts)
end_read parts s e = let h = at_end_some (Some said.End) parts s e in as_said said.End s (codes "!" ∷ codes "end" ∷ parts) (same_Some said.End s h.1) (record { proper = tt; parts_are = ap (λ ps. codes "!" ∷ codes "end" ∷ ps) h.0 })

none_read : {A : Type 0} (s : Said) → None ≡ Some s → A
none_read s e = absurd (cc)

note_read : (w : List ℕ) (parts : List (List ℕ)) (s : Said) → note_from w parts ≡ Some s → IsSaidRead s (codes "!" ∷ w ∷ parts)
note_read w parts s e =
    by_next (codes "!") w (codes "dead") parts s _ _ (dead_read parts s)
    (by_next (codes "!") w (codes "recovering") parts s _ _ (recovering_read parts s)
    (by_next (codes "!") w (codes "recovered") parts s _ _ (recovered_read parts s)
    (by_next (codes "!") w (codes "renewed") parts s _ _ (renewed_read parts s)
    (by_next (codes "!") w (codes "backup") parts s _ _ (backup_read parts s)
    (by_next (codes "!") w (codes "locks") parts s _ _ (locks_read parts s)
    (by_next (codes "!") w (codes "end") parts s _ _ (end_read parts s) (λ n. none_read s n))))))) e

note_first : (parts : List (List ℕ)) (s : Said) → first_of_parts note_from parts ≡ Some s → IsSaidRead s (codes "!" ∷ parts)
note_first parts s e = let f = first_some_part note_from parts s e in subst (λ ps. IsSaidRead s (codes "!" ∷ ps)) (sym f.2) (note_read f.0 f.1 s f.3)

-- the kind of a node with its parts
pub record IsKindRead (k : ℕ × ℕ × ℕ) (parts : List (List ℕ)) : Type 0 where
  pub kind : IsNodeKind k.0 k.2
  pub size : k.1 < 2 ^ 32
  pub parts_are : parts ≡ kind_parts k.0 k.1 k.2

kind_file : (parts : List (List ℕ)) (k : ℕ × ℕ × ℕ) → option_map file_kind (two_counts parts) ≡ Some k → IsKindRead k (codes "file" ∷ parts)
kind_file parts k e = let m = map_some file_kind (two_counts parts) k e in let h = two_read parts m.0 m.1 in subst (λ t. IsKindRead t (codes "file" ∷ parts)) m.2 (record { kind = inl (refl, h.1); size = h.0; parts_are = ap (λ ps. codes "file" ∷ ps) h.2 })

kind_dir : (parts : List (List ℕ)) (k : ℕ × ℕ × ℕ) → option_map (dir_kind 2) (sole count_at parts) ≡ Some k → IsKindRead k (codes "dir" ∷ parts)
kind_dir parts k e = let m = map_some (dir_kind 2) (sole count_at parts) k e in let h = sole_count_read parts m.0 m.1 in subst (λ t. IsKindRead t (codes "dir" ∷ parts)) m.2 (record { kind = inr (inl refl, refl); size = h.0; parts_are = ap (λ ps. codes "dir" ∷ ps) h.1 })

kind_link : (parts : List (List ℕ)) (k : ℕ × ℕ × ℕ) → option_map (dir_kind 3) (sole count_at parts) ≡ Some k → IsKindRead k (codes "link" ∷ parts)
kind_link parts k e = let m = map_some (dir_kind 3) (sole count_at parts) k e in let h = sole_count_read parts m.0 m.1 in subst (λ t. IsKindRead t (codes "link" ∷ parts)) m.2 (record { kind = inr (inr refl, refl); size = h.0; parts_are = ap (λ ps. codes "link" ∷ ps) h.1 })

by_kind : (w text : List ℕ) (parts : List (List ℕ)) (k : ℕ × ℕ × ℕ) (o p : Option (ℕ × ℕ × ℕ)) → (o ≡ Some k → IsKindRead k (text ∷ parts)) → (p ≡ Some k → IsKindRead k (w ∷ parts)) → cond (bytes_eq w text) o p ≡ Some k → IsKindRead k (w ∷ parts)
by_kind w text parts k o p f g e = elim (chosen (bytes_eq w text) o p (Some k) e) [ inl h ↦ subst (λ t. IsKindRead k (t ∷ parts)) (sym (word_is w text h.0)) (f h.1) | inr h ↦ g h.1 ]

none_kind : {A : Type 0} (k : ℕ × ℕ × ℕ) → None ≡ Some k → A
none_kind k e = absurd (cc)

kind_read : (w : List ℕ) (parts : List (List ℕ)) (k : ℕ × ℕ × ℕ) → kind_from w parts ≡ Some k → IsKindRead k (w ∷ parts)
kind_read w parts k e =
    by_kind w (codes "file") parts k _ _ (kind_file parts k)
    (by_kind w (codes "dir") parts k _ _ (kind_dir parts k)
    (by_kind w (codes "link") parts k _ _ (kind_link parts k) (λ n. none_kind k n))) e

node_read : (path : List ℕ) (parts : List (List ℕ)) (s : Said) → node_from path parts ≡ Some s → IsSaidRead s (codes "=" ∷ path ∷ parts)
node_read path parts s e =
    let h = only_true (is_path_text path) (option_map (λ k. said.Node path k.0 k.1 k.2) (first_of_parts kind_from parts)) s e in
    let m = map_some (λ k. said.Node path k.0 k.1 k.2) (first_of_parts kind_from parts) s h.1 in
    let f = first_some_part kind_from parts m.0 m.1 in
    let k = kind_read f.0 f.1 m.0 f.3 in
    as_said (said.Node path m.0.0 m.0.1 m.0.2) s (codes "=" ∷ path ∷ parts) m.2 (record { proper = (h.0, k.kind, k.size); parts_are = ap (λ ps. codes "=" ∷ path ∷ ps) (f.2 ∙ k.parts_are) })

node_first : (parts : List (List ℕ)) (s : Said) → first_of_parts node_from parts ≡ Some s → IsSaidRead s (codes "=" ∷ parts)
node_first parts s e = let f = first_some_part node_from parts s e in subst (λ ps. IsSaidRead s (codes "=" ∷ ps)) (sym f.2) (node_read f.0 f.1 s f.3)

redo_read : (parts : List (List ℕ)) (s : Said) → option_map said.Redo (sole op_at parts) ≡ Some s → IsSaidRead s (codes "#" ∷ parts)
redo_read parts s e =
    let m = map_some said.Redo (sole op_at parts) s e in
    let o = sole_some op_at parts m.0 m.1 in
    let h = op_read o.0 m.0 o.2 in
    as_said (said.Redo m.0) s (codes "#" ∷ parts) m.2 (record { proper = h.0; parts_are = ap (λ ps. codes "#" ∷ ps) o.1 ∙ ap (λ t. codes "#" ∷ t ∷ []) h.1 })

said_from_read : (w : List ℕ) (parts : List (List ℕ)) (s : Said) → said_from w parts ≡ Some s → IsSaidRead s (w ∷ parts)
said_from_read w parts s e =
    by_part w (codes "!") parts s _ _ (note_first parts s)
    (by_part w (codes "=") parts s _ _ (node_first parts s)
    (by_part w (codes "#") parts s _ _ (redo_read parts s) (answer_read w parts s))) e

pub said_in_read : (text : List ℕ) (s : Said) → said_in text ≡ Some s → IsProperSaid s × (said_text s ≡ text)
said_in_read text s e =
    let f = first_some_part said_from (parts_of text) s e in
    let h = said_from_read f.0 f.1 s f.3 in
    (h.proper, said_joined s h.proper ∙ ap (join_with_byte 32) (sym h.parts_are ∙ sym f.2) ∙ join_with_byte-slice_split 32 text)

-- the line feed at the end
feed_read : (bytes text : List ℕ) → without_feed bytes ≡ Some text → bytes ≡ text ++ 10 ∷ []
feed_read [] text e = cc
feed_read (b ∷ bytes) text e =
    let all = b ∷ bytes in
    let h = only_true (eqb (get_or all (length all - 1) 0) 10) (Some (take (length all - 1) all)) text e in
    let last : get_or all (length all - 1) 0 ≡ 10 = eqb-true (get_or all (length all - 1) 0) 10 h.0 in
    let front : take (length all - 1) all ≡ text = same_Some (take (length all - 1) all) text h.1 in
    let within : length all - 1 < length all = omega arith in
    let past : length all ≤ length all - 1 + 1 = omega arith in
    sym (take-append-drop (length all - 1) all)
    ∙ ap (λ t. t ++ drop (length all - 1) all) front
    ∙ ap (λ t. text ++ t) (drop_more all (length all - 1) 0 within ∙ ap (λ x. x ∷ drop (length all - 1 + 1) all) last ∙ ap (λ t. 10 ∷ t) (drop_all (length all - 1 + 1) all past))

pub said_of_read : (bytes : List ℕ) (s : Said) → said_of bytes ≡ Some s → IsProperSaid s × (said_line s ≡ bytes)
said_of_read bytes s e =
    let t = then_some said_in (without_feed bytes) s e in
    let h = said_in_read t.0 s t.2 in
    (h.0, ap (λ u. u ++ 10 ∷ []) h.1 ∙ sym (feed_read bytes t.0 t.1))

none_of : {A : Type 0} (o : Option A) → ((x : A) → o ≡ Some x → ⊥) → o ≡ None
none_of None h = refl
none_of (Some x) h = absurd (h x refl)

-- whatever follows the line feed is refused
pub refused_behind : (s : Said) (b : ℕ) (more : List ℕ) → IsProperSaid s → said_of (said_line s ++ b ∷ more) ≡ None
refused_behind s b more h = none_of (said_of (said_line s ++ b ∷ more)) (λ t e.
    (let r = said_of_read (said_line s ++ b ∷ more) t e in
    nothing_follows (said_text t) (said_text s) more b (text_low t r.0) (text_low s h) (r.1 ∙ append_assoc (said_text s) (10 ∷ []) (b ∷ more))))

-- where nothing is read, no proper line has these bytes
pub not_read : (bytes : List ℕ) (s : Said) → said_of bytes ≡ None → IsProperSaid s → said_line s ≡ bytes → ⊥
not_read bytes s e h is = (let f : None ≡ Some s = sym e ∙ ap said_of (sym is) ∙ said_of_line s h in cc)
