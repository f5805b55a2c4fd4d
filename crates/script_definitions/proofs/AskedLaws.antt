-- What is asked by words is what the grammar says, and the other way round.
use Rattle.std.proofs.Common.{◌≡◌, ℕ, ◌+◌, ◌-◌, ◌*◌, ◌/◌, ◌%◌, ◌^◌, ◌≤◌, ◌<◌, Bool, true, false, not, ◌&&◌, ◌||◌, cond, eqb, ltb, leb, ◌⊎◌, inl, inr, List, [], ◌∷◌, ◌++◌, length, Option, Some, None, Result, Ok, Err, refl, sym, ◌∙◌, ap, subst, arith, suc}
use Rattle.std.specs.List.{list_all, slice_split, join_with_byte, flat_map}
use Rattle.std.specs.Fmt.{decimal}
use Rattle.std.proofs.lemmas.Bool.{and_parts, and_from, or_parts, or_from, not-true, not-false, not_from_false, ltb-true, ltb-false, leb-true, lt-ltb, le-ltb, le-leb, lt-leb, and_right, eqb-true, eqb-false, ne_eqb}
use Rattle.std.proofs.lemmas.List.Splits.{join_with_byte-slice_split}
use Rattle.std.proofs.lemmas.Option.{same_Some}
use Rattle.frang_base.specs.Name.{is_name, is_name_byte, is_dots}
use Rattle.frang_base.specs.PathText.{name_fault, with_name, unless_fault, names_from, names_below_root, names_from_root, path_of}
use Rattle.frang_base.specs.declared.fault.PathFault.{PathFault}
use Rattle.frang_base.specs.declared.fault.PathFault.TheVariants as pathfault
use Rattle.tree_definitions.specs.SaidLines.{hex_digit, hex_byte}
use Rattle.script_definitions.specs.Numerals.{number_in}
use Rattle.script_definitions.specs.ScriptFaults.{◌>>=◌}
use Rattle.script_definitions.specs.ScriptWords.{or_fault, path_or_fault, path_at, number_at, offset_at, text_at, digit_value, byte_at}
use Rattle.script_definitions.specs.ScriptPrinted.{path_text}
use Rattle.script_definitions.specs.ScriptGrammar.{IsPath}
use Rattle.script_definitions.specs.declared.fault.LineFault.{LineFault}
use Rattle.script_definitions.specs.declared.fault.LineFault.TheVariants as fault
use Rattle.script_definitions.proofs.NumeralLaws.{IsNumber, number_in-Some, number_in-decimal}
use Rattle.script_definitions.proofs.Splitting.{is_free, all_weaker, split_join, joined}
use Rattle.script_definitions.proofs.PartsLaws.{HasFirst, split_has}
use Rattle.script_definitions.proofs.SaidWritten.{name_bytes}
use Rattle.script_definitions.proofs.SaidRead.{chosen}

-- how a value came about
pub bind_ok : {F A B : Type 0} (r : Result A F) (f : A → Result B F) (y : B) → (r >>= f) ≡ Ok y → (x : A) × (r ≡ Ok x) × (f x ≡ Ok y)
bind_ok (Ok x) f y e = (x, refl, e)
bind_ok (Err g) f y e = cc

pub same_ok : {F A : Type 0} (x y : A) → ◌≡◌ {A = Result A F} (Ok x) (Ok y) → x ≡ y
same_ok x y e = cc

pub or_ok : {A : Type 0} (f : LineFault) (o : Option A) (x : A) → or_fault f o ≡ Ok x → o ≡ Some x
or_ok f None x e = cc
or_ok f (Some y) x e = ap Some (same_ok y x e)

pub guard_ok : {F A : Type 0} (b : Bool) (g : F) (r : Result A F) (y : A) → cond b (Err g) r ≡ Ok y → (b ≡ false) × (r ≡ Ok y)
guard_ok true g r y e = cc
guard_ok false g r y e = (refl, e)

only_ok : {F A : Type 0} (b : Bool) (g : F) (r : Result A F) (y : A) → cond b r (Err g) ≡ Ok y → (b ≡ true) × (r ≡ Ok y)
only_ok true g r y e = (refl, e)
only_ok false g r y e = cc

-- names of a path
fault_none : {F : Type 0} (b c d : Bool) (f g h : F) → cond b (Some f) (cond c (Some g) (cond d (Some h) None)) ≡ None → (b ≡ false) × (c ≡ false) × (d ≡ false)
fault_none true c d f g h e = cc
fault_none false true d f g h e = cc
fault_none false false true f g h e = cc
fault_none false false false f g h e = (refl, refl, refl)

name_sound : (before : ℕ) (name : List ℕ) → name_fault before name ≡ None → (before < 32) × (is_name name ≡ true)
name_sound before name e =
    let h = fault_none (not (ltb before 32)) ((eqb (length name) 0) || not (list_all is_name_byte name) || is_dots name) (ltb 64 (length name)) pathfault.TooDeep pathfault.BadName pathfault.TooLong e in
    let o = or_parts ((eqb (length name) 0) || not (list_all is_name_byte name)) (is_dots name) h.1 in
    let q = or_parts (eqb (length name) 0) (not (list_all is_name_byte name)) o.0 in
    let long : length name ≤ 64 = ltb-false 64 (length name) h.2 in
    let some : length name ≡ 0 → ⊥ = eqb-false (length name) 0 q.0 in (
      ltb-true before 32 (not-false (ltb before 32) h.0),
      and_from (ltb 0 (length name) && leb (length name) 64 && list_all is_name_byte name) (not (is_dots name)) (and_from (ltb 0 (length name) && leb (length name) 64) (list_all is_name_byte name) (and_from (ltb 0 (length name)) (leb (length name) 64) (lt-ltb 0 (length name) (omega arith)) (le-leb (length name) 64 long)) (not-false (list_all is_name_byte name) q.1)) (not_from_false (is_dots name) o.1),
    )

none_fault : {F : Type 0} (b c d : Bool) (f g h : F) → b ≡ false → c ≡ false → d ≡ false → cond b (Some f) (cond c (Some g) (cond d (Some h) None)) ≡ None
none_fault true c d f g h x y z = cc
none_fault false true d f g h x y z = cc
none_fault false false true f g h x y z = cc
none_fault false false false f g h x y z = refl

name_complete : (before : ℕ) (name : List ℕ) → before < 32 → is_name name ≡ true → name_fault before name ≡ None
name_complete before name b e =
    let h = and_parts (ltb 0 (length name) && leb (length name) 64 && list_all is_name_byte name) (not (is_dots name)) e in
    let g = and_parts (ltb 0 (length name) && leb (length name) 64) (list_all is_name_byte name) h.0 in
    let k = and_parts (ltb 0 (length name)) (leb (length name) 64) g.0 in
    let some : 0 < length name = ltb-true 0 (length name) k.0 in
    none_fault (not (ltb before 32)) ((eqb (length name) 0) || not (list_all is_name_byte name) || is_dots name) (ltb 64 (length name)) pathfault.TooDeep pathfault.BadName pathfault.TooLong
    (ap not (lt-ltb before 32 b))
    (or_from ((eqb (length name) 0) || not (list_all is_name_byte name)) (is_dots name) (or_from (eqb (length name) 0) (not (list_all is_name_byte name)) (ne_eqb (length name) 0 (λ z. absurd (omega arith))) (ap not g.1)) (not-true (is_dots name) h.1))
    (le-ltb 64 (length name) (leb-true (length name) 64 k.1))

-- what the names from the left are
pub record AreNames (before : ℕ) (parts names : List (List ℕ)) : Type 0 where
  pub same : parts ≡ names
  pub named : list_all is_name names ≡ true
  pub few : length names ≡ 0 ⊎ (before + length names ≤ 32)

with_ok : (name : List ℕ) (r : Result (List (List ℕ)) PathFault) (names : List (List ℕ)) → with_name name r ≡ Ok names → (rest : List (List ℕ)) × (r ≡ Ok rest) × (name ∷ rest ≡ names)
with_ok name (Ok rest) names e = (rest, refl, same_ok (name ∷ rest) names e)
with_ok name (Err f) names e = cc

unless_ok : (o : Option PathFault) (r : Result (List (List ℕ)) PathFault) (names : List (List ℕ)) → unless_fault o r ≡ Ok names → (o ≡ None) × (r ≡ Ok names)
unless_ok None r names e = (refl, e)
unless_ok (Some f) r names e = cc

few_more : (before n : ℕ) → before < 32 → (n ≡ 0) ⊎ (before + 1 + n ≤ 32) → before + suc n ≤ 32
few_more before n b (inl z) = omega arith
few_more before n b (inr h) = omega arith

names_sound : (before : ℕ) (parts names : List (List ℕ)) → names_from before parts ≡ Ok names → AreNames before parts names
names_sound before [] names e = let s : [] ≡ names = same_ok [] names e in record { same = s; named = ap (list_all is_name) (sym s); few = inl (ap length (sym s)) }
names_sound before (name ∷ parts) names e =
    let u = unless_ok (name_fault before name) (with_name name (names_from (before + 1) parts)) names e in
    let w = with_ok name (names_from (before + 1) parts) names u.1 in
    let h = name_sound before name u.0 in
    let r = names_sound (before + 1) parts w.0 w.1 in
    record {
      same = ap (λ ps. name ∷ ps) r.same ∙ w.2;
      named = ap (list_all is_name) (sym w.2) ∙ and_from (is_name name) (list_all is_name w.0) h.1 r.named;
      few = inr (subst (λ ns. before + length ns ≤ 32) w.2 (few_more before (length w.0) h.0 r.few));
    }

names_complete : (before : ℕ) (names : List (List ℕ)) → list_all is_name names ≡ true → before + length names ≤ 32 → names_from before names ≡ Ok names
names_complete before [] e few = refl
names_complete before (name ∷ names) e few =
    let h = and_parts (is_name name) (list_all is_name names) e in
    let b : before < 32 = (let k : before + suc (length names) ≤ 32 = few in omega arith) in
    let m : before + 1 + length names ≤ 32 = (let k : before + suc (length names) ≤ 32 = few in omega arith) in
    ap (λ o. unless_fault o (with_name name (names_from (before + 1) names))) (name_complete before name b h.0)
    ∙ ap (with_name name) (names_complete (before + 1) names h.1 m)

-- the text of names that are joined
below_text : (name : List ℕ) (names : List (List ℕ)) → 47 ∷ join_with_byte 47 (name ∷ names) ≡ path_text (name ∷ names)
below_text name names = ap (λ t. 47 ∷ t) (joined 47 name names)

rooted : (parts : List (List ℕ)) (text : List ℕ) → HasFirst parts → join_with_byte 47 parts ≡ text → 47 ∷ text ≡ path_text parts
rooted parts text h e = ap (λ t. 47 ∷ t) (sym e) ∙ ap (λ ps. 47 ∷ join_with_byte 47 ps) h.is ∙ below_text h.first h.rest ∙ sym (ap path_text h.is)

few_is : (n : ℕ) → (n ≡ 0) ⊎ (0 + n ≤ 32) → n ≤ 32
few_is n (inl z) = omega arith
few_is n (inr h) = omega arith

below_sound : (text : List ℕ) (names : List (List ℕ)) → names_below_root text ≡ Ok names → (47 ∷ text ≡ path_text names) × (list_all is_name names ≡ true) × (length names ≤ 32)
below_sound [] names e = let s : [] ≡ names = same_ok [] names e in (ap path_text s, ap (list_all is_name) (sym s), subst (λ ns. length ns ≤ 32) s (let z : 0 ≤ 32 = omega arith in z))
below_sound (b ∷ text) names e =
    let r = names_sound 0 (slice_split (λ c. eqb c 47) (b ∷ text)) names e in
    (rooted (slice_split (λ c. eqb c 47) (b ∷ text)) (b ∷ text) (split_has (λ c. eqb c 47) (b ∷ text)) (join_with_byte-slice_split 47 (b ∷ text)) ∙ ap path_text r.same, r.named, few_is (length names) r.few)

root_sound : (text : List ℕ) (names : List (List ℕ)) → names_from_root text ≡ Ok names → (text ≡ path_text names) × (list_all is_name names ≡ true) × (length names ≤ 32)
root_sound [] names e = cc
root_sound (b ∷ text) names e =
    let h = only_ok (eqb b 47) pathfault.BadName (names_below_root text) names e in
    let r = below_sound text names h.1 in
    (ap (λ c. c ∷ text) (eqb-true b 47 h.0) ∙ r.0, r.1, r.2)

pub path_sound : (w : List ℕ) (names : List (List ℕ)) → path_of w ≡ Ok names → IsPath names × (w ≡ path_text names)
path_sound w names e =
    let h = guard_ok (ltb 1024 (length w)) pathfault.TooLong (names_from_root w) names e in
    let r = root_sound w names h.1 in
    (record { named = r.1; few = r.2; short = subst (λ t. length t ≤ 1024) r.0 (ltb-false 1024 (length w) h.0) }, r.0)

path_or_ok : (r : Result (List (List ℕ)) PathFault) (names : List (List ℕ)) → path_or_fault r ≡ Ok names → r ≡ Ok names
path_or_ok (Ok ns) names e = ap Ok (same_ok ns names e)
path_or_ok (Err f) names e = cc

pub path_at_sound : (w : List ℕ) (names : List (List ℕ)) → path_at w ≡ Ok names → IsPath names × (w ≡ path_text names)
path_at_sound w names e = path_sound w names (path_or_ok (path_of w) names e)

-- names have no slash
name_slash : (b : ℕ) → is_name_byte b ≡ true → not (eqb b 47) ≡ true
name_slash b e =
    let h = and_parts (ltb 32 b && not (eqb b 47)) (not (eqb b 127)) e in
    (and_parts (ltb 32 b) (not (eqb b 47)) h.0).1

pub slash_free : (name : List ℕ) → is_name name ≡ true → is_free 47 name ≡ true
slash_free name e = all_weaker is_name_byte (λ b. not (eqb b 47)) name_slash name (name_bytes name e)

-- a name isn't empty, so what follows the root isn't either
below_names : (name : List ℕ) (names : List (List ℕ)) (text : List ℕ) → is_name name ≡ true → text ≡ join_with_byte 47 (name ∷ names) → names_below_root text ≡ names_from 0 (slice_split (λ c. eqb c 47) text)
below_names [] names text e is = cc
below_names (b ∷ name) [] [] e is = cc
below_names (b ∷ name) (n ∷ names) [] e is = cc
below_names (b ∷ name) names (c ∷ text) e is = refl

pub path_complete : (names : List (List ℕ)) → IsPath names → path_of (path_text names) ≡ Ok names
path_complete [] h = refl
path_complete (name ∷ names) h =
    let text = name ++ flat_map (λ n. 47 ∷ n) names in
    let e : text ≡ join_with_byte 47 (name ∷ names) = sym (joined 47 name names) in
    let k = and_parts (is_name name) (list_all is_name names) h.named in
    let short : length (47 ∷ text) ≤ 1024 = h.short in
    ap (λ b. cond b (Err pathfault.TooLong) (names_below_root text)) (le-ltb 1024 (length (47 ∷ text)) short)
    ∙ below_names name names text k.0 e
    ∙ ap (λ t. names_from 0 (slice_split (λ c. eqb c 47) t)) e
    ∙ ap (names_from 0) (split_join 47 name names (all_weaker is_name (is_free 47) slash_free (name ∷ names) h.named))
    ∙ names_complete 0 (name ∷ names) h.named (let f : length (name ∷ names) ≤ 32 = h.few in omega arith)

pub path_at_complete : (names : List (List ℕ)) → IsPath names → path_at (path_text names) ≡ Ok names
path_at_complete names h = ap path_or_fault (path_complete names h)

-- numbers and texts
pub number_sound : (low high n : ℕ) (w : List ℕ) → high < 2 ^ 64 → number_at low high w ≡ Ok n → IsNumber low high n w
number_sound low high n w wide e = number_in-Some low high n w wide (or_ok fault.BadNumber (number_in low high w) n e)

pub number_complete : (low high n : ℕ) → low ≤ n → n ≤ high → high < 2 ^ 64 → number_at low high (decimal n) ≡ Ok n
number_complete low high n l h wide = ap (or_fault fault.BadNumber) (number_in-decimal low high n l h (omega arith))

pub offset_sound : (n : ℕ) (w : List ℕ) → offset_at w ≡ Ok n → (n < 2 ^ 32) × (w ≡ decimal n)
offset_sound n w e = let h = number_sound 0 4294967295 n w (omega arith) e in (let k : n ≤ 4294967295 = h.high_in in omega arith, h.word_is)

pub offset_complete : (n : ℕ) → n < 2 ^ 32 → offset_at (decimal n) ≡ Ok n
offset_complete n h = number_complete 0 4294967295 n (omega arith) (omega arith) (omega arith)

pub text_sound : (most : ℕ) (w t : List ℕ) → text_at most w ≡ Ok t → (length t ≤ most) × (w ≡ t)
text_sound most w t e =
    let h = guard_ok (ltb most (length w)) fault.TextTooLong (Ok w) t e in
    let s : w ≡ t = same_ok w t h.1 in
    (subst (λ u. length u ≤ most) s (ltb-false most (length w) h.0), s)

pub text_complete : (most : ℕ) (t : List ℕ) → length t ≤ most → text_at most t ≡ Ok t
text_complete most t h = ap (λ b. cond b (Err fault.TextTooLong) (Ok t)) (le-ltb most (length t) h)

-- a byte by two digits
upper : (b : Bool) (m n : ℕ) → cond b (Some m) None ≡ Some n → (b ≡ true) × (m ≡ n)
upper true m n e = (refl, cc)
upper false m n e = cc

digit_small : (b d : ℕ) → digit_value b ≡ Some d → d < 16
digit_small b d e =
    elim (chosen (leb 48 b && leb b 57) (Some (b - 48)) (cond (leb 97 b && leb b 102) (Some (b - 87)) (cond (leb 65 b && leb b 70) (Some (b - 55)) None)) (Some d) e) [
      | inl h ↦ (let r = and_parts (leb 48 b) (leb b 57) h.0 in let g : b ≤ 57 = leb-true b 57 r.1 in let s : b - 48 ≡ d = same_Some (b - 48) d h.1 in omega arith)
      | inr k ↦ elim (chosen (leb 97 b && leb b 102) (Some (b - 87)) (cond (leb 65 b && leb b 70) (Some (b - 55)) None) (Some d) k.1) [
        | inl h ↦ (let r = and_parts (leb 97 b) (leb b 102) h.0 in let g : b ≤ 102 = leb-true b 102 r.1 in let s : b - 87 ≡ d = same_Some (b - 87) d h.1 in omega arith)
        | inr l ↦ (let h = upper (leb 65 b && leb b 70) (b - 55) d l.1 in let r = and_parts (leb 65 b) (leb b 70) h.0 in let g : b ≤ 70 = leb-true b 70 r.1 in let s : b - 55 ≡ d = h.1 in omega arith)
      ]
    ]

pub byte_sound : (w : List ℕ) (b : ℕ) → byte_at w ≡ Ok b → b < 256
byte_sound [] b e = cc
byte_sound (x ∷ []) b e = cc
byte_sound (x ∷ y ∷ []) b e =
    let h = bind_ok (or_fault fault.BadNumber (digit_value x)) _ b e in
    let l = bind_ok (or_fault fault.BadNumber (digit_value y)) _ b h.2 in
    let m : h.0 < 16 = digit_small x h.0 (or_ok fault.BadNumber (digit_value x) h.0 h.1) in
    let n : l.0 < 16 = digit_small y l.0 (or_ok fault.BadNumber (digit_value y) l.0 l.1) in
    let s : h.0 * 16 + l.0 ≡ b = same_ok (h.0 * 16 + l.0) b l.2 in
    omega arith
byte_sound (x ∷ y ∷ z ∷ w) b e = cc

digit_low : (d : ℕ) → d < 10 → digit_value (48 + d) ≡ Some d
digit_low d h =
    ap (λ b. cond b (Some (48 + d - 48)) (cond (leb 97 (48 + d) && leb (48 + d) 102) (Some (48 + d - 87)) (cond (leb 65 (48 + d) && leb (48 + d) 70) (Some (48 + d - 55)) None))) (and_from (leb 48 (48 + d)) (leb (48 + d) 57) (le-leb 48 (48 + d) (omega arith)) (le-leb (48 + d) 57 (omega arith)))
    ∙ ap Some (let e : 48 + d - 48 ≡ d = omega arith in e)

digit_high : (d : ℕ) → 10 ≤ d → d < 16 → digit_value (87 + d) ≡ Some d
digit_high d h k =
    ap (λ b. cond b (Some (87 + d - 48)) (cond (leb 97 (87 + d) && leb (87 + d) 102) (Some (87 + d - 87)) (cond (leb 65 (87 + d) && leb (87 + d) 70) (Some (87 + d - 55)) None))) (and_right (leb 48 (87 + d)) (leb (87 + d) 57) (lt-leb (87 + d) 57 (omega arith)))
    ∙ ap (λ b. cond b (Some (87 + d - 87)) (cond (leb 65 (87 + d) && leb (87 + d) 70) (Some (87 + d - 55)) None)) (and_from (leb 97 (87 + d)) (leb (87 + d) 102) (le-leb 97 (87 + d) (omega arith)) (le-leb (87 + d) 102 (omega arith)))
    ∙ ap Some (let e : 87 + d - 87 ≡ d = omega arith in e)

digit_step : (d : ℕ) (b : Bool) → ltb d 10 ≡ b → d < 16 → digit_value (cond b (48 + d) (87 + d)) ≡ Some d
digit_step d true e h = digit_low d (ltb-true d 10 e)
digit_step d false e h = digit_high d (ltb-false d 10 e) h

pub byte_complete : (b : ℕ) → b < 256 → byte_at (hex_byte b) ≡ Ok b
byte_complete b h =
    ap (λ o. or_fault fault.BadNumber o >>= λ x. (or_fault fault.BadNumber (digit_value (hex_digit (b % 16))) >>= λ y. Ok (x * 16 + y))) (digit_step (b / 16) (ltb (b / 16) 10) refl (omega arith))
    ∙ ap (λ o. or_fault fault.BadNumber o >>= λ y. Ok (b / 16 * 16 + y)) (digit_step (b % 16) (ltb (b % 16) 10) refl (omega arith))
    ∙ ap Ok (let e : b / 16 * 16 + b % 16 ≡ b = omega arith in e)
