-- Parts of a text, read one after the other.
use Rattle.std.proofs.Common.{◌≡◌, ℕ, ◌-◌, ◌≤◌, get_or, take, drop, arith, Bool, true, false, ◌&&◌, cond, List, [], ◌∷◌, ◌++◌, length, Option, Some, None, refl, sym, ◌∙◌, ap, append_assoc}
use Rattle.std.specs.List.{list_all, slice_split, onto_first}
use Rattle.std.specs.Option.{option_map, option_and_then}
use Rattle.std.proofs.lemmas.List.{take_rest}
use Rattle.std.proofs.lemmas.Option.{cond_some}
use Rattle.frang_base.specs.Name.{is_name}
use Rattle.script_definitions.specs.SaidReading.{sole_part, is_end, hex_bytes, byte_at, names_of}

-- a text has a part
pub record HasFirst (parts : List (List ℕ)) : Type 0 where
  pub first : List ℕ
  pub rest : List (List ℕ)
  pub is : parts ≡ first ∷ rest

onto_has : (x : ℕ) (parts : List (List ℕ)) → HasFirst (onto_first x parts)
onto_has x [] = record { first = x ∷ []; rest = []; is = refl }
onto_has x (part ∷ parts) = record { first = x ∷ part; rest = parts; is = refl }

cond_has : (b : Bool) (x : ℕ) (parts : List (List ℕ)) → HasFirst (cond b ([] ∷ parts) (onto_first x parts))
cond_has true x parts = record { first = []; rest = parts; is = refl }
cond_has false x parts = onto_has x parts

pub split_has : (p : ℕ → Bool) (text : List ℕ) → HasFirst (slice_split p text)
split_has p [] = record { first = []; rest = []; is = refl }
split_has p (x ∷ text) = cond_has (p x) x (slice_split p text)

-- the one part of a text is the text
onto_alone : (x : ℕ) (xs part line : List ℕ) (parts : List (List ℕ)) → (parts ≡ [] → part ≡ xs) → onto_first x (part ∷ parts) ≡ line ∷ [] → line ≡ x ∷ xs
onto_alone x xs part line [] same e = let s : part ≡ xs = same refl in cc
onto_alone x xs part line (p ∷ ps) same e = cc

alone_step : (b : Bool) (x : ℕ) (xs line : List ℕ) (parts : List (List ℕ)) → (h : HasFirst parts) → (parts ≡ h.first ∷ [] → h.first ≡ xs) → cond b ([] ∷ parts) (onto_first x parts) ≡ line ∷ [] → line ≡ x ∷ xs
alone_step true x xs line parts h same e = let i : parts ≡ h.first ∷ h.rest = h.is in cc
alone_step false x xs line parts h same e = onto_alone x xs h.first line h.rest (λ n. same (h.is ∙ ap (λ r. h.first ∷ r) n)) (sym (ap (onto_first x) h.is) ∙ e)

pub part_alone : (p : ℕ → Bool) (xs line : List ℕ) → slice_split p xs ≡ line ∷ [] → line ≡ xs
part_alone p [] line e = cc
part_alone p (x ∷ xs) line e = alone_step (p x) x xs line (slice_split p xs) (split_has p xs) (λ i. part_alone p xs _ i) e

-- a part before a text isn't alone
pub sole_of_more : (p : ℕ → Bool) (part text : List ℕ) → sole_part (part ∷ slice_split p text) ≡ None
sole_of_more p part text = ap (λ parts. sole_part (part ∷ parts)) (split_has p text).is

-- a text isn't the end
pub end_of_split : (p : ℕ → Bool) (text : List ℕ) → is_end (slice_split p text) ≡ false
end_of_split p text = ap is_end (split_has p text).is

behind : {A : Type 0} (front : List A) (x : A) (o : Option (List A)) → option_map (λ xs. (front ++ x ∷ []) ++ xs) o ≡ option_map (λ xs. front ++ xs) (option_map (λ xs. x ∷ xs) o)
behind front x None = refl
behind front x (Some xs) = ap Some (append_assoc front (x ∷ []) xs)

-- one byte more of hexadecimal digits, and one that is none
pub byte_read : (front : List ℕ) (high low b : ℕ) (digits : List ℕ) → byte_at high low ≡ Some b → option_map (λ bs. (front ++ b ∷ []) ++ bs) (hex_bytes digits) ≡ option_map (λ bs. front ++ bs) (hex_bytes (high ∷ low ∷ digits))
byte_read front high low b digits e =
    behind front b (hex_bytes digits)
    ∙ ap (λ o. option_map (λ bs. front ++ bs) (option_and_then (λ c. option_map (λ bytes. c ∷ bytes) (hex_bytes digits)) o)) (sym e)

pub byte_refused : (front : List ℕ) (high low : ℕ) (digits : List ℕ) → byte_at high low ≡ None → option_map (λ bs. front ++ bs) (hex_bytes (high ∷ low ∷ digits)) ≡ None
byte_refused front high low digits e = ap (λ o. option_map (λ bs. front ++ bs) (option_and_then (λ c. option_map (λ bytes. c ∷ bytes) (hex_bytes digits)) o)) e

-- one name more, and one that is none
names_cons : (b : Bool) (name : List ℕ) (names : List (List ℕ)) → cond b (Some (name ∷ names)) None ≡ option_map (λ ns. name ∷ ns) (cond b (Some names) None)
names_cons true name names = refl
names_cons false name names = refl

pub name_read : (front : List (List ℕ)) (name : List ℕ) (names : List (List ℕ)) → is_name name ≡ true → option_map (λ ns. (front ++ name ∷ []) ++ ns) (names_of names) ≡ option_map (λ ns. front ++ ns) (names_of (name ∷ names))
name_read front name names e =
    behind front name (names_of names)
    ∙ ap (λ o. option_map (λ ns. front ++ ns) o) (sym (ap (λ b. cond (b && list_all is_name names) (Some (name ∷ names)) None) e ∙ names_cons (list_all is_name names) name names))

pub name_refused : (front : List (List ℕ)) (name : List ℕ) (names : List (List ℕ)) → is_name name ≡ false → option_map (λ ns. front ++ ns) (names_of (name ∷ names)) ≡ None
name_refused front name names e = ap (λ b. option_map (λ ns. front ++ ns) (cond (b && list_all is_name names) (Some (name ∷ names)) None)) e

-- a turn of the loop over names
pub name_turn : (front : List (List ℕ)) (name part : List ℕ) (parts after : List (List ℕ)) → cond (is_name part) (Some part) None ≡ Some name → parts ≡ part ∷ after → option_map (λ ns. (front ++ name ∷ []) ++ ns) (names_of after) ≡ option_map (λ ns. front ++ ns) (names_of parts)
name_turn front name part parts after e is =
    let c = cond_some (is_name part) part name e in
    ap (λ n. option_map (λ ns. (front ++ n ∷ []) ++ ns) (names_of after)) (sym c.1)
    ∙ name_read front part after c.0
    ∙ ap (λ ps. option_map (λ ns. front ++ ns) (names_of ps)) (sym is)

-- a turn of the loop over digits
pub byte_turn : (front digits : List ℕ) (b : ℕ) → 2 ≤ length digits → byte_at (get_or digits 0 0) (get_or digits 1 0) ≡ Some b → option_map (λ bs. (front ++ b ∷ []) ++ bs) (hex_bytes (take (length digits - 2) (drop 2 digits))) ≡ option_map (λ bs. front ++ bs) (hex_bytes digits)
byte_turn front [] b long e = absurd (omega arith)
byte_turn front (high ∷ []) b long e = absurd (omega arith)
byte_turn front (high ∷ low ∷ digits) b long e =
    ap (λ ds. option_map (λ bs. (front ++ b ∷ []) ++ bs) (hex_bytes ds)) (take_rest (high ∷ low ∷ digits) 2)
    ∙ byte_read front high low b digits e
