-- The text of a path from the root down is one, with a name more too.
use Rattle.std.proofs.Common.{◌≡◌, ℕ, Bool, true, false, not, ◌&&◌, cond, nat_eq, nat_lt, IsTrue, List, [], ◌∷◌, ◌++◌, refl, ◌∙◌, ap}
use Rattle.std.specs.List.{All, list_all, slice_split, onto_first}
use Rattle.std.proofs.lemmas.Bool.{and_parts, and_from, not-true}
use Rattle.std.proofs.lemmas.List.Folds.{list_all-append}
use Rattle.std.proofs.lemmas.List.Elements.{All-nil, All-cons}
use Rattle.std.proofs.lemmas.List.Splits.{slice_split_none}
use Rattle.frang_base.specs.Name.{is_name, is_name_byte}
use Rattle.script_definitions.specs.SaidReading.{is_path_text}
use Rattle.script_definitions.proofs.SaidWritten.{name_bytes}
use Rattle.tree_definitions.specs.TreeLines.{path_text, name_below}
use Rattle.tree_lines.specs.Below.{is_below}

-- parts are never none
parts_front : {X : Type 0} (p : X → Bool) (x : X) (t more : List X) → onto_first x (slice_split p t ++ slice_split p more) ≡ onto_first x (slice_split p t) ++ slice_split p more
parts_front p x [] more = refl
parts_front p x (y ∷ t) more = go (p y) (slice_split p t)
  where
    go : (b : Bool) (parts : List (List _)) → onto_first x (cond b ([] ∷ parts) (onto_first y parts) ++ slice_split p more) ≡ onto_first x (cond b ([] ∷ parts) (onto_first y parts)) ++ slice_split p more
    go true parts = refl
    go false [] = refl
    go false (part ∷ parts) = refl

-- the parts of a text, and of what follows a cut
parts_more : {X : Type 0} (p : X → Bool) (t : List X) (y : X) (more : List X) → p y ≡ true → slice_split p (t ++ y ∷ more) ≡ slice_split p t ++ slice_split p more
parts_more p [] y more cut = ap (λ b. cond b ([] ∷ slice_split p more) (onto_first y (slice_split p more))) cut
parts_more p (x ∷ t) y more cut = go (p x) (parts_more p t y more cut)
  where
    go : (b : Bool) → slice_split p (t ++ y ∷ more) ≡ slice_split p t ++ slice_split p more
        → cond b ([] ∷ slice_split p (t ++ y ∷ more)) (onto_first x (slice_split p (t ++ y ∷ more))) ≡ cond b ([] ∷ slice_split p t) (onto_first x (slice_split p t)) ++ slice_split p more
    go true rest = ap (λ parts. [] ∷ parts) rest
    go false rest = ap (onto_first x) rest ∙ parts_front p x t more

-- the bytes of a name have no `/`
byte_is_other : (b : ℕ) → is_name_byte b ≡ true → nat_eq b 47 ≡ false
byte_is_other b h = not-true (nat_eq b 47) (and_parts (nat_lt 32 b) (not (nat_eq b 47)) (and_parts (nat_lt 32 b && not (nat_eq b 47)) (not (nat_eq b 127)) h).0).1

no_slash : (name : List ℕ) → list_all is_name_byte name ≡ true → All (λ b. nat_eq b 47 ≡ false) name
no_slash [] h = All-nil (λ b. nat_eq b 47 ≡ false)
no_slash (b ∷ name) h = let both = and_parts (is_name_byte b) (list_all is_name_byte name) h in All-cons (λ d. nat_eq d 47 ≡ false) b name (byte_is_other b both.0) (no_slash name both.1)

pub path_is_proper : (text : List ℕ) → is_below text ≡ true → IsTrue (is_path_text (path_text text))
path_is_proper [] h = refl
path_is_proper (b ∷ []) h = let none : false ≡ true = (and_parts (nat_eq b 47) false h).1 in cc
path_is_proper (b ∷ c ∷ text) h = h

pub below_name : (text name : List ℕ) → is_below text ≡ true → is_name name ≡ true → is_below (name_below text name) ≡ true
below_name [] name h n =
    ap (λ parts. list_all is_name parts) (slice_split_none (λ d. nat_eq d 47) name (no_slash name (name_bytes name n))) ∙ ap (λ b. b && true) n
below_name (b ∷ text) name h n =
    let own = and_parts (nat_eq b 47) (list_all is_name (slice_split (λ d. nat_eq d 47) text)) h in
    let cut = slice_split_none (λ d. nat_eq d 47) name (no_slash name (name_bytes name n)) in
    let parts : list_all is_name (slice_split (λ d. nat_eq d 47) (text ++ 47 ∷ name)) ≡ true
    = ap (list_all is_name) (parts_more (λ d. nat_eq d 47) text 47 name refl ∙ ap (λ last. slice_split (λ d. nat_eq d 47) text ++ last) cut)
    ∙ list_all-append is_name (slice_split (λ d. nat_eq d 47) text) (name ∷ [])
    ∙ and_from (list_all is_name (slice_split (λ d. nat_eq d 47) text)) (is_name name && true) own.1 (ap (λ a. a && true) n) in
    and_from (nat_eq b 47) (list_all is_name (slice_split (λ d. nat_eq d 47) (text ++ 47 ∷ name))) own.0 parts
