-- Texts that are joined of parts without the separator are cut into these parts again.
use Rattle.std.proofs.Common.{◌≡◌, ℕ, Bool, true, not, eqb, List, [], ◌∷◌, ◌++◌, refl, sym, ◌∙◌, ap}
use Rattle.std.specs.List.{list_all, slice_split, onto_first, join_with_byte, flat_map}
use Rattle.std.proofs.lemmas.Bool.{and_parts, and_from, not-true, eq-eqb}
use Rattle.std.proofs.lemmas.List.{append-nil}
use Rattle.std.proofs.lemmas.List.Folds.{list_all-append}
use Rattle.std.proofs.lemmas.List.Splits.{slice_split-cons_no, slice_split-cons_yes}

-- no byte is the separator
abbrev pub is_free : ℕ → List ℕ → Bool
is_free c part = list_all (λ b. not (eqb b c)) part

-- a test follows from a stronger one
pub all_weaker : {A : Type 0} (p q : A → Bool) → ((x : A) → p x ≡ true → q x ≡ true) → (xs : List A) → list_all p xs ≡ true → list_all q xs ≡ true
all_weaker p q weaker [] e = refl
all_weaker p q weaker (x ∷ xs) e =
    let h = and_parts (p x) (list_all p xs) e in
    and_from (q x) (list_all q xs) (weaker x h.0) (all_weaker p q weaker xs h.1)

pub all_append : {A : Type 0} (p : A → Bool) (xs ys : List A) → list_all p xs ≡ true → list_all p ys ≡ true → list_all p (xs ++ ys) ≡ true
all_append p xs ys e f = list_all-append p xs ys ∙ and_from (list_all p xs) (list_all p ys) e f

-- a part before a separator, and a part alone
pub split_before : (c : ℕ) (part text : List ℕ) → is_free c part ≡ true → slice_split (λ b. eqb b c) (part ++ c ∷ text) ≡ part ∷ slice_split (λ b. eqb b c) text
split_before c [] text e = slice_split-cons_yes (λ b. eqb b c) c text (eq-eqb c c refl)
split_before c (x ∷ part) text e =
    let h = and_parts (not (eqb x c)) (is_free c part) e in
    slice_split-cons_no (λ b. eqb b c) x (part ++ c ∷ text) (not-true (eqb x c) h.0)
    ∙ ap (onto_first x) (split_before c part text h.1)

pub split_alone : (c : ℕ) (part : List ℕ) → is_free c part ≡ true → slice_split (λ b. eqb b c) part ≡ part ∷ []
split_alone c [] e = refl
split_alone c (x ∷ part) e =
    let h = and_parts (not (eqb x c)) (is_free c part) e in
    slice_split-cons_no (λ b. eqb b c) x part (not-true (eqb x c) h.0)
    ∙ ap (onto_first x) (split_alone c part h.1)

pub split_join : (c : ℕ) (part : List ℕ) (parts : List (List ℕ)) → list_all (is_free c) (part ∷ parts) ≡ true → slice_split (λ b. eqb b c) (join_with_byte c (part ∷ parts)) ≡ part ∷ parts
split_join c part [] e = split_alone c part (and_parts (is_free c part) true e).0
split_join c part (next ∷ parts) e =
    let h = and_parts (is_free c part) (list_all (is_free c) (next ∷ parts)) e in
    split_before c part (join_with_byte c (next ∷ parts)) h.0
    ∙ ap (λ ps. part ∷ ps) (split_join c next parts h.1)

-- the first part, and each of the others behind a separator
pub joined : (c : ℕ) (part : List ℕ) (parts : List (List ℕ)) → join_with_byte c (part ∷ parts) ≡ part ++ flat_map (λ p. c ∷ p) parts
joined c part [] = sym (append-nil part)
joined c part (next ∷ parts) = ap (λ t. part ++ c ∷ t) (joined c next parts)

-- what holds of the bytes of all parts and of the separator holds of the joined text
pub all_joined : (p : ℕ → Bool) (c : ℕ) (parts : List (List ℕ)) → p c ≡ true → list_all (list_all p) parts ≡ true → list_all p (join_with_byte c parts) ≡ true
all_joined p c [] here e = refl
all_joined p c (part ∷ []) here e = (and_parts (list_all p part) true e).0
all_joined p c (part ∷ next ∷ parts) here e =
    let h = and_parts (list_all p part) (list_all (list_all p) (next ∷ parts)) e in
    all_append p part (c ∷ join_with_byte c (next ∷ parts)) h.0 (and_from (p c) (list_all p (join_with_byte c (next ∷ parts))) here (all_joined p c (next ∷ parts) here h.1))
