-- The entries of a sector one after another: how they are read, and where a name stands first.
use Rattle.std.proofs.Common.{◌==◌, ◌≡◌, ℕ, zero, suc, ◌+◌, ◌*◌, ◌<◌, ◌≤◌, ⊎_elim, Bool, true, false, nat_le, leb-true, ne_eqb, subst, if◌then◌else◌, Option, Some, None, List, [], ◌∷◌, ◌++◌, length, take, drop, set, get_or, drop-cons, refl, sym, ap, ◌∙◌, arith}
use Rattle.std.proofs.lemmas.List.{take_more, take_more_set, take_all, take-append-drop, length-take-le, drop-drop}
use Rattle.std.proofs.lemmas.Slice.{between_to_end}
use Rattle.std.proofs.lemmas.Bool.{and_parts, or_cases, both_ways}
use Rattle.std.specs.List.{between, list_all, slice_get}
use Rattle.std.specs.Option.{option_map}
use Rattle.disk_definitions.specs.declared.directory.DirEntry.{DirEntry}
use Rattle.std.specs.Str.{bytes_eq}
use Rattle.disk_definitions.specs.Directories.{is_free_place, is_used_place, entry_fits, entry_fields, entries_in, name_in, place_of_name}
use Rattle.disk_definitions.proofs.Readings.{and_l, and_r}

-- one entry more
pub entries_more : (k : ℕ) (bytes : List ℕ) → entries_in (suc k) bytes ≡ entries_in k bytes ++ entry_fields (drop (k * 72) bytes) ∷ []
entries_more zero bytes = refl
entries_more (suc k) bytes =
    let place : drop (k * 72) (drop 72 bytes) ≡ drop (suc k * 72) bytes = drop-drop (k * 72) 72 bytes ∙ ap (λ (n : ℕ). drop n bytes) (omega arith) in
    ap (λ (es : List DirEntry). entry_fields bytes ∷ es) (entries_more k (drop 72 bytes) ∙ ap (λ (rest : List ℕ). entries_in k (drop 72 bytes) ++ entry_fields rest ∷ []) place)

-- the entry at a place joins those before it
pub entries_step : (es : List DirEntry) (k n : ℕ) (bytes : List ℕ) (e : DirEntry)
    → k < length es → take k es ≡ entries_in k bytes → e ≡ entry_fields (between (k * 72) n bytes) → length bytes ≤ n
    → take (k + 1) (set es k e) ≡ entries_in (k + 1) bytes
entries_step es k n bytes e below done is whole =
    let next : e ≡ entry_fields (drop (k * 72) bytes) = is ∙ ap entry_fields (between_to_end bytes (k * 72) n whole) in
    let one_more : suc k ≡ k + 1 = omega arith in
    take_more_set es k e below
    ∙ ap (λ (xs : List DirEntry). xs ++ e ∷ []) done
    ∙ ap (λ (x : DirEntry). entries_in k bytes ++ x ∷ []) next
    ∙ sym (entries_more k bytes)
    ∙ ap (λ (n : ℕ). entries_in n bytes) one_more

-- all seven
pub entries_all : (es : List DirEntry) (k : ℕ) (bytes : List ℕ) → length es ≡ 7 → k ≡ 7 → take k es ≡ entries_in k bytes → es ≡ entries_in 7 bytes
entries_all es k bytes n e done = sym (take_all k es (omega arith)) ∙ done ∙ ap (λ (m : ℕ). entries_in m bytes) e

-- a name that isn't found is neither the first entry's nor a later one's
not_first : (test : Bool) (later : Option ℕ) → (if test then Some 0 else option_map suc later) ≡ None → (test ≡ false) × (later ≡ None)
not_first true later h = (cc, cc)
not_first false None h = (refl, refl)
not_first false (Some n) h = (cc, cc)

-- the name isn't among the entries so far and the next
pub name_passed : (name : List ℕ) (xs : List DirEntry) (e : DirEntry) → place_of_name name xs ≡ None → bytes_eq (name_in e) name ≡ false
    → place_of_name name (xs ++ e ∷ []) ≡ None
name_passed name [] e h f = rw f refl
name_passed name (x ∷ xs) e h f =
    let p = not_first (bytes_eq (name_in x) name) (place_of_name name xs) h in
    rw (p.0, name_passed name xs e p.1 f) refl

-- the name isn't among the entries so far, and is the next one's
pub name_found : (name : List ℕ) (xs : List DirEntry) (e : DirEntry) (ys : List DirEntry) → place_of_name name xs ≡ None → bytes_eq (name_in e) name ≡ true
    → place_of_name name (xs ++ e ∷ ys) ≡ Some (length xs)
name_found name [] e ys h t = rw t refl
name_found name (x ∷ xs) e ys h t =
    let p = not_first (bytes_eq (name_in x) name) (place_of_name name xs) h in
    rw (p.0, name_found name xs e ys p.1 t) refl

-- what the comparison of a name said
compared_is : (e : DirEntry) (name a b : List ℕ) (r s : Bool) → a ≡ name_in e → b ≡ name → r ≡ bytes_eq a b → r ≡ s → bytes_eq (name_in e) name ≡ s
compared_is e name a b r s p q test is = cc

-- the entry at a place is the first of its name, where none before it is
pub found_there : (name : List ℕ) (es : List DirEntry) (d : DirEntry) (k : ℕ) (a b : List ℕ) (r : Bool) → k < length es
    → place_of_name name (take k es) ≡ None → a ≡ name_in (get_or es k d) → b ≡ name → r ≡ bytes_eq a b → r ≡ true
    → Some k ≡ place_of_name name es
found_there name es d k a b r below none is named test alike =
    let e = get_or es k d in
    let split : es ≡ take k es ++ e ∷ drop (suc k) es = sym (take-append-drop k es) ∙ ap (λ (rest : List DirEntry). take k es ++ rest) (drop-cons es k d below) in
    let found = name_found name (take k es) e (drop (suc k) es) none (compared_is e name a b r true is named test alike) in
    sym (ap (place_of_name name) split ∙ found ∙ ap (λ (n : ℕ). Some n) (length-take-le k es (omega arith)))

-- no entry so far has the name, where the next hasn't
pub passed_there : (name : List ℕ) (es : List DirEntry) (d : DirEntry) (k : ℕ) (a b : List ℕ) (r : Bool) → k < length es
    → place_of_name name (take k es) ≡ None → a ≡ name_in (get_or es k d) → b ≡ name → r ≡ bytes_eq a b → r ≡ false
    → place_of_name name (take (k + 1) es) ≡ None
passed_there name es d k a b r below none is named test apart =
    let e = get_or es k d in
    ap (place_of_name name) (take_more es k d below) ∙ name_passed name (take k es) e none (compared_is e name a b r false is named test apart)

-- a place is free exactly where its kind is 0
pub free_place : (e : DirEntry) → entry_fits e ≡ true → is_free_place e ≡ (e.kind == 0)
free_place e h = go (is_free_place e) refl
  where
    go : (b : Bool) → is_free_place e ≡ b → is_free_place e ≡ (e.kind == 0)
    go true f = f ∙ sym (let k : e.kind == 0 ≡ true = search (and_l, and_r) depth 8 in k)
    go false f = f ∙ ⊎_elim (λ t. absurd (both_ways (is_free_place e) f t)) (λ t. (
        let k : nat_le 1 e.kind ≡ true = search (and_l, and_r) depth 8 in
        let l : 1 ≤ e.kind = leb-true 1 e.kind k in
        sym (ne_eqb e.kind 0 (λ z. omega arith)))) (or_cases (is_free_place e) (is_used_place e) h)

-- each place of a sector fits
pub entry_of_list : (xs : List DirEntry) (q : ℕ) (e : DirEntry) → list_all entry_fits xs ≡ true → slice_get xs q ≡ Some e → entry_fits e ≡ true
entry_of_list [] q e h g = absurd (cc)
entry_of_list (x ∷ xs) zero e h g = let s : x ≡ e = cc in subst (λ e. entry_fits e ≡ true) s (and_parts (entry_fits x) (list_all entry_fits xs) h).0
entry_of_list (x ∷ xs) (suc q) e h g = entry_of_list xs q e (and_parts (entry_fits x) (list_all entry_fits xs) h).1 g
