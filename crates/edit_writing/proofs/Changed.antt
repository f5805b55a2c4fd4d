-- The change of a sector by its own block, and the versions of the sectors that are changed.
use Rattle.std.proofs.Common.{◌≡◌, ◌<◌, ◌+◌, ◌++◌, ℕ, Bool, true, Option, Some, None, List, [], ◌∷◌, fold, length, drop, slice_index_or, drop-cons, add-one, append_assoc, append-nil, refl, sym, subst, ap, ◌∙◌}
use Rattle.std.proofs.Math.Path.{fun_ext}
use Rattle.std.proofs.lemmas.List.Elements.{All-nil, All-head, All-tail, All-drop}
use Rattle.std.proofs.lemmas.List.{drop-map}
use Rattle.std.proofs.lemmas.List.Sums.{AllPass-from_list_all, list_all-from_AllPass}
use Rattle.std.proofs.lemmas.Map.Views.{All-keys-insert_entry}
use Rattle.std.specs.List.{All, cons_option, filter_map, list_all}
use Rattle.std.specs.Map.{keys_of}
use Rattle.std.specs.Ordering.{nat_cmp}
use Rattle.sector_bytes.specs.Bytes.{number_at}
use Rattle.sector_bytes.specs.Patches.{patches_with}
use Rattle.sector_bytes.specs.Sectors.{Sectors}
use Rattle.disk_definitions.specs.Standing.{version_at}
use Rattle.disk_definitions.specs.Edits.{Edit}
use Rattle.disk_definitions.specs.Written.{all_edited, change_by, change_of, edited_sectors, forced_in, with_number}
use Rattle.edit_writing.specs.Sectors.{edited_at}

all_edited_at : (sectors : Sectors) (edits : List Edit) (sector : ℕ) → all_edited sectors edits sector ≡ fold (edited_at sector) (sectors sector) edits
all_edited_at sectors [] sector = refl
all_edited_at sectors (e ∷ edits) sector = all_edited_at (edited_sectors sectors e) edits sector

pub same_change : (sectors : Sectors) (edits : List Edit) (sector : ℕ) (old new : List ℕ) (forced : ℕ → Bool) → ((at : ℕ) → forced at ≡ forced_in edits sector at)
    → old ≡ sectors sector → new ≡ fold (edited_at sector) old edits
    → change_by sector (number_at 8 0 old + 1) (patches_with forced old new) ≡ change_of edits sectors (all_edited sectors edits) sector
same_change sectors edits sector old new forced f o n =
    ap (λ (b : List ℕ). change_by sector (number_at 8 0 b + 1) (patches_with forced b new)) o
    ∙ ap (λ (b : List ℕ). change_by sector (version_at sectors sector + 1) (patches_with forced (sectors sector) b)) (n ∙ ap (λ (b : List ℕ). fold (edited_at sector) b edits) o ∙ sym (all_edited_at sectors edits sector))
    ∙ ap (λ (p : ℕ → Bool). change_by sector (version_at sectors sector + 1) (patches_with p (sectors sector) (all_edited sectors edits sector))) (fun_ext f)

-- what holds of each number holds of each once they are put in order
numbers_all : (test : ℕ → Bool) (m : List (ℕ × ℕ)) (ns : List ℕ) → All (λ n. test n ≡ true) (keys_of m) → All (λ n. test n ≡ true) ns → All (λ n. test n ≡ true) (keys_of (fold with_number m ns))
numbers_all test m [] h all = h
numbers_all test m (n ∷ ns) h all =
    let P = λ (n : ℕ). test n ≡ true in
    numbers_all test (with_number m n) ns (All-keys-insert_entry nat_cmp n 0 P m h (All-head P n ns all)) (All-tail P n ns all)

pub ordered_all : (test : ℕ → Bool) (ns : List ℕ) (m : List (ℕ × ℕ)) → m ≡ fold with_number [] ns → list_all test ns ≡ true → list_all test (keys_of m) ≡ true
ordered_all test ns m e all =
    subst (λ m. list_all test (keys_of m) ≡ true) (sym e)
    (list_all-from_AllPass test (keys_of (fold with_number [] ns)) (numbers_all test [] ns (All-nil (λ n. test n ≡ true)) (AllPass-from_list_all test ns all)))

-- ---- the turn of the loop over the sectors

-- one entry more, by its place
pub next_key : (entries : List (ℕ × ℕ)) (i : ℕ) → i < length entries → keys_of (drop i entries) ≡ (slice_index_or entries i (0, 0)).0 ∷ keys_of (drop (i + 1) entries)
next_key entries i l = ap (λ (es : List (ℕ × ℕ)). keys_of es) (drop-cons entries i (0, 0) l) ∙ ap (λ (k : ℕ). (slice_index_or entries i (0, 0)).0 ∷ keys_of (drop k entries)) (sym (add-one i))

pub key_passes : (test : ℕ → Bool) (entries : List (ℕ × ℕ)) (i : ℕ) → i < length entries → list_all test (keys_of entries) ≡ true → test ((slice_index_or entries i (0, 0)).0) ≡ true
key_passes test entries i l all = All-head P ((slice_index_or entries i (0, 0)).0) (keys_of (drop (i + 1) entries)) (subst (All P) (next_key entries i l) rest)
  where
    P : ℕ → Type 0
    P n = test n ≡ true

    rest : All P (keys_of (drop i entries))
    rest = subst (All P) (drop-map (λ (e : ℕ × ℕ). e.0) i entries) (All-drop P i (keys_of entries) (AllPass-from_list_all test (keys_of entries) all))

-- what a sector gives, and then what the others give
pub turn : {A : Type 0} (f : ℕ → Option A) (done new : List A) (entries : List (ℕ × ℕ)) (i : ℕ) (goal : List A) → i < length entries
    → done ++ filter_map f (keys_of (drop i entries)) ≡ goal → new ≡ done ++ cons_option (f ((slice_index_or entries i (0, 0)).0)) [] → new ++ filter_map f (keys_of (drop (i + 1) entries)) ≡ goal
turn {A = A} f done new entries i goal l before e =
    ap (λ xs. xs ++ rest) e ∙ append_assoc done (cons_option (f k) []) rest ∙ ap (λ xs. done ++ xs) (one (f k)) ∙ sym (ap (λ ks. done ++ filter_map f ks) (next_key entries i l)) ∙ before
  where
    k : ℕ
    k = (slice_index_or entries i (0, 0)).0

    rest : List A
    rest = filter_map f (keys_of (drop (i + 1) entries))

    one : (o : Option A) → cons_option o [] ++ rest ≡ cons_option o rest
    one None = refl
    one (Some x) = refl

-- a sector with a change, and one without
pub turn_some : {A : Type 0} (f : ℕ → Option A) (done new : List A) (o : Option A) (a : A) (entries : List (ℕ × ℕ)) (i : ℕ) (goal : List A) → i < length entries
    → done ++ filter_map f (keys_of (drop i entries)) ≡ goal → o ≡ f ((slice_index_or entries i (0, 0)).0) → o ≡ Some a → new ≡ done ++ a ∷ [] → new ++ filter_map f (keys_of (drop (i + 1) entries)) ≡ goal
turn_some f done new o a entries i goal l before said is e = turn f done new entries i goal l before (e ∙ ap (λ o. done ++ cons_option o []) (sym is ∙ said))

pub turn_none : {A : Type 0} (f : ℕ → Option A) (done new : List A) (o : Option A) (entries : List (ℕ × ℕ)) (i : ℕ) (goal : List A) → i < length entries
    → done ++ filter_map f (keys_of (drop i entries)) ≡ goal → o ≡ f ((slice_index_or entries i (0, 0)).0) → o ≡ None → new ≡ done → new ++ filter_map f (keys_of (drop (i + 1) entries)) ≡ goal
turn_none f done new o entries i goal l before said is e = turn f done new entries i goal l before (e ∙ sym (append-nil done) ∙ ap (λ o. done ++ cons_option o []) (sym is ∙ said))
