-- The runs of what is left are the one at its front and those behind it.
use Rattle.std.proofs.Common.{◌≡◌, ℕ, suc, ◌+◌, ◌-◌, ◌<◌, ◌≤◌, Bool, true, false, not, ◌&&◌, ◌==◌, if◌then◌else◌, List, [], ◌∷◌, ◌++◌, length, take, drop, slice_index, get_or, refl, sym, ap, ◌∙◌, append_assoc, arith, drop-cons, add-one}
use Rattle.std.proofs.lemmas.Bool.Decides.{nat_tests}
use Rattle.std.proofs.lemmas.List.{drop_all, drop-drop}
use Rattle.std.proofs.lemmas.Bool.{ne_eqb, eq-eqb}
use borrow.Rule.Slice.PartMut.{mid_of}
use Rattle.frang_base.specs.declared.change.Patch.{Patch}
use Rattle.frang_base.proofs.Basics.{by_test}
use Rattle.sector_bytes.specs.Patches.{joined, runs_from, are_apart}
use Rattle.sector_bytes.proofs.PatchLaws.{runs_apart}
use Rattle.block_patches.specs.Runs.{differing, run}

-- one place more, where the byte differs or is forced
pub differing_more : (forced : ℕ → Bool) (old new : List ℕ) (n : ℕ) → n < length old → n < length new → (not (forced n) && slice_index old n == slice_index new n) ≡ false
    → n + differing forced n (drop n old) (drop n new) ≡ n + 1 + differing forced (n + 1) (drop (n + 1) old) (drop (n + 1) new)
differing_more forced old new n h g d =
    let first : drop n old ≡ get_or old n 0 ∷ drop (suc n) old = drop-cons old n 0 h in
    let second : drop n new ≡ get_or new n 0 ∷ drop (suc n) new = drop-cons new n 0 g in
    rw (first, second, add-one n, d) (omega arith)

-- none more where it is left as it is
pub differing_left : (forced : ℕ → Bool) (old new : List ℕ) (n : ℕ) → n < length old → n < length new → (not (forced n) && slice_index old n == slice_index new n) ≡ true
    → differing forced n (drop n old) (drop n new) ≡ 0
differing_left forced old new n h g d =
    let first : drop n old ≡ get_or old n 0 ∷ drop (suc n) old = drop-cons old n 0 h in
    let second : drop n new ≡ get_or new n 0 ∷ drop (suc n) new = drop-cons new n 0 g in
    rw (first, second, d) refl

-- none at the end
pub differing_past : (forced : ℕ → Bool) (old new : List ℕ) (n : ℕ) → length old ≤ n → differing forced n (drop n old) (drop n new) ≡ 0
differing_past forced old new n h = ap (λ (xs : List ℕ). differing forced n xs (drop n new)) (drop_all n old h)

-- the first of runs that are apart begins no further in front
starts_behind : (p : Patch) (ps : List Patch) (from to : ℕ) → are_apart from to (p ∷ ps) ≡ true → from ≤ p.at
starts_behind p ps from to e = grind (arith, nat_tests)

-- a byte joins no run that begins further on
joined_apart_from : (ps : List Patch) (at to b : ℕ) → are_apart (at + 2) to ps ≡ true → joined at b ps ≡ record { at = at; bytes = b ∷ [] } ∷ ps
joined_apart_from [] at to b e = refl
joined_apart_from (p ∷ ps) at to b e =
    let behind : at + 2 ≤ p.at = starts_behind p ps (at + 2) to e in
    ap (λ (t : Bool). if t then record { at = at; bytes = b ∷ p.bytes } ∷ ps else record { at = at; bytes = b ∷ [] } ∷ p ∷ ps) (ne_eqb p.at (at + 1) (λ q. absurd (omega arith)))

-- a byte before a run that begins at the next place
joined_run : (bytes : List ℕ) (ps : List Patch) (at to b : ℕ) → are_apart (at + 2) to ps ≡ true → joined at b (run (at + 1) bytes ++ ps) ≡ run at (b ∷ bytes) ++ ps
joined_run [] ps at to b e = joined_apart_from ps at to b e
joined_run (c ∷ bytes) ps at to b e =
    ap (λ (t : Bool). if t then record { at = at; bytes = b ∷ c ∷ bytes } ∷ ps else record { at = at; bytes = b ∷ [] } ∷ record { at = at + 1; bytes = c ∷ bytes } ∷ ps) (eq-eqb (at + 1) (at + 1) refl)

-- the run at the front, and those behind the byte that ends it
abbrev split : (ℕ → Bool) → List ℕ → List ℕ → ℕ → ℕ → List Patch
split forced old new at n = run at (take n new) ++ runs_from forced (at + suc n) (drop (suc n) old) (drop (suc n) new)

runs_no_new : (forced : ℕ → Bool) (old : List ℕ) (at : ℕ) → runs_from forced at old [] ≡ []
runs_no_new forced [] at = refl
runs_no_new forced (a ∷ old) at = refl

split_left : (forced : ℕ → Bool) (old new : List ℕ) (a b at : ℕ) → (not (forced at) && a == b) ≡ true
    → runs_from forced at (a ∷ old) (b ∷ new) ≡ split forced (a ∷ old) (b ∷ new) at (differing forced at (a ∷ old) (b ∷ new))
split_left forced old new a b at t = rw (t, add-one at) refl

split_more : (forced : ℕ → Bool) (old new : List ℕ) (a b at : ℕ) → (not (forced at) && a == b) ≡ false → runs_from forced (at + 1) old new ≡ split forced old new (at + 1) (differing forced (at + 1) old new)
    → runs_from forced at (a ∷ old) (b ∷ new) ≡ split forced (a ∷ old) (b ∷ new) at (differing forced at (a ∷ old) (b ∷ new))
split_more forced old new a b at t h =
    let n = differing forced (at + 1) old new in
    let behind = runs_from forced (at + 1 + suc n) (drop (suc n) old) (drop (suc n) new) in
    let apart = runs_apart forced (drop (suc n) old) (drop (suc n) new) (at + 2) (at + 1 + suc n + length (drop (suc n) old)) (at + 1 + suc n) (omega arith) (omega arith) in
    let place : at + 1 + suc n ≡ at + suc (suc n) = omega arith in
    let long : joined at b (runs_from forced (at + 1) old new) ≡ run at (b ∷ take n new) ++ behind =
    ap (joined at b) h ∙ joined_run (take n new) behind at (at + 1 + suc n + length (drop (suc n) old)) b apart in
    rw t (long ∙ ap (λ (k : ℕ). run at (b ∷ take n new) ++ runs_from forced k (drop (suc n) old) (drop (suc n) new)) place)

pub runs_split : (forced : ℕ → Bool) (old new : List ℕ) (at : ℕ) → runs_from forced at old new ≡ split forced old new at (differing forced at old new)
runs_split forced [] new at = refl
runs_split forced (a ∷ old) [] at = sym (runs_no_new forced old (at + 1))
runs_split forced (a ∷ old) (b ∷ new) at =
    by_test (λ (k : ℕ). runs_from forced at (a ∷ old) (b ∷ new) ≡ split forced (a ∷ old) (b ∷ new) at (differing forced at (a ∷ old) (b ∷ new))) 0 0 (not (forced at) && a == b)
    (λ t. split_left forced old new a b at t)
    (λ t. split_more forced old new a b at t (runs_split forced old new (at + 1)))

-- one turn: the run at a place is added, and what is left begins behind the byte that ends it
pub turn : (forced : ℕ → Bool) (ps qs target : List Patch) (old new : List ℕ) (at end : ℕ) → end ≡ at + differing forced at (drop at old) (drop at new)
    → ps ++ runs_from forced at (drop at old) (drop at new) ≡ target → qs ≡ ps ++ run at (mid_of at (end - at) new)
    → qs ++ runs_from forced (end + 1) (drop (end + 1) old) (drop (end + 1) new) ≡ target
turn forced ps qs target old new at end d e q =
    let n = differing forced at (drop at old) (drop at new) in
    let bytes : mid_of at (end - at) new ≡ take n (drop at new) = ap (λ (k : ℕ). take k (drop at new)) (omega arith) in
    let place : at + suc n ≡ end + 1 = omega arith in
    let behind : runs_from forced (at + suc n) (drop (suc n) (drop at old)) (drop (suc n) (drop at new)) ≡ runs_from forced (end + 1) (drop (end + 1) old) (drop (end + 1) new) =
    ap (λ (xs : List ℕ). runs_from forced (at + suc n) xs (drop (suc n) (drop at new))) (drop-drop (suc n) at old) ∙ ap (runs_from forced (at + suc n) (drop (at + suc n) old)) (drop-drop (suc n) at new)
    ∙ ap (λ (k : ℕ). runs_from forced k (drop k old) (drop k new)) place in
    ap (λ (rs : List Patch). rs ++ runs_from forced (end + 1) (drop (end + 1) old) (drop (end + 1) new)) (q ∙ ap (λ (bs : List ℕ). ps ++ run at bs) bytes)
    ∙ append_assoc ps (run at (take n (drop at new))) (runs_from forced (end + 1) (drop (end + 1) old) (drop (end + 1) new))
    ∙ ap (λ (rs : List Patch). ps ++ (run at (take n (drop at new)) ++ rs)) (sym behind) ∙ ap (λ (rs : List Patch). ps ++ rs) (sym (runs_split forced (drop at old) (drop at new) at)) ∙ e
