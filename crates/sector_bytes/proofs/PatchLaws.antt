-- Patches laid over the old block give the new one from place 8 on; there are none exactly where nothing differs or is forced; they ascend
-- and don't touch.
use Rattle.std.proofs.Common.{◌≡◌, ◌≢◌, ◌↔◌, ℕ, suc, ◌+◌, ◌-◌, ◌^◌, ◌<◌, ◌≤◌, Bool, true, false, ◌&&◌, ◌||◌, ◌==◌, not, inl, inr, Result, IfOk, nat_le, nat_lt, List, [], ◌∷◌, ◌++◌, length, take, drop, refl, sym, ap, ◌∙◌, subst, append_assoc, arith, length-append, length-drop}
use Rattle.std.proofs.lemmas.Bool.{and_parts, not-true, or_right, true≢false, cases_eq, eq-eqb, lt-ltb, le-leb, eqb-false, eqb-true}
use Rattle.std.proofs.lemmas.Bool.Decides.{nat_tests}
use Rattle.std.proofs.lemmas.List.{take_at, drop_at, drop-drop, take-append-drop, length-take-le}
use Rattle.frang_base.specs.declared.change.Patch.{Patch}
use Rattle.frang_base.specs.declared.change.Change.{Change}
use Rattle.byteorder.specs.Endian.{little_bytes}
use Rattle.sector_bytes.specs.Blocks.{overwritten, patched, spelling}
use Rattle.sector_bytes.specs.Changes.{changed}
use Rattle.frang_base.proofs.Basics.{by_test}
use Rattle.sector_bytes.specs.Patches.{joined, runs_from, patches_with, patches_of, are_apart, differ_or, are_new_or, are_new, is_patched}

-- bytes laid over what stands behind a front
laid : (pre old bytes : List ℕ) (at : ℕ) → length pre ≡ at → overwritten (pre ++ old) at bytes ≡ pre ++ (bytes ++ drop (length bytes) old)
laid pre old bytes at h =
    let front : take at (pre ++ old) ≡ pre = take_at pre old at h in
    let back : drop (at + length bytes) (pre ++ old) ≡ drop (length bytes) old = sym (drop-drop (length bytes) at (pre ++ old)) ∙ ap (drop (length bytes)) (drop_at pre old at h) in
    rw (front, back) (append_assoc pre bytes (drop (length bytes) old))

one_longer : (pre : List ℕ) (b at : ℕ) → length pre ≡ at → length (pre ++ b ∷ []) ≡ at + 1
one_longer pre b at h = length-append pre (b ∷ []) ∙ omega arith

-- a run that begins one place earlier does what its first byte and the run do
one_more : (pre old bytes : List ℕ) (a b at : ℕ) → length pre ≡ at → overwritten (pre ++ a ∷ old) at (b ∷ bytes) ≡ overwritten (pre ++ b ∷ old) (at + 1) bytes
one_more pre old bytes a b at h =
    laid pre (a ∷ old) (b ∷ bytes) at h
    ∙ sym (ap (λ (z : List ℕ). overwritten z (at + 1) bytes) (sym (append_assoc pre (b ∷ []) old)) ∙ laid (pre ++ b ∷ []) old bytes (at + 1) (one_longer pre b at h) ∙ append_assoc pre (b ∷ []) (bytes ++ drop (length bytes) old))

-- so do the runs behind a byte that joins them
joined_laid : (ps : List Patch) (pre old : List ℕ) (a b at : ℕ) → length pre ≡ at → patched (joined at b ps) (pre ++ a ∷ old) ≡ patched ps (pre ++ b ∷ old)
joined_laid [] pre old a b at h = laid pre (a ∷ old) (b ∷ []) at h
joined_laid (p ∷ ps) pre old a b at h =
    by_test (λ (rs : List Patch). patched rs (pre ++ a ∷ old) ≡ patched (p ∷ ps) (pre ++ b ∷ old))
    (record { at = at; bytes = b ∷ p.bytes } ∷ ps) (record { at = at; bytes = b ∷ [] } ∷ p ∷ ps) (p.at == at + 1)
    (λ t. ap (patched ps) (one_more pre old p.bytes a b at h ∙ ap (λ (k : ℕ). overwritten (pre ++ b ∷ old) k p.bytes) (sym (eqb-true p.at (at + 1) t))))
    (λ t. ap (patched (p ∷ ps)) (laid pre (a ∷ old) (b ∷ []) at h))

-- laid over the old bytes the runs give the new ones
pub runs_laid : (forced : ℕ → Bool) (old new pre : List ℕ) (at : ℕ) → length pre ≡ at → length old ≡ length new → patched (runs_from forced at old new) (pre ++ old) ≡ pre ++ new
runs_laid forced [] [] pre at h l = refl
runs_laid forced [] (b ∷ new) pre at h l = absurd (omega arith)
runs_laid forced (a ∷ old) [] pre at h l = absurd (omega arith)
runs_laid forced (a ∷ old) (b ∷ new) pre at h l =
    let runs = runs_from forced (at + 1) old new in
    let behind : (x : ℕ) → patched runs (pre ++ x ∷ old) ≡ pre ++ x ∷ new = λ x.
    ap (patched runs) (sym (append_assoc pre (x ∷ []) old)) ∙ runs_laid forced old new (pre ++ x ∷ []) (at + 1) (one_longer pre x at h) (omega arith) ∙ append_assoc pre (x ∷ []) new in
    by_test (λ (rs : List Patch). patched rs (pre ++ a ∷ old) ≡ pre ++ b ∷ new) runs (joined at b runs) (not (forced at) && a == b)
    (λ t. behind a ∙ ap (λ (x : ℕ). pre ++ x ∷ new) (eqb-true a b (and_parts (not (forced at)) (a == b) t).1))
    (λ t. joined_laid runs pre old a b at h ∙ behind b)

-- laid over the old block the patches give the new one from place 8 on
pub forced_patches_laid : (forced : ℕ → Bool) (old new : List ℕ) → 8 ≤ length old → length old ≡ length new → patched (patches_with forced old new) old ≡ take 8 old ++ drop 8 new
forced_patches_laid forced old new h l =
    ap (patched (patches_with forced old new)) (sym (take-append-drop 8 old))
    ∙ runs_laid forced (drop 8 old) (drop 8 new) (take 8 old) 8 (length-take-le 8 old h) (length-drop 8 old ∙ ap (λ (n : ℕ). n - 8) l ∙ sym (length-drop 8 new))

pub patches_laid : (old new : List ℕ) → 8 ≤ length old → length old ≡ length new → patched (patches_of old new) old ≡ take 8 old ++ drop 8 new
patches_laid = forced_patches_laid (λ at. false)

-- no place from one on is forced, for so many places
abbrev Unforced : (ℕ → Bool) → ℕ → ℕ → Type 0
Unforced forced at n = (k : ℕ) → at ≤ k → k < at + n → forced k ≡ false

runs_of_same : (forced : ℕ → Bool) (xs : List ℕ) (at : ℕ) → Unforced forced at (length xs) → runs_from forced at xs xs ≡ []
runs_of_same forced [] at f = refl
runs_of_same forced (x ∷ xs) at f =
    rw (f at (omega arith) (omega arith), eq-eqb x x refl) (runs_of_same forced xs (at + 1) (λ k g h. f k (omega arith) (omega arith)))

-- a byte that joins runs leaves one at least
joined_some : (at b : ℕ) (ps : List Patch) → joined at b ps ≢ []
joined_some at b [] e = cc
joined_some at b (p ∷ ps) e = by_test (λ (rs : List Patch). rs ≡ [] → ⊥) (record { at = at; bytes = b ∷ p.bytes } ∷ ps) (record { at = at; bytes = b ∷ [] } ∷ p ∷ ps) (p.at == at + 1) (λ t q. cc) (λ t q. cc) e

-- where there are no runs, no place is forced
unforced_next : (forced : ℕ → Bool) (at n : ℕ) → not (forced at) ≡ true → Unforced forced (at + 1) n → Unforced forced at (suc n)
unforced_next forced at n t f k g h = elim (cases_eq at k) [ inl e ↦ ap forced (sym e) ∙ not-true (forced at) t | inr d ↦ f k (omega arith) (omega arith) ]

unforced : (forced : ℕ → Bool) (old new : List ℕ) (at : ℕ) → length old ≡ length new → runs_from forced at old new ≡ [] → Unforced forced at (length old)
unforced forced [] new at l e = λ k g h. absurd (omega arith)
unforced forced (a ∷ old) [] at l e = absurd (omega arith)
unforced forced (a ∷ old) (b ∷ new) at l e =
    let runs = runs_from forced (at + 1) old new in
    by_test (λ (rs : List Patch). rs ≡ [] → Unforced forced at (suc (length old))) runs (joined at b runs) (not (forced at) && a == b)
    (λ t q. unforced_next forced at (length old) (and_parts (not (forced at)) (a == b) t).0 (unforced forced old new (at + 1) (omega arith) q))
    (λ t q. absurd (joined_some at b runs q))
    e

-- there are no patches exactly where the blocks are the same from place 8 on, and no place there is forced
pub no_forced_patches : (forced : ℕ → Bool) (old new : List ℕ) → 8 ≤ length old → length old ≡ length new
    → (patches_with forced old new ≡ []) ↔ ((drop 8 old ≡ drop 8 new) × ((k : ℕ) → 8 ≤ k → k < length old → forced k ≡ false))
no_forced_patches forced old new h l =
    let front : length (take 8 old) ≡ 8 = length-take-le 8 old h in
    let rest : length (drop 8 old) ≡ length old - 8 = length-drop 8 old in
    let both : length (drop 8 old) ≡ length (drop 8 new) = omega (arith, length-drop 8 new) in (
      λ e. let same : old ≡ take 8 old ++ drop 8 new = ap (λ (ps : List Patch). patched ps old) (sym e) ∙ forced_patches_laid forced old new h l in
          (ap (drop 8) same ∙ drop_at (take 8 old) (drop 8 new) 8 front, λ k g i. unforced forced (drop 8 old) (drop 8 new) 8 both e k g (omega arith)),
      λ e. ap (λ (xs : List ℕ). runs_from forced 8 (drop 8 old) xs) (sym e.0) ∙ runs_of_same forced (drop 8 old) 8 (λ k g i. e.1 k g (omega arith)),
    )

pub no_patches : (old new : List ℕ) → 8 ≤ length old → length old ≡ length new → (patches_of old new ≡ []) ↔ (drop 8 old ≡ drop 8 new)
no_patches old new h l =
    let both = no_forced_patches (λ at. false) old new h l in (λ e. (both.0 e).0, λ e. both.1 (e, λ k g i. refl))

-- a run that begins one place earlier is as far from those behind it
begun : (n from to at next : ℕ) (rest : ℕ → Bool) → from ≤ at → next ≡ at + 1 → (nat_le (at + 1) next && nat_le 1 n && nat_le (next + n) to && rest (next + n + 1)) ≡ true
    → (nat_le from at && nat_le 1 (suc n) && nat_le (at + suc n) to && rest (at + suc n + 1)) ≡ true
begun n from to at next rest h e t =
    let same : rest (next + n + 1) ≡ rest (at + suc n + 1) = ap rest (omega arith) in
    grind (arith, nat_tests, same)

-- a run of one byte doesn't touch one that begins further on
parted : (n from to at next : ℕ) (rest : ℕ → Bool) → from ≤ at → at < to → next ≢ at + 1 → (nat_le (at + 1) next && nat_le 1 n && nat_le (next + n) to && rest (next + n + 1)) ≡ true
    → (nat_le from at && nat_le 1 1 && nat_le (at + 1) to && (nat_le (at + 1 + 1) next && nat_le 1 n && nat_le (next + n) to && rest (next + n + 1))) ≡ true
parted n from to at next rest h g e t = grind (arith, nat_tests)

-- a byte that joins runs behind it leaves them apart
joined_apart : (ps : List Patch) (from to at b : ℕ) → from ≤ at → at < to → are_apart (at + 1) to ps ≡ true → are_apart from to (joined at b ps) ≡ true
joined_apart [] from to at b h g e = grind (arith, nat_tests)
joined_apart (p ∷ ps) from to at b h g e =
    by_test (λ (rs : List Patch). are_apart from to rs ≡ true) (record { at = at; bytes = b ∷ p.bytes } ∷ ps) (record { at = at; bytes = b ∷ [] } ∷ p ∷ ps) (p.at == at + 1)
    (λ t. begun (length p.bytes) from to at p.at (λ k. are_apart k to ps) h (eqb-true p.at (at + 1) t) e)
    (λ t. parted (length p.bytes) from to at p.at (λ k. are_apart k to ps) h g (eqb-false p.at (at + 1) t) e)

pub runs_apart : (forced : ℕ → Bool) (old new : List ℕ) (from to at : ℕ) → from ≤ at → at + length old ≤ to → are_apart from to (runs_from forced at old new) ≡ true
runs_apart forced [] new from to at h g = refl
runs_apart forced (a ∷ old) [] from to at h g = refl
runs_apart forced (a ∷ old) (b ∷ new) from to at h g =
    let runs = runs_from forced (at + 1) old new in
    by_test (λ (rs : List Patch). are_apart from to rs ≡ true) runs (joined at b runs) (not (forced at) && a == b)
    (λ t. runs_apart forced old new from to (at + 1) (omega arith) (omega arith))
    (λ t. joined_apart runs from to at b h (omega arith) (runs_apart forced old new (at + 1) to (at + 1) (omega arith) (omega arith)))

-- a number of eight bytes, spelled
eight : (a b c d e f g h i j k l m n o p : ℕ) → a ≡ i → b ≡ j → c ≡ k → d ≡ l → e ≡ m → f ≡ n → g ≡ o → h ≡ p
    → a ∷ b ∷ c ∷ d ∷ e ∷ f ∷ g ∷ h ∷ [] ≡ i ∷ j ∷ k ∷ l ∷ m ∷ n ∷ o ∷ p ∷ []
eight a b c d e f g h i j k l m n o p q1 q2 q3 q4 q5 q6 q7 q8 = cc

pub spelled_version : (n : ℕ) → n < 256 ^ 8 → spelling 7 n ≡ little_bytes 8 n
spelled_version n h = eight _ _ _ _ _ _ _ _ _ _ _ _ _ _ _ _ refl refl (omega arith) (omega arith) (omega arith) (omega arith) (omega arith) (omega arith)

-- a change with these patches and the version of the new block makes the new block of the old one
pub edited_by_forced_patches : (forced : ℕ → Bool) (x : Change) (old new : List ℕ) → 8 ≤ length old → length old ≡ length new → x.patches ≡ patches_with forced old new → spelling 7 x.version ≡ take 8 new → changed old x ≡ new
unfolding changed
edited_by_forced_patches forced x old new h l p v =
    let rest : drop 8 (patched x.patches old) ≡ drop 8 new =
    ap (λ (ps : List Patch). drop 8 (patched ps old)) p ∙ ap (drop 8) (forced_patches_laid forced old new h l) ∙ drop_at (take 8 old) (drop 8 new) 8 (length-take-le 8 old h) in
    ap (λ (xs : List ℕ). xs ++ drop 8 (patched x.patches old)) v ∙ ap (λ (xs : List ℕ). take 8 new ++ xs) rest ∙ take-append-drop 8 new

pub edited_by_patches : (x : Change) (old new : List ℕ) → 8 ≤ length old → length old ≡ length new → x.patches ≡ patches_of old new → spelling 7 x.version ≡ take 8 new → changed old x ≡ new
edited_by_patches = edited_by_forced_patches (λ at. false)

-- the patches between blocks of 512 bytes lie behind the version, ascend and don't touch
pub forced_patches_apart : (forced : ℕ → Bool) (old new : List ℕ) → length old ≡ 512 → are_apart 8 512 (patches_with forced old new) ≡ true
forced_patches_apart forced old new h = runs_apart forced (drop 8 old) (drop 8 new) 8 512 8 (omega arith) (omega (arith, length-drop 8 old))

pub patches_apart : (old new : List ℕ) → length old ≡ 512 → are_apart 8 512 (patches_of old new) ≡ true
patches_apart = forced_patches_apart (λ at. false)

-- what stands behind a front of that length
behind_front : (pre old : List ℕ) (a at : ℕ) → length pre ≡ at → drop (at + 1) (pre ++ a ∷ old) ≡ old
behind_front pre old a at h = ap (drop (at + 1)) (sym (append_assoc pre (a ∷ []) old)) ∙ drop_at (pre ++ a ∷ []) old (at + 1) (one_longer pre a at h)

-- a byte that differs or is forced, in front of bytes that do or are
one_new : (forced : ℕ → Bool) (whole old bytes : List ℕ) (a b at : ℕ) (rest : Bool) → drop at whole ≡ a ∷ old → (not (forced at) && a == b) ≡ false → differ_or forced (at + 1) old bytes ≡ true → rest ≡ true
    → (differ_or forced at (drop at whole) (b ∷ bytes) && rest) ≡ true
one_new forced whole old bytes a b at rest h d e r = rw (h, e, r) (new_or (forced at) (a == b) d)
  where
    new_or : (f s : Bool) → (not f && s) ≡ false → (((f || not s) && true) && true) ≡ true
    new_or true s d = refl
    new_or false true d = cc
    new_or false false d = refl

joined_new : (forced : ℕ → Bool) (ps : List Patch) (pre old : List ℕ) (a b at : ℕ) → length pre ≡ at → (not (forced at) && a == b) ≡ false → are_new_or forced (pre ++ a ∷ old) ps ≡ true
    → are_new_or forced (pre ++ a ∷ old) (joined at b ps) ≡ true
joined_new forced [] pre old a b at h d e = one_new forced (pre ++ a ∷ old) old [] a b at true (drop_at pre (a ∷ old) at h) d refl refl
joined_new forced (p ∷ ps) pre old a b at h d e =
    let whole = pre ++ a ∷ old in
    let parts = and_parts (differ_or forced p.at (drop p.at whole) p.bytes) (are_new_or forced whole ps) e in
    by_test (λ (rs : List Patch). are_new_or forced whole rs ≡ true) (record { at = at; bytes = b ∷ p.bytes } ∷ ps) (record { at = at; bytes = b ∷ [] } ∷ p ∷ ps) (p.at == at + 1)
    (λ t. let behind : differ_or forced (at + 1) old p.bytes ≡ true =
    sym (ap (λ (k : ℕ). differ_or forced k (drop k whole) p.bytes) (eqb-true p.at (at + 1) t) ∙ ap (λ (xs : List ℕ). differ_or forced (at + 1) xs p.bytes) (behind_front pre old a at h)) ∙ parts.0 in
    one_new forced whole old p.bytes a b at (are_new_or forced whole ps) (drop_at pre (a ∷ old) at h) d behind parts.1)
    (λ t. one_new forced whole old [] a b at (are_new_or forced whole (p ∷ ps)) (drop_at pre (a ∷ old) at h) d refl e)

runs_new : (forced : ℕ → Bool) (old new pre : List ℕ) (at : ℕ) → length pre ≡ at → are_new_or forced (pre ++ old) (runs_from forced at old new) ≡ true
runs_new forced [] new pre at h = refl
runs_new forced (a ∷ old) [] pre at h = refl
runs_new forced (a ∷ old) (b ∷ new) pre at h =
    let runs = runs_from forced (at + 1) old new in
    let behind : are_new_or forced (pre ++ a ∷ old) runs ≡ true =
    ap (λ (xs : List ℕ). are_new_or forced xs runs) (sym (append_assoc pre (a ∷ []) old)) ∙ runs_new forced old new (pre ++ a ∷ []) (at + 1) (one_longer pre a at h) in
    by_test (λ (rs : List Patch). are_new_or forced (pre ++ a ∷ old) rs ≡ true) runs (joined at b runs) (not (forced at) && a == b)
    (λ t. behind)
    (λ t. joined_new forced runs pre old a b at h t behind)

-- each patched byte differs from the old one or stands at a forced place
pub forced_patches_new : (forced : ℕ → Bool) (old new : List ℕ) → 8 ≤ length old → are_new_or forced old (patches_with forced old new) ≡ true
forced_patches_new forced old new h =
    ap (λ (xs : List ℕ). are_new_or forced xs (patches_with forced old new)) (sym (take-append-drop 8 old)) ∙ runs_new forced (drop 8 old) (drop 8 new) (take 8 old) 8 (length-take-le 8 old h)

pub patches_new : (old new : List ℕ) → 8 ≤ length old → are_new old (patches_of old new) ≡ true
patches_new = forced_patches_new (λ at. false)

-- a byte that joins runs is patched, and what they patched still is
begun_patched : (k at n next : ℕ) (rest : Bool) → next ≡ at + 1 → ((nat_le next k && nat_lt k (next + n)) || rest) ≡ true → ((nat_le at k && nat_lt k (at + suc n)) || rest) ≡ true
begun_patched k at n next true e h = or_right (nat_le at k && nat_lt k (at + suc n)) true refl
begun_patched k at n next false e h = grind (arith, nat_tests)

first_patched : (at n : ℕ) (rest : Bool) → ((nat_le at at && nat_lt at (at + suc n)) || rest) ≡ true
first_patched at n rest = rw (le-leb at at (omega arith), lt-ltb at (at + suc n) (omega arith)) refl

joined_at : (ps : List Patch) (at b : ℕ) → is_patched at (joined at b ps) ≡ true
joined_at [] at b = first_patched at 0 false
joined_at (p ∷ ps) at b =
    by_test (λ (rs : List Patch). is_patched at rs ≡ true) (record { at = at; bytes = b ∷ p.bytes } ∷ ps) (record { at = at; bytes = b ∷ [] } ∷ p ∷ ps) (p.at == at + 1)
    (λ t. first_patched at (length p.bytes) (is_patched at ps))
    (λ t. first_patched at 0 (is_patched at (p ∷ ps)))

joined_keeps : (ps : List Patch) (k at b : ℕ) → is_patched k ps ≡ true → is_patched k (joined at b ps) ≡ true
joined_keeps [] k at b h = cc
joined_keeps (p ∷ ps) k at b h =
    by_test (λ (rs : List Patch). is_patched k rs ≡ true) (record { at = at; bytes = b ∷ p.bytes } ∷ ps) (record { at = at; bytes = b ∷ [] } ∷ p ∷ ps) (p.at == at + 1)
    (λ t. begun_patched k at (length p.bytes) p.at (is_patched k ps) (eqb-true p.at (at + 1) t) h)
    (λ t. or_right (nat_le at k && nat_lt k (at + 1)) (is_patched k (p ∷ ps)) h)

runs_patched : (forced : ℕ → Bool) (old new : List ℕ) (at k : ℕ) → length old ≡ length new → at ≤ k → k < at + length old → forced k ≡ true → is_patched k (runs_from forced at old new) ≡ true
runs_patched forced [] new at k l g h f = absurd (omega arith)
runs_patched forced (a ∷ old) [] at k l g h f = absurd (omega arith)
runs_patched forced (a ∷ old) (b ∷ new) at k l g h f =
    let runs = runs_from forced (at + 1) old new in
    let later : at ≢ k → is_patched k runs ≡ true = λ d. runs_patched forced old new (at + 1) k (omega arith) (omega arith) (omega arith) f in
    by_test (λ (rs : List Patch). is_patched k rs ≡ true) runs (joined at b runs) (not (forced at) && a == b)
    (λ t. later (λ q. absurd (true≢false (sym f ∙ ap forced (sym q) ∙ not-true (forced at) (and_parts (not (forced at)) (a == b) t).0))))
    (λ t. elim (cases_eq at k) [ inl e ↦ subst (λ (i : ℕ). is_patched i (joined at b runs) ≡ true) e (joined_at runs at b) | inr d ↦ joined_keeps runs k at b (later d) ])

-- each forced place behind the version is patched
pub forced_patched : (forced : ℕ → Bool) (old new : List ℕ) (k : ℕ) → length old ≡ length new → 8 ≤ k → k < length old → forced k ≡ true → is_patched k (patches_with forced old new) ≡ true
forced_patched forced old new k l g h f =
    runs_patched forced (drop 8 old) (drop 8 new) 8 k (length-drop 8 old ∙ ap (λ (n : ℕ). n - 8) l ∙ sym (length-drop 8 new)) g (omega (arith, length-drop 8 old)) f

-- patches between blocks are those between equal ones
pub same_forced_patches : {E : Type 0} (r : Result (List Patch) E) (forced : ℕ → Bool) (before after old new : List ℕ) → before ≡ old → after ≡ new
    → IfOk r (λ ps. ps ≡ patches_with forced before after) → IfOk r (λ ps. ps ≡ patches_with forced old new)
same_forced_patches r forced before after old new b a h =
    subst (λ (zs : List ℕ). IfOk r (λ ps. ps ≡ patches_with forced old zs)) a (subst (λ (zs : List ℕ). IfOk r (λ ps. ps ≡ patches_with forced zs after)) b h)

pub same_patches : {E : Type 0} (r : Result (List Patch) E) (before after old new : List ℕ) → before ≡ old → after ≡ new → IfOk r (λ ps. ps ≡ patches_of before after) → IfOk r (λ ps. ps ≡ patches_of old new)
same_patches r = same_forced_patches r (λ at. false)
