-- The bytes of a file, from one of its sectors on, as they stand in its blocks.
use Rattle.std.proofs.Common.{ℕ, zero, suc, ◌≡◌, ◌<◌, ◌+◌, ◌-◌, ◌*◌, ◌/◌, ◌%◌, Bool, true, false, nat_lt, if◌then◌else◌, Some, List, [], ◌∷◌, ◌++◌, length, map, take, drop, refl, sym, ◌∙◌, ap, ap₂, subst, arith}
use Rattle.std.proofs.lemmas.List.{map-append}
use Rattle.std.specs.List.{slice_get}
use Rattle.tree_definitions.specs.declared.cells.Cell.{Cell}
use Rattle.tree_definitions.specs.Numbers.{below}
use Rattle.disk_definitions.specs.Store.{Store, StoredNode}
use Rattle.disk_definitions.specs.Naming.{Allows}
use Rattle.disk_definitions.specs.Ask.{Ask, part_of, run}
use Rattle.disk_definitions.specs.Plans.{Plan}
use Rattle.disk_definitions.specs.FilePlans.{read_sector, read_sectors}
use Rattle.disk_definitions.specs.Meets.{AllAllow}

-- n values, of the numbers from a on
abbrev pub values : (ℕ → ℕ) → ℕ → ℕ → List ℕ
values f a zero = []
values f a (suc n) = f a ∷ values f (a + 1) n

pub values_join : (f : ℕ → ℕ) (a n m : ℕ) → values f a n ++ values f (a + n) m ≡ values f a (n + m)
values_join f a zero m = let e : a + 0 ≡ a = omega arith in let d : 0 + m ≡ m = omega arith in rw (e, d) refl
values_join f a (suc n) m =
    let e : a + suc n ≡ a + 1 + n = omega arith in
    let d : suc n + m ≡ suc (n + m) = omega arith in
    rw (e, d) (ap (λ l. f a ∷ l) (values_join f (a + 1) n m))

pub values_below : (f : ℕ → ℕ) (n : ℕ) → map f (below n) ≡ values f 0 n
values_below f zero = refl
values_below f (suc n) =
    let e : n + 1 ≡ suc n = omega arith in
    let d : 0 + n ≡ n = omega arith in
    map-append f (below n) (n ∷ []) ∙ ap (λ l. l ++ f n ∷ []) (values_below f n) ∙ ap (λ k. values f 0 n ++ f k ∷ []) (sym d) ∙ values_join f 0 n 1 ∙ ap (values f 0) e

pub values_same : (f g : ℕ → ℕ) (a b n : ℕ) → ((j : ℕ) → j < n → f (a + j) ≡ g (b + j)) → values f a n ≡ values g b n
values_same f g a b zero h = refl
values_same f g a b (suc n) h =
    let c : a + 0 ≡ a = omega arith in
    let d : b + 0 ≡ b = omega arith in
    let here : f (a + 0) ≡ g (b + 0) = h 0 (omega arith) in
    ap₂ (λ x l. x ∷ l) (ap f (sym c) ∙ here ∙ ap g d) (values_same f g (a + 1) (b + 1) n (λ j l. let e : a + 1 + j ≡ a + (j + 1) = omega arith in let i : b + 1 + j ≡ b + (j + 1) = omega arith in ap f e ∙ h (j + 1) (omega arith) ∙ ap g (sym i)))

pub values_drop : (f : ℕ → ℕ) (k a n : ℕ) → drop k (values f a (k + n)) ≡ values f (a + k) n
values_drop f zero a n = let e : 0 + n ≡ n = omega arith in let d : a + 0 ≡ a = omega arith in rw (e, d) refl
values_drop f (suc k) a n =
    let e : suc k + n ≡ suc (k + n) = omega arith in
    let d : a + suc k ≡ a + 1 + k = omega arith in
    rw (e, d) (values_drop f k (a + 1) n)

pub values_take : (f : ℕ → ℕ) (k a n : ℕ) → take k (values f a (k + n)) ≡ values f a k
values_take f zero a n = refl
values_take f (suc k) a n = let e : suc k + n ≡ suc (k + n) = omega arith in rw e (ap (λ l. f a ∷ l) (values_take f k (a + 1) n))

-- cells allow the values from a on, where each allows that at its place
pub all_allow : (f : ℕ → ℕ) (cells : List Cell) (a : ℕ) → ((j : ℕ) (c : Cell) → slice_get cells j ≡ Some c → Allows c (f (a + j))) → AllAllow cells (values f a (length cells))
all_allow f [] a h = tt
all_allow f (c ∷ cells) a h =
    let e : a + 0 ≡ a = omega arith in
    (subst (λ k. Allows c (f k)) e (h 0 c refl), all_allow f cells (a + 1) (λ j d i. let k : a + suc j ≡ a + 1 + j = omega arith in subst (λ k. Allows d (f k)) k (h (suc j) d i)))

-- a sector of the file that this inode has, and its byte j
abbrev pub sector_at : Store → StoredNode → ℕ → ℕ → ℕ
sector_at s x t = if nat_lt t 128 then part_of s.byte (x.small (t / 8)) (t % 8) else part_of s.large_byte (x.large - 1) (t - 128)

abbrev pub stored_byte : Store → StoredNode → ℕ → ℕ
stored_byte s x j = sector_at s x (j / 512) (j % 512)

pub run-sector : {A : Type 0} (s : Store) (x : StoredNode) (t : ℕ) (next : (ℕ → ℕ) → Ask A) → run (read_sector x t next) s ≡ run (next (sector_at s x t)) s
run-sector s x t next = go (nat_lt t 128) refl
  where
    go : (b : Bool) → nat_lt t 128 ≡ b → run (read_sector x t next) s ≡ run (next (sector_at s x t)) s
    go true e = rw e refl
    go false e = rw e refl

one_sector : (s : Store) (x : StoredNode) (t : ℕ) → map (sector_at s x t) (below 512) ≡ values (stored_byte s x) (512 * t) 512
one_sector s x t = values_below (sector_at s x t) 512 ∙ values_same (sector_at s x t) (stored_byte s x) 0 (512 * t) 512
    (λ j l. let a : (512 * t + j) / 512 ≡ t = omega arith in let b : (512 * t + j) % 512 ≡ j = omega arith in let c : 0 + j ≡ j = omega arith in ap (sector_at s x t) c ∙ sym (ap₂ (λ k r. sector_at s x k r) a b))

pub run-sectors : (s : Store) (x : StoredNode) (t n : ℕ) (next : List ℕ → Ask Plan) → run (read_sectors x t n next) s ≡ run (next (values (stored_byte s x) (512 * t) (512 * n))) s
run-sectors s x t zero next = refl
run-sectors s x t (suc n) next =
    let e : 512 * (t + 1) ≡ 512 * t + 512 = omega arith in
    let d : 512 + 512 * n ≡ 512 * suc n = omega arith in
    run-sector s x t (λ bytes. read_sectors x (t + 1) n (λ more. next (map bytes (below 512) ++ more)))
    ∙ run-sectors s x (t + 1) n (λ more. next (map (sector_at s x t) (below 512) ++ more))
    ∙ ap (λ l. run (next l) s) (ap₂ (λ l a. l ++ values (stored_byte s x) a (512 * n)) (one_sector s x t) e ∙ values_join (stored_byte s x) (512 * t) 512 (512 * n) ∙ ap (values (stored_byte s x) (512 * t)) d)
