-- Inode sectors: what was written reads back, and a block is the sector of at most one inode.
use Rattle.std.proofs.Common.{◌≡◌, ℕ, zero, suc, ◌-◌, ◌*◌, ◌^◌, ◌<◌, ◌≤◌, IsTrue, Some, List, [], ◌∷◌, ◌++◌, length, take, drop, slice_index, refl, sym, ap, ◌∙◌, append_assoc, arith, length-append}
use Rattle.std.specs.List.{flat_map}
use Rattle.std.proofs.lemmas.List.{drop_at, drop-drop, drop-take, take-append-drop}
use Rattle.byteorder.specs.Endian.{little_number, little_bytes, IsRead}
use Rattle.byteorder.specs.Numbers.{little_number-reads_back, little_from-take}
use Rattle.tree_definitions.specs.Tree.{small_blocks_of}
use Rattle.disk_definitions.specs.declared.inode.Inode.{Inode}
use Rattle.sector_bytes.specs.Bytes.{number_at, zeros}
use Rattle.disk_definitions.specs.Inodes.{inode_bytes, inode_fits, inode_fields, inode_in, IsInodeSector, numbers_in}
use Rattle.disk_definitions.specs.Ranges.{InodeRange}
use Rattle.disk_definitions.proofs.WrittenFields.{length_zeros}
use Rattle.disk_definitions.proofs.Readings.{read_back, read_is}

-- an inode of these fields
abbrev inode : (version kind links blocks size birth : ℕ) (small : List ℕ) (large when : ℕ) (target : List ℕ) → Inode
inode version kind links blocks size birth small large when target =
    record { version = version; kind = kind; links = links; blocks = blocks; size = size; birth = birth; small = small; large = large; when = when; target = target }

-- inodes with the same fields are one
same_inode : (a b c d e f : ℕ) (g : List ℕ) (h i : ℕ) (j : List ℕ) (a' b' c' d' e' f' : ℕ) (g' : List ℕ) (h' i' : ℕ) (j' : List ℕ)
    → a ≡ a' → b ≡ b' → c ≡ c' → d ≡ d' → e ≡ e' → f ≡ f' → g ≡ g' → h ≡ h' → i ≡ i' → j ≡ j' → inode a b c d e f g h i j ≡ inode a' b' c' d' e' f' g' h' i' j'
same_inode a b c d e f g h i j a' b' c' d' e' f' g' h' i' j' q1 q2 q3 q4 q5 q6 q7 q8 q9 q10 = cc

pub same_fields : (x y : Inode) → x.version ≡ y.version → x.kind ≡ y.kind → x.links ≡ y.links → x.blocks ≡ y.blocks → x.size ≡ y.size → x.birth ≡ y.birth → x.small ≡ y.small → x.large ≡ y.large → x.when ≡ y.when → x.target ≡ y.target → x ≡ y
same_fields x y = same_inode x.version x.kind x.links x.blocks x.size x.birth x.small x.large x.when x.target y.version y.kind y.links y.blocks y.size y.birth y.small y.large y.when y.target

-- numbers of four bytes each read back
numbers_back : (xs rest : List ℕ) → ((i : ℕ) → slice_index xs i < 2 ^ 32) → numbers_in (length xs) (flat_map (little_bytes 4) xs ++ rest) ≡ xs
numbers_back [] rest h = refl
numbers_back (x ∷ xs) rest h =
    let first = little_number-reads_back 4 x (flat_map (little_bytes 4) xs ++ rest) (h 0) in
    ap (λ (y : ℕ). y ∷ numbers_in (length xs) (flat_map (little_bytes 4) xs ++ rest)) first ∙ ap (λ (ys : List ℕ). x ∷ ys) (numbers_back xs rest (λ i. h (suc i)))

pub length_numbers : (xs : List ℕ) → length (flat_map (little_bytes 4) xs) ≡ 4 * length xs
length_numbers [] = refl
length_numbers (x ∷ xs) = let h = length_numbers xs in omega arith

-- what stands behind the birth, and behind the small blocks
abbrev pub large_and_target : Inode → List ℕ
large_and_target x = little_bytes 4 x.large ++ little_bytes 8 x.when ++ zeros 20 ++ x.target

from_small : (xs ls ws zs ts : List ℕ) → (((xs ++ ls) ++ ws) ++ zs) ++ ts ≡ xs ++ (((ls ++ ws) ++ zs) ++ ts)
from_small xs ls ws zs ts = rw (append_assoc xs ls ws, append_assoc xs (ls ++ ws) zs, append_assoc xs ((ls ++ ws) ++ zs) ts) refl

pub behind_birth : (x : Inode) → drop 32 (inode_bytes x) ≡ flat_map (little_bytes 4) x.small ++ large_and_target x
behind_birth x = from_small (flat_map (little_bytes 4) x.small) (little_bytes 4 x.large) (little_bytes 8 x.when) (zeros 20) x.target

pub behind_small : (x : Inode) → length x.small ≡ 16 → drop 64 (drop 32 (inode_bytes x)) ≡ large_and_target x
behind_small x h = ap (drop 64) (behind_birth x) ∙ drop_at (flat_map (little_bytes 4) x.small) (large_and_target x) 64 (length_numbers x.small ∙ ap (λ (n : ℕ). 4 * n) h)

small_back : (x : Inode) → InodeRange x → numbers_in 16 (drop 32 (inode_bytes x)) ≡ x.small
small_back x r =
    ap (numbers_in 16) (behind_birth x) ∙ ap (λ (n : ℕ). numbers_in n (flat_map (little_bytes 4) x.small ++ large_and_target x)) (sym r.small_len) ∙ numbers_back x.small (large_and_target x) r.small

large_back : (x : Inode) → InodeRange x → number_at 4 96 (inode_bytes x) ≡ x.large
large_back x r = ap (little_number 4) (sym (drop-drop 64 32 (inode_bytes x)) ∙ behind_small x r.small_len) ∙ little_number-reads_back 4 x.large (little_bytes 8 x.when ++ zeros 20 ++ x.target) r.large

when_back : (x : Inode) → InodeRange x → number_at 8 100 (inode_bytes x) ≡ x.when
when_back x r =
    ap (little_number 8) (sym (drop-drop 68 32 (inode_bytes x)) ∙ sym (drop-drop 4 64 (drop 32 (inode_bytes x))) ∙ ap (drop 4) (behind_small x r.small_len))
    ∙ little_number-reads_back 8 x.when (zeros 20 ++ x.target) r.when

-- large block, time and zeros
length_middle : (large when : ℕ) → length (little_bytes 4 large ++ little_bytes 8 when ++ zeros 20) ≡ 32
length_middle large when = omega (arith, length_zeros 20)

target_back : (x : Inode) → InodeRange x → drop 128 (inode_bytes x) ≡ x.target
target_back x r =
    sym (drop-drop 96 32 (inode_bytes x)) ∙ sym (drop-drop 32 64 (drop 32 (inode_bytes x))) ∙ ap (drop 32) (behind_small x r.small_len) ∙ drop_at (little_bytes 4 x.large ++ little_bytes 8 x.when ++ zeros 20) x.target 32 (length_middle x.large x.when)

-- the fields of its bytes
pub fields_of_inode_bytes : (x : Inode) → InodeRange x → inode_fields (inode_bytes x) ≡ x
fields_of_inode_bytes x r =
    same_fields (inode_fields (inode_bytes x)) x
    (little_number-reads_back 8 x.version [] r.version)
    refl
    (little_number-reads_back 2 x.links [] r.links)
    (little_number-reads_back 2 x.blocks [] r.blocks)
    (little_number-reads_back 8 x.size [] r.size)
    (little_number-reads_back 8 x.birth [] r.birth)
    (small_back x r) (large_back x r) (when_back x r) (target_back x r)

-- what was written reads back
pub inode_back : (x : Inode) → InodeRange x → IsTrue (inode_fits x) → inode_in (inode_bytes x) ≡ Some x
inode_back x r h = read_back inode_bytes inode_fits (inode_fields (inode_bytes x)) x (fields_of_inode_bytes x r) h

-- what a block is read as, it is the sector of
pub inode_read : (block : List ℕ) (x : Inode) → inode_in block ≡ Some x → IsInodeSector block x
inode_read block x = read_is inode_bytes inode_fits block (inode_fields block) x

-- what a block is the sector of, it is read as
pub inode_found : (block : List ℕ) (x : Inode) → InodeRange x → IsInodeSector block x → inode_in block ≡ Some x
inode_found block x r h = ap inode_in h.0 ∙ inode_back x r h.1

-- a block is the sector of at most one inode
pub inode_once : (block : List ℕ) (x y : Inode) → InodeRange x → InodeRange y → IsInodeSector block x → IsInodeSector block y → x ≡ y
inode_once block x y r s h g = let e : Some x ≡ Some y = sym (inode_found block x r h) ∙ inode_found block y s g in cc

-- it has 512 bytes
pub length_inode_bytes : (x : Inode) → InodeRange x → length (inode_bytes x) ≡ 512
length_inode_bytes x r =
    sym (ap length (take-append-drop 32 (inode_bytes x))) ∙ length-append (take 32 (inode_bytes x)) (drop 32 (inode_bytes x)) ∙ omega (
      arith,
      ap length (behind_birth x) ∙ length-append (flat_map (little_bytes 4) x.small) (large_and_target x),
      length_numbers x.small,
      r.small_len,
      length-append (little_bytes 4 x.large ++ little_bytes 8 x.when ++ zeros 20) x.target,
      length_middle x.large x.when,
      r.target_len,
    )

-- numbers that were read one after the other
pub numbers_read : (n : ℕ) (src dst : List ℕ) → length dst ≡ n → IsRead little_number 4 src dst → dst ≡ numbers_in n src
numbers_read zero src [] h r = refl
numbers_read zero src (d ∷ ds) h r = absurd (omega arith)
numbers_read (suc n) src [] h r = absurd (omega arith)
numbers_read (suc n) src (d ∷ ds) h r =
    let rest : IsRead little_number 4 (drop 4 src) ds = λ k lt. r (suc k) (omega arith) ∙ ap (little_number 4) (ap (λ (i : ℕ). drop i src) (omega arith) ∙ sym (drop-drop (4 * k) 4 src)) in
    ap (λ (x : ℕ). x ∷ ds) (r 0 (omega arith)) ∙ ap (λ (xs : List ℕ). little_number 4 src ∷ xs) (numbers_read n (drop 4 src) ds (omega arith) rest)

-- numbers read no byte behind them
pub numbers_take : (n m : ℕ) (xs : List ℕ) → 4 * n ≤ m → numbers_in n (take m xs) ≡ numbers_in n xs
numbers_take zero m xs h = refl
numbers_take (suc n) m xs h =
    let first : little_number 4 (take m xs) ≡ little_number 4 xs = little_from-take 0 4 m xs (omega arith) in
    let rest : drop 4 (take m xs) ≡ take (m - 4) (drop 4 xs) = ap (λ (k : ℕ). drop 4 (take k xs)) (omega arith) ∙ drop-take 4 (m - 4) xs in
    ap (λ (x : ℕ). x ∷ numbers_in n (drop 4 (take m xs))) first ∙ ap (λ (ys : List ℕ). little_number 4 xs ∷ numbers_in n ys) rest
    ∙ ap (λ (ys : List ℕ). little_number 4 xs ∷ ys) (numbers_take n (m - 4) (drop 4 xs) (omega arith))

-- a file has at most 16 small blocks
pub few_blocks : (size : ℕ) → small_blocks_of size ≤ 16
few_blocks size = omega arith
