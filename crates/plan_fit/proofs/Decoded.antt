-- The fields of an inode that is read from a sector of 512 bytes: what their bytes hold, and no more.
use Rattle.std.proofs.Common.{◌≡◌, ℕ, zero, suc, ◌^◌, ◌<◌, Some, List, [], ◌∷◌, ◌++◌, length, drop, slice_index, refl, sym, ap, ◌∙◌, arith, length-drop}
use Rattle.std.specs.List.{flat_map}
use Rattle.std.proofs.lemmas.List.{drop-drop}
use Rattle.byteorder.specs.Endian.{little_number, little_bytes}
use Rattle.disk_definitions.specs.declared.inode.Inode.{Inode}
use Rattle.sector_bytes.specs.Bytes.{zeros}
use Rattle.disk_definitions.specs.Inodes.{inode_bytes, inode_fits, inode_fields, inode_in, numbers_in}
use Rattle.disk_definitions.proofs.InodeLaws.{large_and_target, behind_birth, behind_small}
use Rattle.plan_fit.proofs.Grammar.{fits_back, fits_eight, fields_read, inode_is}

pub record IsDecoded (x : Inode) : Type 0 where
  pub birth : x.birth < 2 ^ 64
  pub small : (j : ℕ) → slice_index x.small j < 2 ^ 32
  pub small_len : length x.small ≡ 16
  pub large : x.large < 2 ^ 32
  pub when : x.when < 2 ^ 64
  pub target_len : length x.target ≡ 384

length_numbers_in : (n : ℕ) (bytes : List ℕ) → length (numbers_in n bytes) ≡ n
length_numbers_in zero bytes = refl
length_numbers_in (suc n) bytes = ap suc (length_numbers_in n (drop 4 bytes))

fits_four : (x : ℕ) (rest : List ℕ) → little_number 4 (little_bytes 4 x ++ rest) ≡ x → x < 2 ^ 32
fits_four x rest e = let h = fits_back 4 x rest (omega arith) e in omega arith

-- numbers that read back from their own bytes
numbers_fit : (xs rest : List ℕ) → numbers_in (length xs) (flat_map (little_bytes 4) xs ++ rest) ≡ xs → (j : ℕ) → slice_index xs j < 2 ^ 32
numbers_fit [] rest h j = omega arith
numbers_fit (x ∷ xs) rest h zero = let first : little_number 4 (little_bytes 4 x ++ (flat_map (little_bytes 4) xs ++ rest)) ≡ x = cc in fits_four x (flat_map (little_bytes 4) xs ++ rest) first
numbers_fit (x ∷ xs) rest h (suc j) = let others : numbers_in (length xs) (flat_map (little_bytes 4) xs ++ rest) ≡ xs = cc in numbers_fit xs rest others j

-- from its time on
time_at : (x : Inode) → length x.small ≡ 16 → drop 100 (inode_bytes x) ≡ little_bytes 8 x.when ++ zeros 20 ++ x.target
time_at x count = sym (drop-drop 68 32 (inode_bytes x)) ∙ sym (drop-drop 4 64 (drop 32 (inode_bytes x))) ∙ ap (drop 4) (behind_small x count)

pub decoded : (block : List ℕ) (x : Inode) → inode_in block ≡ Some x → length block ≡ 512 → IsDecoded x
decoded block x h whole =
    let from : inode_fields block ≡ x = fields_read inode_bytes inode_fits block (inode_fields block) x h in
    let is : inode_fields (inode_bytes x) ≡ x = inode_is block x h in
    let count : length x.small ≡ 16 = sym (ap (λ (y : Inode). length y.small) from) ∙ length_numbers_in 16 (drop 32 block) in
    let smalls : numbers_in 16 (drop 32 (inode_bytes x)) ≡ x.small = ap (λ (y : Inode). y.small) is in
    let larges : little_number 4 (drop 96 (inode_bytes x)) ≡ x.large = ap (λ (y : Inode). y.large) is in
    record {
      birth = fits_eight x.birth [] (ap (λ (y : Inode). y.birth) is);
      small = numbers_fit x.small (large_and_target x) (ap (λ (n : ℕ). numbers_in n (flat_map (little_bytes 4) x.small ++ large_and_target x)) count ∙ sym (ap (numbers_in 16) (behind_birth x)) ∙ smalls);
      small_len = count;
      large = fits_four x.large (little_bytes 8 x.when ++ zeros 20 ++ x.target) (sym (ap (little_number 4) (sym (drop-drop 64 32 (inode_bytes x)) ∙ behind_small x count)) ∙ larges);
      when = fits_eight x.when (zeros 20 ++ x.target) (sym (ap (little_number 8) (time_at x count)) ∙ ap (λ (y : Inode). y.when) is);
      target_len = sym (ap (λ (y : Inode). length y.target) from) ∙ length-drop 128 block ∙ omega (arith, whole);
    }
