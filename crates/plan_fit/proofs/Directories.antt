-- A directory's inode stays fit with another size, and with a block more.
use Rattle.std.proofs.Common.{◌≡◌, ℕ, ◌*◌, ◌^◌, ◌<◌, ◌≤◌, ⊎_elim, true, false, nat_le, Some, [], refl, arith, leb-true}
use Rattle.std.proofs.lemmas.Bool.{or_cases}
use Rattle.std.proofs.lemmas.Bool.Decides.{nat_tests}
use Rattle.disk_definitions.specs.declared.inode.Inode.{Inode}
use Rattle.sector_bytes.specs.Bytes.{zeros, are_zero}
use Rattle.disk_definitions.specs.Inodes.{is_directory_inode, is_link_inode}
use Rattle.disk_definitions.proofs.Readings.{and_l, and_r}
use Rattle.disk_definitions.proofs.Lists.{ends_at}
use Rattle.disk_definitions.proofs.WrittenFields.{zeros_are_zero}
use Rattle.disk_definitions.specs.Store.{StoredNode}
use Rattle.disk_definitions.specs.Written.{inode_with}
use Rattle.disk_definitions.specs.FitEdits.{IsFitNode}

-- no bytes of a target
pub untargeted : are_zero (zeros 384) ≡ true
untargeted = zeros_are_zero 384

-- the inode of a directory
abbrev pub directory : ℕ → ℕ → ℕ → (ℕ → ℕ) → StoredNode
directory size birth blocks small = record { kind = 2; links = 1; size = size; birth = birth; blocks = blocks; small = small; large = 0; when = 0; target = [] }

directory_reads : (x : Inode) → is_directory_inode x ≡ true → (x.blocks ≤ 16) × (x.size ≤ 56 * x.blocks)
directory_reads x h =
    let few : nat_le x.blocks 16 ≡ true = search (and_l, and_r) depth 12 in
    let size : nat_le x.size (56 * x.blocks) ≡ true = search (and_l, and_r) depth 12 in
    (leb-true x.blocks 16 few, leb-true x.size (56 * x.blocks) size)

pub directory_bounds : (size birth blocks : ℕ) (small : ℕ → ℕ) → IsFitNode (directory size birth blocks small) → (blocks ≤ 16) × (size ≤ 56 * blocks)
directory_bounds size birth blocks small h =
    let x = inode_with 0 (Some (directory size birth blocks small)) in
    ⊎_elim (λ e. directory_reads x e) (λ e. absurd (let z : is_link_inode x ≡ false = refl in cc)) (or_cases (is_directory_inode x) (is_link_inode x) h.fits)

pub directory_fits : (size birth blocks : ℕ) (small : ℕ → ℕ) → birth < 2 ^ 64 → ((j : ℕ) → small j < 2 ^ 32) → blocks ≤ 16 → size ≤ 56 * blocks → ((j : ℕ) → blocks ≤ j → small j ≡ 0) → IsFitNode (directory size birth blocks small)
directory_fits size birth blocks small old numbers few room ends =
    let a : nat_le blocks 16 ≡ true = grind (arith, nat_tests) in
    let b : nat_le size (56 * blocks) ≡ true = grind (arith, nat_tests) in
    record {
      fits = rw (a, b, ends_at small blocks ends, untargeted) refl;
      used = omega arith;
      birth = old;
      small = numbers;
      past = λ j l. ends j (omega arith);
      large = omega arith;
      when = omega arith;
      target = refl;
    }
