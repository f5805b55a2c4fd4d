-- The byte of a file that its inode leads to is that of its naming.
use Rattle.std.proofs.Common.{ℕ, ◌≡◌, ◌<◌, ◌≤◌, ◌+◌, ◌-◌, ◌*◌, ◌/◌, ◌%◌, Bool, true, false, nat_lt, List, length, refl, sym, ◌∙◌, ap, ap₂, arith}
use Rattle.std.proofs.lemmas.Bool.Decides.{nat_tests}
use Rattle.std.proofs.lemmas.Bool.{le-ltb, lt-ltb}
use Rattle.tree_definitions.specs.declared.cells.Cell.{Cell}
use Rattle.tree_definitions.specs.declared.node.Node.TheVariants.{File}
use Rattle.tree_definitions.specs.Tree.{small_blocks_of}
use Rattle.disk_definitions.specs.Store.{Store, byte_at}
use Rattle.disk_definitions.specs.Naming.{first_blocks, inode_of}
use Rattle.plan_laws.proofs.Bytes.{stored_byte}

module _ (s : Store) (stamp links when large : ℕ) (block : ℕ → ℕ) (cells : List Cell) where
  small_case : (j : ℕ) → j < length cells → j < 65536 → stored_byte s (inode_of stamp block large (File cells links when)) j ≡ s.byte (block (j / 4096)) (j % 4096)
  small_case j l m =
      let low : j / 512 < 128 = omega arith in
      let index : j / 512 / 8 ≡ j / 4096 = omega arith in
      let rest : 512 * (j / 512 % 8) + j % 512 ≡ j % 4096 = omega arith in
      let inside : j / 4096 < small_blocks_of (length cells) = omega arith in
      let own : first_blocks (small_blocks_of (length cells)) block (j / 4096) ≡ block (j / 4096) = rw (lt-ltb (j / 4096) (small_blocks_of (length cells)) inside) refl in
      let part : j % 512 < 512 = omega arith in
      rw (lt-ltb (j / 512) 128 low, lt-ltb (j % 512) 512 part) (ap₂ (λ k r. s.byte k r) (ap (first_blocks (small_blocks_of (length cells)) block) index ∙ own) rest)

  large_case : (j : ℕ) → j < length cells → 65536 ≤ j → stored_byte s (inode_of stamp block large (File cells links when)) j ≡ s.large_byte large (j - 65536)
  large_case j l m =
      let high : 128 ≤ j / 512 = omega arith in
      let rest : 512 * (j / 512 - 128) + j % 512 ≡ j - 65536 = omega arith in
      let more : 65536 < length cells = omega arith in
      let less : large + 1 - 1 ≡ large = omega arith in
      let part : j % 512 < 512 = omega arith in
      rw (le-ltb (j / 512) 128 high, lt-ltb 65536 (length cells) more, lt-ltb (j % 512) 512 part) (ap₂ (λ k r. s.large_byte k r) less rest)

  pub stored_is : (j : ℕ) → j < length cells → stored_byte s (inode_of stamp block large (File cells links when)) j ≡ byte_at s block large j
  stored_is j l = go (nat_lt j 65536) refl
    where
      go : (b : Bool) → nat_lt j 65536 ≡ b → stored_byte s (inode_of stamp block large (File cells links when)) j ≡ byte_at s block large j
      go true e = small_case j l (grind (arith, nat_tests)) ∙ sym (rw e refl)
      go false e = large_case j l (grind (arith, nat_tests)) ∙ sym (rw e refl)
