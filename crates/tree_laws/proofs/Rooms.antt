-- Two trees that take the same of the disk.
use Rattle.std.proofs.Common.{ℕ, ◌≡◌, ◌*◌, ◌+◌, ◌-◌, nat_le, nat_lt, false, cond, refl, ap₂}
use Rattle.frang_base.specs.declared.reply.Reply.{Reply}
use Rattle.frang_base.specs.declared.reply.Reply.TheVariants as reply
use Rattle.tree_definitions.specs.Entries.{Entries}
use Rattle.tree_definitions.specs.Tree.{FileTree, count_of, file_blocks, inodes_full, larges_full, must_grow, lacks_block}
use Rattle.tree_definitions.specs.History.{told_blocks}
use Rattle.tree_laws.specs.Rooms.{SameRoom}

module _ (one two : FileTree) (s : SameRoom one two) where
  pub same_inodes : inodes_full one ≡ inodes_full two
  same_inodes = ap₂ (λ k n. nat_le (64 * k) n) s.segments s.nodes

  pub same_larges : larges_full one ≡ larges_full two
  same_larges = ap₂ (λ k n. nat_le k n) s.segments s.large

  pub same_lacks : (es : Entries) (n : ℕ) → lacks_block one es n ≡ lacks_block two es n
  same_lacks es n = ap₂ (λ k c. cond (must_grow es n) (nat_le (1024 * k) c) false) s.segments s.small

  pub same_told : (r : Reply) → told_blocks one r ≡ told_blocks two r
  same_told (reply.NoBlock m) = refl
  same_told _ = s.dirs

pub same_left : (one two : FileTree) (m k more : ℕ) → SameRoom one two → m ≡ k → nat_lt (1024 * one.segments - m) (count_of file_blocks one + more) ≡ nat_lt (1024 * two.segments - k) (count_of file_blocks two + more)
same_left one two m k more s e = ap₂ (λ r c. nat_lt r (c + more)) (ap₂ (λ n i. 1024 * n - i) s.segments e) s.files
