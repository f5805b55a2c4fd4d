-- At least as many small blocks of a disk are or were a directory's as the directories of its tree have.
use Rattle.std.proofs.Common.{ℕ, zero, suc, ◌≡◌, ◌≤◌, ◌+◌, ◌*◌, not, arith}
use Rattle.tree_definitions.specs.Tree.{FileTree, count_of, dir_blocks, file_blocks, small_blocks}
use Rattle.tree_edits.proofs.Counting.{small_blocks_both}
use Rattle.disk_definitions.specs.Naming.{Naming}
use Rattle.disk_definitions.specs.Store.{Store, Use, is_unused}
use Rattle.disk_definitions.specs.Store.Use.{Fresh, Bytes, Empty, Entries}
use Rattle.disk_definitions.specs.Least.{count, one_if}
use Rattle.disk_definitions.proofs.PickCounts.{count_zero, count_more}
use Rattle.disk_definitions.specs.Meets.{IsOfTree, is_directory_use, directory_blocks_in}
use Rattle.plan_laws.proofs.FileTotals.{is_bytes, files_counted}
use Rattle.plan_laws.proofs.Totals.{blocks_counted}

pub at_most : (u : Use) → one_if (not (is_unused u)) ≤ one_if (is_bytes u) + one_if (is_directory_use u)
at_most Fresh = omega arith
at_most Bytes = omega arith
at_most Empty = omega arith
at_most Entries = omega arith

used_most : (s : Store) (n : ℕ) → count (λ k. not (is_unused (s.use_of k))) n ≤ count (λ k. is_bytes (s.use_of k)) n + count (λ k. is_directory_use (s.use_of k)) n
used_most s zero =
    let a : count (λ k. not (is_unused (s.use_of k))) 0 ≡ 0 = count_zero (λ k. not (is_unused (s.use_of k))) in
    omega arith
used_most s (suc n) =
    let a : count (λ k. not (is_unused (s.use_of k))) (suc n) ≡ one_if (not (is_unused (s.use_of n))) + count (λ k. not (is_unused (s.use_of k))) n = count_more (λ k. not (is_unused (s.use_of k))) n in
    let b : count (λ k. is_bytes (s.use_of k)) (suc n) ≡ one_if (is_bytes (s.use_of n)) + count (λ k. is_bytes (s.use_of k)) n = count_more (λ k. is_bytes (s.use_of k)) n in
    let d : count (λ k. is_directory_use (s.use_of k)) (suc n) ≡ one_if (is_directory_use (s.use_of n)) + count (λ k. is_directory_use (s.use_of k)) n = count_more (λ k. is_directory_use (s.use_of k)) n in
    let r : count (λ k. not (is_unused (s.use_of k))) n ≤ count (λ k. is_bytes (s.use_of k)) n + count (λ k. is_directory_use (s.use_of k)) n = used_most s n in
    let o : one_if (not (is_unused (s.use_of n))) ≤ one_if (is_bytes (s.use_of n)) + one_if (is_directory_use (s.use_of n)) = at_most (s.use_of n) in
    omega arith

pub directories_few : (s : Store) (tree : FileTree) (n : Naming) → IsOfTree s tree n → count_of dir_blocks tree ≤ directory_blocks_in s tree.segments
directories_few s tree n of =
    let a : count (λ k. not (is_unused (s.use_of k))) (1024 * tree.segments) ≡ count_of small_blocks tree = blocks_counted s tree n of in
    let b : count (λ k. is_bytes (s.use_of k)) (1024 * tree.segments) ≡ count_of file_blocks tree = files_counted s tree n of in
    let d : count (λ k. not (is_unused (s.use_of k))) (1024 * tree.segments) ≤ count (λ k. is_bytes (s.use_of k)) (1024 * tree.segments) + count (λ k. is_directory_use (s.use_of k)) (1024 * tree.segments)
    = used_most s (1024 * tree.segments) in
    let e : count_of small_blocks tree ≡ count_of dir_blocks tree + count_of file_blocks tree = small_blocks_both tree.nodes in
    omega arith
