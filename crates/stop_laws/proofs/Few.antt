-- At least as many small blocks of a disk are or were a directory's as its tree's directories have.
use Rattle.std.proofs.Common.{ℕ, zero, suc, ◌≡◌, ◌≤◌, ◌+◌, ◌*◌, not, arith}
use Rattle.stop_laws.proofs.Counted.{at_most}
use Rattle.tree_definitions.specs.Tree.{FileTree, count_of, dir_blocks, file_blocks, small_blocks}
use Rattle.tree_edits.proofs.Counting.{small_blocks_both}
use Rattle.disk_definitions.specs.Naming.{Naming}
use Rattle.disk_definitions.specs.Store.{Store, is_unused}
use Rattle.disk_definitions.specs.Least.{count, one_if}
use Rattle.disk_definitions.proofs.PickCounts.{count_zero, count_more}
use Rattle.disk_definitions.specs.Meets.{IsOfTree, is_directory_use, directory_blocks_in}
use Rattle.plan_laws.proofs.FileTotals.{is_bytes, files_counted}
use Rattle.plan_laws.proofs.Totals.{blocks_counted}

taken_are : (s : Store) (n : ℕ) → count (λ k. not (is_unused (s.use_of k))) n ≤ count (λ k. is_bytes (s.use_of k)) n + count (λ k. is_directory_use (s.use_of k)) n
taken_are s zero =
    let a = count_zero (λ k. not (is_unused (s.use_of k))) in
    omega arith
taken_are s (suc n) =
    let rest : count (λ k. not (is_unused (s.use_of k))) n ≤ count (λ k. is_bytes (s.use_of k)) n + count (λ k. is_directory_use (s.use_of k)) n = taken_are s n in
    let one : one_if (not (is_unused (s.use_of n))) ≤ one_if (is_bytes (s.use_of n)) + one_if (is_directory_use (s.use_of n)) = at_most (s.use_of n) in
    let a = count_more (λ k. not (is_unused (s.use_of k))) n in
    let b = count_more (λ k. is_bytes (s.use_of k)) n in
    let c = count_more (λ k. is_directory_use (s.use_of k)) n in
    omega arith

pub few_directories : (s : Store) (tree : FileTree) (n : Naming) → IsOfTree s tree n → count_of dir_blocks tree ≤ directory_blocks_in s tree.segments
few_directories s tree n of =
    let all : count (λ k. not (is_unused (s.use_of k))) (1024 * tree.segments) ≡ count_of small_blocks tree = blocks_counted s tree n of in
    let files : count (λ k. is_bytes (s.use_of k)) (1024 * tree.segments) ≡ count_of file_blocks tree = files_counted s tree n of in
    let both : count_of small_blocks tree ≡ count_of dir_blocks tree + count_of file_blocks tree = small_blocks_both tree.nodes in
    let most :
    count (λ k. not (is_unused (s.use_of k))) (1024 * tree.segments) ≤ count (λ k. is_bytes (s.use_of k)) (1024 * tree.segments) + directory_blocks_in s tree.segments
    = taken_are s (1024 * tree.segments) in
    omega arith
