-- The number of blocks that are or were a directory's grows at most by what the directories of the tree grow.
use Rattle.std.proofs.Common.{ℕ, zero, suc, ◌≡◌, ◌≤◌, ◌+◌, ◌*◌, ◌⊎◌, ⊎_elim, inl, inr, not, Bool, true, false, refl, sym, ◌∙◌, ap, subst, arith}
use Rattle.tree_definitions.specs.Tree.{FileTree, count_of, dir_blocks, file_blocks, small_blocks}
use Rattle.tree_edits.proofs.Counting.{small_blocks_both}
use Rattle.disk_definitions.specs.Store.{Store, Use, is_unused}
use Rattle.disk_definitions.specs.Store.Use.{Fresh, Bytes, Empty, Entries}
use Rattle.disk_definitions.specs.Naming.{Naming}
use Rattle.disk_definitions.specs.Edits.{edited_all}
use Rattle.disk_definitions.specs.Least.{count, one_if}
use Rattle.disk_definitions.proofs.PickCounts.{count_more, count_zero}
use Rattle.disk_definitions.specs.Meets.{IsOfTree, directory_blocks_in, is_directory_use}
use Rattle.plan_laws.proofs.FileTotals.{files_counted, is_bytes}
use Rattle.plan_laws.proofs.Totals.{blocks_counted}
use Rattle.room_laws.specs.Growth.{FreesNone, GainsNone, GrowsWithTheTree, LinesGrowWithTheTree}
use Rattle.room_laws.proofs.Gaining.{lines_gain_or_free}

-- in use for entries
abbrev is_entries : Use → Bool
is_entries Fresh = false
is_entries Bytes = false
is_entries Empty = false
is_entries Entries = true

-- ---- block by block

-- what is in use is so for bytes or for entries
both_uses : (u : Use) → one_if (not (is_unused u)) ≡ one_if (is_bytes u) + one_if (is_entries u)
both_uses Fresh = refl
both_uses Bytes = refl
both_uses Empty = refl
both_uses Entries = refl

gained_no_more : (b c : Bool) → (c ≡ true → b ≡ true) → one_if c ≤ one_if b
gained_no_more true true had = omega arith
gained_no_more true false had = omega arith
gained_no_more false true had = absurd (let z : false ≡ true = had refl in cc)
gained_no_more false false had = omega arith

at_most_entries : (u : Use) → one_if (is_entries u) ≤ one_if (is_directory_use u)
at_most_entries Fresh = omega arith
at_most_entries Bytes = omega arith
at_most_entries Empty = omega arith
at_most_entries Entries = omega arith

-- a block that is gained is in use for entries, and none of these is freed
gained_for_entries : (u v : Use) → (v ≡ u) ⊎ (v ≡ Entries) → one_if (is_directory_use v) + one_if (is_entries u) ≤ one_if (is_directory_use u) + one_if (is_entries v)
gained_for_entries u v (inl same) =
    subst (λ (w : Use). one_if (is_directory_use w) + one_if (is_entries u) ≤ one_if (is_directory_use u) + one_if (is_entries w)) (sym same) (omega arith)
gained_for_entries u v (inr is) =
    let low : one_if (is_entries u) ≤ one_if (is_directory_use u) = at_most_entries u in
    subst (λ (w : Use). one_if (is_directory_use w) + one_if (is_entries u) ≤ one_if (is_directory_use u) + one_if (is_entries w)) (sym is) (omega arith)

-- ---- all of them

-- the blocks below a number that are or were a directory's, and those in use for entries
abbrev directories : Store → ℕ → ℕ
directories s n = count (λ k. is_directory_use (s.use_of k)) n

abbrev entries : Store → ℕ → ℕ
entries s n = count (λ k. is_entries (s.use_of k)) n

module _ (s t : Store) where
  none_gained : GainsNone s t → (n : ℕ) → directories t n ≤ directories s n
  none_gained none zero =
      let a : directories t 0 ≡ 0 = count_zero (λ k. is_directory_use (t.use_of k)) in
      omega arith
  none_gained none (suc n) =
      let a : directories t (suc n) ≡ one_if (is_directory_use (t.use_of n)) + directories t n = count_more (λ k. is_directory_use (t.use_of k)) n in
      let b : directories s (suc n) ≡ one_if (is_directory_use (s.use_of n)) + directories s n = count_more (λ k. is_directory_use (s.use_of k)) n in
      let one : one_if (is_directory_use (t.use_of n)) ≤ one_if (is_directory_use (s.use_of n)) = gained_no_more (is_directory_use (s.use_of n)) (is_directory_use (t.use_of n)) (none n) in
      let rest : directories t n ≤ directories s n = none_gained none n in
      omega arith

  none_freed : FreesNone s t → (n : ℕ) → directories t n + entries s n ≤ directories s n + entries t n
  none_freed none zero =
      let a : directories t 0 ≡ 0 = count_zero (λ k. is_directory_use (t.use_of k)) in
      let b : entries s 0 ≡ 0 = count_zero (λ k. is_entries (s.use_of k)) in
      omega arith
  none_freed none (suc n) =
      let a : directories t (suc n) ≡ one_if (is_directory_use (t.use_of n)) + directories t n = count_more (λ k. is_directory_use (t.use_of k)) n in
      let b : directories s (suc n) ≡ one_if (is_directory_use (s.use_of n)) + directories s n = count_more (λ k. is_directory_use (s.use_of k)) n in
      let c : entries s (suc n) ≡ one_if (is_entries (s.use_of n)) + entries s n = count_more (λ k. is_entries (s.use_of k)) n in
      let d : entries t (suc n) ≡ one_if (is_entries (t.use_of n)) + entries t n = count_more (λ k. is_entries (t.use_of k)) n in
      let one : one_if (is_directory_use (t.use_of n)) + one_if (is_entries (s.use_of n)) ≤ one_if (is_directory_use (s.use_of n)) + one_if (is_entries (t.use_of n))
      = gained_for_entries (s.use_of n) (t.use_of n) (none n) in
      let rest : directories t n + entries s n ≤ directories s n + entries t n = none_freed none n in
      omega arith

-- ---- a tree's directories have the blocks in use for entries

uses_split : (s : Store) (n : ℕ) → count (λ k. not (is_unused (s.use_of k))) n ≡ count (λ k. is_bytes (s.use_of k)) n + entries s n
uses_split s zero =
    let a : count (λ k. not (is_unused (s.use_of k))) 0 ≡ 0 = count_zero (λ k. not (is_unused (s.use_of k))) in
    let b : count (λ k. is_bytes (s.use_of k)) 0 ≡ 0 = count_zero (λ k. is_bytes (s.use_of k)) in
    let c : entries s 0 ≡ 0 = count_zero (λ k. is_entries (s.use_of k)) in
    omega arith
uses_split s (suc n) =
    let a : count (λ k. not (is_unused (s.use_of k))) (suc n) ≡ one_if (not (is_unused (s.use_of n))) + count (λ k. not (is_unused (s.use_of k))) n
    = count_more (λ k. not (is_unused (s.use_of k))) n in
    let b : count (λ k. is_bytes (s.use_of k)) (suc n) ≡ one_if (is_bytes (s.use_of n)) + count (λ k. is_bytes (s.use_of k)) n = count_more (λ k. is_bytes (s.use_of k)) n in
    let c : entries s (suc n) ≡ one_if (is_entries (s.use_of n)) + entries s n = count_more (λ k. is_entries (s.use_of k)) n in
    let one : one_if (not (is_unused (s.use_of n))) ≡ one_if (is_bytes (s.use_of n)) + one_if (is_entries (s.use_of n)) = both_uses (s.use_of n) in
    let rest : count (λ k. not (is_unused (s.use_of k))) n ≡ count (λ k. is_bytes (s.use_of k)) n + entries s n = uses_split s n in
    omega arith

entries_counted : (s : Store) (tree : FileTree) (n : Naming) → IsOfTree s tree n → entries s (1024 * tree.segments) ≡ count_of dir_blocks tree
entries_counted s tree n of =
    let all : count (λ k. not (is_unused (s.use_of k))) (1024 * tree.segments) ≡ count_of small_blocks tree = blocks_counted s tree n of in
    let files : count (λ k. is_bytes (s.use_of k)) (1024 * tree.segments) ≡ count_of file_blocks tree = files_counted s tree n of in
    let both : count_of small_blocks tree ≡ count_of dir_blocks tree + count_of file_blocks tree = small_blocks_both tree.nodes in
    let split : count (λ k. not (is_unused (s.use_of k))) (1024 * tree.segments) ≡ count (λ k. is_bytes (s.use_of k)) (1024 * tree.segments) + entries s (1024 * tree.segments)
    = uses_split s (1024 * tree.segments) in
    omega arith

-- ---- the laws

pub grows_with_the_tree : GrowsWithTheTree
grows_with_the_tree s t tree to n m of of_then as_many fair =
    ⊎_elim
    (λ none.
    let low : directory_blocks_in t tree.segments ≤ directory_blocks_in s tree.segments = none_gained s t none (1024 * tree.segments) in
    omega arith)
    (λ none.
    let low : directory_blocks_in t tree.segments + entries s (1024 * tree.segments) ≤ directory_blocks_in s tree.segments + entries t (1024 * tree.segments)
    = none_freed s t none (1024 * tree.segments) in
    let was : entries s (1024 * tree.segments) ≡ count_of dir_blocks tree = entries_counted s tree n of in
    let is : entries t (1024 * tree.segments) ≡ count_of dir_blocks to =
    ap (λ k. count (λ b. is_entries (t.use_of b)) (1024 * k)) (sym as_many) ∙ entries_counted t to m of_then in
    omega arith)
    fair

pub lines_grow : LinesGrowWithTheTree
lines_grow o h s tree to n m birth when f of at_hand is of_then as_many =
    grows_with_the_tree s (edited_all s f.edits) tree to n m of of_then as_many (lines_gain_or_free o h s tree n birth when f of at_hand is)
