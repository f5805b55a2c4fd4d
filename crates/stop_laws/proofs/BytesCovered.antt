-- Which lock covers the sector of a part of a file, by a naming and by the history.
use Rattle.std.proofs.Common.{ℕ, ◌≡◌, ◌≤◌, ◌<◌, ◌-◌, ◌*◌, ◌/◌, ◌%◌, ⊎_elim, Bool, true, false, nat_lt, if◌then◌else◌, List, [], ◌∷◌, refl, sym, ap, subst, arith}
use Rattle.std.specs.List.{Contains}
use Rattle.std.proofs.lemmas.Bool.Decides.{nat_tests}
use Rattle.frang_base.specs.Locks.{has_lock, same_lock}
use Rattle.frang_base.specs.declared.lock.LockId.{LockId}
use Rattle.frang_base.specs.declared.lock.LockId.TheVariants as lock
use Rattle.frang_base.proofs.Basics.{lock_same}
use Rattle.tree_definitions.specs.Tree.{FileTree, node_at, small_blocks_of}
use Rattle.sector_bytes.specs.Blocks.{Block}
use Rattle.sector_world.specs.Histories.{Item}
use Rattle.sector_world.specs.Seen as seen
use Rattle.disk_definitions.specs.declared.region.Region.TheVariants as region
use Rattle.disk_definitions.proofs.RegionLaws.{region_found}
use Rattle.disk_definitions.specs.Naming.{Naming}
use Rattle.disk_definitions.specs.Store.{Store}
use Rattle.disk_definitions.specs.Ask.{Sector, InodeAt, DirectoryAt, SegmentAt, BytesAt, LargeAt, number_of}
use Rattle.disk_definitions.specs.Meets.{IsOfTree}
use Rattle.plan_laws.proofs.Covering.{has_cases, not_in_none}
use Rattle.disk_definitions.specs.Covers.{cover_of}
use Rattle.plan_laws.proofs.Standing.{IsFileNode, NodeStands, stands}
use Rattle.plan_fit.proofs.Kept.{in_small, in_large}
use Rattle.disk_definitions.specs.Numbered.{sector_in}
use Rattle.line_histories.specs.Following.{CoversFollow, store_after}
use Rattle.line_histories.proofs.Filled.{IsInUse}
use Rattle.line_histories.specs.Parts.{LiesIn}

-- a lock that is in a list
pub is_used : (locks : List LockId) (l : LockId) → Contains locks l → has_lock l locks ≡ true
is_used [] l c = absurd (not_in_none l c)
is_used (k ∷ locks) l c = ⊎_elim (λ e. ap (λ (b : Bool). if b then true else has_lock l locks) (subst (λ x. same_lock k x ≡ true) e (lock_same k))) (λ r. go (same_lock k l) (is_used locks l r)) (has_cases k l locks c)
  where
    go : (b : Bool) → has_lock l locks ≡ true → (if b then true else has_lock l locks) ≡ true
    go true e = refl
    go false e = e

-- a part of a file is under the lock of its node
module _ (s : Store) (tree : FileTree) (n : Naming) (of : IsOfTree s tree n) (b t : ℕ) (x : Sector) (lies : LiesIn s tree n b t x) where
  own : NodeStands s n (n.inode b) lies.stored
  own = stands s (node_at tree) n of.pictures (n.inode b) lies.stored lies.is

  file : IsFileNode s lies.stored
  file = own.file lies.kind

  has_block : (size part : ℕ) → part < 128 → 512 * part < size → part / 8 < small_blocks_of size
  has_block size part l m = omega arith

  pub part_cover : cover_of n x ≡ lock.Node (n.inode b)
  part_cover = subst (λ x. cover_of n x ≡ lock.Node (n.inode b)) lies.here (go (nat_lt t 128) refl)
    where
      go : (c : Bool) → nat_lt t 128 ≡ c → cover_of n (if c then BytesAt (lies.stored.small (t / 8)) (t % 8) else LargeAt (lies.stored.large - 1) (t - 128)) ≡ lock.Node (n.inode b)
      go true e = own.small (t / 8) (subst (λ k. t / 8 < k) (sym file.blocks) (has_block lies.stored.size t (grind (arith, nat_tests)) lies.below))
      go false e =
          let high : 128 ≤ t = grind (arith, nat_tests) in
          let below : 512 * t < lies.stored.size = lies.below in
          own.large (file.large (omega arith))

-- by the history the same lock covers it
module _ (segments : ℕ) (few : segments ≤ 64) (opening : ℕ → Block) (home : ℕ → LockId) (h : List Item) (follow : CoversFollow segments opening home h) (tree : FileTree) (n : Naming)
    (of : IsOfTree (store_after segments opening h) tree n) (s : Store) where
  pub history_cover : (x : Sector) → IsInUse segments s x → seen.cover_of home h (number_of x) ≡ cover_of n x
  history_cover (BytesAt k p) u = follow tree n of (number_of (BytesAt k p)) (DirectoryAt k p) (ap sector_in (region_found segments (region.Small k p) few (in_small segments k p u.1 u.2)))
  history_cover (LargeAt g p) u = follow tree n of (number_of (LargeAt g p)) (LargeAt g p) (ap sector_in (region_found segments (region.Large g p) few (in_large segments g p u.1 u.2)))
  history_cover (InodeAt i) u = absurd u
  history_cover (DirectoryAt k p) u = absurd u
  history_cover (SegmentAt k) u = absurd u
