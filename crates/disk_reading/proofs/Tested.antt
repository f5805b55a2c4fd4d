-- What the tests of sectors tell.
use Rattle.std.proofs.Common.{◌≡◌, ℕ, ◌*◌, ◌<◌, ◌≤◌, Bool, true, ◌&&◌, is_some, nat_le, leb-true, le-leb, refl}
use Rattle.std.proofs.lemmas.Bool.{and_parts, and_from}
use Rattle.disk_definitions.specs.declared.region.Region.TheVariants as region
use Rattle.disk_definitions.specs.Regions.{sector_of}
use Rattle.disk_definitions.specs.Inodes.{inode_in}
use Rattle.sector_bytes.specs.Sectors.{Sectors}
use Rattle.disk_definitions.specs.Store.{Store, Use, segment_at, directory_at, store_of}
use Rattle.disk_definitions.specs.Store.Use.{Fresh, Bytes, Empty, Entries as OfEntries}
use Rattle.disk_definitions.specs.Standing.{version_at, IsMetadata, IsInGrammar, HasVersionsUpTo}
use Rattle.standing_laws.specs.Below.{all_below}
use Rattle.standing_laws.proofs.Bounded.{all_at, all_from}
use Rattle.disk_reading.specs.Fits.{segment_fits, inode_fits, part_fits, block_fits, sectors_fit}

-- in the grammar, with versions up to the most
pub record Fits (most segments : ℕ) (sectors : Sectors) : Type 0 where
  pub grammar : IsInGrammar segments sectors
  pub versions : HasVersionsUpTo most segments sectors

both : (a : Bool) (v most : ℕ) → (a && nat_le v most) ≡ true → (a ≡ true) × (v ≤ most)
both a v most h = let p = and_parts a (nat_le v most) h in (p.0, leb-true v most p.1)

part_of : (most : ℕ) (sectors : Sectors) (k : ℕ) (u : Use) → block_fits most sectors u k ≡ true → IsMetadata u → all_below 8 (part_fits most sectors k) ≡ true
part_of most sectors k Fresh h m = absurd m
part_of most sectors k Bytes h m = absurd m
part_of most sectors k Empty h m = h
part_of most sectors k OfEntries h m = h

block_from : (most : ℕ) (sectors : Sectors) (k : ℕ) (u : Use) → (IsMetadata u → all_below 8 (part_fits most sectors k) ≡ true) → block_fits most sectors u k ≡ true
block_from most sectors k Fresh h = refl
block_from most sectors k Bytes h = refl
block_from most sectors k Empty h = h tt
block_from most sectors k OfEntries h = h tt

module _ (most segments : ℕ) (sectors : Sectors) where
  abbrev s : Store
  s = store_of segments sectors

  segment_both : (k : ℕ) → segment_fits most sectors k ≡ true → (is_some (segment_at sectors k) ≡ true) × (version_at sectors (sector_of (region.Segment k)) ≤ most)
  unfolding segment_fits
  segment_both k h = both (is_some (segment_at sectors k)) (version_at sectors (sector_of (region.Segment k))) most h

  inode_both : (i : ℕ) → inode_fits most sectors i ≡ true → (is_some (inode_in (sectors (sector_of (region.Inode i)))) ≡ true) × (version_at sectors (sector_of (region.Inode i)) ≤ most)
  unfolding inode_fits
  inode_both i h = both (is_some (inode_in (sectors (sector_of (region.Inode i))))) (version_at sectors (sector_of (region.Inode i))) most h

  part_both : (k p : ℕ) → part_fits most sectors k p ≡ true → (is_some (directory_at sectors k p) ≡ true) × (version_at sectors (sector_of (region.Small k p)) ≤ most)
  unfolding part_fits
  part_both k p h = both (is_some (directory_at sectors k p)) (version_at sectors (sector_of (region.Small k p))) most h

  segment_from : (k : ℕ) → is_some (segment_at sectors k) ≡ true → version_at sectors (sector_of (region.Segment k)) ≤ most → segment_fits most sectors k ≡ true
  unfolding segment_fits
  segment_from k a b = and_from (is_some (segment_at sectors k)) (nat_le (version_at sectors (sector_of (region.Segment k))) most) a (le-leb (version_at sectors (sector_of (region.Segment k))) most b)

  inode_from : (i : ℕ) → is_some (inode_in (sectors (sector_of (region.Inode i)))) ≡ true → version_at sectors (sector_of (region.Inode i)) ≤ most → inode_fits most sectors i ≡ true
  unfolding inode_fits
  inode_from i a b = and_from (is_some (inode_in (sectors (sector_of (region.Inode i))))) (nat_le (version_at sectors (sector_of (region.Inode i))) most) a (le-leb (version_at sectors (sector_of (region.Inode i))) most b)

  part_from : (k p : ℕ) → is_some (directory_at sectors k p) ≡ true → version_at sectors (sector_of (region.Small k p)) ≤ most → part_fits most sectors k p ≡ true
  unfolding part_fits
  part_from k p a b = and_from (is_some (directory_at sectors k p)) (nat_le (version_at sectors (sector_of (region.Small k p))) most) a (le-leb (version_at sectors (sector_of (region.Small k p))) most b)

  abbrev three : Bool
  three = all_below (1024 * segments) (λ k. block_fits most sectors (s.use_of k) k)

  pub fits_at : sectors_fit most segments s sectors ≡ true → Fits most segments sectors
  fits_at h =
      let p = and_parts (all_below segments (segment_fits most sectors) && all_below (64 * segments) (inode_fits most sectors)) three h in
      let q = and_parts (all_below segments (segment_fits most sectors)) (all_below (64 * segments) (inode_fits most sectors)) p.0 in
      let part : (k p2 : ℕ) → k < 1024 * segments → p2 < 8 → IsMetadata (s.use_of k) → part_fits most sectors k p2 ≡ true = λ k p2 l w m. all_at 8 (part_fits most sectors k) (part_of most sectors k (s.use_of k) (all_at (1024 * segments) (λ k. block_fits most sectors (s.use_of k) k) p.1 k l) m) p2 w in
      record {
        grammar = record {
          bitmaps = λ k l. (segment_both k (all_at segments (segment_fits most sectors) q.0 k l)).0;
          inodes = λ i l. (inode_both i (all_at (64 * segments) (inode_fits most sectors) q.1 i l)).0;
          directories = λ k p2 l w m. (part_both k p2 (part k p2 l w m)).0;
        };
        versions = record {
          bitmaps = λ k l. (segment_both k (all_at segments (segment_fits most sectors) q.0 k l)).1;
          inodes = λ i l. (inode_both i (all_at (64 * segments) (inode_fits most sectors) q.1 i l)).1;
          directories = λ k p2 l w m. (part_both k p2 (part k p2 l w m)).1;
        };
      }

  pub fits_from : IsInGrammar segments sectors → HasVersionsUpTo most segments sectors → sectors_fit most segments s sectors ≡ true
  fits_from g v = and_from (all_below segments (segment_fits most sectors) && all_below (64 * segments) (inode_fits most sectors)) three
      (and_from (all_below segments (segment_fits most sectors)) (all_below (64 * segments) (inode_fits most sectors))
      (all_from segments (segment_fits most sectors) (λ k l. segment_from k (g.bitmaps k l) (v.bitmaps k l)))
      (all_from (64 * segments) (inode_fits most sectors) (λ i l. inode_from i (g.inodes i l) (v.inodes i l))))
      (all_from (1024 * segments) (λ k. block_fits most sectors (s.use_of k) k) (λ k l. block_from most sectors k (s.use_of k) (λ m. all_from 8 (part_fits most sectors k) (λ p w. part_from k p (g.directories k p l w m) (v.directories k p l w m)))))
