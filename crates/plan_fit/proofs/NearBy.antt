-- What sectors say doesn't go by their versions.
use Rattle.std.proofs.Common.{◌≡◌, ℕ, ◌*◌, ◌/◌, ◌%◌, ◌<◌, Bool, nat_lt, Option, Some, None, is_some, sym, ap, ◌∙◌, arith}
use Rattle.std.proofs.lemmas.Bool.{ltb-true}
use Rattle.frang_base.specs.declared.bitmap.Bitmap.{Bitmap}
use Rattle.disk_definitions.specs.declared.region.Region.TheVariants as region
use Rattle.disk_definitions.specs.declared.directory.DirSector.{DirSector}
use Rattle.disk_definitions.specs.declared.inode.Inode.{Inode}
use Rattle.disk_definitions.specs.Regions.{sector_of}
use Rattle.disk_definitions.specs.Inodes.{inode_in}
use Rattle.sector_bytes.specs.Sectors.{Sectors}
use Rattle.disk_definitions.specs.Store.{StoredNode, StoredEntry, Use, segment_at, directory_at, stored_node, entry_in, bit_in, use_in, large_in}
use Rattle.disk_definitions.specs.Store.Use.{Fresh}
use Rattle.disk_definitions.specs.Standing.{IsMetadata}
use Rattle.plan_fit.specs.Says.{SegmentsSay, InodesSay, PlacesSay}
use Rattle.plan_fit.proofs.Kept.{if_same, and_same}

-- the two are the same but for the version
pub record NearSegments (x y : Option Bitmap) : Type 0 where
  pub was : Bitmap
  pub version : ℕ
  pub there : x ≡ Some was
  pub is : y ≡ Some (record was { version = version })

pub record NearInodes (x y : Option Inode) : Type 0 where
  pub was : Inode
  pub version : ℕ
  pub there : x ≡ Some was
  pub is : y ≡ Some (record was { version = version })

pub record NearDirectories (x y : Option DirSector) : Type 0 where
  pub was : DirSector
  pub version : ℕ
  pub there : x ≡ Some was
  pub is : y ≡ Some (record was { version = version })

pub segments_near : (segments : ℕ) (a b : Sectors) (bit : ℕ → Bool) (use_of : ℕ → Use) (large_bit : ℕ → Bool)
    → ((k : ℕ) → k < segments → NearSegments (segment_at a k) (segment_at b k)) → SegmentsSay segments a bit use_of large_bit → SegmentsSay segments b bit use_of large_bit
segments_near segments a b bit use_of large_bit near h = record {
  grammar = λ k l. ap is_some (near k l).is;
  bits = λ i. and_same (nat_lt i (64 * segments)) (bit_in (segment_at b (i / 64)) (i % 64)) (bit_in (segment_at a (i / 64)) (i % 64))
      (λ t. let l = ltb-true i (64 * segments) t in let n = near (i / 64) (omega arith) in ap (λ (o : Option Bitmap). bit_in o (i % 64)) n.is ∙ sym (ap (λ (o : Option Bitmap). bit_in o (i % 64)) n.there)) ∙ h.bits i;
  uses = λ k. if_same (nat_lt k (1024 * segments)) (use_in (segment_at b (k / 1024)) (k % 1024)) (use_in (segment_at a (k / 1024)) (k % 1024)) Fresh
      (λ t. let l = ltb-true k (1024 * segments) t in let n = near (k / 1024) (omega arith) in ap (λ (o : Option Bitmap). use_in o (k % 1024)) n.is ∙ sym (ap (λ (o : Option Bitmap). use_in o (k % 1024)) n.there)) ∙ h.uses k;
  large_bits = λ g. and_same (nat_lt g segments) (large_in (segment_at b g)) (large_in (segment_at a g)) (λ t. let n = near g (ltb-true g segments t) in ap large_in n.is ∙ sym (ap large_in n.there)) ∙ h.large_bits g;
}

pub inodes_near : (segments : ℕ) (a b : Sectors) (inode : ℕ → Option StoredNode)
    → ((i : ℕ) → i < 64 * segments → NearInodes (inode_in (a (sector_of (region.Inode i)))) (inode_in (b (sector_of (region.Inode i))))) → InodesSay segments a inode → InodesSay segments b inode
inodes_near segments a b inode near h = record {
  grammar = λ i l. ap is_some (near i l).is;
  inodes = λ i. if_same (nat_lt i (64 * segments)) (stored_node (inode_in (b (sector_of (region.Inode i))))) (stored_node (inode_in (a (sector_of (region.Inode i))))) None
      (λ t. let n = near i (ltb-true i (64 * segments) t) in ap stored_node n.is ∙ sym (ap stored_node n.there)) ∙ h.inodes i;
}

pub places_near : (segments : ℕ) (use_of : ℕ → Use) (a b : Sectors) (place : ℕ → ℕ → Option StoredEntry)
    → ((k p : ℕ) → k < 1024 * segments → p < 8 → IsMetadata (use_of k) → NearDirectories (directory_at a k p) (directory_at b k p)) → PlacesSay segments use_of a place → PlacesSay segments use_of b place
places_near segments use_of a b place near h = record {
  grammar = λ k p l m d. ap is_some (near k p l m d).is;
  places = λ k p l m d. if_same (nat_lt k (1024 * segments)) (entry_in (directory_at b k (p / 7)) (p % 7)) (entry_in (directory_at a k (p / 7)) (p % 7)) None
      (λ t. let n = near k (p / 7) l (omega arith) d in ap (λ (o : Option DirSector). entry_in o (p % 7)) n.is ∙ sym (ap (λ (o : Option DirSector). entry_in o (p % 7)) n.there)) ∙ h.places k p l m d;
}
