-- Which block stands in each sector of a fresh disk.
use Rattle.std.proofs.Common.{◌≡◌, ◌≢◌, ℕ, ◌+◌, ◌<◌, Bool, false, if◌then◌else◌, Option, Some, None, List, [], ◌∷◌, sym, ap, ◌∙◌, subst, arith}
use Rattle.std.specs.Ordering.{nat_cmp}
use Rattle.std.specs.Map.{lookup}
use Rattle.std.specs.BTreeMap.{is_at}
use Rattle.std.specs.Cmp.{unsigned_tied}
use Rattle.std.specs.Option.{unwrap_or}
use Rattle.std.proofs.lemmas.Bool.{ne_eqb}
use Rattle.tree_definitions.proofs.Births.{each_but}
use Rattle.disk_definitions.specs.declared.region.Region.TheVariants as region
use Rattle.sector_bytes.specs.Bytes.{zeros}
use Rattle.disk_definitions.specs.Regions.{sector_of, bitmaps_from, inodes_from}
use Rattle.disk_definitions.specs.Params.{param_bytes}
use Rattle.disk_definitions.specs.Bitmaps.{bitmap_bytes}
use Rattle.disk_definitions.specs.Inodes.{inode_bytes}
use Rattle.disk_definitions.specs.FreshDisk.{fresh_param, first_bitmap, root_inode, fresh_disk}

-- numbers apart aren't tied
pub apart : (s k : ℕ) → s ≢ k → is_at (nat_cmp s) k ≡ false
apart s k far = unsigned_tied s k ∙ ne_eqb s k far

none_of : (s a b c : ℕ) (x y z : List ℕ) → s ≢ a → s ≢ b → s ≢ c → lookup (is_at (nat_cmp s)) ((a, x) ∷ (b, y) ∷ (c, z) ∷ []) ≡ None
none_of s a b c x y z p q r =
    ap (λ (t : Bool). if t then Some x else lookup (is_at (nat_cmp s)) ((b, y) ∷ (c, z) ∷ [])) (apart s a p) ∙ ap (λ (t : Bool). if t then Some y else lookup (is_at (nat_cmp s)) ((c, z) ∷ [])) (apart s b q)
    ∙ ap (λ (t : Bool). if t then Some z else None) (apart s c r)

-- three sectors have blocks, and all others zeros
pub elsewhere : (segments s : ℕ) → s ≢ 0 → s ≢ bitmaps_from → s ≢ inodes_from → fresh_disk segments s ≡ zeros 512
elsewhere segments s p q r =
    ap (λ (o : Option (List ℕ)). unwrap_or o (zeros 512)) (none_of s 0 bitmaps_from inodes_from (param_bytes (fresh_param segments)) (bitmap_bytes first_bitmap) (inode_bytes root_inode) p q r)

-- past the first of each, segments and inodes are zeros
pub later_segment : (segments k : ℕ) → k ≢ 0 → k < 64 → fresh_disk segments (sector_of (region.Segment k)) ≡ zeros 512
later_segment segments k far l = elsewhere segments (bitmaps_from + k) (λ e. absurd (omega arith)) (λ e. far (omega arith)) (λ e. absurd (omega arith))

pub later_inode : (segments i : ℕ) → i ≢ 0 → fresh_disk segments (sector_of (region.Inode i)) ≡ zeros 512
later_inode segments i far = elsewhere segments (inodes_from + i) (λ e. absurd (omega arith)) (λ e. absurd (omega arith)) (λ e. far (omega arith))

module _ (P : List ℕ → Type 0) (segments : ℕ) where
  -- a fact of every sector
  pub each_sector : P (param_bytes (fresh_param segments)) → P (bitmap_bytes first_bitmap) → P (inode_bytes root_inode) → P (zeros 512) → (s : ℕ) → P (fresh_disk segments s)
  each_sector param bitmap inode none =
      each_but (λ s. P (fresh_disk segments s)) 0 param
      (λ s p. each_but (λ s. s ≢ 0 → P (fresh_disk segments s)) bitmaps_from (λ _. bitmap)
      (λ s q p. each_but (λ s. s ≢ 0 → s ≢ bitmaps_from → P (fresh_disk segments s)) inodes_from (λ _ _. inode)
      (λ s r p q. subst P (sym (elsewhere segments s p q r)) none) s p q) s p)

  -- of every segment
  pub each_segment : P (bitmap_bytes first_bitmap) → P (zeros 512) → (k : ℕ) → k < 64 → P (fresh_disk segments (sector_of (region.Segment k)))
  each_segment bitmap none =
      each_but (λ k. k < 64 → P (fresh_disk segments (sector_of (region.Segment k)))) 0 (λ _. bitmap) (λ k far l. subst P (sym (later_segment segments k far l)) none)

  -- of every inode
  pub each_inode : P (inode_bytes root_inode) → P (zeros 512) → (i : ℕ) → P (fresh_disk segments (sector_of (region.Inode i)))
  each_inode inode none =
      each_but (λ i. P (fresh_disk segments (sector_of (region.Inode i)))) 0 inode (λ i far. subst P (sym (later_inode segments i far)) none)
