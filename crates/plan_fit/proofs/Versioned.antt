-- A versioned sector with its change is the new one with the old version or the next.
use Rattle.std.proofs.Common.{◌≡◌, ℕ, ◌+◌, ◌^◌, ◌<◌, ◌≤◌, Bool, Some, List, [], ◌∷◌, ◌++◌, length, take, drop, refl, sym, ap, ◌∙◌, arith, length-append}
use Rattle.std.specs.List.{flat_map}
use Rattle.std.proofs.lemmas.List.{drop_at, length-take-le}
use Rattle.byteorder.specs.Endian.{little_bytes}
use Rattle.sector_bytes.specs.Blocks.{patched}
use Rattle.frang_base.specs.declared.bitmap.Bitmap.{Bitmap}
use Rattle.frang_base.specs.declared.change.Patch.{Patch}
use Rattle.sector_bytes.specs.Changes.{changed}
use Rattle.disk_definitions.specs.declared.directory.DirSector.{DirSector}
use Rattle.disk_definitions.specs.declared.inode.Inode.{Inode}
use Rattle.sector_bytes.specs.Bytes.{number_at, zeros}
use Rattle.disk_definitions.specs.Bitmaps.{bitmap_in, bitmap_bytes, large_byte}
use Rattle.disk_definitions.specs.Directories.{directory_in, directory_bytes, entry_bytes}
use Rattle.disk_definitions.specs.Inodes.{inode_in, inode_bytes}
use Rattle.sector_bytes.specs.Patches.{patches_with}
use Rattle.disk_definitions.proofs.WrittenFields.{length_zeros}
use Rattle.sector_bytes.proofs.PatchLaws.{forced_patches_laid, no_forced_patches, spelled_version}
use Rattle.disk_definitions.proofs.BitmapLaws.{bitmap_read}
use Rattle.disk_definitions.proofs.DirectoryLaws.{directory_read, length_entries}
use Rattle.disk_definitions.proofs.InodeLaws.{inode_read}
use Rattle.disk_definitions.specs.Written.{change_by}
use Rattle.plan_fit.proofs.Grammar.{versioned, version_back, bitmap_storable, directory_storable, inode_version}
use Rattle.plan_fit.proofs.LaidOver.{made}

-- what begins with a version begins with its version
begins : (block rest : List ℕ) (v : ℕ) → v < 2 ^ 64 → block ≡ little_bytes 8 v ++ rest → block ≡ versioned (number_at 8 0 block) block
begins block rest v fits e =
    let is : number_at 8 0 block ≡ v = ap (number_at 8 0) e ∙ version_back v rest fits in
    e ∙ sym (ap (λ (b : List ℕ). versioned v b) e) ∙ sym (ap (λ (n : ℕ). versioned n block) is)

pub bitmap_begins : (block : List ℕ) (x : Bitmap) → bitmap_in block ≡ Some x → block ≡ versioned (number_at 8 0 block) block
bitmap_begins block x h = begins block (drop 8 (bitmap_bytes x)) x.version (bitmap_storable block x h).version (bitmap_read block x h)

pub inode_begins : (block : List ℕ) (x : Inode) → inode_in block ≡ Some x → block ≡ versioned (number_at 8 0 block) block
inode_begins block x h = begins block (drop 8 (inode_bytes x)) x.version (inode_version block x h) (inode_read block x h).0

pub directory_begins : (block : List ℕ) (x : DirSector) → directory_in block ≡ Some x → block ≡ versioned (number_at 8 0 block) block
directory_begins block x h = let v = (directory_storable block x h).version in begins block (flat_map entry_bytes x.entries) x.version (omega arith) (directory_read block x h).0

-- ---- lengths

pub length_bitmap : (block : List ℕ) (x : Bitmap) → bitmap_in block ≡ Some x → length block ≡ 512
length_bitmap block x h =
    let s = bitmap_storable block x h in
    let tail : List ℕ = large_byte x.large ∷ zeros 239 in
    let states : length x.states ≡ 256 = s.states in
    let long : length (bitmap_bytes x) ≡ 512 = omega (arith, length-append x.states tail, length_zeros 239) in
    ap length (bitmap_read block x h) ∙ long

pub length_directory : (block : List ℕ) (x : DirSector) → directory_in block ≡ Some x → length block ≡ 512
length_directory block x h =
    let s = directory_storable block x h in
    let seven : length x.entries ≡ 7 = s.seven in
    let long : length (directory_bytes x) ≡ 512 = omega (arith, length_entries x.entries s.entries) in
    ap length (directory_read block x h).0 ∙ long

-- ---- the change

-- the new block with the old version or the next
pub record IsNext (v : ℕ) (block new : List ℕ) : Type 0 where
  pub version : ℕ
  pub is : block ≡ versioned version new
  pub rises : v ≤ version
  pub most : version ≤ v + 1

pub made_is : (forced : ℕ → Bool) (old new : List ℕ) (s v : ℕ) → length old ≡ 512 → length new ≡ 512 → v + 1 < 2 ^ 64 → old ≡ versioned v old → IsNext v (made old (change_by s (v + 1) (patches_with forced old new))) new
unfolding changed
made_is forced old new s v long longer fits same = go (patches_with forced old new) refl
  where
    go : (ps : List Patch) → patches_with forced old new ≡ ps → IsNext v (made old (change_by s (v + 1) ps)) new
    go [] e = record {
      version = v;
      is = same ∙ ap (λ (b : List ℕ). little_bytes 8 v ++ b) ((no_forced_patches forced old new (omega arith) (long ∙ sym longer)).0 e).0;
      rises = omega arith;
      most = omega arith;
    }
    go (p ∷ ps) e =
        let rest : drop 8 (patched (p ∷ ps) old) ≡ drop 8 new = ap (λ (qs : List Patch). drop 8 (patched qs old)) (sym e) ∙ ap (drop 8) (forced_patches_laid forced old new (omega arith) (long ∙ sym longer)) ∙ drop_at (take 8 old) (drop 8 new) 8 (length-take-le 8 old (omega arith)) in
        record {
          version = v + 1;
          is = ap (λ (b : List ℕ). b ++ drop 8 (patched (p ∷ ps) old)) (spelled_version (v + 1) (omega arith)) ∙ ap (λ (b : List ℕ). little_bytes 8 (v + 1) ++ b) rest;
          rises = omega arith;
          most = omega arith;
        }
