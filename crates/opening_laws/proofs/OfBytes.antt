-- The sectors of a fresh disk are of bytes, and so are those of an image's disk where its blocks are.
use Rattle.std.proofs.Common.{ℕ, zero, suc, ◌≡◌, ◌<◌, ◌^◌, ◌/◌, ⊎_elim, true, nat_lt, Option, Some, None, List, [], ◌∷◌, ◌++◌, refl, sym, subst, arith, ltb-true}
use Rattle.std.specs.List.{All, AllByRecursion, list_all}
use Rattle.std.specs.Map.{values_of}
use Rattle.std.specs.BTreeMap.{is_at}
use Rattle.std.specs.Int.{byte_at, bytes_low_first}
use Rattle.std.specs.Ordering.{nat_cmp}
use Rattle.std.specs.Option.{IfSome, unwrap_or}
use Rattle.std.specs.Prelude.{codes}
use Rattle.std.proofs.lemmas.Bool.{and_parts, cases_eq}
use Rattle.std.proofs.lemmas.List.Elements.{All-append, All-from_recursion}
use Rattle.std.proofs.lemmas.Map.Views.{IfSome-lookup_from_All}
use Rattle.std.proofs.lemmas.Nat.{mod_below}
use Rattle.byteorder.specs.Endian.{little_bytes}
use Rattle.sector_bytes.specs.Blocks.{Block, zero_block}
use Rattle.sector_bytes.specs.Bytes.{zeros}
use Rattle.sector_bytes.specs.SectorMaps.{value_at}
use Rattle.sector_bytes.specs.Sectors.{sectors_of}
use Rattle.disk_definitions.specs.declared.param.Param.{Param}
use Rattle.disk_definitions.specs.Bitmaps.{bitmap_bytes}
use Rattle.disk_definitions.specs.FreshDisk.{first_bitmap, fresh_param, root_inode}
use Rattle.disk_definitions.specs.Inodes.{inode_bytes}
use Rattle.disk_definitions.specs.Params.{param_bytes}
use Rattle.code_plan_laws.proofs.Sectors.{each_sector}
use Rattle.core_definitions.specs.Opening.{image_start, next_param}
use Rattle.core_laws.specs.Openings.{FreshDisksArePut, ImagesArePut, LogsReadAsZero}
use Rattle.opening_laws.specs.Bytes.{AreBytes}
use Rattle.opening_laws.specs.Starts.{FreshStartsAreBytes, ImageStartsAreBytes}
use Rattle.opening_laws.proofs.Image.{at_other, at_param}

abbrev IsByte : ℕ → Type 0
IsByte byte = byte < 256

-- ---- lists of bytes

tested : (bytes : List ℕ) → list_all (λ byte. nat_lt byte 256) bytes ≡ true → AllByRecursion IsByte bytes
tested [] e = tt
tested (b ∷ bytes) e = let p = and_parts (nat_lt b 256) (list_all (λ byte. nat_lt byte 256) bytes) e in (ltb-true b 256 p.0, tested bytes p.1)

all_tested : (bytes : List ℕ) → list_all (λ byte. nat_lt byte 256) bytes ≡ true → AreBytes bytes
all_tested bytes e = All-from_recursion IsByte bytes (tested bytes e)

one_byte : (i x : ℕ) → byte_at i x < 256
one_byte zero x = mod_below x 256 (omega arith)
one_byte (suc i) x = mod_below (x / 256 ^ suc i) 256 (omega arith)

low_first : (i n x : ℕ) → AllByRecursion IsByte (bytes_low_first i n x)
low_first i zero x = tt
low_first i (suc n) x = (one_byte i x, low_first (suc i) n x)

little : (n x : ℕ) → AreBytes (little_bytes n x)
little n x = All-from_recursion IsByte (little_bytes n x) (low_first 0 n x)

zero_bytes : AreBytes (zeros 512)
unfolding zeros
zero_bytes = all_tested (zeros 512) refl

last_zeros : AreBytes (zeros 492)
unfolding zeros
last_zeros = all_tested (zeros 492) refl

joined : (xs ys : List ℕ) → AreBytes xs → AreBytes ys → AreBytes (xs ++ ys)
joined xs ys a b = All-append IsByte xs ys a b

-- ---- the sectors of a fresh disk

pub of_param : (p : Param) → AreBytes (param_bytes p)
of_param p =
    joined (codes "FRANGPAR") (little_bytes 4 p.format ++ little_bytes 4 p.segments ++ little_bytes 4 p.run ++ zeros 492) (all_tested (codes "FRANGPAR") refl)
    (joined (little_bytes 4 p.format) (little_bytes 4 p.segments ++ little_bytes 4 p.run ++ zeros 492) (little 4 p.format)
    (joined (little_bytes 4 p.segments) (little_bytes 4 p.run ++ zeros 492) (little 4 p.segments) (joined (little_bytes 4 p.run) (zeros 492) (little 4 p.run) last_zeros)))

first_bytes : AreBytes (bitmap_bytes first_bitmap)
unfolding zeros
first_bytes = all_tested (bitmap_bytes first_bitmap) refl

root_bytes : AreBytes (inode_bytes root_inode)
unfolding zeros
root_bytes = all_tested (inode_bytes root_inode) refl

pub fresh_bytes : FreshDisksArePut → FreshStartsAreBytes
fresh_bytes fresh_put script segments sector =
    subst AreBytes (sym (fresh_put segments sector)) (each_sector AreBytes segments (of_param (fresh_param segments)) first_bytes root_bytes zero_bytes sector)

-- ---- those of an image's disk

listed_bytes : (disk : List (ℕ × Block)) → All AreBytes (values_of disk) → (s : ℕ) → AreBytes (sectors_of disk s)
listed_bytes disk blocks s = go (value_at disk s) (IfSome-lookup_from_All AreBytes (is_at (nat_cmp s)) disk blocks)
  where
    go : (o : Option Block) → IfSome o AreBytes → AreBytes (unwrap_or o zero_block)
    go None none = zero_bytes
    go (Some block) all = all

pub image_bytes : ImagesArePut → LogsReadAsZero → ImageStartsAreBytes
image_bytes images_put log_zero script image p tree disk may blocks s = ⊎_elim
    (λ e. subst AreBytes (sym (subst (λ k. (image_start script p tree disk).disk k ≡ param_bytes (next_param p)) (sym e) (at_param images_put log_zero script image p tree disk may))) (of_param (next_param p)))
    (λ far. subst AreBytes (sym (at_other images_put log_zero script image p tree disk may s far)) (listed_bytes disk blocks s)) (cases_eq s 0)
