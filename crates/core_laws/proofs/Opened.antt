-- Behind its puts the disk of an opening is the fresh disk, or the replayed one with the next parameters; each log reads as zero.
use Rattle.std.proofs.Common.{◌≡◌, ℕ, ◌==◌, ◌&&◌, Bool, true, false, not, if◌then◌else◌, cond, Option, Some, None, List, [], ◌∷◌, ◌++◌, filter, length, refl, sym, ap, ◌∙◌, subst, arith}
use Rattle.std.specs.List.{AllByRecursion}
use Rattle.std.specs.List.Sorted.{IsStrictlySortedBy}
use Rattle.std.specs.Map.{keys_of, values_of}
use Rattle.std.specs.BTreeMap.{is_at}
use Rattle.std.specs.Ordering.{nat_cmp}
use Rattle.std.specs.declared.cmp.Ordering.TheVariants.{Less}
use Rattle.std.specs.Option.{unwrap_or}
use Rattle.std.proofs.lemmas.Bool.{eqb-true, and_parts, false≢true}
use Rattle.std.proofs.lemmas.Bool.Decides.{nat_tests}
use Rattle.std.proofs.lemmas.Option.{none-some}
use Rattle.std.proofs.lemmas.List.Elements.{recursion_from_All}
use Rattle.frang_base.proofs.Tests.{at_only}
use Rattle.frang_base.specs.declared.limits.TheConstants.{ROOT_INODE, SECTOR_BYTES, SEGMENTS_MAX}
use Rattle.frang_outside.specs.Disk.{written}
use Rattle.tree_definitions.specs.Tree.{FileTree}
use Rattle.sector_bytes.proofs.MapLaws.{absent}
use Rattle.sector_bytes.specs.Blocks.{Block, zero_block}
use Rattle.sector_bytes.specs.Bytes.{are_zero, zeros}
use Rattle.sector_bytes.specs.SectorMaps.{Ascend, value_at}
use Rattle.sector_bytes.specs.Sectors.{Sectors, sectors_of}
use Rattle.disk_definitions.specs.declared.param.Param.{Param}
use Rattle.disk_definitions.specs.declared.region.Region.TheVariants as region
use Rattle.disk_definitions.specs.Bitmaps.{bitmap_bytes}
use Rattle.disk_definitions.specs.FreshDisk.{first_bitmap, fresh_param, root_inode}
use Rattle.disk_definitions.specs.Inodes.{inode_bytes}
use Rattle.disk_definitions.specs.Params.{param_bytes, param_in}
use Rattle.disk_definitions.specs.Regions.{region_of, sector_of}
use Rattle.disk_definitions.specs.Replay.{is_log, replayed, with_logs}
use Rattle.core_definitions.specs.Opening.{MayOpen, OnFresh, OnImage, Puts, disk_put, is_put, next_param, put_over}
use Rattle.core_laws.specs.Openings.{FreshDisksArePut, ImagesArePut, LogsReadAsZero}

-- ---- one sector

at_test : (sector k : ℕ) → is_at (nat_cmp sector) k ≡ (k == sector)
at_test sector k = go (is_at (nat_cmp sector) k) refl
  where
    go : (b : Bool) → is_at (nat_cmp sector) k ≡ b → b ≡ (k == sector)
    go true e = grind (arith, nat_tests, e)
    go false e = grind (arith, nat_tests, e)

three : (p q r : Bool) (a b c z : Block) → unwrap_or (cond p (Some c) (cond q (Some b) (cond r (Some a) None))) z ≡ cond p c (cond q b (cond r a z))
three true q r a b c z = refl
three false true r a b c z = refl
three false false true a b c z = refl
three false false false a b c z = refl

-- three puts are the sectors of the same list the other way round
put_three : (x y z : ℕ) (a b c : Block) (sector : ℕ) → disk_put ((x, a) ∷ (y, b) ∷ (z, c) ∷ []) sector ≡ sectors_of ((z, c) ∷ (y, b) ∷ (x, a) ∷ []) sector
put_three x y z a b c sector =
    sym
    (three (is_at (nat_cmp sector) z) (is_at (nat_cmp sector) y) (is_at (nat_cmp sector) x) a b c zero_block
    ∙ ap (λ p. cond p c (cond (is_at (nat_cmp sector) y) b (cond (is_at (nat_cmp sector) x) a zero_block))) (at_test sector z)
    ∙ ap (λ q. cond (z == sector) c (cond q b (cond (is_at (nat_cmp sector) x) a zero_block))) (at_test sector y)
    ∙ ap (λ r. cond (z == sector) c (cond (y == sector) b (cond r a zero_block))) (at_test sector x))

pub fresh_disks_are_put : FreshDisksArePut
fresh_disks_are_put segments sector =
    put_three (sector_of (region.Inode ROOT_INODE)) (sector_of (region.Segment 0)) (sector_of region.Param) (inode_bytes root_inode) (bitmap_bytes first_bitmap)
    (param_bytes (fresh_param segments)) sector

-- ---- puts of those that pass

-- the block that is left, over what was there
abbrev pick : (Block → Bool) → Block → Option Block → Block
pick passes old None = old
pick passes old (Some block) = if passes block then block else old

entry_put : (t b : Bool) (block old : Block) (found : Option Block) (passes : Block → Bool) → (t ≡ true → found ≡ None) → (t ≡ true → passes block ≡ b) →
    pick passes (if b then (if t then block else old) else old) found ≡ pick passes old (if t then Some block else found)
entry_put true b block old found passes none same =
    ap (λ f. pick passes (if b then block else old) f) (none refl) ∙ ap (λ c. if c then block else old) (sym (same refl))
entry_put false true block old found passes none same = refl
entry_put false false block old found passes none same = refl

put_first : (b : Bool) (old : Sectors) (e : ℕ × Block) (es : Puts) (sector : ℕ) →
    put_over old (if b then e ∷ es else es) sector ≡ put_over (if b then written old e.0 e.1 else old) es sector
put_first true old e es sector = refl
put_first false old e es sector = refl

first_at : (b : Bool) (old : Sectors) (e : ℕ × Block) (sector : ℕ) →
    (if b then written old e.0 e.1 else old) sector ≡ (if b then (if is_at (nat_cmp sector) e.0 then e.1 else old sector) else old sector)
first_at true old e sector = ap (λ t. if t then e.1 else old sector) (sym (at_test sector e.0))
first_at false old e sector = refl

put_passing : (passes : ℕ × Block → Bool) (disk : List (ℕ × Block)) (old : Sectors) (sector : ℕ) → Ascend disk →
    put_over old (filter passes disk) sector ≡ pick (λ block. passes (sector, block)) (old sector) (value_at disk sector)
unfolding IsStrictlySortedBy
put_passing passes [] old sector sorted = refl
put_passing passes (e ∷ es) old sector sorted =
    put_first (passes e) old e (filter passes es) sector
    ∙ put_passing passes es (if passes e then written old e.0 e.1 else old) sector sorted.1
    ∙ ap (λ d. pick (λ block. passes (sector, block)) d (value_at es sector)) (first_at (passes e) old e sector)
    ∙ entry_put (is_at (nat_cmp sector) e.0) (passes e) e.1 (old sector) (value_at es sector) (λ block. passes (sector, block))
    (λ t. absent sector es (subst (λ k. AllByRecursion (λ key. nat_cmp k key ≡ Less) (keys_of es)) (sym (at_only sector e.0 t)) sorted.0))
    (λ t. ap (λ k. passes (k, e.1)) (at_only sector e.0 t))

put_last : (old : Sectors) (es : Puts) (e : ℕ × Block) (sector : ℕ) → put_over old (es ++ e ∷ []) sector ≡ written (put_over old es) e.0 e.1 sector
put_last old [] e sector = refl
put_last old (x ∷ xs) e sector = put_last (written old x.0 x.1) xs e sector

-- ---- the disk of an image

all_zero : (bytes : List ℕ) → are_zero bytes ≡ true → bytes ≡ zeros (length bytes)
unfolding zeros
all_zero [] zero = refl
all_zero (b ∷ bytes) zero =
    let parts = and_parts (b == 0) (are_zero bytes) zero in
    ap (λ n. n ∷ bytes) (eqb-true b 0 parts.0) ∙ ap (λ more. 0 ∷ more) (all_zero bytes parts.1)

-- a block that is there is whole
whole_at : (disk : List (ℕ × Block)) (sector : ℕ) (block : Block) → AllByRecursion (λ b. length b ≡ SECTOR_BYTES) (values_of disk) → value_at disk sector ≡ Some block → length block ≡ SECTOR_BYTES
whole_at [] sector block whole e = absurd (none-some block e)
whole_at (x ∷ xs) sector block whole e = go (is_at (nat_cmp sector) x.0) e (λ same. whole_at xs sector block whole.1 same)
  where
    go : (t : Bool) → (if t then Some x.1 else value_at xs sector) ≡ Some block → (value_at xs sector ≡ Some block → length block ≡ SECTOR_BYTES) →
        length block ≡ SECTOR_BYTES
    go true same others = subst (λ b. length b ≡ SECTOR_BYTES) (ap (λ o. unwrap_or o x.1) same) whole.0
    go false same others = others same

module _ (image : Sectors) (p : Param) (tree : FileTree) (disk : List (ℕ × Block)) (may : MayOpen image p tree disk) (sector : ℕ) (other : (sector_of region.Param == sector) ≡ false) where
  -- what isn't put is zero
  left_zero : (block : Block) → value_at disk sector ≡ Some block → (z l : Bool) → are_zero block ≡ z → is_log (region_of SEGMENTS_MAX sector) ≡ l →
      (if not z && not (sector == sector_of region.Param) && not l then block else zero_block) ≡ block
  left_zero block e true l zero log = sym (all_zero block zero ∙ ap zeros (whole_at disk sector block (recursion_from_All _ (values_of disk) may.blocks) e))
  left_zero block e false true zero log = logged
    where
      is_zero : block ≡ zero_block
      is_zero = sym (ap (λ o. unwrap_or o zero_block) e) ∙ may.replays sector ∙ ap (λ t. if t then zeros SECTOR_BYTES else with_logs (param_in (image 0)) image sector) log

      logged : (if not (sector == sector_of region.Param) && false then block else zero_block) ≡ block
      logged = go (sector == sector_of region.Param)
        where
          go : (t : Bool) → (if not t && false then block else zero_block) ≡ block
          go true = sym is_zero
          go false = sym is_zero
  left_zero block e false false zero log = go (sector == sector_of region.Param) refl
    where
      go : (t : Bool) → (sector == sector_of region.Param) ≡ t → (if not t && true then block else zero_block) ≡ block
      go true same = absurd (false≢true (sym other ∙ ap (λ n. sector_of region.Param == n) (eqb-true sector (sector_of region.Param) same)))
      go false same = refl

  left_at : (found : Option Block) → value_at disk sector ≡ found → pick (λ block. is_put (sector, block)) zero_block found ≡ unwrap_or found zero_block
  left_at None e = refl
  left_at (Some block) e = left_zero block e (are_zero block) (is_log (region_of SEGMENTS_MAX sector)) refl refl

  other_put : put_over (λ s. zero_block) (filter is_put disk) sector ≡ replayed image sector
  other_put = put_passing is_put disk (λ s. zero_block) sector may.ascending ∙ left_at (value_at disk sector) refl ∙ may.replays sector

pub images_are_put : ImagesArePut
images_are_put image p tree disk may sector =
    put_last (λ s. zero_block) (filter is_put disk) (sector_of region.Param, param_bytes (next_param p)) sector ∙ go (sector_of region.Param == sector) refl
  where
    go : (t : Bool) → (sector_of region.Param == sector) ≡ t →
        (if t then param_bytes (next_param p) else put_over (λ s. zero_block) (filter is_put disk) sector) ≡ (if t then param_bytes (next_param p) else replayed image sector)
    go true same = refl
    go false same = other_put image p tree disk may sector same

-- ---- logs

-- a sector that isn't one of a log is another than one that is
no_log : (k : ℕ) → is_log (region_of SEGMENTS_MAX k) ≡ false → (sector : ℕ) → is_log (region_of SEGMENTS_MAX sector) ≡ true → (k == sector) ≡ false
no_log k none sector log = go (k == sector) refl
  where
    same : (k == sector) ≡ true → k ≡ sector
    same e = grind (arith, nat_tests, e)

    go : (t : Bool) → (k == sector) ≡ t → t ≡ false
    go true e = absurd (false≢true (sym none ∙ ap (λ n. is_log (region_of SEGMENTS_MAX n)) (same e) ∙ log))
    go false e = refl

apart_from_three : (x y z : ℕ) (a b c : Block) (sector : ℕ) → (x == sector) ≡ false → (y == sector) ≡ false → (z == sector) ≡ false →
    disk_put ((x, a) ∷ (y, b) ∷ (z, c) ∷ []) sector ≡ zero_block
apart_from_three x y z a b c sector first second third =
    ap (λ t. cond t c (cond (y == sector) b (cond (x == sector) a zero_block))) third ∙ ap (λ t. cond t b (cond (x == sector) a zero_block)) second
    ∙ ap (λ t. cond t a zero_block) first

pub logs_read_as_zero : LogsReadAsZero
logs_read_as_zero start (OnFresh script segments fits) sector log =
    apart_from_three (sector_of (region.Inode ROOT_INODE)) (sector_of (region.Segment 0)) (sector_of region.Param) (inode_bytes root_inode) (bitmap_bytes first_bitmap)
    (param_bytes (fresh_param segments)) sector (no_log (sector_of (region.Inode ROOT_INODE)) refl sector log) (no_log (sector_of (region.Segment 0)) refl sector log)
    (no_log (sector_of region.Param) refl sector log)
logs_read_as_zero start (OnImage script image p tree disk may) sector log =
    images_are_put image p tree disk may sector
    ∙ ap (λ t. if t then param_bytes (next_param p) else replayed image sector) (no_log (sector_of region.Param) refl sector log)
    ∙ ap (λ t. if t then zeros SECTOR_BYTES else with_logs (param_in (image 0)) image sector) log
