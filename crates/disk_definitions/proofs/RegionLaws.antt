-- A sector's place has that sector, and a place in range is found at its sector.
use Rattle.std.proofs.Common.{◌≡◌, ◌↔◌, ℕ, ◌+◌, ◌-◌, ◌*◌, ◌/◌, ◌%◌, ◌<◌, ◌≤◌, Bool, true, false, ◌&&◌, ◌==◌, if◌then◌else◌, nat_le, nat_lt, Option, Some, None, refl, sym, ap, ◌∙◌, subst, arith}
use Rattle.std.proofs.lemmas.Nat.{div-add-mod', div-mul-add, mod-mul-add}
use Rattle.std.proofs.lemmas.Bool.Decides.{nat_tests}
use Rattle.std.proofs.lemmas.Bool.{ltb-true, ne_eqb, lt-ltb, le-leb, leb-true, eqb-true}
use Rattle.frang_base.specs.declared.lock.LockId.{LockId}
use Rattle.frang_base.specs.declared.lock.LockId.TheVariants as lock
use Rattle.frang_base.proofs.Basics.{by_test, by_some}
use Rattle.disk_definitions.specs.declared.region.Region.{Region}
use Rattle.disk_definitions.specs.declared.region.Region.TheVariants as region
use Rattle.disk_definitions.specs.Regions.{logs_from, bitmaps_from, inodes_from, small_blocks_from, large_blocks_from, log_stride, large_stride, sector_of, log_at, large_at, is_among, region_of, is_in_range, free_cover}

-- tests of a chain that fail and that hold
past : (b : Bool) (x y z : Option Region) → b ≡ false → y ≡ z → (if b then x else y) ≡ z
past b x y z e h = ap (λ (t : Bool). if t then x else y) e ∙ h

here : (b : Bool) (x y z : Option Region) → b ≡ true → x ≡ z → (if b then x else y) ≡ z
here b x y z e h = ap (λ (t : Bool). if t then x else y) e ∙ h

beyond : (first count s : ℕ) → first + count ≤ s → is_among first count s ≡ false
beyond first count s h = grind (arith, nat_tests)

among : (first count s : ℕ) → first ≤ s → s < first + count → is_among first count s ≡ true
among first count s h g = grind (arith, nat_tests)

within : (first count s : ℕ) → is_among first count s ≡ true → (first ≤ s) × (s < first + count)
within first count s h = grind (arith, nat_tests)

-- a quotient and a rest
parts_of : (a b m n : ℕ) → b < m → n ≡ a * m + b → (n / m ≡ a) × (n % m ≡ b)
parts_of a b m n h e =
    (ap (λ (k : ℕ). k / m) e ∙ div-mul-add a m b h, ap (λ (k : ℕ). k % m) e ∙ mod-mul-add a m b h)

-- two numbers, each below its bound
pair_below : (a b m n : ℕ) → a < m → b < n → (nat_lt a m && nat_lt b n) ≡ true
pair_below a b m n h g = grind (arith, nat_tests)

pair_is_below : (a b m n : ℕ) → (nat_lt a m && nat_lt b n) ≡ true → (a < m) × (b < n)
pair_is_below a b m n h = grind (arith, nat_tests)

-- a place in the logs or in the large blocks, from its parts
found_at : (make : ℕ → ℕ → Region) (a b m n k l : ℕ) → k / l ≡ a → k % l ≡ b → a < m → b < n
    → (if nat_lt (k / l) m && nat_lt (k % l) n then Some (make (k / l) (k % l)) else None) ≡ Some (make a b)
found_at make a b m n k l q r h g =
    ap (λ (x : ℕ). if nat_lt x m && nat_lt (k % l) n then Some (make x (k % l)) else None) q ∙ ap (λ (y : ℕ). if nat_lt a m && nat_lt y n then Some (make a y) else None) r
    ∙ ap (λ (t : Bool). if t then Some (make a b) else None) (pair_below a b m n h g)

found_log : (segments server slot : ℕ) → server < 256 → slot < 256 → region_of segments (sector_of (region.Log server slot)) ≡ Some (region.Log server slot)
found_log segments server slot h g =
    let s = logs_from + server * log_stride + slot in
    let n : s - logs_from ≡ server * log_stride + slot = omega arith in
    let p = parts_of server slot log_stride (s - logs_from) (omega arith) n in
    past (s == 0) _ _ _ (ne_eqb s 0 (λ e. absurd (omega arith)))
    (here (is_among logs_from (256 * log_stride) s) _ _ _ (among logs_from (256 * log_stride) s (omega arith) (omega arith))
    (found_at region.Log server slot 256 256 (s - logs_from) log_stride p.0 p.1 h g))

found_segment : (segments k : ℕ) → segments ≤ 64 → k < segments → region_of segments (sector_of (region.Segment k)) ≡ Some (region.Segment k)
found_segment segments k h g =
    let s = bitmaps_from + k in
    past (s == 0) _ _ _ (ne_eqb s 0 (λ e. absurd (omega arith)))
    (past (is_among logs_from (256 * log_stride) s) _ _ _ (beyond logs_from (256 * log_stride) s (omega arith))
    (here (is_among bitmaps_from segments s) _ _ _ (among bitmaps_from segments s (omega arith) (omega arith)) (ap (λ (n : ℕ). Some (region.Segment n)) (omega arith))))

found_inode : (segments i : ℕ) → segments ≤ 64 → i < 64 * segments → region_of segments (sector_of (region.Inode i)) ≡ Some (region.Inode i)
found_inode segments i h g =
    let s = inodes_from + i in
    past (s == 0) _ _ _ (ne_eqb s 0 (λ e. absurd (omega arith)))
    (past (is_among logs_from (256 * log_stride) s) _ _ _ (beyond logs_from (256 * log_stride) s (omega arith))
    (past (is_among bitmaps_from segments s) _ _ _ (beyond bitmaps_from segments s (omega arith))
    (here (is_among inodes_from (64 * segments) s) _ _ _ (among inodes_from (64 * segments) s (omega arith) (omega arith)) (ap (λ (n : ℕ). Some (region.Inode n)) (omega arith)))))

found_small : (segments block part : ℕ) → segments ≤ 64 → block < 1024 * segments → part < 8 → region_of segments (sector_of (region.Small block part)) ≡ Some (region.Small block part)
found_small segments block part h g l =
    let s = small_blocks_from + block * 8 + part in
    let n : s - small_blocks_from ≡ block * 8 + part = omega arith in
    let p = parts_of block part 8 (s - small_blocks_from) l n in
    past (s == 0) _ _ _ (ne_eqb s 0 (λ e. absurd (omega arith)))
    (past (is_among logs_from (256 * log_stride) s) _ _ _ (beyond logs_from (256 * log_stride) s (omega arith))
    (past (is_among bitmaps_from segments s) _ _ _ (beyond bitmaps_from segments s (omega arith))
    (past (is_among inodes_from (64 * segments) s) _ _ _ (beyond inodes_from (64 * segments) s (omega arith))
    (here (is_among small_blocks_from (8192 * segments) s) _ _ _ (among small_blocks_from (8192 * segments) s (omega arith) (omega arith))
    (ap (λ (x : ℕ). Some (region.Small x ((s - small_blocks_from) % 8))) p.0 ∙ ap (λ (y : ℕ). Some (region.Small block y)) p.1)))))

found_large : (segments block part : ℕ) → segments ≤ 64 → block < segments → part < 2048 → region_of segments (sector_of (region.Large block part)) ≡ Some (region.Large block part)
found_large segments block part h g l =
    let s = large_blocks_from + block * large_stride + part in
    let n : s - large_blocks_from ≡ block * large_stride + part = omega arith in
    let p = parts_of block part large_stride (s - large_blocks_from) (omega arith) n in
    past (s == 0) _ _ _ (ne_eqb s 0 (λ e. absurd (omega arith)))
    (past (is_among logs_from (256 * log_stride) s) _ _ _ (beyond logs_from (256 * log_stride) s (omega arith))
    (past (is_among bitmaps_from segments s) _ _ _ (beyond bitmaps_from segments s (omega arith))
    (past (is_among inodes_from (64 * segments) s) _ _ _ (beyond inodes_from (64 * segments) s (omega arith))
    (past (is_among small_blocks_from (8192 * segments) s) _ _ _ (beyond small_blocks_from (8192 * segments) s (omega arith))
    (here (nat_le large_blocks_from s) _ _ _ (le-leb large_blocks_from s (omega arith))
    (found_at region.Large block part segments 2048 (s - large_blocks_from) large_stride p.0 p.1 g l))))))

-- a place in range is found at its sector
pub region_found : (segments : ℕ) (r : Region) → segments ≤ 64 → is_in_range segments r ≡ true → region_of segments (sector_of r) ≡ Some r
region_found segments region.Param h g = refl
region_found segments (region.Log server slot) h g = let p = pair_is_below server slot 256 256 g in found_log segments server slot p.0 p.1
region_found segments (region.Segment k) h g = found_segment segments k h (ltb-true k segments g)
region_found segments (region.Inode i) h g = found_inode segments i h (ltb-true i (64 * segments) g)
region_found segments (region.Small block part) h g = let p = pair_is_below block part (1024 * segments) 8 g in found_small segments block part h p.0 p.1
region_found segments (region.Large block part) h g = let p = pair_is_below block part segments 2048 g in found_large segments block part h p.0 p.1

-- the sector is that of the place, which is in range
abbrev pub IsPlaceOf : ℕ → ℕ → Region → Type 0
IsPlaceOf segments s r = (sector_of r ≡ s) × (is_in_range segments r ≡ true)

-- what is found is the place of the sector
abbrev Leads : ℕ → ℕ → Region → Option Region → Type 0
Leads segments s r o = o ≡ Some r → IsPlaceOf segments s r

leads : (segments s : ℕ) (r q : Region) → IsPlaceOf segments s q → Leads segments s r (Some q)
leads segments s r q h e = let same : q ≡ r = cc in subst (IsPlaceOf segments s) same h

nowhere : (segments s : ℕ) (r : Region) → Leads segments s r None
nowhere segments s r e = absurd cc

log_leads : (segments s : ℕ) (r : Region) → logs_from ≤ s → Leads segments s r (log_at (s - logs_from))
log_leads segments s r h =
    let n = s - logs_from in
    by_test (Leads segments s r) (Some (region.Log (n / log_stride) (n % log_stride))) None (nat_lt (n / log_stride) 256 && nat_lt (n % log_stride) 256)
    (λ t. leads segments s r (region.Log (n / log_stride) (n % log_stride)) (omega (arith, div-add-mod' n log_stride), t))
    (λ t. nowhere segments s r)

large_leads : (segments s : ℕ) (r : Region) → large_blocks_from ≤ s → Leads segments s r (large_at segments (s - large_blocks_from))
large_leads segments s r h =
    let n = s - large_blocks_from in
    by_test (Leads segments s r) (Some (region.Large (n / large_stride) (n % large_stride))) None (nat_lt (n / large_stride) segments && nat_lt (n % large_stride) 2048)
    (λ t. leads segments s r (region.Large (n / large_stride) (n % large_stride)) (omega (arith, div-add-mod' n large_stride), t))
    (λ t. nowhere segments s r)

small_leads : (segments s : ℕ) (r : Region) → is_among small_blocks_from (8192 * segments) s ≡ true → Leads segments s r (Some (region.Small ((s - small_blocks_from) / 8) ((s - small_blocks_from) % 8)))
small_leads segments s r t =
    let n = s - small_blocks_from in
    let w = within small_blocks_from (8192 * segments) s t in
    leads segments s r (region.Small (n / 8) (n % 8)) (omega arith, pair_below (n / 8) (n % 8) (1024 * segments) 8 (omega arith) (omega arith))

-- what is found at a sector is its place
pub region_read : (segments s : ℕ) (r : Region) → region_of segments s ≡ Some r → IsPlaceOf segments s r
region_read segments s r =
    by_test (Leads segments s r) _ _ (s == 0) (λ t. leads segments s r region.Param (sym (eqb-true s 0 t), refl)) (λ t0.
    by_test (Leads segments s r) _ _ (is_among logs_from (256 * log_stride) s) (λ t. log_leads segments s r (within logs_from (256 * log_stride) s t).0) (λ t1.
    by_test (Leads segments s r) _ _ (is_among bitmaps_from segments s)
    (λ t. let w = within bitmaps_from segments s t in leads segments s r (region.Segment (s - bitmaps_from)) (omega arith, lt-ltb (s - bitmaps_from) segments (omega arith))) (λ t2.
    by_test (Leads segments s r) _ _ (is_among inodes_from (64 * segments) s)
    (λ t. let w = within inodes_from (64 * segments) s t in leads segments s r (region.Inode (s - inodes_from)) (omega arith, lt-ltb (s - inodes_from) (64 * segments) (omega arith))) (λ t3.
    by_test (Leads segments s r) _ _ (is_among small_blocks_from (8192 * segments) s) (small_leads segments s r) (λ t4.
    by_test (Leads segments s r) _ _ (nat_le large_blocks_from s) (λ t. large_leads segments s r (leb-true large_blocks_from s t)) (λ t5. nowhere segments s r))))))

-- no two places in range have one sector
pub region_once : (segments : ℕ) (q r : Region) → segments ≤ 64 → is_in_range segments q ≡ true → is_in_range segments r ≡ true → sector_of q ≡ sector_of r → q ≡ r
region_once segments q r h g k e = let same : Some q ≡ Some r = sym (region_found segments q h g) ∙ ap (region_of segments) e ∙ region_found segments r h k in cc

-- a segment that covers a free sector in range is one of the disk's
pub cover_within : (segments : ℕ) (r : Region) (l : LockId) → is_in_range segments r ≡ true → free_cover r ≡ Some l → (k : ℕ) × (l ≡ lock.Segment k) × (k < segments)
cover_within segments region.Param l h e = absurd cc
cover_within segments (region.Log server slot) l h e = absurd cc
cover_within segments (region.Segment k) l h e = (k, cc, ltb-true k segments h)
cover_within segments (region.Inode i) l h e = let g = ltb-true i (64 * segments) h in (i / 64, cc, omega arith)
cover_within segments (region.Small block part) l h e = let g = (pair_is_below block part (1024 * segments) 8 h).0 in (block / 1024, cc, omega arith)
cover_within segments (region.Large block part) l h e = (block, cc, (pair_is_below block part segments 2048 h).0)

-- a segment covers its 64 inodes, its 1,024 small blocks and its large one
pub cover_of_inode : (k j : ℕ) → j < 64 → free_cover (region.Inode (k * 64 + j)) ≡ Some (lock.Segment k)
cover_of_inode k j h = ap (λ (n : ℕ). Some (lock.Segment n)) (div-mul-add k 64 j h)

pub cover_of_small : (k j part : ℕ) → j < 1024 → free_cover (region.Small (k * 1024 + j) part) ≡ Some (lock.Segment k)
cover_of_small k j part h = ap (λ (n : ℕ). Some (lock.Segment n)) (div-mul-add k 1024 j h)

-- nothing is found exactly where no place in range has the sector
pub region_none : (segments s : ℕ) → segments ≤ 64 → (region_of segments s ≡ None) ↔ ((r : Region) → is_in_range segments r ≡ true → sector_of r ≡ s → ⊥)
region_none segments s h = (
  λ e r g q. let f : Some r ≡ None = sym (region_found segments r h g) ∙ ap (region_of segments) q ∙ e in cc,
  λ f. by_some (λ o. o ≡ None) (region_of segments s) (λ e. refl) (λ r e. let p = region_read segments s r e in absurd (f r p.1 p.0)),
)
