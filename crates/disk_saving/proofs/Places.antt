-- The places by their numbers are those in range, each of them once, and their sectors ascend.
use Rattle.std.proofs.Common.{◌≡◌, ℕ, ◌+◌, ◌-◌, ◌*◌, ◌/◌, ◌%◌, ◌<◌, ◌≤◌, Bool, true, ◌&&◌, ◌==◌, if◌then◌else◌, nat_lt, refl, ap, ◌∙◌, arith}
use Rattle.std.proofs.lemmas.Bool.{and_from, and_parts, le-ltb, lt-ltb, ltb-false, ltb-true, ne_eqb, eqb-false, eqb-true}
use Rattle.std.proofs.lemmas.Nat.{div-mul-add, mod-mul-add}
use Rattle.frang_base.proofs.Basics.{by_test}
use Rattle.disk_definitions.specs.declared.region.Region.{Region}
use Rattle.disk_definitions.specs.declared.region.Region.TheVariants as region
use Rattle.disk_definitions.specs.Regions.{logs_from, bitmaps_from, inodes_from, small_blocks_from, large_blocks_from, is_in_range, sector_of}
use Rattle.disk_saving.specs.Places.{place_count, place_at, log_from, segment_from, inode_from, small_from, large_from}

-- ---- each is in range

both_below : (a b m n : ℕ) → a < m → b < n → (nat_lt a m && nat_lt b n) ≡ true
both_below a b m n h g = and_from (nat_lt a m) (nat_lt b n) (lt-ltb a m h) (lt-ltb b n g)

-- a place of a region, or of what lies behind it
in_range_either : (segments count n : ℕ) (q r : Region) → (n < count → is_in_range segments q ≡ true) → (count ≤ n → is_in_range segments r ≡ true)
    → is_in_range segments (if nat_lt n count then q else r) ≡ true
in_range_either segments count n q r f g =
    by_test (λ p. is_in_range segments p ≡ true) q r (nat_lt n count) (λ t. f (ltb-true n count t)) (λ t. g (ltb-false n count t))

large_in_range : (segments n : ℕ) → n < 2048 * segments → is_in_range segments (large_from n) ≡ true
large_in_range segments n h = both_below (n / 2048) (n % 2048) segments 2048 (omega arith) (omega arith)

small_in_range : (segments n : ℕ) → n < 8192 * segments + 2048 * segments → is_in_range segments (small_from segments n) ≡ true
small_in_range segments n h =
    in_range_either segments (8192 * segments) n _ _
    (λ few. both_below (n / 8) (n % 8) (1024 * segments) 8 (omega arith) (omega arith))
    (λ many. large_in_range segments (n - 8192 * segments) (omega arith))

inode_in_range : (segments n : ℕ) → n < 64 * segments + 8192 * segments + 2048 * segments → is_in_range segments (inode_from segments n) ≡ true
inode_in_range segments n h =
    in_range_either segments (64 * segments) n _ _ (λ few. lt-ltb n (64 * segments) few) (λ many. small_in_range segments (n - 64 * segments) (omega arith))

segment_in_range : (segments n : ℕ) → n < segments + 64 * segments + 8192 * segments + 2048 * segments → is_in_range segments (segment_from segments n) ≡ true
segment_in_range segments n h = in_range_either segments segments n _ _ (λ few. lt-ltb n segments few) (λ many. inode_in_range segments (n - segments) (omega arith))

log_in_range : (segments n : ℕ) → n < 65536 + segments + 64 * segments + 8192 * segments + 2048 * segments → is_in_range segments (log_from segments n) ≡ true
log_in_range segments n h =
    in_range_either segments 65536 n _ _ (λ few. both_below (n / 256) (n % 256) 256 256 (omega arith) (omega arith)) (λ many. segment_in_range segments (n - 65536) (omega arith))

pub place_in_range : (segments n : ℕ) → n < place_count segments → is_in_range segments (place_at segments n) ≡ true
place_in_range segments n h =
    by_test (λ p. is_in_range segments p ≡ true) region.Param (log_from segments (n - 1)) (n == 0) (λ t. refl)
    (λ t. let some = eqb-false n 0 t in log_in_range segments (n - 1) (omega arith))

-- ---- each place in range has a number

-- the number of a place below the count
pub record IsNumbered (segments : ℕ) (r : Region) : Type 0 where
  pub number : ℕ
  pub below : number < place_count segments
  pub at : place_at segments number ≡ r

-- the number lies in the region, or behind it
stands : (x f : ℕ → Region) (count n : ℕ) → n < count → (if nat_lt n count then x n else f (n - count)) ≡ x n
stands x f count n h = ap (λ (t : Bool). if t then x n else f (n - count)) (lt-ltb n count h)

lies_behind : (x f : ℕ → Region) (count n j : ℕ) → n ≡ count + j → (if nat_lt n count then x n else f (n - count)) ≡ f j
lies_behind x f count n j e =
    let rest : n - count ≡ j = omega arith in
    ap (λ (t : Bool). if t then x n else f (n - count)) (le-ltb n count (omega arith)) ∙ ap f rest

behind_param : (segments n j : ℕ) → n ≡ 1 + j → place_at segments n ≡ log_from segments j
behind_param segments n j e =
    let rest : n - 1 ≡ j = omega arith in
    ap (λ (t : Bool). if t then region.Param else log_from segments (n - 1)) (ne_eqb n 0 (λ z. absurd (omega arith))) ∙ ap (log_from segments) rest

behind_logs : (segments n j : ℕ) → n ≡ 65536 + j → log_from segments n ≡ segment_from segments j
behind_logs segments n j e = lies_behind (λ i. region.Log (i / 256) (i % 256)) (segment_from segments) 65536 n j e

behind_bitmap : (segments n j : ℕ) → n ≡ segments + j → segment_from segments n ≡ inode_from segments j
behind_bitmap segments n j e = lies_behind region.Segment (inode_from segments) segments n j e

behind_inodes : (segments n j : ℕ) → n ≡ 64 * segments + j → inode_from segments n ≡ small_from segments j
behind_inodes segments n j e = lies_behind region.Inode (small_from segments) (64 * segments) n j e

behind_small : (segments n j : ℕ) → n ≡ 8192 * segments + j → small_from segments n ≡ large_from j
behind_small segments n j e = lies_behind (λ i. region.Small (i / 8) (i % 8)) large_from (8192 * segments) n j e

-- a place from its parts
of_parts : (make : ℕ → ℕ → Region) (a b k : ℕ) → b < k → make ((a * k + b) / k) ((a * k + b) % k) ≡ make a b
of_parts make a b k h = ap (λ (q : ℕ). make q ((a * k + b) % k)) (div-mul-add a k b h) ∙ ap (make a) (mod-mul-add a k b h)

log_numbered : (segments server slot : ℕ) → server < 256 → slot < 256 → IsNumbered segments (region.Log server slot)
log_numbered segments server slot h g =
    let n = server * 256 + slot in
    record {
      number = 1 + n;
      below = omega arith;
      at = behind_param segments (1 + n) n refl ∙ stands (λ i. region.Log (i / 256) (i % 256)) (segment_from segments) 65536 n (omega arith) ∙ of_parts region.Log server slot 256 g;
    }

segment_numbered : (segments k : ℕ) → k < segments → IsNumbered segments (region.Segment k)
segment_numbered segments k h = record {
  number = 1 + (65536 + k);
  below = omega arith;
  at = behind_param segments (1 + (65536 + k)) (65536 + k) refl ∙ behind_logs segments (65536 + k) k refl ∙ stands region.Segment (inode_from segments) segments k h;
}

inode_numbered : (segments i : ℕ) → i < 64 * segments → IsNumbered segments (region.Inode i)
inode_numbered segments i h =
    let n = segments + i in
    record {
      number = 1 + (65536 + n);
      below = omega arith;
      at = behind_param segments (1 + (65536 + n)) (65536 + n) refl ∙ behind_logs segments (65536 + n) n refl ∙ behind_bitmap segments n i refl
          ∙ stands region.Inode (small_from segments) (64 * segments) i h;
    }

small_numbered : (segments block part : ℕ) → block < 1024 * segments → part < 8 → IsNumbered segments (region.Small block part)
small_numbered segments block part h g =
    let j = block * 8 + part in
    let i = 64 * segments + j in
    let n = segments + i in
    record {
      number = 1 + (65536 + n);
      below = omega arith;
      at = behind_param segments (1 + (65536 + n)) (65536 + n) refl ∙ behind_logs segments (65536 + n) n refl ∙ behind_bitmap segments n i refl ∙ behind_inodes segments i j refl
          ∙ stands (λ m. region.Small (m / 8) (m % 8)) large_from (8192 * segments) j (omega arith) ∙ of_parts region.Small block part 8 g;
    }

large_numbered : (segments block part : ℕ) → block < segments → part < 2048 → IsNumbered segments (region.Large block part)
large_numbered segments block part h g =
    let k = block * 2048 + part in
    let j = 8192 * segments + k in
    let i = 64 * segments + j in
    let n = segments + i in
    record {
      number = 1 + (65536 + n);
      below = omega arith;
      at = behind_param segments (1 + (65536 + n)) (65536 + n) refl ∙ behind_logs segments (65536 + n) n refl ∙ behind_bitmap segments n i refl ∙ behind_inodes segments i j refl
          ∙ behind_small segments j k refl ∙ of_parts region.Large block part 2048 g;
    }

pub place_numbered : (segments : ℕ) (r : Region) → is_in_range segments r ≡ true → IsNumbered segments r
place_numbered segments region.Param t = record { number = 0; below = omega arith; at = refl }
place_numbered segments (region.Log server slot) t =
    let parts = and_parts (nat_lt server 256) (nat_lt slot 256) t in
    log_numbered segments server slot (ltb-true server 256 parts.0) (ltb-true slot 256 parts.1)
place_numbered segments (region.Segment k) t = segment_numbered segments k (ltb-true k segments t)
place_numbered segments (region.Inode i) t = inode_numbered segments i (ltb-true i (64 * segments) t)
place_numbered segments (region.Small block part) t =
    let parts = and_parts (nat_lt block (1024 * segments)) (nat_lt part 8) t in
    small_numbered segments block part (ltb-true block (1024 * segments) parts.0) (ltb-true part 8 parts.1)
place_numbered segments (region.Large block part) t =
    let parts = and_parts (nat_lt block segments) (nat_lt part 2048) t in
    large_numbered segments block part (ltb-true block segments parts.0) (ltb-true part 2048 parts.1)

-- ---- their sectors ascend

-- of two places in one region, or in one and what lies behind it, or behind it both, the first has the lesser sector
ascend_either : (x f : ℕ → Region) (count m n : ℕ) → m < n → (n < count → sector_of (x m) < sector_of (x n)) → (m < count → count ≤ n → sector_of (x m) < sector_of (f (n - count)))
    → (count ≤ m → sector_of (f (m - count)) < sector_of (f (n - count)))
    → sector_of (if nat_lt m count then x m else f (m - count)) < sector_of (if nat_lt n count then x n else f (n - count))
ascend_either x f count m n l both first last =
    by_test (λ p. sector_of p < sector_of (if nat_lt n count then x n else f (n - count))) (x m) (f (m - count)) (nat_lt m count)
    (λ s.
    by_test (λ q. sector_of (x m) < sector_of q) (x n) (f (n - count)) (nat_lt n count) (λ t. both (ltb-true n count t))
    (λ t. first (ltb-true m count s) (ltb-false n count t)))
    (λ s.
    let behind = ltb-false m count s in
    by_test (λ q. sector_of (f (m - count)) < sector_of q) (x n) (f (n - count)) (nat_lt n count) (λ t. let within = ltb-true n count t in absurd (omega arith)) (λ t. last behind))

-- no place from a region on has a sector before its first
from_first : (first count n : ℕ) (q r : Region) → first ≤ sector_of q → first ≤ sector_of r → first ≤ sector_of (if nat_lt n count then q else r)
from_first first count n q r f g = by_test (λ p. first ≤ sector_of p) q r (nat_lt n count) (λ t. f) (λ t. g)

large_first : (n : ℕ) → large_blocks_from ≤ sector_of (large_from n)
large_first n = omega arith

small_first : (segments n : ℕ) → small_blocks_from ≤ sector_of (small_from segments n)
small_first segments n =
    let behind = large_first (n - 8192 * segments) in
    from_first small_blocks_from (8192 * segments) n (region.Small (n / 8) (n % 8)) (large_from (n - 8192 * segments)) (omega arith) (omega arith)

inode_first : (segments n : ℕ) → inodes_from ≤ sector_of (inode_from segments n)
inode_first segments n =
    let behind = small_first segments (n - 64 * segments) in
    from_first inodes_from (64 * segments) n (region.Inode n) (small_from segments (n - 64 * segments)) (omega arith) (omega arith)

segment_first : (segments n : ℕ) → bitmaps_from ≤ sector_of (segment_from segments n)
segment_first segments n =
    let behind = inode_first segments (n - segments) in
    from_first bitmaps_from segments n (region.Segment n) (inode_from segments (n - segments)) (omega arith) (omega arith)

log_first : (segments n : ℕ) → logs_from ≤ sector_of (log_from segments n)
log_first segments n =
    let behind = segment_first segments (n - 65536) in
    from_first logs_from 65536 n (region.Log (n / 256) (n % 256)) (segment_from segments (n - 65536)) (omega arith) (omega arith)

large_ascend : (m n : ℕ) → m < n → sector_of (large_from m) < sector_of (large_from n)
large_ascend m n l = omega arith

small_ascend : (segments m n : ℕ) → segments ≤ 64 → m < n → sector_of (small_from segments m) < sector_of (small_from segments n)
small_ascend segments m n s l =
    ascend_either (λ i. region.Small (i / 8) (i % 8)) large_from (8192 * segments) m n l (λ few. omega arith)
    (λ few many. let behind = large_first (n - 8192 * segments) in omega arith)
    (λ many. large_ascend (m - 8192 * segments) (n - 8192 * segments) (omega arith))

inode_ascend : (segments m n : ℕ) → segments ≤ 64 → m < n → sector_of (inode_from segments m) < sector_of (inode_from segments n)
inode_ascend segments m n s l =
    ascend_either region.Inode (small_from segments) (64 * segments) m n l (λ few. omega arith) (λ few many. let behind = small_first segments (n - 64 * segments) in omega arith)
    (λ many. small_ascend segments (m - 64 * segments) (n - 64 * segments) s (omega arith))

segment_ascend : (segments m n : ℕ) → segments ≤ 64 → m < n → sector_of (segment_from segments m) < sector_of (segment_from segments n)
segment_ascend segments m n s l =
    ascend_either region.Segment (inode_from segments) segments m n l (λ few. omega arith) (λ few many. let behind = inode_first segments (n - segments) in omega arith)
    (λ many. inode_ascend segments (m - segments) (n - segments) s (omega arith))

log_ascend : (segments m n : ℕ) → segments ≤ 64 → m < n → sector_of (log_from segments m) < sector_of (log_from segments n)
log_ascend segments m n s l =
    ascend_either (λ i. region.Log (i / 256) (i % 256)) (segment_from segments) 65536 m n l (λ few. omega arith)
    (λ few many. let behind = segment_first segments (n - 65536) in omega arith)
    (λ many. segment_ascend segments (m - 65536) (n - 65536) s (omega arith))

pub places_ascend : (segments m n : ℕ) → segments ≤ 64 → m < n → sector_of (place_at segments m) < sector_of (place_at segments n)
places_ascend segments m n s l =
    by_test (λ q. sector_of (place_at segments m) < sector_of q) region.Param (log_from segments (n - 1)) (n == 0) (λ t. let none = eqb-true n 0 t in absurd (omega arith))
    (λ u.
    by_test (λ p. sector_of p < sector_of (log_from segments (n - 1))) region.Param (log_from segments (m - 1)) (m == 0) (λ t. let behind = log_first segments (n - 1) in omega arith)
    (λ t. let some = eqb-false m 0 t in log_ascend segments (m - 1) (n - 1) s (omega arith)))
