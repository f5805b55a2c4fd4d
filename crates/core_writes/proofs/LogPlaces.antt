-- The sectors of logs lie where they do whatever the number of segments.
use Rattle.std.proofs.Common.{◌≡◌, ℕ, ◌<◌, ◌≤◌, ◌+◌, ◌-◌, ◌*◌, ◌/◌, ◌%◌, ◌==◌, ◌&&◌, Bool, true, false, if◌then◌else◌, nat_le, nat_lt, Some, None, Option, refl, sym, ◌∙◌, arith}
use Rattle.std.proofs.lemmas.Bool.{and_parts, false≢true, ltb-true}
use Rattle.disk_definitions.proofs.RegionLaws.{region_read}
use Rattle.disk_definitions.specs.Regions.{region_of, sector_of, is_among, log_at, logs_from, log_stride, bitmaps_from, inodes_from, small_blocks_from, large_blocks_from, large_stride}
use Rattle.disk_definitions.specs.declared.region.Region.{Region}
use Rattle.disk_definitions.specs.declared.region.Region.TheVariants as region
use Rattle.disk_definitions.specs.Replay.{is_log}
use Rattle.ring_definitions.proofs.ReplayLaws.{is_log_sector}
use Rattle.core_definitions.specs.Logs.{log_sector}
use Rattle.core_definitions.specs.Settings.{disk_logs}

-- no other place is one of a log
abbrev elsewhere : (segment inode small far large : Bool) (k i b p c q : ℕ) → Option Region
elsewhere segment inode small far large k i b p c q =
    if segment then Some (region.Segment k) else (if inode then Some (region.Inode i) else (if small then Some (region.Small b p) else (if far then (if large then Some (region.Large c q) else None) else None)))

no_log : (segment inode small far large : Bool) (k i b p c q : ℕ) → is_log (elsewhere segment inode small far large k i b p c q) ≡ false
no_log true inode small far large k i b p c q = refl
no_log false true small far large k i b p c q = refl
no_log false false true far large k i b p c q = refl
no_log false false false true true k i b p c q = refl
no_log false false false true false k i b p c q = refl
no_log false false false false large k i b p c q = refl

abbrev rest : ℕ → ℕ → Option Region
rest sector n =
    elsewhere (is_among bitmaps_from n sector) (is_among inodes_from (64 * n) sector) (is_among small_blocks_from (8192 * n) sector) (nat_le large_blocks_from sector)
    (nat_lt ((sector - large_blocks_from) / large_stride) n && nat_lt ((sector - large_blocks_from) % large_stride) 2048) (sector - bitmaps_from) (sector - inodes_from)
    ((sector - small_blocks_from) / 8) ((sector - small_blocks_from) % 8) ((sector - large_blocks_from) / large_stride) ((sector - large_blocks_from) % large_stride)

rest_none : (sector n : ℕ) → is_log (rest sector n) ≡ false
rest_none sector n =
    no_log (is_among bitmaps_from n sector) (is_among inodes_from (64 * n) sector) (is_among small_blocks_from (8192 * n) sector) (nat_le large_blocks_from sector)
    (nat_lt ((sector - large_blocks_from) / large_stride) n && nat_lt ((sector - large_blocks_from) % large_stride) 2048) (sector - bitmaps_from) (sector - inodes_from)
    ((sector - small_blocks_from) / 8) ((sector - small_blocks_from) % 8) ((sector - large_blocks_from) / large_stride) ((sector - large_blocks_from) % large_stride)

pub logs_alike : (segments other sector : ℕ) → is_log (region_of segments sector) ≡ true → is_log (region_of other sector) ≡ true
logs_alike segments other sector e = go (sector == 0) (is_among logs_from (256 * log_stride) sector) e
  where
    go : (param log : Bool) → is_log (if param then Some region.Param else (if log then log_at (sector - logs_from) else rest sector segments)) ≡ true →
        is_log (if param then Some region.Param else (if log then log_at (sector - logs_from) else rest sector other)) ≡ true
    go true log f = absurd (false≢true f)
    go false true f = f
    go false false f = absurd (false≢true (sym (rest_none sector segments) ∙ f))

-- a number of a log is at one
pub at_log : (segments dead number : ℕ) → dead < 256 → is_log (region_of segments (log_sector disk_logs dead number)) ≡ true
at_log segments dead number low = logs_alike 64 segments (log_sector disk_logs dead number) (is_log_sector dead (number % 256) low (small number))
  where
    small : (n : ℕ) → n % 256 < 256
    small n = omega arith

-- what lies behind the logs is in none
pub high_no_log : (segments sector : ℕ) → 4294967296 ≤ sector → is_log (region_of segments sector) ≡ false
high_no_log segments sector high = go (region_of segments sector) refl
  where
    low : (server slot n : ℕ) → server < 256 → slot < 256 → 2147483648 + server * 8388608 + slot ≡ n → 4294967296 ≤ n → ⊥
    low server slot n h i e j = absurd (omega (arith, h, i, e, j))

    go : (o : Option Region) → region_of segments sector ≡ o → is_log o ≡ false
    go None e = refl
    go (Some region.Param) e = refl
    go (Some (region.Log server slot)) e =
        let place = region_read segments sector (region.Log server slot) e in
        let parts = and_parts (nat_lt server 256) (nat_lt slot 256) place.1 in
        absurd (low server slot sector (ltb-true server 256 parts.0) (ltb-true slot 256 parts.1) place.0 high)
    go (Some (region.Segment k)) e = refl
    go (Some (region.Inode i)) e = refl
    go (Some (region.Small block part)) e = refl
    go (Some (region.Large block part)) e = refl

-- no slot of a log is there
pub slot_apart : (server slot sector : ℕ) → server < 256 → slot < 256 → 4294967296 ≤ sector → sector_of (region.Log server slot) ≡ sector → ⊥
slot_apart server slot sector h i high e = apart server slot sector h i e high
  where
    apart : (server slot n : ℕ) → server < 256 → slot < 256 → 2147483648 + server * 8388608 + slot ≡ n → 4294967296 ≤ n → ⊥
    apart server slot n h i e j = absurd (omega (arith, h, i, e, j))
