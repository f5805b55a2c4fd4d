-- A replay changes no sector of a log.
use Rattle.std.proofs.Common.{◌≡◌, ℕ, ◌+◌, ◌*◌, ◌<◌, Bool, true, false, ◌==◌, nat_lt, if◌then◌else◌, Option, Some, None, List, [], ◌∷◌, refl, ap, ◌∙◌, arith, ltb-true}
use Rattle.std.proofs.lemmas.Bool.{and_parts, and_right}
use Rattle.frang_base.specs.declared.change.Change.{Change}
use Rattle.disk_definitions.specs.declared.region.Region.{Region}
use Rattle.disk_definitions.specs.declared.region.Region.TheVariants as region
use Rattle.disk_definitions.specs.Regions.{bitmaps_from, inodes_from, log_stride, logs_from, region_of, small_blocks_from}
use Rattle.disk_definitions.proofs.RegionLaws.{region_read}
use Rattle.sector_bytes.specs.Changes.{applied}
use Rattle.sector_bytes.specs.Sectors.{Sectors}
use Rattle.disk_definitions.specs.Replay.{is_log, is_replayed, with_change}
use Rattle.disk_replay.specs.Laid.{is_changed, is_logged, with_changes}

-- ---- where logs lie

log_low : (sector : ℕ) (o : Option Region) → region_of 64 sector ≡ o → is_log o ≡ true → sector < bitmaps_from
log_low sector (Some (region.Log server slot)) e t =
    let place = region_read 64 sector (region.Log server slot) e in
    let parts = and_parts (nat_lt server 256) (nat_lt slot 256) place.1 in
    let a = ltb-true server 256 parts.0 in
    let b = ltb-true slot 256 parts.1 in
    let at : logs_from + server * log_stride + slot ≡ sector = place.0 in
    omega arith
log_low sector None e t = absurd cc
log_low sector (Some region.Param) e t = absurd cc
log_low sector (Some (region.Segment k)) e t = absurd cc
log_low sector (Some (region.Inode i)) e t = absurd cc
log_low sector (Some (region.Small k part)) e t = absurd cc
log_low sector (Some (region.Large k part)) e t = absurd cc

low_kept : (segments sector : ℕ) (o : Option Region) → sector < bitmaps_from → region_of segments sector ≡ o → is_replayed o ≡ false
low_kept segments sector (Some (region.Segment k)) h e =
    let at : bitmaps_from + k ≡ sector = (region_read segments sector (region.Segment k) e).0 in absurd (omega arith)
low_kept segments sector (Some (region.Inode i)) h e =
    let at : inodes_from + i ≡ sector = (region_read segments sector (region.Inode i) e).0 in absurd (omega arith)
low_kept segments sector (Some (region.Small k part)) h e =
    let at : small_blocks_from + k * 8 + part ≡ sector = (region_read segments sector (region.Small k part) e).0 in absurd (omega arith)
low_kept segments sector None h e = refl
low_kept segments sector (Some region.Param) h e = refl
low_kept segments sector (Some (region.Log server slot)) h e = refl
low_kept segments sector (Some (region.Large k part)) h e = refl

log_kept : (segments sector : ℕ) → is_logged sector ≡ true → is_changed segments sector ≡ false
unfolding is_logged is_changed
log_kept segments sector t = low_kept segments sector (region_of segments sector) (log_low sector (region_of 64 sector) refl t) refl

-- ---- changes laid over a disk

one_stays : (segments : ℕ) (c : Change) (s : Sectors) (sector : ℕ) → is_logged sector ≡ true → with_change segments s c sector ≡ s sector
unfolding is_changed
one_stays segments c s sector t =
    ap (λ (b : Bool). if b then applied (s sector) c else s sector) (and_right (sector == c.sector.0) (is_changed segments sector) (log_kept segments sector t))

pub log_stays : (segments : ℕ) (changes : List Change) (s : Sectors) (sector : ℕ) → is_logged sector ≡ true → with_changes segments s changes sector ≡ s sector
unfolding with_changes
log_stays segments [] s sector t = refl
log_stays segments (c ∷ changes) s sector t = log_stays segments changes (with_change segments s c) sector t ∙ one_stays segments c s sector t
