-- A replay made twice is made once: it changes no sector of a log, so the changes are the same again, and none of them is newer than what it left.
use Rattle.std.proofs.Common.{◌≡◌, ℕ, ◌+◌, ◌-◌, ◌*◌, ◌/◌, ◌%◌, ◌<◌, ◌≤◌, ⊎_elim, inl, inr, Bool, true, false, ◌&&◌, ◌==◌, nat_le, nat_lt, if◌then◌else◌, Option, Some, None, List, [], ◌∷◌, ◌++◌, refl, sym, ap, ◌∙◌, subst, arith, le-ltb, lt-ltb, le-leb, ltb-true, ne_eqb}
use Rattle.std.specs.Prelude.{fold}
use Rattle.std.specs.List.{flat_map}
use Rattle.std.proofs.lemmas.Bool.{and_parts, and_from, and_right, cond-true, cond-false, cases_Bool}
use Rattle.frang_base.specs.declared.change.Change.{Change}
use Rattle.disk_definitions.specs.declared.param.Param.{Param}
use Rattle.disk_definitions.specs.declared.region.Region.{Region}
use Rattle.disk_definitions.specs.declared.region.Region.TheVariants as region
use Rattle.sector_bytes.specs.Bytes.{zeros}
use Rattle.disk_definitions.specs.Params.{param_in}
use Rattle.disk_definitions.specs.Regions.{logs_from, bitmaps_from, inodes_from, small_blocks_from, large_blocks_from, log_stride, log_at, large_at, is_among, region_of, sector_of}
use Rattle.disk_definitions.proofs.RegionLaws.{region_found, region_read}
use Rattle.sector_bytes.specs.Changes.{changed, is_older, applied}
use Rattle.sector_bytes.specs.Blocks.{version_of}
use Rattle.sector_bytes.proofs.ChangeLaws.{reached, rises}
use Rattle.sector_bytes.specs.Sectors.{Sectors}
use Rattle.tree_definitions.specs.Numbers.{below}
use Rattle.frang_base.specs.declared.change.Redo.{Redo}
use Rattle.disk_definitions.specs.Logs.{log_records}
use Rattle.disk_definitions.specs.Replay.{slots_of, is_replayed, with_change, logged_changes, with_logs, is_log, replayed}
use Rattle.disk_definitions.proofs.Listed.{Among, below_among}
use Rattle.disk_definitions.proofs.SameLogs.{SameSlots, log_records_same, IsZeroLog, zero_log_records}

-- ---- sectors of logs are never changed

some_log : (o : Option Region) → is_log o ≡ true → (server : ℕ) × (slot : ℕ) × (o ≡ Some (region.Log server slot))
some_log None e = absurd cc
some_log (Some region.Param) e = absurd cc
some_log (Some (region.Log server slot)) e = (server, slot, refl)
some_log (Some (region.Segment k)) e = absurd cc
some_log (Some (region.Inode i)) e = absurd cc
some_log (Some (region.Small k part)) e = absurd cc
some_log (Some (region.Large k part)) e = absurd cc

log_at_kept : (n : ℕ) → is_replayed (log_at n) ≡ false
log_at_kept n = go (nat_lt (n / log_stride) 256 && nat_lt (n % log_stride) 256)
  where
    go : (b : Bool) → is_replayed (if b then Some (region.Log (n / log_stride) (n % log_stride)) else None) ≡ false
    go true = refl
    go false = refl

-- what is found at a sector among the logs, whatever the number of segments
among_logs : (segments sector : ℕ) → logs_from ≤ sector → sector < logs_from + 256 * log_stride → region_of segments sector ≡ log_at (sector - logs_from)
among_logs segments sector low high =
    let from = logs_from in
    let rest = if is_among bitmaps_from segments sector then Some (region.Segment (sector - bitmaps_from))
    else (if is_among inodes_from (64 * segments) sector then Some (region.Inode (sector - inodes_from))
    else (if is_among small_blocks_from (8192 * segments) sector then Some (region.Small ((sector - small_blocks_from) / 8) ((sector - small_blocks_from) % 8))
    else (if nat_le large_blocks_from sector then large_at segments (sector - large_blocks_from) else None))) in
    cond-false (sector == 0) (Some region.Param) (if is_among logs_from (256 * log_stride) sector then log_at (sector - logs_from) else rest) (ne_eqb sector 0 (λ e. omega arith))
    ∙ cond-true (is_among logs_from (256 * log_stride) sector) (log_at (sector - logs_from)) rest
    (and_from (nat_le logs_from sector) (nat_lt sector (logs_from + 256 * log_stride)) (le-leb logs_from sector low) (lt-ltb sector (logs_from + 256 * log_stride) high))

-- the sectors of logs are no sectors that a replay changes
pub log_kept : (segments sector : ℕ) → is_log (region_of 64 sector) ≡ true → is_replayed (region_of segments sector) ≡ false
log_kept segments sector e =
    let found = some_log (region_of 64 sector) e in
    let place = region_read 64 sector (region.Log found.0 found.1) found.2 in
    let parts = and_parts (nat_lt found.0 256) (nat_lt found.1 256) place.1 in
    let server = ltb-true found.0 256 parts.0 in
    let slot = ltb-true found.1 256 parts.1 in
    let at : logs_from + found.0 * log_stride + found.1 ≡ sector = place.0 in
    ap is_replayed (among_logs segments sector (omega arith) (omega arith)) ∙ log_at_kept (sector - logs_from)

pub is_log_sector : (server slot : ℕ) → server < 256 → slot < 256 → is_log (region_of 64 (sector_of (region.Log server slot))) ≡ true
is_log_sector server slot h g = ap is_log (region_found 64 (region.Log server slot) (omega arith) (and_from (nat_lt server 256) (nat_lt slot 256) (lt-ltb server 256 h) (lt-ltb slot 256 g)))

-- ---- what the changes make of one sector

-- the change is one of this sector
abbrev changes_it : ℕ → ℕ → Change → Bool
changes_it segments sector c = sector == c.sector.0 && is_replayed (region_of segments sector)

-- the block of a sector after these changes
block_after : ℕ → ℕ → List ℕ → List Change → List ℕ
block_after segments sector block [] = block
block_after segments sector block (c ∷ changes) = block_after segments sector (if changes_it segments sector c then applied block c else block) changes

fold_at : (segments : ℕ) (changes : List Change) (sectors : Sectors) (sector : ℕ) → fold (with_change segments) sectors changes sector ≡ block_after segments sector (sectors sector) changes
unfolding block_after
fold_at segments [] sectors sector = refl
fold_at segments (c ∷ changes) sectors sector = fold_at segments changes (with_change segments sectors c) sector

block_kept : (segments sector : ℕ) (block : List ℕ) (changes : List Change) → is_replayed (region_of segments sector) ≡ false → block_after segments sector block changes ≡ block
unfolding block_after
block_kept segments sector block [] e = refl
block_kept segments sector block (c ∷ changes) e =
    ap (λ b. block_after segments sector b changes) (cond-false (changes_it segments sector c) (applied block c) block (and_right (sector == c.sector.0) (is_replayed (region_of segments sector)) e))
    ∙ block_kept segments sector block changes e

step_rises : (b : Bool) (block : List ℕ) (c : Change) → version_of block ≤ version_of (if b then applied block c else block)
step_rises true block c = rises block c
step_rises false block c = omega arith

block_rises : (segments sector : ℕ) (block : List ℕ) (changes : List Change) → version_of block ≤ version_of (block_after segments sector block changes)
unfolding block_after
block_rises segments sector block [] = omega arith
block_rises segments sector block (c ∷ changes) =
    let next = if changes_it segments sector c then applied block c else block in
    let a : version_of block ≤ version_of next = step_rises (changes_it segments sector c) block c in
    let b : version_of next ≤ version_of (block_after segments sector next changes) = block_rises segments sector next changes in
    omega arith

-- no change of the sector is newer than its block
abbrev AllReached : ℕ → ℕ → List Change → List ℕ → Type 0
AllReached segments sector changes block = (c : Change) → Among c changes → changes_it segments sector c ≡ true → c.version ≤ version_of block

all_reached : (segments sector : ℕ) (block : List ℕ) (changes : List Change) → AllReached segments sector changes (block_after segments sector block changes)
unfolding block_after
all_reached segments sector block [] c a e = absurd a
all_reached segments sector block (d ∷ changes) c (inr a) e = all_reached segments sector (if changes_it segments sector d then applied block d else block) changes c a e
all_reached segments sector block (d ∷ changes) c (inl s) e =
    let next = if changes_it segments sector d then applied block d else block in
    let it : changes_it segments sector d ≡ true = ap (changes_it segments sector) (sym s) ∙ e in
    let same : next ≡ applied block d = cond-true (changes_it segments sector d) (applied block d) block it in
    let a : d.version ≤ version_of next = subst (λ b. d.version ≤ version_of b) (sym same) (reached block d) in
    let b : version_of next ≤ version_of (block_after segments sector next changes) = block_rises segments sector next changes in
    subst (λ x. x.version ≤ version_of (block_after segments sector next changes)) (sym s) (omega arith)

step_kept : (b : Bool) (block : List ℕ) (c : Change) → (b ≡ true → c.version ≤ version_of block) → (if b then applied block c else block) ≡ block
step_kept true block c h = cond-false (is_older block c) (changed block c) block (le-ltb (version_of block) c.version (h refl))
step_kept false block c h = refl

none_newer : (segments sector : ℕ) (changes : List Change) (block : List ℕ) → AllReached segments sector changes block → block_after segments sector block changes ≡ block
unfolding block_after
none_newer segments sector [] block all = refl
none_newer segments sector (c ∷ changes) block all =
    ap (λ b. block_after segments sector b changes) (step_kept (changes_it segments sector c) block c (all c (inl refl))) ∙ none_newer segments sector changes block (λ d a. all d (inr a))

-- ---- the changes made again

flat_map_same : {X Y : Type 0} (f g : X → List Y) (xs : List X) → ((x : X) → Among x xs → f x ≡ g x) → flat_map f xs ≡ flat_map g xs
flat_map_same f g [] each = refl
flat_map_same f g (x ∷ xs) each = ap (λ ys. ys ++ flat_map f xs) (each x (inl refl)) ∙ ap (λ ys. g x ++ ys) (flat_map_same f g xs (λ y a. each y (inr a)))

flat_map_none : {X Y : Type 0} (xs : List X) → flat_map {X = X} {A = Y} (λ x. []) xs ≡ []
flat_map_none [] = refl
flat_map_none (x ∷ xs) = flat_map_none xs

-- the changes of one log
changes_of : Sectors → ℕ → List Change
changes_of sectors server = flat_map (λ (r : Redo). r.changes) (log_records (slots_of sectors server))

changes_are : (sectors : Sectors) → logged_changes sectors ≡ flat_map (changes_of sectors) (below 256)
unfolding changes_of
changes_are sectors = refl

same_changes : (a b : Sectors) → ((server : ℕ) → server < 256 → log_records (slots_of a server) ≡ log_records (slots_of b server)) → logged_changes a ≡ logged_changes b
unfolding changes_of
same_changes a b each =
    changes_are a ∙ flat_map_same (changes_of a) (changes_of b) (below 256) (λ server m. ap (flat_map (λ (r : Redo). r.changes)) (each server (below_among 256 server m))) ∙ sym (changes_are b)

no_changes : (a : Sectors) → ((server : ℕ) → server < 256 → log_records (slots_of a server) ≡ []) → logged_changes a ≡ []
unfolding changes_of
no_changes a each =
    changes_are a ∙ flat_map_same (changes_of a) (λ server. []) (below 256) (λ server m. ap (flat_map (λ (r : Redo). r.changes)) (each server (below_among 256 server m))) ∙ flat_map_none (below 256)

-- a sector that a replay doesn't change stays
kept : (p : Option Param) (sectors : Sectors) (sector : ℕ) → ((segments : ℕ) → is_replayed (region_of segments sector) ≡ false) → with_logs p sectors sector ≡ sectors sector
kept None sectors sector e = refl
kept (Some p) sectors sector e = fold_at p.segments (logged_changes sectors) sectors sector ∙ block_kept p.segments sector (sectors sector) (logged_changes sectors) (e p.segments)

slots_kept : (p : Option Param) (sectors : Sectors) (server : ℕ) → server < 256 → SameSlots (slots_of (with_logs p sectors) server) (slots_of sectors server)
slots_kept p sectors server h slot g = kept p sectors (sector_of (region.Log server slot)) (λ segments. log_kept segments (sector_of (region.Log server slot)) (is_log_sector server slot h g))

changes_kept : (p : Option Param) (sectors : Sectors) → logged_changes (with_logs p sectors) ≡ logged_changes sectors
changes_kept p sectors = same_changes (with_logs p sectors) sectors (λ server h. log_records_same (slots_of (with_logs p sectors) server) (slots_of sectors server) (slots_kept p sectors server h))

pub with_logs_twice : (p : Option Param) (sectors : Sectors) (sector : ℕ) → with_logs p (with_logs p sectors) sector ≡ with_logs p sectors sector
with_logs_twice None sectors sector = refl
with_logs_twice (Some p) sectors sector =
    let changes = logged_changes sectors in
    let first = with_logs (Some p) sectors in
    let once : first sector ≡ block_after p.segments sector (sectors sector) changes = fold_at p.segments changes sectors sector in
    ap (λ cs. fold (with_change p.segments) first cs sector) (changes_kept (Some p) sectors)
    ∙ fold_at p.segments changes first sector
    ∙ none_newer p.segments sector changes (first sector) (subst (AllReached p.segments sector changes) (sym once) (all_reached p.segments sector (sectors sector) changes))

pub with_logs_rises : (p : Option Param) (sectors : Sectors) (sector : ℕ) → version_of (sectors sector) ≤ version_of (with_logs p sectors sector)
with_logs_rises None sectors sector = omega arith
with_logs_rises (Some p) sectors sector =
    subst (λ b. version_of (sectors sector) ≤ version_of b) (sym (fold_at p.segments (logged_changes sectors) sectors sector)) (block_rises p.segments sector (sectors sector) (logged_changes sectors))

-- ---- the replayed disk

zero_logs : (sectors : Sectors) (server : ℕ) → server < 256 → IsZeroLog (slots_of (replayed sectors) server)
zero_logs sectors server h slot g =
    let sector = sector_of (region.Log server slot) in
    cond-true (is_log (region_of 64 sector)) (zeros 512) (with_logs (param_in (sectors 0)) sectors sector) (is_log_sector server slot h g)

pub logs_are_zero : (sectors : Sectors) (server : ℕ) → server < 256 → log_records (slots_of (replayed sectors) server) ≡ []
logs_are_zero sectors server h = zero_log_records (slots_of (replayed sectors) server) (zero_logs sectors server h)

nothing_again : (p : Option Param) (sectors : Sectors) (sector : ℕ) → with_logs p (replayed sectors) sector ≡ replayed sectors sector
nothing_again None sectors sector = refl
nothing_again (Some p) sectors sector = ap (λ cs. fold (with_change p.segments) (replayed sectors) cs sector) (no_changes (replayed sectors) (logs_are_zero sectors))

pub replayed_twice : (sectors : Sectors) (sector : ℕ) → replayed (replayed sectors) sector ≡ replayed sectors sector
replayed_twice sectors sector = ⊎_elim
    (λ e. cond-true (is_log (region_of 64 sector)) (zeros 512) (with_logs (param_in (replayed sectors 0)) (replayed sectors) sector) e
    ∙ sym (cond-true (is_log (region_of 64 sector)) (zeros 512) (with_logs (param_in (sectors 0)) sectors sector) e))
    (λ e. cond-false (is_log (region_of 64 sector)) (zeros 512) (with_logs (param_in (replayed sectors 0)) (replayed sectors) sector) e
    ∙ nothing_again (param_in (replayed sectors 0)) sectors sector) (cases_Bool (is_log (region_of 64 sector)))
