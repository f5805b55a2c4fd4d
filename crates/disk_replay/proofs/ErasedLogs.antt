-- The slots of all logs made zero, one after the other, make the disk without its logs.
use Rattle.std.proofs.Common.{◌≡◌, ◌≢◌, ℕ, zero, suc, ◌+◌, ◌*◌, ◌/◌, ◌%◌, ◌<◌, ◌≤◌, ⊎_elim, Bool, true, false, Option, Some, None, is_some, List, nat_lt, refl, sym, ap, ◌∙◌, subst, arith, add-one, ltb-true}
use Rattle.std.specs.BTreeMap.{insert_entry}
use Rattle.std.specs.Option.{unwrap_or}
use Rattle.std.specs.Ordering.{nat_cmp}
use Rattle.std.proofs.lemmas.Bool.{and_from, and_parts, false≢true, cases_eq, lt-ltb}
use Rattle.std.proofs.lemmas.Nat.{div-mul-add, mod-mul-add}
use Rattle.frang_base.specs.Functions.{put}
use Rattle.frang_base.proofs.Basics.{at_put, by_test, put_other, put_same}
use Rattle.disk_definitions.specs.declared.region.Region.{Region}
use Rattle.disk_definitions.specs.declared.region.Region.TheVariants as region
use Rattle.disk_definitions.specs.Regions.{log_stride, logs_from, region_of}
use Rattle.disk_definitions.proofs.RegionLaws.{region_found, region_read}
use Rattle.sector_bytes.specs.Bytes.{zeros}
use Rattle.sector_bytes.specs.SectorMaps.{value_at}
use Rattle.sector_bytes.specs.Sectors.{Sectors, SameSectors, sectors_of}
use Rattle.disk_definitions.specs.Replay.{is_log}
use Rattle.disk_replay.specs.Laid.{erased, is_logged, slot_sector, without_logs}
use Rattle.disk_replay.proofs.SectorsSet.{set_there, set_elsewhere}

-- ---- one sector made zero

pub set_is_put : (es : List (ℕ × List ℕ)) (k : ℕ) (block : List ℕ) → SameSectors (sectors_of (insert_entry nat_cmp es k block)) (put (sectors_of es) k block)
set_is_put es k block sector =
    let after = sectors_of (insert_entry nat_cmp es k block) in
    ⊎_elim
    (λ same. subst (λ n. after n ≡ put (sectors_of es) k block n) (sym same) (set_there es k block ∙ sym (put_same (sectors_of es) k block)))
    (λ other. set_elsewhere es k block sector other ∙ sym (put_other (sectors_of es) k block sector other))
    (cases_eq sector k)

unset : (o : Option (List ℕ)) → is_some o ≡ false → unwrap_or o (zeros 512) ≡ zeros 512
unset None e = refl
unset (Some block) e = absurd (false≢true (sym e))

-- one that was never set is zero
pub unset_is_put : (es : List (ℕ × List ℕ)) (k : ℕ) → is_some (value_at es k) ≡ false → SameSectors (sectors_of es) (put (sectors_of es) k (zeros 512))
unset_is_put es k e sector = at_put (λ b. sectors_of es sector ≡ b) (sectors_of es) k (zeros 512) sector (λ same. ap (sectors_of es) same ∙ unset (value_at es k) e) (λ other. refl)

-- ---- slots of logs

logged : (n : ℕ) → n < 65536 → is_logged (slot_sector n) ≡ true
unfolding is_logged
logged n h =
    ap is_log (region_found 64 (region.Log (n / 256) (n % 256)) (omega arith) (and_from (nat_lt (n / 256) 256) (nat_lt (n % 256) 256) (lt-ltb (n / 256) 256 (omega arith)) (lt-ltb (n % 256) 256 (omega arith))))

-- the number of a slot
pub record IsSlot (sector n : ℕ) : Type 0 where
  pub below : n < 65536
  pub at : slot_sector n ≡ sector

slot_of : (sector : ℕ) (o : Option Region) → region_of 64 sector ≡ o → is_log o ≡ true → (n : ℕ) × IsSlot sector n
slot_of sector (Some (region.Log server slot)) e t =
    let place = region_read 64 sector (region.Log server slot) e in
    let parts = and_parts (nat_lt server 256) (nat_lt slot 256) place.1 in
    let a = ltb-true server 256 parts.0 in
    let b = ltb-true slot 256 parts.1 in
    let n = server * 256 + slot in
    let small : n < 65536 = omega arith in
    let there : slot_sector n ≡ sector =
    ap (λ (x : ℕ). logs_from + x * log_stride + n % 256) (div-mul-add server 256 slot b) ∙ ap (λ (y : ℕ). logs_from + server * log_stride + y) (mod-mul-add server 256 slot b) ∙ place.0 in
    (n, record { below = small; at = there })
slot_of sector None e t = absurd cc
slot_of sector (Some region.Param) e t = absurd cc
slot_of sector (Some (region.Segment k)) e t = absurd cc
slot_of sector (Some (region.Inode i)) e t = absurd cc
slot_of sector (Some (region.Small k part)) e t = absurd cc
slot_of sector (Some (region.Large k part)) e t = absurd cc

slot_there : (sector : ℕ) → is_logged sector ≡ true → (n : ℕ) × IsSlot sector n
unfolding is_logged
slot_there sector t = slot_of sector (region_of 64 sector) refl t

-- ---- several

pub none_erased : (s : Sectors) → SameSectors s (erased 0 s)
unfolding erased
none_erased s sector = refl

pub one_erased : (n : ℕ) (s old new : Sectors) → SameSectors old (erased n s) → SameSectors new (put old (slot_sector n) (zeros 512)) → SameSectors new (erased (n + 1) s)
unfolding erased
one_erased n s old new h made sector =
    let same : old ≡ erased n s = λ i k. h k i in
    made sector ∙ ap (λ (f : Sectors). put f (slot_sector n) (zeros 512) sector) same ∙ ap (λ k. erased k s sector) (sym (add-one n))

at_slot : (n j : ℕ) (s : Sectors) → j < n → erased n s (slot_sector j) ≡ zeros 512
unfolding erased
at_slot zero j s h = absurd (omega arith)
at_slot (suc n) j s h =
    at_put (λ b. b ≡ zeros 512) (erased n s) (slot_sector n) (zeros 512) (slot_sector j) (λ e. refl)
    (λ e. let other : j ≢ n = λ same. e (ap slot_sector same) in at_slot n j s (omega arith))

kept : (n : ℕ) (s : Sectors) (sector : ℕ) → is_logged sector ≡ false → n ≤ 65536 → erased n s sector ≡ s sector
unfolding erased
kept zero s sector f h = refl
kept (suc n) s sector f h =
    put_other (erased n s) (slot_sector n) (zeros 512) sector (λ e. false≢true (sym f ∙ ap is_logged e ∙ logged n (omega arith))) ∙ kept n s sector f (omega arith)

-- all slots
erased_all : (n : ℕ) (s : Sectors) (sector : ℕ) → n ≡ 65536 → erased n s sector ≡ without_logs s sector
unfolding without_logs
erased_all n s sector e =
    by_test (λ (b : List ℕ). erased n s sector ≡ b) (zeros 512) (s sector) (is_logged sector)
    (λ t. let r = slot_there sector t in subst (λ k. erased n s k ≡ zeros 512) r.1.at (at_slot n r.0 s (let small = r.1.below in omega arith)))
    (λ f. kept n s sector f (omega arith))

pub all_erased : (n : ℕ) (s new : Sectors) → n ≡ 65536 → SameSectors new (erased n s) → SameSectors new (without_logs s)
all_erased n s new e h sector = h sector ∙ erased_all n s sector e
