-- The sectors that a recovery writes are below 2^40.
use Rattle.std.proofs.Common.{◌≡◌, ◌<◌, ◌≤◌, ◌+◌, ◌*◌, ◌%◌, ◌^◌, ℕ, Bool, true, false, if◌then◌else◌, List, [], ◌∷◌, Option, Some, None, is_some, nat_lt, refl, sym, ap, ◌∙◌, subst, arith}
use Rattle.std.proofs.lemmas.Bool.{and_parts, false≢true, ltb-true}
use Rattle.std.proofs.Math.Nat.{mod-lt}
use Rattle.std.specs.BTreeMap.{is_at}
use Rattle.std.specs.Option.{option_and_then}
use Rattle.std.specs.Ordering.{nat_cmp}
use Rattle.frang_base.specs.Functions.{member}
use Rattle.frang_base.proofs.Tests.{at_only}
use Rattle.sector_bytes.specs.Blocks.{Block}
use Rattle.sector_bytes.specs.SectorMaps.{value_at}
use Rattle.disk_definitions.specs.declared.region.Region.{Region}
use Rattle.disk_definitions.specs.declared.region.Region.TheVariants as region
use Rattle.disk_definitions.specs.Regions.{log_stride, logs_from, region_of, sector_of}
use Rattle.disk_definitions.specs.Replay.{is_replayed}
use Rattle.disk_definitions.proofs.RegionLaws.{region_read}
use Rattle.recovery_demon.specs.declared.stage.Stage.{Stage}
use Rattle.recovery_demon.specs.declared.stage.Stage.TheVariants.{Replay, LaterSeals, FirstSeal, Over}
use Rattle.recovery_demon.specs.Replays.{AtStage, IsNearly, Replaying, stage_writes, wanted_at}
use Rattle.recovery_demon.specs.Rules.{first_writes, later_writes, seal}
use Rattle.recovery_demon.proofs.SealWrites.{later_found, seal_sector}
use Rattle.recovery_demon.proofs.Wanted.{looked_at}

-- those that a replay may change
replayed_low : (segments s : ℕ) → segments ≤ 64 → is_replayed (region_of segments s) ≡ true → s < 2 ^ 40
replayed_low segments s few e = go (region_of segments s) refl e
  where
    go : (o : Option Region) → region_of segments s ≡ o → is_replayed o ≡ true → s < 2 ^ 40
    go None is e = absurd (false≢true e)
    go (Some region.Param) is e = absurd (false≢true e)
    go (Some (region.Log server slot)) is e = absurd (false≢true e)
    go (Some (region.Large block part)) is e = absurd (false≢true e)
    go (Some (region.Segment k)) is e =
        let place = region_read segments s (region.Segment k) is in
        let inside : k < segments = ltb-true k segments place.1 in
        omega (arith, place.0)
    go (Some (region.Inode i)) is e =
        let place = region_read segments s (region.Inode i) is in
        let inside : i < 64 * segments = ltb-true i (64 * segments) place.1 in
        omega (arith, place.0)
    go (Some (region.Small block part)) is e =
        let place = region_read segments s (region.Small block part) is in
        let parts = and_parts (nat_lt block (1024 * segments)) (nat_lt part 8) place.1 in
        let inside : block < 1024 * segments = ltb-true block (1024 * segments) parts.0 in
        let small : part < 8 = ltb-true part 8 parts.1 in
        omega (arith, place.0)

-- those of a seal
seal_low : (dead number s : ℕ) → dead < 256 → s ≡ (seal dead number).0 → s < 2 ^ 40
seal_low dead number s server is =
    let at : s ≡ logs_from + dead * log_stride + number % 256 = is ∙ seal_sector dead number in
    let slot : number % 256 < 256 = mod-lt number (omega arith) in
    omega (arith, at)

some_is : {X : Type 0} (o : Option X) → is_some o ≡ true → (x : X) × (o ≡ Some x)
some_is None e = absurd (false≢true e)
some_is (Some x) e = (x, refl)

module _ (r : Replaying) (n : IsNearly r) (s : ℕ) where
  staged : (stage : Stage) → AtStage stage r → is_some (value_at (stage_writes stage r) s) ≡ true → s < 2 ^ 40
  staged Replay at e = replayed_low r.segments s n.few (at.replayed s (go (value_at r.looked s) (sym (ap is_some (looked_at r.looked s n.ordered.looked)) ∙ e)))
    where
      go : (o : Option (Option Block)) → is_some (option_and_then (λ wanted. wanted) o) ≡ true → is_some o ≡ true
      go None e = e
      go (Some wanted) e = refl
  staged LaterSeals at e =
      let there = some_is (value_at (later_writes r.dead r.end) s) e in
      let found = later_found r.dead r.end s there.0 there.1 in
      seal_low r.dead (r.end + 2 + found.k) s n.server found.at
  staged FirstSeal at e = go (is_at (nat_cmp s) (seal r.dead (r.end + 1)).0) refl e
    where
      go : (b : Bool) → is_at (nat_cmp s) (seal r.dead (r.end + 1)).0 ≡ b → is_some (if b then Some (seal r.dead (r.end + 1)).1 else None) ≡ true → s < 2 ^ 40
      go true is e = seal_low r.dead (r.end + 1) s n.server (at_only s (seal r.dead (r.end + 1)).0 is)
      go false is e = absurd (false≢true e)
  staged Over at e = absurd (false≢true e)

  pub waiting_low : is_some (value_at r.waiting s) ≡ true → s < 2 ^ 40
  waiting_low e = by_flying (is_some (value_at r.flying s)) (sym (ap is_some (n.waiting s)) ∙ e)
    where
      by_written : (b : Bool) → is_some (if b then None else value_at (stage_writes r.stage r) s) ≡ true → s < 2 ^ 40
      by_written true e = absurd (false≢true e)
      by_written false e = staged r.stage n.stage e

      by_flying : (b : Bool) → is_some (if b then None else wanted_at r s) ≡ true → s < 2 ^ 40
      by_flying true e = absurd (false≢true e)
      by_flying false e = by_written (member s r.written) e
