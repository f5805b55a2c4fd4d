-- What is issued of a seal comes behind the replay: it is wanted only once each look is made and each write of the replay acknowledged, so that all is in place.
use Rattle.std.proofs.Common.{◌≡◌, ℕ, inl, inr, ⊎_elim, Bool, true, false, not, cond, ◌&&◌, if◌then◌else◌, is_some, IsTrue, List, [], ◌∷◌, filter, Option, Some, None, refl, sym, ap, ◌∙◌, subst}
use Rattle.std.specs.List.{filter_map}
use Rattle.std.specs.Option.{IsSome, option_map}
use Rattle.std.proofs.lemmas.Bool.{false≢true, not-false}
use Rattle.std.proofs.lemmas.Option.{none-some, same_Some}
use Rattle.std.specs.BTreeMap.{is_at}
use Rattle.std.specs.List.{Contains}
use Rattle.std.specs.Ordering.{nat_cmp}
use Rattle.frang_base.proofs.Tests.{at_only}
use Rattle.disk_definitions.proofs.Listed.{Among, among_either, among_filter_map, among_filter_mapped, among_filtered, among_mapped}
use Rattle.disk_definitions.specs.Regions.{region_of, sector_of}
use Rattle.disk_definitions.specs.Replay.{is_replayed}
use Rattle.disk_definitions.specs.declared.region.Region.TheVariants as region
use Rattle.sector_bytes.specs.Blocks.{Block}
use Rattle.sector_bytes.specs.Replays.{redo_all}
use Rattle.sector_bytes.specs.SectorMaps.{value_at}
use Rattle.core_definitions.specs.Cores.{stage}
use Rattle.core_definitions.specs.Logs.{end_of, is_none, is_read, is_sealed_by, log_sector, seal_block}
use Rattle.core_definitions.specs.Recoveries.{Recovery, is_replay_done, is_written, named_sectors, recovery_writes, redos, replay_writes, seal_writes, seals_from, to_look}
use Rattle.core_definitions.specs.Settings.{disk_logs}
use Rattle.core_definitions.specs.Writes.{Write}
use Rattle.core_facts.proofs.Owing.{replayed_high}
use Rattle.core_facts.proofs.Reading.{Facts, facts_of, low_high, same_log, server_low, slot_low}
use Rattle.core_facts.proofs.WriteKinds.{NextOfLog, Places, Rescues, Wanted, wanted_is}
use Rattle.core_laws.proofs.Guarding.{Of3, of_3}
use Rattle.core_laws.proofs.Membership.{contains_in}
use Rattle.core_laws.specs.Leases.{LeasesEnd}
use Rattle.core_journals.proofs.FlightChanges.{is_rescue}
use Rattle.sector_world.proofs.Finishing.{none_replay}
use Rattle.sector_world.specs.Guards.{to_replay}
use Rattle.sector_world.specs.Kinds.{Good}
use Rattle.sector_world.specs.Logged.{ToldOk}
use Rattle.sector_world.specs.World.{World, InPlace, Told}
use Rattle.core_world.specs.Readings.{AreNamed}
use Rattle.core_world.specs.Ties.{IsRescueOf, IsStuck, IsTold, IsToldOnce}
use Rattle.core_readings.specs.Logs.{IsReplayed, SealsAreIssuedBehind}
use Rattle.core_readings.proofs.Replaying.{rests_in_place}

value_among : {V : Type 0} (entries : List (ℕ × V)) (s : ℕ) (v : V) → value_at entries s ≡ Some v → Among {X = ℕ × V} (s, v) entries
value_among [] s v e = absurd (none-some v e)
value_among {V} (entry ∷ entries) s v e = go (is_at (nat_cmp s) entry.0) refl e (value_among entries s v)
  where
    go : (b : Bool) → is_at (nat_cmp s) entry.0 ≡ b → (if b then Some entry.1 else value_at entries s) ≡ Some v → (value_at entries s ≡ Some v → Among {X = ℕ × V} (s, v) entries) →
        Among {X = ℕ × V} (s, v) (entry ∷ entries)
    go true i j rest = let at : s ≡ entry.0 = at_only s entry.0 i in
        let value : v ≡ entry.1 = sym (same_Some entry.1 v j) in
        inl (λ k. (at k, value k))
    go false i j rest = inr (rest j)

each_fails : {X : Type 0} (test : X → Bool) (xs : List X) (x : X) → is_none (filter test xs) ≡ true → Among x xs → test x ≡ false
each_fails test [] x none i = absurd i
each_fails test (y ∷ ys) x none i = go (test y) refl (λ n j. each_fails test ys x n j) none i
  where
    go : (b : Bool) → test y ≡ b → (is_none (filter test ys) ≡ true → Among x ys → test x ≡ false) → is_none (cond b (y ∷ filter test ys) (filter test ys)) ≡ true →
        Among x (y ∷ ys) → test x ≡ false
    go true e rest n j = absurd (false≢true n)
    go false e rest n (inl s) = subst (λ z. test z ≡ false) (sym s) e
    go false e rest n (inr j) = rest n j

-- ---- a replay that is done

abbrev sector_block : ℕ → Block → ℕ × Block
sector_block sector block = (sector, block)

-- a block that a look wanted, with its sector
abbrev wanted : ℕ × Option Block → Option (ℕ × Block)
wanted look = option_map (sector_block look.0) look.1

module _ (segments : ℕ) (recovery : Recovery) (done : is_replay_done disk_logs segments recovery ≡ true) where
  parts : Of3 (is_read disk_logs recovery.slots) (is_none (to_look disk_logs segments recovery)) (is_none (replay_writes recovery))
  parts = of_3 (is_read disk_logs recovery.slots) (is_none (to_look disk_logs segments recovery)) (is_none (replay_writes recovery)) done

  none_left : is_none (filter (λ sector. not (is_some (value_at recovery.looked sector))) (named_sectors segments (redos disk_logs recovery))) ≡ true
  none_left = subst (λ b. is_none (if b then filter (λ sector. not (is_some (value_at recovery.looked sector))) (named_sectors segments (redos disk_logs recovery)) else []) ≡ true) parts.p0 parts.p1

  was_looked : (sector : ℕ) → Contains (named_sectors segments (redos disk_logs recovery)) sector → IsSome (value_at recovery.looked sector)
  was_looked sector h =
      not-false (is_some (value_at recovery.looked sector))
      (each_fails (λ s. not (is_some (value_at recovery.looked s))) (named_sectors segments (redos disk_logs recovery)) sector none_left (contains_in (named_sectors segments (redos disk_logs recovery)) sector h))

  was_written : (sector : ℕ) (block : Block) → value_at recovery.looked sector ≡ Some (Some block) → is_written recovery sector ≡ true
  was_written sector block e =
      not-false (is_written recovery sector)
      (each_fails (λ (write : ℕ × Block). not (is_written recovery write.0)) (filter_map wanted recovery.looked) (sector, block) parts.p2
      (among_filter_map wanted recovery.looked (sector, Some block) (sector, block) (value_among recovery.looked sector (Some block) e) refl))

  -- it can end
  not_stuck : {by : ℕ} {flights : _} {failed : Bool} → IsStuck by flights failed recovery → ⊥
  not_stuck z = false≢true (sym z.unwritten ∙ was_written z.sector z.block z.looked)

  in_place : (s : ℕ) (look : Option (Option Block)) (told : Told) → value_at recovery.looked s ≡ look → IsSome look → IsTold recovery s look told → told ≡ InPlace
  in_place s None told e some t = absurd (false≢true some)
  in_place s (Some None) told e some t = t
  in_place s (Some (Some block)) told e some t = go (is_written recovery s) refl t
    where
      go : (b : Bool) → is_written recovery s ≡ b → IsToldOnce b block told → told ≡ InPlace
      go true i j = j
      go false i j = absurd (false≢true (sym i ∙ was_written s block e))

  module _ (w : World) (g : Good w) (by : ℕ) (q : IsRescueOf by recovery w.rescue) (named : AreNamed segments w recovery.dead (redos disk_logs recovery)) where
    -- a replay changes nothing any more
    replayed_same : (s : ℕ) → redo_all (to_replay w recovery.dead) s (w.disk s) ≡ w.disk s
    replayed_same s =
        ⊎_elim (λ n. none_replay (to_replay w recovery.dead) s (w.disk s) n)
        (λ i. ⊎_elim (λ there. subst (λ d. redo_all (to_replay w d) s (w.disk s) ≡ w.disk s) q.dead
        (subst (λ x. ToldOk x (w.disk s) (redo_all (to_replay w q.r.dead) s (w.disk s))) (in_place s (value_at recovery.looked s) (q.r.told s) refl (was_looked s there) (q.told s)) ((g.logged.rescued q.r q.is).told s)))
        (λ same. same) i) (named s)

    pub replay_in_place : IsReplayed w recovery.dead
    replay_in_place s = rests_in_place (to_replay w recovery.dead) s (w.disk s) (replayed_same s)

-- ---- the law

pub issued_behind : LeasesEnd → SealsAreIssuedBehind
issued_behind ends s w journal by sector write r t g over can e q d slot server low at = kinds (wanted_is s.core.setting s.core.locks by (s.core.servers by) (stage s.core by) sector write e)
  where
    k : Facts s
    k = facts_of ends r.script r.segments r.number r.disk s r.run

    by_done : (recovery : Recovery) → (s.core.servers by).recovery ≡ Some recovery → recovery.dead ≡ d → is_replay_done disk_logs s.core.setting.segments recovery ≡ true → IsReplayed w d
    by_done recovery has of done = subst (IsReplayed w) of (⊎_elim
        (λ x. replay_in_place s.core.setting.segments recovery done w g by x (t.readings by recovery can.issuable.who has (parts s.core.setting.segments recovery done).p0).1)
        (λ z. absurd (not_stuck s.core.setting.segments recovery done z)) ((t.tied.rescues over).under_way by recovery can.issuable.who has))

    rescues : (recovery : Recovery) (block : Block) → (s.core.servers by).recovery ≡ Some recovery → Among {X = ℕ × Block} (sector, block) (recovery_writes disk_logs s.core.setting.segments recovery) → IsReplayed w d
    rescues recovery block has i = ⊎_elim replays seals (among_either (sector, block) (replay_writes recovery) (seal_writes disk_logs s.core.setting.segments recovery) i)
      where
        replays : Among {X = ℕ × Block} (sector, block) (replay_writes recovery) → IsReplayed w d
        replays j = go (among_filter_mapped wanted recovery.looked (sector, block) (among_filtered (λ (x : ℕ × Block). not (is_written recovery x.0)) (filter_map wanted recovery.looked) (sector, block) j).0)
          where
            of_look : (look : ℕ × Option Block) (o : Option Block) → Among look recovery.looked → option_map (sector_block look.0) o ≡ Some (sector_block sector block) → look.0 ≡ sector
            of_look look None there is = absurd (none-some (sector_block sector block) is)
            of_look look (Some b) there is = ap (λ (p : ℕ × Block). p.0) (same_Some (sector_block look.0 b) (sector_block sector block) is)

            go : (look : ℕ × Option Block) × Among look recovery.looked × (wanted look ≡ Some (sector_block sector block)) → IsReplayed w d
            go x = absurd (low_high sector (sector_of (region.Log d slot)) (replayed_high s.core.setting.segments sector
                (subst (λ n. IsTrue (is_replayed (region_of s.core.setting.segments n))) (of_look x.0 x.0.1 x.1 x.2) ((k.looked by recovery has).0.looked x.0.0 x.0.1 x.1).1)) (slot_low d slot (server_low d server) low) at)

        seals : Among {X = ℕ × Block} (sector, block) (seal_writes disk_logs s.core.setting.segments recovery) → IsReplayed w d
        seals j = go (is_replay_done disk_logs s.core.setting.segments recovery) refl
            (among_mapped (λ number. sector_block (log_sector disk_logs recovery.dead number) (seal_block number)) _ (sector_block sector block) j)
          where
            go : (b : Bool) → is_replay_done disk_logs s.core.setting.segments recovery ≡ b →
                (number : ℕ) × Among number (if b && not (is_sealed_by disk_logs recovery.slots) then seals_from disk_logs recovery (end_of disk_logs recovery.slots) else []) ×
                (sector_block (log_sector disk_logs recovery.dead number) (seal_block number) ≡ sector_block sector block) → IsReplayed w d
            go false f x = absurd x.1
            go true f x = by_done recovery has (same_log recovery.dead x.0 d slot low (ap (λ (p : ℕ × Block). p.0) x.2 ∙ at)).0 f

    kinds : Wanted s.core.setting.logs s.core.setting.segments by (s.core.servers by) sector write → IsReplayed w d
    kinds (Rescues recovery block has i wr) = rescues recovery block has (subst (λ logs. Among {X = ℕ × Block} (sector, block) (recovery_writes logs s.core.setting.segments recovery)) k.rules i)
    kinds (Places cached dirt i f wr) = absurd (false≢true (ap is_rescue (ap (λ (x : Write). x.purpose) (sym wr) ∙ q)))
    kinds (NextOfLog number block n there wr) = absurd (false≢true (ap is_rescue (ap (λ (x : Write). x.purpose) (sym wr) ∙ q)))
