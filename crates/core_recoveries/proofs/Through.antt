-- A recovery that may end is the world's, and each sector that a record names is in place, or a replay changes nothing of it.
use Rattle.std.proofs.Common.{◌≡◌, ℕ, Bool, true, false, if◌then◌else◌, IsTrue, List, [], ◌∷◌, Option, Some, None, refl, sym, ◌∙◌, subst, inl, inr, ⊎_elim}
use Rattle.std.proofs.lemmas.Bool.{false≢true}
use Rattle.std.proofs.lemmas.Option.{none-some, same_Some}
use Rattle.std.specs.BTreeMap.{is_at}
use Rattle.std.specs.List.{Contains}
use Rattle.std.specs.Option.{IsSome}
use Rattle.std.specs.Ordering.{nat_cmp}
use Rattle.frang_base.proofs.Tests.{at_only}
use Rattle.disk_definitions.proofs.Listed.{Among}
use Rattle.sector_bytes.specs.Blocks.{Block}
use Rattle.sector_bytes.specs.Replays.{redo_all}
use Rattle.sector_bytes.specs.SectorMaps.{value_at}
use Rattle.core_definitions.specs.Cores.{Core}
use Rattle.core_definitions.specs.EndGuards.{is_through}
use Rattle.core_definitions.specs.Logs.{is_none, is_read}
use Rattle.core_definitions.specs.Recoveries.{Recovery, is_replay_done, is_seal_done, is_written, named_sectors, redos, replay_writes, to_look}
use Rattle.core_definitions.specs.Settings.{disk_logs}
use Rattle.core_laws.proofs.Guarding.{of_2, of_3}
use Rattle.core_laws.proofs.Membership.{in_contains}
use Rattle.core_laws.specs.Waits.{IsDone}
use Rattle.sector_world.specs.Guards.{to_replay}
use Rattle.sector_world.specs.Kinds.{Good}
use Rattle.sector_world.specs.Logged.{ToldOk}
use Rattle.sector_world.specs.World.{World, InPlace, Told}
use Rattle.sector_world.proofs.Finishing.{none_replay}
use Rattle.core_definitions.specs.Flights.{Flights}
use Rattle.core_world.specs.Readings.{AreNamed}
use Rattle.core_world.specs.Ties.{IsRescueOf, IsStuck, IsTold, IsToldOnce}

pub value_among : {V : Type 0} (entries : List (ℕ × V)) (s : ℕ) (v : V) → value_at entries s ≡ Some v → Among {X = ℕ × V} (s, v) entries
value_among [] s v e = absurd (none-some v e)
value_among {V} (entry ∷ entries) s v e = go (is_at (nat_cmp s) entry.0) refl e (value_among entries s v)
  where
    go : (b : Bool) → is_at (nat_cmp s) entry.0 ≡ b → (if b then Some entry.1 else value_at entries s) ≡ Some v → (value_at entries s ≡ Some v → Among {X = ℕ × V} (s, v) entries) →
        Among {X = ℕ × V} (s, v) (entry ∷ entries)
    go true i j rest = let at : s ≡ entry.0 = at_only s entry.0 i in
        let value : v ≡ entry.1 = sym (same_Some entry.1 v j) in
        inl (λ k. (at k, value k))
    go false i j rest = inr (rest j)

-- the log is read
pub through_read : (c : Core) (recovery : Recovery) → c.setting.logs ≡ disk_logs → IsTrue (is_through c recovery) → IsTrue (is_read disk_logs recovery.slots)
through_read c recovery rules through =
    subst (λ logs. IsTrue (is_read logs recovery.slots)) rules
    (of_3 (is_read c.setting.logs recovery.slots) (is_none (to_look c.setting.logs c.setting.segments recovery)) (is_none (replay_writes recovery))
    (of_2 (is_replay_done c.setting.logs c.setting.segments recovery) (is_seal_done c.setting.logs recovery) through).p0).p0

module _ (c : Core) (recovery : Recovery) (done : IsDone c recovery) where
  written : (s : ℕ) (block : Block) → value_at recovery.looked s ≡ Some (Some block) → is_written recovery s ≡ true
  written s block e = done.written s block (in_contains recovery.looked (s, Some block) (value_among recovery.looked s (Some block) e))

  -- it can end
  pub not_stuck : (by : ℕ) (flights : Flights) (failed : Bool) → IsStuck by flights failed recovery → ⊥
  not_stuck by flights failed z = false≢true (sym z.unwritten ∙ written z.sector z.block z.looked)

  in_place : (s : ℕ) (look : Option (Option Block)) (told : Told) → value_at recovery.looked s ≡ look → IsSome look → IsTold recovery s look told → told ≡ InPlace
  in_place s None told e some t = absurd (false≢true some)
  in_place s (Some None) told e some t = t
  in_place s (Some (Some block)) told e some t = go (is_written recovery s) refl t
    where
      go : (b : Bool) → is_written recovery s ≡ b → IsToldOnce b block told → told ≡ InPlace
      go true i j = j
      go false i j = absurd (false≢true (sym i ∙ written s block e))

  module _ (rules : c.setting.logs ≡ disk_logs) (w : World) (g : Good w) (by : ℕ) (q : IsRescueOf by recovery w.rescue) (named : AreNamed c.setting.segments w recovery.dead (redos disk_logs recovery)) where
    told_same : (told : Told) (old new : Block) → told ≡ InPlace → ToldOk told old new → new ≡ old
    told_same told old new e t = subst (λ x. ToldOk x old new) e t

    -- a replay changes nothing any more
    pub replayed_same : (s : ℕ) → redo_all (to_replay w recovery.dead) s (w.disk s) ≡ w.disk s
    replayed_same s =
        ⊎_elim (λ n. none_replay (to_replay w recovery.dead) s (w.disk s) n)
        (λ i. ⊎_elim (λ there. subst (λ d. redo_all (to_replay w d) s (w.disk s) ≡ w.disk s) q.dead
        (told_same (q.r.told s) (w.disk s) (redo_all (to_replay w q.r.dead) s (w.disk s))
        (in_place s (value_at recovery.looked s) (q.r.told s) refl (done.looked s (subst (λ logs. Contains (named_sectors c.setting.segments (redos logs recovery)) s) (sym rules) there)) (q.told s)) ((g.logged.rescued q.r q.is).told s)))
        (λ same. same) i) (named s)
