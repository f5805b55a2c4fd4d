-- What is asked of a history holds of it with the recoveries of all logs, in their order.
use Rattle.std.proofs.Common.{ℕ, zero, suc, ◌≡◌, ◌≢◌, ◌≤◌, ◌&&◌, not, Bool, true, false, if◌then◌else◌, nat_eq, List, ◌∷◌, refl, sym, ◌∙◌, ap, subst, le_refl, arith}
use Rattle.std.proofs.lemmas.Bool.{eqb-true, ne_eqb}
use Rattle.tree_definitions.specs.Tree.{FileTree}
use Rattle.sector_world.specs.Histories.{Item, settled, survives}
use Rattle.sector_world.specs.Seen.{Kept, Unmet, Unseen}
use Rattle.sector_world.proofs.Seen.{unmet_kept}
use Rattle.sector_world.specs.Claims.{left}
use Rattle.sector_world.specs.Kinds.{Good}
use Rattle.sector_world.specs.Planned.{IsLegal}
use Rattle.sector_world.specs.Trees.{Distinct}
use Rattle.sector_world.specs.World.{World, Phase}
use Rattle.sector_world.specs.World.Phase.{Off, Up, Dead}
use Rattle.sector_world.proofs.Left.{by_phase, fine_left}
use Rattle.line_histories.specs.LinePlans.{sector_plan}
use Rattle.line_histories.specs.Standing.{StandsNumbered}
use Rattle.line_histories.specs.Trees.{AreTimes, MayNumber}
use Rattle.line_histories.proofs.Runs.{numbered}
use Rattle.stop_laws.specs.Happened.{Happening, Recovers, on_sectors, settle}
use Rattle.stop_laws.specs.Paired.{ArePaired, IsKeptBy}
use Rattle.stop_laws.specs.Settling.{recovers_by, stopped}
use Rattle.stop_laws.specs.Coverage.{RecoveriesRise, recovered_to}
use Rattle.stop_laws.specs.Events.{IsInSight}
use Rattle.stop_laws.specs.Sight.{AllSaw, AllShowed}
use Rattle.stop_laws.specs.Sure.{AreRecoveredOnce, has_mounted}
use Rattle.stop_laws.specs.Synced.{SyncsRise}
use Rattle.stop_laws.specs.AskedStop.{IsAsked, StopsAreAsked}
use Rattle.stop_laws.proofs.Stopping as stopping

-- ---- stage by stage

module _ (segments : ℕ) (when : ℕ → ℕ) (times : AreTimes when) (first : FileTree) (numbers : List ℕ) (w : World) (greatest : ℕ → ℕ) (h : List Happening)
    (begins : StandsNumbered segments w.opening (numbered first numbers)) (legal : IsLegal (sector_plan segments when) w)
    (distinct : Distinct (MayNumber numbers) first (settled w.history))
    (good : Good w) (told : on_sectors h ≡ w.history) (paired : ArePaired segments when w.opening first numbers h)
    (logs : (server : ℕ) → w.phase server ≢ Off → IsKeptBy server (greatest server) (w.durable server) (settle first h)) (sight : IsInSight w) where
  unmet_left : (server n : ℕ) → Unmet server (w.durable server) (left w n)
  unmet_left server zero = good.logged.unmet server
  unmet_left server (suc n) =
      by_phase (Unmet server (w.durable server)) (w.phase n) n (w.durable n) (w.synced n) (left w n) (λ off. unmet_left server n)
      (unmet_kept server (w.durable server) (survives n (w.durable n)) (left w n) (unmet_left server n))

  -- the history with the recoveries of the first logs
  abbrev IsStage : List Happening → List Item → Type 0
  IsStage = stopping.IsStage segments when times first numbers w greatest h begins legal distinct good told paired logs

  stages : (n : ℕ) → IsStage (stopped w greatest n h) (left w n)
  stages = stopping.stages segments when times first numbers w greatest h begins legal distinct good told paired logs

  -- what is asked of it beside
  record IsFine (n : ℕ) (now : List Happening) : Type 0 where
    kept_now : Kept (on_sectors now)
    saw : AllSaw w.home (on_sectors now)
    showed : AllShowed w.first (on_sectors now)
    rise : RecoveriesRise (on_sectors now)
    below : (server : ℕ) → recovered_to (on_sectors now) server ≤ w.durable server
    syncs : SyncsRise (on_sectors now)
    mounted : AreRecoveredOnce (on_sectors now)
    active : (server : ℕ) → n ≤ server → w.phase server ≢ Off → has_mounted server (on_sectors now) ≡ true

  one_more : (n : ℕ) (now : List Happening) → w.phase n ≢ Off → IsStage now (left w n) → IsFine n now → IsFine (suc n) (Recovers n (greatest n) (w.durable n) ∷ now)
  one_more n now on stage fine = record {
    kept_now = (
      subst (Unseen n (w.durable n)) (sym stage.settles) ((fine_left w good n).unseen n),
      subst (Unmet n (w.durable n)) (sym stage.settles) (unmet_left n n),
      stage.unsynced n (w.durable n) (good.logged.unsynced n),
      fine.kept_now,
    );
    saw = fine.saw;
    showed = fine.showed;
    rise = (fine.below n, fine.rise);
    below = λ server. go server (nat_eq n server) refl;
    syncs = fine.syncs;
    mounted = (fine.active n (le_refl n) on, fine.mounted);
    active = λ server far there. ap (λ b. not b && has_mounted server (on_sectors now)) (ne_eqb n server (λ e. absurd (omega arith))) ∙ fine.active server (omega arith) there;
  }
    where
      go : (server : ℕ) (b : Bool) → nat_eq n server ≡ b → (if b then w.durable n else recovered_to (on_sectors now) server) ≤ w.durable server
      go server true is = subst (λ x. w.durable n ≤ w.durable x) (eqb-true n server is) (le_refl (w.durable n))
      go server false is = fine.below server

  by_phases : (n : ℕ) (now : List Happening) → IsStage now (left w n) → IsFine n now → (p : Phase) → w.phase n ≡ p → IsFine (suc n) (recovers_by p n (greatest n) (w.durable n) now)
  by_phases n now stage fine Off is = record {
    kept_now = fine.kept_now;
    saw = fine.saw;
    showed = fine.showed;
    rise = fine.rise;
    below = fine.below;
    syncs = fine.syncs;
    mounted = fine.mounted;
    active = λ server far there. fine.active server (omega arith) there;
  }
  by_phases n now stage fine Up is = one_more n now (λ off. let z : Up ≡ Off = sym is ∙ off in cc) stage fine
  by_phases n now stage fine Dead is = one_more n now (λ off. let z : Dead ≡ Off = sym is ∙ off in cc) stage fine

  all_fine : (n : ℕ) → IsFine n (stopped w greatest n h)
  all_fine zero = record {
    kept_now = subst Kept (sym told) good.logged.was_kept;
    saw = subst (AllSaw w.home) (sym told) sight.saw;
    showed = subst (AllShowed w.first) (sym told) sight.showed;
    rise = subst RecoveriesRise (sym told) sight.rise;
    below = λ server. subst (λ e. recovered_to e server ≤ w.durable server) (sym told) (sight.below server);
    syncs = subst SyncsRise (sym told) sight.syncs;
    mounted = subst AreRecoveredOnce (sym told) sight.mounted;
    active = λ server far there. subst (λ e. has_mounted server e ≡ true) (sym told) (sight.active server there);
  }
  all_fine (suc n) = by_phases n (stopped w greatest n h) (stages n) (all_fine n) (w.phase n) refl

  pub asked : IsAsked segments when first numbers w (stopped w greatest w.servers h)
  asked =
      let fine = all_fine w.servers in
      record { paired = (stages w.servers).paired_now; kept = fine.kept_now; saw = fine.saw; showed = fine.showed; rise = fine.rise; syncs = fine.syncs; mounted = fine.mounted }

pub stops_are_asked : StopsAreAsked
stops_are_asked segments when first numbers w greatest h times begins legal distinct good told paired logs sight =
    asked segments when times first numbers w greatest h begins legal distinct good told paired logs sight
