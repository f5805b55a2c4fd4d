-- At a stop of all servers a history that is told twice settles alike on both sides, with the recoveries of all logs in their order.
use Rattle.std.proofs.Common.{◌==◌, ◌&&◌, not, nat_eq, ℕ, zero, suc, ◌≡◌, ◌≢◌, ◌≤◌, Bool, true, false, List, [], ◌∷◌, refl, sym, ◌∙◌, ap, ap₂, subst, arith}
use Rattle.frang_base.specs.Functions.{keep_if}
use Rattle.std.proofs.lemmas.Bool.{eqb-true, ne_eqb}
use Rattle.frang_base.proofs.Basics.{by_keep}
use Rattle.tree_definitions.specs.History.{CellRun, Stays}
use Rattle.tree_definitions.specs.Removal.{doubtful, mounts}
use Rattle.tree_definitions.specs.Touched.{is_mounted}
use Rattle.tree_definitions.specs.Tree.{FileTree}
use Rattle.sector_world.specs.Histories.{Commit, Each, Item, OpsRise, in_doubt, kept, recovered, settled, survives, synced_of}
use Rattle.sector_world.specs.Histories.Item.{Done, Doubt}
use Rattle.sector_world.specs.Plans.{Legal}
use Rattle.sector_world.specs.Seen.{Unsynced}
use Rattle.sector_world.proofs.Removals.{survives_other}
use Rattle.sector_world.specs.Claims.{left, left_by}
use Rattle.sector_world.specs.Kinds.{Good}
use Rattle.sector_world.specs.Planned.{IsLegal}
use Rattle.sector_world.specs.Trees.{Distinct}
use Rattle.sector_world.specs.World.{World, Phase}
use Rattle.sector_world.specs.World.Phase.{Off, Up, Dead}
use Rattle.sector_world.proofs.Left.{fine_left, legal_left}
use Rattle.line_histories.specs.LinePlans.{sector_plan}
use Rattle.line_histories.proofs.Framed.{lines_framed}
use Rattle.line_histories.specs.Standing.{StandsNumbered}
use Rattle.line_histories.specs.Trees.{AreTimes, MayNumber}
use Rattle.line_histories.proofs.Following.{distinct_left}
use Rattle.line_histories.proofs.Runs.{numbered}
use Rattle.byte_trees.specs.Deeds.{Deed, Does, Says, Doubts, items, steps}
use Rattle.stop_laws.specs.Happened.{Happening, Recovers, has_lost, on_sectors, settle, what_stays}
use Rattle.stop_laws.specs.Paired.{AreKeptSinceMount, AreLines, ArePaired, BeginsWithARecord, IsKeptBy}
use Rattle.stop_laws.specs.Settling.{SettlesAlike, StopsAlike, StopsSettleAlike, recovers_by, stopped}
use Rattle.stop_laws.proofs.Staying.{items_stay}
use Rattle.stop_laws.proofs.Histories.{histories_settle_alike, lines_settle}

-- ---- what recoveries of other servers' logs leave of a server's operations

module _ (server other durable : ℕ) (far : server ≢ other) (number : ℕ) where
  abbrev Low : Commit → Type 0
  Low c = c.by ≡ server → c.op ≤ durable

  -- what is removed is another's
  low_back : (h : List Item) → Each Low (kept (survives other number) h) → Each Low h
  low_back [] low = tt
  low_back (Doubt marked ∷ h) low = low_back h low
  low_back (Done c ∷ h) low = go (survives other number c) refl low (low_back h)
    where
      another : survives other number c ≡ false → c.by ≡ server → c.op ≤ durable
      another goes same = absurd (let z : true ≡ false = sym (survives_other other number c (λ e. far (sym same ∙ e))) ∙ goes in cc)

      go : (b : Bool) → survives other number c ≡ b → Each Low (keep_if b (Done c) (kept (survives other number) h)) → (Each Low (kept (survives other number) h) → Each Low h) →
          Each Low (Done c ∷ h)
      go true stays l back = (l.0, back l.1)
      go false goes l back = (another goes, back l)

  begins_kept : (h : List Item) → BeginsWithARecord server durable h → BeginsWithARecord server durable (kept (survives other number) h)
  begins_kept [] begins = tt
  begins_kept (Doubt marked ∷ h) begins = begins_kept h begins
  begins_kept (Done c ∷ h) begins =
      by_keep (BeginsWithARecord server durable) (survives other number c) (Done c) (kept (survives other number) h)
      (λ stays. ((λ same above low. begins.0 same above (low_back h low)), begins_kept h begins.1)) (λ goes. begins_kept h begins.1)

  records_stay : (greatest : ℕ) (deeds : List Deed) → AreKeptSinceMount server greatest durable deeds → AreKeptSinceMount server greatest durable (what_stays other number deeds)
  records_stay greatest [] kept = tt
  records_stay greatest (Does c e ∷ older) kept =
      by_keep (AreKeptSinceMount server greatest durable) (survives other number c) (Does c e) (what_stays other number older) (λ stays. (kept.0, records_stay greatest older kept.1))
      (λ goes. records_stay greatest older kept.1)
  records_stay greatest (Says e ∷ older) kept = go (e.server.0 == other && has_lost other number older) refl (λ k. records_stay greatest older k)
    where
      go : (b : Bool) → e.server.0 == other && has_lost other number older ≡ b →
          (AreKeptSinceMount server greatest durable older → AreKeptSinceMount server greatest durable (what_stays other number older)) →
          AreKeptSinceMount server greatest durable (keep_if (not b) (Says e) (what_stays other number older))
      go false is later = λ none. later (kept none)
      go true is later = later (kept (another (e.server.0 == other) refl is))
        where
          another : (b : Bool) → e.server.0 == other ≡ b → b && has_lost other number older ≡ true → mounts server (Stays e) ≡ false
          another true same lost =
              ap (λ n. nat_eq n server && is_mounted e.reply) (eqb-true e.server.0 other same)
              ∙ ap (λ b. b && is_mounted e.reply) (ne_eqb other server (λ e. far (sym e)))
          another false same lost = absurd (cc)
  records_stay greatest (Doubts marked runs ∷ older) kept = records_stay greatest older kept

  pub others_leave : (greatest : ℕ) (deeds : List Deed) (marked : ℕ → Bool) (runs : List CellRun) → IsKeptBy server greatest durable deeds →
      IsKeptBy server greatest durable (Doubts marked runs ∷ what_stays other number deeds)
  others_leave greatest deeds marked runs its = record {
    within = its.within;
    records = records_stay greatest deeds its.records;
    begins = subst (BeginsWithARecord server durable) (sym (items_stay other number deeds)) (begins_kept (items deeds) its.begins);
  }

-- what is left at a stop: alike on both sides, of lines, with new numbers
pub record IsStopped (when : ℕ → ℕ) (first : FileTree) (numbers : List ℕ) (w : World) (greatest : ℕ → ℕ) (h : List Happening) : Type 0 where
  pub alike : StopsAlike first w greatest h
  pub lines : AreLines when (settle first (stopped w greatest w.servers h))
  pub distinct : Distinct (MayNumber numbers) first (left w w.servers)

module _ (segments : ℕ) (when : ℕ → ℕ) (times : AreTimes when) (first : FileTree) (numbers : List ℕ) (w : World) (greatest : ℕ → ℕ) (h : List Happening)
    (begins : StandsNumbered segments w.opening (numbered first numbers)) (legal : IsLegal (sector_plan segments when) w)
    (distinct : Distinct (MayNumber numbers) first (settled w.history))
    (good : Good w) (told : on_sectors h ≡ w.history) (paired : ArePaired segments when w.opening first numbers h)
    (logs : (server : ℕ) → w.phase server ≢ Off → IsKeptBy server (greatest server) (w.durable server) (settle first h)) where
  kept_left : (server : ℕ) → w.phase server ≢ Off → (n : ℕ) → n ≤ server → IsKeptBy server (greatest server) (w.durable server) (settle first (stopped w greatest n h))
  kept_left server on zero low = logs server on
  kept_left server on (suc n) low = go (w.phase n) (kept_left server on n (omega arith))
    where
      more : IsKeptBy server (greatest server) (w.durable server) (settle first (stopped w greatest n h)) →
          IsKeptBy server (greatest server) (w.durable server) (settle first (Recovers n (greatest n) (w.durable n) ∷ stopped w greatest n h))
      more before =
          let stays : List Deed = what_stays n (w.durable n) (settle first (stopped w greatest n h)) in
          let synced : ℕ = synced_of n (on_sectors (stopped w greatest n h)) in
          others_leave server n (w.durable server) (λ e. absurd (omega arith)) (w.durable n) (greatest server) (settle first (stopped w greatest n h))
          (in_doubt n synced (items stays)) (doubtful n first (steps stays)) before

      go : (p : Phase) → IsKeptBy server (greatest server) (w.durable server) (settle first (stopped w greatest n h)) →
          IsKeptBy server (greatest server) (w.durable server) (settle first (recovers_by p n (greatest n) (w.durable n) (stopped w greatest n h)))
      go Off before = before
      go Up before = more before
      go Dead before = more before

  -- the history with the recoveries of the first logs is paired, and settles as what is left after them
  pub record IsStage (now : List Happening) (items_left : List Item) : Type 0 where
    pub paired_now : ArePaired segments when w.opening first numbers now
    pub settles : settled (on_sectors now) ≡ items_left
    pub unsynced : (server durable : ℕ) → Unsynced server durable w.history → Unsynced server durable (on_sectors now)
    pub synced : (server : ℕ) → synced_of server (on_sectors now) ≡ synced_of server w.history

  one_more : (n : ℕ) → (now : List Happening) → IsKeptBy n (greatest n) (w.durable n) (settle first now) → IsStage now (left w n) →
      IsStage (Recovers n (greatest n) (w.durable n) ∷ now) (recovered n (w.durable n) (w.synced n) (left w n))
  one_more n now kept stage = record {
    paired_now = (
      record {
        legal = subst (Legal (sector_plan segments when) w.opening) (sym stage.settles) (legal_left (sector_plan segments when) (lines_framed segments when) w good legal.live n);
        distinct = subst (Distinct (MayNumber numbers) first) (sym stage.settles) (distinct_left numbers first w distinct n);
        rises = subst OpsRise (sym stage.settles) (fine_left w good n).ops;
        unsynced = stage.unsynced n (w.durable n) (good.logged.unsynced n);
        kept_by = kept;
      },
      stage.paired_now,
    );
    settles = ap₂ (λ synced items_left. recovered n (w.durable n) synced items_left) (stage.synced n ∙ sym (good.bytes.counted n)) stage.settles;
    unsynced = stage.unsynced;
    synced = stage.synced;
  }

  by_stage : (n : ℕ) (now : List Happening) → (w.phase n ≢ Off → IsKeptBy n (greatest n) (w.durable n) (settle first now)) → IsStage now (left w n) → (p : Phase) → w.phase n ≡ p →
      IsStage (recovers_by p n (greatest n) (w.durable n) now) (left_by p n (w.durable n) (w.synced n) (left w n))
  by_stage n now kept stage Off is = stage
  by_stage n now kept stage Up is = one_more n now (kept (λ off. let z : Up ≡ Off = sym is ∙ off in cc)) stage
  by_stage n now kept stage Dead is = one_more n now (kept (λ off. let z : Dead ≡ Off = sym is ∙ off in cc)) stage

  pub stages : (n : ℕ) → IsStage (stopped w greatest n h) (left w n)
  stages zero = record {
    paired_now = paired;
    settles = ap settled told;
    unsynced = λ server durable u. subst (Unsynced server durable) (sym told) u;
    synced = λ server. ap (synced_of server) told;
  }
  stages (suc n) = by_stage n (stopped w greatest n h) (λ on. kept_left n on n (omega arith)) (stages n) (w.phase n) refl

  last : IsStage (stopped w greatest w.servers h) (left w w.servers)
  last = stages w.servers

  alike : SettlesAlike first (stopped w greatest w.servers h)
  alike = histories_settle_alike segments when w.opening first numbers (stopped w greatest w.servers h) times begins last.paired_now

  pub stopped_alike : IsStopped when first numbers w greatest h
  stopped_alike = record {
    alike = record { sectors = alike.sectors ∙ last.settles; tree = alike.tree };
    lines = lines_settle segments when w.opening first numbers (stopped w greatest w.servers h) times begins last.paired_now;
    distinct = distinct_left numbers first w distinct w.servers;
  }

pub stops_settle_alike : StopsSettleAlike
stops_settle_alike segments when first numbers w greatest h times begins legal distinct good told paired logs =
    (stopped_alike segments when times first numbers w greatest h begins legal distinct good told paired logs).alike
