-- Along each history that is told twice operations see what is under their locks, and marks of doubt stay covered.
use Rattle.std.proofs.Common.{ℕ, ◌≡◌, ◌≤◌, Bool, true, false, if◌then◌else◌, nat_eq, Option, List, [], ◌∷◌, refl, sym, ap, subst, arith, le_refl}
use Rattle.std.proofs.lemmas.Bool.{eq-eqb, eqb-true}
use Rattle.frang_base.specs.declared.lock.LockId.{LockId}
use Rattle.tree_definitions.specs.Tree.{FileTree}
use Rattle.sector_bytes.specs.Blocks.{Block}
use Rattle.sector_world.specs.Histories.{Each, Entry, settled, survives, synced_of}
use Rattle.sector_world.specs.Histories.Entry.{Did, Recovered, Synced, Mounted}
use Rattle.sector_world.specs.Plans.{IsByPlan}
use Rattle.sector_world.specs.Seen.{Kept, Unmet, Unseen}
use Rattle.sector_world.proofs.HistoryLaws.{each_kept, each_map}
use Rattle.byte_trees.specs.Deeds.{Deed, Does, Says, Doubts, items}
use Rattle.stop_laws.specs.Happened.{Happening, Acts, Speaks, Mounts, Covers, Recovers, on_sectors, settle, what_stays}
use Rattle.stop_laws.specs.Paired.{ArePaired, MayRecover}
use Rattle.stop_laws.proofs.Histories.{histories_settle_alike, lines_settle}
use Rattle.stop_laws.proofs.Staying.{items_stay}
use Rattle.stop_laws.specs.Coverage.{AllCoverAtOnce, AllCovered, HistoriesKeepCoverage, RecoveriesRise, recovered_to}
use Rattle.stop_laws.specs.Sight.{AllSaw, AllSee, Begins, HistoriesKeepSight, MayGo}
use Rattle.stop_laws.proofs.Covered.{all_covered_on, sees_on}
use Rattle.stop_laws.proofs.Removing.{low_left}

-- what was done by plan stays so
pub all_planned : (home : ℕ → LockId) (h : List Entry) → AllSaw home h → Each IsByPlan (settled h)
all_planned home [] saw = tt
all_planned home (Did c ∷ older) saw = (saw.1, all_planned home older saw.2)
all_planned home (Recovered server durable ∷ older) saw = each_kept IsByPlan (survives server durable) (settled older) (all_planned home older saw)
all_planned home (Synced server number ∷ older) saw = all_planned home older saw
all_planned home (Mounted server number ∷ older) saw = all_planned home older saw

-- by greater numbers the same marks are covered
covered_more : (segments : ℕ) (opening : ℕ → Block) (first_tree : FileTree) (most more : ℕ → ℕ) → ((server : ℕ) → most server ≤ more server) → (deeds : List Deed) →
    AllCovered segments opening first_tree most deeds → AllCovered segments opening first_tree more deeds
covered_more segments opening first_tree most more above [] all = tt
covered_more segments opening first_tree most more above (Does c e ∷ older) all = covered_more segments opening first_tree most more above older all
covered_more segments opening first_tree most more above (Says e ∷ older) all = covered_more segments opening first_tree most more above older all
covered_more segments opening first_tree most more above (Doubts marked runs ∷ older) all = (
  record {
    server = all.0.server;
    number = all.0.number;
    marks = all.0.marks;
    stays = each_map (λ c. c.by ≡ all.0.server → c.op ≤ most all.0.server) (λ c. c.by ≡ all.0.server → c.op ≤ more all.0.server)
        (λ c low by. let l : c.op ≤ most all.0.server = low by in let m : most all.0.server ≤ more all.0.server = above all.0.server in omega arith) (items older) all.0.stays;
    covers = all.0.covers;
  },
  covered_more segments opening first_tree most more above older all.1,
)

module _ (segments : ℕ) (when : ℕ → ℕ) (opening : ℕ → Block) (first_tree : FileTree) (numbers : List ℕ) (home : ℕ → LockId) (logged : ℕ → Bool) (first : ℕ → Option Block)
    (begins : Begins segments when opening first_tree numbers home logged first) where
  -- ---- at a recovery

  module _ (server greatest durable : ℕ) (older : List Happening) (may : MayRecover segments when opening first_tree numbers server greatest durable older)
      (unseen : Unseen server durable (settled (on_sectors older))) (unmet : Unmet server durable (settled (on_sectors older))) (saw : AllSaw home (on_sectors older)) where
    goes : MayGo segments when opening first_tree numbers server durable (settled (on_sectors older))
    goes = record { legal = may.legal; distinct = may.distinct; by_plan = all_planned home (on_sectors older) saw; rises = may.rises; unseen = unseen; unmet = unmet }

  -- ---- sight

  all_see : (h : List Happening) → ArePaired segments when opening first_tree numbers h → Kept (on_sectors h) → AllSaw home (on_sectors h) → AllSee home (settled (on_sectors h))
  all_see [] paired k saw = tt
  all_see (Acts c e ∷ older) paired k saw = (saw.0, all_see older paired.1 k saw.2)
  all_see (Speaks e ∷ older) paired k saw = all_see older paired.2 k saw
  all_see (Mounts number e ∷ older) paired k saw = all_see older paired.2 k saw
  all_see (Covers server number ∷ older) paired k saw = all_see older paired k saw
  all_see (Recovers server greatest durable ∷ older) paired k saw =
      sees_on segments when opening first_tree numbers home logged first begins server durable (settled (on_sectors older))
      (goes server greatest durable older paired.0 k.0 k.1 saw) (all_see older paired.1 k.3 saw)

  same : (h : List Happening) → ArePaired segments when opening first_tree numbers h → items (settle first_tree h) ≡ settled (on_sectors h)
  same h paired = (histories_settle_alike segments when opening first_tree numbers h begins.times begins.stands paired).sectors

  pub sees_along : (h : List Happening) → ArePaired segments when opening first_tree numbers h → Kept (on_sectors h) → AllSaw home (on_sectors h) → AllSee home (items (settle first_tree h))
  sees_along h paired k saw = subst (AllSee home) (sym (same h paired)) (all_see h paired k saw)

  -- ---- coverage

  module _ (server greatest durable : ℕ) (older : List Happening) (paired : ArePaired segments when opening first_tree numbers (Recovers server greatest durable ∷ older))
      (k : Kept (on_sectors (Recovers server greatest durable ∷ older))) (saw : AllSaw home (on_sectors older)) (rise : RecoveriesRise (on_sectors (Recovers server greatest durable ∷ older)))
      (before : AllCovered segments opening first_tree (recovered_to (on_sectors older)) (settle first_tree older)) where
    abbrev pub deeds : List Deed
    deeds = settle first_tree older

    above : (other : ℕ) → recovered_to (on_sectors older) other ≤ recovered_to (on_sectors (Recovers server greatest durable ∷ older)) other
    above other = go (nat_eq server other) refl
      where
        go : (b : Bool) → nat_eq server other ≡ b → recovered_to (on_sectors older) other ≤ (if b then durable else recovered_to (on_sectors older) other)
        go true is = subst (λ s. recovered_to (on_sectors older) s ≤ durable) (eqb-true server other is) rise.0
        go false is = le_refl (recovered_to (on_sectors older) other)

    own_number : recovered_to (on_sectors (Recovers server greatest durable ∷ older)) server ≡ durable
    own_number = ap (λ (b : Bool). if b then durable else recovered_to (on_sectors older) server) (eq-eqb server server refl)

    pub goes_here : MayGo segments when opening first_tree numbers server durable (items deeds)
    goes_here = subst (MayGo segments when opening first_tree numbers server durable) (sym (same older paired.1)) (goes server greatest durable older paired.0 k.0 k.1 saw)

    pub stays_covered : AllCovered segments opening first_tree (recovered_to (on_sectors older)) (what_stays server durable deeds)
    stays_covered =
        all_covered_on segments when opening first_tree numbers home logged first begins server durable (recovered_to (on_sectors older)) rise.0 deeds goes_here
        (lines_settle segments when opening first_tree numbers older begins.times begins.stands paired.1) (sees_along older paired.1 k.3 saw) before

    recovers : AllCoverAtOnce segments opening first_tree (Recovers server greatest durable ∷ older) →
        AllCovered segments opening first_tree (recovered_to (on_sectors (Recovers server greatest durable ∷ older))) (settle first_tree (Recovers server greatest durable ∷ older))
    recovers once = (
      record {
        server = server;
        number = synced_of server (on_sectors older);
        marks = λ sector is. is;
        stays = subst (λ n. Each (λ c. c.by ≡ server → c.op ≤ n) (items (what_stays server durable deeds))) (sym own_number)
            (subst (Each (λ c. c.by ≡ server → c.op ≤ durable)) (sym (items_stay server durable deeds)) (low_left server durable (items deeds)));
        covers = once.0;
      },
      covered_more segments opening first_tree (recovered_to (on_sectors older)) (recovered_to (on_sectors (Recovers server greatest durable ∷ older))) above (what_stays server durable deeds) stays_covered,
    )

  pub covered_along : (h : List Happening) → ArePaired segments when opening first_tree numbers h → Kept (on_sectors h) → AllSaw home (on_sectors h) → RecoveriesRise (on_sectors h) →
      AllCoverAtOnce segments opening first_tree h → AllCovered segments opening first_tree (recovered_to (on_sectors h)) (settle first_tree h)
  covered_along [] paired k saw rise once = tt
  covered_along (Acts c e ∷ older) paired k saw rise once = covered_along older paired.1 k saw.2 rise once
  covered_along (Speaks e ∷ older) paired k saw rise once = covered_along older paired.2 k saw rise once
  covered_along (Mounts number e ∷ older) paired k saw rise once = covered_along older paired.2 k saw rise once
  covered_along (Covers server number ∷ older) paired k saw rise once = covered_along older paired k saw rise once
  covered_along (Recovers server greatest durable ∷ older) paired k saw rise once =
      recovers server greatest durable older paired k saw rise (covered_along older paired.1 k.3 saw rise.1 once.1) once

pub histories_keep_sight : HistoriesKeepSight
histories_keep_sight segments when opening first_tree numbers home logged first h begins paired k saw =
    sees_along segments when opening first_tree numbers home logged first begins h paired k saw

pub histories_keep_coverage : HistoriesKeepCoverage
histories_keep_coverage segments when opening first_tree numbers home logged first h begins paired k saw rise once =
    covered_along segments when opening first_tree numbers home logged first begins h paired k saw rise once
