-- What says that a server's operations are synced comes after none that a recovery of it may remove.
use Rattle.std.proofs.Common.{ℕ, ◌≡◌, ◌≢◌, ◌≤◌, ◌&&◌, ◌||◌, ◌==◌, not, Bool, true, false, if◌then◌else◌, nat_eq, nat_le, List, [], ◌∷◌, ◌++◌, refl, sym, ◌∙◌, ap, subst, arith}
use Rattle.std.proofs.lemmas.Bool.{eqb-true, ne_eqb, eq-eqb}
use Rattle.frang_base.specs.Functions.{keep_if}
use Rattle.frang_base.proofs.Basics.{by_keep}
use Rattle.tree_definitions.specs.declared.history.Entry.{Entry}
use Rattle.tree_definitions.specs.History.{Settled, Stays, InDoubt}
use Rattle.tree_definitions.specs.Removal.{doubtful}
use Rattle.tree_definitions.specs.Touched.{is_mounted, is_ok, is_stall, stalled_after}
use Rattle.tree_definitions.specs.Tree.{FileTree}
use Rattle.tree_laws.specs.Syncing.{stalled_along}
use Rattle.sector_bytes.specs.Blocks.{Block}
use Rattle.sector_world.specs.Histories.{Commit, Each, settled, survives, synced_of}
use Rattle.sector_world.specs.Histories as sectors
use Rattle.sector_world.specs.Histories.Entry.{Did, Recovered, Synced, Mounted}
use Rattle.sector_world.specs.Seen.{Unsynced}
use Rattle.sector_world.proofs.HistoryLaws.{each_kept, each_map}
use Rattle.line_histories.specs.Standing.{StandsNumbered}
use Rattle.line_histories.specs.Trees.{AreTimes}
use Rattle.line_histories.proofs.Runs.{numbered}
use Rattle.byte_trees.specs.Deeds.{Deed, Does, Says, Doubts, items, steps}
use Rattle.stop_laws.specs.Happened.{Happening, Acts, Speaks, Mounts, Covers, Recovers, has_lost, on_sectors, settle, what_stays}
use Rattle.stop_laws.specs.Paired.{AreLines, ArePaired}
use Rattle.stop_laws.specs.Sure.{AllSure, HistoriesMakeSure, has_mounted}
use Rattle.stop_laws.specs.Synced.{AllSaidAtOnce, has_stalled, says_synced}
use Rattle.stop_laws.proofs.Histories.{histories_settle_alike, lines_settle}
use Rattle.stop_laws.proofs.Staying.{items_stay}

-- ---- stalls

along_more : (server : ℕ) (stalled : Bool) (list : List Settled) (s : Settled) → stalled_along server stalled (list ++ s ∷ []) ≡ stalled_after server (stalled_along server stalled list) s
along_more server stalled [] s = refl
along_more server stalled (x ∷ list) s = along_more server (stalled_after server stalled x) list s

-- another server's entry says nothing of it
foreign_after : (server : ℕ) (stalled : Bool) (e : Entry) → e.server.0 ≢ server → stalled_after server stalled (Stays e) ≡ stalled
foreign_after server stalled e far =
    ap (λ b. if not b then stalled else (if is_mounted e.reply then false else stalled || (is_stall e.op && is_ok e.reply))) (ne_eqb e.server.0 server far)

-- a mount ends it
mounted_after : (server : ℕ) (stalled : Bool) (e : Entry) → e.server.0 ≡ server → is_mounted e.reply ≡ true → stalled_after server stalled (Stays e) ≡ false
mounted_after server stalled e own is =
    ap (λ b. if not b then stalled else (if is_mounted e.reply then false else stalled || (is_stall e.op && is_ok e.reply))) (eq-eqb e.server.0 server own)
    ∙ ap (λ (b : Bool). if b then false else stalled || (is_stall e.op && is_ok e.reply)) is

module _ (server : ℕ) where
  abbrev stalled_in : List Deed → Bool
  stalled_in deeds = stalled_along server false (steps deeds)

  one_more : (deeds : List Deed) (s : Settled) → stalled_along server false (steps deeds ++ s ∷ []) ≡ stalled_after server (stalled_in deeds) s
  one_more deeds s = along_more server false (steps deeds) s

  -- what a recovery of another server removes says nothing of it
  module _ (other durable : ℕ) (far : other ≢ server) (when : ℕ → ℕ) where
    stays_stalled : (deeds : List Deed) → AreLines when deeds → stalled_in (what_stays other durable deeds) ≡ stalled_in deeds
    stays_stalled [] lines = refl
    stays_stalled (Does c e ∷ older) lines = go (survives other durable c) refl (stays_stalled older lines.1)
      where
        go : (b : Bool) → survives other durable c ≡ b → stalled_in (what_stays other durable older) ≡ stalled_in older →
            stalled_in (keep_if b (Does c e) (what_stays other durable older)) ≡ stalled_in (Does c e ∷ older)
        go true is same = one_more (what_stays other durable older) (Stays e) ∙ ap (λ b. stalled_after server b (Stays e)) same ∙ sym (one_more older (Stays e))
        go false is same = same ∙ sym (one_more older (Stays e) ∙ foreign_after server (stalled_in older) e (λ own. far (sym (gone (nat_eq c.by other) refl is) ∙ sym lines.0.by ∙ own)))
          where
            gone : (b : Bool) → nat_eq c.by other ≡ b → (if b then nat_le c.op durable else true) ≡ false → c.by ≡ other
            gone true own e = eqb-true c.by other own
            gone false own e = absurd (cc)
    stays_stalled (Says e ∷ older) lines = go (e.server.0 == other) refl (stays_stalled older lines.1)
      where
        go : (b : Bool) → e.server.0 == other ≡ b → stalled_in (what_stays other durable older) ≡ stalled_in older →
            stalled_in (keep_if (not (b && has_lost other durable older)) (Says e) (what_stays other durable older)) ≡ stalled_in (Says e ∷ older)
        go false is same = one_more (what_stays other durable older) (Stays e) ∙ ap (λ b. stalled_after server b (Stays e)) same ∙ sym (one_more older (Stays e))
        go true is same = its (has_lost other durable older)
          where
            its : (b : Bool) → stalled_in (keep_if (not b) (Says e) (what_stays other durable older)) ≡ stalled_in (Says e ∷ older)
            its false = one_more (what_stays other durable older) (Stays e) ∙ ap (λ b. stalled_after server b (Stays e)) same ∙ sym (one_more older (Stays e))
            its true = same ∙ sym (one_more older (Stays e) ∙ foreign_after server (stalled_in older) e (λ own. far (sym (eqb-true e.server.0 other is) ∙ own)))
    stays_stalled (Doubts marked runs ∷ older) lines =
        one_more (what_stays other durable older) (InDoubt runs) ∙ stays_stalled older lines ∙ sym (one_more older (InDoubt runs))

    -- nor does it unsay anything
    removals_stay_sure : (number : ℕ) (deeds : List Deed) → AreLines when deeds → AllSure server number deeds → AllSure server number (what_stays other durable deeds)
    removals_stay_sure number [] lines all = tt
    removals_stay_sure number (Does c e ∷ older) lines all =
        let rest = removals_stay_sure number older lines.1 all in
        by_keep (AllSure server number) (survives other durable c) (Does c e) (what_stays other durable older) (λ there. rest) (λ goes. rest)
    removals_stay_sure number (Says e ∷ older) lines all =
        let rest = removals_stay_sure number older lines.1 all.1 in
        by_keep (AllSure server number) (not (e.server.0 == other && has_lost other durable older)) (Says e) (what_stays other durable older)
        (λ there. (
          (λ own says.
              subst (Each (λ c. c.by ≡ server → c.op ≤ number)) (sym (items_stay other durable older))
              (each_kept (λ c. c.by ≡ server → c.op ≤ number) (survives other durable) (items older)
              (all.0 own (subst (λ b. says_synced b e ≡ true) (stays_stalled older lines.1) says)))),
          rest,
        ))
        (λ goes. rest)
    removals_stay_sure number (Doubts marked runs ∷ older) lines all = removals_stay_sure number older lines all

  -- ---- where all operations are below the number

  below_sure : (number : ℕ) (deeds : List Deed) → Each (λ c. c.by ≡ server → c.op ≤ number) (items deeds) → AllSure server number deeds
  below_sure number [] low = tt
  below_sure number (Does c e ∷ older) low = below_sure number older low.1
  below_sure number (Says e ∷ older) low = ((λ own says. low), below_sure number older low)
  below_sure number (Doubts marked runs ∷ older) low = below_sure number older low

  -- ---- the number is not below what is synced

  synced_below : (durable : ℕ) (h : List sectors.Entry) → Unsynced server durable h → synced_of server h ≤ durable
  synced_below durable [] none = omega arith
  synced_below durable (Did c ∷ h) none = synced_below durable h none
  synced_below durable (Recovered other number ∷ h) none = synced_below durable h none
  synced_below durable (Synced other number ∷ h) none = go (nat_eq server other) refl (synced_below durable h none.1)
    where
      go : (b : Bool) → nat_eq server other ≡ b → synced_of server h ≤ durable → (if b then number else synced_of server h) ≤ durable
      go true is low = none.0 (sym (eqb-true server other is))
      go false is low = low
  synced_below durable (Mounted other number ∷ h) none = go (nat_eq server other) refl (synced_below durable h none.1)
    where
      go : (b : Bool) → nat_eq server other ≡ b → synced_of server h ≤ durable → (if b then number else synced_of server h) ≤ durable
      go true is low = none.0 (sym (eqb-true server other is))
      go false is low = low

-- ---- along a history

module _ (segments : ℕ) (when : ℕ → ℕ) (opening : ℕ → Block) (first_tree : FileTree) (numbers : List ℕ) (times : AreTimes when)
    (begins : StandsNumbered segments opening (numbered first_tree numbers)) (server : ℕ) where
  abbrev paired_in : List Happening → Type 0
  paired_in h = ArePaired segments when opening first_tree numbers h

  lines_in : (h : List Happening) → paired_in h → AreLines when (settle first_tree h)
  lines_in h paired = lines_settle segments when opening first_tree numbers h times begins paired

  -- of two tests of which the first fails the second holds
  second : (a b : Bool) → a ≡ false → a || b ≡ true → b ≡ true
  second a b none e = sym (ap (λ x. x || b) none) ∙ e

  both : (a b : Bool) → not a && b ≡ true → (a ≡ false) × (b ≡ true)
  both false b e = (refl, e)
  both true b e = absurd (cc)

  -- since a mount of the server the same stalls are left that happened
  same_stalls : (h : List Happening) → paired_in h → has_mounted server (on_sectors h) ≡ true → stalled_in server (settle first_tree h) ≡ has_stalled server h
  same_stalls [] paired mounted = absurd (cc)
  same_stalls (Acts c e ∷ older) paired mounted =
      one_more server (settle first_tree older) (Stays e) ∙ ap (λ b. stalled_after server b (Stays e)) (same_stalls older paired.1 mounted)
  same_stalls (Speaks e ∷ older) paired mounted =
      one_more server (settle first_tree older) (Stays e) ∙ ap (λ b. stalled_after server b (Stays e)) (same_stalls older paired.2 mounted)
  same_stalls (Mounts number e ∷ older) paired mounted = one_more server (settle first_tree older) (Stays e) ∙ go (nat_eq e.server.0 server) refl (same_stalls older paired.2)
    where
      go : (b : Bool) → nat_eq e.server.0 server ≡ b → (has_mounted server (on_sectors older) ≡ true → stalled_in server (settle first_tree older) ≡ has_stalled server older) →
          stalled_after server (stalled_in server (settle first_tree older)) (Stays e) ≡ stalled_after server (has_stalled server older) (Stays e)
      go true own before =
          let same = eqb-true e.server.0 server own in
          mounted_after server (stalled_in server (settle first_tree older)) e same paired.0 ∙ sym (mounted_after server (has_stalled server older) e same paired.0)
      go false own before = ap (λ b. stalled_after server b (Stays e)) (before (second (nat_eq e.server.0 server) (has_mounted server (on_sectors older)) own mounted))
  same_stalls (Covers other number ∷ older) paired mounted = same_stalls older paired mounted
  same_stalls (Recovers other greatest durable ∷ older) paired mounted =
      let two = both (nat_eq other server) (has_mounted server (on_sectors older)) mounted in
      one_more server (what_stays other durable (settle first_tree older)) (InDoubt (doubtful other first_tree (steps (what_stays other durable (settle first_tree older)))))
      ∙ stays_stalled server other durable (λ same. let z : true ≡ false = sym (eq-eqb other server same) ∙ two.0 in cc) when (settle first_tree older) (lines_in older paired.1)
      ∙ same_stalls older paired.1 two.1

  -- its operations are below the number
  module _ (durable : ℕ) where
    lowers : (number : ℕ) (deeds : _) → number ≤ durable → Each (λ c. c.by ≡ server → c.op ≤ number) deeds → Each (λ c. c.by ≡ server → c.op ≤ durable) deeds
    lowers number deeds low all = each_map (λ c. c.by ≡ server → c.op ≤ number) (λ c. c.by ≡ server → c.op ≤ durable) (λ c own by. let l : c.op ≤ number = own by in omega arith) deeds all

    sectors_are : (h : List Happening) → paired_in h → items (settle first_tree h) ≡ settled (on_sectors h)
    sectors_are h paired = (histories_settle_alike segments when opening first_tree numbers h times begins paired).sectors

    here : (number : ℕ) (older : List Happening) → paired_in older → number ≤ durable → Each (λ c. c.by ≡ server → c.op ≤ number) (settled (on_sectors older)) →
        Each (λ c. c.by ≡ server → c.op ≤ durable) (items (settle first_tree older))
    here number older paired low all =
        subst (Each (λ c. c.by ≡ server → c.op ≤ durable)) (sym (sectors_are older paired)) (lowers number (settled (on_sectors older)) low all)

    sure : (h : List Happening) → paired_in h → AllSaidAtOnce h → has_mounted server (on_sectors h) ≡ true → Unsynced server durable (on_sectors h) → AllSure server durable (settle first_tree h)
    sure [] paired once mounted none = tt
    sure (Acts c e ∷ older) paired once mounted none = sure older paired.1 once mounted none
    sure (Speaks e ∷ older) paired once mounted none = (
      (λ own says. here (synced_of server (on_sectors older)) older paired.2 (synced_below server durable (on_sectors older) none)
          (subst (λ n. Each (λ c. c.by ≡ n → c.op ≤ synced_of n (on_sectors older)) (settled (on_sectors older))) own
          (once.0 (subst (λ n. says_synced (has_stalled n older) e ≡ true) (sym own)
          (subst (λ b. says_synced b e ≡ true) (same_stalls older paired.2 mounted) says))))),
      sure older paired.2 once.1 mounted none,
    )
    sure (Mounts number e ∷ older) paired once mounted none = go (nat_eq e.server.0 server) refl (λ there. sure older paired.2 once there none.1)
      where
        go : (b : Bool) → nat_eq e.server.0 server ≡ b → (has_mounted server (on_sectors older) ≡ true → AllSure server durable (settle first_tree older)) →
            AllSure server durable (Says e ∷ settle first_tree older)
        go true is before =
            let own = eqb-true e.server.0 server is in
            let low = here number older paired.2 (none.0 own) (subst (λ n. Each (λ c. c.by ≡ n → c.op ≤ number) (settled (on_sectors older))) own paired.1) in
            below_sure server durable (Says e ∷ settle first_tree older) low
        go false is before = (
          (λ own says. absurd (let z : true ≡ false = sym (eq-eqb e.server.0 server own) ∙ is in cc)),
          before (second (nat_eq e.server.0 server) (has_mounted server (on_sectors older)) is mounted),
        )
    sure (Covers other number ∷ older) paired once mounted none = sure older paired once mounted none.1
    sure (Recovers other greatest number ∷ older) paired once mounted none =
        let two = both (nat_eq other server) (has_mounted server (on_sectors older)) mounted in
        removals_stay_sure server other number (λ same. let z : true ≡ false = sym (eq-eqb other server same) ∙ two.0 in cc) when durable (settle first_tree older) (lines_in older paired.1)
        (sure older paired.1 once two.1 none)

pub histories_make_sure : HistoriesMakeSure
histories_make_sure segments when opening first_tree numbers h times begins paired once server durable mounted none =
    sure segments when opening first_tree numbers times begins server durable h paired once mounted none
