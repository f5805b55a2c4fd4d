-- So since its server's last mount a recovery keeps the same by what it reads and by what is durable.
use Rattle.std.proofs.Common.{◌≡◌, ◌≢◌, ℕ, ◌≤◌, ◌<◌, ◌⊎◌, inl, inr, Bool, true, false, not, ◌&&◌, ◌==◌, max, fold, List, [], ◌∷◌, map, refl, sym, ap, ◌∙◌, subst, arith}
use Rattle.std.specs.List.{Contains}
use Rattle.std.proofs.lemmas.Bool.{both_ways, eq-eqb, eqb-true, false≢true}
use Rattle.frang_base.specs.Functions.{keep_if}
use Rattle.frang_base.specs.declared.change.Redo.{Redo}
use Rattle.tree_definitions.specs.History.{Stays}
use Rattle.tree_definitions.specs.Removal.{mounts}
use Rattle.tree_definitions.specs.Touched.{is_mounted}
use Rattle.tree_definitions.specs.Tree.{FileTree}
use Rattle.disk_definitions.proofs.Listed.{Among, among_map, among_mapped, max_above, max_reached}
use Rattle.disk_definitions.specs.Logs.{greatest_operation, log_end}
use Rattle.ring_definitions.specs.Rings.{Ring}
use Rattle.sector_bytes.specs.Blocks.{Block}
use Rattle.sector_world.specs.Histories.{Commit, Each, Item, settled, survives}
use Rattle.sector_world.specs.Histories.Item.{Done, Doubt}
use Rattle.sector_world.specs.World.{World}
use Rattle.core_definitions.specs.Runs.{State as RunMoment}
use Rattle.core_definitions.specs.Servers as life
use Rattle.core_laws.proofs.Membership.{contains_in, in_contains}
use Rattle.core_world.specs.Journals.{IsJournal, IsUpTo, Journal, sector_log}
use Rattle.byte_trees.specs.Deeds.{Deed, Does, Doubts, Says, items}
use Rattle.stop_laws.specs.Happened.{Happening, Acts, Covers, Mounts, Recovers, Speaks, has_lost, on_sectors, settle, what_stays}
use Rattle.stop_laws.specs.Paired.{AreKeptSinceMount, ArePaired, BeginsWithARecord, IsKeptBy}
use Rattle.core_log_marks.specs.Accounts.{AccountsFor, AreUpTo, EachSinceMount, EndWithOthers, HasItsRecord, IsEndBefore}
use Rattle.core_log_marks.specs.Keeping.{IsReportOf}
use Rattle.core_log_marks.proofs.Counting.{ends_low, since_map}
use Rattle.core_log_marks.proofs.LastRecords.{end_rose}
use Rattle.core_log_marks.proofs.Standing.{report_durable, report_past}

-- ---- the greatest number

greatest_low : (k : ℕ) (records : List Redo) → AreUpTo k records → greatest_operation records ≤ k
greatest_low k records up = go (max_reached 0 (map (λ (r : Redo). r.op.0) records))
  where
    none : (n : ℕ) → n ≡ 0 → n ≤ k
    none n e = omega (arith, e)

    go : (fold max 0 (map (λ (r : Redo). r.op.0) records) ≡ 0) ⊎ Among (fold max 0 (map (λ (r : Redo). r.op.0) records)) (map (λ (r : Redo). r.op.0) records) → fold max 0 (map (λ (r : Redo). r.op.0) records) ≤ k
    go (inl e) = none (fold max 0 (map (λ (r : Redo). r.op.0) records)) e
    go (inr i) =
        let r = among_mapped (λ (r : Redo). r.op.0) records (fold max 0 (map (λ (r : Redo). r.op.0) records)) i in
        subst (λ n. n ≤ k) r.2 (up r.0 (in_contains records r.0 r.1))

greatest_high : (records : List Redo) (r : Redo) → Contains records r → r.op.0 ≤ greatest_operation records
greatest_high records r i = max_above 0 (map (λ (x : Redo). x.op.0) records) r.op.0 (among_map (λ (x : Redo). x.op.0) records r r.op.0 (contains_in records r i) refl)

-- ---- the first above the durable ones

apart : (a b : ℕ) → a < b → b ≤ a → ⊥
apart a b h k = omega (arith, h, k)

le_on : (a b d : ℕ) → a ≤ b → b ≤ d → a ≤ d
le_on a b d h k = omega (arith, h, k)

begins_so : (start limit : ℕ) (ends : ℕ → ℕ) (a k : ℕ) (h : List Item) → start ≤ limit → IsUpTo ends limit a k h → EndWithOthers start ends a h → BeginsWithARecord a k h
begins_so start limit ends a k [] low up all = tt
begins_so start limit ends a k (Doubt m ∷ h) low up all = begins_so start limit ends a k h low up all
begins_so start limit ends a k (Done c ∷ h) low up all = (here, begins_so start limit ends a k h low up.1 all.1)
  where
    here : c.by ≡ a → k < c.op → Each (λ other. other.by ≡ a → other.op ≤ k) h → c.changes ≢ []
    here mine over others none = apart k c.op over ((up.0 mine).1 (go (all.0 mine none)))
      where
        go : IsEndBefore start ends a (ends c.op) h → ends c.op ≤ limit
        go (inl first) = le_on (ends c.op) start limit first low
        go (inr at) = ends_low ends limit a k (ends c.op) h up.1 others at

-- ---- deeds since the mount

-- an operation with a record that is durable isn't above the greatest number
abbrev pub IsKeptOne : (greatest durable : ℕ) → Commit → Type 0
IsKeptOne greatest durable c = c.op ≤ durable → c.changes ≢ [] → c.op ≤ greatest

stays_kept : (a g k server durable : ℕ) → server ≢ a → (deeds : List Deed) → AreKeptSinceMount a g k deeds → AreKeptSinceMount a g k (what_stays server durable deeds)
stays_kept a g k server durable other [] all = tt
stays_kept a g k server durable other (Doubts marked runs ∷ older) all = stays_kept a g k server durable other older all
stays_kept a g k server durable other (Does c e ∷ older) all = go (survives server durable c) (stays_kept a g k server durable other older all.1)
  where
    go : (b : Bool) → AreKeptSinceMount a g k (what_stays server durable older) → AreKeptSinceMount a g k (keep_if b (Does c e) (what_stays server durable older))
    go true rest = (all.0, rest)
    go false rest = rest
stays_kept a g k server durable other (Says e ∷ older) all = go (not ((e.server.0 == server) && has_lost server durable older)) refl (λ rest. stays_kept a g k server durable other older rest)
  where
    of_it : (x y : Bool) → not (x && y) ≡ false → x ≡ true
    of_it true y f = refl
    of_it false y f = absurd (false≢true (sym f))

    mounts_not : (e.server.0 == server) ≡ true → mounts a (Stays e) ≡ false
    mounts_not t = by (e.server.0 == a) refl
      where
        by : (b : Bool) → (e.server.0 == a) ≡ b → (b && is_mounted e.reply) ≡ false
        by false f = refl
        by true f = absurd (other (sym (eqb-true e.server.0 server t) ∙ eqb-true e.server.0 a f))

    go : (b : Bool) → not ((e.server.0 == server) && has_lost server durable older) ≡ b → (AreKeptSinceMount a g k older → AreKeptSinceMount a g k (what_stays server durable older)) →
        AreKeptSinceMount a g k (keep_if b (Says e) (what_stays server durable older))
    go true f rest = λ none. rest (all none)
    go false f rest = rest (all (mounts_not (of_it (e.server.0 == server) (has_lost server durable older) f)))

kept_since : (segments : ℕ) (when : ℕ → ℕ) (opening : ℕ → Block) (first_tree : FileTree) (numbers : List ℕ) (a g k : ℕ) (h : List Happening) → ArePaired segments when opening first_tree numbers h →
    EachSinceMount (IsKeptOne g k) a (on_sectors h) → AreKeptSinceMount a g k (settle first_tree h)
kept_since segments when opening first_tree numbers a g k [] paired all = tt
kept_since segments when opening first_tree numbers a g k (Acts c e ∷ older) paired all = (all.0, kept_since segments when opening first_tree numbers a g k older paired.1 all.1)
kept_since segments when opening first_tree numbers a g k (Speaks e ∷ older) paired all = λ none. kept_since segments when opening first_tree numbers a g k older paired.2 all
kept_since segments when opening first_tree numbers a g k (Covers server number ∷ older) paired all = kept_since segments when opening first_tree numbers a g k older paired all
kept_since segments when opening first_tree numbers a g k (Recovers server greatest durable ∷ older) paired all =
    stays_kept a g k server durable all.0 (settle first_tree older) (kept_since segments when opening first_tree numbers a g k older paired.1 all.1)
kept_since segments when opening first_tree numbers a g k (Mounts number e ∷ older) paired all = λ none. kept_since segments when opening first_tree numbers a g k older paired.2 (all (other none))
  where
    other : mounts a (Stays e) ≡ false → e.server.0 ≢ a
    other none same = both_ways (mounts a (Stays e)) none (ap (λ b. b && is_mounted e.reply) (eq-eqb e.server.0 a same) ∙ paired.0)

-- ---- of a server

module _ (p : life.Phase) (w : World) (s : RunMoment) (a : ℕ) (ring : Ring) (j : Journal) (is : IsJournal p ring s.core.now s.core.flights s.disk (sector_log w a) a j) (account : AccountsFor j w a) (records : List Redo)
    (report : IsReportOf j.log.slots records) where
  kept_one : (c : Commit) → HasItsRecord j.log.placed c → IsKeptOne (greatest_operation records) (w.durable a) c
  kept_one c has low some =
      let q = has some in
      let r = report_past p w s a ring j is account records report q.0 q.1 (subst (λ n. n ≤ w.durable a) (sym q.2) low) in
      subst (λ n. n ≤ greatest_operation records) q.2 (le_on q.0.redo.op.0 r.0.op.0 (greatest_operation records) r.2 (greatest_high records r.0 r.1))

  pub kept_by : (segments : ℕ) (when : ℕ → ℕ) (opening : ℕ → Block) (first_tree : FileTree) (numbers : List ℕ) (h : List Happening) → ArePaired segments when opening first_tree numbers h → on_sectors h ≡ w.history →
      items (settle first_tree h) ≡ settled w.history → IsKeptBy a (greatest_operation records) (w.durable a) (settle first_tree h)
  kept_by segments when opening first_tree numbers h paired history settles = record {
    within = greatest_low (w.durable a) records (report_durable p w s a ring j is account records report);
    records = kept_since segments when opening first_tree numbers a (greatest_operation records) (w.durable a) h paired
        (subst (EachSinceMount (IsKeptOne (greatest_operation records) (w.durable a)) a) (sym history)
        (since_map (HasItsRecord j.log.placed) (IsKeptOne (greatest_operation records) (w.durable a)) a kept_one w.history account.recorded));
    begins = subst (BeginsWithARecord a (w.durable a)) (sym settles)
        (begins_so (log_end j.before) (log_end j.log.slots) j.ends a (w.durable a) (settled w.history) (end_rose j.before j.log is.good) is.counted.durable account.silent);
  }
