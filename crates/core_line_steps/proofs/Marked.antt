-- The sectors that a Commit makes dirty are marked with the last number of the log, at which its operation ends; other marks stay.
use Rattle.std.proofs.Common.{◌≡◌, ◌⊎◌, ◌≤◌, ◌<◌, ℕ, Bool, true, false, if◌then◌else◌, IsTrue, is_some, nat_le, List, [], ◌∷◌, Option, Some, None, refl, sym, ap, ◌∙◌, subst, inl, inr, arith}
use Rattle.std.proofs.lemmas.Bool.{cases_eq, false≢true, le-leb}
use Rattle.std.proofs.lemmas.Bool.Decides.{nat_tests}
use Rattle.std.specs.Option.{option_map, unwrap_or}
use Rattle.frang_base.specs.Functions.{member, put, put2}
use Rattle.frang_base.proofs.Basics.{at_put, at_put2}
use Rattle.frang_base.specs.declared.change.Change.{Change}
use Rattle.frang_base.specs.declared.change.Redo.{Redo}
use Rattle.frang_base.specs.declared.lock.LockId.{LockId}
use Rattle.cache_definitions.specs.declared.dirt.Dirt.{Dirt}
use Rattle.cache_definitions.specs.Caches.{Cache, CachedSector}
use Rattle.sector_bytes.specs.Blocks.{Block}
use Rattle.sector_bytes.specs.Replays.{change_at}
use Rattle.sector_bytes.specs.SectorMaps.{Ascend, value_at}
use Rattle.ring_definitions.specs.RingRuns.{LogState}
use Rattle.ring_definitions.specs.Rings.{Ring, last}
use Rattle.core_definitions.specs.LineEffects.{cache_after, changed_by, committed_at, committed_by, ring_after, sector_after}
use Rattle.core_definitions.specs.LineGuards.{is_server}
use Rattle.core_definitions.specs.Lines.{Finishing}
use Rattle.core_definitions.specs.Plans as plans
use Rattle.core_definitions.specs.Plans.{BytesSet}
use Rattle.core_definitions.specs.Rings.{appended_some}
use Rattle.core_definitions.specs.Servers.{Server}
use Rattle.core_definitions.specs.Settings.{setting_of}
use Rattle.core_facts.specs.Blocks.{CachedBlocksAreWhole}
use Rattle.core_facts.specs.LockSets.{SegmentsAreSole}
use Rattle.core_laws.specs.Orders.{CoresAreInOrder}
use Rattle.line_locks.specs.Lines.{SetCoversAreTrue}
use Rattle.sector_world.specs.Guards.{CanDo}
use Rattle.sector_world.specs.Histories.{Commit, Each, Item, settled}
use Rattle.sector_world.specs.Histories.Fill.{Written}
use Rattle.sector_world.specs.Histories.Item.{Done, Doubt}
use Rattle.sector_world.specs.Kinds.{Good}
use Rattle.sector_world.specs.Steps.{after, changed, page_done, page_filled}
use Rattle.sector_world.specs.Steps.Event.{Do}
use Rattle.sector_world.specs.World.{World, Page, NoPage, CleanPage, DirtyPage, FreedPage, Slot, Absent, Clean, Dirty, cover, has_version}
use Rattle.core_world.specs.Beside.{AreEnds, AtCached, AtDirt, AtPage, AtSlot, IsEnd}
use Rattle.core_world.specs.Journals.{IsOwn, Journal, sector_log}
use Rattle.core_world.specs.Ties.{AreCached, IsCachedAs}
use Rattle.core_lives.proofs.Alike.{mounted_journal}
use Rattle.core_commits.specs.Commits.{IsDoneAs, fetched_slots, fetched_world, fill_of, last_set}
use Rattle.core_commits.specs.Moments.{claimed_in, operation_at}
use Rattle.core_commits.specs.Standing.{tree_now}
use Rattle.core_commits.proofs.CacheLaws.{after_at, with_set}
use Rattle.core_commits.proofs.Gathering.{lines_are_done}
use Rattle.core_commits.proofs.Reclaiming.{up_of}
use Rattle.core_line_steps.specs.Marks.{CommitsKeepEnds, journal_done, log_done}
use Rattle.core_line_steps.proofs.Ended.{up_mounted}

-- ---- ties of marks

module _ (Old New : ℕ → ℕ → Type 0) where
  slot_more : (mark : ℕ) → ((m : ℕ) → Old mark m → New mark m) → (slot : Slot) → AtSlot Old mark slot → AtSlot New mark slot
  slot_more mark more Absent h = tt
  slot_more mark more (Clean block) h = tt
  slot_more mark more (Dirty block m) h = more m h

  page_more : (mark : ℕ) → ((m : ℕ) → Old mark m → New mark m) → (page : Page) → AtPage Old mark page → AtPage New mark page
  page_more mark more NoPage h = tt
  page_more mark more (CleanPage block) h = tt
  page_more mark more (DirtyPage block m) h = more m h
  page_more mark more (FreedPage m) h = tt

  dirt_more : ((mark m : ℕ) → Old mark m → New mark m) → (dirt : Option Dirt) (slot : Slot) (page : Page) → AtDirt Old dirt slot page → AtDirt New dirt slot page
  dirt_more more None slot page h = tt
  dirt_more more (Some dirt) slot page h = (slot_more dirt.mark (λ m. more dirt.mark m) slot h.0, page_more dirt.mark (λ m. more dirt.mark m) page h.1)

  cached_more : ((mark m : ℕ) → Old mark m → New mark m) → (o : Option CachedSector) (slot : Slot) (page : Page) → AtCached Old o slot page → AtCached New o slot page
  cached_more more None slot page h = tt
  cached_more more (Some kept) slot page h = dirt_more more kept.dirt slot page h

module _ (Ties : ℕ → ℕ → Type 0) (disk : ℕ → Block) (a : ℕ) where
  -- what is fetched is clean
  slot_fetched : (mark : ℕ) (sectors : List ℕ) (slot : ℕ → ℕ → Slot) (b s : ℕ) → AtSlot Ties mark (slot b s) → AtSlot Ties mark (fetched_slots disk slot a sectors b s)
  slot_fetched mark [] slot b s h = h
  slot_fetched mark (x ∷ xs) slot b s h =
      slot_fetched mark xs (put2 slot a x (Clean (disk x))) b s (at_put2 (λ z. AtSlot Ties mark z) slot a x (Clean (disk x)) b s (λ e i. tt) (λ n. h))

  dirt_fetched : (sectors : List ℕ) (slot : ℕ → ℕ → Slot) (b s : ℕ) (dirt : Option Dirt) (page : Page) → AtDirt Ties dirt (slot b s) page → AtDirt Ties dirt (fetched_slots disk slot a sectors b s) page
  dirt_fetched sectors slot b s None page h = tt
  dirt_fetched sectors slot b s (Some dirt) page h = (slot_fetched dirt.mark sectors slot b s h.0, h.1)

  cached_fetched : (sectors : List ℕ) (slot : ℕ → ℕ → Slot) (b s : ℕ) (o : Option CachedSector) (page : Page) → AtCached Ties o (slot b s) page → AtCached Ties o (fetched_slots disk slot a sectors b s) page
  cached_fetched sectors slot b s None page h = tt
  cached_fetched sectors slot b s (Some kept) page h = dirt_fetched sectors slot b s kept.dirt page h

-- ---- the journal

past_not : (n m : ℕ) → m < n → nat_le n m ≡ false
past_not n m l = grind (arith, nat_tests, l)

ring_done : (redo : Option Redo) (log : LogState) → (log_done redo log).ring ≡ appended_some log.ring redo
ring_done None log = refl
ring_done (Some redo) log = refl

reached_done : (r : Ring) (redo : Option Redo) → (appended_some r redo).reached ≡ r.reached
reached_done r None = refl
reached_done r (Some redo) = refl

own_below : (a : ℕ) (last_of : ℕ → ℕ) (m : ℕ) (h : List Item) → Each (λ c. c.op ≤ last_of c.by) h → IsOwn a m h → m ≤ last_of a
own_below a last_of m [] all i = absurd i
own_below a last_of m (Done c ∷ h) all (inl e) = subst (λ n. n ≤ last_of a) e.1 (subst (λ b. c.op ≤ last_of b) e.0 all.0)
own_below a last_of m (Done c ∷ h) all (inr i) = own_below a last_of m h all.1 i
own_below a last_of m (Doubt n ∷ h) all i = own_below a last_of m h all i

-- ---- after an operation

module _ (servers : ℕ → Server) (w : World) (outcome : plans.Outcome) (c : Commit) (sectors : List ℕ) (g : Good (fetched_world w c.by sectors)) (t : AreCached servers w) (sorted : Ascend (servers c.by).cache)
    (done : IsDoneAs outcome c w) (can : CanDo (fetched_world w c.by sectors) c) (journal : ℕ → Journal) (ring : (journal c.by).log.ring ≡ (servers c.by).ring) (server : IsTrue (is_server c.by))
    (ends : AreEnds servers w journal) where
  abbrev u : World
  u = after (fetched_world w c.by sectors) (Do c)

  abbrev then_ : ℕ → Server
  then_ = put servers c.by (committed_by outcome (servers c.by))

  abbrev done_journal : Journal
  done_journal = journal_done (w.last c.by) outcome.redo (journal c.by)

  abbrev journals : ℕ → Journal
  journals = put journal c.by (journal_done (w.last c.by) outcome.redo (journal c.by))

  abbrev mark : ℕ
  mark = last (ring_after (servers c.by) outcome)

  abbrev old : Cache
  old = (servers c.by).cache

  abbrev Old : ℕ → ℕ → Type 0
  Old = IsEnd (journal c.by).ends (servers c.by).ring.reached (w.acked c.by) c.by (settled w.history)

  abbrev New : ℕ → ℕ → Type 0
  New = IsEnd done_journal.ends (committed_by outcome (servers c.by)).ring.reached (w.acked c.by) c.by (Done c ∷ settled w.history)

  -- its operation ends at the last number
  new_end : done_journal.ends c.op ≡ mark
  new_end =
      ap (λ (b : Bool). if b then (journal c.by).ends c.op else last (log_done outcome.redo (journal c.by).log).ring) (past_not c.op (w.last c.by) can.number)
      ∙ ap (λ (r : Ring). last r) (ring_done outcome.redo (journal c.by).log)
      ∙ ap (λ (r : Ring). last (appended_some r outcome.redo)) ring

  new_mark : New mark c.op
  new_mark = inr (inl (refl, refl), new_end)

  more : (at m : ℕ) → Old at m → New at m
  more at m (inl both) = inl (subst (λ k. at ≤ k) (sym (reached_done (servers c.by).ring outcome.redo)) both.0, both.1)
  more at m (inr own) =
      inr (inr own.0, ap (λ (b : Bool). if b then (journal c.by).ends m else last (log_done outcome.redo (journal c.by).log).ring) (le-leb m (w.last c.by) (own_below c.by w.last m (settled w.history) g.logged.below own.0)) ∙ own.1)

  abbrev slot_now : ℕ → Slot
  slot_now s = fetched_slots w.disk w.slot c.by sectors c.by s

  before : (s : ℕ) → AtCached Old (value_at old s) (slot_now s) (w.page c.by s)
  before s = cached_fetched Old w.disk c.by sectors w.slot c.by s (value_at old s) (w.page c.by s) (ends c.by s server)

  not_claimed : (claimed older : Bool) → (if claimed then true else older) ≡ false → (claimed ≡ false) × (older ≡ false)
  not_claimed true older e = absurd (false≢true (sym e))
  not_claimed false older e = (refl, e)

  unchanged : (x : Option Change) → (is_some x ≡ true → ⊥) → x ≡ None
  unchanged None n = refl
  unchanged (Some x) n = absurd (n refl)

  no_slot : (o : Option CachedSector) (lock : LockId) (slot : Slot) (page : Page) → IsCachedAs false lock o slot page → slot ≡ Absent
  no_slot None lock slot page i = i.0
  no_slot (Some kept) lock slot page i = i.1

  changed_marks : (x : Change) (slot : Slot) → AtSlot New mark (changed (Some x) c.op slot)
  changed_marks x Absent = tt
  changed_marks x (Clean block) = new_mark
  changed_marks x (Dirty block m) = new_mark

  -- bytes that are set
  set_marks : (s : ℕ) (block : Block) → c.writes s ≡ Some (Written block) → AtSlot New mark (changed (change_at c.changes s) c.op (slot_now s)) × AtPage New mark (page_done (c.claims s) (c.writes s) c.op (w.page c.by s))
  set_marks s block e =
      let bare : (if c.claims s then true else has_version w s) ≡ false = can.plain s (ap is_some e) in
      let both = not_claimed (c.claims s) (has_version w s) bare in
      let none : change_at c.changes s ≡ None = unchanged (change_at c.changes s) (λ i. false≢true (sym bare ∙ can.named s i)) in
      let absent : w.slot c.by s ≡ Absent = no_slot (value_at old s) (cover w s) (w.slot c.by s) (w.page c.by s)
      (subst (λ v. IsCachedAs v (cover w s) (value_at old s) (w.slot c.by s) (w.page c.by s)) both.1 (t c.by s)) in (
        subst (λ x. AtSlot New mark (changed x c.op (slot_now s))) (sym none) (slot_fetched New w.disk c.by mark sectors w.slot c.by s (subst (AtSlot New mark) (sym absent) tt)),
        subst (λ b. AtPage New mark (page_done b (c.writes s) c.op (w.page c.by s))) (sym both.0) (subst (λ f. AtPage New mark (page_filled f c.op (w.page c.by s))) (sym e) new_mark),
      )

  -- what has a version then has no page
  no_page : (s : ℕ) (claimed : Bool) → c.claims s ≡ claimed → (if claimed then true else has_version w s) ≡ true → AtPage New mark (if claimed then NoPage else w.page c.by s)
  no_page s true e v = tt
  no_page s false e v = subst (AtPage New mark) (sym (g.kinds.empty c.by s v)) tt

  page_kept : (claimed : Bool) (dirt : Option Dirt) (slot : Slot) (page : Page) → AtDirt New dirt slot page → AtDirt New dirt slot (if claimed then NoPage else page)
  page_kept true None slot page i = tt
  page_kept true (Some dirt) slot page i = (i.0, tt)
  page_kept false dirt slot page i = i

  kept_marks : (s : ℕ) (x : Option Change) → change_at c.changes s ≡ x → c.writes s ≡ None → (o : Option CachedSector) → value_at old s ≡ o →
      AtCached New (option_map (λ k. changed_by mark (unwrap_or (outcome.moves s) k.cover) x k) o) (changed x c.op (slot_now s)) (page_done (c.claims s) None c.op (w.page c.by s))
  kept_marks s x e plain None i = tt
  kept_marks s (Some x) e plain (Some kept) i = (changed_marks x (slot_now s), no_page s (c.claims s) refl (can.named s (ap is_some e)))
  kept_marks s None e plain (Some kept) i =
      page_kept (c.claims s) kept.dirt (slot_now s) (w.page c.by s) (dirt_more Old New more kept.dirt (slot_now s) (w.page c.by s) (subst (λ o. AtCached Old o (slot_now s) (w.page c.by s)) i (before s)))

  own : (s : ℕ) → AtCached New (value_at (cache_after mark outcome old) s) (changed (change_at c.changes s) c.op (slot_now s)) (page_done (c.claims s) (c.writes s) c.op (w.page c.by s))
  own s = subst (λ o. AtCached New o (changed (change_at c.changes s) c.op (slot_now s)) (page_done (c.claims s) (c.writes s) c.op (w.page c.by s))) (sym (after_at mark outcome old s sorted))
      (go (member s outcome.freed) (last_set outcome.bytes s) (done.fills s))
    where
      go : (freed : Bool) (set : Option BytesSet) → c.writes s ≡ fill_of freed set →
          AtCached New (if freed then None else with_set mark set (option_map (sector_after mark outcome s) (value_at old s))) (changed (change_at c.changes s) c.op (slot_now s))
          (page_done (c.claims s) (c.writes s) c.op (w.page c.by s))
      go true set e = tt
      go false (Some x) e = set_marks s x.block e
      go false None e =
          subst (λ f. AtCached New (option_map (sector_after mark outcome s) (value_at old s)) (changed (change_at c.changes s) c.op (slot_now s)) (page_done (c.claims s) f c.op (w.page c.by s))) (sym e)
          (subst (λ x. AtCached New (option_map (λ k. changed_by mark (unwrap_or (outcome.moves s) k.cover) x k) (value_at old s)) (changed (change_at c.changes s) c.op (slot_now s))
          (page_done (c.claims s) None c.op (w.page c.by s))) (sym (done.changes s)) (kept_marks s (change_at c.changes s) refl e (value_at old s) refl))

  -- another server
  abbrev Was : ℕ → ℕ → ℕ → Type 0
  Was b = IsEnd (journal b).ends (servers b).ring.reached (w.acked b) b (settled w.history)

  abbrev Is : ℕ → ℕ → ℕ → Type 0
  Is b = IsEnd (journal b).ends (servers b).ring.reached (w.acked b) b (Done c ∷ settled w.history)

  longer : (b at m : ℕ) → Was b at m → Is b at m
  longer b at m (inl both) = inl both
  longer b at m (inr i) = inr (inr i.0, i.1)

  other : (b s : ℕ) → IsTrue (is_server b) → AtCached (Is b) (value_at (servers b).cache s) (fetched_slots w.disk w.slot c.by sectors b s) (w.page b s)
  other b s who = cached_more (Was b) (Is b) (longer b) (value_at (servers b).cache s) (fetched_slots w.disk w.slot c.by sectors b s) (w.page b s)
      (cached_fetched (Was b) w.disk c.by sectors w.slot b s (value_at (servers b).cache s) (w.page b s) (ends b s who))

  abbrev Goal : ℕ → ℕ → Journal → Server → Slot → Page → Type 0
  Goal b s j x slot page = AtCached (IsEnd j.ends x.ring.reached (w.acked b) b (Done c ∷ settled w.history)) (value_at x.cache s) slot page

  pub ends_done : AreEnds then_ u journals
  ends_done b s who = go (cases_eq b c.by)
    where
      go : (b ≡ c.by) ⊎ (b ≡ c.by → ⊥) → Goal b s (journals b) (then_ b) (put (fetched_world w c.by sectors).slot c.by (λ i. changed (change_at c.changes i) c.op (slot_now i)) b s)
          (put w.page c.by (λ i. page_done (c.claims i) (c.writes i) c.op (w.page c.by i)) b s)
      go (inl e) =
          at_put (λ j. Goal b s j (then_ b) (put (fetched_world w c.by sectors).slot c.by (λ i. changed (change_at c.changes i) c.op (slot_now i)) b s) (put w.page c.by (λ i. page_done (c.claims i) (c.writes i) c.op (w.page c.by i)) b s))
          journal c.by done_journal b
          (λ i. at_put (λ x. Goal b s done_journal x (put (fetched_world w c.by sectors).slot c.by (λ i. changed (change_at c.changes i) c.op (slot_now i)) b s) (put w.page c.by (λ i. page_done (c.claims i) (c.writes i) c.op (w.page c.by i)) b s))
          servers c.by (committed_by outcome (servers c.by)) b
          (λ i. at_put (λ f. Goal b s done_journal (committed_by outcome (servers c.by)) (f s) (put w.page c.by (λ i. page_done (c.claims i) (c.writes i) c.op (w.page c.by i)) b s))
          (fetched_world w c.by sectors).slot c.by (λ i. changed (change_at c.changes i) c.op (slot_now i)) b
          (λ i. at_put (λ f. Goal b s done_journal (committed_by outcome (servers c.by)) (changed (change_at c.changes s) c.op (slot_now s)) (f s)) w.page c.by (λ i. page_done (c.claims i) (c.writes i) c.op (w.page c.by i)) b
          (λ i. subst (λ n. Goal n s done_journal (committed_by outcome (servers c.by)) (changed (change_at c.changes s) c.op (slot_now s)) (page_done (c.claims s) (c.writes s) c.op (w.page c.by s))) (sym e) (own s))
          (λ n. absurd (n e))) (λ n. absurd (n e))) (λ n. absurd (n e))) (λ n. absurd (n e))
      go (inr n) =
          at_put (λ j. Goal b s j (then_ b) (put (fetched_world w c.by sectors).slot c.by (λ i. changed (change_at c.changes i) c.op (slot_now i)) b s) (put w.page c.by (λ i. page_done (c.claims i) (c.writes i) c.op (w.page c.by i)) b s))
          journal c.by done_journal b (λ i. absurd (n i))
          (λ k. at_put (λ x. Goal b s (journal b) x (put (fetched_world w c.by sectors).slot c.by (λ i. changed (change_at c.changes i) c.op (slot_now i)) b s) (put w.page c.by (λ i. page_done (c.claims i) (c.writes i) c.op (w.page c.by i)) b s))
          servers c.by (committed_by outcome (servers c.by)) b (λ i. absurd (n i))
          (λ k. at_put (λ f. Goal b s (journal b) (servers b) (f s) (put w.page c.by (λ i. page_done (c.claims i) (c.writes i) c.op (w.page c.by i)) b s))
          (fetched_world w c.by sectors).slot c.by (λ i. changed (change_at c.changes i) c.op (slot_now i)) b (λ i. absurd (n i))
          (λ k. at_put (λ f. Goal b s (journal b) (servers b) (fetched_slots w.disk w.slot c.by sectors b s) (f s)) w.page c.by (λ i. page_done (c.claims i) (c.writes i) c.op (w.page c.by i)) b (λ i. absurd (n i))
          (λ k. other b s who))))

-- ---- at a moment of a run

pub commits_keep_ends : CoresAreInOrder → CachedBlocksAreWhole → SegmentsAreSole → SetCoversAreTrue → CommitsKeepEnds
commits_keep_ends order cached sole covers s w journal when first_tree numbers a outcome server m at numbered op clean ends =
    let ready = op.done clean in
    let sorted = ((order (setting_of m.reached.script m.reached.segments m.reached.number) m.reached.disk s m.reached.run).servers a).cache in
    let done = lines_are_done order cached sole covers s w journal when first_tree numbers a outcome m numbered op in
    let j = mounted_journal (s.core.servers a).phase (up_mounted (s.core.servers a).phase (up_of s.core.setting s.core.locks a (s.core.servers a) (Finishing outcome) at)) (s.core.servers a).ring s.core.now s.core.flights s.disk
    (sector_log w a) a (journal a) (m.world.journals a server) in
    subst (λ x. AreEnds (committed_at s.core a x).servers
    (after (fetched_world w a (claimed_in (s.core.servers a).cache op.out.o.claims)) (Do (operation_at s w when (tree_now when first_tree w) a outcome op)))
    (put journal a (journal_done (w.last a) outcome.redo (journal a)))) (sym at)
    (ends_done s.core.servers w outcome (operation_at s w when (tree_now when first_tree w) a outcome op) (claimed_in (s.core.servers a).cache op.out.o.claims) ready.1.good m.world.tied.cached sorted done ready.1.can journal j.ring_is
    server ends)
