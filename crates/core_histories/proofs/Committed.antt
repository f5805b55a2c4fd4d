-- A Commit: its line and its operation are of one line, the line says what the operation shows, and what happened is told on.
use Rattle.std.proofs.Common.{ℕ, ◌≡◌, Bool, true, false, ◌&&◌, if◌then◌else◌, is_some, Option, Some, None, List, [], ◌∷◌, ◌++◌, refl, sym, ap, ap₂, ◌∙◌, subst, ⊎_elim}
use Rattle.std.proofs.lemmas.Bool.{false≢true}
use Rattle.std.proofs.lemmas.Option.{same_Some}
use Rattle.std.specs.List.Sorted.{IsStrictlySortedBy}
use Rattle.std.specs.Map.{keys_of}
use Rattle.frang_base.specs.Functions.{member}
use Rattle.frang_base.specs.declared.lock.LockId.{LockId}
use Rattle.frang_base.specs.declared.reply.Reply.{Reply}
use Rattle.frang_base.specs.declared.reply.Reply.TheVariants as reply
use Rattle.frang_base.specs.declared.said.Said.TheVariants as said
use Rattle.tree_definitions.specs.declared.history.Entry.{Entry}
use Rattle.tree_definitions.specs.declared.history.Item.TheVariants.{Did as DidItem}
use Rattle.tree_definitions.specs.Apply.{is_path_op}
use Rattle.tree_definitions.specs.Live.{line_of, live_history}
use Rattle.tree_definitions.specs.Touched.{is_mounted}
use Rattle.tree_definitions.specs.Tree.{FileTree}
use Rattle.lock_definitions.specs.Order.{lock_cmp}
use Rattle.sector_bytes.specs.SectorMaps.{Ascend, value_at}
use Rattle.cache_definitions.specs.declared.dirt.Dirt.{Dirt}
use Rattle.cache_definitions.specs.Caches.{CachedSector}
use Rattle.disk_definitions.specs.Plans.{Finish}
use Rattle.disk_definitions.specs.Plans.Plan.{Finishes}
use Rattle.sector_world.specs.Guards.{CanDo}
use Rattle.sector_world.specs.Histories.{Commit, logical, settled}
use Rattle.sector_world.specs.Histories.Entry.{Did}
use Rattle.sector_world.specs.Logged.{now_of}
use Rattle.sector_world.specs.Plans.{Outcome}
use Rattle.sector_world.specs.World.{World, Slot, Page, NoPage, cover, has_version}
use Rattle.line_histories.specs.LinePlans.{sector_plan, without_bytes}
use Rattle.core_definitions.specs.Cores.{stage}
use Rattle.core_definitions.specs.Effects.{deeds_of, id_of, reply_by, says_answer}
use Rattle.core_definitions.specs.Events as core
use Rattle.core_definitions.specs.Events.{Nothing}
use Rattle.core_definitions.specs.Lines.{Finishing, Stage, stage_at}
use Rattle.core_definitions.specs.Plans as plans
use Rattle.core_definitions.specs.Runs.{State as RunMoment, next, saids_of}
use Rattle.core_definitions.specs.Servers.{asks, is_up, stage_under, stage_with}
use Rattle.core_definitions.specs.Settings.{Setting, setting_of}
use Rattle.core_laws.specs.Orders.{AreLinesInOrder, CoresAreInOrder}
use Rattle.core_laws.proofs.Kept.{setting_kept}
use Rattle.core_facts.specs.Blocks.{CachedBlocksAreWhole}
use Rattle.core_transcripts.proofs.Staging.{StageIsPlain, stage_plain}
use Rattle.core_transcripts.proofs.Walking.{IsPlain}
use Rattle.core_world.specs.Journals.{Journal}
use Rattle.core_world.specs.Sights.{AreStood}
use Rattle.core_world.specs.Ties.{IsCachedAs, IsPageOf}
use Rattle.core_lives.specs.Lives.{HasEntry}
use Rattle.core_commits.specs.Commits.{AreClaimedClean, block_in, fetched_world}
use Rattle.core_commits.specs.Finished.{number_in}
use Rattle.core_commits.specs.Moments.{IsNumbered, IsOfARun, IsOperation, LinesAreNumbered, claimed_in, operation_at}
use Rattle.core_commits.specs.Stages.{IsFinished, sight_in}
use Rattle.core_commits.specs.Standing.{AreWhole, tree_now, whole_disk}
use Rattle.core_commits.proofs.Finished.{agree, ascends, comes_now, met, of, over}
use Rattle.core_commits.proofs.OneDisk.{all_stood, whole_stood}
use Rattle.stop_laws.specs.Happened.{Acts, Happening}
use Rattle.stop_laws.specs.Paired.{AreOfOneLine, ArePaired}
use Rattle.stop_laws.specs.Replies.{SaidWhereItHappened, SaysWhatItShows}
use Rattle.stop_laws.proofs.Framed.{replies_framed}
use Rattle.core_histories.specs.Answers.{LinesUnderWayAreOfTheScript}
use Rattle.core_histories.specs.Tellings.{IsTold, Tells, entry_of}
use Rattle.core_histories.specs.Told.{CommitsAreTold}
use Rattle.core_histories.proofs.Adding.{answer_adds}
use Rattle.core_histories.proofs.Showing.{comes_showing}

-- ---- what is shown is cached

record IsKeptAs (x : Option CachedSector) (page : Page) : Type 0 where
  kept : CachedSector
  is : x ≡ Some kept
  shows : block_in page ≡ Some kept.block

page_shows : (v : Bool) (lock : LockId) (x : Option CachedSector) (slot : Slot) (page : Page) → (v ≡ true → page ≡ NoPage) → IsCachedAs v lock x slot page → is_some (block_in page) ≡ true → IsKeptAs x page
page_shows true lock x slot page empty i some = absurd (false≢true (sym (ap (λ z. is_some (block_in z)) (empty refl)) ∙ some))
page_shows false lock None slot page empty i some =
    absurd (⊎_elim (λ e. false≢true (sym (ap (λ z. is_some (block_in z)) e) ∙ some)) (λ e. false≢true (sym (ap (λ z. is_some (block_in z)) e.1) ∙ some)) i.1)
page_shows false lock (Some kept) slot page empty i some = go kept.dirt i.2
  where
    go : (dirt : Option Dirt) → IsPageOf dirt kept.block page → IsKeptAs (Some kept) page
    go None j = record { kept = kept; is = refl; shows = ap block_in j }
    go (Some dirt) j = record { kept = kept; is = refl; shows = ap block_in j.1 }

plain_mounts_none : (r : Reply) → IsPlain r → is_mounted r ≡ false
plain_mounts_none reply.Mounted h = absurd h
plain_mounts_none r h = refl

stage_if : (b : Bool) (x : Option Stage) (y : Stage) → (if b then x else None) ≡ Some y → x ≡ Some y
stage_if true x y e = e
stage_if false x y e = absurd (cc)

module _ (script : LinesUnderWayAreOfTheScript) (order : CoresAreInOrder) (cached_whole : CachedBlocksAreWhole) (s : RunMoment) (w u : World) (journal : ℕ → Journal) (when : ℕ → ℕ) (first_tree : FileTree)
    (numbers : List ℕ) (a : ℕ) (outcome : plans.Outcome) (m : IsOfARun s w journal when first_tree numbers)
    (at : stage s.core a ≡ Some (Finishing outcome)) (numbered : LinesAreNumbered s w when first_tree numbers a) (op : IsOperation s w when (tree_now when first_tree w) a outcome)
    (clean : AreClaimedClean (s.core.servers a).cache (operation_at s w when (tree_now when first_tree w) a outcome op)) where
  abbrev tree : FileTree
  tree = tree_now when first_tree w

  abbrev f : IsFinished s.core.setting s.core.locks a (s.core.servers a) outcome
  f = op.f

  abbrev c : Commit
  c = operation_at s w when (tree_now when first_tree w) a outcome op

  abbrev n : ℕ
  n = number_in s.core.setting op.f.line.under.line.number

  abbrev hint : List ℕ
  hint = keys_of (sight_in s.core.setting (s.core.servers a) op.f.line.under).held

  abbrev e : Entry
  e = entry_of s.core.setting a op.f.line.under.line.number op.f.line.operation outcome.reply

  q : IsNumbered s w when first_tree numbers a op.f.line.under.line.number op.f.line.operation
  q = numbered op.f.line.under op.f.line.operation op.f.line.is op.f.line.asked

  -- ---- of one line

  plain : IsPlain outcome.reply
  plain =
      subst StageIsPlain
      (same_Some (stage_at s.core.setting s.core.locks a (s.core.servers a).cache op.f.line.under op.f.line.operation) (Finishing outcome)
      (sym (ap (stage_under s.core.setting s.core.locks a (s.core.servers a).cache) op.f.line.is ∙ ap (stage_with s.core.setting s.core.locks a (s.core.servers a).cache op.f.line.under) op.f.line.asked)
      ∙ stage_if (is_up (s.core.servers a).phase && asks is_path_op (s.core.servers a)) (stage_under s.core.setting s.core.locks a (s.core.servers a).cache (s.core.servers a).under) (Finishing outcome) at))
      (stage_plain s.core.setting s.core.locks a (s.core.servers a).cache op.f.line.under op.f.line.operation)

  pub one_line : AreOfOneLine when c e
  one_line = record {
    by = refl;
    number = refl;
    time = sym q.time;
    asked = refl;
    reply = ap (λ (x : plans.Outcome). without_bytes x.reply) op.f.outcome_is ∙ sym op.out.says.reply;
    no_mount = plain_mounts_none outcome.reply plain;
  }

  -- ---- what it shows

  stood : AreStood s.core.servers w
  stood = all_stood s.core.servers w m.world.tied.cached m.good m.zeros

  abbrev setting : Setting
  setting = setting_of m.reached.script m.reached.segments m.reached.number

  sorted : Ascend (s.core.servers a).cache
  sorted = ((order setting m.reached.disk s m.reached.run).servers a).cache

  long : AreWhole (s.core.servers a).cache
  long number kept i = cached_whole m.reached.script m.reached.segments m.reached.number m.reached.disk s m.whole m.reached.run a number kept i

  ordered : IsStrictlySortedBy lock_cmp (keys_of op.f.line.under.set)
  ordered = (subst AreLinesInOrder op.f.line.is ((order setting m.reached.disk s m.reached.run).servers a).under).set

  can : CanDo (fetched_world w a (claimed_in (s.core.servers a).cache op.out.o.claims)) c
  can = (op.done clean).1.can

  -- each sector of bytes that it reads is cached, and is that of the one disk
  shows : (number : ℕ) → member number op.out.o.reads ≡ true → c.shown number ≡ Some (whole_disk w number)
  shows number i =
      let page_is : c.shown number ≡ block_in (w.page a number) = ap (λ b. if b then block_in (w.page a number) else None) i in
      let x = page_shows (has_version w number) (cover w number) (value_at (s.core.servers a).cache number) (w.slot a number) (w.page a number) (m.good.kinds.empty a number) (m.world.tied.cached a number)
      (sym (ap is_some page_is) ∙ can.reads number ∙ i) in
      page_is ∙ x.shows ∙ ap Some (whole_stood s.core.servers w stood a number x.kept x.is (long number x.kept x.is))

  -- ---- over the one disk, and over the logical sectors

  abbrev segs : ℕ
  segs = s.core.setting.segments

  whole : (o : Outcome) × (sector_plan segs when hint n op.f.line.operation (whole_disk w) ≡ Some o) × (o ≡ op.out.o)
  whole =
      let x = over s.core.setting when s.core.locks s.core.servers a w tree outcome op.on m.good m.world.tied.cached stood long sorted op.f (m.sets a op.f.line.under op.f.line.is) ordered q.allowed q.path q.new.small
      (m.lines.times n) q.time in
      (x.0, x.1, same_Some x.0 op.out.o (sym (comes_now segs when w tree op.on m.good hint n op.f.line.operation x.0 x.1) ∙ op.out.comes))

  comes : sector_plan segs when hint n op.f.line.operation (whole_disk w) ≡ Some op.out.o
  comes = whole.1 ∙ ap Some whole.2

  says_whole : SaysWhatItShows segs when (whole_disk w) c e
  says_whole finish is =
      let is_of = of s.core.setting when s.core.locks s.core.servers a w tree outcome op.on m.good m.world.tied.cached stood long sorted op.f (m.sets a op.f.line.under op.f.line.is) ordered q.allowed q.path
      q.new.small (m.lines.times n) q.time in
      let up = ascends s.core.setting when s.core.locks s.core.servers a w tree outcome op.on m.good m.world.tied.cached stood long sorted op.f (m.sets a op.f.line.under op.f.line.is) ordered q.allowed q.path
      q.new.small (m.lines.times n) q.time in
      let done = met s.core.setting when s.core.locks s.core.servers a w tree outcome op.on m.good m.world.tied.cached stood long sorted op.f (m.sets a op.f.line.under op.f.line.is) ordered q.allowed q.path
      q.new.small (m.lines.times n) q.time in
      let sight = sight_in s.core.setting (s.core.servers a) op.f.line.under in
      let shown = comes_showing op.f.line.operation sight.cached sight.held sight.all segs when n (whole_disk w) _ op.on.now.stands.naming op.f.finish up is_of op.on.whole done op.out.o comes c.shown shows in
      let same : op.f.finish ≡ finish = (let z : Finishes op.f.finish ≡ Finishes finish = sym shown ∙ is in cc) in
      ap (λ (x : plans.Outcome). x.reply) op.f.outcome_is ∙ ap (λ (x : Finish). x.reply) same

  pub says_now : SaysWhatItShows segs when (now_of w) c e
  says_now = replies_framed segs when (whole_disk w) (now_of w) c e comes (λ number look. agree segs when w tree op.on m.good hint n op.f.line.operation op.out.o comes number look) says_whole

  -- ---- told on

  module _ (x : HasEntry w u (Did c)) (told : IsTold when first_tree numbers s w) where
    abbrev v : RunMoment
    v = next s (core.Commit a) Nothing

    abbrev h : List Happening
    h = told.happened

    says : saids_of (deeds_of s.core (core.Commit a) Nothing) ≡ said.Answer (id_of a) op.f.line.under.line.number outcome.reply ∷ []
    says = ap₂ (λ y z. saids_of (says_answer a y (reply_by z))) op.f.line.is at

    there : line_of s.core.setting.script op.f.line.under.line.number ≡ Some op.f.line.under.line
    there = (script s a op.f.line.under m.reached op.f.line.is).there

    adds : live_history s.core.setting.script s.core.setting.run (saids_of v.record_) ≡ live_history s.core.setting.script s.core.setting.run (saids_of s.record_) ++ DidItem e ∷ []
    adds = answer_adds s.core.setting s.record_ (deeds_of s.core (core.Commit a) Nothing) a op.f.line.under.line.number op.f.line.under.line op.f.line.operation outcome.reply says there op.f.line.asked

    pub committed : IsTold when first_tree numbers v u
    committed = subst (λ z. Tells z when first_tree numbers (saids_of v.record_) u) (sym (setting_kept s.core (core.Commit a) Nothing)) (record {
      happened = Acts c e ∷ h;
      sectors = ap (λ l. Did c ∷ l) told.sectors ∙ sym x.history;
      lines = ap (λ l. l ++ DidItem e ∷ []) told.lines ∙ sym adds;
      paired = subst (λ o. ArePaired segs when o first_tree numbers (Acts c e ∷ h)) (sym x.opening) (one_line, told.paired);
      said = subst (λ o. SaidWhereItHappened segs when o (Acts c e ∷ h)) (sym x.opening)
          (subst (λ l. SaysWhatItShows segs when (logical w.opening (settled l)) c e) (sym told.sectors) says_now, told.said);
      synced = told.synced;
    })

pub commits_told : LinesUnderWayAreOfTheScript → CoresAreInOrder → CachedBlocksAreWhole → CommitsAreTold
commits_told script order cached_whole s w u journal when first_tree numbers a outcome m at numbered op clean x told =
    committed script order cached_whole s w u journal when first_tree numbers a outcome m at numbered op clean x told
