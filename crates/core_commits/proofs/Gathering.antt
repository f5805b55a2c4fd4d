-- At a moment of a run what the laws of Fetch and Clear ask of caches, sets and the one disk is gathered.
use Rattle.std.proofs.Common.{◌≡◌, ◌<◌, ◌^◌, ◌&&◌, ◌||◌, ℕ, Bool, true, false, if◌then◌else◌, IsTrue, List, [], ◌∷◌, ◌++◌, Option, Some, None, filter, map, nat_eq, refl, sym, ap, ◌∙◌, subst, ⊎_elim, arith}
use Rattle.std.proofs.lemmas.Bool.{false≢true}
use Rattle.std.proofs.lemmas.Bool.Decides.{nat_tests}
use Rattle.std.specs.BTreeMap.{is_at}
use Rattle.std.specs.Map.{keys_of}
use Rattle.std.specs.Ordering.{nat_cmp}
use Rattle.frang_base.specs.Functions.{member, put}
use Rattle.frang_base.specs.declared.lock.LockId.{LockId}
use Rattle.sector_bytes.specs.Blocks.{Block}
use Rattle.sector_bytes.specs.SectorMaps.{Ascend, value_at}
use Rattle.tree_definitions.specs.Tree.{FileTree}
use Rattle.core_definitions.specs.Cores.{stage}
use Rattle.core_definitions.specs.Events as core
use Rattle.core_definitions.specs.Events.{Got, Nothing}
use Rattle.core_definitions.specs.LineEffects.{committed_at, committed_by, cover_needed, flight_after}
use Rattle.core_definitions.specs.LineGuards.{CanClear, CanFetch, needed_by}
use Rattle.core_definitions.specs.Lines.{Asking, Clearing, Fetching, Finishing, Growing, Moving, Stage, Stopping, Under}
use Rattle.core_definitions.specs.Runs.{State as RunMoment, Makes, next}
use Rattle.core_definitions.specs.Servers as life
use Rattle.core_definitions.specs.Settings.{Setting, setting_of}
use Rattle.std.specs.List.{Contains}
use Rattle.std.specs.List.Sorted.{IsStrictlySortedBy}
use Rattle.std.specs.declared.cmp.Ordering.TheVariants.{Equal, Less}
use Rattle.lock_definitions.specs.Order.{lock_cmp}
use Rattle.sector_bytes.proofs.MapLaws.{found}
use Rattle.cache_definitions.specs.Caches.{Cache, CachedSector}
use Rattle.tree_definitions.proofs.Pairs.{birth_exact}
use Rattle.plan_laws.proofs.Covering.{all_has, filter_has, has_cases, has_head, has_more, not_in_none}
use Rattle.core_definitions.specs.Plans as plans
use Rattle.core_laws.specs.Laws.{AreOnce}
use Rattle.sector_world.specs.Histories.{Commit}
use Rattle.sector_world.specs.Steps.{Event, after}
use Rattle.sector_world.specs.Steps as sectors
use Rattle.sector_world.specs.Steps.Event.{Do, Fetch}
use Rattle.sector_world.specs.Steps.Run.{goes, stays}
use Rattle.sector_world.specs.World.{World, Up}
use Rattle.core_world.proofs.Giving.{up_is}
use Rattle.core_commits.specs.Commits.{AreClaimed, AreClaimedClean, IsDoneAs, WritesHoldTheirCovers, fetched_world}
use Rattle.core_definitions.specs.Flights.{each_of_server}
use Rattle.disk_definitions.specs.Regions.{region_of}
use Rattle.core_world.specs.Ties.{AreCached, AreFlying, is_log_sector}
use Rattle.core_commits.specs.Finished.{IsOutcomeNow, number_in}
use Rattle.core_commits.specs.Moments.{ClearsOfLinesAreEvents, CommitsOfLinesKeepTies, CommitsOfLinesMayBeDone, FetchesOfLinesAreEvents, FinishedLinesAreDone, IsNumbered, IsOfARun, IsOperation, IsKept, LinesAreNumbered, claimed_in, operation_at}
use Rattle.core_commits.specs.Operations.{MayBeDone, operation_in}
use Rattle.core_commits.specs.Stages.{HasCleared, IsFinished, sight_in}
use Rattle.core_commits.proofs.Claiming.{commits_keep_caches, commits_keep_flights, sectors_are_fetched}
use Rattle.core_commits.proofs.Finished.{finished_lines_are_outcomes}
use Rattle.core_commits.proofs.Making.{is_done_as}
use Rattle.core_commits.proofs.Numbering.{new_now}
use Rattle.line_locks.specs.Lines.{SetCoversAreTrue}
use Rattle.core_commits.proofs.Operating.{finished_lines_may_be_done}
use Rattle.core_laws.specs.Orders.{AreLinesInOrder, CoresAreInOrder}
use Rattle.core_facts.specs.Blocks.{CachedBlocksAreWhole}
use Rattle.core_facts.specs.LockSets.{SegmentsAreSole}
use Rattle.core_world.specs.Events.{LeadsQuietly}
use Rattle.core_world.specs.Journals.{Journal}
use Rattle.core_world.specs.Sights.{AreStood}
use Rattle.core_commits.specs.Clears.{IsReachedWithAll, LeadsByClears}
use Rattle.core_commits.specs.Standing.{AreWhole, StandsWhole, tree_now}
use Rattle.core_commits.proofs.Clearing.{clears_are_events}
use Rattle.core_commits.proofs.Fetching.{fetches_are_events}
use Rattle.core_commits.proofs.Freshness.{cleared_blocks_are_fresh}
use Rattle.core_commits.proofs.Needing.{needed_sectors_come_in, not_log}
use Rattle.core_commits.proofs.OneDisk.{all_stood, the_disk_stands}
use Rattle.core_commits.proofs.Staged.{clearing_lines_have_plans, finished_lines_have_plans}

at_test : (s t : ℕ) → is_at (nat_cmp s) t ≡ nat_eq t s
at_test s t = grind (arith, nat_tests)

-- a key has a value
key_value : (xs : List (ℕ × LockId)) (s : ℕ) → member s (keys_of xs) ≡ true → (lock : LockId) × (value_at xs s ≡ Some lock)
key_value [] s e = absurd (false≢true e)
key_value (x ∷ xs) s e = go (nat_eq x.0 s) refl e (key_value xs s)
  where
    go : (b : Bool) → nat_eq x.0 s ≡ b → (if b then true else member s (keys_of xs)) ≡ true → (member s (keys_of xs) ≡ true → (lock : LockId) × (value_at xs s ≡ Some lock)) →
        (lock : LockId) × ((if is_at (nat_cmp s) x.0 then Some x.1 else value_at xs s) ≡ Some lock)
    go true i j rest = (x.1, ap (λ (b : Bool). if b then Some x.1 else value_at xs s) (at_test s x.0 ∙ i))
    go false i j rest = let r = rest j in (r.0, ap (λ (b : Bool). if b then Some x.1 else value_at xs s) (at_test s x.0 ∙ i) ∙ r.1)

needed_key : (at : Option Stage) (sector : ℕ) → member sector (needed_by at) ≡ true → (lock : LockId) × (cover_needed at sector ≡ Some lock)
needed_key None sector e = absurd (false≢true e)
needed_key (Some (Asking need)) sector e = absurd (false≢true e)
needed_key (Some Moving) sector e = absurd (false≢true e)
needed_key (Some Stopping) sector e = absurd (false≢true e)
needed_key (Some (Growing needs seen)) sector e = absurd (false≢true e)
needed_key (Some (Clearing block)) sector e = absurd (false≢true e)
needed_key (Some (Finishing outcome)) sector e = absurd (false≢true e)
needed_key (Some (Fetching needs)) sector e = key_value needs sector e

-- who is up isn't off
first_of : (p : life.Phase) (x y z : Bool) → IsTrue (life.is_up p) → ((life.is_up p && x) || (life.is_off p && y && z)) ≡ true → x ≡ true
first_of life.Up true y z u e = refl
first_of life.Up false y z u e = absurd (false≢true e)
first_of life.Off x y z u e = absurd (false≢true u)
first_of life.Still x y z u e = absurd (false≢true u)
first_of (life.Doomed fate) x y z u e = absurd (false≢true u)
first_of life.Dead x y z u e = absurd (false≢true u)

-- ---- the claimed sectors, each once

filter_in : (test : ℕ → Bool) (xs : List ℕ) (y : ℕ) → Contains (filter test xs) y → Contains xs y × (test y ≡ true)
filter_in test [] y c = absurd (not_in_none y c)
filter_in test (x ∷ xs) y c = go (test x) refl c (filter_in test xs y)
  where
    go : (b : Bool) → test x ≡ b → Contains (if b then x ∷ filter test xs else filter test xs) y → (Contains (filter test xs) y → Contains xs y × (test y ≡ true)) → Contains (x ∷ xs) y × (test y ≡ true)
    go true e d rest = ⊎_elim (λ q. (subst (Contains (x ∷ xs)) q (has_head x xs), ap test (sym q) ∙ e)) (λ r. let f = rest r in (has_more x y xs f.0, f.1)) (has_cases x y (filter test xs) d)
    go false e d rest = let f = rest d in (has_more x y xs f.0, f.1)

once_sorted : (test : ℕ → Bool) (xs : List ℕ) → IsStrictlySortedBy nat_cmp xs → AreOnce (filter test xs)
unfolding IsStrictlySortedBy
once_sorted test [] sorted = tt
once_sorted test (x ∷ xs) sorted = go (test x) (once_sorted test xs sorted.1)
  where
    apart : Contains (filter test xs) x → ⊥
    apart c = let less : nat_cmp x x ≡ Less = all_has (λ y. nat_cmp x y ≡ Less) xs sorted.0 x (filter_in test xs x c).0 in let own : nat_cmp x x ≡ Equal = birth_exact.own x in absurd (cc)

    go : (b : Bool) → AreOnce (filter test xs) → AreOnce (if b then x ∷ filter test xs else filter test xs)
    go true rest = (apart, rest)
    go false rest = rest

key_there : (cache : Cache) (s : ℕ) (kept : CachedSector) → value_at cache s ≡ Some kept → Contains (keys_of cache) s
key_there [] s kept e = absurd (cc)
key_there (entry ∷ cache) s kept e = go (is_at (nat_cmp s) entry.0) refl e (key_there cache s kept)
  where
    go : (b : Bool) → is_at (nat_cmp s) entry.0 ≡ b → (if b then Some entry.1 else value_at cache s) ≡ Some kept → (value_at cache s ≡ Some kept → Contains (keys_of cache) s) → Contains (entry.0 ∷ keys_of cache) s
    go true i j rest = subst (Contains (entry.0 ∷ keys_of cache)) (found s entry.0 i) (has_head entry.0 (keys_of cache))
    go false i j rest = has_more entry.0 s (keys_of cache) (rest j)

run_on : (w : World) (es : List Event) (u : World) → sectors.Run w es u → (fs : List Event) (v : World) → sectors.Run u fs v → sectors.Run w (es ++ fs) v
run_on w [] u stays fs v r = r
run_on w (e ∷ es) u (goes can more) fs v r = goes can (run_on (after w e) es u more fs v r)

module _ (order : CoresAreInOrder) (cached : CachedBlocksAreWhole) (sole : SegmentsAreSole) (s : RunMoment) (w : World) (journal : ℕ → Journal) (when : ℕ → ℕ) (first_tree : FileTree) (numbers : List ℕ)
    (m : IsOfARun s w journal when first_tree numbers) where
  abbrev setting : Setting
  setting = setting_of m.reached.script m.reached.segments m.reached.number

  ascends : (a : ℕ) → Ascend (s.core.servers a).cache
  ascends a = ((order setting m.reached.disk s m.reached.run).servers a).cache

  long : (a : ℕ) → AreWhole (s.core.servers a).cache
  long a n kept e = cached m.reached.script m.reached.segments m.reached.number m.reached.disk s m.whole m.reached.run a n kept e

  stood : AreStood s.core.servers w
  stood = all_stood s.core.servers w m.world.tied.cached m.good m.zeros

  on : StandsWhole s.core.setting.segments w (tree_now when first_tree w)
  on = the_disk_stands s.core.setting.segments when first_tree numbers w m.lines m.good

  pub fetch : (a sector : ℕ) (block : Block) → Makes s (core.Fetch a sector) (Got block) → IsTrue (life.is_up (s.core.servers a).phase) →
      LeadsQuietly w (next s (core.Fetch a sector) (Got block)) journal
  fetch a sector block makes up =
      let can : CanFetch s.core a sector = makes.can.can in
      let key = needed_key (stage s.core a) sector (first_of (s.core.servers a).phase (member sector (needed_by (stage s.core a))) _ _ up can.lacks) in
      fetches_are_events s w journal a sector key.0 block m.world m.good makes
      (needed_sectors_come_in s w (tree_now when first_tree w) a sector key.0 on m.world.tied stood (long a) (ascends a) (λ under e. m.sets a under e) key.1)

  pub clear : (a block : ℕ) → Makes s (core.Clear a block) Nothing → LinesAreNumbered s w when first_tree numbers a → IsReachedWithAll s.core.servers w a → LeadsByClears w a block (next s (core.Clear a block) Nothing) journal
  clear a block makes numbered back =
      let can : CanClear s.core a block = makes.can.can in
      let c : HasCleared s.core.setting s.core.locks a (s.core.servers a) block = clearing_lines_have_plans s.core.setting s.core.locks a (s.core.servers a) block can.clear in
      let q = numbered c.line.under c.line.operation c.line.is c.line.asked in
      clears_are_events s w journal (tree_now when first_tree w) a block m.world on can.clear
      (cleared_blocks_are_fresh s w (tree_now when first_tree w) a block on m.world.tied stood (long a) (ascends a) c (m.sets a c.line.under c.line.is)
      (λ k mode i. sole setting m.reached.disk s m.reached.run a c.line.under c.line.is k mode i) q.allowed
      (new_now s.core.setting.segments when first_tree numbers w m.lines (number_in s.core.setting c.line.under.line.number) q.new q.others) q.new.small
      (subst (λ k. k < 2 ^ 64) q.time (m.lines.times (number_in s.core.setting c.line.under.line.number))))
      back

  set_ordered : (a : ℕ) (under : Under) → (s.core.servers a).under ≡ Some under → IsStrictlySortedBy lock_cmp (keys_of under.set)
  set_ordered a under e = (subst AreLinesInOrder e ((order setting m.reached.disk s m.reached.run).servers a).under).set

  module _ (a : ℕ) (outcome : plans.Outcome) (at : stage s.core a ≡ Some (Finishing outcome))
      (numbered : LinesAreNumbered s w when first_tree numbers a) where
    f : IsFinished s.core.setting s.core.locks a (s.core.servers a) outcome
    f = finished_lines_have_plans s.core.setting s.core.locks a (s.core.servers a) outcome at

    q : IsNumbered s w when first_tree numbers a f.line.under.line.number f.line.operation
    q = numbered f.line.under f.line.operation f.line.is f.line.asked

    abbrev n : ℕ
    n = number_in s.core.setting f.line.under.line.number

    out : IsOutcomeNow s.core.setting.segments when w (sight_in s.core.setting (s.core.servers a) f.line.under) on.now.stands.naming n f.line.operation f.finish
    out = finished_lines_are_outcomes s.core.setting when s.core.locks s.core.servers a w (tree_now when first_tree w) outcome on m.good m.world.tied.cached stood (long a) (ascends a) f
        (m.sets a f.line.under f.line.is) (set_ordered a f.line.under f.line.is) q.allowed q.path q.new.small (m.lines.times n) q.time

    up : w.phase a ≡ Up
    up = m.world.tied.lives.phase a ∙ up_is (s.core.servers a).phase f.line.up

    abbrev claimed : List ℕ
    claimed = claimed_in (s.core.servers a).cache out.o.claims

    abbrev c : Commit
    c = operation_in w a n (claimed_in (s.core.servers a).cache out.o.claims) (keys_of (sight_in s.core.setting (s.core.servers a) f.line.under).held) f.line.operation out.o

    all : AreClaimedClean (s.core.servers a).cache c → AreClaimed c claimed
    all clean = record {
      once = once_sorted out.o.claims (keys_of (s.core.servers a).cache) (ascends a);
      all = λ t e. let k = clean t e in filter_has out.o.claims (keys_of (s.core.servers a).cache) t (key_there (s.core.servers a).cache t k.0 k.1) e;
      only = λ t i. (filter_in out.o.claims (keys_of (s.core.servers a).cache) t i).1;
    }

    may : (clean : AreClaimedClean (s.core.servers a).cache c) → MayBeDone w a n claimed (keys_of (sight_in s.core.setting (s.core.servers a) f.line.under).held) f.line.operation out.o
    may clean = finished_lines_may_be_done s.core.setting when s.core.locks s.core.servers a w first_tree numbers outcome claimed m.lines on m.good m.zeros m.world.tied.cached m.world.tied.locks stood
        (long a) (ascends a) up f (m.sets a f.line.under f.line.is) out q.above q.new q.others (all clean) clean

    done : AreClaimedClean (s.core.servers a).cache c → AreClaimed c claimed × MayBeDone w a n claimed (keys_of (sight_in s.core.setting (s.core.servers a) f.line.under).held) f.line.operation out.o
        × sectors.Run w (map (Fetch a) claimed ++ Do c ∷ []) (after (fetched_world w a claimed) (Do c))
    done clean = (
      all clean,
      may clean,
      run_on w (map (Fetch a) claimed) (fetched_world w a claimed) (sectors_are_fetched w a claimed up (all clean).once (may clean).fetched) (Do c ∷ []) (after (fetched_world w a claimed) (Do c))
          (goes (may clean).can stays),
    )

    pub commit : IsOperation s w when (tree_now when first_tree w) a outcome
    commit = record { on = on; f = f; out = out; done = done }

  module _ (covers : SetCoversAreTrue) (a : ℕ) (outcome : plans.Outcome) (numbered : LinesAreNumbered s w when first_tree numbers a) (op : IsOperation s w when (tree_now when first_tree w) a outcome) where
    number : IsNumbered s w when first_tree numbers a op.f.line.under.line.number op.f.line.operation
    number = numbered op.f.line.under op.f.line.operation op.f.line.is op.f.line.asked

    abbrev its_number : ℕ
    its_number = number_in s.core.setting op.f.line.under.line.number

    pub done_as : IsDoneAs outcome (operation_at s w when (tree_now when first_tree w) a outcome op) w
    done_as = is_done_as covers s.core.setting when s.core.locks s.core.servers a w (tree_now when first_tree w) outcome (claimed_in (s.core.servers a).cache op.out.o.claims) op.on m.world.tied.cached stood (long a) (ascends a)
        op.f (m.sets a op.f.line.under op.f.line.is) op.out number.allowed (new_now s.core.setting.segments when first_tree numbers w m.lines its_number number.new number.others) number.new.small
        (subst (λ k. k < 2 ^ 64) number.time (m.lines.times its_number))

  module _ (a : ℕ) (outcome : plans.Outcome) (at : stage s.core a ≡ Some (Finishing outcome)) (op : IsOperation s w when (tree_now when first_tree w) a outcome)
      (as_done : IsDoneAs outcome (operation_at s w when (tree_now when first_tree w) a outcome op) w) (clean : AreClaimedClean (s.core.servers a).cache (operation_at s w when (tree_now when first_tree w) a outcome op))
      (soles : WritesHoldTheirCovers w s.core.flights) where
    abbrev its : Commit
    its = operation_at s w when (tree_now when first_tree w) a outcome op

    abbrev sectors_in : List ℕ
    sectors_in = claimed_in (s.core.servers a).cache op.out.o.claims

    abbrev then_ : World
    then_ = after (fetched_world w a (claimed_in (s.core.servers a).cache op.out.o.claims)) (Do (operation_at s w when (tree_now when first_tree w) a outcome op))

    ready : AreClaimed its sectors_in × MayBeDone w a (number_in s.core.setting op.f.line.under.line.number) sectors_in (keys_of (sight_in s.core.setting (s.core.servers a) op.f.line.under).held) op.f.line.operation op.out.o
        × sectors.Run w (map (Fetch a) sectors_in ++ Do its ∷ []) then_
    ready = op.done clean

    no_log : (n : ℕ) → its.claims n ≡ true → is_log_sector s.core.setting.segments n ≡ false
    no_log n e = not_log (region_of s.core.setting.segments n) _ (op.out.keeps.claimed n e).here

    cached_then : AreCached (put s.core.servers a (committed_by outcome (s.core.servers a))) then_
    cached_then = commits_keep_caches s.core.servers w outcome its sectors_in ready.1.good m.world.tied.cached (ascends a) as_done ready.0 clean ready.1.can

    flying_then : s.core.over ≡ false → AreFlying s.core.setting.segments s.core.now (each_of_server a (flight_after outcome) s.core.flights) then_
    flying_then going = subst (λ n. AreFlying s.core.setting.segments n (each_of_server a (flight_after outcome) s.core.flights) then_) m.world.tied.lives.now
        (commits_keep_flights s.core.setting.segments s.core.flights w outcome its sectors_in ready.1.good
        (subst (λ n. AreFlying s.core.setting.segments n s.core.flights w) (sym m.world.tied.lives.now) (m.world.tied.flying going)) as_done no_log ready.1.can soles)

    pub keeps : IsKept s a then_
    keeps = record {
      cached = subst (λ x. AreCached (committed_at s.core a x).servers then_) (sym at) cached_then;
      flying = λ going. subst (λ x. AreFlying s.core.setting.segments s.core.now (committed_at s.core a x).flights then_) (sym at) (flying_then going);
    }

pub fetches_of_lines : CoresAreInOrder → CachedBlocksAreWhole → SegmentsAreSole → FetchesOfLinesAreEvents
fetches_of_lines order cached sole s w journal when first_tree numbers a sector block m makes up = fetch order cached sole s w journal when first_tree numbers m a sector block makes up

pub clears_of_lines : CoresAreInOrder → CachedBlocksAreWhole → SegmentsAreSole → ClearsOfLinesAreEvents
clears_of_lines order cached sole s w journal when first_tree numbers a block m makes numbered back = clear order cached sole s w journal when first_tree numbers m a block makes numbered back

pub commits_of_lines : CoresAreInOrder → CachedBlocksAreWhole → SegmentsAreSole → CommitsOfLinesMayBeDone
commits_of_lines order cached sole s w journal when first_tree numbers a outcome m at numbered = commit order cached sole s w journal when first_tree numbers m a outcome at numbered

pub lines_are_done : CoresAreInOrder → CachedBlocksAreWhole → SegmentsAreSole → SetCoversAreTrue → FinishedLinesAreDone
lines_are_done order cached sole covers s w journal when first_tree numbers a outcome m numbered op = done_as order cached sole s w journal when first_tree numbers m covers a outcome numbered op

pub commits_keep_ties : CoresAreInOrder → CachedBlocksAreWhole → SegmentsAreSole → SetCoversAreTrue → CommitsOfLinesKeepTies
commits_keep_ties order cached sole covers s w journal when first_tree numbers a outcome m at op numbered clean soles =
    keeps order cached sole s w journal when first_tree numbers m a outcome at op (lines_are_done order cached sole covers s w journal when first_tree numbers a outcome m numbered op) clean soles
