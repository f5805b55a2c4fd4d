-- What the host's reading and saying of the tree make of the core.
use Rattle.std.proofs.Common.{ℕ, ◌≡◌, ◌<◌, ◌+◌, true, false, List, [], ◌∷◌, length, refl, sym, ap, ◌∙◌, arith}
use Rattle.std.proofs.lemmas.Bool.{false≢true, ltb-true}
use Rattle.frang_base.specs.Functions.{member}
use Rattle.sector_bytes.specs.Blocks.{Block}
use Rattle.sector_bytes.specs.SectorMaps.{with_value}
use Rattle.core_definitions.specs.Cores.{Core, tree_lines, tree_needs}
use Rattle.core_definitions.specs.Effects.{after}
use Rattle.core_definitions.specs.EndGuards.{CanRead, CanShow}
use Rattle.core_definitions.specs.Events.{Got, Heard, Read, Show}
use Rattle.core_definitions.specs.LineEffects.{call_failed}
use Rattle.core_definitions.specs.Logs.{is_none}
use Rattle.core_definitions.specs.Scripts.{host_party}
use Rattle.core_definitions.specs.Trees.{needed_sectors, read_lines}
use Rattle.host_tree.specs.Reading.{HostReading, all_lines, needed}
use Rattle.world_state.specs.States.{State as Servers, core_at}
use Rattle.world_next.specs.Over.{core_over}
use Rattle.world_ready.specs.Trees.{IsSaidInTime}
use Rattle.frang_world.specs.Steps.{IsStep}
use Rattle.frang_world.proofs.Aside.{failed, over}

-- ---- the words of the core

module _ (s : Servers) (tree : HostReading) (disk : tree.segments ≡ s.parties.segments) where
  pub needs_are : needed tree.segments tree.read ≡ tree_needs (core_over s tree)
  unfolding needed
  needs_are = ap (λ segments. needed_sectors segments tree.read) disk

  pub lines_are : all_lines tree.segments tree.read ≡ tree_lines (core_over s tree)
  unfolding all_lines
  lines_are = ap (λ segments. read_lines segments tree.read) disk

  pub needs_it : (sector : ℕ) → CanRead (core_over s tree) sector → member sector (needed tree.segments tree.read) ≡ true
  needs_it sector can = ap (member sector) needs_are ∙ can.needed

  pub there_is : (place : ℕ) → CanShow (core_over s tree) place → tree.shown < length (all_lines tree.segments tree.read)
  there_is place can =
      let below : place < length (tree_lines (core_over s tree)) = ltb-true place (length (tree_lines (core_over s tree))) can.there in
      let same : length (all_lines tree.segments tree.read) ≡ length (tree_lines (core_over s tree)) = ap length lines_are in
      let next : place ≡ tree.shown = can.next in
      omega arith

  pub is_read : (place : ℕ) → CanShow (core_over s tree) place → is_none (needed tree.segments tree.read) ≡ true
  is_read place can = ap is_none needs_are ∙ can.read.whole

-- ---- Read

some_needed : (sector : ℕ) (sectors : List ℕ) → member sector sectors ≡ true → is_none sectors ≡ false
some_needed sector [] there = absurd (false≢true there)
some_needed sector (x ∷ xs) there = refl

-- it is read, and nothing is said yet
pub reads : (s : Servers) (was tree : HostReading) (sector : ℕ) (block : Block) → was.segments ≡ s.parties.segments → IsSaidInTime was → member sector (needed was.segments was.read) ≡ true
    → tree.segments ≡ was.segments → tree.read ≡ with_value was.read sector block → tree.shown ≡ was.shown → IsStep s was s tree (Read sector) (Got block)
reads s was tree sector block disk said needs segments read shown = record {
  core = λ i. record (core_at s) { read = read i; shown = shown i };
  disk = segments ∙ disk;
  said = let none : tree.shown ≡ 0 = shown ∙ said.unread (some_needed sector (needed was.segments was.read) needs) in
      record { unread = λ left. none; most = omega arith };
}

-- the get failed, which ends the core
pub read_fails : (s t : Servers) (tree : HostReading) (sector : ℕ) (heard : Heard) → tree.segments ≡ s.parties.segments → IsSaidInTime tree → core_at t ≡ call_failed (core_at s) host_party
    → after (core_over s tree) (Read sector) heard ≡ call_failed (core_over s tree) host_party → IsStep s tree t tree (Read sector) heard
read_fails s t tree sector heard disk said is fails = record {
  core = ap (λ (c : Core). over c tree.read tree.shown) is ∙ sym (failed tree.read tree.shown (core_at s) host_party) ∙ sym fails;
  disk = disk ∙ sym (ap (λ (c : Core). c.setting.segments) is);
  said = said;
}

-- ---- Show

pub shows : (s : Servers) (was tree : HostReading) (place : ℕ) (heard : Heard) → was.segments ≡ s.parties.segments → is_none (needed was.segments was.read) ≡ true
    → was.shown < length (all_lines was.segments was.read) → tree.segments ≡ was.segments → tree.read ≡ was.read → tree.shown ≡ was.shown + 1 → IsStep s was s tree (Show place) heard
shows s was tree place heard disk whole below segments read shown = record {
  core = λ i. record (core_at s) { read = read i; shown = shown i };
  disk = segments ∙ disk;
  said = record {
    unread = λ left. absurd (false≢true (sym left ∙ ap (λ n. is_none (needed n tree.read)) segments ∙ ap (λ r. is_none (needed was.segments r)) read ∙ whole));
    most =
        let same : length (all_lines tree.segments tree.read) ≡ length (all_lines was.segments was.read) = ap (λ n. length (all_lines n tree.read)) segments ∙ ap (λ r. length (all_lines was.segments r)) read in
        omega arith;
  };
}
