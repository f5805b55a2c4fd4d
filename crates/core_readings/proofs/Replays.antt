-- The disk with all logs replayed is that of the theorem on sectors: log by log what stands in the log makes of a sector what the records make that are to be replayed.
use Rattle.std.proofs.Common.{◌≡◌, ◌==◌, ℕ, zero, suc, ◌+◌, ◌<◌, ◌≤◌, ◌⊎◌, inl, inr, ⊎_elim, Bool, true, false, ◌&&◌, if◌then◌else◌, nat_lt, fold, IsTrue, Option, Some, List, [], ◌∷◌, ◌++◌, refl, sym, ap, ◌∙◌, subst, arith, le_refl}
use Rattle.std.specs.List.{flat_map}
use Rattle.std.proofs.lemmas.Bool.{both_ways, lt-ltb}
use Rattle.std.proofs.lemmas.Bool.Decides.{nat_tests}
use Rattle.std.proofs.lemmas.Grind.{fold-append}
use Rattle.std.proofs.lemmas.List.{append-nil, append_assoc}
use Rattle.std.proofs.lemmas.Option.{none-some}
use Rattle.frang_base.specs.declared.change.Change.{Change}
use Rattle.frang_base.specs.declared.change.Redo.{Redo}
use Rattle.frang_base.specs.declared.limits.TheConstants.{LOGS, SERVERS}
use Rattle.frang_base.specs.declared.lock.Mode.{Mode}
use Rattle.frang_base.specs.declared.lock.Mode.TheVariants.{Sole}
use Rattle.disk_definitions.proofs.Listed.{Among}
use Rattle.disk_definitions.specs.Logs.{log_records}
use Rattle.disk_definitions.specs.Regions.{region_of}
use Rattle.disk_definitions.specs.Replay.{is_replayed, logged_changes, slots_of, with_change, with_logs}
use Rattle.disk_definitions.specs.ReplayedBlocks.{replayed_block}
use Rattle.sector_bytes.specs.Blocks.{Block, version_of}
use Rattle.sector_bytes.specs.Changes.{applied}
use Rattle.sector_bytes.specs.Replays.{change_at, redo_all, redone, up_to}
use Rattle.sector_bytes.specs.Sectors.{Sectors}
use Rattle.tree_definitions.specs.Numbers.{below}
use Rattle.core_definitions.specs.LineGuards.{is_server}
use Rattle.core_definitions.specs.Runs.{State as RunMoment}
use Rattle.core_definitions.specs.Servers as life
use Rattle.core_definitions.specs.Servers.{is_dead, is_in_mount, is_off}
use Rattle.sector_world.proofs.Finishing.{none_replay}
use Rattle.sector_world.proofs.HistoryLaws.{AtMost, all_skipped, at_most_more, each_map, in_place_or}
use Rattle.sector_world.specs.Claims.{replayed}
use Rattle.sector_world.specs.Guards.{NoneNames, to_replay}
use Rattle.sector_world.specs.Histories.{settled}
use Rattle.sector_world.specs.Kinds.{Good}
use Rattle.sector_world.specs.Logged.{NoneIfOff, Pending}
use Rattle.sector_world.specs.World.{Off, World, block_at, cover}
use Rattle.core_world.specs.Journals.{IsAtRest, IsLogOf, Journal, sector_log}
use Rattle.core_world.specs.Readings.{ReadsAs}
use Rattle.core_world.specs.Steps.{IsWorldOf}
use Rattle.core_world.specs.Ties.{phase_of}
use Rattle.core_readings.specs.Logs.{AreLogs, AreSealedBehind, OthersAreEmpty, ReplaysAreTheWorlds}
use Rattle.core_readings.proofs.Fitting.{Fits, change_laid, laid_once, records_fit}
use Rattle.core_readings.proofs.LastLoads.{mounted_reads, stands_read}
use Rattle.core_readings.proofs.Replaying.{in_place_rests, redone_in_place}

-- ---- the changes laid one after the other

-- those of a log
abbrev changes_of : Sectors → ℕ → List Change
changes_of disk a = flat_map (λ (r : Redo). r.changes) (log_records (slots_of disk a))

fold_laid : (segments s : ℕ) (changes : List Change) (disk : Sectors) → is_replayed (region_of segments s) ≡ true → fold (with_change segments) disk changes s ≡ fold (change_laid s) (disk s) changes
fold_laid segments s [] disk e = refl
fold_laid segments s (c ∷ cs) disk e =
    fold_laid segments s cs (with_change segments disk c) e ∙ ap (λ b. fold (change_laid s) (if b then applied (disk s) c else disk s) cs) (ap (λ b. (s == c.sector.0) && b) e ∙ both (s == c.sector.0))
  where
    both : (b : Bool) → (b && true) ≡ b
    both true = refl
    both false = refl

fold_beside : (segments s : ℕ) (changes : List Change) (disk : Sectors) → is_replayed (region_of segments s) ≡ false → fold (with_change segments) disk changes s ≡ disk s
fold_beside segments s [] disk e = refl
fold_beside segments s (c ∷ cs) disk e =
    fold_beside segments s cs (with_change segments disk c) e ∙ ap (λ b. if b then applied (disk s) c else disk s) (ap (λ b. (s == c.sector.0) && b) e ∙ none (s == c.sector.0))
  where
    none : (b : Bool) → (b && false) ≡ false
    none true = refl
    none false = refl

-- the records of a log, one after the other
records_laid : (s : ℕ) (records : List Redo) (block : Block) → ((r : Redo) → Among r records → Fits r) → fold (change_laid s) block (flat_map (λ (r : Redo). r.changes) records) ≡ replayed_block records s block
records_laid s [] block fit = refl
records_laid s (r ∷ rs) block fit =
    fold-append (change_laid s) block r.changes (flat_map (λ (q : Redo). q.changes) rs)
    ∙ ap (λ b. fold (change_laid s) b (flat_map (λ (q : Redo). q.changes) rs)) (laid_once r (fit r (inl refl)) s block) ∙ records_laid s rs (redone (change_at r.changes s) block) (λ q i. fit q (inr i))

-- ---- log by log

-- what the logs below n make of a sector
abbrev laid_below : Sectors → ℕ → ℕ → Block
laid_below disk s n = fold (change_laid s) (disk s) (flat_map (changes_of disk) (below n))

laid_more : (disk : Sectors) (s n : ℕ) → laid_below disk s (suc n) ≡ replayed_block (log_records (slots_of disk n)) s (laid_below disk s n)
laid_more disk s n =
    ap (fold (change_laid s) (disk s)) (flat_push (below n)) ∙ fold-append (change_laid s) (disk s) (flat_map (changes_of disk) (below n)) (changes_of disk n)
    ∙ records_laid s (log_records (slots_of disk n)) (fold (change_laid s) (disk s) (flat_map (changes_of disk) (below n))) (records_fit (slots_of disk n))
  where
    flat_push : (xs : List ℕ) → flat_map (changes_of disk) (xs ++ n ∷ []) ≡ flat_map (changes_of disk) xs ++ changes_of disk n
    flat_push [] = append-nil (changes_of disk n)
    flat_push (x ∷ xs) = ap (λ l. changes_of disk x ++ l) (flat_push xs) ∙ sym (append_assoc (changes_of disk x) (flat_map (changes_of disk) xs) (changes_of disk n))

redo_rises : (rs : List Redo) (s : ℕ) (block : Block) → version_of block ≤ version_of (redo_all rs s block)
redo_rises rs s block = (redone_in_place rs s block).0

module _ (s : RunMoment) (w : World) (journal : ℕ → Journal) (t : IsWorldOf s w journal) (g : Good w) (logs : AreLogs s journal) (behind : AreSealedBehind s w journal) where
  -- of a server that is off what is to be replayed is in place
  off_rests : (a x : ℕ) (block : Block) → w.phase a ≡ Off → version_of (w.disk x) ≤ version_of block → redo_all (to_replay w a) x block ≡ block
  off_rests a x block off newer =
      ap (λ l. redo_all (up_to (w.durable a) l) x block) (g.logged.logs a)
      ∙ all_skipped a (w.floor a) (w.durable a) x block (settled w.history)
      (each_map (λ c. Pending w x c ⊎ AtMost (change_at c.changes x) (version_of (w.disk x))) (λ c. c.by ≡ a → AtMost (change_at c.changes x) (version_of block))
      (λ c m e. ⊎_elim (λ p. absurd (free (w.holds c.by (cover w x)) p.sole (subst (λ n. NoneIfOff (w.phase n) (w.holds n (cover w x))) (sym e) (subst (λ y. NoneIfOff y (w.holds a (cover w x))) refl (g.logged.off_free a (cover w x)))) (ap w.phase e ∙ off)))
      (λ b. at_most_more (change_at c.changes x) (version_of (w.disk x)) (version_of block) newer b) m)
      (settled w.history) (in_place_or w.opening w.durable x (Pending w x) (w.disk x) (settled w.history) (g.logged.place x) (g.logged.rising x)))
    where
      free : {c : ℕ} (h : Option Mode) → h ≡ Some Sole → NoneIfOff (w.phase c) h → w.phase c ≡ Off → ⊥
      free {c} h sole none e = none-some Sole (sym (subst (λ p. NoneIfOff p h) e none) ∙ sole)

  -- what stands in a server's log replays as what is to be replayed
  log_reads : (a : ℕ) → IsTrue (is_server a) → ReadsAs w a (log_records (slots_of s.disk a))
  log_reads a server = go (s.core.servers a).phase refl
    where
      off : IsTrue (is_off (s.core.servers a).phase) → w.phase a ≡ Off → IsAtRest (slots_of s.disk a) (sector_log w a) → ReadsAs w a (log_records (slots_of s.disk a))
      off is none rest x block newer = in_place_rests (log_records (slots_of s.disk a)) x (version_of (w.disk x)) block newer (rest.old x) ∙ sym (off_rests a x block none newer)

      mounted : IsTrue (is_in_mount (s.core.servers a).phase) → ReadsAs w a (log_records (slots_of s.disk a))
      mounted up = mounted_reads s w journal t g logs a server up

      go : (p : life.Phase) → (s.core.servers a).phase ≡ p → ReadsAs w a (log_records (slots_of s.disk a))
      go life.Off e = off (ap is_off e) (t.tied.lives.phase a ∙ ap phase_of e) (subst (λ p. IsLogOf p (s.core.servers a).ring s.core.now s.core.flights s.disk (sector_log w a) a (journal a)) e (t.journals a server))
      go life.Up e = mounted (ap is_in_mount e)
      go life.Still e = mounted (ap is_in_mount e)
      go (life.Doomed fate) e = mounted (ap is_in_mount e)
      go life.Dead e = stands_read s w journal t g logs a server (ap is_dead e) (behind a server (ap is_off e)).stands

  module _ (x : ℕ) (here : s.disk x ≡ w.disk x) (versioned : block_at w x ≡ w.disk x) where
    low : (n : ℕ) → n < SERVERS → IsTrue (is_server n)
    low n h = lt-ltb n SERVERS h

    -- up to the last server
    servers_laid : (n : ℕ) → n ≤ SERVERS → (laid_below s.disk x n ≡ replayed w n x) × (version_of (w.disk x) ≤ version_of (replayed w n x))
    servers_laid zero h = (here ∙ sym versioned, subst (λ b. version_of (w.disk x) ≤ version_of b) (sym versioned) (le_refl (version_of (w.disk x))))
    servers_laid (suc n) h =
        let before : (laid_below s.disk x n ≡ replayed w n x) × (version_of (w.disk x) ≤ version_of (replayed w n x)) = servers_laid n (less n h) in (
          laid_more s.disk x n ∙ ap (replayed_block (log_records (slots_of s.disk n)) x) before.0 ∙ log_reads n (low n (under n h)) x (replayed w n x) before.1,
          through (version_of (w.disk x)) (version_of (replayed w n x)) (version_of (replayed w (suc n) x)) before.1 (redo_rises (to_replay w n) x (replayed w n x)),
        )
      where
        less : (n : ℕ) → suc n ≤ 16 → n ≤ 16
        less n h = omega (arith, h)

        under : (n : ℕ) → suc n ≤ 16 → n < 16
        under n h = omega (arith, h)

        through : (a b c : ℕ) → a ≤ b → b ≤ c → a ≤ c
        through a b c h l = omega (arith, h, l)

    -- and behind them nothing more
    all_laid : OthersAreEmpty s.disk → (k : ℕ) → SERVERS + k ≤ LOGS → laid_below s.disk x (SERVERS + k) ≡ replayed w SERVERS x
    all_laid empty zero h = (servers_laid SERVERS (le_refl SERVERS)).0
    all_laid empty (suc k) h =
        ap (laid_below s.disk x) (plus k) ∙ laid_more s.disk x (SERVERS + k) ∙ ap (λ l. replayed_block l x (laid_below s.disk x (SERVERS + k))) (empty (SERVERS + k) (under k h) (not_server k)) ∙ all_laid empty k (less k h)
      where
        less : (k : ℕ) → 16 + suc k ≤ 256 → 16 + k ≤ 256
        less k h = omega (arith, h)

        under : (k : ℕ) → 16 + suc k ≤ 256 → 16 + k < 256
        under k h = omega (arith, h)

        plus : (k : ℕ) → 16 + suc k ≡ suc (16 + k)
        plus k = omega arith

        not_server : (k : ℕ) → nat_lt (16 + k) 16 ≡ false
        not_server k = grind (arith, nat_tests)

-- a sector that no replay changes
beside : (w : World) (x n : ℕ) → ((d : ℕ) → NoneNames (to_replay w d) x) → replayed w n x ≡ block_at w x
beside w x zero none = refl
beside w x (suc n) none = ap (redo_all (to_replay w n) x) (beside w x n none) ∙ none_replay (to_replay w n) x (block_at w x) (none n)

pub replays_are_the_worlds : ReplaysAreTheWorlds
replays_are_the_worlds s w journal r t g sixteen logs behind empty p segments regions x out versioned = go (is_replayed (region_of p.segments x)) refl
  where
    there : block_at w x ≡ w.disk x
    there = ap (λ b. if b then w.disk x else w.bytes x) versioned

    go : (b : Bool) → is_replayed (region_of p.segments x) ≡ b → with_logs (Some p) s.disk x ≡ replayed w w.servers x
    go true e = fold_laid p.segments x (logged_changes s.disk) s.disk e ∙ laid_all ∙ ap (λ n. replayed w n x) (sym sixteen)
      where
        laid_all : fold (change_laid x) (s.disk x) (logged_changes s.disk) ≡ replayed w SERVERS x
        laid_all = all_laid s w journal t g logs behind x (sym (t.tied.disk x out) ∙ there) there empty 240 (omega arith)
    go false e =
        fold_beside p.segments x (logged_changes s.disk) s.disk e ∙ sym (t.tied.disk x out)
        ∙ sym (beside w x w.servers (λ d. ⊎_elim (λ n. n) (λ h. absurd (both_ways (is_replayed (region_of p.segments x)) e h)) (regions d x)))
