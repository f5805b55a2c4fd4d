-- What a record names that stands in a log on the disk has a version by operations that are on the disk.
use Rattle.std.proofs.Common.{◌≡◌, ℕ, ◌<◌, ◌≤◌, ◌⊎◌, inl, inr, ⊎_elim, Bool, true, false, ◌||◌, ◌==◌, if◌then◌else◌, IsTrue, nat_eq, List, [], ◌∷◌, ◌++◌, reverse, Some, refl, sym, ap, ◌∙◌, subst, arith}
use Rattle.std.proofs.lemmas.Bool.{and_from, eq-eqb, eqb-true, false≢true, or_left, or_right}
use Rattle.std.proofs.lemmas.Option.{none-some, same_Some}
use Rattle.std.specs.List.{list_any}
use mathlib.Core.List.{reverse-cons}
use Rattle.frang_base.specs.declared.change.Change.{Change}
use Rattle.frang_base.specs.declared.change.Redo.{Redo}
use Rattle.frang_base.specs.declared.limits.TheConstants.{LOGS}
use Rattle.disk_definitions.proofs.Listed.{Among, below_among}
use Rattle.disk_definitions.proofs.SameLogs.{log_records_same}
use Rattle.disk_definitions.specs.Logs.{log_records}
use Rattle.disk_definitions.specs.Replay.{slots_of}
use Rattle.sector_bytes.specs.Blocks.{version_of}
use Rattle.sector_bytes.specs.Replays.{change_at}
use Rattle.sector_bytes.specs.Sectors.{Sectors}
use Rattle.tree_definitions.specs.Numbers.{below}
use Rattle.core_definitions.specs.LineGuards.{is_server}
use Rattle.core_definitions.specs.Runs.{State}
use Rattle.core_definitions.specs.Servers as life
use Rattle.core_definitions.specs.Servers.{is_dead, is_in_mount, is_off}
use Rattle.core_journals.specs.Journals.{HaveSameBlocks}
use Rattle.sector_world.specs.Guards.{IsBelow, to_replay}
use Rattle.sector_world.specs.Histories.{Named}
use Rattle.sector_world.specs.World.{World}
use Rattle.core_world.specs.Journals.{IsLogOf, Journal, sector_log}
use Rattle.core_world.specs.Readings.{AllInPlace, IsReading, changing, keep_changing}
use Rattle.core_readings.specs.Logs.{IsReplayed, OthersAreEmpty}
use Rattle.core_readings.proofs.LastLoads.{dead_reads, mounted_is_read, stands_in_place}
use Rattle.headline_definitions.specs.AllLogs.{disk_logs, is_change_of, is_named, names}
use Rattle.core_order.specs.Versions.{NameVersions}
use Rattle.core_order.specs.Worlds.{StandsBeside}
use Rattle.core_order.proofs.Surely.{has_surely, named_surely, placed_surely}

-- ---- lists

any_from : {X : Type 0} (test : X → Bool) (xs : List X) → IsTrue (list_any test xs) → (x : X) × Among x xs × IsTrue (test x)
any_from test [] h = absurd (false≢true h)
any_from {X} test (x ∷ xs) h = go (any_from test xs) (test x) refl h
  where
    go : (IsTrue (list_any test xs) → (y : X) × Among y xs × IsTrue (test y)) → (b : Bool) → test x ≡ b → IsTrue (b || list_any test xs) → (y : X) × Among y (x ∷ xs) × IsTrue (test y)
    go rest true e h = (x, inl refl, e)
    go rest false e h = let r = rest h in (r.0, inr r.1, r.2)

change_there : (cs : List Change) (c : Change) (x : ℕ) → Among c cs → c.sector.0 ≡ x → (d : Change) × (change_at cs x ≡ Some d)
change_there [] c x i e = absurd i
change_there (y ∷ ys) c x i e = go (λ j. change_there ys c x j e) (nat_eq y.sector.0 x) refl i
  where
    go : (Among c ys → (d : Change) × (change_at ys x ≡ Some d)) → (b : Bool) → nat_eq y.sector.0 x ≡ b → Among c (y ∷ ys) → (d : Change) × ((if b then Some y else change_at ys x) ≡ Some d)
    go rest true f i = (y, refl)
    go rest false f (inl same) = absurd (false≢true (sym f ∙ eq-eqb y.sector.0 x (ap (λ (z : Change). z.sector.0) (sym same) ∙ e)))
    go rest false f (inr j) = rest j

named_among : (rs : List Redo) (r : Redo) (x : ℕ) (d : Change) → Among r rs → change_at r.changes x ≡ Some d → Named rs x d.version
named_among [] r x d i e = absurd i
named_among (y ∷ ys) r x d (inl same) e = inl (d, ap (λ (z : Redo). change_at z.changes x) (sym same) ∙ e, refl)
named_among (y ∷ ys) r x d (inr i) e = inr (named_among ys r x d i e)

-- ---- the tests of the headline

change_test : (cs : List Change) (x v : ℕ) (c : Change) → change_at cs x ≡ Some c → c.version ≡ v → IsTrue (list_any (is_change_of x v) cs)
change_test [] x v c e f = absurd (none-some c e)
change_test (y ∷ ys) x v c e f = go (λ g. change_test ys x v c g f) (nat_eq y.sector.0 x) refl e
  where
    go : (change_at ys x ≡ Some c → IsTrue (list_any (is_change_of x v) ys)) → (b : Bool) → nat_eq y.sector.0 x ≡ b → (if b then Some y else change_at ys x) ≡ Some c → IsTrue (list_any (is_change_of x v) (y ∷ ys))
    go rest true g e =
        or_left (is_change_of x v y) (list_any (is_change_of x v) ys)
        (and_from (y.sector.0 == x) (y.version == v) g (eq-eqb y.version v (ap (λ (z : Change). z.version) (same_Some y c e) ∙ f)))
    go rest false g e = or_right (is_change_of x v y) (list_any (is_change_of x v) ys) (rest e)

named_test : (rs : List Redo) (x v : ℕ) → Named rs x v → IsTrue (list_any (λ redo. list_any (is_change_of x v) redo.changes) rs)
named_test [] x v n = absurd n
named_test (r ∷ rs) x v (inl h) = or_left (list_any (is_change_of x v) r.changes) (list_any (λ redo. list_any (is_change_of x v) redo.changes) rs) (change_test r.changes x v h.0 h.1 h.2)
named_test (r ∷ rs) x v (inr n) = or_right (list_any (is_change_of x v) r.changes) (list_any (λ redo. list_any (is_change_of x v) redo.changes) rs) (named_test rs x v n)

pub log_names : (disk : Sectors) (a x v : ℕ) → Named (log_records (slots_of disk a)) x v → IsTrue (names disk_logs disk a x v)
log_names disk a x v n = named_test (log_records (slots_of disk a)) x v n

-- a record of some log names the sector
record NamedIn (disk : Sectors) (x : ℕ) : Type 0 where
  server : ℕ
  low : server < LOGS
  version : ℕ
  named : Named (log_records (slots_of disk server)) x version

named_in : (disk : Sectors) (x : ℕ) → IsTrue (is_named disk_logs disk x) → NamedIn disk x
named_in disk x h =
    let a = any_from (λ server. list_any (λ (redo : Redo). list_any (λ (change : Change). change.sector.0 == x) redo.changes) (log_records (slots_of disk server))) (below LOGS) h in
    let r = any_from (λ (redo : Redo). list_any (λ (change : Change). change.sector.0 == x) redo.changes) (log_records (slots_of disk a.0)) a.2 in
    let c = any_from (λ (change : Change). change.sector.0 == x) r.0.changes r.2 in
    let d = change_there r.0.changes c.0 x c.1 (eqb-true c.0.sector.0 x c.2) in
    record { server = a.0; low = below_among LOGS a.0 a.1; version = d.0.version; named = named_among (log_records (slots_of disk a.0)) r.0 x d.0 r.1 d.1 }

-- ---- what a log reads as

pub named_either : (xs ys : List Redo) (x v : ℕ) → Named (xs ++ ys) x v → Named xs x v ⊎ Named ys x v
named_either [] ys x v n = inr n
named_either (r ∷ rs) ys x v (inl h) = inl (inl h)
named_either (r ∷ rs) ys x v (inr n) = ⊎_elim (λ m. inl (inr m)) (λ m. inr m) (named_either rs ys x v n)

pub named_back : (xs : List Redo) (x v : ℕ) → Named (reverse xs) x v → Named xs x v
named_back [] x v n = n
named_back (r ∷ rs) x v n = go (named_back rs x v) (named_either (reverse rs) (r ∷ []) x v (subst (λ l. Named l x v) (reverse-cons r rs) n))
  where
    go : (Named (reverse rs) x v → Named rs x v) → Named (reverse rs) x v ⊎ Named (r ∷ []) x v → Named (r ∷ rs) x v
    go rest (inl m) = inr (rest m)
    go rest (inr (inl h)) = inl h
    go rest (inr (inr m)) = absurd m

pub named_of_changing : (xs : List Redo) (x v : ℕ) → Named (changing xs) x v → Named xs x v
named_of_changing [] x v n = n
named_of_changing (r ∷ rs) x v n = go (named_of_changing rs x v) r.changes n
  where
    go : (Named (changing rs) x v → Named rs x v) → (changes : List Change) → Named (keep_changing changes r (changing rs)) x v → Named (r ∷ rs) x v
    go rest [] n = inr (rest n)
    go rest (c ∷ cs) (inl h) = inl h
    go rest (c ∷ cs) (inr n) = inr (rest n)

in_place_below : (rs : List Redo) (x v n : ℕ) → AllInPlace rs x n → Named rs x v → v ≤ n
in_place_below [] x v n all h = absurd h
in_place_below (r ∷ rs) x v n all (inl h) = subst (λ k. k ≤ n) h.2 (subst (λ o. IsBelow o n) h.1 all.0)
in_place_below (r ∷ rs) x v n all (inr m) = in_place_below rs x v n all.1 m

-- it is in place, or to be replayed
reading_either : (w : World) (d : ℕ) (records : List Redo) → IsReading w d records → (x v : ℕ) → Named records x v → (v ≤ version_of (w.disk x)) ⊎ Named (to_replay w d) x v
reading_either w d records r x v n = go (named_either r.front (reverse (changing (to_replay w d))) x v (subst (λ l. Named l x v) r.is n))
  where
    go : Named r.front x v ⊎ Named (reverse (changing (to_replay w d))) x v → (v ≤ version_of (w.disk x)) ⊎ Named (to_replay w d) x v
    go (inl m) = inl (in_place_below r.front x v (version_of (w.disk x)) (r.in_place x) m)
    go (inr m) = inr (named_of_changing (to_replay w d) x v (named_back (changing (to_replay w d)) x v m))

-- ---- beside a world

module _ (s : State) (w : World) (journal : ℕ → Journal) (k : StandsBeside s w journal) where
  module _ (a : ℕ) (server : IsTrue (is_server a)) (x v : ℕ) (named : Named (log_records (slots_of s.disk a)) x v) where
    off : IsLogOf life.Off (s.core.servers a).ring s.core.now s.core.flights s.disk (sector_log w a) a (journal a) → (v ≤ version_of (w.disk x)) ⊎ Named (to_replay w a) x v
    off rest = inl (in_place_below (log_records (slots_of s.disk a)) x v (version_of (w.disk x)) (rest.old x) named)

    mounted : IsTrue (is_in_mount (s.core.servers a).phase) → (v ≤ version_of (w.disk x)) ⊎ Named (to_replay w a) x v
    mounted up = reading_either w a (log_records (slots_of s.disk a)) (mounted_is_read s w journal k.is k.good k.logs a server up) x v named

    dead : (is : IsTrue (is_dead (s.core.servers a).phase)) → is_off (s.core.servers a).phase ≡ false → (v ≤ version_of (w.disk x)) ⊎ Named (to_replay w a) x v
    dead is on = by (k.sealed a server on).stands
      where
        by : HaveSameBlocks (slots_of s.disk a) (journal a).log.slots ⊎ IsReplayed w a → (v ≤ version_of (w.disk x)) ⊎ Named (to_replay w a) x v
        by (inl same) =
            reading_either w a (log_records (journal a).log.slots) (dead_reads s w journal k.is k.good k.logs a server is) x v
            (subst (λ l. Named l x v) (log_records_same (slots_of s.disk a) (journal a).log.slots same) named)
        by (inr all) = inl (in_place_below (log_records (slots_of s.disk a)) x v (version_of (w.disk x)) (stands_in_place s w journal k.is k.good k.logs a server is all x) named)

    either : (v ≤ version_of (w.disk x)) ⊎ Named (to_replay w a) x v
    either = go (s.core.servers a).phase refl (k.is.journals a server)
      where
        go : (p : life.Phase) → (s.core.servers a).phase ≡ p → IsLogOf p (s.core.servers a).ring s.core.now s.core.flights s.disk (sector_log w a) a (journal a) →
            (v ≤ version_of (w.disk x)) ⊎ Named (to_replay w a) x v
        go life.Off e j = off j
        go life.Up e j = mounted (ap is_in_mount e)
        go life.Still e j = mounted (ap is_in_mount e)
        go (life.Doomed fate) e j = mounted (ap is_in_mount e)
        go life.Dead e j = dead (ap is_dead e) (ap is_off e)

    sure : NameVersions s.disk → has_surely w x ≡ true
    sure versions = ⊎_elim (λ h. placed_surely w k.good x (above v (version_of (w.disk x)) (versions a server x v named) h)) (λ n. named_surely w k.good x a v n) either
      where
        above : (v n : ℕ) → 1 ≤ v → v ≤ n → 1 ≤ n
        above v n l h = omega (arith, l, h)

  -- what some record of a log names
  pub named_is_sure : OthersAreEmpty s.disk → NameVersions s.disk → (x : ℕ) → IsTrue (is_named disk_logs s.disk x) → has_surely w x ≡ true
  named_is_sure others versions x h = go (named_in s.disk x h)
    where
      go : NamedIn s.disk x → has_surely w x ≡ true
      go n = by (is_server n.server) refl
        where
          by : (b : Bool) → is_server n.server ≡ b → has_surely w x ≡ true
          by true e = sure n.server e x n.version n.named versions
          by false e = absurd (subst (λ l. Named l x n.version) (others n.server n.low e) n.named)
