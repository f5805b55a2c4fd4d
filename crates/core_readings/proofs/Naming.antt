-- Each write of a sector with a version that may still come in time is named, with its version, by a record that stands in the log on whose behalf it is.
use Rattle.std.proofs.Common.{◌≡◌, ℕ, ◌<◌, ◌≤◌, ◌⊎◌, inl, inr, false, IsTrue, Option, Some, None, List, [], ◌∷◌, ◌++◌, reverse, refl, sym, ap, ◌∙◌, subst, arith}
use Rattle.std.proofs.lemmas.Option.{none-some}
use mathlib.Core.List.{reverse-cons}
use Rattle.frang_base.specs.declared.change.Change.{Change}
use Rattle.frang_base.specs.declared.change.Redo.{Redo}
use Rattle.frang_base.specs.declared.lock.Mode.{Mode}
use Rattle.frang_base.specs.declared.lock.Mode.TheVariants.{Sole}
use Rattle.disk_definitions.proofs.SameLogs.{log_records_same}
use Rattle.disk_definitions.specs.Logs.{log_records}
use Rattle.disk_definitions.specs.Replay.{slots_of}
use Rattle.sector_bytes.specs.Blocks.{version_of}
use Rattle.sector_bytes.specs.Replays.{change_at}
use Rattle.core_definitions.specs.Servers as life
use Rattle.core_definitions.specs.Servers.{is_dead, is_in_mount, is_off}
use Rattle.core_journals.specs.Journals.{HaveSameBlocks}
use Rattle.sector_world.specs.Guards.{IsBelow, to_replay}
use Rattle.sector_world.specs.Histories.{Named}
use Rattle.sector_world.specs.Logged.{FlightOk, NoneIfOff}
use Rattle.sector_world.specs.World.{World, cover}
use Rattle.core_world.specs.Readings.{AllInPlace, IsReading, changing, keep_changing}
use Rattle.core_world.specs.Ties.{phase_of}
use Rattle.core_readings.specs.Logs.{IsReplayed, WritesAreNamed}
use Rattle.core_readings.proofs.LastLoads.{dead_reads, mounted_is_read}

-- ---- records that name

named_left : (xs ys : List Redo) (s v : ℕ) → Named xs s v → Named (xs ++ ys) s v
named_left [] ys s v n = absurd n
named_left (x ∷ xs) ys s v (inl h) = inl h
named_left (x ∷ xs) ys s v (inr n) = inr (named_left xs ys s v n)

named_right : (xs ys : List Redo) (s v : ℕ) → Named ys s v → Named (xs ++ ys) s v
named_right [] ys s v n = n
named_right (x ∷ xs) ys s v n = inr (named_right xs ys s v n)

named_reverse : (xs : List Redo) (s v : ℕ) → Named xs s v → Named (reverse xs) s v
named_reverse [] s v n = n
named_reverse (x ∷ xs) s v n = subst (λ l. Named l s v) (sym (reverse-cons x xs)) (go n (named_reverse xs s v))
  where
    go : Named (x ∷ xs) s v → (Named xs s v → Named (reverse xs) s v) → Named (reverse xs ++ x ∷ []) s v
    go (inl h) rest = named_right (reverse xs) (x ∷ []) s v (inl h)
    go (inr m) rest = named_left (reverse xs) (x ∷ []) s v (rest m)

-- a record that names a sector isn't empty
named_changing : (xs : List Redo) (s v : ℕ) → Named xs s v → Named (changing xs) s v
named_changing [] s v n = n
named_changing (x ∷ xs) s v n = go x.changes refl n (named_changing xs s v)
  where
    go : (changes : List Change) → x.changes ≡ changes → Named (x ∷ xs) s v → (Named xs s v → Named (changing xs) s v) → Named (keep_changing changes x (changing xs)) s v
    go [] e (inl h) rest = absurd (none-some h.0 (sym (ap (λ l. change_at l s) e) ∙ h.1))
    go [] e (inr m) rest = rest m
    go (c ∷ cs) e (inl h) rest = inl h
    go (c ∷ cs) e (inr m) rest = inr (rest m)

reading_names : (w : World) (d : ℕ) (records : List Redo) → IsReading w d records → (s v : ℕ) → Named (to_replay w d) s v → Named records s v
reading_names w d records r s v n = subst (λ l. Named l s v) (sym r.is) (named_right r.front (reverse (changing (to_replay w d))) s v (named_reverse (changing (to_replay w d)) s v (named_changing (to_replay w d) s v n)))

-- what is in place names nothing newer
in_place_below : (rs : List Redo) (s v n : ℕ) → AllInPlace rs s n → Named rs s v → v ≤ n
in_place_below [] s v n all h = absurd h
in_place_below (r ∷ rs) s v n all (inl h) = subst (λ k. k ≤ n) h.2 (subst (λ o. IsBelow o n) h.1 all.0)
in_place_below (r ∷ rs) s v n all (inr m) = in_place_below rs s v n all.1 m

-- ---- the law

pub writes_are_named : WritesAreNamed
writes_are_named s w journal r t g logs behind x f e early server = go (s.core.servers f.behalf).phase refl
  where
    ok : FlightOk w x f
    ok = g.logged.flights x f e early

    -- who is off holds no lock
    off : (s.core.servers f.behalf).phase ≡ life.Off → ⊥
    off p = free (w.holds f.behalf (cover w x)) ok.sole (subst (λ q. NoneIfOff q (w.holds f.behalf (cover w x))) (t.tied.lives.phase f.behalf ∙ ap phase_of p) (g.logged.off_free f.behalf (cover w x)))
      where
        free : (h : Option Mode) → h ≡ Some Sole → h ≡ None → ⊥
        free h sole none = none-some Sole (sym none ∙ sole)

    mounted : IsTrue (is_in_mount (s.core.servers f.behalf).phase) → Named (log_records (slots_of s.disk f.behalf)) x (version_of f.block)
    mounted up = reading_names w f.behalf (log_records (slots_of s.disk f.behalf)) (mounted_is_read s w journal t g logs f.behalf server up) x (version_of f.block) ok.named

    dead : (is : IsTrue (is_dead (s.core.servers f.behalf).phase)) → is_off (s.core.servers f.behalf).phase ≡ false → Named (log_records (slots_of s.disk f.behalf)) x (version_of f.block)
    dead is on = by_behind (behind f.behalf server on).stands
      where
        base : Named (log_records (journal f.behalf).log.slots) x (version_of f.block)
        base = reading_names w f.behalf (log_records (journal f.behalf).log.slots) (dead_reads s w journal t g logs f.behalf server is) x (version_of f.block) ok.named

        by_behind : HaveSameBlocks (slots_of s.disk f.behalf) (journal f.behalf).log.slots ⊎ IsReplayed w f.behalf → Named (log_records (slots_of s.disk f.behalf)) x (version_of f.block)
        by_behind (inl same) = subst (λ l. Named l x (version_of f.block)) (sym (log_records_same (slots_of s.disk f.behalf) (journal f.behalf).log.slots same)) base
        by_behind (inr all) = absurd (apart (version_of (w.disk x)) (version_of f.block) ok.higher (in_place_below (to_replay w f.behalf) x (version_of f.block) (version_of (w.disk x)) (all x) ok.named))
          where
            apart : (a b : ℕ) → a < b → b ≤ a → ⊥
            apart a b h l = omega (arith, h, l)

    go : (p : life.Phase) → (s.core.servers f.behalf).phase ≡ p → Named (log_records (slots_of s.disk f.behalf)) x (version_of f.block)
    go life.Off p = absurd (off p)
    go life.Up p = mounted (ap is_in_mount p)
    go life.Still p = mounted (ap is_in_mount p)
    go (life.Doomed fate) p = mounted (ap is_in_mount p)
    go life.Dead p = dead (ap is_dead p) (ap is_off p)
