-- The end of a mount, by an unmount or at the end of a run, is a Give of each lock, and Unmount.
use Rattle.std.proofs.Common.{◌≡◌, ℕ, true, false, ◌&&◌, if◌then◌else◌, IsTrue, [], ◌∷◌, ◌++◌, refl, sym, ap, ◌∙◌, subst}
use Rattle.std.proofs.lemmas.Bool.{and_parts, not-true}
use Rattle.frang_base.specs.Functions.{put}
use Rattle.frang_base.specs.declared.op.Op.TheVariants as op
use Rattle.frang_base.specs.declared.reply.Reply.TheVariants as reply
use Rattle.frang_base.proofs.Basics.{at_put}
use Rattle.tree_definitions.specs.Touched.{is_unmount}
use Rattle.lock_definitions.specs.Calls.{cleared}
use Rattle.lock_definitions.specs.Locks.{AreLocks}
use Rattle.disk_definitions.specs.Replay.{slots_of}
use Rattle.core_definitions.specs.Cores.{Core, clean_at, with_server}
use Rattle.core_definitions.specs.EndEffects.{closed}
use Rattle.core_definitions.specs.Events.{Answer, Close, Nothing}
use Rattle.core_definitions.specs.LineEffects.{off_after}
use Rattle.core_definitions.specs.LineGuards.{is_server}
use Rattle.ring_definitions.specs.RingSteps.{GoodLogsEndWithin, GoodLogsReadBack}
use Rattle.core_definitions.specs.Runs.{State as RunMoment, next}
use Rattle.core_definitions.specs.Servers.{Server, is_up, wanting_all}
use Rattle.core_definitions.specs.Settings.{setting_of}
use Rattle.core_facts.specs.Holds.{HoldsAreOfRecoveries, HoldsAreOnTheDead}
use Rattle.core_facts.specs.Stamps.{WhoLivesHasFreshWrites}
use Rattle.core_laws.proofs.Keeping.{locks_of_run}
use Rattle.core_laws.proofs.Memory.{given_due}
use Rattle.sector_world.specs.Guards.{CanUnmount}
use Rattle.sector_world.specs.Histories.Entry.{Synced}
use Rattle.sector_world.specs.Kinds.{Good}
use Rattle.sector_world.specs.Steps.{after, stays, goes}
use Rattle.sector_world.specs.Steps.Event.{Unmount}
use Rattle.sector_world.specs.World.{World, Off, Up}
use Rattle.core_world.specs.Journals.{AreJournals, AreReadings, IsAtRest, IsLogOf, Journal, sector_log}
use Rattle.core_world.proofs.Quiet.{quiet_both}
use Rattle.core_world.specs.Steps.{IsReached, IsWorldOf}
use Rattle.core_world.specs.Ties.{AreTied, expiry_at, phase_of, taker_of, until_of}
use Rattle.core_lives.proofs.Alike.{IsWorldBy, by_world, mounted_journal, mounted_up}
use Rattle.core_lives.proofs.AtRest.{at_rest}
use Rattle.core_lives.proofs.Answering.{IsOpenOf, answered_is, open_of, unmount_is}
use Rattle.core_lives.proofs.Emptying.{HasNothingToWrite, joined}
use Rattle.core_lives.proofs.Leaving.{Empties, IsEmptied, IsLeaving, emptied_cached, emptied_holds, emptied_logged, emptied_marked, emptied_readings, emptied_rescues, empties, hold_stays, leaving, writes_nothing}
use Rattle.core_lives.proofs.Phases.{up_mounted}
use Rattle.core_lives.specs.Lives.{ClosesLeadOn, LeadsWith, UnmountsLeadOn}

-- the core without a server that leaves
abbrev left_core : Core → ℕ → Core
left_core c a = record c { servers = put c.servers a (off_after (c.servers a)); locks = cleared c.locks a }

module _ (s : RunMoment) (w u : World) (a : ℕ) (t : AreTied s.core s.disk w) (l : IsLeaving s a) (x : IsEmptied a w u) (are : AreLocks s.core.locks) where
  abbrev c : Core
  c = s.core

  abbrev new : Server
  new = off_after (c.servers a)

  abbrev left : World
  left = record w { holds = u.holds; slot = u.slot; page = u.page }

  abbrev later : World
  later = after left (Unmount a)

  unmount_can : CanUnmount left a
  unmount_can = record { up = t.lives.phase a ∙ mounted_up (c.servers a).phase l.mounted; given = x.nothing.holds; logged = t.logged a l.clean.reached }

  left_tied : AreTied (left_core c a) s.disk later
  left_tied = record {
    lives = record {
      now = t.lives.now;
      phase = λ b. at_put (λ y. put w.phase a Off b ≡ phase_of y.phase) c.servers a new b
          (λ e. at_put (λ y. y ≡ Off) w.phase a Off b (λ i. refl) (λ n. absurd (n e)))
          (λ n. at_put (λ y. y ≡ phase_of (c.servers b).phase) w.phase a Off b (λ e. absurd (n e)) (λ m. t.lives.phase b));
      expiry = λ b. at_put (λ y. w.expiry b ≡ expiry_at c.now b y.expiry) c.servers a new b (λ e. t.lives.expiry b ∙ ap (λ n. expiry_at c.now b (c.servers n).expiry) e)
          (λ n. t.lives.expiry b);
      well = λ b. at_put (λ y. y.failed ≡ false → put w.phase a Off b ≡ Up → put w.sick a true b ≡ false) c.servers a new b
          (λ e i. at_put (λ y. y ≡ Up → put w.sick a true b ≡ false) w.phase a Off b (λ j k. absurd (cc)) (λ n. absurd (n e)))
          (λ n i. at_put (λ y. y ≡ Up → put w.sick a true b ≡ false) w.phase a Off b (λ e. absurd (n e))
          (λ m j. at_put (λ y. y ≡ false) w.sick a true b (λ e. absurd (n e)) (λ o. t.lives.well b i j)));
    };
    locks = record {
      holds = emptied_holds c s.disk w t a new refl refl l.alone are u x;
      taker = λ d. t.locks.taker d ∙ ap taker_of (sym (hold_stays c.locks a l.taken l.own d));
      until = λ d. t.locks.until d ∙ ap until_of (sym (hold_stays c.locks a l.taken l.own d));
    };
    cached = emptied_cached c s.disk w t a new refl refl l.alone u x;
    marked = emptied_marked c s.disk w t a new refl refl l.alone u x;
    flying = t.flying;
    disk = t.disk;
    rescues = emptied_rescues c s.disk w t a new refl refl l.alone;
    logged = emptied_logged c s.disk w t a new refl refl l.alone refl;
  }

  left_journals : (journal : ℕ → Journal) → IsAtRest (slots_of s.disk a) (sector_log w a) → AreJournals c.servers c.now c.flights s.disk w journal →
      AreJournals (put c.servers a new) c.now c.flights s.disk later journal
  left_journals journal rest g b who = at_put (λ y. IsLogOf y.phase y.ring c.now c.flights s.disk (sector_log w b) b (journal b)) c.servers a new b
      (λ e. subst (λ n. IsAtRest (slots_of s.disk n) (sector_log w n)) (sym e) rest) (λ n. g b who)

-- where the laws of logs are known
module _ (ends : GoodLogsEndWithin) (reads : GoodLogsReadBack) (fresh : WhoLivesHasFreshWrites) (recover : HoldsAreOfRecoveries) (dead : HoldsAreOnTheDead) where
  leaves : (s v : RunMoment) (w : World) (journal : ℕ → Journal) (a : ℕ) → IsReached s → IsWorldOf s w journal → Good w → IsTrue (is_server a) → s.core.over ≡ false → IsLeaving s a →
      ((y : World) → IsWorldBy (left_core s.core a) s.disk y journal → IsWorldOf v y journal) → LeadsWith w v journal (Synced a (w.last a))
  leaves s v w journal a r t g server going l by = record {
    leads = record {
      events = x.events ++ Unmount a ∷ [];
      world = after x.world (Unmount a);
      run = joined w x.world (after x.world (Unmount a)) x.events (Unmount a ∷ []) x.run
          (goes (subst (λ y. CanUnmount y a) (sym x.is.same) (unmount_can s w x.world a t.tied l x.is are)) stays);
      is = by (after x.world (Unmount a)) (record {
        tied = subst (λ y. AreTied (left_core s.core a) s.disk (after y (Unmount a))) (sym x.is.same) (left_tied s w x.world a t.tied l x.is are);
        journals = subst (λ y. AreJournals (put s.core.servers a (off_after (s.core.servers a))) s.core.now s.core.flights s.disk (after y (Unmount a)) journal) (sym x.is.same)
            (left_journals s w x.world a t.tied l x.is are journal rest t.journals);
        readings = subst (λ y. AreReadings s.core.setting.segments (put s.core.servers a (off_after (s.core.servers a))) (after y (Unmount a))) (sym x.is.same)
            (emptied_readings s.core s.disk w t.tied a (off_after (s.core.servers a)) refl refl l.alone t.readings);
      });
    };
    story = record {
      servers = ap (λ y. y.servers) x.is.same;
      opening = ap (λ y. y.opening) x.is.same;
      logged = ap (λ y. y.logged) x.is.same;
      first = ap (λ y. y.first) x.is.same;
      home = ap (λ y. y.home) x.is.same;
      history = ap (λ y. Synced a (y.last a) ∷ y.history) x.is.same;
    };
    quiet = quiet_both v.core.setting.segments w x.world x.events (Unmount a ∷ []) x.run (x.quiet v.core.setting.segments) (tt, tt);
  }
    where
      are : AreLocks s.core.locks
      are = locks_of_run (setting_of r.script r.segments r.number) r.disk s r.run

      x : Empties a w
      x = empties s w a t.tied going g l

      none : HasNothingToWrite a w
      none = writes_nothing s w a t.tied going g l

      rest : IsAtRest (slots_of s.disk a) (sector_log w a)
      rest = at_rest ends reads w a g none.up none.slots (s.core.servers a).ring l.clean.reached s.core.now s.core.flights s.disk (journal a)
          (mounted_journal (s.core.servers a).phase l.mounted (s.core.servers a).ring s.core.now s.core.flights s.disk (sector_log w a) a (journal a) (t.journals a server))

  pub closes : ClosesLeadOn
  closes s w journal a r t g makes clean =
      leaves s (next s (Close a) Nothing) w journal a r t g makes.can.can.server (not-true _ makes.can.going)
      (leaving fresh recover dead s r a (up_mounted (s.core.servers a).phase makes.can.can.up) clean)
      (λ y b. by_world (next s (Close a) Nothing) y journal (subst (λ d. IsWorldBy d s.disk y journal) (sym closed_is) b))
    where
      closed_is : closed s.core a ≡ left_core s.core a
      closed_is = ap (λ b. if b then left_core s.core a else with_server s.core a (wanting_all (s.core.servers a))) clean

  pub unmounts : UnmountsLeadOn
  unmounts s w journal a r t g makes asked =
      leaves s (next s (Answer a) Nothing) w journal a r t g makes.can.can.server (not-true _ makes.can.going)
      (leaving fresh recover dead s r a (up_mounted (s.core.servers a).phase due.0) due.1)
      (λ y b. by_world (next s (Answer a) Nothing) y journal (subst (λ d. IsWorldBy d s.disk y journal) (sym (answered_is s.core a op.Unmount x)) b))
    where
      x : IsOpenOf s.core a op.Unmount
      x = open_of s.core a is_unmount op.Unmount unmount_is asked makes.can.can.due

      due : IsTrue (is_up (s.core.servers a).phase) × IsTrue (clean_at s.core a)
      due = and_parts (is_up (s.core.servers a).phase) (clean_at s.core a) (given_due (is_up (s.core.servers a).phase && clean_at s.core a) reply.Ok x.answer x.own)
