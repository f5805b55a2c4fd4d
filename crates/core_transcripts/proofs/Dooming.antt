-- Why a server is doomed, and what is told of it then.
use Rattle.std.proofs.Common.{ℕ, ◌≡◌, Bool, true, false, not, ◌&&◌, ◌||◌, ◌==◌, IsTrue, is_some, [], ◌∷◌, Option, Some, None, nat_lt, nat_le, refl, sym, ◌∙◌, subst}
use Rattle.std.proofs.lemmas.Bool.{false≢true, and_parts, or_right, or_left}
use Rattle.std.specs.List.{list_any}
use Rattle.frang_base.specs.declared.op.What.{What}
use Rattle.frang_base.specs.declared.op.What.TheVariants.{Server as OfServer, Host as OfHost}
use Rattle.sector_bytes.specs.SectorMaps.{value_at}
use Rattle.tree_definitions.specs.Transcript.{asks_crash, is_called_for, is_crash, is_crash_line, is_stalled}
use Rattle.tree_definitions.specs.Transcript.Phase.{Stalled}
use Rattle.core_definitions.specs.Flights.{is_flying}
use Rattle.core_definitions.specs.Lines.{Under, operation_of}
use Rattle.core_definitions.specs.Scripts.{host_party}
use Rattle.core_definitions.specs.Servers.{Arming, Phase, Off, Up, Still, Doomed, Dead, Server, asked_by, asks, is_open, is_still, is_up}
use Rattle.core_definitions.specs.Writes.{Writes}
use Rattle.core_definitions.specs.Cores.{Core, clean_at, stamp_of, writes}
use Rattle.core_definitions.specs.LineGuards.{is_server}
use Rattle.core_definitions.specs.WriteGuards.{CanDoom, is_at_last, is_crashing, is_faulted, is_held_back, is_in_flight_window, is_issuable, is_marked, is_past_lease, is_worker}
use Rattle.core_definitions.specs.WriteEffects.{fate_of}
use Rattle.core_laws.proofs.Guarding.{Of7, of_7}
use Rattle.core_laws.proofs.Resting.{server_no_host}
use Rattle.core_transcripts.proofs.Fits.{Fits, IsUnder, Told, asked_of, key_of}
use Rattle.core_transcripts.proofs.Answering.{is_under}
use Rattle.core_transcripts.proofs.Lives.{phase_told}
use Rattle.core_transcripts.proofs.Turns.{IsDoomed}

-- ---- an Issue is held back only at a server that is up

works_up : (s u h : Bool) → h ≡ false → IsTrue ((s && u) || h) → IsTrue u
works_up true true h e w = refl
works_up true false h e w = absurd (false≢true (sym e ∙ w))
works_up false u h e w = absurd (false≢true (sym e ∙ w))

module _ (c : Core) (a : ℕ) (server : IsTrue (is_server a)) where
  issuable_up : (sector : ℕ) (all : Writes) → IsTrue (is_issuable c a sector all) → IsTrue (is_up (c.servers a).phase)
  issuable_up sector all h =
      let o : Of7 (is_worker c a) (is_some (value_at all sector)) (is_marked c a (value_at all sector)) (not (is_flying c.flights sector)) (is_in_flight_window c a (value_at all sector)) (nat_le c.now (stamp_of c a)) (not (c.servers a).failed) =
      of_7 (is_worker c a) (is_some (value_at all sector)) (is_marked c a (value_at all sector)) (not (is_flying c.flights sector)) (is_in_flight_window c a (value_at all sector)) (nat_le c.now (stamp_of c a)) (not (c.servers a).failed) h in
      works_up (is_server a) (is_up (c.servers a).phase) (a == host_party) (server_no_host a server) o.p0

  some_up : (all some : Writes) → IsTrue (list_any (λ entry. is_issuable c a entry.0 all) some) → IsTrue (is_up (c.servers a).phase)
  some_up all [] h = absurd (false≢true h)
  some_up all (entry ∷ entries) h = go (is_issuable c a entry.0 all) (λ i. issuable_up entry.0 all i) (λ r. some_up all entries r) h
    where
      go : (b : Bool) → (IsTrue b → IsTrue (is_up (c.servers a).phase)) → (IsTrue (list_any (λ entry. is_issuable c a entry.0 all) entries) → IsTrue (is_up (c.servers a).phase)) →
          IsTrue (b || list_any (λ entry. is_issuable c a entry.0 all) entries) → IsTrue (is_up (c.servers a).phase)
      go true here behind h = here refl
      go false here behind h = behind h

armed_last : (o : Option Arming) → IsTrue (is_at_last o) → IsTrue (is_some o)
armed_last None h = absurd (false≢true h)
armed_last (Some arming) h = refl

pub may_die_if : (armed dies : Bool) → IsTrue armed → IsTrue (not armed || dies) → IsTrue dies
may_die_if true dies a h = h
may_die_if false dies a h = absurd (false≢true a)

failed_if : (failed e : Bool) → IsTrue failed → IsTrue (not failed || e) → IsTrue e
failed_if true e a h = h
failed_if false e a h = absurd (false≢true a)

-- the line under way asks a crash
crash_asked : (w : What) → IsTrue (asked_by is_crash (operation_of w)) → IsTrue (asks_crash w)
crash_asked (OfServer o) h = h
crash_asked (OfHost h) k = absurd (false≢true k)

called_crash : (dies c s : Bool) → IsTrue c → IsTrue ((dies || c) || s)
called_crash true c s h = refl
called_crash false true s h = refl
called_crash false false s h = absurd (false≢true h)

called_armed : (dies c s : Bool) → IsTrue dies → IsTrue ((dies || c) || s)
called_armed true c s h = refl
called_armed false c s h = absurd (false≢true h)

called_stalled : (dies c s : Bool) → IsTrue s → IsTrue ((dies || c) || s)
called_stalled true c s h = refl
called_stalled false true s h = refl
called_stalled false false s h = h

module _ (c : Core) (a : ℕ) (t : Told) (g : Fits (key_of (c.servers a)) t) (can : CanDoom c a) (lease : IsTrue (is_still (c.servers a).phase) → IsTrue (not (clean_at c a)) → IsTrue (t.dirty || t.faulted)) where
  abbrev server : Server
  server = c.servers a

  crash_next : (o : Option Under) → server.under ≡ o → IsTrue (is_open is_crash o) → IsTrue (is_crash_line t.next)
  crash_next None e h = absurd (false≢true h)
  crash_next (Some u) e h =
      let i : IsUnder server.phase server.owes t (asked_of u) = is_under server.phase server.owes t server.under u e g.under in
      subst (λ n. IsTrue (is_crash_line n)) (sym i.next) (crash_asked u.line.what (and_parts (not (is_some u.fixed)) (asked_by is_crash (operation_of u.line.what)) h).1)

  faulted_told : IsTrue server.failed → IsTrue t.faulted
  faulted_told h = failed_if server.failed t.faulted h g.failed

  -- ---- by what it comes
  up_free : IsTrue (is_up server.phase) → (fate_of c a).owes ≡ false
  up_free u = free server.phase (nat_lt server.expiry c.now) (not (clean_at c a)) (not server.failed) u
    where
      free : (p : Phase) (x y z : Bool) → IsTrue (is_up p) → (((is_still p && x) && y) && z) ≡ false
      free Up x y z u = refl
      free Off x y z u = absurd (false≢true u)
      free Still x y z u = absurd (false≢true u)
      free (Doomed f) x y z u = absurd (false≢true u)
      free Dead x y z u = absurd (false≢true u)

  up_still_not : (p : Phase) → IsTrue (is_up p) → IsTrue (is_still p) → ⊥
  up_still_not Up u s = false≢true s
  up_still_not Off u s = false≢true s
  up_still_not Still u s = false≢true u
  up_still_not (Doomed f) u s = false≢true s
  up_still_not Dead u s = false≢true s

  crashing : IsTrue (is_crashing server) → IsDoomed server t (fate_of c a)
  crashing h = record {
    mount = or_left (is_up server.phase) (is_still server.phase) (and_parts (is_up server.phase) (asks is_crash server) h).0;
    up_fate = up_free;
    still_fate = λ s. absurd (up_still_not server.phase (and_parts (is_up server.phase) (asks is_crash server) h).0 s);
    cause =
        or_left (is_called_for t.state t.next t.dirty) t.faulted
        (called_crash t.state.may_die (is_crash_line t.next) (is_stalled t.state.phase && t.dirty) (crash_next server.under refl (and_parts (is_up server.phase) (asks is_crash server) h).1));
  }

  held_back : IsTrue (is_held_back c a (writes c a)) → IsDoomed server t (fate_of c a)
  held_back h =
      let up : IsTrue (is_up server.phase) = some_up c a can.server (writes c a) (writes c a) (and_parts (is_at_last server.arming) (list_any (λ entry. is_issuable c a entry.0 (writes c a)) (writes c a)) h).1 in
      record {
        mount = or_left (is_up server.phase) (is_still server.phase) up;
        up_fate = up_free;
        still_fate = λ s. absurd (up_still_not server.phase up s);
        cause =
            or_left (is_called_for t.state t.next t.dirty) t.faulted
            (called_armed t.state.may_die (is_crash_line t.next) (is_stalled t.state.phase && t.dirty)
            (may_die_if (is_some server.arming) t.state.may_die (armed_last server.arming (and_parts (is_at_last server.arming) (list_any (λ entry. is_issuable c a entry.0 (writes c a)) (writes c a)) h).0) g.armed));
      }

  -- its lease has ended while it isn't clean, or a call failed
  still_owes : IsTrue (is_past_lease c a) → IsTrue (not (clean_at c a)) → IsTrue ((fate_of c a).owes || t.faulted)
  still_owes p n = go (is_past_lease c a) (not (clean_at c a)) server.failed p n (λ f. faulted_told f)
    where
      go : (x y z : Bool) → IsTrue x → IsTrue y → (IsTrue z → IsTrue t.faulted) → IsTrue (((x && y) && not z) || t.faulted)
      go true true true h k m = m refl
      go true true false h k m = refl
      go true false z h k m = absurd (false≢true k)
      go false y z h k m = absurd (false≢true h)

  past_lease : IsTrue (is_past_lease c a) → IsTrue (not (clean_at c a)) → IsDoomed server t (fate_of c a)
  past_lease p n =
      let still : IsTrue (is_still server.phase) = (and_parts (is_still server.phase) (nat_lt server.expiry c.now) p).0 in
      record {
        mount = or_right (is_up server.phase) (is_still server.phase) still;
        up_fate = up_free;
        still_fate = λ s. still_owes p n;
        cause = by_dirt t.dirty t.faulted (lease still n) (phase_told server t still g);
      }
    where
      by_dirt : (d e : Bool) → IsTrue (d || e) → t.state.phase ≡ Stalled → IsTrue (((t.state.may_die || is_crash_line t.next) || (is_stalled t.state.phase && d)) || e)
      by_dirt true e h s =
          or_left ((t.state.may_die || is_crash_line t.next) || (is_stalled t.state.phase && true)) e
          (called_stalled t.state.may_die (is_crash_line t.next) (is_stalled t.state.phase && true) (subst (λ q. IsTrue (is_stalled q && true)) (sym s) refl))
      by_dirt false e h s = or_right ((t.state.may_die || is_crash_line t.next) || (is_stalled t.state.phase && false)) e h

  faulted : IsTrue (is_faulted server) → IsDoomed server t (fate_of c a)
  faulted h =
      let failed : IsTrue server.failed = (and_parts (is_up server.phase || is_still server.phase) server.failed h).1 in
      record {
        mount = (and_parts (is_up server.phase || is_still server.phase) server.failed h).0;
        up_fate = up_free;
        still_fate = λ s. or_right (fate_of c a).owes t.faulted (faulted_told failed);
        cause = or_right (is_called_for t.state t.next t.dirty) t.faulted (faulted_told failed);
      }

  pub is_doomed_so : IsDoomed server t (fate_of c a)
  is_doomed_so = go (is_crashing server) (is_held_back c a (writes c a)) (is_past_lease c a) (not (clean_at c a)) (is_faulted server) crashing held_back past_lease faulted can.cause
    where
      go : (x y p n z : Bool) → (IsTrue x → IsDoomed server t (fate_of c a)) → (IsTrue y → IsDoomed server t (fate_of c a)) → (IsTrue p → IsTrue n → IsDoomed server t (fate_of c a)) →
          (IsTrue z → IsDoomed server t (fate_of c a)) → IsTrue (((x || y) || (p && n)) || z) → IsDoomed server t (fate_of c a)
      go true y p n z f1 f2 f3 f4 h = f1 refl
      go false true p n z f1 f2 f3 f4 h = f2 refl
      go false false true true z f1 f2 f3 f4 h = f3 refl refl
      go false false true false true f1 f2 f3 f4 h = f4 refl
      go false false false n true f1 f2 f3 f4 h = f4 refl
      go false false true false false f1 f2 f3 f4 h = absurd (false≢true h)
      go false false false n false f1 f2 f3 f4 h = absurd (false≢true h)
