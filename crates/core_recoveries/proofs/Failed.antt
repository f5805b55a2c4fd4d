-- A server a call of which failed: what the ties read of it is as it was, and none that is mounted counts as well then.
use Rattle.std.proofs.Common.{◌≡◌, ◌⊎◌, ℕ, ◌==◌, Bool, true, false, ◌&&◌, ◌||◌, IsTrue, Some, refl, sym, ap, ◌∙◌, subst, inl, inr, ⊎_elim}
use Rattle.std.proofs.lemmas.Bool.{false≢true}
use Rattle.frang_base.specs.Functions.{put}
use Rattle.frang_base.proofs.Basics.{at_put}
use Rattle.core_definitions.specs.Flights.{Flights}
use Rattle.core_definitions.specs.LineEffects.{failed_by}
use Rattle.core_definitions.specs.LineGuards.{is_server}
use Rattle.core_definitions.specs.Recoveries.{Recovery}
use Rattle.core_definitions.specs.Scripts.{host_party}
use Rattle.core_definitions.specs.Servers as life
use Rattle.core_definitions.specs.Servers.{Server, is_in_mount, is_up}
use Rattle.sector_world.specs.World.{World, Up}
use Rattle.core_world.specs.Journals.{AreReadings}
use Rattle.core_world.specs.Ties.{AreLives, AreRescues, IsRescueOf, IsStuck, phase_of}
use Rattle.core_world.proofs.Same.{put_as}
use Rattle.core_recoveries.proofs.But.{IsBut, put_but}

-- who is up is in a mount
pub mounted_up : (p : life.Phase) → IsTrue (is_up p) → is_in_mount p ≡ true
mounted_up life.Off e = absurd (false≢true e)
mounted_up life.Up e = refl
mounted_up life.Still e = absurd (false≢true e)
mounted_up (life.Doomed fate) e = absurd (false≢true e)
mounted_up life.Dead e = absurd (false≢true e)

-- who is up in the world is
up_mounted : (p : life.Phase) → phase_of p ≡ Up → is_in_mount p ≡ true
up_mounted life.Off e = absurd (cc)
up_mounted life.Up e = refl
up_mounted life.Still e = refl
up_mounted (life.Doomed fate) e = refl
up_mounted life.Dead e = absurd (cc)

or_left : (x y : Bool) → x ≡ true → (x || y) ≡ true
or_left true y e = refl
or_left false y e = absurd (false≢true e)

pub or_right : (x y : Bool) → y ≡ true → (x || y) ≡ true
or_right true y e = refl
or_right false y e = e

module _ (servers : ℕ → Server) (a : ℕ) (w : World) where
  abbrev pub servers_broken : ℕ → Server
  servers_broken = put servers a (failed_by (servers a))

  pub broken_but : IsBut servers_broken servers
  broken_but = put_but servers a (failed_by (servers a)) refl refl refl refl

  pub broken_recovery : (b : ℕ) → (servers_broken b).recovery ≡ (servers b).recovery
  broken_recovery = put_as (λ y. y.recovery) servers a (failed_by (servers a)) refl

  -- who counts as well is
  pub broken_well : (now : ℕ) → AreLives now servers w → (b : ℕ) → (servers_broken b).failed ≡ false → w.phase b ≡ Up → put w.sick a true b ≡ false
  broken_well now t b = at_put (λ (y : Server). y.failed ≡ false → w.phase b ≡ Up → put w.sick a true b ≡ false) servers a (failed_by (servers a)) b
      (λ i e up. absurd (false≢true (sym e ∙ or_right (servers a).failed (is_in_mount (servers a).phase) (up_mounted (servers a).phase (sym (t.phase a) ∙ ap w.phase (sym i) ∙ up)))))
      (λ n e up. at_put (λ y. y ≡ false) w.sick a true b (λ i. absurd (n i)) (λ m. t.well b e up))

  -- recoveries are as they were
  pub broken_rescues : (flights : Flights) → AreRescues servers flights w → AreRescues servers_broken flights w
  broken_rescues flights t = record {
    under_way = λ b x. at_put (λ (y : Server). IsTrue ((is_server b && is_up y.phase) || b == host_party) → y.recovery ≡ Some x → IsRescueOf b x w.rescue ⊎ IsStuck b flights y.failed x) servers a
        (failed_by (servers a)) b
        (λ i works e. ⊎_elim (λ q. inl q) (λ z. inr (record {
          has_failed = or_left (servers a).failed (is_in_mount (servers a).phase) z.has_failed;
          sector = z.sector;
          block = z.block;
          looked = z.looked;
          unwritten = z.unwritten;
          unsent = z.unsent;
        })) (before b x i works e))
        (λ n. t.under_way b x);
    known = λ q e. let k = t.known q e in (k.0, broken_recovery q.by ∙ k.1, k.2);
  }
    where
      before : (b : ℕ) (x : Recovery) → b ≡ a → IsTrue ((is_server b && is_up (servers a).phase) || b == host_party) → (servers a).recovery ≡ Some x →
          IsRescueOf b x w.rescue ⊎ IsStuck b flights (servers a).failed x
      before b x i works e = subst (λ n. IsRescueOf b x w.rescue ⊎ IsStuck b flights (servers n).failed x) i
          (t.under_way b x (subst (λ n. IsTrue ((is_server b && is_up (servers n).phase) || b == host_party)) (sym i) works) (ap (λ n. (servers n).recovery) i ∙ e))

  pub broken_readings : (segments : ℕ) → AreReadings segments servers w → AreReadings segments servers_broken w
  broken_readings segments t b x works e =
      t b x (subst (λ p. IsTrue ((is_server b && is_up p) || b == host_party)) (broken_but.phase b) works) (sym (broken_recovery b) ∙ e)
