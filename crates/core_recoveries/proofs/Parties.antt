-- What the ties read of the servers where a recovery has ended: the dead one is off with a new ring, and who recovered it recovers nothing.
use Rattle.std.proofs.Common.{◌≡◌, ◌≢◌, ℕ, ◌==◌, Bool, true, false, ◌&&◌, ◌||◌, IsTrue, None, refl, sym, ap, ◌∙◌, subst}
use Rattle.std.proofs.lemmas.Bool.{false≢true}
use Rattle.frang_base.specs.Functions.{put}
use Rattle.frang_base.proofs.Basics.{at_put, put_other, put_same}
use Rattle.core_definitions.specs.EndEffects.{recovered}
use Rattle.core_definitions.specs.LineGuards.{is_server}
use Rattle.core_definitions.specs.Scripts.{host_party}
use Rattle.core_definitions.specs.Servers as life
use Rattle.core_definitions.specs.Servers.{Server, is_dead, is_up}
use Rattle.core_laws.proofs.Resting.{server_no_host}
use Rattle.core_world.proofs.Same.{put_as}

module _ (servers : ℕ → Server) (by dead : ℕ) where
  abbrev pub idle : Server
  idle = record (servers by) { recovery = None }

  abbrev pub rid : ℕ → Server
  rid = put servers by idle

  abbrev pub ended : ℕ → Server
  ended = put rid dead (recovered (servers dead))

  -- the dead one
  pub ended_dead : {X : Type 0} (f : Server → X) (b : ℕ) → b ≡ dead → f (ended b) ≡ f (recovered (servers dead))
  ended_dead f b e = at_put (λ x. f x ≡ f (recovered (servers dead))) rid dead (recovered (servers dead)) b (λ i. refl) (λ n. absurd (n e))

  -- each other, but for what is recovered
  pub ended_other : {X : Type 0} (f : Server → X) → f idle ≡ f (servers by) → (b : ℕ) → b ≢ dead → f (ended b) ≡ f (servers b)
  ended_other f same b n = ap f (put_other rid dead (recovered (servers dead)) b n) ∙ put_as f servers by idle same b

  -- each, but for what is recovered, the phase and the ring
  pub ended_same : {X : Type 0} (f : Server → X) → f idle ≡ f (servers by) → f (recovered (servers dead)) ≡ f (servers dead) → (b : ℕ) → f (ended b) ≡ f (servers b)
  ended_same f same left b = at_put (λ x. f x ≡ f (servers b)) rid dead (recovered (servers dead)) b (λ e. left ∙ ap (λ n. f (servers n)) (sym e)) (λ n. put_as f servers by idle same b)

  -- who recovered recovers nothing
  pub ended_by : by ≢ dead → (ended by).recovery ≡ None
  ended_by n = ap (λ x. x.recovery) (put_other rid dead (recovered (servers dead)) by n ∙ put_same servers by idle)

  -- who is at work then was, and isn't the dead one
  pub works_before : IsTrue (is_server dead) → (b : ℕ) → IsTrue ((is_server b && is_up (ended b).phase) || b == host_party) → (b ≢ dead) × IsTrue ((is_server b && is_up (servers b).phase) || b == host_party)
  works_before server b works = (not_dead, subst (λ p. IsTrue ((is_server b && is_up p) || b == host_party)) (ended_other (λ x. x.phase) refl b not_dead) works)
    where
      none : (x h : Bool) → h ≡ false → IsTrue ((x && false) || h) → ⊥
      none true h e t = false≢true (sym e ∙ t)
      none false h e t = false≢true (sym e ∙ t)

      not_dead : b ≢ dead
      not_dead e = none (is_server b) (b == host_party) (ap (λ n. n == host_party) e ∙ server_no_host dead server)
          (subst (λ p. IsTrue ((is_server b && is_up p) || b == host_party)) (ended_dead (λ x. x.phase) b e) works)

-- who is at work isn't dead
pub worker_not_dead : (servers : ℕ → Server) (by dead : ℕ) → IsTrue (is_server dead) → IsTrue (is_dead (servers dead).phase) → IsTrue ((is_server by && is_up (servers by).phase) || by == host_party) → by ≢ dead
worker_not_dead servers by dead server fallen works e =
    none (is_server by) (by == host_party) (servers dead).phase fallen (ap (λ n. n == host_party) e ∙ server_no_host dead server)
    (subst (λ n. IsTrue ((is_server by && is_up (servers n).phase) || by == host_party)) e works)
  where
    by_up : (x u h : Bool) → u ≡ false → h ≡ false → IsTrue ((x && u) || h) → ⊥
    by_up true true h i j t = false≢true (sym i)
    by_up true false h i j t = false≢true (sym j ∙ t)
    by_up false u h i j t = false≢true (sym j ∙ t)

    none : (x h : Bool) (p : life.Phase) → IsTrue (is_dead p) → h ≡ false → IsTrue ((x && is_up p) || h) → ⊥
    none x h life.Off d i t = false≢true d
    none x h life.Up d i t = false≢true d
    none x h life.Still d i t = false≢true d
    none x h (life.Doomed fate) d i t = false≢true d
    none x h life.Dead d i t = by_up x false h refl i t
