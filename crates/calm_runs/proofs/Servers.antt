-- What events do to a server that nothing stops: it is off or up, isn't armed, no call of it failed, and its line under way isn't one that stops it.
use Rattle.std.proofs.Common.{◌≡◌, ◌∙◌, ℕ, Bool, true, false, not, ◌&&◌, ◌||◌, if◌then◌else◌, IsTrue, is_some, Option, Some, None, List, [], ◌∷◌, find, refl, sym, ap, subst}
use Rattle.std.specs.Option.{option_map}
use Rattle.std.proofs.lemmas.Bool.{false≢true, and_parts, or_parts}
use Rattle.std.proofs.lemmas.Option.{same_Some, none-some}
use Rattle.frang_base.specs.declared.lock.LockId.{LockId}
use Rattle.frang_base.specs.declared.op.Op.{Op}
use Rattle.frang_base.specs.declared.op.Op.TheVariants as op
use Rattle.frang_base.specs.declared.reply.Reply.{Reply}
use Rattle.frang_base.specs.declared.reply.Reply.TheVariants as reply
use Rattle.frang_base.specs.declared.script.Line.{Line}
use Rattle.sector_bytes.specs.Blocks.{Block}
use Rattle.tree_definitions.specs.Touched.{is_ok, is_stall, is_unmount}
use Rattle.tree_definitions.specs.Transcript.{calls_death, is_crash}
use Rattle.core_definitions.specs.Cores.{Core}
use Rattle.core_definitions.specs.Flights.{InPlace, OfLog, OfRecovery, Purpose}
use Rattle.core_definitions.specs.LineEffects.{again_by, answered_by, answered_open, begun_line, begun_with, cached_under, cover_needed, fetched_by, set_anew, set_grown, slot_read, with_under}
use Rattle.core_definitions.specs.Lines.{Stage, Asking, Fetching, Moving, Stopping, Growing, Clearing, Finishing, Under, operation_of}
use Rattle.core_definitions.specs.Logs.{is_read}
use Rattle.core_definitions.specs.Servers.{Phase, Off, Up, Still, Doomed, Dead, Server, asked_by, due_if, is_off, is_open, is_still, is_up, own_answer, wanting_all, wanting_all_up}
use Rattle.core_definitions.specs.Settings.{LogRules}
use Rattle.core_definitions.specs.WriteEffects.{acknowledged, clean_now}
use Rattle.core_definitions.specs.Writes.{comes_clean}
use Rattle.calm_runs.specs.Calm.{is_calm, is_stopping, stops}

-- the line under way, and the next one
abbrev pub IsCalmUnder : Option Under → Type 0
IsCalmUnder None = Unit {0}
IsCalmUnder (Some under) = is_stopping under.line ≡ false

abbrev pub IsCalmNext : Option Line → Type 0
IsCalmNext None = Unit {0}
IsCalmNext (Some line) = is_stopping line ≡ false

pub record IsCalm (server : Server) : Type 0 where
  pub lives : IsTrue (is_off server.phase || is_up server.phase)
  pub unarmed : server.arming ≡ None
  pub well : server.failed ≡ false
  pub under : IsCalmUnder server.under

-- what counts of it is the same
pub same_calm : (old new : Server) → new.phase ≡ old.phase → new.arming ≡ old.arming → new.failed ≡ old.failed → new.under ≡ old.under → IsCalm old → IsCalm new
same_calm old new phase arming failed under calm = record {
  lives = subst (λ p. IsTrue (is_off p || is_up p)) (sym phase) calm.lives;
  unarmed = arming ∙ calm.unarmed;
  well = failed ∙ calm.well;
  under = subst IsCalmUnder (sym under) calm.under;
}

-- its line is answered
pub answered_calm : (server : Server) → IsCalm server → IsCalm (record server { under = None })
answered_calm server calm = record { lives = calm.lives; unarmed = calm.unarmed; well = calm.well; under = tt }

-- ---- the next line

not_so : (b : Bool) → IsTrue (not b) → b ≡ false
not_so true h = absurd (false≢true h)
not_so false h = refl

pub found_calm : (passes : Line → Bool) (script : List Line) → IsTrue (is_calm script) → IsCalmNext (find passes script)
found_calm passes [] calm = tt
found_calm passes (line ∷ lines) calm = go (passes line) (found_calm passes lines (and_parts (not (is_stopping line)) (is_calm lines) calm).1)
  where
    go : (b : Bool) → IsCalmNext (find passes lines) → IsCalmNext (if b then Some line else find passes lines)
    go true rest = not_so (is_stopping line) (and_parts (not (is_stopping line)) (is_calm lines) calm).0
    go false rest = rest

pub begun_calm : (server : Server) (line : Option Line) → IsCalmNext line → IsCalm server → IsCalm (begun_line server line)
begun_calm server None next calm = calm
begun_calm server (Some line) next calm = go (operation_of line.what)
  where
    go : (operation : Option Op) → IsCalm (begun_with server line operation)
    go None = calm
    go (Some operation) = record { lives = calm.lives; unarmed = calm.unarmed; well = calm.well; under = next }

-- ---- the line under way

under_calm : (change : Under → Under) → ((u : Under) → (change u).line ≡ u.line) → (under : Option Under) → IsCalmUnder under → IsCalmUnder (option_map change under)
under_calm change same None calm = tt
under_calm change same (Some u) calm = ap is_stopping (same u) ∙ calm

pub changed_calm : (change : Under → Under) → ((u : Under) → (change u).line ≡ u.line) → (server : Server) → IsCalm server → IsCalm (with_under server change)
changed_calm change same server calm = record { lives = calm.lives; unarmed = calm.unarmed; well = calm.well; under = under_calm change same server.under calm.under }

pub fetched_calm : (a : ℕ) (at : Option Stage) (sector : ℕ) (block : Block) (server : Server) → IsCalm server → IsCalm (fetched_by a at sector block server)
fetched_calm a at sector block server calm = go (is_off server.phase) (cover_needed at sector)
  where
    go : (b : Bool) (cover : Option LockId) → IsCalm (if b then with_under server (slot_read a sector block) else cached_under server sector block cover)
    go true cover = changed_calm (slot_read a sector block) (λ u. refl) server calm
    go false None = calm
    go false (Some cover) = same_calm server (cached_under server sector block (Some cover)) refl refl refl refl calm

pub again_calm : (logs : LogRules) (at : Option Stage) (server : Server) → IsCalm server → IsCalm (again_by logs at server)
again_calm logs None server calm = calm
again_calm logs (Some (Asking need)) server calm = calm
again_calm logs (Some (Fetching needs)) server calm = calm
again_calm logs (Some Moving) server calm = changed_calm set_anew (λ u. refl) server calm
again_calm logs (Some Stopping) server calm = calm
again_calm logs (Some (Growing needs seen)) server calm = changed_calm (set_grown needs seen) (λ u. refl) server calm
again_calm logs (Some (Clearing block)) server calm = calm
again_calm logs (Some (Finishing outcome)) server calm = same_calm server (again_by logs (Some (Finishing outcome)) server) refl refl refl refl calm

-- ---- answers

module _ (c : Core) (a : ℕ) (under : Under) (server : Server) (calm : IsCalm server) where
  abbrev done : Op → Reply → Server
  done operation answer = record (answered_open c under server operation answer) { under = None }

  rest : IsCalm (record server { under = None })
  rest = answered_calm server calm

  mounted : (off failed read : Bool) (answer : Reply) → (if off then (if failed then Some reply.Io else due_if read reply.Mounted) else None) ≡ Some answer → IsCalm (done op.Mount answer)
  mounted false failed read answer e = absurd (none-some answer e)
  mounted true true read answer e = subst (λ x. IsCalm (done op.Mount x)) (same_Some reply.Io answer e) rest
  mounted true false false answer e = absurd (none-some answer e)
  mounted true false true answer e = subst (λ x. IsCalm (done op.Mount x)) (same_Some reply.Mounted answer e) (record { lives = refl; unarmed = refl; well = refl; under = tt })

  open_calm : (operation : Op) (answer : Reply) → stops operation ≡ false → own_answer c.setting.logs c.flights a server under operation ≡ Some answer → IsCalm (done operation answer)
  open_calm (op.Create path) answer goes e = rest
  open_calm (op.Mkdir path) answer goes e = rest
  open_calm (op.Link path to) answer goes e = rest
  open_calm (op.Symlink path target) answer goes e = rest
  open_calm (op.Unlink path) answer goes e = rest
  open_calm (op.Rmdir path) answer goes e = rest
  open_calm (op.Rename path to) answer goes e = rest
  open_calm (op.Write path off bytes) answer goes e = rest
  open_calm (op.Fill path off len byte) answer goes e = rest
  open_calm (op.Truncate path len) answer goes e = rest
  open_calm (op.Read path off len) answer goes e = rest
  open_calm (op.Stat path) answer goes e = rest
  open_calm (op.List path) answer goes e = rest
  open_calm (op.Readlink path) answer goes e = rest
  open_calm (op.Time path) answer goes e = rest
  open_calm op.Sync answer goes e = rest
  open_calm op.Mount answer goes e = mounted (is_off server.phase) under.get_failed (is_read c.setting.logs under.slots) answer e
  open_calm op.Unmount answer goes e = record { lives = refl; unarmed = refl; well = calm.well; under = tt }
  open_calm op.Crash answer goes e = rest
  open_calm (op.CrashAt k) answer goes e = absurd (false≢true (sym goes))
  open_calm (op.CutAt k) answer goes e = absurd (false≢true (sym goes))
  open_calm op.Stall answer goes e = absurd (false≢true (sym goes))

  fixed_calm : (b : Bool) → IsCalm (record (if b then record server { owes = false } else server) { under = None })
  fixed_calm true = record { lives = calm.lives; unarmed = calm.unarmed; well = calm.well; under = tt }
  fixed_calm false = rest

  pub answer_calm : (operation : Op) (answer : Reply) → stops operation ≡ false → (is_some under.fixed ≡ false → own_answer c.setting.logs c.flights a server under operation ≡ Some answer) →
      IsCalm (answered_by c under server operation answer)
  answer_calm operation answer goes own = go (is_some under.fixed) refl
    where
      go : (b : Bool) → is_some under.fixed ≡ b →
          IsCalm (record (if b then (if is_unmount operation && is_ok answer then record server { owes = false } else server) else answered_open c under server operation answer) { under = None })
      go true e = fixed_calm (is_unmount operation && is_ok answer)
      go false e = open_calm operation answer goes (own e)

-- ---- writes

pub acknowledged_calm : (sector : ℕ) (block : Block) (purpose : Purpose) (server : Server) → IsCalm server → IsCalm (acknowledged sector block purpose server)
acknowledged_calm sector block (OfLog number) server calm = same_calm server (acknowledged sector block (OfLog number) server) refl refl refl refl calm
acknowledged_calm sector block OfRecovery server calm = same_calm server (acknowledged sector block OfRecovery server) refl refl refl refl calm
acknowledged_calm sector block (InPlace cover) server calm = go (comes_clean server sector block)
  where
    go : (b : Bool) → IsCalm (if b then clean_now sector server else server)
    go true = same_calm server (clean_now sector server) refl refl refl refl calm
    go false = calm

pub wanting_calm : (server : Server) → IsCalm server → IsCalm (wanting_all_up server)
wanting_calm server calm = go (is_up server.phase)
  where
    go : (b : Bool) → IsCalm (if b then wanting_all server else server)
    go true = same_calm server (wanting_all server) refl refl refl refl calm
    go false = calm

-- ---- it isn't stopped

pub not_still : (phase : Phase) → IsTrue (is_off phase || is_up phase) → is_still phase ≡ false
not_still Off lives = refl
not_still Up lives = refl
not_still Still lives = absurd (false≢true lives)
not_still (Doomed fate) lives = refl
not_still Dead lives = refl

not_asked : (operation : Option Op) → asked_by stops operation ≡ false → asked_by is_crash operation ≡ false
not_asked None goes = refl
not_asked (Some operation) goes = (or_parts (is_crash operation) (calls_death operation || is_stall operation) goes).0

pub not_crashing : (under : Option Under) → IsCalmUnder under → is_open is_crash under ≡ false
not_crashing None calm = refl
not_crashing (Some u) calm = go (is_some u.fixed)
  where
    go : (b : Bool) → (not b && asked_by is_crash (operation_of u.line.what)) ≡ false
    go true = refl
    go false = not_asked (operation_of u.line.what) calm
