-- Every event keeps it: who may have changed nothing since its mount, and began no recovery, has nothing to write.
use Rattle.std.proofs.Common.{ℕ, ◌≡◌, Bool, true, false, not, ◌&&◌, ◌||◌, if◌then◌else◌, IsTrue, is_some, List, Option, Some, None, refl, sym, ap, ◌∙◌, subst}
use Rattle.std.proofs.lemmas.Bool.{false≢true, eq-eqb, or_from, or_parts}
use Rattle.std.specs.Option.{option_map}
use Rattle.std.proofs.lemmas.Option.{same_Some}
use Rattle.frang_base.specs.declared.lock.LockId.{LockId}
use Rattle.frang_base.specs.declared.op.Op.{Op}
use Rattle.frang_base.specs.declared.op.What.TheVariants.{Server as OfServer}
use Rattle.frang_base.specs.declared.reply.Reply.{Reply}
use Rattle.frang_base.specs.declared.said.Said.TheVariants as said
use Rattle.frang_base.specs.declared.script.Line.{Line}
use Rattle.sector_bytes.specs.Blocks.{Block}
use Rattle.tree_definitions.specs.Apply.{is_path_op}
use Rattle.tree_definitions.specs.Live.{line_of}
use Rattle.tree_definitions.specs.Touched.{is_mounted}
use Rattle.tree_definitions.specs.Transcript.{asks_change, dirty_after, is_change_line, may_change}
use Rattle.cache_definitions.specs.Caches.{any_cached, is_dirty}
use Rattle.core_definitions.specs.Lines.{Stage, Asking, Fetching, Moving, Stopping, Growing, Clearing, Finishing, Under, operation_of, stage_at}
use Rattle.core_definitions.specs.Plans.{Outcome}
use Rattle.core_definitions.specs.Recoveries.{Recovery}
use Rattle.core_definitions.specs.Rings.{has_room, is_all_reached}
use Rattle.core_definitions.specs.Servers.{Server, asks, is_off, is_still, is_up, stage_under, stage_with, wanting_all, wanting_all_up}
use Rattle.core_definitions.specs.Writes.{lacks_room}
use Rattle.core_definitions.specs.Cores.{Core, stage}
use Rattle.core_definitions.specs.LineGuards.{CanAgain, is_grown, is_moved, is_oldest_in_place, may_reclaim}
use Rattle.core_definitions.specs.LineEffects.{again_by, begun_line, begun_with, cached_under, cleared_at, cover_needed, fetched_by, set_anew, set_grown, slot_read, with_under}
use Rattle.core_transcripts.proofs.Blank.{IsBlank, IsSpotless, Keeps, fetched_blank, is_changing}
use Rattle.core_transcripts.proofs.Happening.{server_asks}
use Rattle.core_transcripts.proofs.Staging.{HasNoChanges, StageLooks, stage_looks}

-- ---- servers that stay so

-- where a server that is spotless then was so before
keep : (d e : Bool) (old new : Server) (x y : Bool) → (IsSpotless e new → IsSpotless d old) → (IsBlank old x → IsBlank new y) → Keeps d old x → Keeps e new y
keep d e old new x y back on k = λ s. on (k (back s))

-- what counts for it is the same
pub kept : (d : Bool) (old new : Server) (x : Bool) → new.phase ≡ old.phase → is_changing new.under ≡ is_changing old.under → (IsBlank old x → IsBlank new x) → Keeps d old x → Keeps d new x
kept d old new x phase line on k =
    keep d d old new x x
    (λ s. record { mounted = subst (λ p. IsTrue (is_up p || is_still p)) phase s.mounted; clean_ = ap (λ l. d || l) (sym line) ∙ s.clean_ }) on k

-- it is neither up nor stalled
pub gone : (d : Bool) (new : Server) (x : Bool) → (is_up new.phase || is_still new.phase) ≡ false → Keeps d new x
gone d new x e s = absurd (false≢true (sym e ∙ s.mounted))

pub same_blank : (old new : Server) (x : Bool) → new.cache ≡ old.cache → new.ring ≡ old.ring → new.recovery ≡ old.recovery → IsBlank old x → IsBlank new x
same_blank old new x c r v b = record {
  cache = ap (λ z. any_cached is_dirty z) c ∙ b.cache;
  waiting = ap (λ z. z.waiting) r ∙ b.waiting;
  reached = ap is_all_reached r ∙ b.reached;
  recovery = v ∙ b.recovery;
  landed = b.landed;
}

changing_same : (change : Under → Under) → ((u : Under) → (change u).line ≡ u.line) → (o : Option Under) → is_changing (option_map change o) ≡ is_changing o
changing_same change same None = refl
changing_same change same (Some u) = ap (λ l. asks_change l.what) (same u)

pub under_kept : (d : Bool) (server : Server) (x : Bool) (change : Under → Under) → ((u : Under) → (change u).line ≡ u.line) → Keeps d server x → Keeps d (with_under server change) x
under_kept d server x change same k =
    kept d server (with_under server change) x refl (changing_same change same server.under) (same_blank server (with_under server change) x refl refl refl) k

cached_kept : (d : Bool) (server : Server) (x : Bool) (sector : ℕ) (block : Block) (cover : Option LockId) → Keeps d server x → Keeps d (cached_under server sector block cover) x
cached_kept d server x sector block None k = k
cached_kept d server x sector block (Some cover) k =
    kept d server (cached_under server sector block (Some cover)) x refl refl
    (λ b. record { cache = fetched_blank server.cache sector block cover b.cache; waiting = b.waiting; reached = b.reached; recovery = b.recovery; landed = b.landed }) k

pub fetched_kept : (d : Bool) (a : ℕ) (at : Option Stage) (sector : ℕ) (block : Block) (server : Server) (x : Bool) → Keeps d server x → Keeps d (fetched_by a at sector block server) x
fetched_kept d a at sector block server x k = go (is_off server.phase)
  where
    go : (b : Bool) → Keeps d (if b then with_under server (slot_read a sector block) else cached_under server sector block (cover_needed at sector)) x
    go true = under_kept d server x (slot_read a sector block) (λ u. refl) k
    go false = cached_kept d server x sector block (cover_needed at sector) k

pub wanting_kept : (d : Bool) (server : Server) (x : Bool) → Keeps d server x → Keeps d (wanting_all_up server) x
wanting_kept d server x k = go (is_up server.phase)
  where
    go : (b : Bool) → Keeps d (if b then wanting_all server else server) x
    go true = kept d server (wanting_all server) x refl refl (same_blank server (wanting_all server) x refl refl refl) k
    go false = k

pub recovery_kept : (d : Bool) (server : Server) (x : Bool) (change : Recovery → Recovery) → Keeps d server x → Keeps d (record server { recovery = option_map change server.recovery }) x
recovery_kept d server x change k =
    kept d server (record server { recovery = option_map change server.recovery }) x refl refl
    (λ b. record { cache = b.cache; waiting = b.waiting; reached = b.reached; recovery = ap (option_map change) b.recovery; landed = b.landed }) k

-- ---- a line begins

pub begun_kept : (d : Bool) (server : Server) (x : Bool) (line : Option Line) → IsTrue (not (is_some server.under)) → Keeps d server x → Keeps d (begun_line server line) x
begun_kept d server x None idle k = k
begun_kept d server x (Some line) idle k = go (operation_of line.what)
  where
    none : (o : Option Under) → IsTrue (not (is_some o)) → is_changing o ≡ false
    none None h = refl
    none (Some u) h = absurd (false≢true h)

    go : (o : Option Op) → Keeps d (begun_with server line o) x
    go None = k
    go (Some o) =
        keep d d server (begun_with server line (Some o)) x x
        (λ s. record { mounted = s.mounted; clean_ = or_from d (is_changing server.under) (or_parts d (asks_change line.what) s.clean_).0 (none server.under idle) })
        (same_blank server (begun_with server line (Some o)) x refl refl refl) k

-- ---- how far its line has come

pub record HasStage (c : Core) (a : ℕ) (at : Stage) : Type 0 where
  pub u : Under
  pub under : (c.servers a).under ≡ Some u
  pub operation : Op
  pub is : operation_of u.line.what ≡ Some operation
  pub stage_is : stage_at c.setting c.locks a (c.servers a).cache u operation ≡ at

if_stage : (b : Bool) (x : Option Stage) (s : Stage) → (if b then x else None) ≡ Some s → x ≡ Some s
if_stage true x s e = e
if_stage false x s e = absurd (cc)

pub stage_parts : (c : Core) (a : ℕ) (at : Stage) → stage c a ≡ Some at → HasStage c a at
stage_parts c a at e =
    by_under (c.servers a).under refl (if_stage (is_up (c.servers a).phase && asks is_path_op (c.servers a)) (stage_under c.setting c.locks a (c.servers a).cache (c.servers a).under) at e)
  where
    by_operation : (u : Under) → (c.servers a).under ≡ Some u → (o : Option Op) → operation_of u.line.what ≡ o → stage_with c.setting c.locks a (c.servers a).cache u o ≡ Some at → HasStage c a at
    by_operation u under None is e = absurd (cc)
    by_operation u under (Some o) is e = record { u = u; under = under; operation = o; is = is; stage_is = same_Some (stage_at c.setting c.locks a (c.servers a).cache u o) at e }

    by_under : (o : Option Under) → (c.servers a).under ≡ o → stage_under c.setting c.locks a (c.servers a).cache o ≡ Some at → HasStage c a at
    by_under None under e = absurd (cc)
    by_under (Some u) under e = by_operation u under (operation_of u.line.what) refl e

-- at a spotless server it is one of a look
pub looks_at : (c : Core) (a : ℕ) (at : Stage) (d : Bool) → HasStage c a at → (d || is_changing (c.servers a).under) ≡ false → StageLooks at
looks_at c a at d h e =
    subst StageLooks h.stage_is
    (stage_looks c.setting c.locks a (c.servers a).cache h.u h.operation (look (server_asks h.u.line.what h.operation h.is)))
  where
    quiet : is_changing (Some h.u) ≡ false
    quiet = subst (λ o. is_changing o ≡ false) h.under (or_parts d (is_changing (c.servers a).under) e).1

    look : h.u.line.what ≡ OfServer h.operation → may_change h.operation ≡ false
    look w = sym (ap asks_change w) ∙ quiet

pub cleared_kept : (c : Core) (a block : ℕ) (d : Bool) (x : Bool) → stage c a ≡ Some (Clearing block) → Keeps d (cleared_at block (c.servers a)) x
cleared_kept c a block d x e s = absurd (looks_at c a (Clearing block) d (stage_parts c a (Clearing block) e) s.clean_)

pub again_kept : (c : Core) (a : ℕ) (d : Bool) (x : Bool) → CanAgain c a → Keeps d (c.servers a) x → Keeps d (again_by c.setting.logs (stage c a) (c.servers a)) x
again_kept c a d x can k = go (stage c a) refl can.cause
  where
    lacks : (outcome : Outcome) → HasNoChanges outcome → IsTrue ((false || false) || (lacks_room c.setting.logs (c.servers a).ring (Some (Finishing outcome)) && is_oldest_in_place c.setting.logs (c.servers a))) → ⊥
    lacks outcome n h = false≢true (subst (λ o. IsTrue (not (has_room c.setting.logs (c.servers a).ring o) && is_oldest_in_place c.setting.logs (c.servers a))) n.redo h)

    go : (at : Option Stage) → stage c a ≡ at → IsTrue (is_moved at || is_grown at || may_reclaim c.setting.logs (c.servers a) at) → Keeps d (again_by c.setting.logs at (c.servers a)) x
    go None e h = k
    go (Some (Asking need)) e h = k
    go (Some (Fetching needs)) e h = k
    go (Some Moving) e h = under_kept d (c.servers a) x set_anew (λ u. refl) k
    go (Some Stopping) e h = k
    go (Some (Growing needs seen)) e h = under_kept d (c.servers a) x (set_grown needs seen) (λ u. refl) k
    go (Some (Clearing block)) e h = k
    go (Some (Finishing outcome)) e h = λ s. absurd (lacks outcome (looks_at c a (Finishing outcome) d (stage_parts c a (Finishing outcome) e) s.clean_) h)

-- ---- an answer is said

-- what may be dirty then
told_clean : (d m l : Bool) → m ≡ false → ((not m && (d || l)) || false) ≡ false → (d || l) ≡ false
told_clean d true l e h = absurd (false≢true (sym e))
told_clean true false l e h = absurd (false≢true (sym h))
told_clean false false true e h = absurd (false≢true (sym h))
told_clean false false false e h = refl

-- of a line that was under way, whose answer doesn't mount
pub said_clean : (script : List Line) (a : ℕ) (d : Bool) (u : Under) (r : Reply) → line_of script u.line.number ≡ Some u.line → is_mounted r ≡ false →
    (dirty_after script a d (said.Answer (record { 0 = a }) u.line.number r) || false) ≡ false → (d || is_changing (Some u)) ≡ false
said_clean script a d u r line m e =
    told_clean d (is_mounted r) (asks_change u.line.what) m
    (subst (λ o. ((not (is_mounted r) && (d || is_change_line o)) || false) ≡ false) line
    (subst (λ b. ((if b then not (is_mounted r) && (d || is_change_line (line_of script u.line.number)) else d) || false) ≡ false) (eq-eqb a a refl) e))
