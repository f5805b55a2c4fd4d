-- The lock that a line must ask next, read off its server's claims; and what a change of a claim makes of it.
use Rattle.std.proofs.Common.{◌≡◌, ℕ, Bool, true, false, not, ◌&&◌, cond, if◌then◌else◌, List, [], ◌∷◌, Option, Some, None, IsTrue, find, is_some, refl, sym, ap, ◌∙◌, subst}
use Rattle.std.proofs.lemmas.Bool.{false≢true}
use Rattle.std.proofs.lemmas.List.Sums.{take_while-cons}
use Rattle.std.specs.List.{list_any, take_while}
use Rattle.std.specs.Map.{lookup}
use Rattle.std.proofs.lemmas.Option.{none-some, same_Some}
use Rattle.frang_base.specs.declared.lock.LockId.{LockId}
use Rattle.frang_base.specs.declared.lock.Mode.{Mode}
use Rattle.frang_base.specs.declared.op.Op.{Op}
use Rattle.frang_base.specs.declared.script.Line.{Line}
use Rattle.lock_definitions.specs.declared.claim.Claim.{Claim}
use Rattle.lock_definitions.specs.Calls.{serves}
use Rattle.lock_definitions.specs.Locks.{Locks, claim_of, is_wished_in}
use Rattle.lock_definitions.specs.Order.{is_lock}
use Rattle.disk_definitions.specs.Ask.{Ask, Met}
use Rattle.disk_definitions.specs.Ask.Met.{Needs, Has}
use Rattle.disk_definitions.specs.Plans.{Lock, Plan}
use Rattle.disk_definitions.specs.Plans.Plan.{Lacks, Clears, Finishes}
use Rattle.tree_definitions.specs.Apply.{is_path_op}
use Rattle.cache_definitions.specs.Caches.{Cache}
use Rattle.set_definitions.specs.Seen.{Comparison, HasMoved, HasStopped, HasGoneThrough, SeenSectors, compared, seen_more}
use Rattle.core_definitions.specs.Lines.{Stage, Asking, Fetching, Moving, Stopping, Growing, Clearing, Finishing, Under, missing_bitmaps, needed_mode, needing, once_through, operation_of, or_grown, sole_segment, stage_asked, stage_by, stage_held, stage_over}
use Rattle.core_definitions.specs.Plans.{Sight, clear_needs, examined_in, finish_needs, nodes_looked_at, outcome_of, planned, program_of, sight_of}
use Rattle.core_definitions.specs.Servers.{Server, asked_by, asks, is_open, is_up, stage_of, stage_under, stage_with}
use Rattle.set_definitions.specs.Sets.{LockSet, has_lock, lacks, next_segment, to_ask}
use Rattle.core_definitions.specs.Settings.{Setting}

-- what a server has and wishes, by lock
abbrev pub Claiming : Type 0
Claiming = LockId → Claim

abbrev pub serves_need : Claiming → Lock → Bool
serves_need claim need = serves (claim need.0).held need.1

-- the least lock of the set that isn't held so
abbrev pub first_lacking : Claiming → LockSet → Option Lock
first_lacking claim set = find (λ need. not (serves_need claim need)) set

abbrev pub asked_under : Claiming → Option Under → Option Lock
asked_under claim None = None
asked_under claim (Some under) = first_lacking claim under.set

-- the lock that its line under way must ask next
abbrev pub asked_next : Claiming → Server → Option Lock
asked_next claim server = if is_up server.phase && asks is_path_op server then asked_under claim server.under else None

-- every noted wish is for that
abbrev pub Wishes : Claiming → Server → Type 0
Wishes claim server = (lock : LockId) (mode : Mode) → is_wished_in (claim lock) mode ≡ true → asked_next claim server ≡ Some (lock, mode)

-- ---- it is the lock of the stage

-- a stage that asks for no lock
abbrev IsPast : Stage → Type 0
IsPast (Asking need) = ⊥
IsPast (Fetching needs) = Unit {0}
IsPast Moving = Unit {0}
IsPast Stopping = Unit {0}
IsPast (Growing needs seen) = Unit {0}
IsPast (Clearing block) = Unit {0}
IsPast (Finishing outcome) = Unit {0}

through_past : (comparison : Comparison) (stage : Stage) → IsPast stage → IsPast (once_through comparison stage)
through_past HasGoneThrough stage p = p
through_past HasStopped stage p = tt
through_past HasMoved stage p = tt

grown_past : (set : LockSet) (needs : List Lock) (seen : SeenSectors) (stage : Stage) → IsPast stage → IsPast (or_grown set needs seen stage)
grown_past set needs seen stage p = go (list_any (lacks set) needs)
  where
    go : (b : Bool) → IsPast (if b then Growing needs seen else stage)
    go true = tt
    go false = p

needing_past : (comparison : Comparison) (set : LockSet) (seen : SeenSectors) (sector : ℕ) (cover : LockId) → IsPast (needing comparison set seen sector cover)
needing_past comparison set seen sector cover = go (has_lock set cover)
  where
    go : (b : Bool) → IsPast (if b then Fetching ((sector, cover) ∷ []) else once_through comparison (Growing ((cover, needed_mode cover) ∷ []) seen))
    go true = tt
    go false = through_past comparison (Growing ((cover, needed_mode cover) ∷ []) seen) tt

by_past : (setting : Setting) (line : Line) (operation : Op) (sight : Sight) (set : LockSet) (next : Option ℕ) (comparison : Comparison) (seen : SeenSectors) (nodes : List ℕ) (plan : Met Plan) →
    IsPast (stage_by setting line operation sight set next comparison seen nodes plan)
by_past setting line operation sight set next comparison seen nodes (Needs sector) = needing_past comparison set seen _ _
by_past setting line operation sight set next comparison seen nodes (Has Lacks) = through_past comparison (Growing (sole_segment next) seen) tt
by_past setting line operation sight set next comparison seen nodes (Has (Clears block locks)) =
    through_past comparison _ (grown_past set (clear_needs operation nodes sight block) seen (Clearing block) tt)
by_past setting line operation sight set next comparison seen nodes (Has (Finishes finish)) =
    through_past comparison _ (grown_past set (finish_needs nodes sight finish) seen (Finishing (outcome_of setting line nodes sight finish)) tt)

over_past : (setting : Setting) (under : Under) (operation : Op) (next : Option ℕ) (sight : Sight) (comparison : Comparison) (program : Ask Plan) →
    IsPast (stage_over setting under operation next sight comparison program)
over_past setting under operation next sight HasMoved program = tt
over_past setting under operation next sight HasStopped program =
    by_past setting under.line operation sight under.set next HasStopped (seen_more sight.cached under.seen (examined_in program sight)) (nodes_looked_at setting.segments program sight) (planned program sight)
over_past setting under operation next sight HasGoneThrough program =
    by_past setting under.line operation sight under.set next HasGoneThrough (seen_more sight.cached under.seen (examined_in program sight)) (nodes_looked_at setting.segments program sight) (planned program sight)

held_past : (setting : Setting) (locks : Locks) (server : ℕ) (cache : Cache) (under : Under) (operation : Op) (missing : List (ℕ × LockId)) →
    IsPast (stage_held setting locks server cache under operation missing)
held_past setting locks server cache under operation [] =
    over_past setting under operation (next_segment setting.segments locks server under.set) (sight_of setting.segments under.set cache)
    (compared under.seen (sight_of setting.segments under.set cache).cached) (program_of setting under.line operation (sight_of setting.segments under.set cache))
held_past setting locks server cache under operation (missing ∷ others) = tt

asks_for : (setting : Setting) (locks : Locks) (a : ℕ) (cache : Cache) (under : Under) (operation : Op) (found : Option Lock) (need : Lock) →
    stage_asked setting locks a cache under operation found ≡ Asking need → found ≡ Some need
asks_for setting locks a cache under operation (Some other) need e = ap need_of e
  where
    need_of : Stage → Option Lock
    need_of (Asking n) = Some n
    need_of (Fetching needs) = None
    need_of Moving = None
    need_of Stopping = None
    need_of (Growing needs seen) = None
    need_of (Clearing block) = None
    need_of (Finishing outcome) = None
asks_for setting locks a cache under operation None need e =
    absurd (subst IsPast e (held_past setting locks a cache under operation (missing_bitmaps under.set cache)))

-- where the stage asks for a lock, it is that one
pub stage_asks : (setting : Setting) (locks : Locks) (a : ℕ) (server : Server) (need : Lock) → stage_of setting locks a server ≡ Some (Asking need) →
    asked_next (claim_of locks a) server ≡ Some need
stage_asks setting locks a server need = go (is_up server.phase && asks is_path_op server) server.under
  where
    by : (under : Under) (operation : Option Op) → stage_with setting locks a server.cache under operation ≡ Some (Asking need) →
        first_lacking (claim_of locks a) under.set ≡ Some need
    by under None e = absurd (none-some (Asking need) e)
    by under (Some operation) e =
        asks_for setting locks a server.cache under operation (to_ask locks a under.set) need (same_Some (stage_asked setting locks a server.cache under operation (to_ask locks a under.set)) (Asking need) e)

    go : (b : Bool) (under : Option Under) → (if b then stage_under setting locks a server.cache under else None) ≡ Some (Asking need) →
        (if b then asked_under (claim_of locks a) under else None) ≡ Some need
    go false under e = absurd (none-some (Asking need) e)
    go true None e = absurd (none-some (Asking need) e)
    go true (Some under) e = by under (operation_of under.line.what) e

-- and where there is such a lock, the stage asks for it
pub asks_stage : (setting : Setting) (locks : Locks) (a : ℕ) (server : Server) (need : Lock) → asked_next (claim_of locks a) server ≡ Some need →
    stage_of setting locks a server ≡ Some (Asking need)
asks_stage setting locks a server need = go (is_up server.phase) server.under refl
  where
    by : (under : Under) (operation : Option Op) → IsTrue (asked_by is_path_op operation) → first_lacking (claim_of locks a) under.set ≡ Some need →
        stage_with setting locks a server.cache under operation ≡ Some (Asking need)
    by under None t e = absurd (false≢true t)
    by under (Some operation) t e = ap (λ found. Some (stage_asked setting locks a server.cache under operation found)) e

    open_line : (under : Under) (f : Bool) → is_some under.fixed ≡ f →
        (if not f && asked_by is_path_op (operation_of under.line.what) then first_lacking (claim_of locks a) under.set else None) ≡ Some need →
        (if not f && asked_by is_path_op (operation_of under.line.what) then stage_with setting locks a server.cache under (operation_of under.line.what) else None) ≡ Some (Asking need)
    open_line under true s e = absurd (none-some need e)
    open_line under false s e = asked (asked_by is_path_op (operation_of under.line.what)) refl e
      where
        asked : (b : Bool) → asked_by is_path_op (operation_of under.line.what) ≡ b →
            (if b then first_lacking (claim_of locks a) under.set else None) ≡ Some need →
            (if b then stage_with setting locks a server.cache under (operation_of under.line.what) else None) ≡ Some (Asking need)
        asked true t e = by under (operation_of under.line.what) t e
        asked false t e = absurd (none-some need e)

    go : (u : Bool) (under : Option Under) → server.under ≡ under →
        (if u && is_open is_path_op under then asked_under (claim_of locks a) under else None) ≡ Some need →
        (if u && is_open is_path_op under then stage_under setting locks a server.cache under else None) ≡ Some (Asking need)
    go false under s e = absurd (none-some need e)
    go true None s e = absurd (none-some need e)
    go true (Some under) s e = open_line under (is_some under.fixed) refl e

-- ---- changes of claims

find_same : (p q : Lock → Bool) → ((need : Lock) → p need ≡ q need) → (set : LockSet) → find p set ≡ find q set
find_same p q same [] = refl
find_same p q same (need ∷ needs) = (λ i. cond (same need i) (Some need) (find p needs)) ∙ ap (λ rest. cond (q need) (Some need) rest) (find_same p q same needs)

-- where the same is held, the same lock is asked next
pub held_same : (old new : Claiming) → ((lock : LockId) → (new lock).held ≡ (old lock).held) → (server : Server) → asked_next new server ≡ asked_next old server
held_same old new same server = go (is_up server.phase && asks is_path_op server) server.under
  where
    under_same : (under : Option Under) → asked_under new under ≡ asked_under old under
    under_same None = refl
    under_same (Some under) = find_same (λ need. not (serves_need new need)) (λ need. not (serves_need old need)) (λ need. ap (λ h. not (serves h need.1)) (same need.0)) under.set

    go : (b : Bool) (under : Option Under) → (if b then asked_under new under else None) ≡ (if b then asked_under old under else None)
    go true under = under_same under
    go false under = refl

-- the same claims by lock
pub wishes_same : (old new : Claiming) → ((lock : LockId) → new lock ≡ old lock) → (server : Server) → Wishes old server → Wishes new server
wishes_same old new same server w lock mode h =
    held_same old new (λ l. ap (λ c. c.held) (same l)) server ∙ w lock mode (ap (λ c. is_wished_in c mode) (sym (same lock)) ∙ h)

-- a lock that isn't among the held ones of the set is given up or held less, and the next one stays
pub next_stays : (lock : LockId) (old new : Lock → Bool) → ((need : Lock) → is_lock lock need.0 ≡ false → new need ≡ old need) →
    ((need : Lock) → old need ≡ false → new need ≡ false) → (set : LockSet) →
    has_lock (take_while old set) lock ≡ false → (need : Lock) → find (λ n. not (old n)) set ≡ Some need → find (λ n. not (new n)) set ≡ Some need
next_stays lock old new same less [] unused need e = e
next_stays lock old new same less (x ∷ xs) unused need e =
    go (old x) refl (subst (λ held. has_lock held lock ≡ false) (take_while-cons old x xs) unused) e (next_stays lock old new same less xs)
  where
    go : (b : Bool) → old x ≡ b → has_lock (cond b (x ∷ take_while old xs) []) lock ≡ false → cond (not b) (Some x) (find (λ n. not (old n)) xs) ≡ Some need →
        (has_lock (take_while old xs) lock ≡ false → (n : Lock) → find (λ n. not (old n)) xs ≡ Some n → find (λ n. not (new n)) xs ≡ Some n) →
        cond (not (new x)) (Some x) (find (λ n. not (new n)) xs) ≡ Some need
    go false s u e rest = ap (λ b. cond (not b) (Some x) (find (λ n. not (new n)) xs)) (less x s) ∙ e
    go true s u e rest = at (is_lock lock x.0) refl u
      where
        at : (b : Bool) → is_lock lock x.0 ≡ b → is_some (cond b (Some x.1) (lookup (is_lock lock) (take_while old xs))) ≡ false →
            cond (not (new x)) (Some x) (find (λ n. not (new n)) xs) ≡ Some need
        at true l u = absurd (false≢true (sym u))
        at false l u = ap (λ b. cond (not b) (Some x) (find (λ n. not (new n)) xs)) (same x l ∙ s) ∙ rest u need e
