-- Each event answers the next line of its party, or none.
use Rattle.std.proofs.Common.{◌≡◌, ℕ, zero, suc, ◌⊎◌, inl, inr, Bool, true, false, ◌&&◌, ◌==◌, ◌+◌, ◌%◌, if◌then◌else◌, List, [], ◌∷◌, ◌++◌, Option, Some, None, IsTrue, is_some, length, nat_eq, refl, sym, ap, ◌∙◌, subst, arith}
use Rattle.std.proofs.lemmas.Bool.{false≢true, eqb-true, eq-eqb}
use Rattle.std.proofs.lemmas.Bool.Decides.{nat_tests}
use Rattle.std.specs.List.{AllByRecursion, cons_option, flat_map, slice_get}
use Rattle.std.specs.Option.{option_map}
use Rattle.std.proofs.lemmas.Option.{same_Some}
use Rattle.frang_base.specs.Functions.{put}
use Rattle.frang_base.specs.declared.limits.TheConstants.{KIND_DIRECTORY, KIND_FILE, KIND_LINK, ROOT_INODE}
use Rattle.frang_base.specs.declared.lock.LockId.{LockId}
use Rattle.frang_base.specs.declared.op.Op.{Op}
use Rattle.frang_base.specs.declared.reply.Reply.{Reply}
use Rattle.frang_base.specs.declared.said.Said.{Said}
use Rattle.frang_base.specs.declared.said.Said.TheVariants as said
use Rattle.frang_base.specs.declared.script.Line.{Line}
use Rattle.disk_definitions.specs.Store.{Store, StoredNode, store_of}
use Rattle.lock_definitions.specs.declared.claim.AskedFor.{AskedFor}
use Rattle.lock_definitions.specs.declared.claim.AskedFor.TheVariants.{Release, Downgrade}
use Rattle.lock_definitions.specs.Calls.{asked_for}
use Rattle.sector_bytes.specs.Blocks.{Block}
use Rattle.sector_bytes.specs.SectorMaps.{value_at}
use Rattle.sector_bytes.specs.Sectors.{sectors_of}
use Rattle.tree_definitions.specs.Apply.{is_path_op}
use Rattle.tree_definitions.specs.TreeLines.{name_below, path_text}
use Rattle.core_definitions.specs.Settings.{LogRules}
use Rattle.core_definitions.specs.Flights.{Flight, InPlace, OfLog, OfRecovery, Purpose}
use Rattle.core_definitions.specs.Lines.{Stage, Asking, Fetching, Moving, Stopping, Growing, Clearing, Finishing, Under, operation_of}
use Rattle.core_definitions.specs.Recoveries.{Recovery}
use Rattle.core_definitions.specs.Scripts.{earlier_answered, host_party, hosts_answered, next_line}
use Rattle.core_definitions.specs.Servers.{Phase, Off, Up, Still, Doomed, Dead, Server, asks, is_off, is_up, stage_under, wanting_all, wanting_all_up}
use Rattle.core_definitions.specs.Trees.{entries_from, lines_at, lines_from, sorted_entries}
use Rattle.core_definitions.specs.Writes.{Write, comes_clean}
use Rattle.core_definitions.specs.Cores.{Core, clean_at, due_at, next_of, stage, tree_lines, writes}
use Rattle.core_definitions.specs.Events.{Event, Begin, Ask, Fetch, Again, Clear, Commit, Answer, Give, Issue, Doom, Resume, Arrive, Lose, Die, Renew, Tick, Recover, Load, Look, Finish, HostLine, Close, Read, Show, End, Heard, Nothing, Got, GetFailed, Written, Late, PutFailed}
use Rattle.core_definitions.specs.LineGuards.{CanBegin, is_line, is_server}
use Rattle.core_definitions.specs.EndGuards.{CanHost}
use Rattle.core_definitions.specs.LineEffects.{again_by, answered_under, answered_with, begun_line, begun_with, cached_under, call_failed, committed_at, cover_needed, fetch_failed, fetched_by, number_under, slot_read, with_under}
use Rattle.core_definitions.specs.WriteEffects.{acknowledged, arrived_as, arrived_from, clean_now, died_in, died_with, given_for, issued_as, landed, taken_in, under_at_death}
use Rattle.core_definitions.specs.EndEffects.{finished_from, host_answered_line, recovered}
use Rattle.core_definitions.specs.Effects.{after, deeds_of, deeds_of_arrival, reply_by, says_answer, says_node, says_recovered}
use Rattle.core_definitions.specs.Runs.{Makes, State}
use Rattle.core_laws.proofs.Flying.{Once}
use Rattle.core_transcripts.specs.Answers.{answer_said, answers_in, numbers_of}
use Rattle.core_transcripts.proofs.Places.{party_marked}
use Rattle.core_transcripts.proofs.AnswersTelling.{IsUnderWay, Keeps, Told, host_answers, line_of, quiet, server_answers, server_begins}

-- ---- lines under way that stay

pub put_keeps : (servers : ℕ → Server) (a : ℕ) (new : Server) → Keeps (servers a) new → (i : ℕ) → Keeps (servers i) (put servers a new i)
put_keeps servers a new k i = go (nat_eq i a) refl
  where
    same : nat_eq i a ≡ true → i ≡ a
    same e = grind (arith, nat_tests, e)

    go : (b : Bool) → nat_eq i a ≡ b → Keeps (servers i) (if b then new else servers i)
    go true e = subst (λ n. Keeps (servers n) new) (sym (same e)) k
    go false e = inl refl

others_keep : (servers : ℕ → Server) (a : ℕ) (new : Server) (i : ℕ) → (a ≡ i → ⊥) → Keeps (servers i) (put servers a new i)
others_keep servers a new i apart = go (nat_eq i a) refl
  where
    same : nat_eq i a ≡ true → a ≡ i
    same e = grind (arith, nat_tests, e)

    go : (b : Bool) → nat_eq i a ≡ b → Keeps (servers i) (if b then new else servers i)
    go true e = absurd (apart (same e))
    go false e = inl refl

put_here : (servers : ℕ → Server) (a : ℕ) (new : Server) → put servers a new a ≡ new
put_here servers a new = ap (λ b. if b then new else servers a) (eq-eqb a a refl)

with_under_keeps : (server : Server) (change : Under → Under) → ((u : Under) → (change u).line ≡ u.line) → Keeps server (with_under server change)
with_under_keeps server change same = inl (go server.under)
  where
    go : (under : Option Under) → option_map (λ u. u.line) (option_map change under) ≡ option_map (λ u. u.line) under
    go None = refl
    go (Some u) = ap Some (same u)

fetched_keeps : (a : ℕ) (at : Option Stage) (sector : ℕ) (block : Block) (server : Server) → Keeps server (fetched_by a at sector block server)
fetched_keeps a at sector block server = go (is_off server.phase) (cover_needed at sector)
  where
    go : (b : Bool) (cover : Option LockId) → Keeps server (if b then with_under server (slot_read a sector block) else cached_under server sector block cover)
    go true cover = with_under_keeps server (slot_read a sector block) (λ u. refl)
    go false None = inl refl
    go false (Some cover) = inl refl

again_keeps : (logs : LogRules) (at : Option Stage) (server : Server) → Keeps server (again_by logs at server)
again_keeps logs None server = inl refl
again_keeps logs (Some (Asking need)) server = inl refl
again_keeps logs (Some (Fetching needs)) server = inl refl
again_keeps logs (Some Moving) server = with_under_keeps server _ (λ u. refl)
again_keeps logs (Some Stopping) server = inl refl
again_keeps logs (Some (Growing needs seen)) server = with_under_keeps server _ (λ u. refl)
again_keeps logs (Some (Clearing block)) server = inl refl
again_keeps logs (Some (Finishing outcome)) server = inl refl

acknowledged_keeps : (sector : ℕ) (block : Block) (purpose : Purpose) (server : Server) → Keeps server (acknowledged sector block purpose server)
acknowledged_keeps sector block (OfLog number) server = inl refl
acknowledged_keeps sector block OfRecovery server = inl refl
acknowledged_keeps sector block (InPlace cover) server = go (comes_clean server sector block)
  where
    go : (b : Bool) → Keeps server (if b then clean_now sector server else server)
    go true = inl refl
    go false = inl refl

died_keeps : (server : Server) → (fate : _) → Keeps server (died_with fate server)
died_keeps server fate = inl (go server.under)
  where
    fixed : (u : Under) (b : Bool) (answer : Option Reply) → (if b then u else record u { fixed = answer }).line ≡ u.line
    fixed u true answer = refl
    fixed u false answer = refl

    go : (under : Option Under) → option_map (λ u. u.line) (option_map (under_at_death server.failed) under) ≡ option_map (λ u. u.line) under
    go None = refl
    go (Some u) = ap Some (fixed u (is_some u.fixed) _)

pub wanting_keeps : (server : Server) → Keeps server (wanting_all_up server)
wanting_keeps server = go (is_up server.phase)
  where
    go : (b : Bool) → Keeps server (if b then wanting_all server else server)
    go true = inl refl
    go false = inl refl

-- ---- deeds that answer nothing

recovered_mute : (c : Core) (recovery : Option Recovery) → answers_in (says_recovered c recovery) ≡ []
recovered_mute c None = refl
recovered_mute c (Some recovery) = refl

arrival_mute : (now : ℕ) (heard : Heard) (flight : Option Flight) → answers_in (deeds_of_arrival now heard flight) ≡ []
arrival_mute now heard None = refl
arrival_mute now Nothing (Some flight) = refl
arrival_mute now (Got block) (Some flight) = refl
arrival_mute now GetFailed (Some flight) = refl
arrival_mute now Written (Some flight) = refl
arrival_mute now Late (Some flight) = refl
arrival_mute now (PutFailed new) (Some flight) = refl

-- the lines of a tree are no answers
abbrev IsMute : Said → Type 0
IsMute line = answer_said line ≡ None

all_flat : {X : Type 0} (f : X → List Said) → ((x : X) → AllByRecursion IsMute (f x)) → (xs : List X) → AllByRecursion IsMute (flat_map f xs)
all_flat f each [] = tt
all_flat f each (x ∷ xs) = joined (f x) (flat_map f xs) (each x) (all_flat f each xs)
  where
    joined : (ys zs : List Said) → AllByRecursion IsMute ys → AllByRecursion IsMute zs → AllByRecursion IsMute (ys ++ zs)
    joined [] zs a b = b
    joined (y ∷ ys) zs a b = (a.0, joined ys zs a.1 b)

node_mute : (onward : List ℕ → ℕ → List Said) → ((text : List ℕ) (inode : ℕ) → AllByRecursion IsMute (onward text inode)) →
    (store : Store) (text : List ℕ) (node : Option StoredNode) →
    AllByRecursion IsMute (lines_at onward store text node)
node_mute onward each store text None = tt
node_mute onward each store text (Some node) = go (node.kind == KIND_DIRECTORY) (node.kind == KIND_FILE)
  where
    go : (d f : Bool) →
        AllByRecursion IsMute
        (if d
        then said.Node (path_text text) KIND_DIRECTORY node.size 0 ∷ flat_map (λ entry. onward (name_below text entry.0) entry.1) (sorted_entries (entries_from store node))
        else (if f then said.Node (path_text text) KIND_FILE node.size node.links ∷ [] else said.Node (path_text text) KIND_LINK node.size 0 ∷ []))
    go true f = (refl, all_flat (λ entry. onward (name_below text entry.0) entry.1) (λ entry. each (name_below text entry.0) entry.1) (sorted_entries (entries_from store node)))
    go false true = (refl, tt)
    go false false = (refl, tt)

tree_mute : (depth : ℕ) (store : Store) (text : List ℕ) (inode : ℕ) → AllByRecursion IsMute (lines_from depth store text inode)
tree_mute zero store text inode = tt
tree_mute (suc depth) store text inode = node_mute (lines_from depth store) (tree_mute depth store) store text (store.inode inode)

shown_mute : (lines : List Said) → AllByRecursion IsMute lines → (place : ℕ) → answers_in (says_node (slice_get lines place)) ≡ []
shown_mute [] all place = refl
shown_mute (line ∷ lines) all zero = ap (λ o. cons_option o []) all.0
shown_mute (line ∷ lines) all (suc place) = shown_mute lines all.1 place

-- ---- the events

-- nothing is answered
pub silent : (script : List Line) (c : Core) (answers more : List (ℕ × ℕ)) → more ≡ [] → Told script c answers → Told script c (answers ++ more)
silent script c answers more none t = subst (λ m. Told script c (answers ++ m)) (sym none) (subst (Told script c) (sym (append_none answers)) t)
  where
    append_none : (xs : List (ℕ × ℕ)) → xs ++ [] ≡ xs
    append_none [] = refl
    append_none (x ∷ xs) = ap (λ ys. x ∷ ys) (append_none xs)

module _ (script : List Line) (own : Once (numbers_of script)) where
  -- one server's line under way stays, or is none then
  steady : (c : Core) (answers : List (ℕ × ℕ)) (a : ℕ) (new : Server) → Keeps (c.servers a) new → Told script c answers →
      Told script (record c { servers = put c.servers a new }) answers
  steady c answers a new k t = quiet script c (record c { servers = put c.servers a new }) answers refl refl (put_keeps c.servers a new k) t

  -- neither the script, nor the marks, nor a server changes
  pub same : (c d : Core) (answers : List (ℕ × ℕ)) → d.setting.script ≡ c.setting.script → d.answered ≡ c.answered → d.servers ≡ c.servers →
      Told script c answers → Told script d answers
  same c d answers s m e t = quiet script c d answers s m (λ i. inl (ap (λ servers. line_of (servers i)) e)) t

  either : (test : Bool) (d e : Core) (answers : List (ℕ × ℕ)) → Told script d answers → Told script e answers → Told script (if test then d else e) answers
  either true d e answers k l = k
  either false d e answers k l = l

  failed_told : (c : Core) (answers : List (ℕ × ℕ)) (a : ℕ) → Told script c answers → Told script (call_failed c a) answers
  failed_told c answers a t = either (a == host_party) _ _ answers (same c _ answers refl refl refl t) (steady c answers a _ (inl refl) t)

  -- ---- Begin

  begun_told : (c : Core) (answers : List (ℕ × ℕ)) (a : ℕ) → CanBegin c a → Told script c answers → Told script (after c (Begin a) Nothing) answers
  begun_told c answers a can t =
      server_begins script c (after c (Begin a) Nothing) answers a refl refl (λ line e. begins (next_of c a) refl line (ap line_of (sym (put_here c.servers a _)) ∙ e)) (λ i apart. others_keep c.servers a _ i apart) t
    where
      begun : (l : Line) → next_of c a ≡ Some l → (operation : Option Op) → operation_of l.what ≡ operation → (line : Line) →
          line_of (begun_with (c.servers a) l operation) ≡ Some line →
          (line_of (c.servers a) ≡ Some line) ⊎ IsUnderWay script c.answered a line
      begun l e None o line f = inl f
      begun l e (Some operation) o line f = inr (subst (IsUnderWay script c.answered a) (same_Some l line f) (record {
        next = sym (ap (λ s. next_line s c.answered a) t.script_is) ∙ e;
        asked = ap is_some o;
        hosts = subst (λ s. IsTrue (hosts_answered s c.answered l.number)) t.script_is (subst (λ n. IsTrue (is_line (λ x. hosts_answered c.setting.script c.answered x.number) n)) e can.hosts);
      }))

      begins : (next : Option Line) → next_of c a ≡ next → (line : Line) → line_of (begun_line (c.servers a) next) ≡ Some line →
          (line_of (c.servers a) ≡ Some line) ⊎ IsUnderWay script c.answered a line
      begins None e line f = inl f
      begins (Some l) e line f = begun l e (operation_of l.what) refl line f

  -- ---- Commit and Answer

  committed_told : (c : Core) (answers : List (ℕ × ℕ)) (a : ℕ) (at : Option Stage) (under : Option Under) → IsTrue (is_server a) → stage c a ≡ at →
      (c.servers a).under ≡ under → Told script c answers →
      Told script (committed_at c a at) (answers ++ answers_in (says_answer a under (reply_by at)))
  committed_told c answers a None None server e u t = silent script c answers [] refl t
  committed_told c answers a None (Some under) server e u t = silent script c answers [] refl t
  committed_told c answers a (Some (Asking need)) None server e u t = silent script c answers [] refl t
  committed_told c answers a (Some (Asking need)) (Some under) server e u t = silent script c answers [] refl t
  committed_told c answers a (Some (Fetching needs)) None server e u t = silent script c answers [] refl t
  committed_told c answers a (Some (Fetching needs)) (Some under) server e u t = silent script c answers [] refl t
  committed_told c answers a (Some Moving) None server e u t = silent script c answers [] refl t
  committed_told c answers a (Some Moving) (Some under) server e u t = silent script c answers [] refl t
  committed_told c answers a (Some Stopping) None server e u t = silent script c answers [] refl t
  committed_told c answers a (Some Stopping) (Some under) server e u t = silent script c answers [] refl t
  committed_told c answers a (Some (Growing needs seen)) None server e u t = silent script c answers [] refl t
  committed_told c answers a (Some (Growing needs seen)) (Some under) server e u t = silent script c answers [] refl t
  committed_told c answers a (Some (Clearing block)) None server e u t = silent script c answers [] refl t
  committed_told c answers a (Some (Clearing block)) (Some under) server e u t = silent script c answers [] refl t
  committed_told c answers a (Some (Finishing outcome)) None server e u t = absurd (no_stage (is_up (c.servers a).phase && asks is_path_op (c.servers a)) staged)
    where
      staged : (if is_up (c.servers a).phase && asks is_path_op (c.servers a) then stage_under c.setting c.locks a (c.servers a).cache None else None) ≡ Some (Finishing outcome)
      staged = sym (ap (λ o. if is_up (c.servers a).phase && asks is_path_op (c.servers a) then stage_under c.setting c.locks a (c.servers a).cache o else None) u) ∙ e

      none_some : None ≡ Some (Finishing outcome) → ⊥
      none_some e = absurd (cc)

      no_stage : (b : Bool) → (if b then None else None) ≡ Some (Finishing outcome) → ⊥
      no_stage true e = none_some e
      no_stage false e = none_some e
  committed_told c answers a (Some (Finishing outcome)) (Some under) server e u t =
      server_answers script own c (committed_at c a (Some (Finishing outcome))) answers a under.line server (ap (option_map (λ x. x.line)) u) refl
      (ap (λ o. put c.answered (number_under o) true) u) (ap line_of (put_here c.servers a _)) (λ i apart. others_keep c.servers a _ i apart) t

  answered_told : (c : Core) (answers : List (ℕ × ℕ)) (a : ℕ) (under : Option Under) (answer : Option Reply) → IsTrue (is_server a) →
      (c.servers a).under ≡ under → Told script c answers →
      Told script (answered_under c a under answer) (answers ++ answers_in (says_answer a under answer))
  answered_told c answers a None None server u t = silent script c answers [] refl t
  answered_told c answers a None (Some answer) server u t = silent script c answers [] refl t
  answered_told c answers a (Some under) None server u t = silent script c answers [] refl t
  answered_told c answers a (Some under) (Some answer) server u t = go (operation_of under.line.what) refl
    where
      has : line_of (c.servers a) ≡ Some under.line
      has = ap (option_map (λ x. x.line)) u

      go : (operation : Option Op) → operation_of under.line.what ≡ operation →
          Told script (answered_with c a under answer operation) (answers ++ (a, under.line.number) ∷ [])
      go None o = absurd (false≢true (sym (ap is_some o) ∙ (t.under a server under.line has).asked))
      go (Some operation) o =
          server_answers script own c (answered_with c a under answer (Some operation)) answers a under.line server has refl refl (ap line_of (put_here c.servers a _))
          (λ i apart. others_keep c.servers a _ i apart) t

  -- ---- locks, writes and lives

  given_told : (c : Core) (answers : List (ℕ × ℕ)) (a : ℕ) (lock : LockId) (asked : Option AskedFor) → Told script c answers →
      Told script (given_for c a lock asked) answers
  given_told c answers a lock None t = t
  given_told c answers a lock (Some Downgrade) t = same c _ answers refl refl refl t
  given_told c answers a lock (Some Release) t = quiet script c _ answers refl refl (put_keeps c.servers a _ (inl refl)) t

  issued_told : (c : Core) (answers : List (ℕ × ℕ)) (a sector : ℕ) (write : Option Write) → Told script c answers →
      Told script (issued_as c a sector write) answers
  issued_told c answers a sector None t = t
  issued_told c answers a sector (Some write) t = quiet script c _ answers refl refl (put_keeps c.servers a _ (inl refl)) t

  taken_told : (c : Core) (answers : List (ℕ × ℕ)) (flight : Flight) → Told script c answers → Told script (taken_in c flight) answers
  taken_told c answers flight t =
      either flight.present _ _ answers (steady c answers flight.server _ (acknowledged_keeps flight.sector flight.block flight.purpose (c.servers flight.server)) t) t

  arrived_as_told : (c : Core) (answers : List (ℕ × ℕ)) (flight : Flight) (heard : Heard) → Told script c answers →
      Told script (arrived_as c flight heard) answers
  arrived_as_told c answers flight Nothing t = t
  arrived_as_told c answers flight (Got block) t = t
  arrived_as_told c answers flight GetFailed t = t
  arrived_as_told c answers flight Written t = taken_told c answers flight t
  arrived_as_told c answers flight Late t = t
  arrived_as_told c answers flight (PutFailed new) t = failed_told c answers flight.server t

  landed_told : (c : Core) (answers : List (ℕ × ℕ)) (ticket : ℕ) → Told script c answers → Told script (landed c ticket) answers
  landed_told c answers ticket t = same c (landed c ticket) answers refl refl refl t

  arrived_told : (c : Core) (answers : List (ℕ × ℕ)) (ticket : ℕ) (heard : Heard) (flight : Option Flight) → Told script c answers →
      Told script (arrived_from c ticket heard flight) answers
  arrived_told c answers ticket heard None t = t
  arrived_told c answers ticket heard (Some flight) t = arrived_as_told (landed c ticket) answers flight heard (landed_told c answers ticket t)

  died_told : (c : Core) (answers : List (ℕ × ℕ)) (a : ℕ) (phase : Phase) → Told script c answers → Told script (died_in c a phase) answers
  died_told c answers a Off t = t
  died_told c answers a Up t = t
  died_told c answers a Still t = t
  died_told c answers a (Doomed fate) t = quiet script c _ answers refl refl (put_keeps c.servers a _ (died_keeps (c.servers a) fate)) t
  died_told c answers a Dead t = t

  ticked_told : (c : Core) (answers : List (ℕ × ℕ)) → Told script c answers → Told script (after c Tick Nothing) answers
  ticked_told c answers t = quiet script c (after c Tick Nothing) answers refl refl (λ i. go i ((c.now + 1) % c.setting.flush_ticks == 0)) t
    where
      go : (i : ℕ) (b : Bool) → Keeps (c.servers i) (if b then wanting_all_up (c.servers i) else c.servers i)
      go i true = wanting_keeps (c.servers i)
      go i false = inl refl

  -- ---- recoveries and the end

  finished_told : (c : Core) (answers : List (ℕ × ℕ)) (by : ℕ) (recovery : Option Recovery) → Told script c answers →
      Told script (finished_from c by recovery) answers
  finished_told c answers by None t = t
  finished_told c answers by (Some recovery) t =
      quiet script rid (finished_from c by (Some recovery)) answers refl refl (put_keeps rid.servers recovery.dead _ (dead_keeps recovery.dead)) (steady c answers by (record (c.servers by) { recovery = None }) (inl refl) t)
    where
      rid : Core
      rid = record c { servers = put c.servers by (record (c.servers by) { recovery = None }) }

      dead_keeps : (dead : ℕ) → Keeps (rid.servers dead) (recovered (c.servers dead))
      dead_keeps dead = go (nat_eq dead by) refl
        where
          same_server : nat_eq dead by ≡ true → dead ≡ by
          same_server e = grind (arith, nat_tests, e)

          go : (b : Bool) → nat_eq dead by ≡ b → Keeps (if b then record (c.servers by) { recovery = None } else c.servers dead) (recovered (c.servers dead))
          go true e = inl (ap (λ n. line_of (c.servers n)) (same_server e))
          go false e = inl refl

  host_told : (c : Core) (answers : List (ℕ × ℕ)) (number : ℕ) (line : Option Line) → CanHost c number → next_of c host_party ≡ line → Told script c answers →
      Told script (host_answered_line c line) (answers ++ (host_party, number) ∷ [])
  host_told c answers number None can e t = absurd (false≢true (subst (λ l. IsTrue (is_line (λ x. x.number == number) l)) e can.next))
  host_told c answers number (Some line) can e t =
      subst (λ n. Told script (host_answered_line c (Some line)) (answers ++ (host_party, n) ∷ [])) is_number
      (host_answers script own c (host_answered_line c (Some line)) answers line (sym (ap (λ s. next_line s c.answered host_party) t.script_is) ∙ e) earlier
      (party_marked c.answered host_party line.number script earlier) refl refl (λ i. inl refl) t)
    where
      is_number : line.number ≡ number
      is_number = eqb-true line.number number (subst (λ l. IsTrue (is_line (λ x. x.number == number) l)) e can.next)

      earlier : IsTrue (earlier_answered script c.answered line.number)
      earlier = subst (λ n. IsTrue (earlier_answered script c.answered n)) (sym is_number) (subst (λ s. IsTrue (earlier_answered s c.answered number)) t.script_is can.earlier)

  fetch_failed_told : (c : Core) (answers : List (ℕ × ℕ)) (a : ℕ) → Told script c answers → Told script (fetch_failed c a) answers
  fetch_failed_told c answers a t = either (is_off (c.servers a).phase) _ _ answers (steady c answers a _ (with_under_keeps (c.servers a) _ (λ u. refl)) t) (failed_told c answers a t)

  fetch_told : (c : Core) (answers : List (ℕ × ℕ)) (a sector : ℕ) (heard : Heard) → Told script c answers → Told script (after c (Fetch a sector) heard) answers
  fetch_told c answers a sector (Got block) t = steady c answers a _ (fetched_keeps a (stage c a) sector block (c.servers a)) t
  fetch_told c answers a sector Nothing t = fetch_failed_told c answers a t
  fetch_told c answers a sector GetFailed t = fetch_failed_told c answers a t
  fetch_told c answers a sector Written t = fetch_failed_told c answers a t
  fetch_told c answers a sector Late t = fetch_failed_told c answers a t
  fetch_told c answers a sector (PutFailed new) t = fetch_failed_told c answers a t

  load_told : (c : Core) (answers : List (ℕ × ℕ)) (by slot : ℕ) (heard : Heard) → Told script c answers → Told script (after c (Load by slot) heard) answers
  load_told c answers by slot (Got block) t = steady c answers by _ (inl refl) t
  load_told c answers by slot Nothing t = failed_told c answers by t
  load_told c answers by slot GetFailed t = failed_told c answers by t
  load_told c answers by slot Written t = failed_told c answers by t
  load_told c answers by slot Late t = failed_told c answers by t
  load_told c answers by slot (PutFailed new) t = failed_told c answers by t

  look_told : (c : Core) (answers : List (ℕ × ℕ)) (by sector : ℕ) (heard : Heard) → Told script c answers → Told script (after c (Look by sector) heard) answers
  look_told c answers by sector (Got block) t = steady c answers by _ (inl refl) t
  look_told c answers by sector Nothing t = failed_told c answers by t
  look_told c answers by sector GetFailed t = failed_told c answers by t
  look_told c answers by sector Written t = failed_told c answers by t
  look_told c answers by sector Late t = failed_told c answers by t
  look_told c answers by sector (PutFailed new) t = failed_told c answers by t

  read_told : (c : Core) (answers : List (ℕ × ℕ)) (sector : ℕ) (heard : Heard) → Told script c answers → Told script (after c (Read sector) heard) answers
  read_told c answers sector (Got block) t = same c _ answers refl refl refl t
  read_told c answers sector Nothing t = failed_told c answers host_party t
  read_told c answers sector GetFailed t = failed_told c answers host_party t
  read_told c answers sector Written t = failed_told c answers host_party t
  read_told c answers sector Late t = failed_told c answers host_party t
  read_told c answers sector (PutFailed new) t = failed_told c answers host_party t

  close_told : (c : Core) (answers : List (ℕ × ℕ)) (a : ℕ) → Told script c answers → Told script (after c (Close a) Nothing) answers
  close_told c answers a t = either (clean_at c a) _ _ answers (quiet script c _ answers refl refl (put_keeps c.servers a _ (inr refl)) t) (steady c answers a (wanting_all (c.servers a)) (inl refl) t)

  pub event_told : (s : State) (event : Event) (heard : Heard) (answers : List (ℕ × ℕ)) → Makes s event heard → Told script s.core answers →
      Told script (after s.core event heard) (answers ++ answers_in (deeds_of s.core event heard))
  event_told s (Begin a) heard answers m t = silent script _ answers [] refl (begun_told s.core answers a m.can.can t)
  event_told s (Ask a lock mode) heard answers m t = silent script _ answers [] refl (same s.core _ answers refl refl refl t)
  event_told s (Fetch a sector) heard answers m t = silent script _ answers [] refl (fetch_told s.core answers a sector heard t)
  event_told s (Again a) heard answers m t = silent script _ answers [] refl (steady s.core answers a _ (again_keeps s.core.setting.logs (stage s.core a) (s.core.servers a)) t)
  event_told s (Clear a block) heard answers m t = silent script _ answers [] refl (steady s.core answers a _ (inl refl) t)
  event_told s (Commit a) heard answers m t = committed_told s.core answers a (stage s.core a) (s.core.servers a).under m.can.can.server refl refl t
  event_told s (Answer a) heard answers m t = answered_told s.core answers a (s.core.servers a).under (due_at s.core a) m.can.can.server refl t
  event_told s (Give a lock) heard answers m t = silent script _ answers [] refl (given_told s.core answers a lock (asked_for s.core.locks a lock) t)
  event_told s (Issue a sector) heard answers m t = silent script _ answers [] refl (issued_told s.core answers a sector (value_at (writes s.core a) sector) t)
  event_told s (Doom a) heard answers m t = silent script _ answers [] refl (steady s.core answers a _ (inl refl) t)
  event_told s (Resume a) heard answers m t = silent script _ answers [] refl (quiet script s.core _ answers refl refl (put_keeps s.core.servers a _ (inl refl)) t)
  event_told s (Arrive ticket) heard answers m t =
      silent script _ answers _ (arrival_mute s.core.now heard (value_at s.core.flights ticket)) (arrived_told s.core answers ticket heard (value_at s.core.flights ticket) t)
  event_told s (Lose ticket) heard answers m t = silent script _ answers [] refl (landed_told s.core answers ticket t)
  event_told s (Die a) heard answers m t = silent script _ answers [] refl (died_told s.core answers a (s.core.servers a).phase t)
  event_told s (Renew a) heard answers m t = silent script _ answers [] refl (quiet script s.core _ answers refl refl (put_keeps s.core.servers a _ (inl refl)) t)
  event_told s Tick heard answers m t = silent script _ answers [] refl (ticked_told s.core answers t)
  event_told s (Recover dead by) heard answers m t = silent script _ answers [] refl (quiet script s.core _ answers refl refl (put_keeps s.core.servers by _ (inl refl)) t)
  event_told s (Load by slot) heard answers m t = silent script _ answers [] refl (load_told s.core answers by slot heard t)
  event_told s (Look by sector) heard answers m t = silent script _ answers [] refl (look_told s.core answers by sector heard t)
  event_told s (Finish by) heard answers m t =
      silent script _ answers _ (recovered_mute s.core (s.core.servers by).recovery) (finished_told s.core answers by (s.core.servers by).recovery t)
  event_told s (HostLine number) heard answers m t = host_told s.core answers number (next_of s.core host_party) m.can.can refl t
  event_told s (Close a) heard answers m t = silent script _ answers [] refl (close_told s.core answers a t)
  event_told s (Read sector) heard answers m t = silent script _ answers [] refl (read_told s.core answers sector heard t)
  event_told s (Show place) heard answers m t =
      silent script _ answers _ (shown_mute (tree_lines s.core) (tree_mute (length s.core.read) (store_of s.core.setting.segments (sectors_of s.core.read)) [] ROOT_INODE) place) (same s.core _ answers refl refl refl t)
  event_told s End heard answers m t = silent script _ answers [] refl (same s.core _ answers refl refl refl t)
