-- What an event adds to the figures of a record: one line of its kind, or none.
use Rattle.std.proofs.Common.{◌≡◌, ℕ, zero, suc, ◌+◌, ◌<◌, inl, inr, Bool, true, false, ◌&&◌, nat_lt, if◌then◌else◌, IsTrue, List, [], ◌∷◌, ◌++◌, length, Option, Some, None, refl, sym, ap, ◌∙◌, subst, arith, append-nil, length-append}
use Rattle.std.proofs.lemmas.Bool.{false≢true}
use Rattle.std.proofs.lemmas.Bool.Decides.{nat_tests}
use Rattle.std.specs.Prelude.{filter}
use Rattle.std.specs.Option.{IsSome}
use Rattle.std.specs.List.{slice_get}
use Rattle.std.proofs.lemmas.List.Elements.{filter-append, filter_map-append}
use Rattle.frang_base.specs.declared.reply.Reply.{Reply}
use Rattle.frang_base.specs.declared.said.Said.{Said}
use Rattle.frang_base.specs.declared.said.Said.TheVariants as said
use Rattle.tree_definitions.specs.Transcript.{is_node}
use Rattle.tree_definitions.specs.Apply.{is_path_op}
use Rattle.cache_definitions.specs.Caches.{Cache}
use Rattle.frang_board.specs.declared.figures.Figures.{Figures}
use Rattle.sector_bytes.specs.SectorMaps.{value_at}
use Rattle.core_definitions.specs.Cores.{Core, due_at, stage, tree_lines}
use Rattle.core_definitions.specs.Effects.{Deed, Made, Says, deeds_of, deeds_of_arrival, deeds_of_put, reply_by, says_answer, says_node, says_recovered}
use Rattle.core_definitions.specs.EndGuards.{is_recovery, is_through}
use Rattle.core_definitions.specs.Events.{Arrive, Heard, Written, Late, Nothing, Got, GetFailed, PutFailed}
use Rattle.core_definitions.specs.Flights.{Flight, Flights}
use Rattle.core_definitions.specs.Guards.{Can}
use Rattle.core_definitions.specs.LineGuards.{done_by}
use Rattle.core_definitions.specs.Lines.{Stage, Under, Finishing}
use Rattle.lock_definitions.specs.Locks.{Locks}
use Rattle.core_definitions.specs.Recoveries.{Recovery}
use Rattle.core_definitions.specs.Runs.{said_by, saids_of}
use Rattle.core_definitions.specs.Settings.{LogRules, Setting}
use Rattle.core_definitions.specs.Servers.{Server, asks, due_under, is_answering, is_up, stage_under}
use Rattle.hall_runs.specs.declared.event.Event.{Event as Named}
use Rattle.hall_runs.specs.declared.event.Event.TheVariants as event
use Rattle.hall_runs.specs.Asking.{event_of}
use Rattle.core_transcripts.proofs.Telling.{AreNodes, tree_nodes}
use Rattle.watched_hall.specs.declared.line.LineKind.{LineKind}
use Rattle.watched_hall.specs.declared.line.LineKind.TheVariants as line
use Rattle.watched_hall.specs.Counting.{counted, counted_if, figures_after, figures_in, figures_of, is_answer, is_dead, is_recovered, line_of}

-- ---- one line more

abbrev kind_of : Said → LineKind
kind_of (said.Answer server number reply) = line.Answer
kind_of (said.Dead server) = line.Dead
kind_of (said.Recovered server keeps) = line.Recovered
kind_of other = line.Other

abbrev one_if : Bool → ℕ
one_if true = 1
one_if false = 0

one_more : (p : Said → Bool) (x : Said) (b : Bool) → p x ≡ b → length (filter p (x ∷ [])) ≡ one_if b
one_more p x true e = rw e refl
one_more p x false e = rw e refl

count_push : (p : Said → Bool) (xs : List Said) (x : Said) → length (filter p (xs ++ x ∷ [])) ≡ length (filter p xs) + one_if (p x)
count_push p xs x =
    ap length (filter-append p xs (x ∷ [])) ∙ length-append (filter p xs) (filter p (x ∷ [])) ∙ ap (λ n. length (filter p xs) + n) (one_more p x (p x) refl)

same_count : (n a : ℕ) → n ≡ a + 0 → n ≡ a
same_count n a e = omega (arith, e)

module _ (xs : List Said) where
  abbrev By : Said → LineKind → Type 0
  By x kind = figures_of (xs ++ x ∷ []) ≡ counted (figures_of xs) kind

  all_more : (x : Said) → length (xs ++ x ∷ []) ≡ length xs + 1
  all_more x = length-append xs (x ∷ [])

  answer_more : (x : Said) → is_answer x ≡ true → is_dead x ≡ false → is_recovered x ≡ false → By x line.Answer
  answer_more x a d r = λ i. record {
    said = all_more x i;
    answered = (count_push is_answer xs x ∙ ap (λ b. length (filter is_answer xs) + one_if b) a) i;
    dead = same_count (length (filter is_dead (xs ++ x ∷ []))) (length (filter is_dead xs)) (count_push is_dead xs x ∙ ap (λ b. length (filter is_dead xs) + one_if b) d) i;
    recovered =
        same_count (length (filter is_recovered (xs ++ x ∷ []))) (length (filter is_recovered xs)) (count_push is_recovered xs x ∙ ap (λ b. length (filter is_recovered xs) + one_if b) r) i;
  }

  dead_more : (x : Said) → is_answer x ≡ false → is_dead x ≡ true → is_recovered x ≡ false → By x line.Dead
  dead_more x a d r = λ i. record {
    said = all_more x i;
    answered = same_count (length (filter is_answer (xs ++ x ∷ []))) (length (filter is_answer xs)) (count_push is_answer xs x ∙ ap (λ b. length (filter is_answer xs) + one_if b) a) i;
    dead = (count_push is_dead xs x ∙ ap (λ b. length (filter is_dead xs) + one_if b) d) i;
    recovered =
        same_count (length (filter is_recovered (xs ++ x ∷ []))) (length (filter is_recovered xs)) (count_push is_recovered xs x ∙ ap (λ b. length (filter is_recovered xs) + one_if b) r) i;
  }

  recovered_more : (x : Said) → is_answer x ≡ false → is_dead x ≡ false → is_recovered x ≡ true → By x line.Recovered
  recovered_more x a d r = λ i. record {
    said = all_more x i;
    answered = same_count (length (filter is_answer (xs ++ x ∷ []))) (length (filter is_answer xs)) (count_push is_answer xs x ∙ ap (λ b. length (filter is_answer xs) + one_if b) a) i;
    dead = same_count (length (filter is_dead (xs ++ x ∷ []))) (length (filter is_dead xs)) (count_push is_dead xs x ∙ ap (λ b. length (filter is_dead xs) + one_if b) d) i;
    recovered = (count_push is_recovered xs x ∙ ap (λ b. length (filter is_recovered xs) + one_if b) r) i;
  }

  other_more : (x : Said) → is_answer x ≡ false → is_dead x ≡ false → is_recovered x ≡ false → By x line.Other
  other_more x a d r = λ i. record {
    said = all_more x i;
    answered = same_count (length (filter is_answer (xs ++ x ∷ []))) (length (filter is_answer xs)) (count_push is_answer xs x ∙ ap (λ b. length (filter is_answer xs) + one_if b) a) i;
    dead = same_count (length (filter is_dead (xs ++ x ∷ []))) (length (filter is_dead xs)) (count_push is_dead xs x ∙ ap (λ b. length (filter is_dead xs) + one_if b) d) i;
    recovered =
        same_count (length (filter is_recovered (xs ++ x ∷ []))) (length (filter is_recovered xs)) (count_push is_recovered xs x ∙ ap (λ b. length (filter is_recovered xs) + one_if b) r) i;
  }

  line_more : (x : Said) → By x (kind_of x)
  line_more (said.Answer server number reply) = answer_more (said.Answer server number reply) refl refl refl
  line_more (said.Dead server) = dead_more (said.Dead server) refl refl refl
  line_more (said.Recovering server by) = other_more (said.Recovering server by) refl refl refl
  line_more (said.Recovered server keeps) = recovered_more (said.Recovered server keeps) refl refl refl
  line_more (said.Renewed server) = other_more (said.Renewed server) refl refl refl
  line_more (said.Node path kind size links) = other_more (said.Node path kind size links) refl refl refl
  line_more (said.Redo op) = other_more (said.Redo op) refl refl refl
  line_more (said.Backup number) = other_more (said.Backup number) refl refl refl
  line_more (said.Locks number) = other_more (said.Locks number) refl refl refl
  line_more (said.Shown text) = other_more (said.Shown text) refl refl refl
  line_more said.End = other_more said.End refl refl refl

-- ---- what an event says

-- no line, or one of this kind
abbrev AreLines : Option LineKind → List Deed → Type 0
AreLines None deeds = saids_of deeds ≡ []
AreLines (Some kind) deeds = (x : Said) × (deeds ≡ Says x ∷ []) × (kind_of x ≡ kind)

added : (deeds more : List Deed) (kind : Option LineKind) → AreLines kind more → figures_in (deeds ++ more) ≡ counted_if (figures_in deeds) kind
added deeds more None none = ap figures_of (filter_map-append said_by deeds more ∙ ap (λ l. saids_of deeds ++ l) none ∙ append-nil (saids_of deeds))
added deeds more (Some kind) one =
    ap (λ d. figures_in (deeds ++ d)) one.1 ∙ ap figures_of (filter_map-append said_by deeds (Says one.0 ∷ [])) ∙ line_more (saids_of deeds) one.0 ∙ ap (counted (figures_in deeds)) one.2

answer_line : (a : ℕ) (under : Option Under) (answer : Option Reply) → IsSome under → IsSome answer → AreLines (Some line.Answer) (says_answer a under answer)
answer_line a None answer u r = absurd (false≢true u)
answer_line a (Some under) None u r = absurd (false≢true r)
answer_line a (Some under) (Some answer) u r = (_, refl, refl)

reply_some : (at : Option Stage) → IsSome (done_by at) → IsSome (reply_by at)
reply_some None some = absurd (false≢true some)
reply_some (Some (Finishing outcome)) some = refl
reply_some (Some other) some = some

recovered_line : (c : Core) (recovery : Option Recovery) → IsTrue (is_recovery (is_through c) recovery) → AreLines (Some line.Recovered) (says_recovered c recovery)
recovered_line c None some = absurd (false≢true some)
recovered_line c (Some recovery) some = (_, refl, refl)

due_needs : (b : Bool) (logs : LogRules) (flights : Flights) (a : ℕ) (server : Server) (under : Option Under) → IsSome (if b then due_under logs flights a server under else None) → IsSome under
due_needs true logs flights a server None some = some
due_needs true logs flights a server (Some under) some = refl
due_needs false logs flights a server under some = absurd (false≢true some)

stage_needs : (b : Bool) (setting : Setting) (locks : Locks) (a : ℕ) (cache : Cache) (under : Option Under) → IsSome (done_by (if b then stage_under setting locks a cache under else None)) → IsSome under
stage_needs true setting locks a cache None some = some
stage_needs true setting locks a cache (Some under) some = refl
stage_needs false setting locks a cache under some = absurd (false≢true some)

node_line : (x : Said) → is_node x ≡ true → kind_of x ≡ line.Other
node_line (said.Answer server number reply) node = absurd (false≢true node)
node_line (said.Dead server) node = absurd (false≢true node)
node_line (said.Recovering server by) node = refl
node_line (said.Recovered server keeps) node = absurd (false≢true node)
node_line (said.Renewed server) node = refl
node_line (said.Node path kind size links) node = refl
node_line (said.Redo op) node = refl
node_line (said.Backup number) node = refl
node_line (said.Locks number) node = refl
node_line (said.Shown text) node = refl
node_line said.End node = refl

tree_line : (lines : List Said) (place : ℕ) → AreNodes lines → place < length lines → AreLines (Some line.Other) (says_node (slice_get lines place))
tree_line [] place nodes there = absurd (omega arith)
tree_line (x ∷ xs) zero nodes there = (x, refl, node_line x (nodes x (inl refl)))
tree_line (x ∷ xs) (suc place) nodes there = tree_line xs place (λ y i. nodes y (inr i)) (omega arith)

below_length : (place : ℕ) (lines : List Said) → IsTrue (nat_lt place (length lines)) → place < length lines
below_length place lines there = grind (arith, nat_tests, there)

arrival_line : (now : ℕ) (heard : Heard) (flight : Option Flight) → saids_of (deeds_of_arrival now heard flight) ≡ []
arrival_line now heard None = refl
arrival_line now Written (Some flight) = refl
arrival_line now Late (Some flight) = refl
arrival_line now Nothing (Some flight) = refl
arrival_line now (Got block) (Some flight) = refl
arrival_line now GetFailed (Some flight) = refl
arrival_line now (PutFailed new) (Some flight) = refl

event_line : (c : Core) (e : Named) (heard : Heard) → Can c (event_of e) → AreLines (line_of e) (deeds_of c (event_of e) heard)
event_line c (event.Begin a) heard can = refl
event_line c (event.Ask a lock mode) heard can = refl
event_line c (event.Fetch a sector) heard can = refl
event_line c (event.Again a) heard can = refl
event_line c (event.Clear a block) heard can = refl
event_line c (event.Commit a) heard can =
    let up = is_up (c.servers a.0).phase && asks is_path_op (c.servers a.0) in
    answer_line a.0 (c.servers a.0).under (reply_by (stage c a.0)) (stage_needs up c.setting c.locks a.0 (c.servers a.0).cache (c.servers a.0).under can.can.done) (reply_some (stage c a.0) can.can.done)
event_line c (event.Answer a) heard can =
    answer_line a.0 (c.servers a.0).under (due_at c a.0) (due_needs (is_answering (c.servers a.0).phase) c.setting.logs c.flights a.0 (c.servers a.0) (c.servers a.0).under can.can.due) can.can.due
event_line c (event.Give a lock) heard can = refl
event_line c (event.Issue a sector) heard can = refl
event_line c (event.Doom a) heard can = refl
event_line c (event.Resume a) heard can = (_, refl, refl)
event_line c (event.Arrive ticket) heard can = arrival_line c.now heard (value_at c.flights ticket.0)
event_line c (event.Lose ticket) heard can = refl
event_line c (event.Die a) heard can = (_, refl, refl)
event_line c (event.Renew a) heard can = refl
event_line c event.Tick heard can = refl
event_line c (event.Recover dead by) heard can = (_, refl, refl)
event_line c (event.Load by slot) heard can = refl
event_line c (event.Look by sector) heard can = refl
event_line c (event.Finish by) heard can = recovered_line c (c.servers by.0).recovery can.can.ended
event_line c (event.HostLine number) heard can = (_, refl, refl)
event_line c (event.Close a) heard can = refl
event_line c (event.Read sector) heard can = refl
event_line c (event.Show place) heard can = tree_line (tree_lines c) place (tree_nodes c.setting.segments c.read) (below_length place (tree_lines c) can.can.there)
event_line c event.End heard can = (_, refl, refl)

-- what an event makes of the figures of a record
pub event_counted : (c : Core) (e : Named) (heard : Heard) (deeds : List Deed) → Can c (event_of e) → figures_in (deeds ++ deeds_of c (event_of e) heard) ≡ figures_after (figures_in deeds) e
event_counted c e heard deeds can = added deeds (deeds_of c (event_of e) heard) (line_of e) (event_line c e heard can)

-- an arrival says nothing
pub arrival_counted : (c : Core) (ticket : ℕ) (heard : Heard) (deeds : List Deed) → figures_in (deeds ++ deeds_of c (Arrive ticket) heard) ≡ figures_in deeds
arrival_counted c ticket heard deeds = added deeds (deeds_of c (Arrive ticket) heard) None (arrival_line c.now heard (value_at c.flights ticket))
