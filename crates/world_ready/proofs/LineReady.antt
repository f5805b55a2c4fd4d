-- What is made ready for a server's line is for its event.
use Rattle.std.proofs.Common.{ℕ, ◌≡◌, ◌<◌, Bool, true, false, not, ◌||◌, if◌then◌else◌, Option, Some, None, is_some, IsTrue, List, refl, sym, ap, ◌∙◌}
use Rattle.std.specs.Prelude.{◌↔◌}
use Rattle.std.proofs.lemmas.Bool.{false≢true, lt-ltb, ltb-true}
use Rattle.frang_base.specs.declared.limits.TheConstants.{SERVERS}
use Rattle.frang_base.specs.declared.lock.LockId.{LockId}
use Rattle.frang_base.specs.declared.lock.Mode.{Mode}
use Rattle.frang_base.specs.declared.reply.Reply.{Reply}
use Rattle.frang_base.specs.declared.said.Said.TheVariants as said
use Rattle.frang_base.specs.declared.sector.ServerId.{ServerId}
use Rattle.tree_definitions.specs.SaidLines.{said_line}
use Rattle.disk_definitions.specs.Plans.{Lock}
use Rattle.lock_definitions.specs.Calls.{is_free}
use Rattle.lock_definitions.specs.Locks.{Locks, is_wished}
use Rattle.lock_table.specs.Table.{HasRoom}
use Rattle.core_definitions.specs.Calls.{Say}
use Rattle.core_definitions.specs.Cores.{Core, due_at, stage}
use Rattle.core_definitions.specs.Effects.{reply_by}
use Rattle.core_definitions.specs.Events.{Begin, Ask, Again, Clear, Commit, Answer}
use Rattle.core_definitions.specs.LineEffects.{number_under}
use Rattle.core_definitions.specs.LineGuards.{CanAgain, CanAsk, CanBegin, CanClear, CanCommit, done_by, is_server, may_again, may_begin, may_commit}
use Rattle.core_definitions.specs.Flights.{Flights}
use Rattle.core_definitions.specs.Lines.{Stage, Asking, Fetching, Moving, Stopping, Growing, Clearing, Finishing, Under}
use Rattle.core_definitions.specs.Plans.{Outcome}
use Rattle.core_definitions.specs.Servers.{Server, due, due_under, is_answering, is_in_mount}
use Rattle.core_definitions.specs.Settings.{LogRules}
use Rattle.core_laws.proofs.Guarding.{again_can, again_may, begin_can, begin_may, commit_can, commit_may}
use Rattle.hall_runs.specs.declared.event.Call.TheVariants as call
use Rattle.line_stages.specs.Agains.{IsAgain, IsFirstWhereAnew}
use Rattle.line_stages.specs.Stages.{ComesTo, Finishes, asked_next, cleared_next}
use Rattle.line_stages.specs.declared.again.Again.{Again as TheAgain}
use Rattle.server_core.specs.Phases.{reply_of}
use Rattle.server_core.specs.States.{UnderState}
use Rattle.server_core.specs.declared.answers.PlainAnswer.{PlainAnswer}
use Rattle.wal_ring.specs.SpaciousRings.{SpaciousRing}
use Rattle.world_parties.specs.States.{plan_at}
use Rattle.world_state.specs.Begins.{Begins}
use Rattle.world_state.specs.Rooms.{HasClearRoom, HasCommitRoom, IsMountRing, IsNextLine}
use Rattle.world_state.specs.States.{State, core_at}
use Rattle.world_ready.specs.Making.{IsMadeOf, with_tree}
use Rattle.world_ready.specs.declared.kinds.Ready.TheVariants as ready
use Rattle.world_ready.proofs.Mounted.{staged_has_line, staged_is_up, up_is_mounted}
use Rattle.world_ready.proofs.Saying.{replies, says}

-- ---- Begin

module _ (s : State) (a : ServerId) where
  pub begins_not : may_begin (core_at s) a.0 ≡ false → IsMadeOf (core_at s) s (Begin a.0) None
  begins_not bars tree can = false≢true (sym bars ∙ begin_may (with_tree (core_at s) tree) a.0 can)

  pub begins : (under : UnderState) → may_begin (core_at s) a.0 ≡ true → Begins s a.0 under.under → IsMadeOf (core_at s) s (Begin a.0) (Some (record { ready = ready.Begin a under; call = call.Nothing }))
  begins under may begun tree =
      let can : CanBegin (with_tree (core_at s) tree) a.0 = begin_can (with_tree (core_at s) tree) a.0 may in
      record { event = refl; can = can; asks = refl; may = record { server = ltb-true a.0 SERVERS can.server; begins = begun } }

-- ---- Ask

-- what a line asks for next is what it may ask for
asked_is : (locks : Locks) (a : ℕ) (at : Option Stage) (need : Lock) → at ≡ Some (Asking need) → IsTrue (not (is_wished locks a need.0 need.1) || is_free locks a need.0 need.1) → asked_next locks a at ≡ Some need
asked_is locks a at need is new = ap (asked_next locks a) is ∙ ap (λ (b : Bool). if b then Some need else None) new

module _ (c : Core) (a : ℕ) (lock : LockId) (mode : Mode) where
  pub asks_for : CanAsk c a lock mode → asked_next c.locks a (stage c a) ≡ Some (lock, mode)
  asks_for can = asked_is c.locks a (stage c a) (lock, mode) can.least can.new

  pub asks_this : is_server a ≡ true → asked_next c.locks a (stage c a) ≡ Some (lock, mode) → CanAsk c a lock mode
  asks_this small is = go (stage c a) refl is
    where
      go : (at : Option Stage) → stage c a ≡ at → asked_next c.locks a at ≡ Some (lock, mode) → CanAsk c a lock mode
      go None at_is is = absurd (cc)
      go (Some (Asking need)) at_is is = by_need need (not (is_wished c.locks a need.0 need.1) || is_free c.locks a need.0 need.1) refl at_is is
        where
          by_need : (need : Lock) (new : Bool) → (not (is_wished c.locks a need.0 need.1) || is_free c.locks a need.0 need.1) ≡ new → stage c a ≡ Some (Asking need) → (if new then Some need else None) ≡ Some (lock, mode) → CanAsk c a lock mode
          by_need need false new_is at_is is = absurd (cc)
          by_need need true new_is at_is is =
              let same : need ≡ (lock, mode) = cc in
              record {
                server = small;
                least = at_is ∙ ap (λ (n : Lock). Some (Asking n)) same;
                new = ap (λ (n : Lock). not (is_wished c.locks a n.0 n.1) || is_free c.locks a n.0 n.1) (sym same) ∙ new_is;
              }
      go (Some (Fetching needs)) at_is is = absurd (cc)
      go (Some Moving) at_is is = absurd (cc)
      go (Some Stopping) at_is is = absurd (cc)
      go (Some (Growing needs seen)) at_is is = absurd (cc)
      go (Some (Clearing block)) at_is is = absurd (cc)
      go (Some (Finishing outcome)) at_is is = absurd (cc)

  pub asks_other : (need : Lock) → asked_next c.locks a (stage c a) ≡ Some need → (need ≡ (lock, mode) → ⊥) → CanAsk c a lock mode → ⊥
  asks_other need is other can = other (let same : Some need ≡ Some (lock, mode) = sym is ∙ asks_for can in cc)

  pub asks_none : asked_next c.locks a (stage c a) ≡ None → CanAsk c a lock mode → ⊥
  asks_none is can = absurd (cc (sym is ∙ asks_for can))

  -- by whether what it asks for next is this
  pub asks_so : (need : Lock) (same : Bool) → is_server a ≡ true → asked_next c.locks a (stage c a) ≡ Some need → (same ≡ true → need ≡ (lock, mode)) → (same ≡ false → need ≡ (lock, mode) → ⊥)
      → IsTrue same ↔ CanAsk c a lock mode
  asks_so need true small is one _ = (λ true_is. asks_this small (is ∙ ap (λ (n : Lock). Some n) (one true_is)), λ can. refl)
  asks_so need false small is _ apart = (λ false_is. absurd (false≢true false_is), λ can. absurd (asks_other need is (apart refl) can))

  pub asks_never : asked_next c.locks a (stage c a) ≡ None → IsTrue false ↔ CanAsk c a lock mode
  asks_never is = (λ false_is. absurd (false≢true false_is), λ can. absurd (asks_none is can))

module _ (c : Core) (s : State) (a : ServerId) (lock : LockId) (mode : Mode) where
  pub asks_not : (CanAsk c a.0 lock mode → ⊥) → IsMadeOf c s (Ask a.0 lock mode) None
  asks_not bars tree can = bars (record { server = can.server; least = can.least; new = can.new })

  pub asks : CanAsk c a.0 lock mode → HasRoom s.locks a.0 lock → IsMadeOf c s (Ask a.0 lock mode) (Some (record { ready = ready.Ask a lock mode; call = call.Nothing }))
  asks can room tree = record {
    event = refl;
    can = record { server = can.server; least = can.least; new = can.new };
    asks = refl;
    may = record { server = ltb-true a.0 SERVERS can.server; room = room };
  }

-- ---- Again

module _ (c : Core) (s : State) (a : ServerId) where
  pub agains_not : may_again c a.0 (stage c a.0) ≡ false → IsMadeOf c s (Again a.0) None
  agains_not bars tree can = false≢true (sym bars ∙ again_may (with_tree c tree) a.0 can)

  pub agains : (again : TheAgain) → may_again c a.0 (stage c a.0) ≡ true → IsFirstWhereAnew again → IsAgain (c.servers a.0) (stage c a.0) again
      → IsMadeOf c s (Again a.0) (Some (record { ready = ready.Again a again; call = call.Nothing }))
  agains again may first is tree =
      let can : CanAgain (with_tree c tree) a.0 = again_can (with_tree c tree) a.0 may in
      record { event = refl; can = can; asks = refl; may = record { server = ltb-true a.0 SERVERS can.server; first = first; is = is } }

-- ---- Clear

module _ (c : Core) (a block : ℕ) where
  pub clears_this : CanClear c a block → cleared_next (stage c a) ≡ Some block
  clears_this can = ap cleared_next can.clear

  pub clears_so : is_server a ≡ true → cleared_next (stage c a) ≡ Some block → CanClear c a block
  clears_so small is = record { server = small; clear = go (stage c a) is }
    where
      go : (at : Option Stage) → cleared_next at ≡ Some block → at ≡ Some (Clearing block)
      go None is = absurd (cc)
      go (Some (Asking need)) is = absurd (cc)
      go (Some (Fetching needs)) is = absurd (cc)
      go (Some Moving) is = absurd (cc)
      go (Some Stopping) is = absurd (cc)
      go (Some (Growing needs seen)) is = absurd (cc)
      go (Some (Clearing other)) is = cc
      go (Some (Finishing outcome)) is = absurd (cc)

  pub clears_none : cleared_next (stage c a) ≡ None → CanClear c a block → ⊥
  clears_none is can = absurd (cc (sym is ∙ clears_this can))

  pub clears_other : (other : ℕ) → cleared_next (stage c a) ≡ Some other → (other ≡ block → ⊥) → CanClear c a block → ⊥
  clears_other other is apart can = apart (let same : Some other ≡ Some block = sym is ∙ clears_this can in cc)

  -- by whether what it clears next is this
  pub clears_by : (other : ℕ) (same : Bool) → is_server a ≡ true → cleared_next (stage c a) ≡ Some other → (same ≡ true → other ≡ block) → (same ≡ false → other ≡ block → ⊥) → IsTrue same ↔ CanClear c a block
  clears_by other true small is one _ = (λ true_is. clears_so small (is ∙ ap (λ (n : ℕ). Some n) (one true_is)), λ can. refl)
  clears_by other false small is _ apart = (λ false_is. absurd (false≢true false_is), λ can. absurd (clears_other other is (apart refl) can))

  pub clears_never : cleared_next (stage c a) ≡ None → IsTrue false ↔ CanClear c a block
  clears_never is = (λ false_is. absurd (false≢true false_is), λ can. absurd (clears_none is can))

module _ (c : Core) (s : State) (a : ServerId) (block : ℕ) where
  pub clears_not : (CanClear c a.0 block → ⊥) → IsMadeOf c s (Clear a.0 block) None
  clears_not bars tree can = bars (record { server = can.server; clear = can.clear })

  pub clears : CanClear c a.0 block → HasClearRoom s a.0 → IsMadeOf c s (Clear a.0 block) (Some (record { ready = ready.Clear a block; call = call.Nothing }))
  clears can room tree = record {
    event = refl;
    can = record { server = can.server; clear = can.clear };
    asks = refl;
    may = record { server = ltb-true a.0 SERVERS can.server; room = room };
  }

-- ---- Commit

module _ (c : Core) (s : State) (a : ServerId) where
  pub commits_not : may_commit c a.0 (stage c a.0) ≡ false → IsMadeOf c s (Commit a.0) None
  commits_not bars tree can = false≢true (sym bars ∙ commit_may (with_tree c tree) a.0 can)

  pub commits : (text : List ℕ) → may_commit c a.0 (stage c a.0) ≡ true → HasCommitRoom s a.0 → (finishes : Finishes (plan_at s.parties a.0) (stage c a.0))
      → ((outcome : Outcome) → ComesTo (plan_at s.parties a.0) outcome → text ≡ said_line (said.Answer a (number_under (c.servers a.0).under) outcome.reply))
      → IsMadeOf c s (Commit a.0) (Some (record { ready = ready.Commit a; call = call.Say text }))
  commits text may room finishes says_so tree =
      let can : CanCommit (with_tree c tree) a.0 = commit_can (with_tree c tree) a.0 may in
      record {
        event = refl;
        can = can;
        asks = says a.0 (c.servers a.0).under (reply_by (stage c a.0)) finishes.outcome.reply (staged_has_line c a.0 (ap is_some finishes.is)) (replies (stage c a.0) finishes.outcome finishes.is)
            ∙ ap Say (sym (says_so finishes.outcome finishes.comes));
        may = record { server = ltb-true a.0 SERVERS can.server; room = room; outcome = finishes.outcome; finishes = finishes.is; comes = finishes.comes };
      }

-- who may commit is mounted
done_is_staged : (at : Option Stage) → is_some (done_by at) ≡ true → is_some at ≡ true
done_is_staged None done = absurd (cc)
done_is_staged (Some at) done = refl

pub commits_mounted : (c : Core) (a : ℕ) → may_commit c a (stage c a) ≡ true → is_in_mount (c.servers a).phase ≡ true
commits_mounted c a may =
    let can : CanCommit c a = commit_can c a may in
    up_is_mounted (c.servers a).phase (staged_is_up c a (done_is_staged (stage c a) can.done))

-- ---- Answer

due_has_line : (logs : LogRules) (flights : Flights) (a : ℕ) (server : Server) (reply : Reply) → due logs flights a server ≡ Some reply → is_some server.under ≡ true
due_has_line logs flights a server reply is = go (is_answering server.phase) server.under is
  where
    go : (b : Bool) (under : Option Under) → (if b then due_under logs flights a server under else None) ≡ Some reply → is_some under ≡ true
    go false under is = absurd (cc)
    go true None is = absurd (cc)
    go true (Some under) is = refl

module _ (s : State) (a : ServerId) where
  pub answers_nobody : is_server a.0 ≡ false → IsMadeOf (core_at s) s (Answer a.0) None
  answers_nobody bars tree can = false≢true (sym bars ∙ can.server)

  pub answers_not : due_at (core_at s) a.0 ≡ None → IsMadeOf (core_at s) s (Answer a.0) None
  answers_not none tree can = false≢true (ap is_some (sym none) ∙ can.due)

  pub answers : (answer : PlainAnswer) (ring : Option SpaciousRing) (text : List ℕ) → a.0 < SERVERS → due_at (core_at s) a.0 ≡ Some (reply_of answer) → IsMountRing s a.0 answer ring → IsNextLine s a.0
      → text ≡ said_line (said.Answer a (number_under ((core_at s).servers a.0).under) (reply_of answer)) → IsMadeOf (core_at s) s (Answer a.0) (Some (record { ready = ready.Answer a answer ring; call = call.Say text }))
  answers answer ring text small due_is mounts next text_is tree = record {
    event = refl;
    can = record { server = lt-ltb a.0 SERVERS small; due = ap is_some due_is };
    asks = says a.0 ((core_at s).servers a.0).under (due_at (core_at s) a.0) (reply_of answer)
        (due_has_line (core_at s).setting.logs (core_at s).flights a.0 ((core_at s).servers a.0) (reply_of answer) due_is) due_is
        ∙ ap Say (sym text_is);
    may = record { server = small; due = due_is; ring = mounts; next = next };
  }
