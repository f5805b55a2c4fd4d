-- What a line tells of the party that says it, and of those that it names.
use Rattle.std.proofs.Common.{◌≡◌, ◌⊎◌, inl, inr, ℕ, zero, suc, ◌+◌, ◌<◌, Bool, true, false, not, ◌&&◌, ◌||◌, ◌==◌, nat_eq, cond, Option, Some, None, List, [], ◌∷◌, ◌++◌, length, filter, take, drop, refl, sym, ◌∙◌, ap, subst, arith}
use Rattle.std.specs.List.{list_any, slice_get, slice_set, slice_index_or}
use Rattle.std.specs.Ordering.{nat_cmp}
use Rattle.std.specs.BTreeMap.{is_at}
use Rattle.std.specs.BTreeSet.{BTreeSet, contains}
use Rattle.std.proofs.lemmas.Bool.Decides.{nat_tests}
use Rattle.std.proofs.lemmas.List.{length-set, drop-drop}
use Rattle.std.proofs.lemmas.Option.{slice_get_read}
use mathlib.Core.Bool.{or-false, or-true}
use Rattle.frang_base.specs.declared.said.Said.{Said}
use Rattle.frang_base.specs.declared.said.Said.TheVariants as said
use Rattle.frang_base.specs.declared.reply.Reply.{Reply}
use Rattle.frang_base.specs.declared.op.What.{What}
use Rattle.frang_base.specs.declared.script.Line.{Line}
use Rattle.frang_base.specs.declared.sector.ServerId.{ServerId}
use Rattle.frang_base.specs.declared.sector.OpNo.{OpNo}
use Rattle.tree_definitions.specs.Live.{line_of}
use Rattle.tree_definitions.specs.Touched.{is_mounted}
use Rattle.tree_definitions.specs.Transcript.{ServerState, after_asked, after_death, after_line, after_renewal, after_said, answers, asks_change, dirty_after, halts, is_answer_of, is_change_line, is_end, is_halt, is_halt_line, is_node, lines_for}
use Rattle.transcript_rules.specs.declared.phases.Phase.TheVariants as phase
use Rattle.transcript_rules.specs.declared.phases.Party.{Party}
use Rattle.transcript_rules.specs.Parties.{state_by}
use Rattle.transcript_rules.specs.Tells.{IsParty, Tells}
use Rattle.transcript_rules.proofs.Taking.{tells_next, tells_quiet}
use Rattle.transcript_rules.proofs.Telling.{Each, count_grows, count_stays, each_found, each_set, party_more, set_at, spares_answer}

pub same_number : (n : ℕ) → (n == n) ≡ true
same_number n = grind (arith, nat_tests)

-- the party at a place of the list
pub party_at : (parties : List Party) (who : ℕ) (p : Party) → length parties ≡ 256 → who < 256 → p ≡ slice_index_or parties who p → slice_get parties who ≡ Some p
party_at parties who p long small is = slice_get_read parties 256 who p (sym long) small is

-- ---- of itself

module _ (script : List Line) (granted : Bool) (before : List Said) (who : ServerId) (p : Party) where
  pub dead_party : (q : Party) → IsParty script granted before who.0 p → state_by q ≡ after_death (state_by p) granted → q.dirty ≡ p.dirty → q.next ≡ p.next
      → IsParty script granted (before ++ said.Dead who ∷ []) who.0 q
  dead_party q is st di ne = party_more script granted before who.0 p q (said.Dead who) is
      (st ∙ sym (ap (λ b. cond {A = ServerState} b (after_death (state_by p) granted) (state_by p)) (same_number who.0))) di
      (ap (λ n. lines_for who.0 (drop n script)) ne ∙ is.next ∙ ap (λ n. drop n (lines_for who.0 script)) (sym (count_stays who.0 before (said.Dead who) refl)))

  pub recovered_party : (kept : OpNo) → IsParty script granted before who.0 p → IsParty script granted (before ++ said.Recovered who kept ∷ []) who.0 (record p { phase = phase.Off })
  recovered_party kept is = party_more script granted before who.0 p (record p { phase = phase.Off }) (said.Recovered who kept) is
      (sym (ap (λ b. cond {A = ServerState} b (state_by (record p { phase = phase.Off })) (state_by p)) (same_number who.0))) refl
      (is.next ∙ ap (λ n. drop n (lines_for who.0 script)) (sym (count_stays who.0 before (said.Recovered who kept) refl)))

  pub renewed_party : IsParty script granted before who.0 p → IsParty script granted (before ++ said.Renewed who ∷ []) who.0 (record p { phase = phase.Up })
  renewed_party is = party_more script granted before who.0 p (record p { phase = phase.Up }) (said.Renewed who) is
      (sym (ap (λ b. cond {A = ServerState} b (after_renewal (state_by p)) (state_by p)) (same_number who.0))) refl
      (is.next ∙ ap (λ n. drop n (lines_for who.0 script)) (sym (count_stays who.0 before (said.Renewed who) refl)))

  pub answered_party : (q : Party) (line : Line) (r : Reply) → IsParty script granted before who.0 p → line_of script line.number ≡ Some line
      → state_by q ≡ after_asked (state_by p) line.what r → q.dirty ≡ (not (is_mounted r) && (p.dirty || asks_change line.what))
      → lines_for who.0 (drop q.next script) ≡ drop 1 (lines_for who.0 (drop p.next script)) → IsParty script granted (before ++ said.Answer who line.number r ∷ []) who.0 q
  answered_party q line r is at st di ne = party_more script granted before who.0 p q (said.Answer who line.number r) is
      (st ∙ ap (λ o. after_line (state_by p) o r) (sym at) ∙ sym (ap (λ b. cond {A = ServerState} b (after_line (state_by p) (line_of script line.number) r) (state_by p)) (same_number who.0)))
      (di ∙ ap (λ o. not (is_mounted r) && (p.dirty || is_change_line o)) (sym at)
      ∙ sym (ap (λ b. cond {A = Bool} b (not (is_mounted r) && (p.dirty || is_change_line (line_of script line.number))) p.dirty) (same_number who.0)))
      (ne ∙ ap (drop 1) is.next ∙ drop-drop 1 (length (filter (is_answer_of who.0) before)) (lines_for who.0 script)
      ∙ ap (λ n. drop n (lines_for who.0 script)) (sym (count_grows who.0 before (said.Answer who line.number r) (same_number who.0))))

-- ---- a recovery that begins

recovering_one : (script : List Line) (granted : Bool) (before : List Said) (server by : ServerId) (who : ℕ) (q p : Party) → IsParty script granted before who q
    → state_by p ≡ cond {A = ServerState} (server.0 == who) (record (state_by q) { under_recovery = true }) (state_by q) → p.dirty ≡ (q.dirty || (by.0 == who)) → p.next ≡ q.next
    → IsParty script granted (before ++ said.Recovering server by ∷ []) who p
recovering_one script granted before server by who q p is st di ne = party_more script granted before who q p (said.Recovering server by) is st di
    (ap (λ n. lines_for who (drop n script)) ne ∙ is.next ∙ ap (λ n. drop n (lines_for who script)) (sym (count_stays who before (said.Recovering server by) refl)))

begun : (server who : ℕ) (q : Party) → (server == who) ≡ true → state_by (record q { under_recovery = true }) ≡ cond {A = ServerState} (server == who) (record (state_by q) { under_recovery = true }) (state_by q)
begun server who q is = sym (ap (λ b. cond {A = ServerState} b (record (state_by q) { under_recovery = true }) (state_by q)) is)

unbegun : (server who : ℕ) (q : Party) → (server == who) ≡ false → state_by q ≡ cond {A = ServerState} (server == who) (record (state_by q) { under_recovery = true }) (state_by q)
unbegun server who q isnt = sym (ap (λ b. cond {A = ServerState} b (record (state_by q) { under_recovery = true }) (state_by q)) isnt)

-- a party of the list in which a recovery of it has begun: what it was before
record WasOf (parties : List Party) (server who : ℕ) (p : Party) : Type 0 where
  was : Party
  at : slice_get parties who ≡ Some was
  state : state_by p ≡ cond {A = ServerState} (server == who) (record (state_by was) { under_recovery = true }) (state_by was)
  dirty : p.dirty ≡ was.dirty
  next : p.next ≡ was.next

was_of : (parties : List Party) (server who : ℕ) (q p : Party) → slice_get parties server ≡ Some q → slice_get (slice_set parties server (record q { under_recovery = true })) who ≡ Some p → WasOf parties server who p
was_of parties server who q p own at = go (set_at parties server who (record q { under_recovery = true }) p at)
  where
    go : ((server ≡ who) × (p ≡ record q { under_recovery = true })) ⊎ (((server == who) ≡ false) × (slice_get parties who ≡ Some p)) → WasOf parties server who p
    go (inl (here, is)) = record {
      was = q;
      at = ap (slice_get parties) (sym here) ∙ own;
      state = ap state_by is ∙ begun server who q (subst (λ w. (server == w) ≡ true) here (same_number server));
      dirty = ap (λ (r : Party). r.dirty) is;
      next = ap (λ (r : Party). r.next) is;
    }
    go (inr (there, is)) = record { was = p; at = is; state = unbegun server who p there; dirty = refl; next = refl }

pub recovering_each : (script : List Line) (granted : Bool) (before : List Said) (parties : List Party) (server by : ServerId) (q r : Party) → Each script granted before parties → length parties ≡ 256
    → slice_get parties server.0 ≡ Some q → slice_get (slice_set parties server.0 (record q { under_recovery = true })) by.0 ≡ Some r
    → Each script granted (before ++ said.Recovering server by ∷ []) (slice_set (slice_set parties server.0 (record q { under_recovery = true })) by.0 (record r { dirty = true }))
recovering_each script granted before parties server by q r each long own other who p at =
    go (set_at (slice_set parties server.0 (record q { under_recovery = true })) by.0 who (record r { dirty = true }) p at)
  where
    go : ((by.0 ≡ who) × (p ≡ record r { dirty = true })) ⊎ (((by.0 == who) ≡ false) × (slice_get (slice_set parties server.0 (record q { under_recovery = true })) who ≡ Some p))
        → IsParty script granted (before ++ said.Recovering server by ∷ []) who p
    go (inl (here, is)) =
        let w : WasOf parties server.0 who r = was_of parties server.0 who q r own (ap (slice_get (slice_set parties server.0 (record q { under_recovery = true }))) (sym here) ∙ other) in
        recovering_one script granted before server by who w.was p (each who w.was w.at) (ap state_by is ∙ w.state)
        (ap (λ (t : Party). t.dirty) is ∙ sym (ap (λ b. w.was.dirty || b) (subst (λ k. (by.0 == k) ≡ true) here (same_number by.0)) ∙ or-true w.was.dirty)) (ap (λ (t : Party). t.next) is ∙ w.next)
    go (inr (there, is)) =
        let w : WasOf parties server.0 who p = was_of parties server.0 who q p own is in
        recovering_one script granted before server by who w.was p (each who w.was w.at) w.state (w.dirty ∙ sym (ap (λ b. w.was.dirty || b) there ∙ or-false w.was.dirty)) w.next

pub tells_recovering : (script : List Line) (granted : Bool) (saids : List Said) (place : ℕ) (parties : List Party) (answered : BTreeSet ℕ) (hosts all : ℕ) (over started : Bool) (nodes : ℕ) (server by : ServerId) (q r : Party)
    → slice_get saids place ≡ Some (said.Recovering server by) → Tells script granted (take place saids) parties answered hosts all over started nodes
    → slice_get parties server.0 ≡ Some q → slice_get (slice_set parties server.0 (record q { under_recovery = true })) by.0 ≡ Some r
    → Tells script granted (take (place + 1) saids) (slice_set (slice_set parties server.0 (record q { under_recovery = true })) by.0 (record r { dirty = true })) answered hosts all over started nodes
tells_recovering script granted saids place parties answered hosts all over started nodes server by q r is t own other =
    tells_quiet script granted saids place parties (slice_set (slice_set parties server.0 (record q { under_recovery = true })) by.0 (record r { dirty = true })) answered hosts all over started nodes (said.Recovering server by) is t
    (length-set (slice_set parties server.0 (record q { under_recovery = true })) by.0 (record r { dirty = true }) ∙ length-set parties server.0 (record q { under_recovery = true }) ∙ t.count)
    (recovering_each script granted (take place saids) parties server by q r t.each t.count own other)
    (record { halts = refl; ends = refl; node = refl; answers = λ n. refl })

-- ---- an answer

same_test : (a b : ℕ) → is_at (nat_cmp a) b ≡ (a == b)
same_test a b = by (is_at (nat_cmp a) b) (a == b) refl refl
  where
    by : (s t : Bool) → is_at (nat_cmp a) b ≡ s → (a == b) ≡ t → s ≡ t
    by true true e f = refl
    by false false e f = refl
    by true false e f = absurd (grind (arith, nat_tests))
    by false true e f = absurd (grind (arith, nat_tests))

either : (b c : Bool) → cond b true c ≡ (c || b)
either true true = refl
either true false = refl
either false true = refl
either false false = refl

pub marked_more : (answered marks : BTreeSet ℕ) (number : ℕ) → ((n : ℕ) → contains nat_cmp marks n ≡ cond (is_at (nat_cmp number) n) true (contains nat_cmp answered n)) → (n : ℕ)
    → contains nat_cmp marks n ≡ (contains nat_cmp answered n || (number == n))
marked_more answered marks number with_one n =
    with_one n ∙ ap (λ b. cond b true (contains nat_cmp answered n)) (same_test number n) ∙ either (number == n) (contains nat_cmp answered n)

pub tells_answer : (script : List Line) (granted : Bool) (saids : List Said) (place : ℕ) (parties : List Party) (answered marks : BTreeSet ℕ) (hosts all : ℕ) (over started : Bool) (nodes : ℕ) (who : ServerId) (line : Line) (r : Reply) (q : Party)
    → slice_get saids place ≡ Some (said.Answer who line.number r) → Tells script granted (take place saids) parties answered hosts all over started nodes → line_of script line.number ≡ Some line
    → ((n : ℕ) → contains nat_cmp marks n ≡ cond (is_at (nat_cmp line.number) n) true (contains nat_cmp answered n))
    → IsParty script granted (take place saids ++ said.Answer who line.number r ∷ []) who.0 q
    → Tells script granted (take (place + 1) saids) (slice_set parties who.0 q) marks hosts all (over || is_halt line.what) started nodes
tells_answer script granted saids place parties answered marks hosts all over started nodes who line r q is t at with_one own =
    tells_next script granted saids place parties (slice_set parties who.0 q) answered marks hosts all over (over || is_halt line.what) started started nodes nodes (said.Answer who line.number r) is t
    (length-set parties who.0 q ∙ t.count)
    (each_set script granted (take place saids) parties who.0 q (said.Answer who line.number r) t.each own (λ w isnt. spares_answer script w who line.number r isnt))
    (marked_more answered marks line.number with_one)
    (ap (λ b. over || b) (sym (or-false (is_halt line.what)) ∙ ap (λ o. is_halt_line o || false) (sym at)))
    (sym (or-false started)) (let z : nodes ≡ nodes + 0 = omega arith in z)

-- ---- a place that is found again

pub tells_found : (script : List Line) (granted : Bool) (before : List Said) (parties : List Party) (answered : BTreeSet ℕ) (hosts all : ℕ) (over started : Bool) (nodes who next : ℕ) (p : Party)
    → Tells script granted before parties answered hosts all over started nodes → IsParty script granted before who p → lines_for who (drop next script) ≡ lines_for who (drop p.next script)
    → Tells script granted before (slice_set parties who (record p { next = next })) answered hosts all over started nodes
tells_found script granted before parties answered hosts all over started nodes who next p t is same = record {
  ascend = t.ascend;
  count = length-set parties who (record p { next = next }) ∙ t.count;
  each = each_found script granted before parties who (record p { next = next }) t.each (record { state = is.state; dirty = is.dirty; next = same ∙ is.next });
  marked = t.marked;
  hosts_passed = t.hosts_passed;
  all_passed = t.all_passed;
  is_over_now = t.is_over_now;
  is_begun = t.is_begun;
  nodes_are = t.nodes_are;
}
