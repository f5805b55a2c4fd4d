-- Along each transcript: of a server that is stalled, owes or may owe, a stall was answered `ok` since its last mount. So it is of a server of the core that owes.
use Rattle.std.proofs.Common.{ℕ, zero, suc, ◌≡◌, inl, inr, Bool, true, false, not, ◌&&◌, ◌||◌, ◌==◌, if◌then◌else◌, IsTrue, Option, Some, None, List, [], ◌∷◌, ◌++◌, filter, length, nat_eq, refl, sym, ap, ◌∙◌, subst, append-nil, append_assoc}
use Rattle.std.proofs.lemmas.Bool.{and_parts, eqb-true, false≢true, or_left, or_right}
use Rattle.std.proofs.lemmas.Option.{same_Some}
use Rattle.std.specs.List.{slice_get}
use Rattle.disk_definitions.proofs.Listed.{Among}
use Rattle.frang_base.specs.declared.op.Op.{Op}
use Rattle.frang_base.specs.declared.op.What.{What}
use Rattle.frang_base.specs.declared.op.What.TheVariants.{Server, Host}
use Rattle.frang_base.specs.declared.reply.Reply.{Reply}
use Rattle.frang_base.specs.declared.reply.Reply.TheVariants as reply
use Rattle.frang_base.specs.declared.said.Said.{Said}
use Rattle.frang_base.specs.declared.said.Said.TheVariants as said
use Rattle.frang_base.specs.declared.script.Line.{Line}
use Rattle.frang_base.specs.declared.sector.ServerId.{ServerId}
use Rattle.tree_definitions.specs.declared.history.Item.{Item}
use Rattle.tree_definitions.specs.declared.history.Item.TheVariants.{Did, Recovered}
use Rattle.tree_definitions.specs.History.{Opening, Stays, fresh_opening}
use Rattle.tree_definitions.specs.Live.{item_of, item_of_line, item_of_what, line_of, live_history, script_time}
use Rattle.tree_definitions.specs.Touched.{is_mounted, is_ok, is_stall, is_unmount, stalled_after}
use Rattle.tree_definitions.specs.Transcript.{Debt, Faults, Phase, ServerState, after_answer, after_asked, after_death, after_line, after_said, answers_next, are_answered, debt_after, goes_on, is_answer_of, is_expired, is_stalled, is_up, lines_before, lines_for, may_answer, may_answer_owing, may_reply, next_line, state_of}
use Rattle.tree_definitions.specs.Transcript.Debt.{Free, Owes, MayOwe}
use Rattle.tree_definitions.specs.Transcript.Phase.{Off, Up, Stalled}
use Rattle.tree_laws.proofs.TranscriptLaws.{live-push}
use Rattle.core_definitions.specs.Runs.{saids_of}
use Rattle.core_laws.specs.Facts.{OffHasNoFlights}
use Rattle.core_transcripts.specs.Scripts.{ReadScriptsAreNumbered}
use Rattle.core_transcripts.specs.Transcripts.{EachMay, IsNumbered, MaySayButTree}
use Rattle.core_transcripts.proofs.Fits.{OwingFits}
use Rattle.core_transcripts.proofs.Numbering.{line_is}
use Rattle.core_transcripts.proofs.Saying.{state_push}
use Rattle.core_histories.specs.Answers.{WhoOwesHasStalled, stalled_in}
use Rattle.core_histories.proofs.Due.{faults, fits, holds, numbered}

-- one list of entries and then another
pub stalled_more : (a : ℕ) (stalled : Bool) (xs ys : List Item) → stalled_in a stalled (xs ++ ys) ≡ stalled_in a (stalled_in a stalled xs) ys
stalled_more a stalled [] ys = refl
stalled_more a stalled (Did e ∷ xs) ys = stalled_more a (stalled_after a stalled (Stays e)) xs ys
stalled_more a stalled (Recovered other greatest ∷ xs) ys = stalled_more a stalled xs ys

-- ---- what is told of the server, and whether it has stalled

abbrev DebtIsSure : Debt → Bool → Type 0
DebtIsSure Free b = Unit {0}
DebtIsSure Owes b = b ≡ true
DebtIsSure MayOwe b = b ≡ true

record IsSure (t : ServerState) (b : Bool) : Type 0 where
  stalled : IsTrue (not (is_stalled t.phase) || b)
  debt : DebtIsSure t.debt b

weaker : (x b z : Bool) → IsTrue (not x || b) → IsTrue (not x || (b || z))
weaker true true z h = refl
weaker true false z h = absurd (false≢true h)
weaker false b z h = refl

-- ---- an answer of the server

phase_then : (up ok stall unmount b : Bool) (now : Phase) → IsTrue (not (is_stalled now) || b) →
    IsTrue (not (is_stalled (if up && ok && stall then Stalled else (if up && ok && unmount then Off else now))) || (b || (stall && ok)))
phase_then true true true unmount b now h = or_right b true refl
phase_then true true false true b now h = refl
phase_then true true false false b now h = weaker (is_stalled now) b false h
phase_then true false stall unmount b now h = weaker (is_stalled now) b (stall && false) h
phase_then false ok stall unmount b now h = weaker (is_stalled now) b (stall && ok) h

debt_then : (d : Debt) (o : Op) (r : Reply) (b z : Bool) → DebtIsSure d b → DebtIsSure (debt_after d o r) (b || z)
debt_then Free o r b z h = tt
debt_then Owes o r b z h = go (is_unmount o)
  where
    go : (u : Bool) → DebtIsSure (if u then Free else Owes) (b || z)
    go true = tt
    go false = or_left b z h
debt_then MayOwe o r b z h = go (is_expired r)
  where
    go : (u : Bool) → DebtIsSure (if u then Owes else Free) (b || z)
    go true = or_left b z h
    go false = tt

mounted_is : (r : Reply) → is_mounted r ≡ true → r ≡ reply.Mounted
mounted_is reply.Mounted h = refl
mounted_is r h = absurd (false≢true h)

-- who owes isn't mounted
mounted_owes_none : (d : Debt) (t : ServerState) (faulted : Bool) (o : Op) (r : Reply) → is_mounted r ≡ true → IsTrue (may_answer_owing d t faulted o r) → DebtIsSure (debt_after d o r) false
mounted_owes_none Free t faulted o r m h = tt
mounted_owes_none Owes t faulted o r m h = go (is_unmount o) h
  where
    go : (u : Bool) → IsTrue (if u then is_ok r else is_expired r) → DebtIsSure (if u then Free else Owes) false
    go true k = tt
    go false k = absurd (false≢true (subst (λ x. is_expired x ≡ true) (mounted_is r m) k))
mounted_owes_none MayOwe t faulted o r m h = subst (λ x. DebtIsSure (if is_expired x then Owes else Free) false) (sym (mounted_is r m)) tt

answered_sure : (t : ServerState) (b faulted : Bool) (o : Op) (r : Reply) → IsTrue (may_answer t faulted o r) → IsSure t b →
    IsSure (after_answer t o r) (if is_mounted r then false else b || (is_stall o && is_ok r))
answered_sure t b faulted o r may h = record { stalled = stalls (is_mounted r); debt = owes (is_mounted r) refl }
  where
    stalls : (m : Bool) →
        IsTrue (not (is_stalled (if m then Up else (if is_up t.phase && is_ok r && is_stall o then Stalled else (if is_up t.phase && is_ok r && is_unmount o then Off else t.phase)))) || (if m then false else b || (is_stall o && is_ok r)))
    stalls true = refl
    stalls false = phase_then (is_up t.phase) (is_ok r) (is_stall o) (is_unmount o) b t.phase h.stalled

    owes : (m : Bool) → is_mounted r ≡ m → DebtIsSure (debt_after t.debt o r) (if m then false else b || (is_stall o && is_ok r))
    owes true e = mounted_owes_none t.debt t faulted o r e may
    owes false e = debt_then t.debt o r b (is_stall o && is_ok r) h.debt

-- ---- a line that is said

module _ (script : List Line) (run a : ℕ) (faulted : Bool) (t : ServerState) (b : Bool) (h : IsSure t b) where
  either : (own : Bool) (u : ServerState) → IsSure u b → IsSure (if own then u else t) b
  either true u k = k
  either false u k = h

  of_server : (own : Bool) (number : ServerId) → number.0 == a ≡ own → (n ticks : ℕ) (o : Op) (r : Reply) → (own ≡ true → IsTrue (may_answer t faulted o r)) →
      IsSure (if own then after_answer t o r else t) (stalled_in a b (item_of_what run number r n ticks (Server o)))
  of_server true number e n ticks o r may =
      subst (λ x. IsSure (after_answer t o r) (if not x then b else (if is_mounted r then false else b || (is_stall o && is_ok r)))) (sym e) (answered_sure t b faulted o r (may refl) h)
  of_server false number e n ticks o r may =
      subst (λ x. IsSure t (if not x then b else (if is_mounted r then false else b || (is_stall o && is_ok r)))) (sym e) h

  of_what : (own : Bool) (number : ServerId) → number.0 == a ≡ own → (n ticks : ℕ) (r : Reply) (w : What) → ((o : Op) → w ≡ Server o → own ≡ true → IsTrue (may_answer t faulted o r)) →
      IsSure (if own then after_asked t w r else t) (stalled_in a b (item_of_what run number r n ticks w))
  of_what own number e n ticks r (Server o) may = of_server own number e n ticks o r (may o refl)
  of_what own number e n ticks r (Host asked) may = either own t h

  of_line : (own : Bool) (number : ServerId) → number.0 == a ≡ own → (n ticks : ℕ) (r : Reply) (l : Option Line) →
      ((line : Line) (o : Op) → l ≡ Some line → line.what ≡ Server o → own ≡ true → IsTrue (may_answer t faulted o r)) →
      IsSure (if own then after_line t l r else t) (stalled_in a b (item_of_line run number r n ticks l))
  of_line own number e n ticks r None may = either own t h
  of_line own number e n ticks r (Some line) may = of_what own number e n ticks r line.what (λ o w k. may line o refl w k)

  of_death : (own : Bool) → IsSure (if own then after_death t faulted else t) b
  of_death own = either own (after_death t faulted) (record { stalled = refl; debt = go (is_stalled t.phase) faulted h.stalled })
    where
      go : (x f : Bool) → IsTrue (not x || b) → DebtIsSure (if x then (if f then MayOwe else Owes) else Free) b
      go true true k = k
      go true false k = k
      go false f k = tt

  one_more : (x : Said) → ((number : ServerId) (n : ℕ) (r : Reply) (line : Line) (o : Op) → x ≡ said.Answer number n r → line_of script n ≡ Some line → line.what ≡ Server o → number.0 == a ≡ true →
      IsTrue (may_answer t faulted o r)) → IsSure (after_said script a faulted t x) (stalled_in a b (item_of script run x))
  one_more (said.Answer number n r) may =
      of_line (number.0 == a) number refl n (script_time script n) r (line_of script n) (λ line o l w own. may number n r line o refl l w own)
  one_more (said.Dead number) may = of_death (number.0 == a)
  one_more (said.Recovering number by) may = either (number.0 == a) (record t { under_recovery = true }) (record { stalled = h.stalled; debt = h.debt })
  one_more (said.Recovered number kept) may = either (number.0 == a) (record t { phase = Off }) (record { stalled = refl; debt = h.debt })
  one_more (said.Renewed number) may = either (number.0 == a) (record t { phase = Up }) (record { stalled = refl; debt = h.debt })
  one_more x may = h

-- ---- the answer may be given

sliced : (xs : List Line) (k : ℕ) (l : Line) → slice_get xs k ≡ Some l → Among l xs
sliced [] k l e = absurd (cc)
sliced (x ∷ xs) zero l e = inl (sym (same_Some x l e))
sliced (x ∷ xs) (suc k) l e = inr (sliced xs k l e)

of_all : (test : Line → Bool) (xs : List Line) (l : Line) → Among l (filter test xs) → Among l xs
of_all test [] l i = absurd i
of_all test (x ∷ xs) l i = go (test x) i (λ k. of_all test xs l k)
  where
    go : (b : Bool) → Among l (if b then x ∷ filter test xs else filter test xs) → (Among l (filter test xs) → Among l xs) → Among l (x ∷ xs)
    go true (inl e) rest = inl e
    go true (inr k) rest = inr (rest k)
    go false k rest = inr (rest k)

module _ (script : List Line) (numbers : IsNumbered script) (opening : Opening) (f : Faults) (before : List Said) where
  given : (number : ServerId) (n : ℕ) (r : Reply) (line : Line) (o : Op) → line_of script n ≡ Some line → line.what ≡ Server o →
      MaySayButTree script opening f before (said.Answer number n r) → IsTrue (may_answer (state_of script f number.0 before) (f (length before) number.0) o r)
  given number n r line o there asks may =
      go (next_line number.0 script before) refl (and_parts (goes_on script before) (answers_next script f before number.0 n r (next_line number.0 script before)) may).1
    where
      go : (next : Option Line) → next_line number.0 script before ≡ next → IsTrue (answers_next script f before number.0 n r next) →
          IsTrue (may_answer (state_of script f number.0 before) (f (length before) number.0) o r)
      go None e h = absurd (false≢true h)
      go (Some l) e h =
          let parts = and_parts (nat_eq l.number n) (may_reply script f before number.0 n l.what r) h in
          let here : line_of script n ≡ Some l =
          subst (λ k. line_of script k ≡ Some l) (eqb-true l.number n parts.0)
          (line_is script l numbers.apart (of_all (λ x. x.who.0 == number.0) script l (sliced (lines_for number.0 script) (length (filter (is_answer_of number.0) before)) l e))) in
          let same : l ≡ line = same_Some l line (sym here ∙ there) in
          let reply_may : IsTrue (may_reply script f before number.0 n (Server o) r) =
          subst (λ w. IsTrue (may_reply script f before number.0 n w r)) (ap (λ (x : Line). x.what) same ∙ asks) parts.1 in
          (and_parts (are_answered (lines_before n (lines_for 255 script)) before) (may_answer (state_of script f number.0 before) (f (length before) number.0) o r) reply_may).1

-- ---- along a transcript

module _ (script : List Line) (run a : ℕ) (numbers : IsNumbered script) (opening : Opening) (f : Faults) where
  abbrev Sure : List Said → Type 0
  Sure saids = IsSure (state_of script f a saids) (stalled_in a false (live_history script run saids))

  pushed : (saids : List Said) (x : Said) → MaySayButTree script opening f saids x → Sure saids → Sure (saids ++ x ∷ [])
  pushed saids x may h =
      subst (λ t. IsSure t (stalled_in a false (live_history script run (saids ++ x ∷ [])))) (sym (state_push script f a saids x))
      (subst (IsSure (after_said script a (f (length saids) a) (state_of script f a saids) x))
      (sym (ap (stalled_in a false) (live-push script run saids x) ∙ stalled_more a false (live_history script run saids) (item_of script run x)))
      (one_more script run a (f (length saids) a) (state_of script f a saids) (stalled_in a false (live_history script run saids)) h x
      (λ number n r line o is there asks own. subst (λ k. IsTrue (may_answer (state_of script f k saids) (f (length saids) k) o r)) (eqb-true number.0 a own)
      (given script numbers opening f saids number n r line o there asks (subst (MaySayButTree script opening f saids) is may)))))

  along : (before xs : List Said) → Sure before → EachMay (MaySayButTree script opening f) before xs → Sure (before ++ xs)
  along before [] h each = subst Sure (sym (append-nil before)) h
  along before (x ∷ xs) h each = subst Sure (append_assoc before (x ∷ []) xs) (along (before ++ x ∷ []) xs (pushed before x each.0 h) each.1)

  at_first : Sure []
  at_first = record { stalled = refl; debt = tt }

-- ---- a server that owes

owing_sure : (d : Debt) (b : Bool) → OwingFits true d → DebtIsSure d b → b ≡ true
owing_sure Free b fits h = absurd fits
owing_sure Owes b fits h = h
owing_sure MayOwe b fits h = h

pub who_owes : ReadScriptsAreNumbered → OffHasNoFlights → WhoOwesHasStalled
who_owes numbers ashore s a r owes =
    let f = faults numbers ashore s r in
    let told : List Said = saids_of s.record_ in
    let h = holds numbers ashore s r in
    let sure = along r.script r.number a (numbered numbers ashore s r) (fresh_opening 1) f [] told (at_first r.script r.number a (numbered numbers ashore s r) (fresh_opening 1) f) h.said_so in
    subst (λ z. stalled_in a false (live_history z.script z.run told) ≡ true) (sym h.same)
    (owing_sure (state_of r.script f a told).debt (stalled_in a false (live_history r.script r.number told)) (subst (λ x. OwingFits x (state_of r.script f a told).debt) owes (fits numbers ashore s r a).owing)
    sure.debt)
