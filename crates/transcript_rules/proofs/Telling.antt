-- What one line more makes of what the code has of a script and of the lines said.
use Rattle.std.proofs.Common.{◌≡◌, ◌≢◌, ◌⊎◌, inl, inr, ℕ, zero, suc, ◌+◌, ◌<◌, Bool, true, false, not, ◌&&◌, ◌||◌, ◌==◌, cond, Option, Some, None, List, [], ◌∷◌, ◌++◌, length, filter, take, drop, refl, sym, ◌∙◌, ap, subst, arith}
use Rattle.std.specs.List.{list_any, list_all, slice_get, slice_set, slice_index_or}
use Rattle.std.specs.Ordering.{nat_cmp}
use Rattle.std.specs.BTreeSet.{BTreeSet, contains}
use Rattle.std.proofs.lemmas.Bool.Decides.{eqb_tells}
use Rattle.std.proofs.lemmas.List.{get_or-set_same, get_or-set_other, length-set}
use Rattle.std.proofs.lemmas.List.Elements.{filter-append}
use Rattle.std.proofs.lemmas.Option.{get_or_from_slice_get, slice_get-get_or, slice_get_within, same_Some}
use Rattle.std.proofs.lemmas.List.{length-append, append-nil}
use Rattle.frang_base.specs.declared.said.Said.{Said}
use Rattle.frang_base.specs.declared.said.Said.TheVariants as said
use Rattle.frang_base.specs.declared.reply.Reply.{Reply}
use Rattle.frang_base.specs.declared.script.Line.{Line}
use Rattle.frang_base.specs.declared.sector.ServerId.{ServerId}
use mathlib.Core.Bool.{or-false}
use Rattle.frang_base.specs.declared.sector.OpNo.{OpNo}
use Rattle.tree_definitions.specs.Live.{line_of}
use Rattle.tree_definitions.specs.Touched.{is_mounted}
use Rattle.tree_definitions.specs.Transcript.{ServerState, Off, after_death, after_line, after_renewal, after_said, answers, is_change_line, dirty_after, first_state, halts, is_answer_of, is_end, is_node, is_over, lines_for, nodes_said}
use Rattle.transcript_rules.specs.declared.phases.Party.{Party}
use Rattle.transcript_rules.specs.Parties.{state_by}
use Rattle.transcript_rules.specs.Tells.{IsParty, Tells, passed}
use Rattle.transcript_rules.proofs.Pushing.{all_passed_push, any_push, any_stays, dirty_push, state_push}

-- ---- a list with one place changed

pub set_at : {X : Type 0} (xs : List X) (i j : ℕ) (a q : X) → slice_get (slice_set xs i a) j ≡ Some q → ((i ≡ j) × (q ≡ a)) ⊎ (((i == j) ≡ false) × (slice_get xs j ≡ Some q))
set_at {X} xs i j a q is = go (eqb_tells i j)
  where
    inside : j < length (slice_set xs i a)
    inside = slice_get_within (slice_set xs i a) j q is

    within : j < length xs
    within = subst (λ n. j < n) (length-set xs i a) inside

    got : slice_index_or (slice_set xs i a) j a ≡ q
    got = get_or_from_slice_get (slice_set xs i a) j q a is

    go : (((i == j) ≡ true) × (i ≡ j)) ⊎ (((i == j) ≡ false) × (i ≢ j)) → ((i ≡ j) × (q ≡ a)) ⊎ (((i == j) ≡ false) × (slice_get xs j ≡ Some q))
    go (inl h) = inl (h.1, sym got ∙ ap (λ k. slice_index_or (slice_set xs i a) k a) (sym h.1) ∙ get_or-set_same xs i a a (subst (λ k. k < length xs) (sym h.1) within))
    go (inr h) = inr (h.0, slice_get-get_or xs j a within ∙ ap Some (sym (get_or-set_other xs i j a a (λ e. h.1 (sym e))) ∙ got))

-- ---- one party

pub count_stays : (who : ℕ) (before : List Said) (x : Said) → is_answer_of who x ≡ false → length (filter (is_answer_of who) (before ++ x ∷ [])) ≡ length (filter (is_answer_of who) before)
count_stays who before x isnt =
    ap length (filter-append (is_answer_of who) before (x ∷ []) ∙ ap (λ b. filter (is_answer_of who) before ++ cond {A = List Said} b (x ∷ []) []) isnt ∙ append-nil (filter (is_answer_of who) before))

pub count_grows : (who : ℕ) (before : List Said) (x : Said) → is_answer_of who x ≡ true → length (filter (is_answer_of who) (before ++ x ∷ [])) ≡ length (filter (is_answer_of who) before) + 1
count_grows who before x holds =
    ap length (filter-append (is_answer_of who) before (x ∷ []) ∙ ap (λ b. filter (is_answer_of who) before ++ cond {A = List Said} b (x ∷ []) []) holds)
    ∙ length-append (filter (is_answer_of who) before) (x ∷ [])

pub party_more : (script : List Line) (granted : Bool) (before : List Said) (who : ℕ) (p q : Party) (x : Said) → IsParty script granted before who p
    → state_by q ≡ after_said script who granted (state_by p) x → q.dirty ≡ dirty_after script who p.dirty x
    → lines_for who (drop q.next script) ≡ drop (length (filter (is_answer_of who) (before ++ x ∷ []))) (lines_for who script) → IsParty script granted (before ++ x ∷ []) who q
party_more script granted before who p q x is st di ne = record {
  state = st ∙ ap (λ s. after_said script who granted s x) is.state ∙ sym (state_push script granted who 0 first_state before x);
  dirty = di ∙ ap (λ d. dirty_after script who d x) is.dirty ∙ sym (dirty_push script who false before x);
  next = ne;
}

-- a line from which a party learns nothing
pub record Spares (script : List Line) (who : ℕ) (x : Said) : Type 0 where
  pub state : (granted : Bool) (s : ServerState) → after_said script who granted s x ≡ s
  pub dirty : (d : Bool) → dirty_after script who d x ≡ d
  pub answer : is_answer_of who x ≡ false

pub party_spared : (script : List Line) (granted : Bool) (before : List Said) (who : ℕ) (p : Party) (x : Said) → Spares script who x → IsParty script granted before who p → IsParty script granted (before ++ x ∷ []) who p
party_spared script granted before who p x spares is = party_more script granted before who p p x is (sym (spares.state granted (state_by p))) (sym (spares.dirty p.dirty))
    (is.next ∙ ap (λ n. drop n (lines_for who script)) (sym (count_stays who before x spares.answer)))

pub spares_dead : (script : List Line) (who : ℕ) (s : ServerId) → (s.0 == who) ≡ false → Spares script who (said.Dead s)
spares_dead script who s isnt = record { state = λ g st. ap (λ b. cond {A = ServerState} b (after_death st g) st) isnt; dirty = λ d. refl; answer = refl }

pub spares_answer : (script : List Line) (who : ℕ) (s : ServerId) (number : ℕ) (r : Reply) → (s.0 == who) ≡ false → Spares script who (said.Answer s number r)
spares_answer script who s number r isnt = record {
  state = λ g st. ap (λ b. cond {A = ServerState} b (after_line st (line_of script number) r) st) isnt;
  dirty = λ d. ap (λ b. cond {A = Bool} b (not (is_mounted r) && (d || is_change_line (line_of script number))) d) isnt;
  answer = isnt;
}

pub spares_recovered : (script : List Line) (who : ℕ) (s : ServerId) (kept : OpNo) → (s.0 == who) ≡ false → Spares script who (said.Recovered s kept)
spares_recovered script who s kept isnt = record { state = λ g st. ap (λ b. cond {A = ServerState} b (record st { phase = Off }) st) isnt; dirty = λ d. refl; answer = refl }

pub spares_renewed : (script : List Line) (who : ℕ) (s : ServerId) → (s.0 == who) ≡ false → Spares script who (said.Renewed s)
spares_renewed script who s isnt = record { state = λ g st. ap (λ b. cond {A = ServerState} b (after_renewal st) st) isnt; dirty = λ d. refl; answer = refl }

pub spares_recovering : (script : List Line) (who : ℕ) (s by : ServerId) → (s.0 == who) ≡ false → (by.0 == who) ≡ false → Spares script who (said.Recovering s by)
spares_recovering script who s by isnt none = record {
  state = λ g st. ap (λ b. cond {A = ServerState} b (record st { under_recovery = true }) st) isnt;
  dirty = λ d. ap (λ b. d || b) none ∙ or-false d;
  answer = refl;
}

-- nobody learns from these
pub spares_backup : (script : List Line) (who line : ℕ) → Spares script who (said.Backup line)
spares_backup script who line = record { state = λ g st. refl; dirty = λ d. refl; answer = refl }

pub spares_locks : (script : List Line) (who line : ℕ) → Spares script who (said.Locks line)
spares_locks script who line = record { state = λ g st. refl; dirty = λ d. refl; answer = refl }

pub spares_node : (script : List Line) (who : ℕ) (path : List ℕ) (kind size links : ℕ) → Spares script who (said.Node path kind size links)
spares_node script who path kind size links = record { state = λ g st. refl; dirty = λ d. refl; answer = refl }

pub spares_end : (script : List Line) (who : ℕ) → Spares script who said.End
spares_end script who = record { state = λ g st. refl; dirty = λ d. refl; answer = refl }

-- ---- all parties, one of which has changed

abbrev pub Each : List Line → Bool → List Said → List Party → Type 0
Each script granted before parties = (who : ℕ) (p : Party) → slice_get parties who ≡ Some p → IsParty script granted before who p

pub each_set : (script : List Line) (granted : Bool) (before : List Said) (parties : List Party) (i : ℕ) (q : Party) (x : Said) → Each script granted before parties
    → IsParty script granted (before ++ x ∷ []) i q → ((who : ℕ) → (i == who) ≡ false → Spares script who x) → Each script granted (before ++ x ∷ []) (slice_set parties i q)
each_set script granted before parties i q x each is others who p at = go (set_at parties i who q p at)
  where
    go : ((i ≡ who) × (p ≡ q)) ⊎ (((i == who) ≡ false) × (slice_get parties who ≡ Some p)) → IsParty script granted (before ++ x ∷ []) who p
    go (inl h) = subst (λ (r : Party). IsParty script granted (before ++ x ∷ []) who r) (sym h.1) (subst (λ w. IsParty script granted (before ++ x ∷ []) w q) h.0 is)
    go (inr h) = party_spared script granted before who p x (others who h.0) (each who p h.1)

-- a place that is found again, and no line said: only where the lines of a party wait is known better
pub each_found : (script : List Line) (granted : Bool) (before : List Said) (parties : List Party) (i : ℕ) (q : Party) → Each script granted before parties → IsParty script granted before i q
    → Each script granted before (slice_set parties i q)
each_found script granted before parties i q each is who p at = go (set_at parties i who q p at)
  where
    go : ((i ≡ who) × (p ≡ q)) ⊎ (((i == who) ≡ false) × (slice_get parties who ≡ Some p)) → IsParty script granted before who p
    go (inl h) = subst (λ (r : Party). IsParty script granted before who r) (sym h.1) (subst (λ w. IsParty script granted before w q) h.0 is)
    go (inr h) = each who p h.1

pub each_spared : (script : List Line) (granted : Bool) (before : List Said) (parties : List Party) (x : Said) → Each script granted before parties → ((who : ℕ) → Spares script who x)
    → Each script granted (before ++ x ∷ []) parties
each_spared script granted before parties x each others who p at = party_spared script granted before who p x (others who) (each who p at)

-- ---- all of it

over_push : (script : List Line) (before : List Said) (x : Said) (a b c d : Bool) → list_any (halts script) before ≡ a → list_any is_end before ≡ b → halts script x ≡ c → is_end x ≡ d
    → is_over script (before ++ x ∷ []) ≡ ((a || b) || (c || d))
over_push script before x a b c d ha hb hc hd =
    ap (λ t. t || list_any is_end (before ++ x ∷ [])) (any_push (halts script) before x ∙ ap (λ t. t || halts script x) ha ∙ ap (λ t. a || t) hc)
    ∙ ap (λ t. (a || c) || t) (any_push is_end before x ∙ ap (λ t. t || is_end x) hb ∙ ap (λ t. b || t) hd) ∙ turn a b c d
  where
    turn : (a b c d : Bool) → ((a || c) || (b || d)) ≡ ((a || b) || (c || d))
    turn true b c d = refl
    turn false true true d = refl
    turn false true false d = refl
    turn false false c d = refl

nodes_push : (before : List Said) (x : Said) → nodes_said (before ++ x ∷ []) ≡ nodes_said before + cond (is_node x) 1 0
nodes_push before x = ap length (filter-append is_node before (x ∷ [])) ∙ length-append (filter is_node before) (filter is_node (x ∷ [])) ∙ ap (λ n. nodes_said before + n) (one (is_node x))
  where
    one : (b : Bool) → length (cond {A = List Said} b (x ∷ []) []) ≡ cond b 1 0
    one true = refl
    one false = refl

pub tells_more : (script : List Line) (granted : Bool) (before : List Said) (parties more : List Party) (answered marks : BTreeSet ℕ) (hosts all : ℕ) (over begun : Bool) (nodes : ℕ) (x : Said)
    → Tells script granted before parties answered hosts all over begun nodes → length more ≡ 256 → Each script granted (before ++ x ∷ []) more
    → ((n : ℕ) → contains nat_cmp marks n ≡ (contains nat_cmp answered n || answers n x))
    → Tells script granted (before ++ x ∷ []) more marks hosts all (over || (halts script x || is_end x)) (begun || is_node x) (nodes + cond (is_node x) 1 0)
tells_more script granted before parties more answered marks hosts all over begun nodes x t count each marked = record {
  ascend = t.ascend;
  count = count;
  each = each;
  marked = λ n. marked n ∙ ap (λ b. b || answers n x) (t.marked n) ∙ sym (any_push (answers n) before x);
  hosts_passed = all_passed_push true before x (take hosts script) t.hosts_passed;
  all_passed = all_passed_push false before x (take all script) t.all_passed;
  is_over_now = ap (λ b. b || (halts script x || is_end x)) t.is_over_now ∙ sym (over_push script before x (list_any (halts script) before) (list_any is_end before) (halts script x) (is_end x) refl refl refl refl);
  is_begun = ap (λ b. b || is_node x) t.is_begun ∙ sym (any_push is_node before x);
  nodes_are = ap (λ n. n + cond (is_node x) 1 0) t.nodes_are ∙ sym (nodes_push before x);
}
