-- Journals account for the operations of their servers: behind a mount, behind an operation with a record or without one, and beside all else.
use Rattle.std.proofs.Common.{◌≡◌, ◌≢◌, ℕ, ◌+◌, ◌≤◌, ◌<◌, inl, inr, ⊎_elim, Bool, if◌then◌else◌, nat_le, Some, None, List, [], ◌∷◌, ◌++◌, refl, sym, ap, ◌∙◌, subst, arith}
use Rattle.std.specs.List.{Contains}
use Rattle.std.proofs.lemmas.Bool.{le-leb}
use Rattle.std.proofs.lemmas.List.Elements.{Contains-append_cases, Contains-append_left, Contains-append_right}
use Rattle.frang_base.proofs.Basics.{put_same}
use Rattle.frang_base.specs.declared.change.Change.{Change}
use Rattle.frang_base.specs.declared.change.Redo.{Redo}
use Rattle.disk_definitions.proofs.Listed.{Among}
use Rattle.disk_definitions.specs.Logs.{Slots, log_end, log_records}
use Rattle.ring_definitions.specs.RingRuns.{Placed}
use Rattle.ring_definitions.specs.Rings.{Ring, appended, begins, last, need}
use Rattle.core_laws.proofs.Membership.{contains_in, in_contains}
use Rattle.core_definitions.specs.Lines.{Finishing}
use Rattle.core_definitions.specs.Plans as plans
use Rattle.core_definitions.specs.Plans.{record_of}
use Rattle.core_lives.proofs.Alike.{mounted_journal}
use Rattle.core_commits.specs.Commits.{fetched_world}
use Rattle.core_commits.specs.Finished.{number_in}
use Rattle.core_commits.specs.Moments.{IsNumbered, claimed_in, operation_at}
use Rattle.core_commits.specs.Standing.{tree_now}
use Rattle.core_commits.proofs.Reclaiming.{up_of}
use Rattle.core_line_steps.specs.Marks.{journal_done}
use Rattle.core_line_steps.proofs.Ended.{up_mounted}
use Rattle.core_line_journals.proofs.Appending.{past_not}
use Rattle.sector_world.specs.Histories.{Commit, redo_of, settled}
use Rattle.sector_world.specs.Histories.Item.{Done}
use Rattle.sector_world.specs.Kinds.{Good}
use Rattle.sector_world.specs.Steps.{after}
use Rattle.sector_world.specs.Steps.Event.{Do}
use Rattle.sector_world.specs.World.{World}
use Rattle.core_world.specs.Journals.{IsOwn, Journal, sector_log}
use Rattle.core_log_marks.specs.Accounts.{AccountsFor, AreUpTo, EachSinceMount, EndWithOthers, HasItsRecord, IsEndBefore, OperationsRise}
use Rattle.core_log_marks.specs.Steps.{AccountsStay, CommitsAreAccountedFor, HasDone, IsItsRecord, IsSameAccount, MountsAreAccountedFor, OperationsAreAccountedFor}
use Rattle.core_log_marks.proofs.Counting.{before_then, beside_end, beside_others, beside_own, beside_since, others_still, others_then, own_below, since_map}

le_all : (n : ℕ) → n ≤ n
le_all n = omega arith

le_on : (a b d : ℕ) → a ≤ b → b ≤ d → a ≤ d
le_on a b d h k = omega (arith, h, k)

-- ---- a mount

pub mounts_account : MountsAreAccountedFor
mounts_account w u a slots up m = record {
  before = λ r i. le_on r.op.0 (w.durable a) (u.durable a) (up r i) m.durable;
  rise = tt;
  own = λ p i. absurd (contains_in [] p i);
  recorded = subst (EachSinceMount (HasItsRecord []) a) (sym m.history) (λ other. absurd (other refl));
  silent = others_still (log_end slots) a (settled u.history);
  newest = inl (le_all (log_end slots));
}

-- ---- an operation

rise_more : (ps : List Placed) (p : Placed) → OperationsRise ps → ((q : Placed) → Contains ps q → q.redo.op.0 < p.redo.op.0) → OperationsRise (ps ++ p ∷ [])
rise_more [] p rise low = ((λ q i. absurd (contains_in [] q i)), tt)
rise_more (x ∷ ps) p rise low = (head, rise_more ps p rise.1 (λ q i. low q (Contains-append_right (x ∷ []) ps q i)))
  where
    one : (q : Placed) → Among q (p ∷ []) → x.redo.op.0 < q.redo.op.0
    one q (inl same) = subst (λ (y : Placed). x.redo.op.0 < y.redo.op.0) (sym same) (low x (in_contains (x ∷ ps) x (inl refl)))
    one q (inr none) = absurd none

    head : (q : Placed) → Contains (ps ++ p ∷ []) q → x.redo.op.0 < q.redo.op.0
    head q i = ⊎_elim (rise.0 q) (λ new. one q (contains_in (p ∷ []) q new)) (Contains-append_cases ps (p ∷ []) q i)

module _ (w u : World) (j : Journal) (c : Commit) (g : Good w) (d : HasDone w u c) (at_last : j.ends (w.last c.by) ≡ last j.log.ring) (was : AccountsFor j w c.by) where
  settled_is : settled u.history ≡ Done c ∷ settled w.history
  settled_is = ap settled d.history

  own_then : (n : ℕ) → IsOwn c.by n (settled w.history) → IsOwn c.by n (settled u.history)
  own_then n own = subst (IsOwn c.by n) (sym settled_is) (inr own)

  before_more : AreUpTo (u.durable c.by) (log_records j.before)
  before_more r i = le_on r.op.0 (w.durable c.by) (u.durable c.by) (was.before r i) d.durable

  -- of the journal with the operation's record or without one, which ends at this number
  module _ (top : ℕ) where
    abbrev then_ : ℕ → ℕ
    then_ n = if nat_le n (w.last c.by) then j.ends n else top

    old_end : (n : ℕ) → n ≤ w.last c.by → then_ n ≡ j.ends n
    old_end n l = ap (λ (b : Bool). if b then j.ends n else top) (le-leb n (w.last c.by) l)

    new_end : then_ c.op ≡ top
    new_end = ap (λ (b : Bool). if b then j.ends c.op else top) (past_not c.op (w.last c.by) d.number)

    newest_then : IsEndBefore (log_end j.before) then_ c.by (then_ (u.last c.by)) (settled u.history)
    newest_then = subst (λ n. IsEndBefore (log_end j.before) then_ c.by (then_ n) (settled u.history)) (sym d.last)
        (subst (IsEndBefore (log_end j.before) then_ c.by (then_ c.op)) (sym settled_is) (inr (inl (refl, refl))))

    silent_then : (c.by ≡ c.by → c.changes ≡ [] → IsEndBefore (log_end j.before) then_ c.by (then_ c.op) (settled w.history)) → EndWithOthers (log_end j.before) then_ c.by (settled u.history)
    silent_then here = subst (EndWithOthers (log_end j.before) then_ c.by) (sym settled_is)
        (here, others_then j.ends then_ c.by (w.last c.by) old_end w.last refl (log_end j.before) (settled w.history) g.logged.below was.silent)

  without : c.changes ≡ [] → AccountsFor (journal_done (w.last c.by) None j) u c.by
  without none = record {
    before = before_more;
    rise = was.rise;
    own = λ p i. own_then p.redo.op.0 (was.own p i);
    recorded = subst (EachSinceMount (HasItsRecord j.log.placed) c.by) (sym d.history) ((λ mine some. absurd (some none)), was.recorded);
    silent = silent_then (last j.log.ring) (λ mine empty. subst (λ n. IsEndBefore (log_end j.before) (then_ (last j.log.ring)) c.by n (settled w.history)) (at_last ∙ sym (new_end (last j.log.ring)))
        (before_then j.ends (then_ (last j.log.ring)) c.by (w.last c.by) (old_end (last j.log.ring)) w.last refl (log_end j.before) (j.ends (w.last c.by)) (settled w.history) g.logged.below was.newest));
    newest = newest_then (last j.log.ring);
  }

  with_record : (redo : Redo) → redo ≡ redo_of c → c.changes ≢ [] → AccountsFor (journal_done (w.last c.by) (Some redo) j) u c.by
  with_record redo is some = record {
    before = before_more;
    rise = rise_more j.log.placed new was.rise (λ q i. subst (λ n. q.redo.op.0 < n) (sym op_is) (under q.redo.op.0 (own_below w.last c.by q.redo.op.0 (settled w.history) g.logged.below (was.own q i)) d.number));
    own = λ p i. ⊎_elim (λ old. own_then p.redo.op.0 (was.own p old)) (λ one. subst (λ (q : Placed). IsOwn c.by q.redo.op.0 (settled u.history)) (only p (contains_in (new ∷ []) p one)) own_new)
        (Contains-append_cases j.log.placed (new ∷ []) p i);
    recorded = subst (EachSinceMount (HasItsRecord (j.log.placed ++ new ∷ [])) c.by) (sym d.history) (
      (λ mine any. (new, Contains-append_right j.log.placed (new ∷ []) new (in_contains (new ∷ []) new (inl refl)), op_is)),
      since_map (HasItsRecord j.log.placed) (HasItsRecord (j.log.placed ++ new ∷ [])) c.by (λ e has any. let p = has any in (p.0, Contains-append_left j.log.placed (new ∷ []) p.0 p.1, p.2)) w.history was.recorded,
    );
    silent = silent_then top (λ mine empty. absurd (some empty));
    newest = newest_then top;
  }
    where
      new : Placed
      new = record { redo = redo; first = begins j.log.ring; last = last j.log.ring + need j.log.ring redo }

      top : ℕ
      top = last (appended j.log.ring redo)

      op_is : redo.op.0 ≡ c.op
      op_is = ap (λ (y : Redo). y.op.0) is

      under : (n : ℕ) → n ≤ w.last c.by → w.last c.by < c.op → n < c.op
      under n l k = omega (arith, l, k)

      only : (p : Placed) → Among p (new ∷ []) → new ≡ p
      only p (inl same) = sym same
      only p (inr none) = absurd none

      own_new : IsOwn c.by redo.op.0 (settled u.history)
      own_new = subst (IsOwn c.by redo.op.0) (sym settled_is) (inl (refl, sym op_is))

pub operations_account : OperationsAreAccountedFor
operations_account w u j c None g d is at_last was = without w u j c g d at_last was is
operations_account w u j c (Some redo) g d is at_last was = with_record w u j c g d at_last was redo is.0 is.1

-- ---- a Commit

its_record : (c : Commit) (n : ℕ) (changes : List Change) → c.op ≡ n → c.changes ≡ changes → IsItsRecord (record_of n changes) c
its_record c n [] op is = is
its_record c n (x ∷ xs) op is = (same, (λ none. absurd (apart (sym is ∙ none))))
  where
    apart : x ∷ xs ≡ [] → ⊥
    apart e = absurd (cc)

    same : record { op = record { 0 = n }; changes = x ∷ xs } ≡ redo_of c
    same = ap (λ k. record { op = record { 0 = k }; changes = x ∷ xs }) (sym op) ∙ ap (λ (l : List Change). record { op = record { 0 = c.op }; changes = l }) (sym is)

pub commits_account : CommitsAreAccountedFor
commits_account s w journal when first_tree numbers a outcome server m at numbered op was =
    let up = up_mounted (s.core.servers a).phase (up_of s.core.setting s.core.locks a (s.core.servers a) (Finishing outcome) at) in
    let j = mounted_journal (s.core.servers a).phase up (s.core.servers a).ring s.core.now s.core.flights s.disk (sector_log w a) a (journal a) (m.world.journals a server) in
    let q : IsNumbered s w when first_tree numbers a op.f.line.under.line.number op.f.line.operation = numbered op.f.line.under op.f.line.operation op.f.line.is op.f.line.asked in
    let c : Commit = operation_at s w when (tree_now when first_tree w) a outcome op in
    let record_is = ap (λ k. record_of (number_in s.core.setting op.f.line.under.line.number) k) op.out.says.changes ∙ sym (ap (λ (o : plans.Outcome). o.redo) op.f.outcome_is) in
    operations_account w (after (fetched_world w a (claimed_in (s.core.servers a).cache op.out.o.claims)) (Do c)) (journal a) c outcome.redo m.good
    (record { number = q.above; history = refl; last = put_same w.last a (number_in s.core.setting op.f.line.under.line.number); durable = le_all (w.durable a) })
    (subst (λ o. IsItsRecord o c) record_is (its_record c (number_in s.core.setting op.f.line.under.line.number) op.out.o.changes refl refl))
    (j.counted.ends_at ∙ ap (λ (y : Ring). last y) (sym j.ring_is)) was

-- ---- all else

module _ (w u : World) (j k : Journal) (a : ℕ) (last_is : u.last a ≡ w.last a) (durable : w.durable a ≤ u.durable a) (same : IsSameAccount j k) (was : AccountsFor j w a) where
  -- the same journal beside the former history
  with_history : ((n : ℕ) → IsOwn a n (settled w.history) → IsOwn a n (settled u.history)) → (EachSinceMount (HasItsRecord j.log.placed) a w.history → EachSinceMount (HasItsRecord j.log.placed) a u.history) →
      (EndWithOthers (log_end j.before) j.ends a (settled w.history) → EndWithOthers (log_end j.before) j.ends a (settled u.history)) →
      ((n : ℕ) → IsEndBefore (log_end j.before) j.ends a n (settled w.history) → IsEndBefore (log_end j.before) j.ends a n (settled u.history)) → AccountsFor k u a
  with_history own since others end = record {
    before = subst (λ (b : Slots). AreUpTo (u.durable a) (log_records b)) (sym same.before) (λ r i. le_on r.op.0 (w.durable a) (u.durable a) (was.before r i) durable);
    rise = subst OperationsRise (sym same.placed) was.rise;
    own = λ p i. own p.redo.op.0 (was.own p (subst (λ (l : List Placed). Contains l p) same.placed i));
    recorded = subst (λ (l : List Placed). EachSinceMount (HasItsRecord l) a u.history) (sym same.placed) (since was.recorded);
    silent = subst (λ (b : Slots). EndWithOthers (log_end b) k.ends a (settled u.history)) (sym same.before)
        (subst (λ (e : ℕ → ℕ). EndWithOthers (log_end j.before) e a (settled u.history)) (sym same.ends) (others was.silent));
    newest = subst (λ (b : Slots). IsEndBefore (log_end b) k.ends a (k.ends (u.last a)) (settled u.history)) (sym same.before)
        (subst (λ (e : ℕ → ℕ). IsEndBefore (log_end j.before) e a (e (u.last a)) (settled u.history)) (sym same.ends)
        (subst (λ n. IsEndBefore (log_end j.before) j.ends a (j.ends n) (settled u.history)) (sym last_is) (end (j.ends (w.last a)) was.newest)));
  }

pub accounts_stay : AccountsStay
accounts_stay w u j k a (inl history) last_is durable same was =
    with_history w u j k a last_is durable same was (λ n own. subst (λ h. IsOwn a n (settled h)) (sym history) own) (λ all. subst (EachSinceMount (HasItsRecord j.log.placed) a) (sym history) all)
    (λ all. subst (λ h. EndWithOthers (log_end j.before) j.ends a (settled h)) (sym history) all) (λ n end. subst (λ h. IsEndBefore (log_end j.before) j.ends a n (settled h)) (sym history) end)
accounts_stay w u j k a (inr x) last_is durable same was =
    with_history w u j k a last_is durable same was (λ n own. subst (λ h. IsOwn a n (settled h)) (sym x.1) (beside_own a n x.0 w.history x.2 own))
    (λ all. subst (EachSinceMount (HasItsRecord j.log.placed) a) (sym x.1) (beside_since (HasItsRecord j.log.placed) a x.0 w.history x.2 all))
    (λ all. subst (λ h. EndWithOthers (log_end j.before) j.ends a (settled h)) (sym x.1) (beside_others (log_end j.before) j.ends a x.0 w.history x.2 all))
    (λ n end. subst (λ h. IsEndBefore (log_end j.before) j.ends a n (settled h)) (sym x.1) (beside_end (log_end j.before) j.ends a n x.0 w.history x.2 end))
