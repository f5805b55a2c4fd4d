-- A list that is walked along: what becomes of the lock at a place leaves what is to become of all.
use Rattle.std.proofs.Common.{◌≡◌, ℕ, zero, suc, ◌+◌, Bool, true, false, if◌then◌else◌, [], ◌∷◌, ◌++◌, length, take, drop, Option, Some, None, is_some, IsSome, refl, sym, ap, ◌∙◌, subst, arith}
use Rattle.std.specs.List.{AllByRecursion, slice_get, cons_option}
use Rattle.std.specs.List.Sorted.{IsStrictlySortedBy}
use Rattle.std.specs.Map.{lookup, remove_entry, keys_of}
use Rattle.std.specs.BTreeMap.{insert_entry}
use Rattle.std.specs.Option.{option_map}
use Rattle.std.specs.Ordering.{match_ordering, ordering_reverse, is_eq}
use Rattle.std.specs.declared.cmp.Ordering.{Ordering}
use Rattle.std.specs.declared.cmp.Ordering.TheVariants.{Less, Greater}
use Rattle.sorted_entries.proofs.Sorted.{sorted-insert_entry, sorted-remove_entry}
use Rattle.frang_base.specs.declared.lock.LockId.{LockId}
use Rattle.lock_definitions.specs.declared.claim.Claim.{Claim}
use Rattle.lock_definitions.specs.Locks.{Claims}
use Rattle.lock_definitions.specs.Order.{lock_cmp, is_lock}
use Rattle.lock_definitions.proofs.LockOrder.{lock_total, lock_itself}
use Rattle.lock_table.specs.Asked.{with_made}
use Rattle.known_locks.specs.Beside.{renewed, IsWalked}

turned : (a b : LockId) (o : Ordering) → lock_cmp a b ≡ o → lock_cmp b a ≡ ordering_reverse o
turned a b o is = lock_total.antisymm b a ∙ ap ordering_reverse is

-- a lock behind others lies above them
above : (low : LockId) (list : Claims) (i : ℕ) (entry : LockId × Claim) → AllByRecursion (λ lock. lock_cmp low lock ≡ Less) (keys_of list) → Some entry ≡ slice_get list i → lock_cmp entry.0 low ≡ Greater
above low [] i entry all is = cc is
above low (x ∷ list) zero entry all is =
    let same : entry ≡ x = cc is in
    ap (λ e. lock_cmp e.0 low) same ∙ turned low x.0 Less all.0
above low (x ∷ list) (suc i) entry all is = above low list i entry all.1 is

-- the place behind one, where its lock stays
abbrev pub next : ℕ → Option Claim → ℕ
next i o = if is_some o then suc i else i

pub there : (list : Claims) (i : ℕ) (entry : LockId × Claim) → Some entry ≡ slice_get list i → IsSome (lookup (is_lock entry.0) list)
there [] i entry is = cc is
there (x ∷ list) zero entry is =
    let same : x ≡ entry = cc (sym is) in
    ap (λ t. is_some (if t then Some x.1 else lookup (is_lock entry.0) list)) (ap (λ e. is_lock entry.0 e.0) same ∙ ap is_eq (lock_itself entry.0))
there (x ∷ list) (suc i) entry is = go (is_lock entry.0 x.0) (there list i entry is)
  where
    go : (t : Bool) → IsSome (lookup (is_lock entry.0) list) → IsSome (if t then Some x.1 else lookup (is_lock entry.0) list)
    go true rest = refl
    go false rest = rest

module _ (again : LockId → Option Claim) where
  here : (x : LockId × Claim) (list : Claims) (o : Option Claim) → again x.0 ≡ o
      → take (next zero o) (with_made (x ∷ list) x.0 o) ++ renewed again (drop (next zero o) (with_made (x ∷ list) x.0 o)) ≡ renewed again (x ∷ list)
  here x list None is =
      ap (λ t. renewed again (if t then list else x ∷ remove_entry (is_lock x.0) list)) (ap is_eq (lock_itself x.0))
      ∙ sym (ap (λ a. cons_option (option_map (λ claim. (x.0, claim)) a) (renewed again list)) is)
  here x list (Some made) is =
      ap (λ p. take 1 (match_ordering p ((x.0, made) ∷ x ∷ list) ((x.0, made) ∷ list) (x ∷ insert_entry lock_cmp list x.0 made))
      ++ renewed again (drop 1 (match_ordering p ((x.0, made) ∷ x ∷ list) ((x.0, made) ∷ list) (x ∷ insert_entry lock_cmp list x.0 made)))) (lock_itself x.0)
      ∙ sym (ap (λ a. cons_option (option_map (λ claim. (x.0, claim)) a) (renewed again list)) is)

  beyond : (x : LockId × Claim) (list : Claims) (lock : LockId) (o : Option Claim) → lock_cmp lock x.0 ≡ Greater → with_made (x ∷ list) lock o ≡ x ∷ with_made list lock o
  beyond x list lock None is = ap (λ t. if t then list else x ∷ remove_entry (is_lock lock) list) (ap is_eq is)
  beyond x list lock (Some made) is = ap (λ p. match_ordering p ((lock, made) ∷ x ∷ list) ((x.0, made) ∷ list) (x ∷ insert_entry lock_cmp list lock made)) is

  further : (x : LockId × Claim) (list : Claims) (i : ℕ) (o : Option Claim)
      → take (next (suc i) o) (x ∷ list) ++ renewed again (drop (next (suc i) o) (x ∷ list)) ≡ x ∷ (take (next i o) list ++ renewed again (drop (next i o) list))
  further x list i None = refl
  further x list i (Some made) = refl

  -- the lock at a place is made anew
  step : (list : Claims) (i : ℕ) (entry : LockId × Claim) (o : Option Claim) → IsStrictlySortedBy lock_cmp (keys_of list) → Some entry ≡ slice_get list i → again entry.0 ≡ o
      → take (next i o) (with_made list entry.0 o) ++ renewed again (drop (next i o) (with_made list entry.0 o)) ≡ take i list ++ renewed again (drop i list)
  unfolding IsStrictlySortedBy
  step [] i entry o sorted is made = cc is
  step (x ∷ list) zero entry o sorted is made =
      let same : x ≡ entry = cc (sym is) in
      subst (λ e. again e.0 ≡ o → take (next zero o) (with_made (x ∷ list) e.0 o) ++ renewed again (drop (next zero o) (with_made (x ∷ list) e.0 o)) ≡ renewed again (x ∷ list)) same (here x list o) made
  step (x ∷ list) (suc i) entry o sorted is made =
      ap (λ es. take (next (suc i) o) es ++ renewed again (drop (next (suc i) o) es)) (beyond x list entry.0 o (above x.0 list i entry sorted.0 is))
      ∙ further x (with_made list entry.0 o) i o
      ∙ ap (λ es. x ∷ es) (step list i entry o sorted.1 is made)

  -- how many are left
  shorter : (list : Claims) (i : ℕ) (entry : LockId × Claim) (o : Option Claim) → IsStrictlySortedBy lock_cmp (keys_of list) → Some entry ≡ slice_get list i
      → length (with_made list entry.0 o) + suc i ≡ length list + next i o
  unfolding IsStrictlySortedBy
  shorter [] i entry o sorted is = cc is
  shorter (x ∷ list) zero entry o sorted is =
      let same : x ≡ entry = cc (sym is) in
      subst (λ e. length (with_made (x ∷ list) e.0 o) + 1 ≡ suc (length list) + next zero o) same (first o)
    where
      first : (o : Option Claim) → length (with_made (x ∷ list) x.0 o) + 1 ≡ suc (length list) + next zero o
      first None = let gone : length (remove_entry (is_lock x.0) (x ∷ list)) ≡ length list = ap (λ t. length (if t then list else x ∷ remove_entry (is_lock x.0) list)) (ap is_eq (lock_itself x.0)) in omega (arith, gone)
      first (Some made) = let stays : length (insert_entry lock_cmp (x ∷ list) x.0 made) ≡ suc (length list) = ap (λ p. length (match_ordering p ((x.0, made) ∷ x ∷ list) ((x.0, made) ∷ list) (x ∷ insert_entry lock_cmp list x.0 made))) (lock_itself x.0) in omega (arith, stays)
  shorter (x ∷ list) (suc i) entry o sorted is =
      let more = ap length (beyond x list entry.0 o (above x.0 list i entry sorted.0 is)) in
      omega (arith, more, shorter list i entry o sorted.1 is, next_more i o)
    where
      next_more : (i : ℕ) (o : Option Claim) → next (suc i) o ≡ suc (next i o)
      next_more i None = refl
      next_more i (Some made) = refl

  made_sorted : (list : Claims) (lock : LockId) (o : Option Claim) → IsStrictlySortedBy lock_cmp (keys_of list) → IsStrictlySortedBy lock_cmp (keys_of (with_made list lock o))
  made_sorted list lock None sorted = sorted-remove_entry lock_cmp (is_lock lock) list sorted
  made_sorted list lock (Some made) sorted = sorted-insert_entry lock_total lock made list sorted

  pub walk : (all list new : Claims) (i left to : ℕ) (entry : LockId × Claim) (o : Option Claim) → Some entry ≡ slice_get list i → o ≡ again entry.0 → new ≡ with_made list entry.0 o → to ≡ next i o
      → IsWalked again all list i (left + 1) → IsWalked again all new to left
  walk all list new i left to entry o is made now at walked =
      subst (λ n. IsWalked again all new n left) (sym at) (subst (λ es. IsWalked again all es (next i o) left) (sym now) (record {
        sorted = made_sorted list entry.0 o walked.sorted;
        made = step list i entry o walked.sorted is (sym made) ∙ walked.made;
        long = omega (arith, shorter list i entry o walked.sorted is, walked.long);
      }))

  -- nothing is left
  pub walked_all : (all now : Claims) (i left : ℕ) → left ≡ 0 → IsWalked again all now i left → now ≡ renewed again all
  walked_all all now i left none walked = go now i (omega (arith, walked.long, none)) ∙ walked.made
    where
      go : (list : Claims) (n : ℕ) → length list ≡ n → list ≡ take n list ++ renewed again (drop n list)
      go [] zero long = refl
      go [] (suc n) long = refl
      go (x ∷ list) zero long = absurd (omega arith)
      go (x ∷ list) (suc n) long = ap (λ es. x ∷ es) (go list n (omega arith))

  pub walked_none : (all : Claims) (left : ℕ) → IsStrictlySortedBy lock_cmp (keys_of all) → length all ≡ left → IsWalked again all all 0 left
  walked_none all left sorted long = record { sorted = sorted; made = refl; long = omega (arith, long) }
