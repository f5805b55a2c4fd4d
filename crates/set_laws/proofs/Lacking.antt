-- A set lacks one of some locks exactly where it lacks one of the set that they make.
use Rattle.std.proofs.Common.{◌≡◌, Bool, true, false, not, ◌||◌, if◌then◌else◌, List, [], ◌∷◌, Option, Some, None, refl, sym, ap, ◌∙◌}
use Rattle.std.specs.List.{list_any}
use Rattle.std.specs.BTreeMap.{insert_entry}
use Rattle.std.specs.List.Sorted.{IsStrictlySortedBy}
use Rattle.std.specs.Ordering.{is_eq, match_ordering}
use Rattle.std.specs.declared.cmp.Ordering.{Ordering}
use Rattle.std.specs.declared.cmp.Ordering.TheVariants.{Less, Equal, Greater}
use Rattle.frang_base.specs.declared.lock.Mode.{Mode}
use Rattle.frang_base.specs.declared.lock.Mode.TheVariants.{Shared, Sole}
use Rattle.lock_definitions.specs.Calls.{serves}
use Rattle.lock_definitions.specs.Order.{lock_cmp}
use Rattle.lock_definitions.proofs.LockOrder.{found_lock, locks}
use Rattle.disk_definitions.specs.Plans.{Lock}
use Rattle.set_definitions.specs.Sets.{LockSet, joined, joined_all, lacks, mode_in, with_mode}
use Rattle.set_laws.proofs.Entries.{above_more, absent}
use Rattle.set_laws.proofs.Joining.{IsSet, joined_sorted}

-- ---- one of the locks of a set with one more

-- a lock needed in two modes lacks where it lacks in one of them
in_both : (held : Option Mode) (a b : Mode) → not (serves held (with_mode (Some a) b)) ≡ not (serves held a) || not (serves held b)
in_both None Shared Shared = refl
in_both None Shared Sole = refl
in_both None Sole Shared = refl
in_both None Sole Sole = refl
in_both (Some Sole) Shared Shared = refl
in_both (Some Sole) Shared Sole = refl
in_both (Some Sole) Sole Shared = refl
in_both (Some Sole) Sole Sole = refl
in_both (Some Shared) Shared Shared = refl
in_both (Some Shared) Shared Sole = refl
in_both (Some Shared) Sole Shared = refl
in_both (Some Shared) Sole Sole = refl

last : (a b : Bool) → a || b ≡ b || a
last true true = refl
last true false = refl
last false true = refl
last false false = refl

between : (a b c : Bool) → (a || b) || c ≡ (a || c) || b
between true b c = refl
between false true true = refl
between false true false = refl
between false false true = refl
between false false false = refl

past : (a b c : Bool) → a || (b || c) ≡ (a || b) || c
past true b c = refl
past false b c = refl

module _ (set : LockSet) where
  any_joined : (made : LockSet) (need : Lock) → IsSet made → list_any (lacks set) (joined made need) ≡ list_any (lacks set) made || lacks set need
  unfolding IsStrictlySortedBy
  any_joined [] need sorted = last (lacks set need) false
  any_joined (first ∷ made) need sorted = go (lock_cmp need.0 first.0) refl (any_joined made need sorted.1)
    where
      -- with the mode in which the lock is needed before
      go : (o : Ordering) → lock_cmp need.0 first.0 ≡ o → list_any (lacks set) (joined made need) ≡ list_any (lacks set) made || lacks set need →
          list_any (lacks set)
          (match_ordering o ((need.0, with_mode (if is_eq o then Some first.1 else mode_in made need.0) need.1) ∷ first ∷ made)
          ((first.0, with_mode (if is_eq o then Some first.1 else mode_in made need.0) need.1) ∷ made)
          (first ∷ insert_entry lock_cmp made need.0 (with_mode (if is_eq o then Some first.1 else mode_in made need.0) need.1)))
          ≡ (lacks set first || list_any (lacks set) made) || lacks set need
      go Less is rest =
          let none : mode_in made need.0 ≡ None = absent locks need.0 made (above_more locks need.0 first.0 made is sorted.0) in
          ap (λ m. lacks set (need.0, with_mode m need.1) || list_any (lacks set) (first ∷ made)) none ∙ last (lacks set need) (list_any (lacks set) (first ∷ made))
      go Equal is rest =
          let same : first.0 ≡ need.0 = found_lock need.0 first.0 (ap is_eq is) in
          ap (λ b. b || list_any (lacks set) made) (in_both (mode_in set first.0) first.1 need.1 ∙ ap (λ k. lacks set first || lacks set (k, need.1)) same)
          ∙ between (lacks set first) (lacks set need) (list_any (lacks set) made)
      go Greater is rest = ap (λ b. lacks set first || b) rest ∙ past (lacks set first) (list_any (lacks set) made) (lacks set need)

  any_all : (needs : List Lock) (made : LockSet) → IsSet made → list_any (lacks set) (joined_all made needs) ≡ list_any (lacks set) made || list_any (lacks set) needs
  any_all [] made sorted = last false (list_any (lacks set) made)
  any_all (need ∷ needs) made sorted =
      any_all needs (joined made need) (joined_sorted made need sorted) ∙ ap (λ b. b || list_any (lacks set) needs) (any_joined made need sorted)
      ∙ sym (past (list_any (lacks set) made) (lacks set need) (list_any (lacks set) needs))

  pub lacked_as_its_locks : (needs : List Lock) → list_any (lacks set) (joined_all [] needs) ≡ list_any (lacks set) needs
  unfolding IsStrictlySortedBy
  lacked_as_its_locks needs = any_all needs [] tt
