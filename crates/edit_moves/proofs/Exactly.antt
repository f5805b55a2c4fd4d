-- The moves that are listed are those that the edits make.
use Rattle.std.proofs.Common.{◌≡◌, ◌||◌, Bool, true, false, if◌then◌else◌, Option, Some, None, Result, Ok, Err, IfOk, List, [], ◌∷◌, ◌++◌, refl, sym, ap, subst, ◌∙◌}
use Rattle.std.specs.List.{list_any}
use Rattle.std.specs.Option.{option_or}
use Rattle.frang_base.specs.declared.lock.LockId.{LockId}
use Rattle.disk_definitions.specs.Edits.{Edit}
use Rattle.disk_definitions.specs.Ask.{Sector, InodeAt, DirectoryAt, SegmentAt, BytesAt, LargeAt}
use Rattle.disk_definitions.specs.Moves.{moved_by}
use Rattle.edit_moves.specs.declared.thing.Thing.{Thing}
use Rattle.edit_moves.specs.declared.thing.Thing.TheVariants as thing
use Rattle.edit_moves.specs.declared.moves.Move.{Move}
use Rattle.edit_moves.specs.Moves.{cover_in, has_thing, is_same, lock_by, lock_in, moves_by, thing_said, with_lock, with_move, with_thing}
use Rattle.edit_moves.proofs.Same.{same_is}
use Rattle.edit_moves.proofs.Found.{is_said, says, unmoved}

or_none : (o : Option LockId) → option_or o None ≡ o
or_none None = refl
or_none (Some l) = refl

or_assoc : (a b c : Option LockId) → option_or (option_or a b) c ≡ option_or a (option_or b c)
or_assoc None b c = refl
or_assoc (Some l) b c = refl

-- ---- a list with a move more

abbrev put_by : Move → Thing → Option LockId
put_by move moved = if is_same moved move.thing then Some move.lock else None

behind : (moves : List Move) (move : Move) (moved : Thing) → lock_in (moves ++ move ∷ []) moved ≡ option_or (lock_in moves moved) (put_by move moved)
behind [] move moved = refl
behind (first ∷ moves) move moved = go (is_same moved first.thing) (behind moves move moved)
  where
    go : (b : Bool) → lock_in (moves ++ move ∷ []) moved ≡ option_or (lock_in moves moved) (put_by move moved)
        → (if b then Some first.lock else lock_in (moves ++ move ∷ []) moved) ≡ option_or (if b then Some first.lock else lock_in moves moved) (put_by move moved)
    go true rest = refl
    go false rest = rest

there : (moves : List Move) (moved : Thing) (more : Option LockId) → has_thing moves moved ≡ true → option_or (lock_in moves moved) more ≡ lock_in moves moved
there [] moved more h = absurd (cc)
there (first ∷ moves) moved more h = go (is_same moved first.thing) (there moves moved more) h
  where
    go : (b : Bool) → (has_thing moves moved ≡ true → option_or (lock_in moves moved) more ≡ lock_in moves moved)
        → (b || has_thing moves moved) ≡ true → option_or (if b then Some first.lock else lock_in moves moved) more ≡ (if b then Some first.lock else lock_in moves moved)
    go true rest h = refl
    go false rest h = rest h

with_one : (moves : List Move) (move : Move) (moved : Thing) → lock_in (with_move moves move) moved ≡ option_or (lock_in moves moved) (put_by move moved)
with_one moves move moved = go (has_thing moves move.thing) refl
  where
    is_there : (b : Bool) → is_same moved move.thing ≡ b → has_thing moves move.thing ≡ true → lock_in moves moved ≡ option_or (lock_in moves moved) (if b then Some move.lock else None)
    is_there false e h = sym (or_none (lock_in moves moved))
    is_there true e h = sym (there moves moved (Some move.lock) (subst (λ t. has_thing moves t ≡ true) (sym (same_is moved move.thing e)) h))

    go : (b : Bool) → has_thing moves move.thing ≡ b → lock_in (if b then moves else moves ++ move ∷ []) moved ≡ option_or (lock_in moves moved) (put_by move moved)
    go true h = is_there (is_same moved move.thing) refl h
    go false h = behind moves move moved

module _ (edits : List Edit) (moved : Thing) where
  -- what a thing that is said adds
  abbrev given : Option Thing → Option LockId
  given None = None
  given (Some other) = if is_same moved other then lock_by edits other else None

  with_given : (moves : List Move) (o : Option Thing) → lock_in (with_thing edits moves o) moved ≡ option_or (lock_in moves moved) (given o)
  with_given moves None = sym (or_none (lock_in moves moved))
  with_given moves (Some other) = go (lock_by edits other)
    where
      nothing : (b : Bool) → lock_in moves moved ≡ option_or (lock_in moves moved) (if b then None else None)
      nothing true = sym (or_none (lock_in moves moved))
      nothing false = sym (or_none (lock_in moves moved))

      go : (l : Option LockId) → lock_in (with_lock moves other l) moved ≡ option_or (lock_in moves moved) (if is_same moved other then l else None)
      go None = nothing (is_same moved other)
      go (Some lock) = with_one moves (record { thing = other; lock = lock }) moved

  abbrev all_given : List Edit → Option LockId
  all_given [] = None
  all_given (edit ∷ rest) = option_or (given (thing_said edit)) (all_given rest)

  with_all : (rest : List Edit) (moves : List Move) → lock_in (moves_by edits rest moves) moved ≡ option_or (lock_in moves moved) (all_given rest)
  with_all [] moves = sym (or_none (lock_in moves moved))
  with_all (edit ∷ rest) moves =
      with_all rest (with_thing edits moves (thing_said edit))
      ∙ ap (λ o. option_or o (all_given rest)) (with_given moves (thing_said edit))
      ∙ or_assoc (lock_in moves moved) (given (thing_said edit)) (all_given rest)

  -- the first edit that says the thing gives its lock
  abbrev Quiet : List Edit → Type 0
  Quiet rest = list_any (says moved) rest ≡ false → lock_by edits moved ≡ None

  by_lock : (rest : List Edit) (l : Option LockId) → lock_by edits moved ≡ l → (Quiet rest → all_given rest ≡ lock_by edits moved) → option_or l (all_given rest) ≡ l
  by_lock rest None e more = more (λ q. e) ∙ e
  by_lock rest (Some lock) e more = refl

  by_same : (rest : List Edit) (other : Thing) (b : Bool) → is_same moved other ≡ b → ((b || list_any (says moved) rest) ≡ false → lock_by edits moved ≡ None)
      → (Quiet rest → all_given rest ≡ lock_by edits moved) → option_or (if b then lock_by edits other else None) (all_given rest) ≡ lock_by edits moved
  by_same rest other true e quiet more =
      subst (λ t. option_or (lock_by edits t) (all_given rest) ≡ lock_by edits moved) (same_is moved other e) (by_lock rest (lock_by edits moved) refl more)
  by_same rest other false e quiet more = more quiet

  by_thing : (rest : List Edit) (o : Option Thing) → ((is_said moved o || list_any (says moved) rest) ≡ false → lock_by edits moved ≡ None)
      → (Quiet rest → all_given rest ≡ lock_by edits moved) → option_or (given o) (all_given rest) ≡ lock_by edits moved
  by_thing rest None quiet more = more quiet
  by_thing rest (Some other) quiet more = by_same rest other (is_same moved other) refl quiet more

  all_is : (rest : List Edit) → Quiet rest → all_given rest ≡ lock_by edits moved
  all_is [] quiet = sym (quiet refl)
  all_is (edit ∷ rest) quiet = by_thing rest (thing_said edit) quiet (all_is rest)

  pub listed : lock_in (moves_by edits edits []) moved ≡ lock_by edits moved
  listed = with_all edits [] ∙ all_is edits (unmoved edits moved)

pub exact : (edits : List Edit) (sector : Sector) → cover_in (moves_by edits edits []) sector ≡ moved_by edits sector
exact edits (InodeAt i) = listed edits (thing.Inode i)
exact edits (DirectoryAt k part) = listed edits (thing.Small k)
exact edits (SegmentAt g) = refl
exact edits (BytesAt k part) = listed edits (thing.Small k)
exact edits (LargeAt g part) = listed edits (thing.Large g)

-- what holds of an answer by another fact of it
pub by_ok : {A E : Type 0} (r : Result A E) (P Q : A → Type 0) → ((a : A) → P a → Q a) → IfOk r P → IfOk r Q
by_ok (Ok a) P Q f p = f a p
by_ok (Err e) P Q f p = tt
