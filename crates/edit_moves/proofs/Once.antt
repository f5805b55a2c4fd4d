-- Each thing is listed once.
use Rattle.std.proofs.Common.{◌≡◌, Bool, true, false, if◌then◌else◌, Option, Some, None, List, [], ◌∷◌, ◌++◌, map, refl, ◌∙◌}
use Rattle.std.specs.List.{AllByRecursion, IsDistinct}
use Rattle.std.proofs.lemmas.Bool.{or_parts}
use Rattle.frang_base.specs.declared.lock.LockId.{LockId}
use Rattle.disk_definitions.specs.Edits.{Edit}
use Rattle.edit_moves.specs.declared.thing.Thing.{Thing}
use Rattle.edit_moves.specs.declared.moves.Move.{Move}
use Rattle.edit_moves.specs.Moves.{has_thing, is_same, lock_by, moves_by, thing_said, with_lock, with_move, with_thing}
use Rattle.edit_moves.proofs.Same.{same_flip}

abbrev things : List Move → List Thing
things moves = map (λ move. move.thing) moves

abbrev pub AreOnce : List Move → Type 0
AreOnce moves = IsDistinct is_same (map (λ move. move.thing) moves)

-- one more that differs from each
differs : (moves : List Move) (move : Move) (moved : Thing) → is_same moved move.thing ≡ false → AllByRecursion (λ t. is_same moved t ≡ false) (things moves) → AllByRecursion (λ t. is_same moved t ≡ false) (things (moves ++ move ∷ []))
differs [] move moved e all = (e, tt)
differs (first ∷ moves) move moved e all = (all.0, differs moves move moved e all.1)

one_more : (moves : List Move) (move : Move) → has_thing moves move.thing ≡ false → AreOnce moves → AreOnce (moves ++ move ∷ [])
unfolding IsDistinct
one_more [] move h once = (tt, tt)
one_more (first ∷ moves) move h once = (
  differs moves move first.thing (same_flip first.thing move.thing ∙ (or_parts (is_same move.thing first.thing) (has_thing moves move.thing) h).0) once.0,
  one_more moves move (or_parts (is_same move.thing first.thing) (has_thing moves move.thing) h).1 once.1,
)

with_one : (moves : List Move) (move : Move) → AreOnce moves → AreOnce (with_move moves move)
with_one moves move once = go (has_thing moves move.thing) refl
  where
    go : (b : Bool) → has_thing moves move.thing ≡ b → AreOnce (if b then moves else moves ++ move ∷ [])
    go true h = once
    go false h = one_more moves move h once

with_said : (edits : List Edit) (moves : List Move) (o : Option Thing) → AreOnce moves → AreOnce (with_thing edits moves o)
with_said edits moves None once = once
with_said edits moves (Some moved) once = go (lock_by edits moved)
  where
    go : (l : Option LockId) → AreOnce (with_lock moves moved l)
    go None = once
    go (Some lock) = with_one moves (record { thing = moved; lock = lock }) once

pub none_once : AreOnce []
unfolding IsDistinct
none_once = tt

pub all_once : (edits rest : List Edit) (moves : List Move) → AreOnce moves → AreOnce (moves_by edits rest moves)
all_once edits [] moves once = once
all_once edits (edit ∷ rest) moves once = all_once edits rest (with_thing edits moves (thing_said edit)) (with_said edits moves (thing_said edit) once)
