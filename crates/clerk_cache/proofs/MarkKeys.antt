-- The marks of the states are keys of them.
use Rattle.std.proofs.Common.{◌≡◌, Bool, List, [], ◌∷◌, Option, Some, None, refl, ap}
use Rattle.std.specs.List.{cons_option}
use Rattle.std.specs.List.{slice_get}
use Rattle.std.specs.Option.{option_map}
use Rattle.flush_order.specs.declared.Mark.{Mark}
use Rattle.flush_order.specs.Marks.{mark_cmp, by_mark, first_mark}
use Rattle.clerk_cache.specs.Kept.{mark_key, passing_marks, state_mark, state_marks}
use Rattle.clerk_cache.specs.declared.state.SectorState.{SectorState}
use Rattle.clerk_cache.specs.Keys.{with_key, keyed}
use Rattle.clerk_cache.proofs.Joining.{States}

pub keyed_marks : (states : States) → keyed mark_cmp state_mark states ≡ by_mark (state_marks states)
keyed_marks [] = refl
keyed_marks (entry ∷ states) = go (state_mark entry) (keyed_marks states)
  where
    go : (o : Option Mark) → keyed mark_cmp state_mark states ≡ by_mark (state_marks states) → with_key mark_cmp o (keyed mark_cmp state_mark states) ≡ by_mark (cons_option o (state_marks states))
    go None rest = rest
    go (Some mark) rest = ap (with_key mark_cmp (Some mark)) rest

-- the same, of those that pass
pub keyed_passing : (test : SectorState → Bool) (states : States) → keyed mark_cmp (mark_key test) states ≡ by_mark (passing_marks test states)
keyed_passing test [] = refl
keyed_passing test (entry ∷ states) = go (mark_key test entry) (keyed_passing test states)
  where
    go : (o : Option Mark) → keyed mark_cmp (mark_key test) states ≡ by_mark (passing_marks test states) → with_key mark_cmp o (keyed mark_cmp (mark_key test) states) ≡ by_mark (cons_option o (passing_marks test states))
    go None rest = rest
    go (Some mark) rest = ap (with_key mark_cmp (Some mark)) rest

pub first_is : (marks : List (Mark × Unit {0})) → option_map (λ entry. entry.0) (slice_get marks 0) ≡ first_mark marks
first_is [] = refl
first_is (entry ∷ marks) = refl
