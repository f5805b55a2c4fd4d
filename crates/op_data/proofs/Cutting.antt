-- What a truncate comes to, by the size of the file and the segments that are held.
use Rattle.std.proofs.Common.{◌≡◌, ℕ, zero, suc, ◌+◌, ◌<◌, ◌≤◌, Bool, true, false, cond, nat_lt, List, [], ◌∷◌, ◌++◌, length, map, take, drop, slice_index, refl, sym, ap, ◌∙◌, arith}
use Rattle.std.proofs.Math.Seq.{take-suc}
use Rattle.std.proofs.lemmas.Bool.Decides.{nat_tests}
use Rattle.std.proofs.lemmas.List.{get_or-drop, length-drop, map-append}
use Rattle.frang_base.specs.declared.reply.Reply.TheVariants as reply
use Rattle.tree_definitions.specs.Numbers.{below}
use Rattle.disk_definitions.specs.Store.{StoredNode}
use Rattle.disk_definitions.specs.Plans.{Finish, refused, shared_nodes}
use Rattle.disk_definitions.specs.Plans.Plan.{Finishes}
use Rattle.disk_definitions.specs.NamePlans.{finish_over}
use Rattle.disk_definitions.specs.FilePlans.{cut_by, cut_segments, cutting}
use Rattle.dir_lookup.specs.Reading.{Gives, Lacks}
use Rattle.dir_lookup.specs.Hands.{over}
use Rattle.dir_lookup.specs.declared.hand.Hand.{Hand}
use Rattle.disk_definitions.specs.Edits.{Edit}
use Rattle.plan_steps.specs.Ends.{IsDone}

-- the numbers of a list from a place on
pub from_place : (xs : List ℕ) (from n : ℕ) → from + n ≤ length xs → map (λ i. slice_index xs (from + i)) (below n) ≡ take n (drop from xs)
from_place xs from zero l = refl
from_place xs from (suc n) l =
    let d : n < length (drop from xs) = omega (arith, length-drop from xs) in
    map-append (λ i. slice_index xs (from + i)) (below n) (n ∷ [])
    ∙ ap (λ (first : List ℕ). first ++ slice_index xs (from + n) ∷ []) (from_place xs from n (omega arith))
    ∙ ap (λ (x : ℕ). take n (drop from xs) ++ x ∷ []) (sym (get_or-drop from xs n 0))
    ∙ sym (take-suc (drop from xs) n 0 d)

module _ (when len i : ℕ) (touched : List ℕ) (x : StoredNode) (hand : Hand) where
  pub past_the_end : x.size < len → IsDone reply.BadOffset [] (over (cutting when len i touched x) hand)
  past_the_end l =
      let t : nat_lt x.size len ≡ true = grind (arith, nat_tests) in
      (shared_nodes touched, ap (λ (b : Bool). over (cond b (refused reply.BadOffset touched) (finish_over (cut_segments x len) (cut_by when i touched x len))) hand) t)

  within : len ≤ x.size → over (cutting when len i touched x) hand ≡ over (finish_over (cut_segments x len) (cut_by when i touched x len)) hand
  within l =
      let t : nat_lt x.size len ≡ false = grind (arith, nat_tests) in
      ap (λ (b : Bool). over (cond b (refused reply.BadOffset touched) (finish_over (cut_segments x len) (cut_by when i touched x len))) hand) t

  pub cut_done : (edits : List Edit) → len ≤ x.size → ((finish : Finish) → over (finish_over (cut_segments x len) finish) hand ≡ Gives (Finishes finish))
      → edits ≡ (cut_by when i touched x len).edits → IsDone reply.Ok edits (over (cutting when len i touched x) hand)
  cut_done edits l h e =
      let finish = cut_by when i touched x len in
      (finish.locks, within l ∙ h finish ∙ ap (λ (edits : List Edit). Gives (Finishes (record { reply = reply.Ok; edits = edits; locks = finish.locks }))) (sym e))

  pub cut_lacks : (s : ℕ) → len ≤ x.size → ((finish : Finish) → over (finish_over (cut_segments x len) finish) hand ≡ Lacks s) → over (cutting when len i touched x) hand ≡ Lacks s
  cut_lacks s l h = within l ∙ h (cut_by when i touched x len)
