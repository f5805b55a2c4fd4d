-- The set of the locks that are found is the set of the locks of a line's plan, and has sole both locks of what the line moves.
use Rattle.std.proofs.Common.{◌≡◌, ℕ, List, [], ◌∙◌, ap, subst}
use Rattle.std.specs.List.Sorted.{IsStrictlySortedBy}
use Rattle.std.specs.Map.{keys_of}
use Rattle.frang_base.specs.declared.op.Op.{Op}
use Rattle.frang_base.specs.declared.reply.Reply.{Reply}
use Rattle.disk_definitions.specs.Edits.{Edit}
use Rattle.disk_definitions.specs.Covers.{cover_of}
use Rattle.disk_definitions.specs.Plans.{Finish, Lock}
use Rattle.disk_definitions.specs.Plans.Plan.{Finishes}
use Rattle.disk_definitions.specs.Written.{at_hand, hand_of}
use Rattle.disk_definitions.specs.Store.{store_of}
use Rattle.lock_definitions.specs.Order.{lock_cmp}
use Rattle.set_definitions.specs.Sets.{LockSet, joined_all, mode_in}
use Rattle.dir_lookup.specs.declared.hand.Hand.{Hand}
use Rattle.disk_definitions.specs.Lines.{plan_of_line}
use Rattle.disk_definitions.specs.LookedAt.{looked_nodes, nodes_in}
use Rattle.disk_definitions.specs.FoundLocks.{clear_locks, finish_locks, owns_at_hand}
use Rattle.line_locks.proofs.AtHand.{clear_locks_found, finish_locks_found, is_hand, is_of, ran}
use Rattle.line_locks.proofs.Joining.{join_alike, sole_mode}
use Rattle.line_laws.proofs.Laws.{line_moves_are_owned}
use Rattle.plan_locks.specs.Needs.{ClearIsNeeded, FinishIsNeeded, MovesAreSole}

abbrev none : LockSet
none = []

none_sorted : IsStrictlySortedBy lock_cmp (keys_of none)
unfolding IsStrictlySortedBy
none_sorted = tt

module _ (hand : Hand) (segments : ℕ) (looked : List ℕ) (reply : Reply) (edits : List Edit) (set : LockSet) where
  pub finish_needed :
      set ≡ joined_all [] (finish_locks (owns_at_hand hand.sectors.now.entries) hand.held.now (nodes_in segments looked) reply edits) →
      FinishIsNeeded hand segments looked reply edits set
  finish_needed e operation sectors tree birth when same of below nodes locks met =
      let cached = hand.sectors.now.entries in
      let held = hand.held.now in
      let all : List ℕ = looked_nodes (plan_of_line (hand_of cached held hand.all) birth when operation) (at_hand cached held) in
      let by : List ℕ → List Lock = λ nodes. finish_locks (owns_at_hand cached) held nodes reply edits in
      e ∙ ap (λ nodes. joined_all [] (by nodes)) (subst (λ k. nodes_in k looked ≡ all) same nodes)
      ∙ join_alike (by all) locks [] (finish_locks_found operation cached held hand.all sectors tree birth when of below (record { reply = reply; edits = edits; locks = locks }) met) none_sorted

  pub moves_sole : FinishIsNeeded hand segments looked reply edits set → MovesAreSole hand segments looked reply edits set
  moves_sole needed operation sectors tree birth when same of below nodes locks met sector new moved =
      let cached = hand.sectors.now.entries in
      let held = hand.held.now in
      let all = hand.all in
      let finish : Finish = record { reply = reply; edits = edits; locks = locks } in
      let naming = below.stands.naming in
      let is : set ≡ joined_all [] locks = needed operation sectors tree birth when same of below nodes locks met in
      let owned =
      line_moves_are_owned operation (hand_of cached held all) (store_of tree.segments sectors) tree naming birth when finish
      (is_of operation cached held all sectors tree birth when of below) (is_hand operation cached held all sectors tree birth when of below)
      (ran operation cached held all sectors tree birth when of below (Finishes finish) met).1 sector new moved
      in
      (ap (λ one. mode_in one (cover_of naming sector)) is ∙ sole_mode locks (cover_of naming sector) owned.0, ap (λ one. mode_in one new) is ∙ sole_mode locks new owned.1)

pub clear_needed : (segments : ℕ) (looked : List ℕ) (over : Op) (block : ℕ) (set : LockSet) → set ≡ joined_all [] (clear_locks over (nodes_in segments looked) block) → ClearIsNeeded segments looked over block set
clear_needed segments looked over block set e cached held all_held operation sectors tree birth when same of below nodes trail locks walked met =
    let all : List ℕ = looked_nodes (plan_of_line (hand_of cached held all_held) birth when operation) (at_hand cached held) in
    let by : List ℕ → List Lock = λ nodes. clear_locks over nodes block in
    e ∙ ap (λ nodes. joined_all [] (by nodes)) (subst (λ k. nodes_in k looked ≡ all) same nodes)
    ∙ join_alike (by all) locks [] (clear_locks_found operation cached held all_held sectors tree birth when of below over trail block locks walked met) none_sorted
