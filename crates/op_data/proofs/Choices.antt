-- The plan by its choices: what is refused, and what is picked.
use Rattle.std.proofs.Common.{◌≡◌, ◌==◌, ◌&&◌, ◌<◌, ◌≤◌, ◌-◌, ℕ, Bool, true, false, cond, nat_lt, max, Option, None, List, [], refl, sym, ap, ◌∙◌, eq-eqb, ne_eqb, lt-ltb}
use Rattle.std.proofs.lemmas.Bool.{le-ltb}
use Rattle.frang_base.specs.declared.reply.Reply.TheVariants as reply
use Rattle.tree_definitions.specs.Tree.{small_blocks_of}
use Rattle.disk_definitions.specs.Store.{StoredNode}
use Rattle.disk_definitions.specs.Picks.{picked_large, picked_many}
use Rattle.disk_definitions.specs.Ask.{Ask}
use Rattle.disk_definitions.specs.Plans.{Plan, read_held, refused}
use Rattle.disk_definitions.specs.FilePlans.{Writing, end_of, writing, writing_in, writing_large, writing_picked, writing_small}
use Rattle.dir_lookup.specs.Hands.{over, seen}
use Rattle.dir_lookup.specs.declared.hand.Hand.{Hand}
use Rattle.plan_steps.proofs.AtHand.{held_at_hand}

module _ (hand : Hand) (w : Writing) (i : ℕ) (touched : List ℕ) (x : StoredNode) where
  -- ---- the small blocks
  -- how many are wanted
  abbrev pub wanted : ℕ
  wanted = small_blocks_of (max x.size (end_of w)) - x.blocks

  -- the plan by whether none is
  small_by : Option ℕ → Bool → Ask Plan
  small_by large b = cond b (writing_in w i touched x [] large) (read_held (seen hand) (writing_picked (seen hand) w i touched x large (picked_many hand.held.now wanted)))

  pub none_wanted : (large : Option ℕ) → wanted ≡ 0 → over (writing_in w i touched x [] large) hand ≡ over (writing_small (seen hand) w i touched x large) hand
  unfolding small_by
  none_wanted large e = ap (λ b. over (small_by large b) hand) (sym (eq-eqb wanted 0 e))

  pub some_wanted : (large : Option ℕ) (o : Option (List ℕ)) → (wanted ≡ 0 → ⊥) → picked_many hand.held.now wanted ≡ o
      → over (writing_picked (seen hand) w i touched x large o) hand ≡ over (writing_small (seen hand) w i touched x large) hand
  unfolding small_by
  some_wanted large o e p =
      ap (λ o. over (writing_picked (seen hand) w i touched x large o) hand) (sym p) ∙ sym (held_at_hand (seen hand) hand.sectors.now.entries (writing_picked (seen hand) w i touched x large (picked_many hand.held.now wanted)))
      ∙ ap (λ b. over (small_by large b) hand) (sym (ne_eqb wanted 0 e))

  -- ---- the range, and the large block
  -- the plan by its three tests
  by_tests : Bool → Bool → Bool → Ask Plan
  by_tests a b c =
      cond a (refused reply.BadOffset touched)
      (cond b (refused reply.TooBig touched) (cond c (read_held (seen hand) (writing_large (seen hand) w i touched x (picked_large hand.held.now))) (writing_small (seen hand) w i touched x None)))

  -- these are what the tests say
  abbrev tested : (a b c : Bool) → Type 0
  tested a b c = over (by_tests a b c) hand ≡ over (writing (seen hand) w i touched x) hand

  as_tested : (a b c : Bool) → nat_lt x.size w.off ≡ a → nat_lt 1114112 (end_of w) ≡ b → (nat_lt 65536 (end_of w) && x.large == 0) ≡ c → tested a b c
  unfolding by_tests
  as_tested a b c ea eb ec =
      sym (ap (λ a. over (by_tests a (nat_lt 1114112 (end_of w)) (nat_lt 65536 (end_of w) && x.large == 0)) hand) ea
      ∙ ap (λ b. over (by_tests a b (nat_lt 65536 (end_of w) && x.large == 0)) hand) eb ∙ ap (λ c. over (by_tests a b c) hand) ec)

  pub bad_offset : x.size < w.off → over (refused reply.BadOffset touched) hand ≡ over (writing (seen hand) w i touched x) hand
  unfolding by_tests
  bad_offset l = as_tested true (nat_lt 1114112 (end_of w)) (nat_lt 65536 (end_of w) && x.large == 0) (lt-ltb x.size w.off l) refl refl

  pub too_big : w.off ≤ x.size → 1114112 < end_of w → over (refused reply.TooBig touched) hand ≡ over (writing (seen hand) w i touched x) hand
  unfolding by_tests
  too_big o l = as_tested false true (nat_lt 65536 (end_of w) && x.large == 0) (le-ltb x.size w.off o) (lt-ltb 1114112 (end_of w) l) refl

  pub has_large : w.off ≤ x.size → end_of w ≤ 1114112 → (nat_lt 65536 (end_of w) && x.large == 0) ≡ false
      → over (writing_small (seen hand) w i touched x None) hand ≡ over (writing (seen hand) w i touched x) hand
  unfolding by_tests
  has_large o l n = as_tested false false false (le-ltb x.size w.off o) (le-ltb 1114112 (end_of w) l) n

  pub large_wanted : w.off ≤ x.size → end_of w ≤ 1114112 → (nat_lt 65536 (end_of w) && x.large == 0) ≡ true → (g : Option ℕ) → picked_large hand.held.now ≡ g
      → over (writing_large (seen hand) w i touched x g) hand ≡ over (writing (seen hand) w i touched x) hand
  unfolding by_tests
  large_wanted o l n g p =
      ap (λ g. over (writing_large (seen hand) w i touched x g) hand) (sym p) ∙ sym (held_at_hand (seen hand) hand.sectors.now.entries (writing_large (seen hand) w i touched x (picked_large hand.held.now)))
      ∙ as_tested false false true (le-ltb x.size w.off o) (le-ltb 1114112 (end_of w) l) n
