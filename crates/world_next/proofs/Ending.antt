-- The host's next line, closes, and the tree.
use Rattle.std.proofs.Common.{◌≡◌, ◌<◌, ◌≤◌, ⊎_elim, ℕ, true, false, ◌==◌, IsTrue, Some, None, List, [], ◌∷◌, length, refl, ap, ◌∙◌, sym, subst, arith}
use Rattle.std.specs.List.{slice_get}
use Rattle.std.proofs.lemmas.Option.{slice_get_cases, slice_get_within}
use Rattle.std.proofs.lemmas.Bool.{eqb-true, false≢true, ltb-true, lt-ltb}
use Rattle.frang_base.specs.declared.limits.TheConstants.{SERVERS}
use Rattle.frang_base.specs.declared.said.Said.{Said}
use Rattle.frang_base.specs.declared.script.Line.{Line}
use Rattle.core_definitions.specs.Cores.{Core, is_all_answered, next_of, tree_lines, tree_needs}
use Rattle.core_definitions.specs.EndGuards.{CanClose, CanEnd, CanHost, CanRead, CanShow, IsTreeRead, all_off, is_at_rest, may_close, may_host, none_paused}
use Rattle.core_definitions.specs.LineGuards.{is_line}
use Rattle.core_definitions.specs.Logs.{is_none}
use Rattle.core_definitions.specs.Scripts.{host_party}
use Rattle.world_next.proofs.Firsts.{first_in}
use Rattle.core_laws.proofs.Guarding.{Of4, all_4, close_may, host_may, of_4}
use Rattle.world_next.specs.NoEvents.{NoneOfTree}

module _ (c : Core) where
  -- ---- the host's next line

  pub no_line_without : next_of c host_party ≡ None → (number : ℕ) → CanHost c number → ⊥
  no_line_without none number can = false≢true (ap (is_line (λ line. line.number == number)) (sym none) ∙ can.next)

  -- a line that may be answered is the next
  pub no_line_but : (line : Line) → next_of c host_party ≡ Some line → may_host c line.number ≡ false → (number : ℕ) → CanHost c number → ⊥
  no_line_but line is not_it number can =
      false≢true (sym not_it ∙ subst (λ n. IsTrue (may_host c n)) (sym (eqb-true line.number number (ap (is_line (λ l. l.number == number)) (sym is) ∙ can.next))) (host_may c number can))

  -- ---- closes

  pub no_close : ((a : ℕ) → a < SERVERS → may_close c a ≡ false) → (a : ℕ) → CanClose c a → ⊥
  no_close none a can = false≢true (sym (none a (ltb-true a SERVERS can.server)) ∙ close_may c a can)

  -- ---- the tree

  rests : IsTrue (is_all_answered c) → IsTrue (all_off c) → IsTrue (is_none c.flights) → IsTrue (none_paused c) → IsTrue (is_at_rest c)
  rests answered off landed free = all_4 (is_all_answered c) (all_off c) (is_none c.flights) (none_paused c) answered off landed free

  -- nothing of it before it rests
  pub no_tree_before : is_at_rest c ≡ false → NoneOfTree c
  no_tree_before restless = record {
    read = λ sector can. false≢true (sym restless ∙ rests can.answered can.off can.landed can.free);
    show = λ place can. false≢true (sym restless ∙ rests can.read.answered can.read.off can.read.landed can.read.free);
    end = λ can. false≢true (sym restless ∙ rests can.read.answered can.read.off can.read.landed can.read.free);
  }

  at_rest : is_at_rest c ≡ true → Of4 (is_all_answered c) (all_off c) (is_none c.flights) (none_paused c)
  at_rest rest = of_4 (is_all_answered c) (all_off c) (is_none c.flights) (none_paused c) rest

  pub reads_first : (sector : ℕ) → is_at_rest c ≡ true → slice_get (tree_needs c) 0 ≡ Some sector → CanRead c sector
  reads_first sector rest first =
      let r : Of4 (is_all_answered c) (all_off c) (is_none c.flights) (none_paused c) = at_rest rest in
      record { answered = r.p0; off = r.p1; landed = r.p2; free = r.p3; needed = first_in sector (tree_needs c) first }

  is_empty : {X : Type 0} (xs : List X) → slice_get xs 0 ≡ None → is_none xs ≡ true
  is_empty [] none = refl
  is_empty (x ∷ xs) none = absurd (cc)

  tree_read : is_at_rest c ≡ true → slice_get (tree_needs c) 0 ≡ None → IsTreeRead c
  tree_read rest none =
      let r : Of4 (is_all_answered c) (all_off c) (is_none c.flights) (none_paused c) = at_rest rest in
      record { answered = r.p0; off = r.p1; landed = r.p2; free = r.p3; whole = is_empty (tree_needs c) none }

  not_below : {X : Type 0} (xs : List X) (n : ℕ) → slice_get xs n ≡ None → length xs ≤ n
  not_below xs n is = ⊎_elim (λ here. absurd (cc (here.2))) (λ past. past.0) (slice_get_cases xs n).1

  pub shows_next : (line : Said) → is_at_rest c ≡ true → slice_get (tree_needs c) 0 ≡ None → slice_get (tree_lines c) c.shown ≡ Some line → CanShow c c.shown
  shows_next line rest none is = record { read = tree_read rest none; next = refl; there = lt-ltb c.shown (length (tree_lines c)) (slice_get_within (tree_lines c) c.shown line is) }

  pub ends_behind : is_at_rest c ≡ true → slice_get (tree_needs c) 0 ≡ None → slice_get (tree_lines c) c.shown ≡ None → c.shown ≤ length (tree_lines c) → CanEnd c
  ends_behind rest none is said = record { read = tree_read rest none; said = let least : length (tree_lines c) ≤ c.shown = not_below (tree_lines c) c.shown is in omega arith }
