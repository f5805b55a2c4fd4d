-- When the host reads the tree, says a line of it, and says the end.
use Rattle.std.proofs.Common.{ℕ, ◌≡◌, ◌≤◌, ⊎_elim, Bool, true, ◌&&◌, Some, None, List, [], ◌∷◌, length, IsTrue, refl, sym, ap, ◌∙◌, arith}
use Rattle.std.specs.List.{slice_get}
use Rattle.std.proofs.lemmas.Bool.{and_parts, lt-ltb}
use Rattle.std.proofs.lemmas.Option.{slice_get_cases, slice_get_within}
use Rattle.frang_base.specs.Functions.{member}
use Rattle.frang_base.specs.declared.said.Said.{Said}
use Rattle.core_definitions.specs.Cores.{Core, is_all_answered, tree_lines, tree_needs}
use Rattle.core_definitions.specs.EndGuards.{CanEnd, CanRead, CanShow, IsTreeRead, all_off, is_at_rest, is_tree_read, none_paused}
use Rattle.core_definitions.specs.Logs.{is_none}
use Rattle.core_definitions.specs.Trees.{needed_sectors, read_lines}
use Rattle.core_laws.proofs.Guarding.{Of4, all_4, of_4}
use Rattle.host_tree.specs.Reading.{HostReading, all_lines, needed}
use Rattle.world_ready.specs.Making.{with_tree}

-- ---- the words of the core

module _ (c : Core) (tree : HostReading) (disk : tree.segments ≡ c.setting.segments) where
  pub needs_are : needed tree.segments tree.read ≡ tree_needs (with_tree c tree)
  unfolding needed
  needs_are = ap (λ segments. needed_sectors segments tree.read) disk

  pub lines_are : all_lines tree.segments tree.read ≡ tree_lines (with_tree c tree)
  unfolding all_lines
  lines_are = ap (λ segments. read_lines segments tree.read) disk

  -- the tree is read at rest, once no sector is needed
  pub read_by : (rest whole : Bool) → is_at_rest c ≡ rest → is_none (needed tree.segments tree.read) ≡ whole → is_tree_read (with_tree c tree) ≡ (rest && whole)
  read_by rest whole rests wholes =
      ap (λ r. r && is_none (tree_needs (with_tree c tree))) rests ∙ ap (λ (n : List ℕ). rest && is_none n) (sym needs_are) ∙ ap (λ w. rest && w) wholes

pub none_left : (sectors : List ℕ) → is_none sectors ≡ true → sectors ≡ []
none_left [] none = refl
none_left (sector ∷ sectors) none = absurd (cc)

-- ---- what may happen

module _ (c : Core) where
  rests : is_at_rest c ≡ true → Of4 (is_all_answered c) (all_off c) (is_none c.flights) (none_paused c)
  rests rest = of_4 (is_all_answered c) (all_off c) (is_none c.flights) (none_paused c) rest

  at_rest : IsTrue (is_all_answered c) → IsTrue (all_off c) → IsTrue (is_none c.flights) → IsTrue (none_paused c) → is_at_rest c ≡ true
  at_rest answered off landed free = all_4 (is_all_answered c) (all_off c) (is_none c.flights) (none_paused c) answered off landed free

  pub reads : (sector : ℕ) → is_at_rest c ≡ true → member sector (tree_needs c) ≡ true → CanRead c sector
  reads sector rest needs =
      let r : Of4 (is_all_answered c) (all_off c) (is_none c.flights) (none_paused c) = rests rest in record { answered = r.p0; off = r.p1; landed = r.p2; free = r.p3; needed = needs }

  pub reads_at_rest : {sector : ℕ} → CanRead c sector → is_at_rest c ≡ true
  reads_at_rest can = at_rest can.answered can.off can.landed can.free

  pub tree_is_read : is_tree_read c ≡ true → IsTreeRead c
  tree_is_read read =
      let parts : (is_at_rest c ≡ true) × (is_none (tree_needs c) ≡ true) = and_parts (is_at_rest c) (is_none (tree_needs c)) read in
      let r : Of4 (is_all_answered c) (all_off c) (is_none c.flights) (none_paused c) = rests parts.0 in
      record { answered = r.p0; off = r.p1; landed = r.p2; free = r.p3; whole = parts.1 }

  pub read_is_tree : IsTreeRead c → is_tree_read c ≡ true
  read_is_tree read = and_true (is_at_rest c) (is_none (tree_needs c)) (at_rest read.answered read.off read.landed read.free) read.whole
    where
      and_true : (a b : Bool) → a ≡ true → b ≡ true → (a && b) ≡ true
      and_true a b x y = cc

  pub shows : (place : ℕ) (line : Said) → is_tree_read c ≡ true → place ≡ c.shown → slice_get (tree_lines c) place ≡ Some line → CanShow c place
  shows place line read next there =
      record { read = tree_is_read read; next = next; there = lt-ltb place (length (tree_lines c)) (slice_get_within (tree_lines c) place line there) }

  pub not_below : {X : Type 0} (xs : List X) (n : ℕ) → slice_get xs n ≡ None → length xs ≤ n
  not_below xs n none = ⊎_elim (λ here. absurd (cc (here.2))) (λ past. past.0) (slice_get_cases xs n).1

  pub ends : is_tree_read c ≡ true → slice_get (tree_lines c) c.shown ≡ None → c.shown ≤ length (tree_lines c) → CanEnd c
  ends read none most = record { read = tree_is_read read; said = let least : length (tree_lines c) ≤ c.shown = not_below (tree_lines c) c.shown none in omega arith }
