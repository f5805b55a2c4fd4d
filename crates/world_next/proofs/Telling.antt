-- The tree at the end, by what the host asks of its reading.
use Rattle.std.proofs.Common.{◌≡◌, ◌≤◌, ℕ, true, List, [], ◌∷◌, Some, None, length, refl, sym, ap, ◌∙◌, subst}
use Rattle.std.specs.List.{slice_get}
use Rattle.frang_base.specs.declared.said.Said.{Said}
use Rattle.core_definitions.specs.Cores.{Core, tree_lines, tree_needs}
use Rattle.core_definitions.specs.EndGuards.{CanEnd, CanRead, CanShow, is_at_rest}
use Rattle.core_definitions.specs.Trees.{TreeRead, needed_sectors, read_lines}
use Rattle.host_tree.specs.Reading.{HostReading, all_lines, needed}
use Rattle.world_next.proofs.Ending.{ends_behind, reads_first, shows_next}

needed_is : (segments : ℕ) (read : TreeRead) → needed segments read ≡ needed_sectors segments read
unfolding needed
needed_is segments read = refl

lines_is : (segments : ℕ) (read : TreeRead) → all_lines segments read ≡ read_lines segments read
unfolding all_lines
lines_is segments read = refl

-- no first, none at all
pub none_needed : (xs : List ℕ) → slice_get xs 0 ≡ None → xs ≡ []
none_needed [] none = refl
none_needed (x ∷ xs) none = absurd (cc)

-- the reading of a core over its disk
module _ (c : Core) (tree : HostReading) (disk : tree.segments ≡ c.setting.segments) (read : c.read ≡ tree.read) (shown : c.shown ≡ tree.shown) (rest : is_at_rest c ≡ true) where
  needs_are : needed tree.segments tree.read ≡ tree_needs c
  needs_are = needed_is tree.segments tree.read ∙ ap (λ (n : ℕ). needed_sectors n tree.read) disk ∙ ap (needed_sectors c.setting.segments) (sym read)

  lines_are : all_lines tree.segments tree.read ≡ tree_lines c
  lines_are = lines_is tree.segments tree.read ∙ ap (λ (n : ℕ). read_lines n tree.read) disk ∙ ap (read_lines c.setting.segments) (sym read)

  pub host_reads : (sector : ℕ) → slice_get (needed tree.segments tree.read) 0 ≡ Some sector → CanRead c sector
  host_reads sector first = reads_first c sector rest (ap (λ (xs : List ℕ). slice_get xs 0) (sym needs_are) ∙ first)

  module _ (whole : slice_get (needed tree.segments tree.read) 0 ≡ None) where
    is_whole : slice_get (tree_needs c) 0 ≡ None
    is_whole = ap (λ (xs : List ℕ). slice_get xs 0) (sym needs_are) ∙ whole

    at_place : slice_get (tree_lines c) c.shown ≡ slice_get (all_lines tree.segments tree.read) tree.shown
    at_place = ap (λ (lines : List Said). slice_get lines c.shown) (sym lines_are) ∙ ap (slice_get (all_lines tree.segments tree.read)) shown

    pub host_shows : (line : Said) → slice_get (all_lines tree.segments tree.read) tree.shown ≡ Some line → CanShow c tree.shown
    host_shows line is = subst (CanShow c) shown (shows_next c line rest is_whole (at_place ∙ is))

    pub host_ends : slice_get (all_lines tree.segments tree.read) tree.shown ≡ None → tree.shown ≤ length (all_lines tree.segments tree.read) → CanEnd c
    host_ends none said = ends_behind c rest is_whole (at_place ∙ none) (subst (λ (n : ℕ). n ≤ length (tree_lines c)) (sym shown) (subst (λ (lines : List Said). tree.shown ≤ length lines) lines_are said))
