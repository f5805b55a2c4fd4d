-- The next line of a tree that is read is made up to date.
use Rattle.std.proofs.Common.{◌≡◌, ◌≤◌, true, length, ap, ◌∙◌, arith}
use Rattle.host_tree.specs.Reading.{HostReading, all_lines}
use Rattle.world_next.specs.Fresh.{IsLineMade}
use Rattle.world_ready.specs.Trees.{IsSaidInTime, SameReading}

pub line_made : (was tree : HostReading) → SameReading was tree → IsSaidInTime was → tree.is_made ≡ true → IsLineMade tree
line_made was tree same in_time made = record { made = made; said = still }
  where
    still : tree.shown ≤ length (all_lines tree.segments tree.read)
    still =
        let lines_same : all_lines tree.segments tree.read ≡ all_lines was.segments was.read = ap (λ n. all_lines n tree.read) same.segments ∙ ap (all_lines was.segments) same.read in
        let most : was.shown ≤ length (all_lines was.segments was.read) = in_time.most in
        let length_same : length (all_lines tree.segments tree.read) ≡ length (all_lines was.segments was.read) = ap length lines_same in
        let shown_same : tree.shown ≡ was.shown = same.shown in
        omega arith
