-- Once the tree is read at rest, its next line is made.
use Rattle.std.proofs.Common.{sym, ap, ◌∙◌}
use Rattle.std.proofs.lemmas.Bool.{false≢true}
use Rattle.core_definitions.specs.Logs.{is_none}
use Rattle.host_tree.specs.Reading.{needed}
use Rattle.world_ready.proofs.LineFresh.{line_made}
use Rattle.world_ready.proofs.TreeEnd.{none_left}
use Rattle.world_ready.proofs.up_to_date.refresh_line.Goals as goal

pub returns-then-not-is_at_rest-clause-ok : goal.returns-then-not-is_at_rest-clause-ok
returns-then-not-is_at_rest-clause-ok c = λ rest whole. absurd (false≢true (sym c.if-not-is_at_rest.true ∙ c.is_at_rest.ensures ∙ rest))

pub returns-then-not-is_read-clause-ok : goal.returns-then-not-is_read-clause-ok
returns-then-not-is_read-clause-ok c = λ rest whole. absurd (false≢true (sym c.if-not-is_read.true ∙ c.is_read.ensures ∙ ap is_none whole))

pub make_line-requires : goal.make_line-requires
make_line-requires c =
    let tree = c.args.tree.now in
    none_left (needed tree.segments tree.read) (sym c.is_read.ensures ∙ c.if-not-is_read.false)

pub returns-clause-ok : goal.returns-clause-ok
returns-clause-ok c = λ rest whole.
    line_made c.args.tree.now c.make_line.new.self (record { segments = c.in_ok-make_line.ensures.segments; read = c.in_ok-make_line.ensures.read; shown = c.in_ok-make_line.ensures.shown }) c.requires c.in_ok-make_line.ensures.ok
