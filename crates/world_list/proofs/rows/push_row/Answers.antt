-- One more server, and then the host.
use Rattle.std.proofs.Common.{◌≡◌, ℕ, arith, subst}
use Rattle.std.specs.List.{flat_map}
use Rattle.std.proofs.lemmas.Result.{on_ok_weaker}
use Rattle.tree_definitions.specs.Numbers.{below}
use Rattle.world_list.specs.Listing.{AddsOf}
use Rattle.world_list.specs.Rows.{party_events}
use Rattle.world_list.proofs.RowsAdded.{party_added, row_added}
use Rattle.world_list.proofs.rows.push_row.Goals as goal

pub loop-a-preserved : goal.loop-a-preserved
loop-a-preserved c = party_added c.args.world.now c.args.row c.args.list.now.items c.loop-a.list.items c.push_party.new.list.items c.loop-a.a c.loop-a.invariant c.in_ok-push_party.ensures

pub returns : goal.returns
returns c =
    let all : c.loop-a.a ≡ 16 = omega arith in
    on_ok_weaker c.push_party-2.result
    (row_added c.args.world.now c.args.row c.args.list.now.items c.loop-a.list.items c.push_party-2.new.list.items
    (subst (λ (n : ℕ). AddsOf c.args.list.now.items c.loop-a.list.items (λ tree. flat_map (λ a. party_events c.args.world.now c.args.row a tree) (below n))) all c.loop-a.invariant))
    c.push_party-2.ensures
