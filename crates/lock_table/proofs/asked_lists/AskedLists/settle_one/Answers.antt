-- One list is settled.
use Rattle.std.proofs.Common.{◌≡◌, ◌<◌, [], length, map, set, get_or, sym, ap, ◌∙◌, arith}
use Rattle.std.specs.Map.{lookup}
use Rattle.lock_definitions.specs.Order.{is_lock}
use Rattle.lock_table.specs.Asked.{asked_by, asked_kept, with_made, growth}
use Rattle.lock_table.proofs.Lists.{asked_before, asked_after, room_before, room_own, room_other}
use Rattle.lock_table.proofs.asked_lists.AskedLists.settle_one.Goals as goal

pub settle-requires-clause-listed : goal.settle-requires-clause-listed
settle-requires-clause-listed c =
    let list = asked_before c.self.inside.lists c.args.server.0 (omega (arith, c.requires.server, c.self.invariant)) c.index-self-server.result in
    ap (lookup (is_lock c.args.lock)) (sym list ∙ ap (λ kept. get_or kept.asked c.args.server.0 []) c.self.view_is) ∙ c.requires.listed.found ∙ sym c.asked_for.ensures

pub settle-requires-clause-same : goal.settle-requires-clause-same
settle-requires-clause-same c =
    let list = sym (asked_before c.self.inside.lists c.args.server.0 (omega (arith, c.requires.server, c.self.invariant)) c.index-self-server.result) ∙ ap (λ kept. get_or kept.asked c.args.server.0 []) c.self.view_is in
    (λ i. with_made (list i) c.args.lock (c.asked_for.ensures i)) ∙ c.requires.listed.same ∙ sym list

pub settle-requires-clause-room : goal.settle-requires-clause-room
settle-requires-clause-room c =
    let room = sym (room_before c.self.inside.lists c.args.server.0 (omega (arith, c.requires.server, c.self.invariant)) c.index-self-server.result) ∙ ap (λ kept. get_or kept.room c.args.server.0 0) c.self.view_is in
    let grown : growth c.asked_for.result c.asked_for-asked.result ≡ growth (asked_by c.args.server.0 c.args.before.now) (asked_by c.args.server.0 c.args.now.now) = λ i. growth (c.asked_for.ensures i) (c.asked_for-asked.ensures i) in
    omega (arith, room, grown, c.requires.room)

pub returns-clause-asked : goal.returns-clause-asked
returns-clause-asked c =
    let s = c.args.server.0 in
    let lists = c.self.inside.lists in
    let inside : s < length lists = omega (arith, c.requires.server, c.self.invariant) in
    let list = sym (asked_before lists s inside c.index-self-server.result) in
    asked_after lists s inside c.settle.new.self
    ∙ ap (set (map asked_kept lists) s) (c.settle.ensures.asked ∙ (λ i. with_made (list i) c.args.lock (c.asked_for-asked.ensures i)))
    ∙ ap (λ kept. set kept.asked s (with_made (get_or kept.asked s []) c.args.lock (asked_by s c.args.now.now))) c.self.view_is

pub returns-clause-own : goal.returns-clause-own
returns-clause-own c =
    let s = c.args.server.0 in
    let lists = c.self.inside.lists in
    let inside : s < length lists = omega (arith, c.requires.server, c.self.invariant) in
    let before = ap (λ kept. get_or kept.room s 0) (sym c.self.view_is) ∙ room_before lists s inside c.index-self-server.result in
    let grown : growth c.asked_for.result c.asked_for-asked.result ≡ growth (asked_by s c.args.before.now) (asked_by s c.args.now.now) = λ i. growth (c.asked_for.ensures i) (c.asked_for-asked.ensures i) in
    omega (arith, before, c.settle.ensures.room, room_own lists s inside c.settle.new.self, grown)

pub returns-clause-others : goal.returns-clause-others
returns-clause-others c = λ other apart.
    room_other c.self.inside.lists c.args.server.0 (omega (arith, c.requires.server, c.self.invariant)) c.settle.new.self other apart ∙ ap (λ kept. get_or kept.room other 0) c.self.view_is
