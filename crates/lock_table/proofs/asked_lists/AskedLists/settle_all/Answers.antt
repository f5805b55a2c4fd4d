-- One list after the other is settled.
use Rattle.std.proofs.Common.{◌+◌, subst, sym, ◌∙◌, arith}
use Rattle.lock_table.specs.Asked.{asked_by, with_made, growth}
use Rattle.lock_table.specs.Kept.{IsListed}
use Rattle.lock_table.proofs.Lists.{AreMade, made_more, made_all, room_more}
use Rattle.lock_table.proofs.asked_lists.AskedLists.settle_all.Goals as goal

pub settle_one-requires-clause-listed : goal.settle_one-requires-clause-listed
settle_one-requires-clause-listed c = subst (λ list. IsListed list c.args.lock (asked_by c.loop-server.server c.args.before.now)) (sym (c.loop-server.invariant.lists.rest c.loop-server.server (omega arith))) (c.requires.listed c.loop-server.server (omega arith))

pub loop-server-preserved : goal.loop-server-preserved
loop-server-preserved c =
    let s = c.loop-server.server in
    let so_far = c.loop-server.invariant in
    record {
      lists = subst (λ lists. AreMade (λ t list. with_made list c.args.lock (asked_by t c.args.now.now)) c.args.self.now.asked lists (s + 1)) (sym c.settle_one.ensures.asked)
          (made_more (λ t list. with_made list c.args.lock (asked_by t c.args.now.now)) c.args.self.now.asked c.loop-server.self.asked s (omega (arith, c.requires.long)) so_far.lists);
      room = room_more (λ t. growth (asked_by t c.args.before.now) (asked_by t c.args.now.now)) c.args.self.now.room c.loop-server.self.room c.settle_one.new.self.room s so_far.room so_far.rest c.settle_one.ensures.own c.settle_one.ensures.others;
      rest = λ t above. c.settle_one.ensures.others t (λ same. omega arith) ∙ so_far.rest t (omega arith);
    }

pub returns-clause-asked : goal.returns-clause-asked
returns-clause-asked c = made_all (λ t list. with_made list c.args.lock (asked_by t c.args.now.now)) c.args.self.now.asked _ c.loop-server.server c.requires.long (omega arith) c.loop-server.invariant.lists
