-- A refused put leaves none of its own in the record.
use Rattle.std.proofs.Common.{Err, subst}
use Rattle.frang_outside.specs.declared.outside.PutFault.TheVariants as put
use Rattle.frang_outside.specs.Outside.{PutOutcome}
use Rattle.opening.proofs.Putting.{failed_one, wanting_one}
use Rattle.opening.proofs.puts.put_sector.Goals as goal

pub returns-in-Err-Failed : goal.returns-in-Err-Failed
returns-in-Err-Failed g c =
    let before = g.O.Outside.state c.args.out.now in
    let after = g.O.Outside.state c.put.new.self in
    failed_one before after c.args.sector c.args.block c.put.ensures.counts
    (subst (λ made. PutOutcome before after made (Err put.Failed)) c.opening_put.ensures
    (subst (λ fault. PutOutcome before after c.opening_put.result (Err fault)) c.in-Err-Failed.field-0-is c.in-Err-Failed.ensures.outcome))

pub returns-in-Err-NoMemory : goal.returns-in-Err-NoMemory
returns-in-Err-NoMemory g c =
    let before = g.O.Outside.state c.args.out.now in
    let after = g.O.Outside.state c.put.new.self in
    wanting_one before after (c.args.sector.0, c.args.block) c.put.ensures.counts
    (subst (λ made. PutOutcome before after made (Err put.NoMemory)) c.opening_put.ensures
    (subst (λ fault. PutOutcome before after c.opening_put.result (Err fault)) c.in-Err-NoMemory.field-0-is c.in-Err-NoMemory.ensures.outcome))
