-- The bytes of the sectors, cut to what is shown.
use Rattle.std.proofs.Common.{◌≡◌, ◌+◌, ◌-◌, ◌/◌, ◌≤◌, min, Err, subst, sym, arith, rules, ◌∙◌}
use Rattle.disk_definitions.specs.Store.{stored}
use Rattle.disk_definitions.specs.FilePlans.{sectors_met, showing}
use Rattle.dir_lookup.specs.Hands.{over}
use Rattle.plan_steps.specs.Ends.{Says}
use Rattle.op_data.specs.Files.{ReadsSectors}
use Rattle.op_data.proofs.Shown.{bytes_shown, past_the_end, sectors_shown, sectors_stop, shows}
use Rattle.op_data.proofs.read.show.Goals as goal

pub returns-then-off-size : goal.returns-then-off-size
returns-then-off-size c i touched = past_the_end c.args.off c.args.len i touched (stored c.args.inode.now) c.args.hand.now (omega arith)

pub returns-in_err-bytes : goal.returns-in_err-bytes
returns-in_err-bytes c i touched =
    let hand = c.args.hand.now in
    let x = stored c.args.inode.now in
    let off = c.args.off in
    let count = c.min-count.result in
    let n = off / 512 + c.sectors_met.result - off / 512 in
    let l : off ≤ x.size = omega arith in
    let a : count ≡ min c.args.len (x.size - off) = search rules in
    let m : n ≡ sectors_met off count = let k : n ≡ c.sectors_met.result = omega arith in k ∙ c.sectors_met.ensures.is in
    let e : c.from_residual.result ≡ Err c.in_err-bytes.field-0.0 = search rules in
    subst (Says (over (showing off c.args.len i touched x) hand)) (sym e)
    (sectors_stop hand x (off / 512) n (shows off c.args.len i touched x hand count) (over (showing off c.args.len i touched x) hand) c.in_err-bytes.field-0.0
    (sectors_shown off c.args.len i touched x hand count n l a m) (subst (ReadsSectors hand x (off / 512) n) c.in_err-bytes.was c.bytes_of.ensures.reads))

pub returns : goal.returns
returns c i touched =
    let hand = c.args.hand.now in
    let x = stored c.args.inode.now in
    let off = c.args.off in
    let count = c.min-count.result in
    let n = off / 512 + c.sectors_met.result - off / 512 in
    let l : off ≤ x.size = omega arith in
    let a : count ≡ min c.args.len (x.size - off) = search rules in
    let m : n ≡ sectors_met off count = let k : n ≡ c.sectors_met.result = omega arith in k ∙ c.sectors_met.ensures.is in
    bytes_shown off c.args.len i touched x hand count n c.in_ok-bytes.bytes c.in_ok-shown.shown (sectors_shown off c.args.len i touched x hand count n l a m)
    (subst (ReadsSectors hand x (off / 512) n) c.in_ok-bytes.was c.bytes_of.ensures.reads) (search rules)
