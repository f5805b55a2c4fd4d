-- Byte after byte.
use Rattle.std.proofs.Common.{◌≡◌, ◌<◌, ◌≤◌, ◌+◌, ◌*◌, ℕ, length, get_or, slice_index, sym, ap, ◌∙◌, arith, rules}
use Rattle.std.proofs.Math.ListN.{length-set}
use Rattle.disk_definitions.specs.FilePlans.{byte_over, mixed}
use Rattle.op_data.specs.Writings.{writing_of}
use Rattle.op_data.proofs.Setting.{past_end, set_all, set_more}
use Rattle.op_data.proofs.Mixed.{byte_here, mixed_below, mixed_past}
use Rattle.op_data.proofs.writing.Writing.mixed.Goals as goal

pub loop-r-preserved : goal.loop-r-preserved
loop-r-preserved c =
    let old : ℕ → ℕ = slice_index c.args.around.now in
    let f : ℕ → ℕ = λ i. byte_over (writing_of c.args.self.now) (512 * c.args.t + i) (old i) in
    let n : c.loop-r.r < 512 = omega arith in
    let l : c.loop-r.r < length c.loop-r.block = omega (arith, c.loop-r.invariant.size) in
    let at : c.from.result + c.loop-r.r ≡ 512 * c.args.t + c.loop-r.r = search rules in
    let v : c.byte_over.result ≡ f c.loop-r.r =
    c.byte_over.ensures ∙ ap (λ at. byte_over (writing_of c.args.self.now) at (get_or c.loop-r.block c.loop-r.r 0)) at
    ∙ ap (byte_over (writing_of c.args.self.now) (512 * c.args.t + c.loop-r.r)) (byte_here c.loop-r.block f old c.loop-r.r c.loop-r.invariant.set) in
    record { size = length-set c.loop-r.block c.loop-r.r c.byte_over.result ∙ c.loop-r.invariant.size; set = set_more c.loop-r.block f old c.loop-r.r c.byte_over.result l v c.loop-r.invariant.set }

pub returns : goal.returns
returns c =
    let w = writing_of c.args.self.now in
    let old : ℕ → ℕ = slice_index c.args.around.now in
    let f : ℕ → ℕ = λ i. byte_over w (512 * c.args.t + i) (old i) in
    let l : 512 ≤ c.loop-r.r = omega arith in
    let n : length c.loop-r.block ≡ 512 = c.loop-r.invariant.size in
    set_all c.loop-r.block f old (mixed w c.args.t old) 512 c.loop-r.r l (mixed_below w c.args.t old) (λ i m. past_end c.loop-r.block 512 i n m ∙ sym (mixed_past w c.args.t old i m)) c.loop-r.invariant.set
