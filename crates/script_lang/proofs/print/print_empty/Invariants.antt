-- As many line feeds are printed as turns are done.
use Rattle.std.proofs.Common.{◌≡◌, ◌++◌, replicate}
use Rattle.script_lang.proofs.print.print_empty.Given as goal

abbrev pub invariant-loop-printed : goal.invariant-loop-printed
invariant-loop-printed l = l.to.items ≡ l.fn.to.items ++ replicate l._printed 10
