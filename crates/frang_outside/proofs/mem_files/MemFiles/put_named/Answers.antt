-- A put file is there, and all others stay.
use Rattle.std.proofs.Common.{rules}
use Rattle.frang_base.specs.Order.{apart}
use Rattle.frang_outside.proofs.mem_files.MemFiles.put_named.Goals as goal

pub returns-clause-ok : goal.returns-clause-ok
returns-clause-ok c = record {
  file = search rules;
  others = λ other differs.
      search (
        rules,
        c.in_ok-insert.ensures.updates.2 other
            (apart c.args.name other differs),
      );
  read_faults = search rules;
}
