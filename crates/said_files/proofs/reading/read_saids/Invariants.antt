use Rattle.std.proofs.Common.{◌≡◌, ◌≤◌, ◌+◌, [], drop}
use Rattle.said_files.specs.Reading.{behind, saids_from}
use Rattle.said_files.proofs.reading.read_saids.Given as goal

abbrev pub invariant-loop-byte : goal.invariant-loop-byte
invariant-loop-byte l = record {
  rest : behind l.saids.items (saids_from l.line l.text.items (drop l.byte-index l.bytes)) ≡ saids_from 1 [] l.bytes;
  few : l.line ≤ l.byte-index + 1;
}
