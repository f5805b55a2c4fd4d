-- What is written, and then the digits of the bytes that are left, is the text of all bytes.
use Rattle.std.proofs.Common.{◌≡◌, ◌++◌, drop}
use Rattle.std.specs.List.{flat_map}
use Rattle.tree_definitions.specs.SaidLines.{hex_byte}
use Rattle.reply_text.proofs.number.write_hex.Given as goal

abbrev pub invariant-loop-byte : goal.invariant-loop-byte
invariant-loop-byte l = l.to.items ++ flat_map hex_byte (drop l.byte-index l.bytes) ≡ l.fn.to.items ++ flat_map hex_byte l.bytes
