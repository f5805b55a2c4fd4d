-- The laws of the definition.
use Rattle.disk_definitions.proofs.InodeLaws.{inode_back, inode_read, inode_found, inode_once}
use Rattle.inode_block.proofs.laws.what_is_written_reads_back.Goals as goal

pub returns : goal.returns
returns c = record { back = inode_back; read = inode_read; found = inode_found; once = inode_once }
