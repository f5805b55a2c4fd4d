use Rattle.image_file.proofs.DiskLaws.{read_written_again}
use Rattle.image_file.proofs.laws.read_images_are_written_again.Goals as goal

pub returns : goal.returns
returns c = read_written_again
