use Rattle.image_file.proofs.ImageLaws.{read_is_image, image_is_read}
use Rattle.image_file.proofs.laws.images_are_what_is_read.Goals as goal

pub returns : goal.returns
returns c = λ bytes sectors are. (read_is_image bytes sectors are, image_is_read bytes sectors)
