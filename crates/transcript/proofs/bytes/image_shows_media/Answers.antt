use Rattle.transcript.proofs.Image.{image_shows}
use Rattle.transcript.proofs.bytes.image_shows_media.Goals as goal

pub returns : goal.returns
returns c = image_shows
