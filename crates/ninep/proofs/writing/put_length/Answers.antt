use Rattle.ninep.specs.Fields.{number_bytes}
use Rattle.ninep.proofs.WritingLaws.{four_set}
use Rattle.ninep.proofs.writing.put_length.Goals as goal

pub returns : goal.returns
unfolding number_bytes
returns c = λ front rest parts long. rw (parts, c.to_le_bytes-bytes.ensures) (four_set front rest c.args.at _ _ _ _ long)
