use Rattle.std.specs.IoError.{error_kind}
use Rattle.archive.specs.FilePuts.{errno_of}
use Rattle.archive.proofs.Answering.{at_answer}
use Rattle.archive.proofs.file_archive.FileArchiveArchive.put.Goals as goal

pub returns : goal.returns
returns g c =
    let put = c.put.ensures in
    let answer = c.answer.ensures in
    record {
      name = put.name;
      settled = at_answer _ (λ e. errno_of (error_kind e)) c.put.result c.answer.result answer.ok answer.refused put.settled;
      any_moment = put.any_moment;
      ok = λ image settled rests. at_answer _ (λ e. errno_of (error_kind e)) c.put.result c.answer.result answer.ok answer.refused
          (put.ok image settled rests);
    }
