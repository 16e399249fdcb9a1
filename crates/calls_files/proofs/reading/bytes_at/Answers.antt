use Rattle.std.proofs.Common.{◌≡◌, length, rules}
use Rattle.volume.specs.Pieces.{pieces}
use Rattle.volume.specs.Nodes.{file_of}
use Rattle.file.specs.Reading.{read_count}
use Rattle.block_store.proofs.Turns.{reads_as}
use Rattle.calls_files.proofs.ReadBytes.{bytes_are, whole_taken}
use Rattle.calls_files.proofs.reading.bytes_at.Goals as goal

pub returns-clause-reads : goal.returns-clause-reads
returns-clause-reads g c =
    let a = c.args in
    let xs = c.read_at.new.into in
    let long : length xs ≡ read_count a.inode.now.size a.at a.count = search rules in
    let got : c.in_ok-read_at.field-0 ≡ read_count a.inode.now.size a.at (length xs) = search rules in
    let many : c.in-Ok.bytes.len ≡ length xs = search rules in
    reads_as _ _ _ _ _
    (λ d x. whole_taken c.in-Ok.bytes.len xs _ _ many (bytes_are (file_of a.geometry.now (pieces a.geometry.now d) a.inode.now) a.at a.count c.in_ok-read_at.field-0 xs long got x))
    c.in_ok-read_at.ensures.reads
