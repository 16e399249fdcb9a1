-- Two reads, of one disk.
use Rattle.volume.specs.Reading.{Disk}
use Rattle.block_store.specs.World.{IsWorld, Reads, World}
use Rattle.block_store.proofs.Turns.{reads_then}

pub reads_both : {B : Type 0} (w : World B) → IsWorld w → (a b c : B) (P Q : Disk → Type 0) → Reads w a b P → Reads w b c Q → Reads w a c (λ d. P d × Q d)
reads_both w law a b c P Q x y = reads_then w law a b c P Q (λ d. P d × Q d) (λ d p q. (p, q)) x y
