-- What is said of blocks: which states lead to which, and what would be read back before and after.
use Rattle.std.specs.Prelude.{◌≡◌, ℕ, ◌≤◌, List, Option, Some, slice_index}
use Rattle.volume.specs.Reading.{Disk}
use Rattle.block_store.specs.declared.Cut.{Cut}

-- What is said of blocks of a type.
pub record World (B : Type 0) : Type 1 where
  -- the bytes of a block
  pub size : B → ℕ
  -- calls may be made
  pub ready : B → Type 0
  -- calls lead from one to the other
  pub leads : B → B → Type 0
  -- where they do, these may be what would be read back before and after
  pub sees : B → B → Disk → Disk → Type 0
  -- the bytes of each block that is at hand
  pub frames : B → ℕ → Option (List ℕ)
  -- calls may be cut for this
  pub over : B → Cut → Type 0
  -- no call need be cut
  pub live : B → Type 0
  -- all that was changed is written
  pub synced : B → Type 0
  -- a call that only looks leads from one to the other
  pub looks : B → B → Type 0
  -- the block may be changed
  pub writable : B → ℕ → Type 0

-- What would be read back before and after is related so.
pub record Turns {B : Type 0} (w : World B) (a b : B) (R : Disk → Disk → Type 0) : Type 0 where
  pub leads : w.leads a b
  pub related : (d e : Disk) → w.sees a b d e → R d e

-- what would be read back between two calls
pub record Between {B : Type 0} (w : World B) (a b c : B) (d f : Disk) : Type 0 where
  pub middle : Disk
  pub first : w.sees a b d middle
  pub then : w.sees b c middle f

-- nothing stands past a block's end
abbrev pub IsBlocks : ℕ → Disk → Type 0
IsBlocks size d = (block o : ℕ) → size ≤ o → d block o ≡ 0

-- the blocks at hand have their bytes
abbrev pub IsShown : (ℕ → Option (List ℕ)) → Disk → Type 0
IsShown frames d = (block : ℕ) (bytes : List ℕ) → frames block ≡ Some bytes → d block ≡ slice_index bytes

-- What holds of all blocks.
pub record IsWorld {B : Type 0} (w : World B) : Type 0 where
  pub begin : (a : B) → w.ready a → w.leads a a
  pub chain : (a b c : B) → w.leads a b → w.leads b c → w.leads a c
  pub ready : (a b : B) → w.leads a b → w.ready b
  pub size : (a b : B) → w.leads a b → w.size b ≡ w.size a
  pub still : (a : B) (d e : Disk) → w.sees a a d e → e ≡ d
  pub between : (a b c : B) (d f : Disk) → w.leads a b → w.leads b c → w.sees a c d f → Between w a b c d f
  pub blocks : (a b : B) (d e : Disk) → w.sees a b d e → IsBlocks (w.size a) d × IsBlocks (w.size b) e
  pub shown : (a b : B) (d e : Disk) → w.sees a b d e → IsShown (w.frames a) d × IsShown (w.frames b) e
  -- a call that does nothing looks, and so do two that do
  pub look : (a : B) → w.looks a a
  pub look_on : (a b c : B) → w.looks a b → w.looks b c → w.looks a c
  -- what may be changed may still be after a call
  pub writable : (a b : B) → w.leads a b → (block : ℕ) → w.writable a block → w.writable b block

-- A call only looks: what would be read back stays, and this is said of it.
pub record Reads {B : Type 0} (w : World B) (a b : B) (P : Disk → Type 0) : Type 0 where
  pub turns : Turns w a b (λ d e. (e ≡ d) × P d)
  pub looks : w.looks a b
