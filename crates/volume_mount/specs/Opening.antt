-- What opening a server over the frames of a cache promises, over any link.
use Rattle.std.specs.Prelude.{◌≡◌, ℕ, false, Result, Ok, Err}
use Rattle.layout.specs.declared.Geometry.{Geometry}
use Rattle.records.specs.Area.{area_of}
use Rattle.records.specs.Mount.{OpenKeeps, OpenRefused}
use Rattle.records.specs.Mount as mount
use Rattle.reissue.specs.declared.link.Link.{Ghosts as LinkWords}
use Rattle.reissue.specs.declared.transfers.Transfers.{Transfers}
use Rattle.cache.specs.declared.refusals.CacheRefusal.{CacheRefusal}
use Rattle.cache.specs.declared.refusals.CacheRefusal.TheVariants.{BadFrames, OutOfMemory}
use Rattle.cache.specs.Calls.{IsMade, frame_count}
use Rattle.descriptors.specs.Made.{no_files}
use Rattle.descriptors.specs.Table.{files_of}
use Rattle.cached_blocks.specs.declared.Stored.{Stored}
use Rattle.vfs.specs.declared.server.Server.{Server}
use Rattle.vfs.specs.OverLink.{IsReadyOver, caching_of, serving_over, transfers_of}

-- A server just made over these transfers, which writes in the volume behind its first two blocks alone: no frame is in use, no file is
-- open, no message was handed over, and no Flush is left undone.
pub record IsNewOver {L : Type 0} (words : LinkWords L) (transfers : Transfers L) (minor : ℕ) (g : Geometry) (frames : ℕ) (s : Server (Stored L)) : Type 0 where
  pub over : transfers_of s ≡ transfers
  pub geometry : s.geometry ≡ g
  pub made : IsMade (area_of g minor) g.block_size (caching_of words s)
  pub frame_count : frame_count s.blocks.cache ≡ frames
  pub files : files_of s.opens ≡ no_files
  pub none_absorbed : s.absorbed ≡ 0
  pub ready : IsReadyOver words s
  pub no_flush : s.blocks.cache.flush ≡ false

-- the refusal in the words of the definitions
abbrev pub refusal_of : CacheRefusal → mount.MountRefusal
refusal_of BadFrames = mount.BadFrames
refusal_of OutOfMemory = mount.OutOfMemory

-- what opening promises of a link that was told this
abbrev pub Opens : {L : Type 0} → LinkWords L → L → ℕ → Geometry → ℕ → Result (Server (Stored L)) CacheRefusal → Type 0
Opens words link minor g frames (Ok s) = OpenKeeps g minor frames (words.history link) (serving_over words s)
Opens words link minor g frames (Err e) = OpenRefused frames (words.history link) (refusal_of e) (words.history link)
