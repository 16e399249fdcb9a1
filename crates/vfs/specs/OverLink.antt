-- A server over the frames of a cache, and its link.
use Rattle.std.specs.Prelude.{◌≡◌, ◌≤◌, ◌^◌, ℕ, ◌+◌, length, false}
use Rattle.records.specs.ServerCall.{Serving}
use Rattle.reissue.specs.declared.link.Link.{Ghosts as LinkWords}
use Rattle.reissue.specs.declared.transfers.Transfers.{Transfers}
use Rattle.reissue.specs.Transfers.{link_of}
use Rattle.cache.specs.Calls.{AbstractCache, IsIdle, frame_count, messages_left}
use Rattle.cached_blocks.specs.declared.Stored.{Stored}
use Rattle.cached_blocks.specs.World.{stored_caching, with_stored_link}
use Rattle.vfs.specs.declared.server.Server.{Server}
use Rattle.vfs.specs.Server.{IsOpen, serving}

-- the transfers that it goes over
abbrev pub transfers_of : {L : Type 0} → Server (Stored L) → Transfers L
transfers_of s = s.blocks.cache.transfers

-- the link
abbrev pub line_of : {L : Type 0} → Server (Stored L) → L
line_of s = link_of (transfers_of s)

-- the server with another link in its place
abbrev pub with_line : {L : Type 0} → Server (Stored L) → L → Server (Stored L)
with_line s link = record s { blocks = with_stored_link s.blocks link }

-- its cache
abbrev pub caching_of : {L : Type 0} → LinkWords L → Server (Stored L) → AbstractCache
caching_of words s = stored_caching words s.blocks

-- a server as contracts see it
abbrev pub serving_over : {L : Type 0} → LinkWords L → Server (Stored L) → Serving
serving_over words s = serving (stored_caching words) (λ b. frame_count b.cache) (λ b. b.cache.flush) s

-- ids are left for the messages that may still come, one for each, besides those for what was handed over
pub record HasIds (c : AbstractCache) (absorbed : ℕ) : Type 0 where
  pub enough : c.table.ids + messages_left c ≤ 2 ^ 59 + absorbed + length c.table.pending

-- it may take calls and messages
pub record IsReadyOver {L : Type 0} (words : LinkWords L) (s : Server (Stored L)) : Type 0 where
  pub may : IsOpen (stored_caching words) s
  pub ids : HasIds (caching_of words s) s.absorbed

-- nothing is pending, and no Flush is left undone
pub record IsIdleOver {L : Type 0} (words : LinkWords L) (s : Server (Stored L)) : Type 0 where
  pub unwanted : s.blocks.cache.flush ≡ false
  pub idle : IsIdle (caching_of words s)
