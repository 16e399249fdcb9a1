-- A server over a cache, as contracts see it.
use Rattle.std.specs.Prelude.{ℕ, Bool}
use Rattle.tree.specs.declared.Who.{Who}
use Rattle.tree.specs.declared.Call.{Call}
use Rattle.message.specs.declared.Incoming.{Incoming}
use Rattle.records.specs.ServerCall.{Serving, Outcome}
use Rattle.file_server.specs.Over.{CallSpecification, AbsorbsOver}
use Rattle.cache.specs.Calls.{AbstractCache}
use Rattle.descriptors.specs.Table.{files_of}
use Rattle.vfs.specs.Serving.{MayServe, server_of}
use Rattle.vfs.specs.declared.server.Server.{Server}

-- a server as contracts see it, by what is said of its blocks
abbrev pub serving : {B : Type 0} → (B → AbstractCache) → (B → ℕ) → (B → Bool) → Server B → Serving
serving caching frame_count wanted s = server_of s.geometry (caching s.blocks) (frame_count s.blocks) (wanted s.blocks) (files_of s.opens)

-- it may take calls
abbrev pub IsOpen : {B : Type 0} → (B → AbstractCache) → Server B → Type 0
IsOpen caching s = MayServe s.geometry (caching s.blocks)

-- one call of a server over the blocks of a cache
abbrev pub Answers : {B : Type 0} → (B → AbstractCache) → (B → ℕ) → (B → Bool) → Server B → Server B → Who → ℕ → Call → Outcome → Type 0
Answers caching frame_count wanted old new who now call outcome =
    CallSpecification (serving caching frame_count wanted old) (serving caching frame_count wanted new) (caching old.blocks).truth (caching new.blocks).truth who now call outcome

-- one message that is handed over to it
abbrev pub Absorbs : {B : Type 0} → (B → AbstractCache) → (B → ℕ) → (B → Bool) → Server B → Server B → Incoming → Type 0
Absorbs caching frame_count wanted old new message =
    AbsorbsOver (serving caching frame_count wanted old) (serving caching frame_count wanted new) (caching old.blocks).truth (caching new.blocks).truth message
