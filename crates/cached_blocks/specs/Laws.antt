-- Laws of blocks over a cache.
use Rattle.std.specs.Prelude.{◌≤◌, min}
use Rattle.reissue.specs.declared.link.Link.{Ghosts as LinkWords}
use Rattle.reissue.specs.Transfers.{link_of}
use Rattle.cache.specs.Calls.{IsReady}
use Rattle.cached_blocks.specs.declared.Stored.{Stored}
use Rattle.cached_blocks.specs.World.{stored_caching, with_stored_link}

-- over a link with room for a message or as much as before, and no more messages, calls may be made as before
abbrev pub ReadyOverLink : {L : Type 0} → LinkWords L → Type 0
ReadyOverLink {L = L} words = (s : Stored L) (link : L)
    → min 33 (words.room (link_of s.cache.transfers)) ≤ words.room link
    → words.budget_left link ≤ words.budget_left (link_of s.cache.transfers)
    → IsReady (stored_caching words s) → IsReady (stored_caching words (with_stored_link s link))
