-- Which blocks are at hand.
use Rattle.std.proofs.Common.{◌≡◌, ℕ, Option, None, Some, sym, ap, ◌∙◌}
use Rattle.std.specs.Option.{is_some}
use Rattle.cache.specs.Calls.{IsFrameOf, held_by}
use Rattle.cache.specs.Frames.{frame_of, frames_of}
use Rattle.cache.specs.declared.cache.Cache.{Cache}
use Rattle.cache.specs.declared.frame.Frame.{Frame}
use Rattle.cache.specs.declared.slot.Slot.{Slot}
use Rattle.cache.proofs.Held.{held_at}

-- a block is at hand exactly where the cache finds a frame of it
pub at_hand : {L : Type 0} (cache : Cache L) (found : Option Frame) (block : ℕ) → IsFrameOf cache found block
    → is_some found ≡ is_some (frames_of cache.shape.block_size (held_by cache) block)
at_hand cache None block none = sym (ap (λ (o : Option Slot). is_some (frame_of cache.shape.block_size o)) none)
at_hand cache (Some frame) block (same, there) =
    sym (ap (λ (o : Option Slot). is_some (frame_of cache.shape.block_size o))
    (held_at cache.slots.items.items frame.at block there.slot cache.slots.distinct there.is (there.block_is ∙ ap Some same)))
