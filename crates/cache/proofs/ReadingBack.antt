-- What a cache keeps, as said of a server.
use Rattle.std.proofs.Common.{◌≡◌, ℕ, ◌+◌, ◌*◌, ◌/◌, ◌%◌, ◌<◌, List, refl, sym, ap, ◌∙◌, Bool, true, false, Option, Some, None}
use Rattle.std.specs.Prelude.{IsTrue, IsSome}
use Rattle.std.proofs.Math.Nat.{div-add-mod, mod-lt, mul_comm}
use Rattle.layout.specs.declared.Geometry.{Geometry}
use Rattle.records.specs.Marks.{Mark}
use Rattle.records.specs.Disk.{Contents, unsure}
use Rattle.records.specs.View.{IsCovered}
use Rattle.reissue.specs.Moves.{state_after}
use Rattle.cache.specs.declared.slot.Slot.{Slot}
use Rattle.cache.specs.Frames.{CacheAgrees, frames_of, frame_of}
use Rattle.cache.specs.Laws.{FramesReadBack}

-- each unsure place lies in a block with a frame
covered : (g : Geometry) (held : ℕ → Option Slot) (image : Contents) (marks : List Mark) → 0 < g.block_size
    → CacheAgrees g.block_size held (state_after image marks) → IsCovered g (frames_of g.block_size held) marks
covered g held image marks some k = record { each = λ place unsure_there. by place unsure_there (held (place / g.block_size)) refl }
  where
    whole : (place : ℕ) → place ≡ place / g.block_size * g.block_size + place % g.block_size
    whole place = sym (ap (λ n. n + place % g.block_size) (mul_comm (place / g.block_size) g.block_size) ∙ div-add-mod place g.block_size)

    never : (b : Bool) → IsTrue b → b ≡ false → ⊥
    never true t e = cc
    never false t e = cc

    by : (place : ℕ) → IsTrue (unsure marks place) → (x : Option Slot) → held (place / g.block_size) ≡ x → IsSome (frame_of g.block_size (held (place / g.block_size)))
    by place t None e =
        let sure = ap (unsure marks) (whole place) ∙ k.covered (place / g.block_size) e (place % g.block_size) (mod-lt place some) in
        absurd (never (unsure marks place) t sure)
    by place t (Some s) e = rw e refl

-- both
pub frames_read_back : FramesReadBack
frames_read_back g held image marks some = (refl, covered g held image marks some)
