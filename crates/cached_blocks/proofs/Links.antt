-- Blocks over another link.
use Rattle.std.proofs.Common.{ℕ, ◌≤◌, min, arith}
use Rattle.reissue.specs.declared.link.Link.{Ghosts as LinkWords}
use Rattle.reissue.specs.declared.table.Table.{Table}
use Rattle.reissue.specs.Posts.{HasRoom}
use Rattle.cached_blocks.specs.Laws.{ReadyOverLink}

-- room for a message, or as much as before, is room for what may be begun
room_over : (t : Table) (before after : ℕ) → min 33 before ≤ after → HasRoom t before → HasRoom t after
room_over t before after enough h = record { enough = λ some posted. let e = h.enough some posted in omega (arith, enough, e) }

-- calls may be made as before
pub ready_over : {L : Type 0} (words : LinkWords L) → ReadyOverLink words
ready_over words s link room budget ready = record {
  minors = ready.minors;
  tied = ready.tied;
  inside = ready.inside;
  room = λ alive. room_over s.cache.transfers.table _ _ room (ready.room alive);
  ids = λ alive. let i = ready.ids alive in omega (arith, budget, i);
}
