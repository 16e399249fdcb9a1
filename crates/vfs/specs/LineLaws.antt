-- What stays of a server with another link in its place.
use Rattle.std.proofs.Common.{◌≡◌, ◌≤◌, ℕ, ◌+◌, min, Bool, List, cond, true, false, refl, sym, ap, ◌∙◌, arith}
use Rattle.records.specs.Told.{Told, took_end}
use Rattle.reissue.specs.declared.link.Link.{Ghosts as LinkWords}
use Rattle.cached_blocks.specs.declared.Stored.{Stored}
use Rattle.cached_blocks.proofs.Links.{ready_over}
use Rattle.file_server.specs.Over.{SameServing}
use Rattle.vfs.specs.declared.server.Server.{Server}
use Rattle.vfs.specs.OverLink.{IsReadyOver, caching_of, line_of, serving_over, with_line}

-- over a link with the same history contracts see the same
pub stays_by : {L : Type 0} (words : LinkWords L) (s : Server (Stored L)) (l : L) → words.history l ≡ words.history (line_of s)
    → SameServing (serving_over words s) (serving_over words (with_line s l))
stays_by words s l told = record {
  geometry = refl;
  minor = refl;
  agrees = λ image tree marks a. record { table = a.table; slots = a.slots; files = a.files };
  frames = refl;
  frame_count = refl;
  outbox = refl;
  is_busy = refl;
  told = told;
  ended = refl;
  settled = λ h. record { clean = h.clean; no_write = h.no_write };
  unwritten = refl;
  overtaken = refl;
  wanted = refl;
}

-- as many messages are left, or fewer
fewer : (b : Bool) (m n : ℕ) → n ≤ m → cond b 0 (n + 1) ≤ cond b 0 (m + 1)
fewer false m n h = omega (arith, h)
fewer true m n h = omega arith

-- ids are left as before
enough : (i m n p : ℕ) → n ≤ m → i + m ≤ p → i + n ≤ p
enough i m n p h k = omega (arith, h, k)

-- with as much room and no more messages it may take calls as before
pub ready_by : {L : Type 0} (words : LinkWords L) (s : Server (Stored L)) (l : L) → words.history l ≡ words.history (line_of s)
    → min 33 (words.room (line_of s)) ≤ words.room l → words.budget_left l ≤ words.budget_left (line_of s)
    → IsReadyOver words s → IsReadyOver words (with_line s l)
ready_by words s l told room budget ready = record {
  may = record {
    geometry = ready.may.geometry;
    ready = ready_over words s.blocks l room budget ready.may.ready;
    size = ready.may.size;
    area = ready.may.area;
    ends = ready.may.ends ∙ sym (ap (λ (h : List Told). took_end h) told);
  };
  ids = record { enough = enough _ _ _ _ (fewer (caching_of words s).ended _ _ budget) ready.ids.enough };
}
