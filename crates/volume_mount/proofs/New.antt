-- A server over a cache that was just made, by its parts.
use Rattle.std.proofs.Common.{◌≡◌, ◌≤◌, ◌+◌, ◌^◌, ℕ, Bool, false, length, sym, ◌∙◌, ap, subst, arith}
use Rattle.std.specs.Prelude.{if◌then◌else◌}
use Rattle.layout.specs.declared.Geometry.{Geometry}
use Rattle.layout.specs.Places.{IsGeometry}
use Rattle.records.specs.Area.{Area, area_of}
use Rattle.records.specs.Told.{took_end}
use Rattle.reissue.specs.declared.link.Link.{Ghosts as LinkWords}
use Rattle.reissue.specs.declared.transfers.Transfers.{Transfers}
use Rattle.reissue.specs.Transfers.{link_of, table_of}
use Rattle.cache.specs.declared.cache.Cache.{Cache}
use Rattle.cache.specs.Calls.{IsMade, IsReady, caching, frame_count}
use Rattle.descriptors.specs.Made.{no_files}
use Rattle.descriptors.specs.Table.{files_of}
use Rattle.cached_blocks.specs.declared.Stored.{Stored}
use Rattle.vfs.specs.declared.server.Server.{Server}
use Rattle.vfs.specs.Serving.{MayServe}
use Rattle.vfs.specs.OverLink.{HasIds, caching_of}
use Rattle.volume_mount.specs.Opening.{IsNewOver}

module _ {L : Type 0} (words : LinkWords L) (transfers : Transfers L) (minor : ℕ) (g : Geometry) (frames : ℕ) (cache : Cache L)
    (over : cache.transfers ≡ transfers) (ready : IsReady (caching words cache))
    (made : IsMade (area_of g minor) g.block_size (caching words cache)) where
  -- its area is the volume's
  may : IsGeometry g → took_end (words.history (link_of transfers)) ≡ false → MayServe g (caching words cache)
  may geometry live = record {
    geometry = geometry;
    ready = ready;
    size = made.size_is;
    area = made.area_is ∙ ap (λ (w : Area). area_of g w.minor) (sym made.area_is);
    ends = made.not_ended ∙ sym (ap (λ (t : Transfers L). took_end (words.history (link_of t))) over ∙ live);
  }

  has_ids : (absorbed : ℕ) → (table_of transfers).ids + words.budget_left (link_of transfers) + 1 ≤ 2 ^ 59
      → HasIds (caching words cache) absorbed
  has_ids absorbed left = record {
    enough = subst
        (λ (b : Bool). (table_of cache.transfers).ids + (if b then 0 else words.budget_left (link_of cache.transfers) + 1)
        ≤ 2 ^ 59 + absorbed + length (table_of cache.transfers).pending) (sym made.not_ended)
        (subst
        (λ (t : Transfers L). (table_of t).ids + (words.budget_left (link_of t) + 1) ≤ 2 ^ 59 + absorbed + length (table_of t).pending)
        (sym over) (omega (arith, left)));
  }

  -- with these parts it is new
  pub new_over : (s : Server (Stored L)) → s.blocks.cache ≡ cache → s.geometry ≡ g → files_of s.opens ≡ no_files → s.absorbed ≡ 0
      → frame_count cache ≡ frames → cache.flush ≡ false → IsGeometry g → took_end (words.history (link_of transfers)) ≡ false
      → (table_of transfers).ids + words.budget_left (link_of transfers) + 1 ≤ 2 ^ 59 → IsNewOver words transfers minor g frames s
  new_over s is sizes files none many flush geometry live left = record {
    over = ap (λ (x : Cache L). x.transfers) is ∙ over;
    geometry = sizes;
    made = subst (λ (x : Cache L). IsMade (area_of g minor) g.block_size (caching words x)) (sym is) made;
    frame_count = ap (λ (x : Cache L). frame_count x) is ∙ many;
    files = files;
    none_absorbed = none;
    ready = record {
      may = subst (λ (h : Geometry). MayServe h (caching_of words s)) (sym sizes)
          (subst (λ (x : Cache L). MayServe g (caching words x)) (sym is) (may geometry live));
      ids = subst (λ (x : Cache L). HasIds (caching words x) s.absorbed) (sym is) (has_ids s.absorbed left);
    };
    no_flush = ap (λ (x : Cache L). x.flush) is ∙ flush;
  }
