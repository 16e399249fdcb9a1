-- The inode table of a new volume, as it grows.
use Rattle.std.proofs.Common.{◌≡◌, ◌<◌, ◌≤◌, ◌+◌, ◌-◌, ◌*◌, ◌/◌, ◌%◌, ◌++◌, ℕ, [], List, length, slice_index}
use Rattle.std.proofs.Common.{refl, sym, ap, subst, ◌∙◌, arith, length-append}
use mathlib.Core.Logic.{inl, inr}
use Rattle.std.proofs.lemmas.Bool.{cases_eq}
use Rattle.std.proofs.lemmas.List.{get_or_append_left, get_or-append-add}
use Rattle.lemmas.specs.Sums.{sum_below}
use Rattle.tree.specs.Space.{zones_of}
use Rattle.volume.specs.declared.Inode.{Inode}
use Rattle.volume.specs.Reading.{inode_in}
use Rattle.image.specs.declared.Image.{Image}
use Rattle.image.specs.Contents.{contents}
use Rattle.image.proofs.Places.{same_inode}
use Rattle.fsck.proofs.Counts.{no_sum}
use Rattle.fsck.specs.Form.{version_2}
use Rattle.fsck.specs.Nodes.{nodes_of}
use Rattle.migrate.specs.Holds.{IsSound}
use Rattle.migrate.specs.Used.{SizesAreGood}
use Rattle.migrate.specs.Tables.{IsNewInode}
use Rattle.migrate.specs.Zones.{Takes, zone_bytes}
use Rattle.migrate.proofs.Framed.{SameZones}
use Rattle.migrate.proofs.Laid.{sum_front, sum_next}
use Rattle.migrate.proofs.NodeZones.{node_kept}
use Rattle.migrate.proofs.Taken.{takes_none, takes_next}
use Rattle.migrate.proofs.Taking.{kept_zones}

-- what a node takes
abbrev pub node_takes : Image → ℕ → ℕ
node_takes i n = zones_of i.geometry (nodes_of version_2 i.geometry (contents i) n)

-- The inodes from 1 to before n are in the table, and the zones of those nodes lie one behind the other.
pub record NewInodes (i : Image) (n limit limit' : ℕ) (xs ys table : List ℕ) : Type 0 where
  pub size : length table ≡ 64 * (n - 1)
  pub takes : Takes (sum_below (node_takes i) n) limit limit' xs ys
  pub inodes : (m : ℕ) → 1 ≤ m → m < n → IsNewInode i.geometry (contents i) (zone_bytes ys)
      (length xs / 1024 + sum_below (node_takes i) m) m (inode_in (slice_index table) (64 * (m - 1)))

-- none
pub no_inodes : (i : Image) (limit : ℕ) (xs table : List ℕ) → table ≡ [] → node_takes i 0 ≡ 0 → NewInodes i 1 limit limit xs xs table
no_inodes i limit xs table none first =
    let one = sum_next (node_takes i) 0 in
    let zero_sum : sum_below (node_takes i) 0 ≡ 0 = no_sum (node_takes i) in
    record {
      size = ap length none;
      takes = takes_none (sum_below (node_takes i) 1) limit xs (omega arith);
      inodes = λ m low high. absurd (omega arith);
    }

-- a new inode stays one where its zones do
new_kept : (i : Image) → IsSound version_2 i.geometry (contents i) → SizesAreGood i → i.geometry.block_size ≡ 1024
    → (d d' : ℕ → ℕ → ℕ) (e n : ℕ) (y : Inode) → SameZones d d' e (node_takes i n)
    → IsNewInode i.geometry (contents i) d e n y → IsNewInode i.geometry (contents i) d' e n y
new_kept i sound good block d d' e n y same m = record {
  node = λ is. node_kept i sound good block n is d d' e y same (m.node is);
  blank = m.blank;
}

-- one more
pub next_inode : (i : Image) → IsSound version_2 i.geometry (contents i) → SizesAreGood i → i.geometry.block_size ≡ 1024
    → (n limit limit' limit'' : ℕ) (xs ys zs table bytes new : List ℕ) → 1 ≤ n → length xs % 1024 ≡ 0 → length bytes ≡ 64
    → NewInodes i n limit limit' xs ys table → Takes (node_takes i n) limit' limit'' ys zs
    → IsNewInode i.geometry (contents i) (zone_bytes zs) (length ys / 1024) n (inode_in (slice_index bytes) 0) → new ≡ table ++ bytes
    → NewInodes i (n + 1) limit limit'' xs zs new
next_inode i sound good block n limit limit' limit'' xs ys zs table bytes new some whole long t takes it is =
    let f : ℕ → ℕ = node_takes i in
    let size = t.size in
    let longer = t.takes.longer in
    let both = ap length is ∙ length-append table bytes in
    record {
      size = omega arith;
      takes = takes_next f n (f n) limit limit' limit'' xs ys zs t.takes takes refl;
      inodes = λ m low high. elim (cases_eq m n) [
        | inl e ↦
            let here : length ys / 1024 ≡ length xs / 1024 + sum_below f m
            = (let d : length ys / 1024 ≡ length xs / 1024 + sum_below f n = omega arith in d)
            ∙ ap (λ m. length xs / 1024 + sum_below f m) (sym e) in
            let read : inode_in (slice_index bytes) 0 ≡ inode_in (slice_index new) (64 * (m - 1))
            = same_inode (slice_index bytes) (slice_index new) 0 (64 * (m - 1)) 64
            (λ k inside.
            let at : length table + k ≡ 64 * (m - 1) + k = omega arith in
            let first : 0 + k ≡ k = omega arith in
            ap (slice_index bytes) first ∙ sym (ap (λ l. slice_index l (64 * (m - 1) + k)) is
            ∙ ap (slice_index (table ++ bytes)) (sym at) ∙ get_or-append-add table bytes k 0)) (omega arith) in
            subst (IsNewInode i.geometry (contents i) (zone_bytes zs) (length xs / 1024 + sum_below f m) m) read
            (subst (λ a. IsNewInode i.geometry (contents i) (zone_bytes zs) a m (inode_in (slice_index bytes) 0)) here
            (subst (λ m. IsNewInode i.geometry (contents i) (zone_bytes zs) (length ys / 1024) m (inode_in (slice_index bytes) 0)) (sym e)
            it))
        | inr d ↦
            let more = sum_next f m in
            let part = sum_front f (m + 1) n (omega arith) in
            let read : inode_in (slice_index table) (64 * (m - 1)) ≡ inode_in (slice_index new) (64 * (m - 1))
            = same_inode (slice_index table) (slice_index new) (64 * (m - 1)) (64 * (m - 1)) 64
            (λ k inside. sym (ap (λ l. slice_index l (64 * (m - 1) + k)) is
            ∙ get_or_append_left table bytes 0 (64 * (m - 1) + k) (omega arith))) (omega arith) in
            subst (IsNewInode i.geometry (contents i) (zone_bytes zs) (length xs / 1024 + sum_below f m) m) read
            (new_kept i sound good block (zone_bytes ys) (zone_bytes zs) (length xs / 1024 + sum_below f m) m
            (inode_in (slice_index table) (64 * (m - 1)))
            (kept_zones ys zs (length xs / 1024 + sum_below f m) (f m) (omega arith) takes.kept) (t.inodes m low (omega arith)))
      ];
    }

-- all of them
pub all_inodes : (i : Image) (n limit limit' : ℕ) (xs ys table : List ℕ) → n ≡ i.geometry.inodes + 1
    → NewInodes i n limit limit' xs ys table → NewInodes i (i.geometry.inodes + 1) limit limit' xs ys table
all_inodes i n limit limit' xs ys table all t = subst (λ n. NewInodes i n limit limit' xs ys table) all t
