-- A write goes on page by page.
use Rattle.std.proofs.Common.{◌≡◌, ◌<◌, ◌≤◌, ◌+◌, ◌-◌, ℕ, List, length, ◌++◌, length-append, refl, sym, ap, subst, ◌∙◌, cond, arith}
use mathlib.Core.Logic.{inl, inr}
use Rattle.std.specs.Prelude.{nat_lt, nat_le, ◌&&◌, slice_index}
use Rattle.std.proofs.lemmas.Bool.{cases_eq, cases_lt, cond-true, cond-false, lt-ltb, le-ltb, or_left}
use Rattle.std.proofs.lemmas.List.{take-append-drop, take_all}
use Rattle.std.proofs.Math.ListN.{take, drop, length-take, length-drop}
use Rattle.layout.specs.declared.Geometry.{Geometry}
use Rattle.tree.specs.Tree.{File}
use Rattle.tree.specs.Changes.{file_after_write}
use Rattle.std.proofs.Math.Seq.{take-add}
use Rattle.tree.specs.Space.{numbers_in_zone}
use Rattle.tree.specs.ZonesNeeded.{zones_needed}
use Rattle.volume.specs.declared.Inode.{Inode}
use Rattle.volume.specs.Reading.{Disk}
use Rattle.volume.specs.Pieces.{Pieces, pieces}
use Rattle.zone.specs.Chunks.{grown, resized}
use Rattle.zone.proofs.Chunks.{writes_join}
use Rattle.zone.proofs.Fewer.{need_less}
use Rattle.zone.proofs.Files.{same_file}
use Rattle.file.specs.PageChanges.{MayChange, BecomesFile, file_at, MayResize, Resized}
use Rattle.file.specs.Changing.{written_at, MayWriteAt, MayWriteInside, WritesInside, WritesAt, Grows}
use Rattle.file.proofs.Becoming.{becomes_again, may_change_after}
use Rattle.file.proofs.Rest.{wide, becomes_none}
use Rattle.file.proofs.Sizes.{begins, covered}
use Rattle.file.proofs.Chunk.{past_end}

-- Two writes, the second where the first ends.
module _ (g : Geometry) (v : Pieces) (n at : ℕ) (a b : List ℕ) (may : MayWriteInside g v n at (a ++ b)) where
  abbrev k : ℕ
  k = numbers_in_zone g

  join : file_after_write g (written_at g v n at a) (at + length a) b ≡ written_at g v n at (a ++ b)
  join = writes_join g (file_at g v n) at a b (wide g may.write.change.geometry)

  -- the first may be made
  pub may_front : MayWriteInside g v n at a
  may_front =
      let many = length-append a b in
      let least = need_less k (written_at g v n at a).held (written_at g v n at (a ++ b)).held (λ q h. sym (ap (λ (x : File). x.held q) join) ∙ or_left _ _ h) in
      let all = may.write.room in
      let i = may.inside in
      record {
        write = record { change = may.write.change; room = omega (arith, least, all) };
        inside = omega (arith, many, i);
      }

  module _ (u : Pieces) (done : BecomesFile g v u n (v.inodes n) (written_at g v n at a)) where
    -- and then the second
    pub may_next : MayWriteInside g u n (at + length a) b
    may_next =
        let many = length-append a b in
        let all = may.write.room in
        let i = may.inside in
        let c = done.count in
        let f = may_front in
        let now : (file_at g u n).held ≡ (written_at g v n at a).held = ap (λ (x : File). x.held) done.file in
        let then_ : (written_at g u n (at + length a) b).held ≡ (written_at g v n at (a ++ b)).held =
        ap (λ (x : File). (file_after_write g x (at + length a) b).held) done.file ∙ ap (λ (x : File). x.held) join in
        let x = ap (zones_needed k) now in
        let y = ap (zones_needed k) then_ in
        let s : (u.inodes n).size ≡ (written_at g v n at a).size = ap (λ (x : File). x.size) done.file in
        let z : (written_at g v n at a).size ≡ (v.inodes n).size = cond-false (nat_lt (v.inodes n).size (at + length a)) _ _ (le-ltb _ (at + length a) f.inside) in
        record {
          write = record { change = may_change_after g v u n (v.inodes n) _ may.write.change done; room = omega (arith, all, c, x, y) };
          inside = omega (arith, many, i, s, z);
        }

    -- both are the whole
    pub both_done : (w : Pieces) → BecomesFile g u w n (u.inodes n) (written_at g u n (at + length a) b) → BecomesFile g v w n (v.inodes n) (written_at g v n at (a ++ b))
    both_done w next = subst (λ (x : File). BecomesFile g v w n (v.inodes n) x) (ap (λ (x : File). file_after_write g x (at + length a) b) done.file ∙ join)
        (becomes_again g v u w n (v.inodes n) _ _ may.write.change done next)

-- one relation after the other
pub writes_both : (g : Geometry) (d e f : Disk) (n at : ℕ) (a b : List ℕ) → WritesInside g n at a d e → WritesInside g n (at + length a) b e f → WritesInside g n at (a ++ b) d f
writes_both g d e f n at a b x y = record {
  head = λ c low. y.head c low ∙ x.head c low;
  becomes = λ may.
      let first = x.becomes (may_front g (pieces g d) n at a b may) in
      both_done g (pieces g d) n at a b may (pieces g e) first (pieces g f) (y.becomes (may_next g (pieces g d) n at a b may (pieces g e) first));
}

-- So many bytes of a row are written: none, and nothing changed, or these.
pub record SoFar (g : Geometry) (n at : ℕ) (bytes : List ℕ) (done : ℕ) (d e : Disk) : Type 0 where
  pub none : done ≡ 0 → e ≡ d
  pub some : 0 < done → WritesInside g n at (take done bytes) d e

pub so_far_none : (g : Geometry) (n at : ℕ) (bytes : List ℕ) (d e : Disk) → e ≡ d → SoFar g n at bytes 0 d e
so_far_none g n at bytes d e same = record { none = λ z. same; some = λ low. absurd (omega (arith, low)) }

module _ (g : Geometry) (n at : ℕ) (bytes : List ℕ) (done end : ℕ) (up : done < end) (within : end ≤ length bytes) (d e : Disk) (so : SoFar g n at bytes done d e) where
  abbrev part : List ℕ
  part = take (end - done) (drop done bytes)

  front_length : length (take done bytes) ≡ done
  front_length = let l = length-take done bytes in omega (arith, l, up, within)

  parts : take end bytes ≡ take done bytes ++ part
  parts =
      let sum : done + (end - done) ≡ end = omega (arith, up) in
      sym (ap (λ x. take x bytes) sum) ∙ take-add done (end - done) bytes

  whole : bytes ≡ take done bytes ++ drop done bytes
  whole = sym (take-append-drop done bytes)

  -- the next part may be written
  pub may_go_on : MayWriteInside g (pieces g d) n at bytes → MayWriteInside g (pieces g e) n (at + done) part
  may_go_on may = may_front g (pieces g e) n (at + done) part (drop (end - done) (drop done bytes))
      (subst (λ x. MayWriteInside g (pieces g e) n (at + done) x) (sym (take-append-drop (end - done) (drop done bytes))) (elim (cases_eq done 0) [
        | inl z ↦ subst (λ (x : Disk). MayWriteInside g (pieces g x) n (at + done) (drop done bytes)) (sym (so.none z))
            (subst (λ x. MayWriteInside g (pieces g d) n (at + x) (drop x bytes)) (sym z) (let e : at ≡ at + 0 = omega arith in subst (λ x. MayWriteInside g (pieces g d) n x bytes) e may))
        | inr nz ↦
            let split = subst (λ x. MayWriteInside g (pieces g d) n at x) whole may in
            let first = (so.some (omega (arith, nz))).becomes (may_front g (pieces g d) n at (take done bytes) (drop done bytes) split) in
            subst (λ x. MayWriteInside g (pieces g e) n (at + x) (drop done bytes)) front_length
            (may_next g (pieces g d) n at (take done bytes) (drop done bytes) split (pieces g e) first)
      ]))

  -- and then there are more
  pub goes_on : (f : Disk) → WritesInside g n (at + done) part e f → SoFar g n at bytes end d f
  goes_on f h = record {
    none = λ z. absurd (omega (arith, z, up));
    some = λ low. subst (λ x. WritesInside g n at x d f) (sym parts) (elim (cases_eq done 0) [
      | inl z ↦
          let here : WritesInside g n (at + done) part d f = subst (λ (x : Disk). WritesInside g n (at + done) part x f) (so.none z) h in
          let start : at + done ≡ at = omega (arith, z) in
          let only : part ≡ take done bytes ++ part = ap (λ x. take x bytes ++ part) (sym z) in
          subst (λ x. WritesInside g n at x d f) only (subst (λ x. WritesInside g n x part d f) start here)
      | inr nz ↦ writes_both g d e f n at (take done bytes) part (so.some (omega (arith, nz)))
          (subst (λ x. WritesInside g n (at + x) part e f) (sym front_length) h)
    ]);
  }

-- all the rest may be written
pub may_rest : (g : Geometry) (n at : ℕ) (bytes : List ℕ) (done : ℕ) (d e : Disk) → done < length bytes → SoFar g n at bytes done d e
    → MayWriteInside g (pieces g d) n at bytes → MayWriteInside g (pieces g e) n (at + done) (take (length bytes - done) (drop done bytes))
may_rest g n at bytes done d e low so may = may_go_on g n at bytes done (length bytes) low (omega arith) d e so may

-- and as many of it as a call says are written then
pub goes_on_some : (g : Geometry) (n at : ℕ) (bytes : List ℕ) (done more : ℕ) (d e f : Disk) → 0 < more → done + more ≤ length bytes → SoFar g n at bytes done d e
    → WritesInside g n (at + done) (take more (take (length bytes - done) (drop done bytes))) e f → SoFar g n at bytes (done + more) d f
goes_on_some g n at bytes done more d e f some within so h =
    let many = length-drop done bytes in
    let whole : take (length bytes - done) (drop done bytes) ≡ drop done bytes = take_all (length bytes - done) (drop done bytes) (omega (arith, many)) in
    let same : more ≡ done + more - done = omega arith in
    goes_on g n at bytes done (done + more) (omega (arith, some)) within d e so f
    (subst (λ x. WritesInside g n (at + done) (take x (drop done bytes)) e f) same (subst (λ x. WritesInside g n (at + done) (take more x) e f) whole h))

-- in the end all are written
pub all_written : (g : Geometry) (n at : ℕ) (bytes : List ℕ) (done : ℕ) (d e : Disk) → 0 < length bytes → length bytes ≤ done → SoFar g n at bytes done d e → WritesInside g n at bytes d e
all_written g n at bytes done d e some all so = subst (λ x. WritesInside g n at x d e) (take_all done bytes all) (so.some (omega (arith, some, all)))

-- A file grows, where it is shorter.
module _ (g : Geometry) (d e f : Disk) (n size : ℕ) (i : Inode) (same : e ≡ d) (is : i ≡ (pieces g d).inodes n) where
  abbrev v : Pieces
  v = pieces g d

  its_size : i.size ≡ (v.inodes n).size
  its_size = ap (λ (x : Inode). x.size) is

  pub may_grow : i.size < size → MayChange g v n → MayResize g (pieces g e) n size
  may_grow low may = subst (λ (x : Disk). MayResize g (pieces g x) n size) (sym same) (record {
    change = may;
    inside = λ p some.
        let fit = wide g may.geometry in
        let s = its_size in
        let b = begins g.block_size fit (v.inodes n).size p (may.rules.inside n p may.marked some) in
        covered g.block_size fit size p (omega (arith, b, s, low));
  })

  pub grows : i.size < size → Resized g n size e f → Grows g n size d f
  grows low h =
      let s = its_size in
      let bigger : grown (file_at g v n) size ≡ size = cond-true (nat_lt (v.inodes n).size size) size (v.inodes n).size (lt-ltb _ size (omega (arith, s, low))) in
      let here = subst (λ (x : Disk). Resized g n size x f) same h in
      record {
        head = here.head;
        becomes = λ may. subst (λ x. BecomesFile g v (pieces g f) n (v.inodes n) (resized (file_at g v n) x)) (sym bigger)
            (here.becomes (subst (λ (x : Disk). MayResize g (pieces g x) n size) same (may_grow low may)));
      }

  -- a file that is long enough stays
  pub long_enough : size ≤ i.size → Grows g n size d e
  long_enough far = subst (λ (x : Disk). Grows g n size d x) (sym same) (record {
    head = λ b low. refl;
    becomes = λ may. subst (λ (x : File). BecomesFile g v v n (v.inodes n) x) (sym stays) (becomes_none g v n may);
  })
    where
      each : (q : ℕ) → cond (nat_lt q (v.inodes n).size) ((file_at g v n).byte q) 0 ≡ (file_at g v n).byte q
      each q = elim (cases_lt q (v.inodes n).size) [
        | inl low ↦ cond-true (nat_lt q (v.inodes n).size) _ 0 (lt-ltb q _ low)
        | inr past ↦ cond-false (nat_lt q (v.inodes n).size) _ 0 (le-ltb q _ past) ∙ sym (past_end g v (v.inodes n) q past)
      ]

      stays : resized (file_at g v n) (grown (file_at g v n) size) ≡ file_at g v n
      stays =
          let s = its_size in
          ap (resized (file_at g v n)) (cond-false (nat_lt (v.inodes n).size size) size (v.inodes n).size (le-ltb _ size (omega (arith, s, far))))
          ∙ same_file _ _ refl (λ t q. each q t) refl

-- It grows, and the bytes are written.
module _ (g : Geometry) (d e : Disk) (n at : ℕ) (bytes : List ℕ) (grow : Grows g n (at + length bytes) d e) where
  abbrev before : Pieces
  before = pieces g d

  abbrev mid : Pieces
  mid = pieces g e

  abbrev end : ℕ
  end = at + length bytes

  abbrev old : File
  old = file_at g before n

  least : (old.size ≤ grown old end) × (end ≤ grown old end)
  least = elim (cases_lt old.size end) [
    | inl low ↦ let t : grown old end ≡ end = cond-true (nat_lt old.size end) end old.size (lt-ltb old.size end low) in (omega (arith, t, low), omega (arith, t))
    | inr far ↦ let t : grown old end ≡ old.size = cond-false (nat_lt old.size end) end old.size (le-ltb old.size end far) in (omega (arith, t), omega (arith, t, far))
  ]

  -- the file then is that of the write alone
  one_write : file_after_write g (resized old (grown old end)) at bytes ≡ file_after_write g old at bytes
  one_write = same_file _ _ size (λ t q. byte q t) refl
    where
      size : cond (nat_lt (grown old end) end) end (grown old end) ≡ grown old end
      size = cond-false (nat_lt (grown old end) end) end (grown old end) (le-ltb (grown old end) end least.1)

      rest : (q : ℕ) → cond (nat_lt q (grown old end)) (old.byte q) 0 ≡ old.byte q
      rest q = elim (cases_lt q (grown old end)) [
        | inl low ↦ cond-true (nat_lt q (grown old end)) _ 0 (lt-ltb q _ low)
        | inr far ↦ let l = least in cond-false (nat_lt q (grown old end)) _ 0 (le-ltb q _ far) ∙ sym (past_end g before (before.inodes n) q (omega (arith, l.0, far)))
      ]

      byte : (q : ℕ) → cond (nat_le at q && nat_lt q end) (slice_index bytes (q - at)) (cond (nat_lt q (grown old end)) (old.byte q) 0) ≡ cond (nat_le at q && nat_lt q end) (slice_index bytes (q - at)) (old.byte q)
      byte q = ap (cond (nat_le at q && nat_lt q end) (slice_index bytes (q - at))) (rest q)

  module _ (may : MayWriteAt g before n at bytes) where
    longer : BecomesFile g before mid n (before.inodes n) (resized old (grown old end))
    longer = grow.becomes may.change

    pub may_write_inside : MayWriteInside g mid n at bytes
    may_write_inside =
        let k = numbers_in_zone g in
        let c = longer.count in
        let all = may.room in
        let x : (file_at g mid n).held ≡ old.held = ap (λ (h : File). h.held) longer.file in
        let y : (written_at g mid n at bytes).held ≡ (written_at g before n at bytes).held = ap (λ (h : File). (file_after_write g h at bytes).held) longer.file in
        let a = ap (zones_needed k) x in
        let b = ap (zones_needed k) y in
        let s : (mid.inodes n).size ≡ grown old end = ap (λ (h : File). h.size) longer.file in
        let l = least in
        record {
          write = record { change = may_change_after g before mid n (before.inodes n) _ may.change longer; room = omega (arith, c, all, a, b) };
          inside = omega (arith, s, l.1);
        }

  pub writes_at : (f : Disk) → WritesInside g n at bytes e f → WritesAt g n at bytes d f
  writes_at f h = record {
    head = λ b low. h.head b low ∙ grow.head b low;
    becomes = λ may. subst (λ (x : File). BecomesFile g before (pieces g f) n (before.inodes n) x) (ap (λ (x : File). file_after_write g x at bytes) (longer may).file ∙ one_write)
        (becomes_again g before mid (pieces g f) n (before.inodes n) _ _ may.change (longer may) (h.becomes (may_write_inside may)));
  }
