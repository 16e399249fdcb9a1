-- Bytes are written within one page of a file.
use Rattle.std.proofs.Common.{◌≡◌, ◌<◌, ◌≤◌, ◌+◌, ◌-◌, ◌*◌, ◌/◌, ◌%◌, ℕ, List, length, true, refl, sym, ap, subst, ◌∙◌, cond, arith}
use mathlib.Core.Logic.{inl, inr}
use Rattle.std.specs.Prelude.{nat_lt, ◌&&◌, ◌==◌, if◌then◌else◌}
use Rattle.std.proofs.lemmas.Bool.{cases_eq, cases_lt, cond-true, cond-false, lt-ltb, le-ltb, ne_eqb, and_from, or_left, or_right}
use Rattle.std.proofs.lemmas.Nat.{div-add-mod', div-mul-add, mod-mul-add}
use Rattle.layout.specs.declared.Geometry.{Geometry}
use Rattle.tree.specs.Tree.{File}
use Rattle.lemmas.specs.Sums.{put}
use Rattle.tree.specs.Changes.{file_after_write}
use Rattle.tree.specs.Space.{numbers_in_zone}
use Rattle.tree.specs.ZonesNeeded.{page_limit}
use Rattle.lemmas.proofs.Maps.{put-other}
use Rattle.tree.proofs.Pages.{pages_fit}
use Rattle.volume.specs.declared.Inode.{Inode}
use Rattle.volume.specs.Reading.{Disk}
use Rattle.volume.specs.Pieces.{Pieces, pieces}
use Rattle.volume.specs.Nodes.{file_byte, page_byte, page_zone}
use Rattle.block_store.specs.Rows.{with_bytes}
use Rattle.block_store.proofs.Rows.{row_new, row_old}
use Rattle.zone.specs.ZoneSteps.{with_page}
use Rattle.zone.specs.Raw.{with_bytes as with_page_bytes}
use Rattle.zone.specs.Chunks.{grown, resized, Replaces}
use Rattle.zone.specs.Composite.{Attached}
use Rattle.zone.proofs.Chunks.{chunk_is_written}
use Rattle.zone.proofs.Fewer.{need_less}
use Rattle.zone.proofs.Missing.{page_takes_missing}
use Rattle.zone.proofs.Keeps.{weaker}
use Rattle.zone.proofs.Files.{same_file}
use Rattle.zone.specs.Pages.{MayHold}
use Rattle.zone.specs.Files.{AttachesPage}
use Rattle.file.specs.Writing.{MayWrite, IsPageZone, PageIsWritten, WritesPage, with_chunk}
use Rattle.file.specs.PageChanges.{MayChange, BecomesFile, file_at}
use Rattle.file.specs.Changing.{written_at, MayWriteInside, WritesInside}
use Rattle.file.proofs.Becoming.{becomes, becomes_again, may_change_after}
use Rattle.file.proofs.Rest.{wide}
use Rattle.file.proofs.Sizes.{covered, page_begins}

-- The bytes of a file past its end are 0.
pub past_end : (g : Geometry) (v : Pieces) (i : Inode) (q : ℕ) → i.size ≤ q → file_byte g v i q ≡ 0
past_end g v i q far = cond-false (nat_lt q i.size) _ 0 (le-ltb q i.size far)

-- a write within one page holds that page and what was held
module _ (g : Geometry) (f : File) (at : ℕ) (bytes : List ℕ) (fit : 0 < g.block_size) (some : 0 < length bytes) where
  abbrev p : ℕ
  p = at / g.block_size

  page_is_held : (file_after_write g f at bytes).held p ≡ true
  page_is_held =
      let w = g.block_size in
      let whole = div-add-mod' at w in
      let inner : at % w < w = omega (arith, fit) in
      let next : (p + 1) * w ≡ p * w + w = omega arith in
      or_right (f.held p) _ (and_from _ _ (lt-ltb (p * w) (at + length bytes) (omega (arith, whole, some))) (lt-ltb at ((p + 1) * w) (omega (arith, whole, inner, next))))

  pub held_after : (q : ℕ) → put f.held p true q ≡ true → (file_after_write g f at bytes).held q ≡ true
  held_after q h = elim (cases_eq q p) [
    | inl e ↦ ap (file_after_write g f at bytes).held e ∙ page_is_held
    | inr d ↦ or_left (f.held q) _ (sym (put-other f.held p true q d) ∙ h)
  ]

module _ (g : Geometry) (d : Disk) (n at : ℕ) (bytes : List ℕ) (some : 0 < length bytes) (end : at + length bytes ≤ 2147483647) (may : MayWriteInside g (pieces g d) n at bytes) where
  abbrev v : Pieces
  v = pieces g d

  abbrev width : ℕ
  width = g.block_size

  abbrev page : ℕ
  page = at / width

  change : MayChange g v n
  change = may.write.change

  fits : 0 < width
  fits = wide g change.geometry

  its_page : page < page_limit (numbers_in_zone g)
  its_page = let b = page_begins width fits at in pages_fit width page (at + 1) change.geometry.block_size (omega (arith, end, some)) (omega (arith, b))

  -- the page may be held
  pub may_hold : MayHold g v n 0 page
  may_hold = record {
    geometry = change.geometry;
    marked = change.marked;
    level = omega arith;
    place = its_page;
    inside = λ _. let b = page_begins width fits at in covered width fits (v.inodes n).size page (omega (arith, b, some, may.inside));
    rules = change.rules;
    room =
        let k = numbers_in_zone g in
        let one = page_takes_missing g v n page 0 change.geometry change.rules change.marked its_page in
        let least = need_less k (put (file_at g v n).held page true) (written_at g v n at bytes).held (held_after g (file_at g v n) at bytes fits some) in
        let all = may.write.room in
        omega (arith, one, least, all);
  }

  module _ (e : Disk) (z : ℕ) (a : AttachesPage g n page z d e) where
    abbrev u : Pieces
    u = pieces g e

    attached : Attached g v u n 0 page
    attached = a.attached may_hold

    holding : BecomesFile g v u n (v.inodes n) (with_page (file_at g v n) page true)
    holding = becomes g v u n change (weaker g u n 0 0 page attached.rules) attached.inodes.marks (λ m differ. attached.inodes.attributes m) attached.files
        (v.inodes n) (with_page (file_at g v n) page true) (attached.inodes.attributes n) attached.file

    now : MayChange g u n
    now = may_change_after g v u n (v.inodes n) _ change holding

    -- it lies in the zone
    pub may_write : MayWrite g u n page z
    may_write = record {
      geometry = change.geometry;
      marked = now.marked;
      rules = now.rules;
      names = a.names may_hold;
      held = λ none. attached.held (a.names may_hold ∙ none);
    }

    module _ (f : Disk) (h : WritesPage g n page z (at % width) bytes e f) where
      abbrev w : Pieces
      w = pieces g f

      done : PageIsWritten g u w n page z (at % width) bytes
      done = h.written may_write

      chunk : BecomesFile g u w n (u.inodes n) (with_chunk g u n page z (at % width) bytes)
      chunk = becomes g u w n now done.rules done.writes.marks (λ m differ. its m) done.files (u.inodes n) _ (its n) done.file
        where
          its : (m : ℕ) → w.inodes m ≡ record (u.inodes m) { zones = (w.inodes m).zones }
          its m = let t = ap (λ (k : ℕ → Inode). k m) done.writes.inodes in t ∙ sym (ap (λ (x : Inode). record (u.inodes m) { zones = x.zones }) t)

      abbrev row : ℕ → ℕ
      row = with_bytes (at % width) bytes (u.zones z)

      -- up to the page's end; past it the file's
      abbrev whole_row : ℕ → ℕ
      whole_row o = if nat_lt o width then row o else (file_at g v n).byte (page * width + o)

      same_row : (o : ℕ) → o < width → whole_row o ≡ row o
      same_row o low = cond-true (nat_lt o width) (row o) _ (lt-ltb o width low)

      -- its bytes are the file's
      in_zone : (o : ℕ) → o < width → page * width + o < (v.inodes n).size → u.zones z o ≡ (file_at g v n).byte (page * width + o)
      in_zone o low inside =
          let q = page * width + o in
          let t = holding.file in
          let same : (u.inodes n).size ≡ (v.inodes n).size = ap (λ (x : File). x.size) t in
          sym (cond-true (nat_lt q (u.inodes n).size) _ 0 (lt-ltb q _ (omega (arith, inside, same)))
          ∙ ap (λ y. page_byte u y (q % width)) (ap (page_zone g u (u.inodes n)) (div-mul-add page width o low) ∙ may_write.names)
          ∙ cond-false (z == 0) 0 _ (ne_eqb z 0 may_write.held) ∙ ap (u.zones z) (mod-mul-add page width o low))
          ∙ ap (λ (x : File). x.byte q) t

      size_is : grown (file_at g v n) (at + length bytes) ≡ (v.inodes n).size
      size_is = cond-false (nat_lt (v.inodes n).size (at + length bytes)) (at + length bytes) (v.inodes n).size (le-ltb _ (at + length bytes) may.inside)

      module _ (within : at % width + length bytes ≤ width) where
        replaces : Replaces width (file_at g v n) at bytes whole_row
        replaces =
            let whole = div-add-mod' at width in
            record {
              some = some;
              within = within;
              new = λ o low high. same_row o (omega (arith, high, within)) ∙ ap row (let t : o ≡ at % width + (o - at % width) = omega (arith, low) in t)
                  ∙ row_new (at % width) bytes (u.zones z) (o - at % width) (omega (arith, low, high));
              before = λ o low. same_row o (omega (arith, low, within)) ∙ row_old (at % width) bytes (u.zones z) o (inl low)
                  ∙ in_zone o (omega (arith, low, within)) (let i = may.inside in omega (arith, low, whole, i));
              after = λ o high below. elim (cases_lt o width) [
                | inl low ↦ same_row o low ∙ row_old (at % width) bytes (u.zones z) o (inr high) ∙ in_zone o low (let s = size_is in omega (arith, below, s))
                | inr far ↦ cond-false (nat_lt o width) (row o) _ (le-ltb o width far)
              ];
            }

        same_size : resized (file_at g v n) (grown (file_at g v n) (at + length bytes)) ≡ file_at g v n
        same_size = ap (resized (file_at g v n)) size_is ∙ same_file _ _ refl (λ t q. each q t) refl
          where
            each : (q : ℕ) → cond (nat_lt q (v.inodes n).size) ((file_at g v n).byte q) 0 ≡ (file_at g v n).byte q
            each q = elim (cases_lt q (v.inodes n).size) [
              | inl low ↦ cond-true (nat_lt q (v.inodes n).size) _ 0 (lt-ltb q _ low)
              | inr far ↦ cond-false (nat_lt q (v.inodes n).size) _ 0 (le-ltb q _ far) ∙ sym (past_end g v (v.inodes n) q far)
            ]

        written_file : with_chunk g u n page z (at % width) bytes ≡ written_at g v n at bytes
        written_file =
            ap (λ (x : File). with_page_bytes width x page row) holding.file
            ∙ same_file _ _ refl (λ t q. cond (nat_lt q (v.inodes n).size && (q / width == page)) (sym (same_row (q % width) (mod_below q)) t) ((file_at g v n).byte q)) refl
            ∙ sym (ap (λ (x : File). with_page_bytes width (with_page x page true) page whole_row) same_size)
            ∙ chunk_is_written g (file_at g v n) at bytes whole_row fits (λ q far. past_end g v (v.inodes n) q far) replaces
          where
            mod_below : (q : ℕ) → q % width < width
            mod_below q = let f = fits in omega (arith, f)

        pub chunk_becomes : BecomesFile g v w n (v.inodes n) (written_at g v n at bytes)
        chunk_becomes = subst (λ (x : File). BecomesFile g v w n (v.inodes n) x) written_file
            (becomes_again g v u w n (v.inodes n) _ _ change holding chunk)

-- a page is held, and bytes are written there
pub writes_chunk : (g : Geometry) (d e f : Disk) (n at z : ℕ) (bytes : List ℕ) → 0 < length bytes → at + length bytes ≤ 2147483647 → at % g.block_size + length bytes ≤ g.block_size
    → AttachesPage g n (at / g.block_size) z d e → WritesPage g n (at / g.block_size) z (at % g.block_size) bytes e f → WritesInside g n at bytes d f
writes_chunk g d e f n at z bytes some end within a h = record {
  head = λ b low. h.head b low ∙ a.head b low;
  becomes = λ may. chunk_becomes g d n at bytes some end may e z a f h within;
}

pub chunk_zone : (g : Geometry) (d e : Disk) (n at z : ℕ) (bytes : List ℕ) → 0 < length bytes → at + length bytes ≤ 2147483647
    → AttachesPage g n (at / g.block_size) z d e → MayWriteInside g (pieces g d) n at bytes → IsPageZone g (pieces g e) z
chunk_zone g d e n at z bytes some end a may = (n, at / g.block_size, may_write g d n at bytes some end may e z a)
