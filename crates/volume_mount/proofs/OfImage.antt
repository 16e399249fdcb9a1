-- What mounting says of the image, where replies are true.
use Rattle.std.proofs.Common.{◌≡◌, ◌≤◌, ◌*◌, ℕ, List, [], length, sym, ap, ◌∙◌, arith, inl, inr}
use Rattle.layout.specs.declared.Geometry.{Geometry}
use Rattle.layout.specs.declared.LayoutRefusal.{LayoutRefusal}
use Rattle.layout.specs.Places.{IsGeometry, geometry_of, superblock_geometry}
use Rattle.layout.proofs.Parsed.{block_sizes, geometry_fits}
use Rattle.volume.specs.Verdict.{verdict_of}
use Rattle.records.specs.Marks.{Mark}
use Rattle.records.specs.Disk.{Contents, HasTrueReplies, bytes_read}
use Rattle.records.specs.Told.{Told}
use Rattle.records.specs.Acts.{Act, marks_after}
use Rattle.records.specs.Area.{no_area}
use Rattle.records.specs.Mount.{AreRead, IsHeadRefused, MountKeeps, MountRefused, MountRefusal, Layout, Inconsistent, OutOfMemory, Eio, LinkEnded, BadFrames, Mounting, first_bytes, geometry_read, head_read, volume_read, volume_size}
use Rattle.records.specs.ServerCall.{Serving}
use Rattle.volume_mount.specs.Laws.{IsSaidOf, sizes_in, volume_of}
use Rattle.volume_mount.proofs.Volumes.{first_alike, first_length}
use Rattle.volume_mount.proofs.ReadAlone.{reads_alone}

-- a mount that read what the image has
module _ (minor : ℕ) (before after : List Told) (acts : List Act) (m : Mounting minor before acts after) (image : Contents)
    (replies : HasTrueReplies image (marks_after acts [])) where
  abbrev marks : List Mark
  marks = marks_after acts []

  -- so many of its first bytes
  read_bytes : (n : ℕ) → AreRead marks n → first_bytes (bytes_read marks) n ≡ first_bytes image n
  read_bytes n read = first_alike (bytes_read marks) image n
      (λ k lt. reads_alone (no_area minor) acts image m.only_reads m.keep replies k (read.each k lt))

  head_is : AreRead marks 2048 → head_read marks ≡ first_bytes image 2048
  head_is read = read_bytes 2048 read

  -- the superblock is the image's
  said_of_head : (refusal : LayoutRefusal) → IsHeadRefused marks refusal → IsSaidOf image (Layout refusal)
  said_of_head refusal h = (sym (ap geometry_of (head_is h.0)) ∙ h.1, h.2)

  volume_is : AreRead marks 2048 → AreRead marks (volume_size marks) → volume_read marks ≡ volume_of image
  volume_is head whole =
      let size : volume_size marks ≡ (sizes_in image).zones * (sizes_in image).block_size =
      ap (λ (bytes : List ℕ). let g = superblock_geometry bytes in g.zones * g.block_size) (head_is head) in
      read_bytes (volume_size marks) whole ∙ ap (first_bytes image) size

-- a volume of such sizes is longer than its head
longer : (g : Geometry) → IsGeometry g → 2048 ≤ g.zones * g.block_size
longer g h =
    let first = h.first in
    let some = h.some_zone in
    elim (block_sizes g.block_size h.block_size) [
      | inl e ↦ let m : g.zones * g.block_size ≡ g.zones * 1024 = ap (λ (b : ℕ). g.zones * b) e in omega (arith, m, first, some)
      | inr (inl e) ↦ let m : g.zones * g.block_size ≡ g.zones * 2048 = ap (λ (b : ℕ). g.zones * b) e in omega (arith, m, first, some)
      | inr (inr e) ↦ let m : g.zones * g.block_size ≡ g.zones * 4096 = ap (λ (b : ℕ). g.zones * b) e in omega (arith, m, first, some)
    ]

pub refused_by_image : (minor frames : ℕ) (before after : List Told) (refusal : MountRefusal) (image : Contents)
    → (r : MountRefused minor frames before refusal after) → HasTrueReplies image (marks_after r.acts []) → IsSaidOf image refusal
refused_by_image minor frames before after (Layout refusal) image r replies =
    said_of_head minor before after r.acts r.mounting image replies refusal r.why.1
refused_by_image minor frames before after (Inconsistent finding) image r replies =
    let w = r.why.1 in
    let head = head_is minor before after r.acts r.mounting image replies w.0 in (
      (λ refusal is. w.1 refusal (ap geometry_of head ∙ is)),
      sym (ap verdict_of (volume_is minor before after r.acts r.mounting image replies w.0 w.2)) ∙ w.3,
    )
refused_by_image minor frames before after OutOfMemory image r replies = tt
refused_by_image minor frames before after Eio image r replies = tt
refused_by_image minor frames before after LinkEnded image r replies = tt
refused_by_image minor frames before after BadFrames image r replies = tt

pub sizes_of_image : (minor : ℕ) (before after : List Told) (acts : List Act) (image : Contents) → Mounting minor before acts after
    → HasTrueReplies image (marks_after acts []) → AreRead (marks_after acts []) 2048 → geometry_read (marks_after acts []) ≡ sizes_in image
sizes_of_image minor before after acts image m replies read = ap superblock_geometry (head_is minor before after acts m image replies read)

-- and so the sizes of a server that was mounted
pub mounted_on_image : (minor frames : ℕ) (before : List Told) (new : Serving) (image : Contents) → (r : MountKeeps minor frames before new)
    → HasTrueReplies image (marks_after r.acts []) → new.geometry ≡ sizes_in image
mounted_on_image minor frames before new image r replies =
    let marks = marks_after r.acts [] in
    let fits = geometry_fits (volume_read marks) r.held.geometry r.held.parsed in
    let long = longer r.held.geometry fits.0 in
    let many = first_length (bytes_read marks) (volume_size marks) in
    let most : r.held.geometry.zones * r.held.geometry.block_size ≤ length (volume_read marks) = fits.1 in
    let enough : 2048 ≤ volume_size marks = omega (arith, long, many, most) in
    r.geometry ∙ sizes_of_image minor before new.told r.acts image r.mounting replies
    (record { each = λ place lt. r.whole.each place (omega (arith, lt, enough)) })
