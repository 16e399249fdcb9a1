-- A volume that was read: its head, and then the rest.
use Rattle.std.proofs.Common.{◌≡◌, ◌≢◌, ◌≤◌, ◌<◌, ◌+◌, ◌-◌, ◌*◌, ℕ, List, [], ◌∷◌, ◌++◌, length, Bool, true, false, refl, sym, ap, ◌∙◌, subst, arith, inl, inr}
use Rattle.std.specs.Prelude.{slice_index, Result, Ok, Err, ◌||◌, if◌then◌else◌}
use Rattle.std.proofs.lemmas.Bool.{cases_lt}
use Rattle.lemmas.proofs.Bools.{from_clash}
use Rattle.layout.specs.declared.Geometry.{Geometry}
use Rattle.layout.specs.declared.LayoutRefusal.{LayoutRefusal}
use Rattle.layout.specs.declared.LayoutRefusal.TheVariants.{Truncated, BadMagic, BadBlockSize, BadVersion, BadCounts, DoesNotFit}
use Rattle.layout.specs.Bytes.{u16_at, u32_at}
use Rattle.layout.specs.Places.{IsGeometry, geometry_of, superblock_geometry}
use Rattle.layout.proofs.Parsed.{geometry_fits}
use Rattle.message.specs.declared.Incoming.TheVariants as incoming
use Rattle.tree.specs.Tree.{Tree}
use Rattle.volume.specs.Reading.{blocks_of, disk_of}
use Rattle.volume.specs.Pieces.{Pieces, pieces}
use Rattle.volume.specs.Holds.{HoldsNodes}
use Rattle.volume.specs.Verdict.{verdict_of, HoldsClosed}
use Rattle.volume.specs.Verdict as volume
use Rattle.volume.specs.declared.Finding.{Finding}
use Rattle.records.specs.Marks.{Mark, gave_up}
use Rattle.records.specs.Disk.{Contents, HasTrueReplies, bytes_read, is_read}
use Rattle.records.specs.Told.{Told, Posted, Complained, Received, took_end}
use Rattle.records.specs.Acts.{Act, told_of, marks_after}
use Rattle.records.specs.Mount.{AreRead, first_bytes, IsHeadRefused, IsVolumeRefused, NothingIsRefused, geometry_read, head_read, is_frame_count, volume_read, volume_size}
use Rattle.reissue.specs.declared.table.Table.{Table}
use Rattle.reissue.specs.Agrees.{Agrees}
use Rattle.reissue.specs.Calls.{Truth}
use Rattle.fsck.specs.declared.verdict.Clean.{Clean}
use Rattle.volume_reading.specs.declared.reading.Stop.{Stop}
use Rattle.volume_reading.specs.declared.reading.Stop.TheVariants.{OutOfMemory, GaveUp, Ended}
use Rattle.volume_mount.specs.Whole.{IsHeadFit, refusal_by}
use Rattle.volume_reading.specs.Reading.{Went, IsCutShort, IsFilled, IsUnread, KeepsBelow, ReadsRange}
use Rattle.volume_mount.specs.Mounts.{IsVolumeEnd}
use Rattle.volume_reading.proofs.Going.{Further, went_on, grows_on, true_before}
use Rattle.volume_mount.proofs.Volumes.{first_same, same_pieces, same_block, byte_at}

-- ---- one after the other

-- what was done later, as further acts
pub further : (minor : ℕ) (t u : Table) (between after : List Told) (mid is : Truth) → Went minor t u between after mid is → Further minor t u between after mid is
further minor t u between after mid is w = record {
  acts = w.acts;
  more = λ marks. marks_after w.acts marks;
  told = w.told;
  none_absorbed = w.none_absorbed;
  only_reads = w.only_reads;
  minors = λ h. w.minors;
  rules = λ marks h all. let f = w.follows marks h in record { told = w.told; grows = refl; keeps = f.keep; owes = f.owes };
  agrees = λ marks h. (w.follows marks h).agrees;
  leaves = λ image marks h true. w.leaves image marks h true;
  before = λ image marks h. true_before w.acts image marks h;
  truth = λ v marks same h all k. w.truth v marks same h k;
}

-- both
abbrev pub went_both : (minor : ℕ) (s t u : Table) (before between after : List Told) (was mid is : Truth)
    → Went minor s t before between was mid → Went minor t u between after mid is → Went minor s u before after was is
went_both minor s t u before between after was mid is a b = went_on minor s t u before between after was mid is a (further minor t u between after mid is b)

-- ---- Ends

end_both : (later told : List Told) → took_end (later ++ told) ≡ (took_end later || took_end told)
end_both [] told = refl
end_both (Posted to r accepted ∷ later) told = end_both later told
end_both (Complained e ∷ later) told = end_both later told
end_both (Received incoming.End ∷ later) told = refl
end_both (Received (incoming.Reply a) ∷ later) told = end_both later told
end_both (Received (incoming.Started e) ∷ later) told = end_both later told
end_both (Received incoming.GaveUp ∷ later) told = end_both later told
end_both (Received incoming.Flush ∷ later) told = end_both later told

or_none : (b c : Bool) → c ≡ false → (b || c) ≡ b
or_none false c h = h
or_none true c h = refl

-- an End since is an End of these acts
pub ended_since : (before after : List Told) (acts : List Act) → after ≡ told_of acts ++ before → took_end before ≡ false
    → took_end (told_of acts) ≡ took_end after
ended_since before after acts told none =
    sym (ap took_end told ∙ end_both (told_of acts) before ∙ or_none (took_end (told_of acts)) (took_end before) none)

-- ---- the sizes

-- one result has one geometry
one_geometry : {g h : Geometry} → ◌≡◌ {A = Result Geometry LayoutRefusal} (Ok g) (Ok h) → g ≡ h
one_geometry e = cc

passed : (b : Bool) (x : LayoutRefusal) (rest : Result Geometry LayoutRefusal) (g : Geometry) → (if b then Err x else rest) ≡ Ok g → rest ≡ Ok g
passed true x rest g h = absurd (none h) where
  none : ◌≡◌ {A = Result Geometry LayoutRefusal} (Err x) (Ok g) → ⊥
  none e = cc
passed false x rest g h = h

-- a geometry that was read is the superblock's
pub parsed_is : (image : List ℕ) (g : Geometry) → geometry_of image ≡ Ok g → g ≡ superblock_geometry image
parsed_is image g h =
    sym (one_geometry (passed _ DoesNotFit _ g (passed _ BadCounts _ g (passed _ BadVersion _ g (passed _ BadBlockSize _ g
    (passed _ BadMagic _ g (passed _ Truncated _ g h)))))))

-- the superblock's bytes tell them
pub same_superblock : (xs ys : List ℕ) → ((p : ℕ) → p < 1055 → slice_index xs p ≡ slice_index ys p) → superblock_geometry xs ≡ superblock_geometry ys
same_superblock xs ys same =
    let two = λ (p : ℕ) (lt : p + 1 < 1055). two_same p (same p (omega (arith, lt))) (same (p + 1) lt) in
    let four = λ (p : ℕ) (lt : p + 2 + 1 < 1055). four_same p (two p (omega (arith, lt))) (two (p + 2) lt) in
    λ i. record {
      block_size = two 1052 (omega arith) i;
      inodes = four 1024 (omega arith) i;
      zones = four 1044 (omega arith) i;
      inode_map_blocks = two 1030 (omega arith) i;
      zone_map_blocks = two 1032 (omega arith) i;
      first_zone = two 1034 (omega arith) i;
    }
  where
    two_same : (p : ℕ) → slice_index xs p ≡ slice_index ys p → slice_index xs (p + 1) ≡ slice_index ys (p + 1) → u16_at xs p ≡ u16_at ys p
    two_same p a b = rw (a, b) refl

    four_same : (p : ℕ) → u16_at xs p ≡ u16_at ys p → u16_at xs (p + 2) ≡ u16_at ys (p + 2) → u32_at xs p ≡ u32_at ys p
    four_same p a b = rw (a, b) refl

-- ---- the head

-- the device was given up, in the record
gone : (t : Table) (marks : List Mark) (b : Bool) → Agrees t marks → t.given_up ≡ b → gave_up marks ≡ b
gone t marks b agrees e = sym agrees.holds.given_up ∙ e

unread : IsUnread 0 []
unread = record { each = λ place le. refl }

-- a head of which a byte wasn't read
cut_head : (marks : List Mark) → IsCutShort 0 2048 marks → AreRead marks 2048 → ⊥
cut_head marks c read = from_clash (sym (read.each c.place (omega (arith, c.to))) ∙ c.unread)

nothing_of_head : (marks : List Mark) → IsCutShort 0 2048 marks → NothingIsRefused marks
nothing_of_head marks c = record { head = λ refusal h. cut_head marks c h.0; volume = λ finding h. cut_head marks c h.0 }

-- it wasn't read
pub head_stopped : (minor : ℕ) (old mid : Table) (before between : List Told) (was mid_truth : Truth) → Agrees old [] → took_end before ≡ false
    → (head : List ℕ) (stop : Stop) (r : ReadsRange (Err stop) minor 0 2048 head old mid before between was mid_truth)
    → IsVolumeEnd (Err (refusal_by stop)) (marks_after r.went.acts []) mid (took_end (told_of r.went.acts))
head_stopped minor old mid before between was mid_truth agrees none head OutOfMemory r = λ frames ok. ok
head_stopped minor old mid before between was mid_truth agrees none head GaveUp r =
    λ frames ok. (ok, gone mid _ true (r.went.follows [] agrees).agrees r.end.1, nothing_of_head _ (r.end.2 [] agrees unread))
head_stopped minor old mid before between was mid_truth agrees none head Ended r =
    λ frames ok. (
      ok,
      ended_since before between r.went.acts r.went.told none ∙ r.end.0,
      gone mid _ false (r.went.follows [] agrees).agrees r.end.1,
      nothing_of_head _ (r.end.2 [] agrees unread),
    )

-- it was
module _ (minor : ℕ) (old mid : Table) (before between : List Told) (was mid_truth : Truth) (agrees : Agrees old []) (head : List ℕ) (long : length head ≡ 2048)
    (first : ReadsRange (Ok tt) minor 0 2048 head old mid before between was mid_truth) where
  abbrev marks1 : List Mark
  marks1 = marks_after first.went.acts []

  agrees1 : Agrees mid marks1
  agrees1 = (first.went.follows [] agrees).agrees

  filled1 : (k : ℕ) → k < 2048 → IsFilled [] marks1 k (slice_index head k)
  filled1 k lt =
      let e : 0 + k ≡ k = omega arith in
      subst (λ (p : ℕ). IsFilled [] marks1 p (slice_index head k)) e (first.end.3 [] agrees k lt)

  beyond1 : IsUnread 2048 marks1
  beyond1 = record { each = λ place le. (first.beyond [] agrees unread).each place (omega (arith, le)) }

  head1 : head_read marks1 ≡ head
  head1 = first_same head (bytes_read marks1) 2048 long (λ k lt. (filled1 k lt).read.0)

  read1 : AreRead marks1 2048
  read1 = record { each = λ place lt. (filled1 place lt).read.1 }

  -- it is refused
  pub head_refused : (e : LayoutRefusal) → geometry_of head ≡ Err e → e ≢ DoesNotFit
      → (frames : ℕ) → is_frame_count frames ≡ true → (is_frame_count frames ≡ true) × IsHeadRefused marks1 e
  head_refused e why short frames ok = (ok, (read1, ap geometry_of head1 ∙ why, short))

  -- and then the rest
  module _ (new : Table) (after : List Told) (is : Truth) (g : Geometry) (sizes : g ≡ superblock_geometry head) (fit : IsHeadFit head)
      (many : ℕ) (large : 2048 + many ≡ g.zones * g.block_size) (rest : List ℕ) where
    -- what is so whatever came of it
    module _ (result : Result (Unit {0}) Stop) (second : ReadsRange result minor 2048 many rest mid new between after mid_truth is) where
      abbrev marks : List Mark
      marks = marks_after second.went.acts marks1

      keep : KeepsBelow 2048 marks1 marks
      keep = second.below marks1 agrees1 beyond1

      head2 : head_read marks ≡ head
      head2 = first_same head (bytes_read marks) 2048 long (λ k lt. (filled1 k lt).read.0 ∙ sym (keep.each k lt).0)

      read2 : AreRead marks 2048
      read2 = record { each = λ place lt. (keep.each place lt).1 ∙ (filled1 place lt).read.1 }

      geometry2 : geometry_read marks ≡ g
      geometry2 = ap superblock_geometry head2 ∙ sym sizes

      size2 : volume_size marks ≡ 2048 + many
      size2 = ap (λ (h : Geometry). h.zones * h.block_size) geometry2 ∙ sym large

      fits2 : (refusal : LayoutRefusal) → geometry_of (head_read marks) ≡ Err refusal → refusal ≡ DoesNotFit
      fits2 refusal h = fit.fits refusal (sym (ap geometry_of head2) ∙ h)

      agrees2 : Agrees new marks
      agrees2 = (second.went.follows marks1 agrees1).agrees

      nothing2 : IsCutShort 2048 many marks → NothingIsRefused marks
      nothing2 c = record {
        head = λ refusal h. h.2 (fits2 refusal h.1);
        volume = λ finding h. from_clash (sym (h.2.each c.place (let s = size2 in let t = c.to in omega (arith, s, t))) ∙ c.unread);
      }

    -- both, as one
    abbrev whole : (result : Result (Unit {0}) Stop) → ReadsRange result minor 2048 many rest mid new between after mid_truth is → Went minor old new before after was is
    whole result second = went_both minor old mid new before between after was mid_truth is first.went second.went

    all : (result : Result (Unit {0}) Stop) (second : ReadsRange result minor 2048 many rest mid new between after mid_truth is)
        → marks_after (whole result second).acts [] ≡ marks result second
    unfolding went_on further
    all result second = grows_on minor old mid new before between after was mid_truth is first.went (further minor mid new between after mid_truth is second.went) [] agrees

    -- an End is one of the two
    since : (result : Result (Unit {0}) Stop) (second : ReadsRange result minor 2048 many rest mid new between after mid_truth is) → took_end before ≡ false
        → took_end (told_of (whole result second).acts) ≡ took_end after
    since result second none = ended_since before after (whole result second).acts (whole result second).told none

    -- it wasn't read
    stopped_by : (stop : Stop) (second : ReadsRange (Err stop) minor 2048 many rest mid new between after mid_truth is) (ended : Bool) → ended ≡ took_end after
        → IsVolumeEnd (Err (refusal_by stop)) (marks (Err stop) second) new ended
    stopped_by OutOfMemory second ended e = λ frames ok. ok
    stopped_by GaveUp second ended e = λ frames ok. (
      ok,
      gone new _ true (agrees2 (Err GaveUp) second) second.end.1,
      nothing2 (Err GaveUp) second (second.end.2 marks1 agrees1 beyond1),
    )
    stopped_by Ended second ended e = λ frames ok. (
      ok,
      e ∙ second.end.0,
      gone new _ false (agrees2 (Err Ended) second) second.end.1,
      nothing2 (Err Ended) second (second.end.2 marks1 agrees1 beyond1),
    )

    pub rest_stopped : took_end before ≡ false → (stop : Stop) (second : ReadsRange (Err stop) minor 2048 many rest mid new between after mid_truth is)
        → IsVolumeEnd (Err (refusal_by stop)) (marks_after (whole (Err stop) second).acts []) new (took_end (told_of (whole (Err stop) second).acts))
    rest_stopped none stop second =
        subst (λ (ms : List Mark). IsVolumeEnd (Err (refusal_by stop)) ms new (took_end (told_of (whole (Err stop) second).acts))) (sym (all (Err stop) second))
        (stopped_by stop second (took_end (told_of (whole (Err stop) second).acts)) (since (Err stop) second none))

    -- it was
    module _ (second : ReadsRange (Ok tt) minor 2048 many rest mid new between after mid_truth is) (bytes : List ℕ) (full : length bytes ≡ 2048 + many)
        (low : (k : ℕ) → k < 2048 → slice_index bytes k ≡ slice_index head k)
        (high : (k : ℕ) → k < many → slice_index bytes (2048 + k) ≡ slice_index rest k) where
      abbrev ms : List Mark
      ms = marks (Ok tt) second

      filled2 : (k : ℕ) → k < many → IsFilled marks1 ms (2048 + k) (slice_index rest k)
      filled2 k lt = second.end.3 marks1 agrees1 k lt

      -- each place was read, and gave its byte
      was_read : (k : ℕ) → k < 2048 + many → (slice_index bytes k ≡ bytes_read ms k) × (is_read ms k ≡ true)
      was_read k lt = elim (cases_lt k 2048) [
        | inl l ↦
            let f = (filled1 k l).read in
            let b = (keep (Ok tt) second).each k l in
            (low k l ∙ f.0 ∙ sym b.0, b.1 ∙ f.1)
        | inr h ↦
            let e : 2048 + (k - 2048) ≡ k = omega (arith, h) in
            let less : k - 2048 < many = omega (arith, h, lt) in
            let f = (filled2 (k - 2048) less).read in
            subst (λ (p : ℕ). (slice_index bytes p ≡ bytes_read ms p) × (is_read ms p ≡ true)) e (high (k - 2048) less ∙ f.0, f.1)
      ]

      volume_is : volume_read ms ≡ bytes
      volume_is = ap (λ (n : ℕ). first_bytes (bytes_read ms) n) (size2 (Ok tt) second) ∙ first_same bytes (bytes_read ms) (2048 + many) full (λ k lt. (was_read k lt).0)

      are_read : AreRead ms (volume_size ms)
      are_read = subst (λ (n : ℕ). AreRead ms n) (sym (size2 (Ok tt) second)) (record { each = λ place lt. (was_read place lt).1 })

      -- the check finds something in it
      pub volume_refused : (finding : Finding) → verdict_of bytes ≡ volume.Found finding → (frames : ℕ) → is_frame_count frames ≡ true
          → (is_frame_count frames ≡ true) × IsVolumeRefused (marks_after (whole (Ok tt) second).acts []) finding
      volume_refused finding is frames ok = (
        ok,
        subst (λ (l : List Mark). IsVolumeRefused l finding) (sym (all (Ok tt) second))
            (read2 (Ok tt) second, fits2 (Ok tt) second, are_read, ap verdict_of volume_is ∙ is),
      )

      -- over true replies the bytes are the image's
      of_image : (image : Contents) → HasTrueReplies image ms → (k : ℕ) → k < 2048 + many → slice_index bytes k ≡ image k
      of_image image tr k lt =
          let early : HasTrueReplies image marks1 = true_before second.went.acts image marks1 tr in
          let a = first.went.leaves image [] agrees early in
          elim (cases_lt k 2048) [
            | inl l ↦ low k l ∙ (filled1 k l).is_disk image early refl
            | inr h ↦
                let e : 2048 + (k - 2048) ≡ k = omega (arith, h) in
                let less : k - 2048 < many = omega (arith, h, lt) in
                subst (λ (p : ℕ). slice_index bytes p ≡ image p) e
                (high (k - 2048) less ∙ (filled2 (k - 2048) less).is_disk image tr (a.sure (2048 + (k - 2048)) refl) ∙ a.disk (2048 + (k - 2048)))
          ]

      -- it is clean
      pub volume_clean : took_end before ≡ false → (clean : Clean) → geometry_of bytes ≡ Ok clean.geometry → verdict_of bytes ≡ volume.Clean
          → (t : Tree) × HoldsClosed bytes t
          → IsVolumeEnd (Ok clean) (marks_after (whole (Ok tt) second).acts []) new (took_end (told_of (whole (Ok tt) second).acts))
      volume_clean none clean parsed verdict holds =
          subst (λ (l : List Mark). IsVolumeEnd (Ok clean) l new (took_end (told_of (whole (Ok tt) second).acts))) (sym (all (Ok tt) second)) (
            since (Ok tt) second none ∙ second.end.0,
            record {
              idle = second.end.2;
              going = second.end.1;
              geometry = same ∙ sym (geometry2 (Ok tt) second);
              sizes = fits.0;
              whole = are_read;
              verdict = ap verdict_of volume_is ∙ verdict;
              tree = holds.0;
              held = subst (λ (l : List ℕ). HoldsClosed l holds.0) (sym volume_is) holds.1;
              at_first = λ image tr. record {
                holds = record {
                  superblock = record {
                    image = bytes;
                    parsed = parsed;
                    same = λ p from to. byte_at clean.geometry image p fits.0.sized
                        ∙ sym (of_image image tr p (let l = large in let z = long_enough in omega (arith, to, z)));
                  };
                  nodes = nodes image tr;
                };
                closed = holds.1.closed;
              };
            },
          )
        where
          fits : IsGeometry clean.geometry × (clean.geometry.zones * clean.geometry.block_size ≤ length bytes)
          fits = geometry_fits bytes clean.geometry parsed

          same : clean.geometry ≡ g
          same = parsed_is bytes clean.geometry parsed ∙ same_superblock bytes head (λ p lt. low p (omega (arith, lt))) ∙ sym sizes

          long_enough : 2048 ≤ 2048 + many
          long_enough = omega arith

          size_is : clean.geometry.zones * clean.geometry.block_size ≡ 2048 + many
          size_is = ap (λ (h : Geometry). h.zones * h.block_size) same ∙ sym large

          nodes : (image : Contents) → HasTrueReplies image ms → HoldsNodes clean.geometry (pieces clean.geometry (blocks_of clean.geometry image)) holds.0
          nodes image tr =
              let h = holds.1 in
              let one : h.geometry ≡ clean.geometry = one_geometry (sym h.parsed ∙ parsed) in
              let there : HoldsNodes clean.geometry (pieces clean.geometry (disk_of clean.geometry bytes)) holds.0 =
              subst (λ (x : Geometry). HoldsNodes x (pieces x (disk_of x bytes)) holds.0) one h.holds in
              subst (λ (v : Pieces). HoldsNodes clean.geometry v holds.0)
              (same_pieces clean.geometry fits.0 (blocks_of clean.geometry image) (disk_of clean.geometry bytes)
              (same_block clean.geometry image (slice_index bytes) (λ k lt. of_image image tr k (let s = size_is in omega (arith, s, lt)))))
              there
