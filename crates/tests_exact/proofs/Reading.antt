-- An image as long as that of examples/v.img, drivers for it, and what a driver does that reads two of its sectors: it takes the request
-- and reads the first, then the second, and answers.
use Rattle.std.specs.Prelude.{◌≡◌, ◌≢◌, zero, suc, ℕ, ◌+◌, ◌*◌, ◌<◌, ◌/◌, List, [], ◌∷◌, ◌++◌, length, take, drop, replicate, Some}
use Rattle.std.specs.Prelude.{Ok, true, false, ◌==◌, ◌||◌, ◌&&◌, nat_lt, IsTrue, refl, get_or}
use Rattle.std.specs.List.{concat}
use Rattle.std.specs.Simd.{first_chunks}
use Rattle.std.proofs.Common.{arith, ap, sym, ◌∙◌, lit≤, inr, length-drop}
use Rattle.std.proofs.Math.Seq.{take-append_seam, drop-append_seam}
use Rattle.std.proofs.lemmas.List.{take-append-drop, drop-drop}
use Rattle.std.proofs.lemmas.List.Elements.{All-get_or}
use Rattle.layout.specs.declared.Geometry.{Geometry}
use Rattle.media.specs.Contents.{MediaState, sectors_of, accepts}
use Rattle.media.proofs.SectorLaws.{sector_count, whole_sectors}
use Rattle.message.specs.declared.BlockRequest.{BlockRequest}
use Rattle.message.specs.declared.BlockReply.{BlockReply}
use Rattle.message.specs.declared.Kind.TheVariants.{Read, Write}
use Rattle.bdev.specs.declared.Accept.TheVariants.{Taken}
use Rattle.bdev.specs.declared.Answer.{Answer}
use Rattle.bdev.specs.declared.Step.TheVariants.{Working, Done}
use Rattle.bdev.specs.DriverState.{DriverState, Work, chunk, fresh}
use Rattle.bdev.specs.Promises.{IsDriver, Takes, StepKeeps}
use Rattle.records.specs.Area.{Area, FitsArea, area_of}
use Rattle.synchronous_driver.specs.Steps.{HandsOver}
use Rattle.true_replies.specs.Events as events
use Rattle.simulated_link.specs.Disks.{SlotSteps}
use Rattle.tests_exact.proofs.Drivers.{slot, too_far}

-- its sizes, and what its server may write
abbrev pub sizes : Geometry
sizes = record { block_size = 1024; inodes = 32; zones = 64; inode_map_blocks = 1; zone_map_blocks = 1; first_zone = 6 }

abbrev pub area : Area
area = area_of sizes 0

-- its sectors, on which generation g may write
abbrev pub media_of : List ℕ → ℕ → MediaState
media_of image g = record { sectors = sectors_of image; generation = g }

-- the two sectors from 4096 on: the inode table's first
abbrev pub at_8 : List ℕ → List ℕ
at_8 image = get_or (sectors_of image) 8 []

abbrev pub at_9 : List ℕ → List ℕ
at_9 image = get_or (sectors_of image) 9 []

-- there are 128 of them, of 512 bytes each
pub sectors_128 : (image : List ℕ) → length image ≡ 65536 → length (sectors_of image) ≡ 128
sectors_128 image long = sector_count image ∙ ap (λ (n : ℕ). n / 512) long

long_sector : (image : List ℕ) (n : ℕ) → length image ≡ 65536 → n < 128 → length (get_or (sectors_of image) n []) ≡ 512
long_sector image n long within =
    let whole = whole_sectors image (omega (arith, long)) in
    All-get_or (λ s. length s ≡ 512) (sectors_of image) n [] (omega (arith, within, sectors_128 image long)) whole.each

-- joined they are the image
joined : (k : ℕ) (bytes : List ℕ) → length bytes ≡ 512 * k → concat (first_chunks 512 k bytes) ≡ bytes
joined zero [] long = refl
joined zero (b ∷ bytes) long = absurd (let h : suc (length bytes) ≡ 512 * 0 = long in omega (arith, h))
joined (suc k) bytes long =
    let rest : length (drop 512 bytes) ≡ 512 * k = omega (arith, long, length-drop 512 bytes) in
    ap (λ (l : List ℕ). take 512 bytes ++ l) (joined k (drop 512 bytes) rest) ∙ take-append-drop 512 bytes

pub sectors_joined : (image : List ℕ) → length image ≡ 65536 → concat (sectors_of image) ≡ image
sectors_joined image long =
    ap (λ (n : ℕ). concat (first_chunks 512 (n / 512) image)) long ∙ joined 128 image long

-- a driver of that image that took nothing, and six of them
abbrev pub ready : DriverState
ready = fresh (Some (0, 128) ∷ [])

abbrev pub five : List DriverState
five = ready ∷ ready ∷ ready ∷ ready ∷ ready ∷ []

-- a read of 1024 bytes at 4096
pub zeros : List ℕ
zeros = replicate 4096 0

abbrev pub read : BlockRequest
read = record { id = 1; kind = Read; minor = 0; position = 4096; count = 1024; bytes = zeros }

pub read_fits : FitsArea area read
unfolding zeros
read_fits = record { fits = record { minor_is = refl; count = lit≤ tt; bytes = refl }; lies = tt }

-- the read in work, of which nothing was read, one sector, both
abbrev pub untouched : Work
untouched = record { request = read; moved = λ k. false; got = [] }

abbrev pub half : List ℕ → Work
half image = record { request = read; moved = λ k. k == 0; got = at_8 image }

abbrev pub whole : List ℕ → Work
whole image = record { request = read; moved = λ k. (k == 0) || (k == 1); got = at_8 image ++ at_9 image }

-- a driver that took the read; one that has one sector; one that has done with it
abbrev pub begins : DriverState
begins = record ready { last = 1; work = Some untouched }

abbrev pub has_one : List ℕ → DriverState
has_one image = record ready { last = 1; work = Some (half image) }

abbrev pub done : DriverState
done = record ready { last = 1 }

-- its answer: the 1024 bytes of both sectors
abbrev pub answer : List ℕ → Answer
answer image = record { id = 1; outcome = Ok 1024; bytes = at_8 image ++ at_9 image }

-- the answer as driver g sends it
abbrev pub reply_of : List ℕ → ℕ → BlockReply
reply_of image g = events.reply_of g (answer image)

begins_is_driver : IsDriver begins
begins_is_driver = record { bad_is_few = lit≤ tt; names_its_own = tt }

one_is_driver : (image : List ℕ) → IsDriver (has_one image)
one_is_driver image = record { bad_is_few = lit≤ tt; names_its_own = tt }

done_is_driver : IsDriver done
done_is_driver = record { bad_is_few = lit≤ tt; names_its_own = tt }

-- the k-th 512 bytes of none, of a sector and more
none_left : (n : ℕ) → drop {A = ℕ} n [] ≡ []
none_left zero = refl
none_left (suc n) = refl

chunk_none : (k : ℕ) → chunk k [] ≡ []
chunk_none k = ap (λ (l : List ℕ). take 512 l) (none_left (512 * k))

chunk_first : (s rest : List ℕ) → length s ≡ 512 → chunk 0 (s ++ rest) ≡ s
chunk_first s rest long = ap (λ (n : ℕ). take n (s ++ rest)) (sym long) ∙ take-append_seam s rest

chunk_next : (k : ℕ) (s rest : List ℕ) → length s ≡ 512 → chunk (suc k) (s ++ rest) ≡ chunk k rest
chunk_next k s rest long =
    let far : 512 * suc k ≡ 512 + 512 * k = omega arith in
    let past : drop 512 (s ++ rest) ≡ rest = ap (λ (n : ℕ). drop n (s ++ rest)) (sym long) ∙ drop-append_seam s rest in
    ap (λ (n : ℕ). take 512 (drop n (s ++ rest))) far ∙ ap (take 512) (sym (drop-drop (512 * k) 512 (s ++ rest)))
    ∙ ap (λ (l : List ℕ). take 512 (drop (512 * k) l)) past

no_more : (l : List ℕ) → l ++ [] ≡ l
no_more [] = refl
no_more (x ∷ l) = ap (λ (m : List ℕ). x ∷ m) (no_more l)

-- it takes the read
takes_read : (others : List BlockRequest) → HandsOver ready (read ∷ others) begins others
takes_read others =
    let takes : Takes ready read begins =
    record { same_ranges = refl; last = refl; work = (refl, λ k. refl); same_bad = refl; same_failed = refl } in
    (Taken, (refl, lit≤ tt, takes), refl)

-- what it has after the first sector: that, and nothing else
first_bytes : (image : List ℕ) → length image ≡ 65536 → chunk 0 (at_8 image) ≡ at_8 image
first_bytes image long =
    ap (chunk 0) (sym (no_more (at_8 image))) ∙ chunk_first (at_8 image) [] (long_sector image 8 long (lit≤ tt))

first_alone : (image : List ℕ) (k : ℕ) → length image ≡ 65536 → k ≢ 0 → chunk k (at_8 image) ≡ chunk k []
first_alone image zero long other = absurd (other refl)
first_alone image (suc k) long other =
    ap (chunk (suc k)) (sym (no_more (at_8 image))) ∙ chunk_next k (at_8 image) [] (long_sector image 8 long (lit≤ tt))
    ∙ chunk_none k ∙ sym (chunk_none (suc k))

-- and after the second
second_bytes : (image : List ℕ) → length image ≡ 65536 → chunk 1 (at_8 image ++ at_9 image) ≡ at_9 image
second_bytes image long =
    chunk_next 0 (at_8 image) (at_9 image) (long_sector image 8 long (lit≤ tt))
    ∙ ap (chunk 0) (sym (no_more (at_9 image))) ∙ chunk_first (at_9 image) [] (long_sector image 9 long (lit≤ tt))

second_alone : (image : List ℕ) (k : ℕ) → length image ≡ 65536 → k ≢ 1 → chunk k (at_8 image ++ at_9 image) ≡ chunk k (at_8 image)
second_alone image zero long other =
    chunk_first (at_8 image) (at_9 image) (long_sector image 8 long (lit≤ tt)) ∙ sym (first_bytes image long)
second_alone image (suc zero) long other = absurd (other refl)
second_alone image (suc (suc k)) long other =
    chunk_next (suc k) (at_8 image) (at_9 image) (long_sector image 8 long (lit≤ tt))
    ∙ ap (chunk (suc k)) (sym (no_more (at_9 image))) ∙ chunk_next k (at_9 image) [] (long_sector image 9 long (lit≤ tt))
    ∙ chunk_none k ∙ sym (chunk_none (suc (suc k))) ∙ sym (first_alone image (suc (suc k)) long (λ e. omega (arith, e)))

-- the media let generation g have a sector while it is the last
accepted : (image : List ℕ) (g n : ℕ) → length image ≡ 65536 → ((g == g) && nat_lt n 128) ≡ true → accepts (media_of image g) g n ≡ true
accepted image g n long there = ap (λ (m : ℕ). (g == g) && nat_lt n m) (sectors_128 image long) ∙ there

-- it reads the first sector
reads_first : (image : List ℕ) (g : ℕ) → length image ≡ 65536 → ((g == g) && nat_lt 8 128) ≡ true
    → StepKeeps begins (media_of image g) g Working (has_one image) (media_of image g)
reads_first image g long there = record {
  same_ranges = refl;
  same_last = refl;
  steps = (
    half image,
    inr (record {
      run = record { first = 8; count = 2 };
      number = 0;
      next = record { plan = refl; within = lit≤ tt; named = λ w. (let h : Read ≡ Write = w in cc) };
      accepted = accepted image g 8 long there;
      same_request = refl;
      moved = λ k. refl;
      bytes = (refl, first_bytes image long, λ k other. first_alone image k long other);
    }),
    record { stays = refl; failed_is = refl; same_bad = refl },
  );
}

-- the two sectors are all of it
each_moved : (k : ℕ) → 512 * k < 1024 → IsTrue ((k == 0) || (k == 1))
each_moved zero near = refl
each_moved (suc zero) near = refl
each_moved (suc (suc k)) far = absurd (too_far k far)

-- it reads the second, and answers
reads_second : (image : List ℕ) (g : ℕ) → length image ≡ 65536 → ((g == g) && nat_lt 9 128) ≡ true
    → StepKeeps (has_one image) (media_of image g) g (Done (answer image)) done (media_of image g)
reads_second image g long there = record {
  same_ranges = refl;
  same_last = refl;
  steps = (
    whole image,
    inr (record {
      run = record { first = 8; count = 2 };
      number = 1;
      next = record { plan = refl; within = lit≤ tt; named = λ w. (let h : Read ≡ Write = w in cc) };
      accepted = accepted image g 9 long there;
      same_request = refl;
      moved = λ k. refl;
      bytes = (refl, second_bytes image long, λ k other. second_alone image k long other);
    }),
    record {
      ended = refl;
      same_failed = refl;
      id = refl;
      answers = record { whole = refl; within = lit≤ tt; moved = each_moved; bears = λ k near. refl };
      counts = refl;
    },
  );
}

-- a driver with the read on its line takes it, and reads the first sector
pub begins_read : (image : List ℕ) (g : ℕ) → length image ≡ 65536 → ((g == g) && nat_lt 8 128) ≡ true
    → SlotSteps g (record (slot ready) { line = read ∷ [] }) (media_of image g) Working (slot (has_one image)) (media_of image g)
begins_read image g long there = record {
  handed = begins;
  hands = takes_read [];
  driver = begins_is_driver;
  steps = reads_first image g long there;
  after = one_is_driver image;
  lives = refl;
  hangs = refl;
}

-- at its next step it reads the second, and answers
pub ends_read : (image : List ℕ) (g : ℕ) → length image ≡ 65536 → ((g == g) && nat_lt 9 128) ≡ true
    → SlotSteps g (slot (has_one image)) (media_of image g) (Done (answer image)) (slot done) (media_of image g)
ends_read image g long there = record {
  handed = has_one image;
  hands = (refl, refl);
  driver = one_is_driver image;
  steps = reads_second image g long there;
  after = done_is_driver;
  lives = refl;
  hangs = refl;
}
