-- What a service that is stopped leaves, by how its last sync went.
use Rattle.std.proofs.Common.{◌≡◌, ◌*◌, ◌/◌, ◌∙◌, ◌<◌, ℕ, List, [], Option, Result, Ok, Err, IfOk, IfErr, Bool, true, false, refl, subst}
use Rattle.std.proofs.Common.{sym}
use Rattle.std.proofs.lemmas.Bool.{false≢true}
use Rattle.std.specs.Prelude.{◌↔◌, slice_index}
use Rattle.std.specs.Bool.{OnFalse, OnTrue}
use Rattle.std.specs.Global.{Vec}
use Rattle.layout.specs.declared.Geometry.{Geometry}
use Rattle.records.specs.Marks.{Mark, IsBeginning}
use Rattle.records.specs.Disk.{HasTrueReplies, disk_after}
use Rattle.records.specs.Opening.{Opening, contents_at}
use Rattle.reissue.specs.declared.link.Link.{Ghosts as LinkWords}
use Rattle.board.specs.View.{is_used, without}
use Rattle.board.specs.Keeper.{AreAllFree, IsOneUsed}
use Rattle.changes.specs.Units.{is_marked}
use Rattle.volume_reading.specs.Pieces.{Piece}
use Rattle.volume_reading.proofs.Pieces.{bytes_of_in, have_both}
use Rattle.shared_server.specs.Stopping.{AreOnDisk, IsFinished, SyncEnd, Went, WasGivenUp, WasCut, WasNotAsRead, WasNotRead}
use Rattle.shared_server.specs.Finishing.{finish_end, sync_of, units_back}
use Rattle.shared_server.specs.declared.finishing.Finish.{Finish}
use Rattle.shared_server.specs.declared.finishing.Finish.TheVariants.{Read, Unread, GivenUp, Cut}
use Rattle.shared_server.specs.declared.locked.LastSync.{LastSync}
use Rattle.shared_server.specs.declared.locked.LastSync.TheVariants as sync
use Rattle.shared_server.proofs.BackLaws.{unread_line}
use Rattle.shared_server.proofs.StoppingLaws.{finished_from}
use Rattle.shared_media.specs.Confined.{IsImageOutside}
use Rattle.serve.specs.Stopping.{HasPieces, IsAsRead, IsDisk, IsImageOf, IsLastImage, IsLastOfAll, IsLeftAfter, IsOther, IsRange, WhoIsLeft}
use Rattle.serve.specs.Stopping.{WhyNotSynced, range_in, was_synced}
use Rattle.serve.specs.declared.stopping.StopRefusal.{StopRefusal}
use Rattle.serve.specs.declared.stopping.StopRefusal.TheVariants as stop

-- where no number is in use each is free
free_at : (b : Bool) → (b ≡ true → ⊥) → b ≡ false
free_at true never = absurd (never refl)
free_at false never = refl

pub free_if_none : (used : List ℕ) (b : Bool) → ((b ≡ true) ↔ IsOneUsed used) → b ≡ false → AreAllFree used
free_if_none used b h none = λ n low.
    free_at (is_used n used) (λ is. let t : b ≡ true = h.1 (n, low, is) in let both : false ≡ true = sym none ∙ t in cc)

-- by whether a session is left at a link
pub one_left : {L : Type 0} (numbers : L → List ℕ) (but : Option ℕ) (line : L) (b : Bool)
    → ((b ≡ true) ↔ IsOneUsed (without but (numbers line))) → OnTrue b ((l : L) × IsOneUsed (without but (numbers l)))
one_left numbers but line true h = (line, h.0 refl)
one_left numbers but line false h = tt

pub none_left : {L : Type 0} (numbers : L → List ℕ) (but : Option ℕ) (line : L) (b : Bool)
    → ((b ≡ true) ↔ IsOneUsed (without but (numbers line))) → OnFalse b ((l : L) × AreAllFree (without but (numbers l)))
none_left numbers but line true h = tt
none_left numbers but line false h = (line, free_if_none (without but (numbers line)) false h refl)

-- what was told of it, under another name of the number
pub left_told : {L : Type 0} (numbers : L → List ℕ) (but is : Option ℕ) (b : Bool) → but ≡ is → b ≡ true
    → OnTrue b ((line : L) × IsOneUsed (without but (numbers line))) → (line : L) × IsOneUsed (without is (numbers line))
left_told {L} numbers but is true same yes_it h = subst (λ (o : Option ℕ). (line : L) × IsOneUsed (without o (numbers line))) same h
left_told numbers but is false same yes_it h = cc

pub none_told : {L : Type 0} (numbers : L → List ℕ) (but is : Option ℕ) (b : Bool) → but ≡ is → b ≡ false
    → OnFalse b ((line : L) × AreAllFree (without but (numbers line))) → (line : L) × AreAllFree (without is (numbers line))
none_told {L} numbers but is false same not_it h = subst (λ (o : Option ℕ). (line : L) × AreAllFree (without o (numbers line))) same h
none_told numbers but is true same not_it h = cc

-- what a server was let go with, by another name of the range's size, and beside what had been seen before
pub finished_with : {L : Type 0} (link : LinkWords L) (numbers : L → List ℕ) (g : Geometry) (v : Opening) (earlier seen : List Mark)
    (used : List ℕ) (how : SyncEnd) (size is : ℕ) (units : List Bool) (pieces : List Piece) → size ≡ is → IsBeginning earlier seen
    → IsFinished link numbers g v seen used how size units pieces → IsFinished link numbers g v earlier used how is units pieces
finished_with link numbers g v earlier seen used how size is units pieces same begins l =
    subst (λ (n : ℕ). IsFinished link numbers g v earlier used how n units pieces) same
    (finished_from link numbers g v earlier seen used how size units pieces begins l)

-- with which a server of a volume was let go, after a last sync that came to this, and these pieces that were read back
abbrev pub Finished : {L : Type 0} → LinkWords L → (L → List ℕ) → Geometry → Opening → List Mark → List ℕ → Finish → List Piece → Type 0
Finished link numbers g v seen used finish pieces =
    IsFinished link numbers g v seen used (finish_end finish) (512 * v.count) (units_back finish) pieces

-- the range of an image is the disk, where it has what was read back
is_disk_by : (b : Bool) (v : Opening) (marks : List Mark) (units : List Bool) (pieces : List Piece) (image : List ℕ)
    → AreOnDisk v (512 * v.count) marks units pieces → HasPieces v units pieces image → HasTrueReplies (contents_at v) marks → (k : ℕ)
    → k < 512 * v.count → is_marked units (k / 4096) ≡ b → slice_index (range_in v image) k ≡ disk_after (contents_at v) marks k
is_disk_by true v marks units pieces image back has replies k low is =
    (bytes_of_in (λ n b. slice_index (range_in v image) n ≡ disk_after (contents_at v) marks n) pieces k
    (have_both (λ n b. slice_index (range_in v image) n ≡ b) (λ n b. b ≡ disk_after (contents_at v) marks n)
    (λ n b. slice_index (range_in v image) n ≡ disk_after (contents_at v) marks n) pieces has.there (back.is_disk replies)
    (λ n b there on. there ∙ on)) (back.all k low is)).1
is_disk_by false v marks units pieces image back has replies k low is = has.elsewhere k low is ∙ sym (back.elsewhere k low is)

is_disk : (v : Opening) (marks : List Mark) (units : List Bool) (pieces : List Piece) (image : List ℕ)
    → AreOnDisk v (512 * v.count) marks units pieces → HasPieces v units pieces image → IsDisk v marks image
is_disk v marks units pieces image back has = record {
  units = units;
  pieces = pieces;
  back = back;
  has = has;
  is_disk = λ replies k low. is_disk_by (is_marked units (k / 4096)) v marks units pieces image back has replies k low refl;
}

-- what is left of the media, and no session is left then
left_of_all : {L : Type 0} (link : LinkWords L) (numbers : L → List ℕ) (g : Geometry) (v : Opening) (seen : List Mark) (used : List ℕ)
    (how : SyncEnd) (size : ℕ) (units : List Bool) (pieces : List Piece) (image : List ℕ) → IsImageOutside v image
    → (l : IsFinished link numbers g v seen used how size units pieces) → IsRange how v l.last.marks image → AreAllFree used
    → IsLastOfAll link numbers g v seen how image
left_of_all link numbers g v seen used how size units pieces image left l range free = record {
  image_is = record { outside = left; line = l.line; last = l.last; range = range };
  none_left = subst AreAllFree (sym l.same) free;
}

-- where it is as it was read
as_read_of_all : {L : Type 0} (link : LinkWords L) (numbers : L → List ℕ) (g : Geometry) (v : Opening) (seen : List Mark) (used : List ℕ)
    (finish : Finish) (pieces : List Piece) (image : List ℕ) → IsAsRead v finish pieces image → Finished link numbers g v seen used finish pieces → AreAllFree used
    → IsLastOfAll link numbers g v seen Went image
as_read_of_all link numbers g v seen used (Read units) pieces image is l free =
    left_of_all link numbers g v seen used Went (512 * v.count) units pieces image is.0 l
    (is_disk v l.last.marks units pieces image l.back is.1) free
as_read_of_all link numbers g v seen used Unread pieces image is l free = absurd is
as_read_of_all link numbers g v seen used GivenUp pieces image is l free = absurd is
as_read_of_all link numbers g v seen used Cut pieces image is l free = absurd is

-- where it isn't
other_of_all : {L : Type 0} (link : LinkWords L) (numbers : L → List ℕ) (g : Geometry) (v : Opening) (seen : List Mark) (used : List ℕ)
    (finish : Finish) (pieces : List Piece) (image : List ℕ) → IsOther v finish pieces image → IsImageOutside v image
    → Finished link numbers g v seen used finish pieces
    → AreAllFree used → IsLastOfAll link numbers g v seen WasNotAsRead image
other_of_all link numbers g v seen used (Read units) pieces image other left l free = record {
  image_is = record {
    outside = left;
    line = l.line;
    last = record { ended = l.last.ended; marks = l.last.marks; guaranteed = l.last.guaranteed; goes_on = l.last.goes_on; tells = l.last.tells };
    range = (units, pieces, l.back, other);
  };
  none_left = subst AreAllFree (sym l.same) free;
}
other_of_all link numbers g v seen used Unread pieces image other left l free = absurd other
other_of_all link numbers g v seen used GivenUp pieces image other left l free = absurd other
other_of_all link numbers g v seen used Cut pieces image other left l free = absurd other

-- where it wasn't read, or not all
unread_of_all : {L : Type 0} (link : LinkWords L) (numbers : L → List ℕ) (g : Geometry) (v : Opening) (seen : List Mark) (used : List ℕ)
    (finish : Finish) (pieces : List Piece) (image : List ℕ) → was_synced finish ≡ true → IsImageOutside v image
    → Finished link numbers g v seen used finish pieces
    → AreAllFree used → IsLastOfAll link numbers g v seen WasNotRead image
unread_of_all link numbers g v seen used (Read units) pieces image synced left l free = record {
  image_is = record { outside = left; line = l.line; last = unread_line link g v seen l.line l.last; range = tt };
  none_left = subst AreAllFree (sym l.same) free;
}
unread_of_all link numbers g v seen used Unread pieces image synced left l free =
    left_of_all link numbers g v seen used WasNotRead (512 * v.count) [] pieces image left l tt free
unread_of_all link numbers g v seen used GivenUp pieces image synced left l free = absurd (false≢true synced)
unread_of_all link numbers g v seen used Cut pieces image synced left l free = absurd (false≢true synced)

-- who is left, by what came of the last sync
pub who_after : {L T : Type 0} (link : LinkWords L) (numbers : L → List ℕ) (g : Geometry) (v : Opening) (seen : List Mark) (used : List ℕ)
    (but : Option ℕ) (finish : Finish) (pieces : List Piece) (result : Result (Vec ℕ) (StopRefusal T))
    → IfOk result (λ image. IsAsRead v finish pieces image.items) → IfErr result (IsLeftAfter v finish pieces)
    → Finished link numbers g v seen used finish pieces → AreAllFree used
    → WhoIsLeft link numbers g v seen but result
who_after link numbers g v seen used but finish pieces (Ok image) h k l free =
    as_read_of_all link numbers g v seen used finish pieces image.items h l free
who_after link numbers g v seen used but finish pieces (Err (stop.SessionsLeft left)) h k l free = absurd k
who_after link numbers g v seen used but finish pieces (Err (stop.GivenUp image)) h k l free =
    left_of_all link numbers g v seen used WasGivenUp (512 * v.count) [] pieces image.items k.1
    (subst (λ (f : Finish). Finished link numbers g v seen used f pieces) k.0 l) tt free
who_after link numbers g v seen used but finish pieces (Err (stop.OutOfMemory left)) h k l free = absurd k
who_after link numbers g v seen used but finish pieces (Err (stop.LinkEnded image)) h k l free =
    left_of_all link numbers g v seen used WasCut (512 * v.count) [] pieces image.items k.1
    (subst (λ (f : Finish). Finished link numbers g v seen used f pieces) k.0 l) tt free
who_after link numbers g v seen used but finish pieces (Err (stop.NotAsRead image)) h k l free =
    other_of_all link numbers g v seen used finish pieces image.items k.0 k.1 l free
who_after link numbers g v seen used but finish pieces (Err (stop.NotRead image)) h k l free =
    unread_of_all link numbers g v seen used finish pieces image.items k.0 k.1 l free

-- so the image is known that is given
pub image_after : {L T : Type 0} (link : LinkWords L) (numbers : L → List ℕ) (g : Geometry) (v : Opening) (seen : List Mark) (but : Option ℕ)
    (result : Result (Vec ℕ) (StopRefusal T)) → WhoIsLeft link numbers g v seen but result
    → IfOk result (λ image. IsLastImage link g v seen Went image.items)
image_after link numbers g v seen but (Ok image) who = who.image_is
image_after link numbers g v seen but (Err e) who = tt

-- and why there is none
pub why_after : {L T : Type 0} (link : LinkWords L) (numbers : L → List ℕ) (g : Geometry) (v : Opening) (seen : List Mark) (but : Option ℕ)
    (finish : Finish) (pieces : List Piece) (is_back : T → Type 0) (result : Result (Vec ℕ) (StopRefusal T))
    → IfErr result (IsLeftAfter v finish pieces)
    → WhoIsLeft link numbers g v seen but result → IfErr result (WhyNotSynced link g v seen is_back)
why_after link numbers g v seen but finish pieces is_back (Ok image) k who = tt
why_after link numbers g v seen but finish pieces is_back (Err (stop.SessionsLeft left)) k who = absurd k
why_after link numbers g v seen but finish pieces is_back (Err (stop.GivenUp image)) k who = who.image_is
why_after link numbers g v seen but finish pieces is_back (Err (stop.OutOfMemory left)) k who = absurd k
why_after link numbers g v seen but finish pieces is_back (Err (stop.LinkEnded image)) k who = who.image_is
why_after link numbers g v seen but finish pieces is_back (Err (stop.NotAsRead image)) k who = who.image_is
why_after link numbers g v seen but finish pieces is_back (Err (stop.NotRead image)) k who = who.image_is

-- the image that stopping a service gave is that of the last sync, which went as is told
pub image_given : {L T : Type 0} (link : LinkWords L) (g : Geometry) (v : Opening) (seen : List Mark) (is_back : T → Type 0)
    (stopped : Result (Vec ℕ) (StopRefusal T)) (last : LastSync) (image : Vec ℕ) → IsImageOf stopped last image
    → IfOk stopped (λ i. IsLastImage link g v seen Went i.items)
    → IfErr stopped (WhyNotSynced link g v seen is_back) → IsLastImage link g v seen (sync_of last) image.items
image_given link g v seen is_back (Ok i) sync.Done image is ok why = rw is ok
image_given link g v seen is_back (Ok i) sync.GivenUp image is ok why = absurd is
image_given link g v seen is_back (Ok i) sync.Cut image is ok why = absurd is
image_given link g v seen is_back (Err (stop.GivenUp i)) sync.GivenUp image is ok why = rw is why
image_given link g v seen is_back (Err (stop.LinkEnded i)) sync.Cut image is ok why = rw is why
image_given link g v seen is_back (Err (stop.NotAsRead i)) sync.NotAsRead image is ok why = rw is why
image_given link g v seen is_back (Ok i) sync.NotAsRead image is ok why = absurd is
image_given link g v seen is_back (Err (stop.GivenUp i)) sync.NotAsRead image is ok why = absurd is
image_given link g v seen is_back (Err (stop.LinkEnded i)) sync.NotAsRead image is ok why = absurd is
image_given link g v seen is_back (Err (stop.NotAsRead i)) sync.Done image is ok why = absurd is
image_given link g v seen is_back (Err (stop.NotAsRead i)) sync.GivenUp image is ok why = absurd is
image_given link g v seen is_back (Err (stop.NotAsRead i)) sync.Cut image is ok why = absurd is
image_given link g v seen is_back (Err (stop.GivenUp i)) sync.Done image is ok why = absurd is
image_given link g v seen is_back (Err (stop.GivenUp i)) sync.Cut image is ok why = absurd is
image_given link g v seen is_back (Err (stop.LinkEnded i)) sync.Done image is ok why = absurd is
image_given link g v seen is_back (Err (stop.LinkEnded i)) sync.GivenUp image is ok why = absurd is
image_given link g v seen is_back (Err (stop.NotRead i)) sync.NotRead image is ok why = rw is why
image_given link g v seen is_back (Ok i) sync.NotRead image is ok why = absurd is
image_given link g v seen is_back (Err (stop.GivenUp i)) sync.NotRead image is ok why = absurd is
image_given link g v seen is_back (Err (stop.LinkEnded i)) sync.NotRead image is ok why = absurd is
image_given link g v seen is_back (Err (stop.NotAsRead i)) sync.NotRead image is ok why = absurd is
image_given link g v seen is_back (Err (stop.NotRead i)) sync.Done image is ok why = absurd is
image_given link g v seen is_back (Err (stop.NotRead i)) sync.GivenUp image is ok why = absurd is
image_given link g v seen is_back (Err (stop.NotRead i)) sync.Cut image is ok why = absurd is
image_given link g v seen is_back (Err (stop.NotRead i)) sync.NotAsRead image is ok why = absurd is
image_given link g v seen is_back (Err (stop.SessionsLeft s)) last image is ok why = absurd is
image_given link g v seen is_back (Err (stop.OutOfMemory s)) last image is ok why = absurd is

-- and so of what is given out where it is given
pub image_given_out : {L T E : Type 0} (link : LinkWords L) (g : Geometry) (v : Opening) (seen : List Mark) (is_back : T → Type 0)
    (stopped : Result (Vec ℕ) (StopRefusal T)) (result : Result (LastSync × Vec ℕ) E)
    → IfOk result (λ left. IsImageOf stopped left.0 left.1) → IfOk stopped (λ i. IsLastImage link g v seen Went i.items)
    → IfErr stopped (WhyNotSynced link g v seen is_back) → IfOk result (λ left. IsLastImage link g v seen (sync_of left.0) left.1.items)
image_given_out link g v seen is_back stopped (Ok left) is ok why = image_given link g v seen is_back stopped left.0 left.1 is ok why
image_given_out link g v seen is_back stopped (Err e) is ok why = tt
