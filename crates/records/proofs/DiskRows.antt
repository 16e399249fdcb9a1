-- Writes and reads worked by hand: what the disk is, what is unsure, what was read, and which replies are true.
use Rattle.std.specs.Prelude.{◌≡◌, ℕ, ◌+◌, ◌<◌, List, [], ◌∷◌, true, false, Ok, refl, slice_index}
use Rattle.std.proofs.Common.{arith, sym, ◌∙◌}
use Rattle.std.proofs.lemmas.Bool.Decides.{nat_tests}
use Rattle.message.specs.Good.{is_write}
use Rattle.message.specs.declared.Kind.TheVariants.{Write}
use Rattle.message.specs.declared.BlockRequest.{BlockRequest}
use Rattle.message.specs.declared.BlockReply.{BlockReply}
use Rattle.message.specs.declared.Incoming.TheVariants as incoming
use Rattle.records.specs.declared.marks.Cause.TheVariants.{Exit}
use Rattle.records.specs.Marks.{Mark, Started, Answered, Issued, Fault}
use Rattle.records.specs.Open.{open_requests}
use Rattle.records.specs.Disk.{Contents, disk_after, unsure, is_unsure, bytes_read, is_read, HasTrueReplies, IsTrueOf, IsSure}
use Rattle.records.specs.Told.{received}
use Rattle.records.proofs.Rows.{driver, read, answer}

-- an image whose byte at each place is 9
abbrev pub nines : Contents
nines place = 9

-- sectors 2 and 3 are written; the bytes begin with 7 and 8, and the 513th, which is not shown, is 0
abbrev pub write : BlockRequest
write = record { id = 1; kind = Write; minor = 0; position = 1024; count = 1024; bytes = 7 ∷ 8 ∷ [] }

abbrev pub issued : List Mark
issued = Issued write (driver 1) ∷ Started (driver 1) ∷ []

-- from the issue on its two sectors are unsure, and no others; the disk is the image
unsure_first : unsure issued 1024 ≡ true
unsure_first = refl

unsure_last : unsure issued 2047 ≡ true
unsure_last = refl

sure_before : unsure issued 1023 ≡ false
sure_before = refl

sure_behind : unsure issued 2048 ≡ false
sure_behind = refl

unsure_sector : is_unsure issued 3 ≡ true
unsure_sector = refl

image_still : disk_after nines issued 1024 ≡ 9
image_still = refl

-- a good answer makes all of it sure, and the disk has its bytes
abbrev pub written : List Mark
written = Answered (answer 1 1024) ∷ issued

written_first : disk_after nines written 1024 ≡ 7
written_first = refl

written_second : disk_after nines written 1025 ≡ 8
written_second = refl

written_last : disk_after nines written 2047 ≡ 0
written_last = refl

written_before : disk_after nines written 1023 ≡ 9
written_before = refl

written_behind : disk_after nines written 2048 ≡ 9
written_behind = refl

written_sure : unsure written 2047 ≡ false
written_sure = refl

-- a short answer does so for its part alone: the rest stays unsure, though no request is open
abbrev pub half : List Mark
half = Answered (answer 1 512) ∷ issued

half_first : disk_after nines half 1024 ≡ 7
half_first = refl

half_sure : unsure half 1535 ≡ false
half_sure = refl

half_unsure : unsure half 1536 ≡ true
half_unsure = refl

half_image : disk_after nines half 1536 ≡ 9
half_image = refl

half_open : open_requests half ≡ []
half_open = refl

-- an error leaves it unsure and open
failed : unsure (Answered (answer 1 0) ∷ issued) 1024 ≡ true
failed = refl

-- issued again to the next driver it stays unsure; a late success of the first driver changes nothing; one of the next settles it
abbrev pub again : List Mark
again = Issued write (driver 2) ∷ Started (driver 2) ∷ Fault (driver 1) Exit ∷ issued

again_unsure : unsure again 1024 ≡ true
again_unsure = refl

late_success : unsure (received (incoming.Reply (answer 1 1024)) again) 1024 ≡ true
late_success = refl

abbrev pub answer_2 : ℕ → ℕ → BlockReply
answer_2 id n = record { from = driver 2; id = id; outcome = Ok n; bytes = [] }

settled_again : unsure (received (incoming.Reply (answer_2 1 1024)) again) 1024 ≡ false
settled_again = refl

-- written twice: between the two the sector is unsure, and the disk is what was acknowledged
abbrev pub second_write : BlockRequest
second_write = record { id = 2; kind = Write; minor = 0; position = 1024; count = 512; bytes = 34 ∷ [] }

abbrev pub twice : List Mark
twice = Issued second_write (driver 1) ∷ written

twice_unsure : unsure twice 1024 ≡ true
twice_unsure = refl

twice_disk : disk_after nines twice 1024 ≡ 7
twice_disk = refl

twice_done : disk_after nines (Answered (answer 2 512) ∷ twice) 1024 ≡ 34
twice_done = refl

-- a write that was issued and not acknowledged leaves something unsure
not_sure : IsSure issued → ⊥
not_sure h = let e : ◌≡◌ true false = h.each 1024 in cc

-- A read of one sector: its reply has a byte for each place.
abbrev pub asked : List Mark
asked = Issued (read 1 512 512) (driver 1) ∷ Started (driver 1) ∷ []

abbrev pub reply : List ℕ → BlockReply
reply bytes = record { from = driver 1; id = 1; outcome = Ok 512; bytes = bytes }

-- true are the replies that have the image's bytes
true_reply : (bytes : List ℕ) → ((k : ℕ) → k < 512 → slice_index bytes k ≡ 9) → HasTrueReplies nines (Answered (reply bytes) ∷ asked)
true_reply bytes nine = (tt, λ is_read. record { each = λ k few sure. nine k few })

-- a 5 isn't
false_reply : HasTrueReplies nines (Answered (reply (5 ∷ [])) ∷ asked) → ⊥
false_reply h = let e : ◌≡◌ {A = ℕ} 5 9 = (h.1 refl).each 0 (omega arith) refl in absurd (omega arith)

-- the second sector of the write, answered short, is read
abbrev pub asked_unsure : List Mark
asked_unsure = Issued (read 2 1536 512) (driver 1) ∷ half

all_unsure : (k : ℕ) → k < 512 → unsure asked_unsure (1536 + k) ≡ true
all_unsure k few = grind (arith, nat_tests)

no_write : is_write Write ≡ false → IsTrueOf nines issued write 512 []
no_write e = cc

-- where the disk is unsure a reply may say anything
unsure_reply : (bytes : List ℕ) → HasTrueReplies nines (Answered (record { from = driver 1; id = 2; outcome = Ok 512; bytes = bytes }) ∷ asked_unsure)
unsure_reply bytes = ((tt, no_write), λ is_read. record { each = λ k few sure. let e : ◌≡◌ true false = sym (all_unsure k few) ∙ sure in cc })

-- of a read that wasn't answered good nothing is asked
bad_reply : HasTrueReplies nines (Answered (answer 1 0) ∷ asked)
bad_reply = (tt, tt)

-- what was read is what the reply gave, true or not; nothing else was read
read_byte : bytes_read (Answered (reply (5 ∷ 6 ∷ [])) ∷ asked) 513 ≡ 6
read_byte = refl

was_read : is_read (Answered (reply (5 ∷ [])) ∷ asked) 1023 ≡ true
was_read = refl

was_not_read : is_read (Answered (reply (5 ∷ [])) ∷ asked) 1024 ≡ false
was_not_read = refl

not_answered : is_read asked 512 ≡ false
not_answered = refl

write_reads_nothing : is_read written 1024 ≡ false
write_reads_nothing = refl

-- a read changes no byte of the disk
read_leaves : disk_after nines (Answered (reply (5 ∷ [])) ∷ asked) 512 ≡ 9
read_leaves = refl
