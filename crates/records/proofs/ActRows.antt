-- What a server does at its link, worked by hand: runs that the rules allow, and runs that they refuse.
use Rattle.std.specs.Prelude.{◌≡◌, ℕ, ◌+◌, ◌<◌, ◌≤◌, List, [], ◌∷◌, length, Bool, true, false, Option, Some, None, IsTrue, refl, replicate}
use Rattle.std.proofs.Common.{arith, ap, sym}
use Rattle.message.specs.declared.endpoint.Endpoint.{Endpoint}
use Rattle.message.specs.declared.Kind.TheVariants.{Read}
use Rattle.message.specs.declared.BlockRequest.{BlockRequest}
use Rattle.message.specs.declared.Incoming.TheVariants as incoming
use Rattle.records.specs.Marks.{Mark, last_started, gave_up}
use Rattle.records.specs.Open.{greatest, open_requests}
use Rattle.records.specs.Told.{Posted, Complained, Received}
use Rattle.records.specs.Acts.{Act, Began, Absorbed, AtLink, marks_after, outbox_after, empty_outbox, is_post_due, needs_message, first_of, KeepsRules, IsAtRest, MayBegin, MayPost, MayTake, Outbox, target}
use Rattle.records.specs.Area.{FitsArea, no_area}
use Rattle.records.proofs.Rows.{driver, answer}

-- a block's bytes
pub block : List ℕ
block = replicate 4096 0

-- a read of the whole media, with room for a block's bytes
abbrev pub ask : ℕ → ℕ → ℕ → BlockRequest
ask id position count = record { id = id; kind = Read; minor = 0; position = position; count = count; bytes = block }

-- a block has 4096 bytes
pub block_length : length block ≡ 4096
unfolding block
block_length = refl

-- up to 4096 bytes fit, also where nothing may be written
fits : (id position count : ℕ) → count ≤ 4096 → FitsArea (no_area 0) (ask id position count)
fits id position count small = record { fits = record { minor_is = refl; count = small; bytes = block_length }; lies = tt }

-- the request became pending
abbrev pub began : ℕ → ℕ → ℕ → Act
began id position count = Began (ask id position count)

-- the request was posted to the driver of this generation, and accepted
abbrev pub posted : ℕ → ℕ → ℕ → ℕ → Act
posted g id position count = AtLink (Posted (driver g) (ask id position count) true)

-- or refused
abbrev pub refused : ℕ → ℕ → ℕ → ℕ → Act
refused g id position count = AtLink (Posted (driver g) (ask id position count) false)

-- the start of this generation was taken
abbrev pub started : ℕ → Act
started g = AtLink (Received (incoming.Started (driver g)))

-- a reply of driver 1 was taken
abbrev pub answered : ℕ → ℕ → Act
answered id n = AtLink (Received (incoming.Reply (answer id n)))

-- it was complained of
abbrev pub complained : ℕ → Act
complained g = AtLink (Complained (driver g))

-- the rules, for the whole media and from the empty record on
abbrev pub Keeps : List Act → Type 0
Keeps acts = KeepsRules (no_area 0) acts [] empty_outbox

-- nothing is owed after these
abbrev pub Rests : List Act → Type 0
Rests acts = IsAtRest (marks_after acts []) (outbox_after acts [] empty_outbox)

-- as both parts say
rests : {marks : List Mark} {o : Outbox} → o.complaint ≡ None → is_post_due marks o ≡ false → IsAtRest marks o
rests none not_due = record { complaint = none; post = not_due }

-- A request becomes pending before the first start, is posted to the first driver, and answered.
abbrev pub one_begun : List Act
one_begun = began 1 16384 4096 ∷ []

-- at the start it is posted
abbrev pub one_posted : List Act
one_posted = posted 1 1 16384 4096 ∷ started 1 ∷ one_begun

-- and answered in full
abbrev pub one_answered : List Act
one_answered = answered 1 4096 ∷ one_posted

-- a post that the rules allow
posts : (acts : List Act) (g id position count : ℕ) → count ≤ 4096
    → (outbox_after acts [] empty_outbox).complaint ≡ None
    → target (marks_after acts []) ≡ Some (driver g)
    → (outbox_after acts [] empty_outbox).stopped ≡ false
    → first_of (outbox_after acts [] empty_outbox).unposted ≡ Some (ask id position count)
    → MayPost (no_area 0) (marks_after acts []) (outbox_after acts [] empty_outbox) (driver g) (ask id position count)
posts acts g id position count small complaint last stopped first = record {
  complained = complaint;
  endpoint = last;
  not_stopped = stopped;
  first = first;
  fits = fits id position count small;
}

-- a request that may become pending
begins : (acts : List Act) (id position count : ℕ)
    → id ≡ greatest (marks_after acts []) + length (outbox_after acts [] empty_outbox).never_issued + 1
    → length (open_requests (marks_after acts [])) + length (outbox_after acts [] empty_outbox).never_issued < 16
    → MayBegin (marks_after acts []) (outbox_after acts [] empty_outbox) (ask id position count)
begins acts id position count next room = record { next = next; room = room }

-- a take that the rules allow
takes : (acts : List Act) → Rests acts → gave_up (marks_after acts []) ≡ false → IsTrue (needs_message (marks_after acts []) (outbox_after acts [] empty_outbox))
    → MayTake (marks_after acts []) (outbox_after acts [] empty_outbox)
takes acts rest live needed = record { at_rest = rest; live = live; needed = needed }

one_begun_keeps : Keeps one_begun
one_begun_keeps = (tt, begins [] 1 16384 4096 refl (omega arith))

one_posted_keeps : Keeps one_posted
one_posted_keeps = ((one_begun_keeps, takes one_begun (rests refl refl) refl refl), posts (started 1 ∷ one_begun) 1 1 16384 4096 (omega arith) refl refl refl refl)

one_answered_keeps : Keeps one_answered
one_answered_keeps = (one_posted_keeps, takes one_posted (rests refl refl) refl refl)

one_answered_rests : Rests one_answered
one_answered_rests = rests refl refl

-- The read of 4096 is answered 512, 512, 1024 and 0: each rest is begun and posted, the 0 is complained of, and the last rest
-- is posted to the next driver.
abbrev pub rest_2 : List Act
rest_2 = posted 1 2 16896 3584 ∷ began 2 16896 3584 ∷ answered 1 512 ∷ one_posted

abbrev pub rest_3 : List Act
rest_3 = posted 1 3 17408 3072 ∷ began 3 17408 3072 ∷ answered 2 512 ∷ rest_2

abbrev pub rest_4 : List Act
rest_4 = posted 1 4 18432 2048 ∷ began 4 18432 2048 ∷ answered 3 1024 ∷ rest_3

abbrev pub after_zero : List Act
after_zero = answered 4 0 ∷ rest_4

abbrev pub after_complaint : List Act
after_complaint = complained 1 ∷ after_zero

abbrev pub next_started : List Act
next_started = started 2 ∷ after_complaint

abbrev pub next_posted : List Act
next_posted = posted 2 4 18432 2048 ∷ next_started

rest_2_keeps : Keeps rest_2
rest_2_keeps = (
  ((one_posted_keeps, takes one_posted (rests refl refl) refl refl), begins (answered 1 512 ∷ one_posted) 2 16896 3584 refl (omega arith)),
  posts (began 2 16896 3584 ∷ answered 1 512 ∷ one_posted) 1 2 16896 3584 (omega arith) refl refl refl refl,
)

rest_3_keeps : Keeps rest_3
rest_3_keeps = (
  ((rest_2_keeps, takes rest_2 (rests refl refl) refl refl), begins (answered 2 512 ∷ rest_2) 3 17408 3072 refl (omega arith)),
  posts (began 3 17408 3072 ∷ answered 2 512 ∷ rest_2) 1 3 17408 3072 (omega arith) refl refl refl refl,
)

rest_4_keeps : Keeps rest_4
rest_4_keeps = (
  ((rest_3_keeps, takes rest_3 (rests refl refl) refl refl), begins (answered 3 1024 ∷ rest_3) 4 18432 2048 refl (omega arith)),
  posts (began 4 18432 2048 ∷ answered 3 1024 ∷ rest_3) 1 4 18432 2048 (omega arith) refl refl refl refl,
)

after_complaint_keeps : Keeps after_complaint
after_complaint_keeps = ((rest_4_keeps, takes rest_4 (rests refl refl) refl refl), refl)

next_posted_keeps : Keeps next_posted
next_posted_keeps =
    ((after_complaint_keeps, takes after_complaint (rests refl refl) refl refl), posts next_started 2 4 18432 2048 (omega arith) refl refl refl refl)

next_posted_rests : Rests next_posted
next_posted_rests = rests refl refl

-- its marks: ids 1 to 4 are issued to driver 1, and id 4 to driver 2
next_posted_open : open_requests (marks_after next_posted []) ≡ ask 4 18432 2048 ∷ []
next_posted_open = refl

next_posted_last : last_started (marks_after next_posted []) ≡ Some (driver 2)
next_posted_last = refl

-- true is not false
is_true_false : true ≡ false → ⊥
is_true_false e = cc

-- something is not nothing
some_is_none : (e : Endpoint) → Some e ≡ None → ⊥
some_is_none e h = cc

-- false does not hold
not_true : IsTrue false → ⊥
not_true h = let e : ◌≡◌ {A = Bool} false true = h in cc

-- one endpoint has one generation
some_generation : (g k : ℕ) → Some (driver g) ≡ Some (driver k) → g ≡ k
some_generation g k e = let same : driver g ≡ driver k = cc in ap (λ (d : Endpoint). d.generation) same

-- one request has one id
some_id : (r s : BlockRequest) → Some r ≡ Some s → r.id ≡ s.id
some_id r s e = let same : r ≡ s = cc in ap (λ (q : BlockRequest). q.id) same

-- nothing is no request
none_is_request : (r : BlockRequest) → ◌≡◌ {A = Option BlockRequest} None (Some r) → ⊥
none_is_request r e = cc

-- without a complaint the server isn't done, and may take no message and post nothing
no_complaint_at_end : Rests after_zero → ⊥
no_complaint_at_end h = some_is_none (driver 1) h.complaint

no_complaint : Keeps (started 2 ∷ after_zero) → ⊥
no_complaint h = some_is_none (driver 1) h.1.at_rest.complaint

post_before_complaint : Keeps (posted 1 4 18432 2048 ∷ after_zero) → ⊥
post_before_complaint h = some_is_none (driver 1) h.1.complained

-- a second complaint, one of a good answer, and one of another driver are refused
complaint_twice : Keeps (complained 1 ∷ after_complaint) → ⊥
complaint_twice h = let e : Some (driver 1) ≡ None = sym h.1 in some_is_none (driver 1) e

complaint_of_good : Keeps (complained 1 ∷ one_answered) → ⊥
complaint_of_good h = let e : Some (driver 1) ≡ None = sym h.1 in some_is_none (driver 1) e

complaint_of_other : Keeps (complained 2 ∷ after_zero) → ⊥
complaint_of_other h = let e : ◌≡◌ {A = ℕ} 1 2 = some_generation 1 2 h.1 in absurd (omega arith)

-- a complaint in a call in which nothing was answered
complaint_of_nothing : Keeps (complained 1 ∷ []) → ⊥
complaint_of_nothing h = let e : Some (driver 1) ≡ None = sym h.1 in some_is_none (driver 1) e

-- after a start all that is pending is posted: the server isn't done before, and takes nothing
nothing_posted : Rests next_started → ⊥
nothing_posted h = is_true_false h.post

take_before_posts : Keeps (AtLink (Received incoming.Flush) ∷ next_started) → ⊥
take_before_posts h = is_true_false h.1.at_rest.post

-- a request that was begun before the first start, too
nothing_posted_at_first : Rests (started 1 ∷ one_begun) → ⊥
nothing_posted_at_first h = is_true_false h.post

-- before the first start nothing is posted
post_before_start : Keeps (posted 1 1 16384 4096 ∷ one_begun) → ⊥
post_before_start h = let e : Some (driver 1) ≡ None = sym h.1.endpoint in some_is_none (driver 1) e

-- nor to an earlier driver, nor again without a start
post_to_earlier : Keeps (posted 1 4 18432 2048 ∷ next_started) → ⊥
post_to_earlier h = let e : ◌≡◌ {A = ℕ} 2 1 = some_generation 2 1 h.1.endpoint in absurd (omega arith)

post_again : Keeps (posted 1 1 16384 4096 ∷ one_posted) → ⊥
post_again h = none_is_request (ask 1 16384 4096) h.1.first

post_again_after_message : Keeps (posted 1 1 16384 4096 ∷ AtLink (Received incoming.Flush) ∷ one_posted) → ⊥
post_again_after_message h = none_is_request (ask 1 16384 4096) h.1.first

-- Two requests, of which the first is refused.
abbrev pub two_begun : List Act
two_begun = started 1 ∷ began 2 8192 512 ∷ one_begun

abbrev pub first_refused : List Act
first_refused = refused 1 1 16384 4096 ∷ two_begun

abbrev pub message_taken : List Act
message_taken = AtLink (Received incoming.Flush) ∷ first_refused

abbrev pub both_posted : List Act
both_posted = posted 1 2 8192 512 ∷ posted 1 1 16384 4096 ∷ message_taken

two_begun_keeps : Keeps two_begun
two_begun_keeps = ((one_begun_keeps, begins one_begun 2 8192 512 refl (omega arith)), takes (began 2 8192 512 ∷ one_begun) (rests refl refl) refl refl)

first_refused_keeps : Keeps first_refused
first_refused_keeps = (two_begun_keeps, posts two_begun 1 1 16384 4096 (omega arith) refl refl refl refl)

-- a take is allowed then, though nothing is open, and after its message both are posted in order
both_posted_keeps : Keeps both_posted
both_posted_keeps = (
  ((first_refused_keeps, takes first_refused (rests refl refl) refl refl), posts message_taken 1 1 16384 4096 (omega arith) refl refl refl refl),
  posts (posted 1 1 16384 4096 ∷ message_taken) 1 2 8192 512 (omega arith) refl refl refl refl,
)

-- a dropped reply lets them be posted again as well
dropped_reply : Rests (AtLink (Received (incoming.Reply (answer 9 512))) ∷ first_refused) → ⊥
dropped_reply h = is_true_false h.post

not_tried_again : Rests message_taken → ⊥
not_tried_again h = is_true_false h.post

-- the second isn't posted while the first isn't, nor the first again before a message, nor in another order
second_after_refused : Keeps (posted 1 2 8192 512 ∷ first_refused) → ⊥
second_after_refused h = is_true_false h.1.not_stopped

tried_at_once : Keeps (posted 1 1 16384 4096 ∷ first_refused) → ⊥
tried_at_once h = is_true_false h.1.not_stopped

second_first : Keeps (posted 1 2 8192 512 ∷ two_begun) → ⊥
second_first h = let e : ◌≡◌ {A = ℕ} 1 2 = some_id (ask 1 16384 4096) (ask 2 8192 512) h.1.first in absurd (omega arith)

-- a take with nothing pending, before a start or after an answer, is refused; an absorbed message asks for nothing
take_of_nothing : Keeps (started 1 ∷ []) → ⊥
take_of_nothing h = not_true h.1.needed

take_when_answered : Keeps (AtLink (Received incoming.Flush) ∷ one_answered) → ⊥
take_when_answered h = not_true h.1.needed

absorbed_keeps : Keeps (Absorbed (incoming.Started (driver 1)) ∷ [])
absorbed_keeps = (tt, rests refl refl)

-- a skipped id, another minor and more than a block are refused
skipped : Keeps (began 2 16384 4096 ∷ []) → ⊥
skipped h = let e : ◌≡◌ {A = ℕ} 2 1 = h.1.next in absurd (omega arith)

other_minor : KeepsRules (no_area 1) one_posted [] empty_outbox → ⊥
other_minor h = let e : ◌≡◌ {A = ℕ} 0 1 = h.1.fits.fits.minor_is in absurd (omega arith)

too_long : Keeps (posted 1 1 16384 8192 ∷ started 1 ∷ began 1 16384 8192 ∷ []) → ⊥
too_long h = let small : 8192 ≤ 4096 = h.1.fits.fits.count in absurd (omega arith)

-- once the device is given up nothing is posted, not even to a driver that is started all the same
abbrev given_up : List Act
given_up = AtLink (Received (incoming.Started (driver 2))) ∷ AtLink (Received incoming.GaveUp) ∷ one_posted

given_up_rests : Rests given_up
given_up_rests = rests refl refl

not_posted_after_giving_up : MayPost (no_area 0) (marks_after given_up []) (outbox_after given_up [] empty_outbox) (driver 2) (ask 1 16384 4096) → ⊥
not_posted_after_giving_up may = let h : ◌≡◌ {A = Option Endpoint} None (Some (driver 2)) = may.endpoint in cc

-- and no message is taken, though a request is open
needs_after_giving_up : needs_message (marks_after given_up []) (outbox_after given_up [] empty_outbox) ≡ true
needs_after_giving_up = refl

take_after_giving_up : Keeps (AtLink (Received incoming.Flush) ∷ given_up) → ⊥
take_after_giving_up h = is_true_false h.1.live
