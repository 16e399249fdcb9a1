-- Records of one driver or two, worked by hand: what is open, what is well formed, which replies count.
use Rattle.std.specs.Prelude.{◌≡◌, ℕ, zero, suc, ◌+◌, ◌*◌, ◌%◌, List, [], ◌∷◌, Bool, true, false, ◌<◌, ◌≤◌, Some, None, Ok, Err, refl}
use Rattle.std.proofs.Common.{inl, inr, arith, ap}
use Rattle.errno.specs.declared.Errno.TheVariants.{EIO}
use Rattle.message.specs.declared.endpoint.Endpoint.{Endpoint}
use Rattle.message.specs.declared.Kind.TheVariants.{Read}
use Rattle.message.specs.declared.BlockRequest.{BlockRequest}
use Rattle.message.specs.declared.BlockReply.{BlockReply}
use Rattle.message.specs.declared.Incoming.TheVariants as incoming
use Rattle.records.specs.declared.marks.Cause.TheVariants.{Exit, Complaint}
use Rattle.records.specs.Marks.{Mark, Started, Answered, Flush, GaveUp, Issued, Fault, counted}
use Rattle.records.specs.Open.{IsWellFormed, IsNew, IsAgain, MayFollow, open_requests, moved_by, is_unfinished, greatest}
use Rattle.records.specs.Told.{received}
use Rattle.records.specs.Acts.{complaint_due}

-- the disk's driver, of this generation
abbrev pub driver : ℕ → Endpoint
driver g = record { slot = 1; generation = g }

-- a read of the whole media
abbrev pub read : ℕ → ℕ → ℕ → BlockRequest
read id position count = record { id = id; kind = Read; minor = 0; position = position; count = count; bytes = [] }

-- a reply of driver 1 that says how many bytes were moved
abbrev pub answer : ℕ → ℕ → BlockReply
answer id n = record { from = driver 1; id = id; outcome = Ok n; bytes = [] }

-- A read of 4096 at 16384 is answered 512, 512, 1024 and 0. Each rest is issued under the next id.
abbrev pub first : List Mark
first = Issued (read 1 16384 4096) (driver 1) ∷ Started (driver 1) ∷ []

abbrev pub second : List Mark
second = Issued (read 2 16896 3584) (driver 1) ∷ Answered (answer 1 512) ∷ first

abbrev pub third : List Mark
third = Issued (read 3 17408 3072) (driver 1) ∷ Answered (answer 2 512) ∷ second

abbrev pub fourth : List Mark
fourth = Issued (read 4 18432 2048) (driver 1) ∷ Answered (answer 3 1024) ∷ third

abbrev pub complained : List Mark
complained = Fault (driver 1) Complaint ∷ Answered (answer 4 0) ∷ fourth

abbrev pub replaced : List Mark
replaced = Issued (read 4 18432 2048) (driver 2) ∷ Started (driver 2) ∷ complained

first_open : open_requests first ≡ read 1 16384 4096 ∷ []
first_open = refl

second_open : open_requests second ≡ read 2 16896 3584 ∷ []
second_open = refl

third_open : open_requests third ≡ read 3 17408 3072 ∷ []
third_open = refl

fourth_open : open_requests fourth ≡ read 4 18432 2048 ∷ []
fourth_open = refl

-- the 0 isn't good: a complaint is due, and the request stays open
zero_moves_nothing : moved_by (answer 4 0) fourth ≡ None
zero_moves_nothing = refl

zero_complaint : complaint_due (answer 4 0) fourth ≡ Some (driver 1)
zero_complaint = refl

good_no_complaint : complaint_due (answer 4 2048) fourth ≡ None
good_no_complaint = refl

stays_open : open_requests complained ≡ read 4 18432 2048 ∷ []
stays_open = refl

-- the same request goes to the next driver, and opens nothing new
replaced_open : open_requests replaced ≡ read 4 18432 2048 ∷ []
replaced_open = refl

replaced_greatest : greatest replaced ≡ 4
replaced_greatest = refl

-- more than the count, and no multiple of 512, aren't good either
too_many : moved_by (answer 4 2560) fourth ≡ None
too_many = refl

no_multiple : moved_by (answer 4 1000) fourth ≡ None
no_multiple = refl

an_error : moved_by (record { from = driver 1; id = 4; outcome = Err EIO; bytes = [] }) fourth ≡ None
an_error = refl

-- the five answers, starts and the fault: 2 starts and 4 answers are counted
replaced_counted : counted replaced ≡ 6
replaced_counted = refl

-- a second answer to id 1, which is closed, leaves no mark
closed_id : received (incoming.Reply (answer 1 512)) fourth ≡ fourth
closed_id = refl

-- a late answer of driver 1, right for the open request, leaves none after driver 2 is started
late_reply : received (incoming.Reply (answer 4 2048)) replaced ≡ replaced
late_reply = refl

-- the same answer of driver 2 counts, and closes the request
timely_reply : open_requests (received (incoming.Reply (record { from = driver 2; id = 4; outcome = Ok 2048; bytes = [] })) replaced) ≡ []
timely_reply = refl

-- after giving up no reply counts, and nothing is complained of
reply_after_giving_up : received (incoming.Reply (answer 4 2048)) (GaveUp ∷ fourth) ≡ GaveUp ∷ fourth
reply_after_giving_up = refl

bad_after_giving_up : complaint_due (answer 4 0) (GaveUp ∷ fourth) ≡ None
bad_after_giving_up = refl

-- End leaves no mark; a flush leaves one
end_no_mark : received incoming.End first ≡ first
end_no_mark = refl

flush_mark : received incoming.Flush first ≡ Flush ∷ first
flush_mark = refl

-- unfinished: a request is open, or a fault has no later start and no later giving up
open_unfinished : is_unfinished fourth ≡ true
open_unfinished = refl

answered_finished : is_unfinished (Answered (answer 4 2048) ∷ fourth) ≡ false
answered_finished = refl

fault_unfinished : is_unfinished (Fault (driver 1) Exit ∷ Answered (answer 4 2048) ∷ fourth) ≡ true
fault_unfinished = refl

started_finished : is_unfinished (Started (driver 2) ∷ Fault (driver 1) Exit ∷ Started (driver 1) ∷ []) ≡ false
started_finished = refl

given_up_finished : is_unfinished (GaveUp ∷ Fault (driver 1) Exit ∷ Started (driver 1) ∷ []) ≡ false
given_up_finished = refl

-- a request with the next id, of whole sectors, none of them asked for
new : (marks : List Mark) → open_requests marks ≡ [] → (r : BlockRequest) → r.id ≡ greatest marks + 1 → r.position % 512 ≡ 0 → r.count % 512 ≡ 0 → IsNew marks r
new marks none r next position count = record {
  next = next;
  whole = record { position = position; count = count };
  room = rw none (omega arith);
  apart = rw none tt;
}

-- all of it is well formed
replaced_well_formed : IsWellFormed replaced
replaced_well_formed =
    let one : IsWellFormed first = ((tt, tt), (refl, inl (new (Started (driver 1) ∷ []) refl (read 1 16384 4096) refl refl refl))) in
    let two : IsWellFormed second = ((one, (refl, refl)), (refl, inl (new (Answered (answer 1 512) ∷ first) refl (read 2 16896 3584) refl refl refl))) in
    let three : IsWellFormed third = ((two, (refl, refl)), (refl, inl (new (Answered (answer 2 512) ∷ second) refl (read 3 17408 3072) refl refl refl))) in
    let four : IsWellFormed fourth = ((three, (refl, refl)), (refl, inl (new (Answered (answer 3 1024) ∷ third) refl (read 4 18432 2048) refl refl refl))) in
    (((((four, (refl, refl)), tt), tt)), (refl, inr (record { same = inl refl })))

-- something is one thing
some_same : (d e : Endpoint) → Some d ≡ Some e → d ≡ e
some_same d e h = cc

-- a request to a driver that isn't the one started last is refused
to_earlier_driver : MayFollow (Issued (read 4 18432 2048) (driver 1)) (Started (driver 2) ∷ complained) → ⊥
to_earlier_driver h = let e : ◌≡◌ {A = ℕ} 2 1 = some_generation 2 1 h.0 in absurd (omega arith)
  where
    some_generation : (g k : ℕ) → Some (driver g) ≡ Some (driver k) → g ≡ k
    some_generation g k e = ap (λ (d : Endpoint). d.generation) (some_same (driver g) (driver k) e)

-- an id is skipped
skipped_id : IsNew second (read 4 65536 512) → ⊥
skipped_id h = let e : ◌≡◌ {A = ℕ} 4 3 = h.next in absurd (omega arith)

-- an id is used again for another request
other_request : MayFollow (Issued (read 4 18432 1024) (driver 2)) (Started (driver 2) ∷ complained) → ⊥
other_request h = elim h.1 [ inl new ↦ next new | inr again ↦ same again ]
  where
    next : IsNew (Started (driver 2) ∷ complained) (read 4 18432 1024) → ⊥
    next new = let e : ◌≡◌ {A = ℕ} 4 5 = new.next in absurd (omega arith)

    same : IsAgain (Started (driver 2) ∷ complained) (read 4 18432 1024) → ⊥
    same again = elim again.same [
      | inl e ↦ (let counts : ◌≡◌ {A = ℕ} 1024 2048 = ap (λ (r : BlockRequest). r.count) e in absurd (omega arith))
      | inr none ↦ none
    ]

-- a sector is asked for twice
same_sector : IsNew fourth (read 5 20480 512) → IsNew fourth (read 5 19968 512) → ⊥
same_sector free taken = elim taken.apart.0.apart [
  | inl before ↦ (let below : ◌≤◌ 20480 19968 = before in absurd (omega arith))
  | inr after ↦ (let below : ◌≤◌ 20480 18432 = after in absurd (omega arith))
]

-- half a sector
half_sector : IsNew fourth (read 5 20480 256) → ⊥
half_sector h = let e : ◌≡◌ {A = ℕ} 256 0 = h.whole.count in absurd (omega arith)

-- an answer to a closed id
closed_answer : MayFollow (Answered (answer 1 512)) fourth → ⊥
closed_answer h = let e : ◌≡◌ {A = Bool} false true = h.1 in cc

-- an answer of the earlier driver
late_answer : MayFollow (Answered (answer 4 2048)) replaced → ⊥
late_answer h = let e : ◌≡◌ {A = ℕ} 2 1 = ap (λ (d : Endpoint). d.generation) (some_same (driver 2) (driver 1) h.0) in absurd (omega arith)

-- n requests of a sector each
abbrev pub sectors : ℕ → List Mark
sectors zero = Started (driver 1) ∷ []
sectors (suc n) = Issued (read (n + 1) (512 * n) 512) (driver 1) ∷ sectors n

-- a seventeenth isn't opened
seventeenth : IsNew (sectors 16) (read 17 8192 512) → ⊥
seventeenth h = let few : 16 < 16 = h.room in absurd (omega arith)
