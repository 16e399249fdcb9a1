-- Runs that no drivers can make: each is refused by the clause that its proof names.
use Rattle.std.specs.Prelude.{◌≡◌, ◌≤◌, ◌*◌, ℕ, List, [], ◌∷◌, true, false, Some, Ok}
use Rattle.std.proofs.Common.{ap, arith, inl, inr}
use Rattle.message.specs.declared.BlockReply.{BlockReply}
use Rattle.message.specs.declared.BlockRequest.{BlockRequest}
use Rattle.message.specs.declared.Kind.{Kind}
use Rattle.message.specs.declared.Kind.TheVariants.{Read, Write}
use Rattle.bdev.specs.DriverState.{DriverState, Ranges}
use Rattle.reincarnate.specs.Policy.{default_policy}
use Rattle.reincarnate.specs.Watch.{driver}
use Rattle.records.specs.Marks.{Answered, Issued, Flush}
use Rattle.records.specs.Open.{IsIn}
use Rattle.schedule.specs.declared.Sent.{Sent}
use Rattle.schedule.specs.declared.Event.TheVariants as event
use Rattle.schedule.specs.Groups.{Group, marks_of}
use Rattle.schedule.specs.Drivers.{TookItsOwn}
use Rattle.schedule.specs.Replies.{RepliesOf}
use Rattle.schedule.specs.Justified.{Justified}
use Rattle.schedule.proofs.WorkedRuns.{waits}
use Rattle.schedule.proofs.Small.{client, stat_root, inode_block, issued_to, answer_of, replied, idle, working, supply}

-- a write of so many bytes
abbrev write_of : ℕ → ℕ → BlockRequest
write_of id count = record { id = id; kind = Write; minor = 0; position = 4096 * id; count = count; bytes = [] }

-- its good reply of driver 1
abbrev written_of : ℕ → ℕ → BlockReply
written_of id count = record { from = driver 1; id = id; outcome = Ok count; bytes = [] }

-- a driver that has done with two requests
abbrev done_two : DriverState
done_two = record idle { last = 2 }

-- two writes of so many bytes are issued
abbrev two_issued : ℕ → List Group
two_issued count = (event.Flush, Issued (write_of 2 count) (driver 1) ∷ Issued (write_of 1 count) (driver 1) ∷ Flush ∷ []) ∷ []

-- Driver 1 answers id 2 and then id 1, which it would have dropped as old.
backwards : (left : ℕ)
    → Justified default_policy (supply 6) ((event.Step 1, []) ∷ (event.Step 1, []) ∷ two_issued 512)
    (record { reply = written_of 2 512; place = 1 } ∷ record { reply = written_of 1 512; place = 2 } ∷ []) (done_two ∷ []) left → ⊥
backwards left run =
    let replies : RepliesOf (marks_of ((event.Step 1, []) ∷ (event.Step 1, []) ∷ two_issued 512))
    (record { reply = written_of 2 512; place = 1 } ∷ record { reply = written_of 1 512; place = 2 } ∷ []) 1 done_two = run.replies_stand.own 1 in
    let h : false ≡ true = replies.rising in cc

-- A read of two sectors is answered whole after one step of its driver.
in_one_step : (drivers : List DriverState) (left : ℕ)
    → Justified default_policy (supply 6) ((event.Deliver 0, replied 0 ∷ Answered (answer_of 1) ∷ []) ∷ (event.Step 1, []) ∷ waits)
    (record { reply = answer_of 1; place = 1 } ∷ []) drivers left → ⊥
in_one_step drivers left run = let h : 1024 ≤ 512 = run.replies_stand.steps.0.moved in omega arith

-- Steps before the issue don't count.
stepped_before_the_issue : (drivers : List DriverState) (left : ℕ)
    → Justified default_policy (supply 6)
    ((event.Step 1, []) ∷ (event.Arrive (client 0) 100 stat_root, issued_to 1 ∷ []) ∷ (event.Step 1, []) ∷ (event.Step 1, []) ∷ [])
    (record { reply = answer_of 1; place = 3 } ∷ []) drivers left → ⊥
stepped_before_the_issue drivers left run = let h : 1024 ≤ 512 = run.replies_stand.steps.0.moved in omega arith

-- Steps before the driver's last reply don't count: they were for that one.
both_in_three_steps : (drivers : List DriverState) (left : ℕ)
    → Justified default_policy (supply 6) ((event.Step 1, []) ∷ (event.Step 1, []) ∷ (event.Step 1, []) ∷ two_issued 1024)
    (record { reply = written_of 1 1024; place = 2 } ∷ record { reply = written_of 2 1024; place = 3 } ∷ []) drivers left → ⊥
both_in_three_steps drivers left run = let h : 1024 ≤ 512 = run.replies_stand.steps.1.0.moved in omega arith

-- Driver 1 was handed ids up to 7, of which id 1 alone was ever issued.
given_more : (sent : List Sent) (left : ℕ)
    → Justified default_policy (supply 6) ((event.Step 1, []) ∷ (event.Step 1, []) ∷ waits) sent (record idle { last = 7 } ∷ []) left → ⊥
given_more sent left run =
    let own : TookItsOwn (marks_of ((event.Step 1, []) ∷ (event.Step 1, []) ∷ waits)) 1 (record idle { last = 7 }) = run.drivers_stand.took 1 in
    let h : false ≡ true = own.last in cc

-- the kind of a request
abbrev kind_of : BlockRequest → Kind
kind_of r = r.kind

-- a write isn't the read of the inode's block
other_request : IsIn (write_of 1 1024) (inode_block ∷ []) → ⊥
other_request (inl same) = let h : Write ≡ Read = ap kind_of same in cc
other_request (inr none) = none

-- Driver 1 is at work on a write, under the id of a read that was issued to it.
at_work_on_another : (sent : List Sent) (left : ℕ)
    → Justified default_policy (supply 6) ((event.Step 1, []) ∷ waits) sent
    (record working { work = Some (record { request = write_of 1 1024; moved = λ k. false; got = [] }) } ∷ []) left → ⊥
at_work_on_another sent left run =
    let own : TookItsOwn (marks_of ((event.Step 1, []) ∷ waits)) 1
    (record working { work = Some (record { request = write_of 1 1024; moved = λ k. false; got = [] }) }) = run.drivers_stand.took 1 in
    other_request own.work.1

-- Driver 1 took id 2 and is at work on id 1.
at_work_on_an_older : (sent : List Sent) (left : ℕ)
    → Justified default_policy (supply 6) ((event.Step 1, []) ∷ two_issued 512) sent
    (record done_two { work = Some (record { request = write_of 1 512; moved = λ k. false; got = [] }) } ∷ []) left → ⊥
at_work_on_an_older sent left run =
    let own : TookItsOwn (marks_of ((event.Step 1, []) ∷ two_issued 512)) 1
    (record done_two { work = Some (record { request = write_of 1 512; moved = λ k. false; got = [] }) }) = run.drivers_stand.took 1 in
    let h : ◌≡◌ {A = ℕ} 1 2 = own.work.0 in omega arith

-- how many ranges the first of these drivers has
abbrev ranges_of_first : List Ranges → ℕ
ranges_of_first [] = 0
ranges_of_first ([] ∷ others) = 0
ranges_of_first ((range ∷ ranges) ∷ others) = 1

-- A driver runs that isn't the one handed in: it has no range.
another_driver : (sent : List Sent) (left : ℕ)
    → Justified default_policy (supply 6) waits sent (record idle { ranges = [] } ∷ []) left → ⊥
another_driver sent left run = let h : ◌≡◌ {A = ℕ} 0 1 = ap ranges_of_first run.drivers_stand.handed_in in omega arith

-- A second driver is started of a supply of one.
more_than_handed_in : (sent : List Sent) (left : ℕ) (groups : List Group)
    → Justified default_policy (supply 1) groups sent (idle ∷ idle ∷ []) left → ⊥
more_than_handed_in sent left groups run = let h : ◌≡◌ {A = ℕ} 2 1 = ap how_many run.drivers_stand.handed_in in omega arith
  where
    how_many : List Ranges → ℕ
    how_many [] = 0
    how_many (range ∷ []) = 1
    how_many (range ∷ others) = 2
