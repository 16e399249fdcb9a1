-- What a driver does that writes both sectors: it takes the request and writes the first, then the second, and answers.
use Rattle.std.specs.Prelude.{zero, suc, ◌≡◌, ℕ, ◌*◌, ◌<◌, List, [], ◌∷◌, Some, Ok, Err, true, false, ◌==◌, ◌||◌, IsTrue, refl}
use Rattle.std.proofs.Common.{arith, lit≤, inl, inr}
use Rattle.errno.specs.declared.Errno.TheVariants.{EIO}
use Rattle.message.specs.declared.BlockRequest.{BlockRequest}
use Rattle.message.specs.declared.BlockReply.{BlockReply}
use Rattle.media.specs.Contents.{MediaState, accepts, written}
use Rattle.bdev.specs.declared.Accept.TheVariants.{Taken}
use Rattle.bdev.specs.declared.Answer.{Answer}
use Rattle.bdev.specs.declared.Step.TheVariants.{Working, Done}
use Rattle.bdev.specs.DriverState.{DriverState, Work}
use Rattle.bdev.specs.Promises.{IsDriver, Takes, StepKeeps}
use Rattle.synchronous_driver.specs.Steps.{HandsOver}
use Rattle.true_replies.specs.Events as events
use Rattle.simulated_link.specs.Disks.{Slot, SlotSteps, hung_slot}
use Rattle.tests_exact.proofs.Small.{new_0, new_1, disk, idle, write_both}

-- a driver that lives, with nothing on its line
abbrev pub slot : DriverState → Slot
slot d = record { state = d; live = true; hung = false; line = [] }

-- the write in work, of which no sector was moved, the first one, both
abbrev pub untouched : Work
untouched = record { request = write_both; moved = λ k. false; got = [] }

abbrev pub half : Work
half = record untouched { moved = λ k. k == 0 }

abbrev pub whole : Work
whole = record untouched { moved = λ k. (k == 0) || (k == 1) }

-- a driver that took the write, and names the first sector; one that wrote it, and names the second; one that has done with it
abbrev pub begins : DriverState
begins = record idle { last = 1; work = Some untouched; in_work = Some 4 }

abbrev pub at_second : DriverState
at_second = record idle { last = 1; work = Some half; in_work = Some 5 }

abbrev pub done : DriverState
done = record idle { last = 1 }

-- its answer: 1024 bytes were written
abbrev pub answer : Answer
answer = record { id = 1; outcome = Ok 1024; bytes = [] }

-- the answer as driver g sends it
abbrev pub reply_of : ℕ → BlockReply
reply_of g = events.reply_of g answer

begins_is_driver : IsDriver begins
begins_is_driver = record { bad_is_few = lit≤ tt; names_its_own = (refl, (lit≤ tt, lit≤ tt)) }

second_is_driver : IsDriver at_second
second_is_driver = record { bad_is_few = lit≤ tt; names_its_own = (refl, (lit≤ tt, lit≤ tt)) }

done_is_driver : IsDriver done
done_is_driver = record { bad_is_few = lit≤ tt; names_its_own = tt }

-- it takes the write
takes_write : (others : List BlockRequest) → HandsOver idle (write_both ∷ others) begins others
takes_write others =
    let takes : Takes idle write_both begins =
    record { same_ranges = refl; last = refl; work = (refl, λ k. refl); same_bad = refl; same_failed = refl } in
    (Taken, (refl, lit≤ tt, takes), refl)

-- it writes the first sector
writes_first : (g : ℕ) (a b : List ℕ) → accepts (disk a b g) g 4 ≡ true → disk new_0 b g ≡ written (disk a b g) g 4 new_0
    → StepKeeps begins (disk a b g) g Working at_second (disk new_0 b g)
writes_first g a b accepted is = record {
  same_ranges = refl;
  same_last = refl;
  steps = (
    half,
    inr (record {
      run = record { first = 4; count = 2 };
      number = 0;
      next = record { plan = refl; within = lit≤ tt; named = λ w. refl };
      accepted = accepted;
      same_request = refl;
      moved = λ k. refl;
      bytes = is;
    }),
    record { stays = refl; failed_is = refl; same_bad = refl },
  );
}

-- the two sectors are all of it
pub too_far : (k : ℕ) → 512 * suc (suc k) < 1024 → ⊥
too_far k far = omega arith

each_moved : (k : ℕ) → 512 * k < 1024 → IsTrue ((k == 0) || (k == 1))
each_moved zero near = refl
each_moved (suc zero) near = refl
each_moved (suc (suc k)) far = absurd (too_far k far)

-- it writes the second, and answers
writes_second : (g : ℕ) (a b : List ℕ) → accepts (disk a b g) g 5 ≡ true → disk a new_1 g ≡ written (disk a b g) g 5 new_1
    → StepKeeps at_second (disk a b g) g (Done answer) done (disk a new_1 g)
writes_second g a b accepted is = record {
  same_ranges = refl;
  same_last = refl;
  steps = (
    whole,
    inr (record {
      run = record { first = 4; count = 2 };
      number = 1;
      next = record { plan = refl; within = lit≤ tt; named = λ w. refl };
      accepted = accepted;
      same_request = refl;
      moved = λ k. refl;
      bytes = is;
    }),
    record {
      ended = refl;
      same_failed = refl;
      id = refl;
      answers = record { whole = refl; within = lit≤ tt; moved = each_moved; bears = tt };
      counts = refl;
    },
  );
}

-- a driver with the write on its line takes it, and writes the first sector
pub begins_write : (g : ℕ) (a b : List ℕ) → accepts (disk a b g) g 4 ≡ true → disk new_0 b g ≡ written (disk a b g) g 4 new_0
    → SlotSteps g (record (slot idle) { line = write_both ∷ [] }) (disk a b g) Working (slot at_second) (disk new_0 b g)
begins_write g a b accepted is = record {
  handed = begins;
  hands = takes_write [];
  driver = begins_is_driver;
  steps = writes_first g a b accepted is;
  after = second_is_driver;
  lives = refl;
  hangs = refl;
}

-- at its next step it writes the second, and answers
pub ends_write : (g : ℕ) (a b : List ℕ) → accepts (disk a b g) g 5 ≡ true → disk a new_1 g ≡ written (disk a b g) g 5 new_1
    → SlotSteps g (slot at_second) (disk a b g) (Done answer) (slot done) (disk a new_1 g)
ends_write g a b accepted is = record {
  handed = at_second;
  hands = (refl, refl);
  driver = second_is_driver;
  steps = writes_second g a b accepted is;
  after = done_is_driver;
  lives = refl;
  hangs = refl;
}

-- a driver at work steps, and moves nothing
pub moves_nothing : (g : ℕ) (m : MediaState) → SlotSteps g (hung_slot (slot at_second)) m Working (hung_slot (slot at_second)) m
moves_nothing g m = record {
  handed = at_second;
  hands = (refl, refl);
  driver = second_is_driver;
  steps = record {
    same_ranges = refl;
    same_last = refl;
    steps = (half, inl (record { same_work = refl; same_media = refl }), record { stays = refl; failed_is = refl; same_bad = refl });
  };
  after = second_is_driver;
  lives = refl;
  hangs = refl;
}

-- an error, and a driver that answered so
abbrev pub error : Answer
error = record { id = 1; outcome = Err EIO; bytes = [] }

abbrev pub error_of : ℕ → BlockReply
error_of g = events.reply_of g error

abbrev pub failing : DriverState
failing = record done { bad = 1 }

failing_is_driver : IsDriver failing
failing_is_driver = record { bad_is_few = lit≤ tt; names_its_own = tt }

-- a driver with the write on its line takes it, and answers the error; the others stay on its line
pub fails_write : (g : ℕ) (m : MediaState) (others : List BlockRequest)
    → SlotSteps g (record (slot idle) { line = write_both ∷ others }) m (Done error) (record (slot failing) { line = others }) m
fails_write g m others = record {
  handed = begins;
  hands = takes_write others;
  driver = begins_is_driver;
  steps = record {
    same_ranges = refl;
    same_last = refl;
    steps = (
      untouched,
      inl (record { same_work = refl; same_media = refl }),
      record {
        ended = refl;
        same_failed = refl;
        id = refl;
        answers = tt;
        counts = refl;
      },
    );
  };
  after = failing_is_driver;
  lives = refl;
  hangs = refl;
}
