-- Worked rows of the driver interface, by computation: media of 129 sectors, of which minor 1 is 1 to 128.
use Rattle.std.specs.Prelude.{◌≡◌, ℕ, [], ◌∷◌, Some, None, true, refl}
use Rattle.message.specs.declared.Kind.TheVariants.{Read}
use Rattle.message.specs.declared.BlockRequest.{BlockRequest}
use Rattle.bdev.specs.declared.Step.TheVariants.{Working, Failed}
use Rattle.bdev.specs.DriverState.{DriverState, Ranges, fresh, plan, range_while_fresh}
use Rattle.bdev.specs.Promises.{SaysIdle}

-- the ranges of those media
abbrev ranges : Ranges
ranges = Some (0, 129) ∷ Some (1, 128) ∷ None ∷ None ∷ None ∷ []

-- a read of so many bytes
abbrev read : ℕ → ℕ → ℕ → BlockRequest
read minor position count = record { id = 1; kind = Read; minor = minor; position = position; count = count; bytes = [] }

-- a count that passes the range is cut at its end
row_cut : plan ranges (read 1 65024 1024) ≡ Some (record { first = 128; count = 1 })
row_cut = refl

-- a position at the range's end leaves no sector
row_at_end : plan ranges (read 1 65536 1024) ≡ Some (record { first = 129; count = 0 })
row_at_end = refl

-- a minor without a range
row_empty_minor : plan ranges (read 2 0 512) ≡ None
row_empty_minor = refl

-- there is no minor 5
row_no_minor : plan ranges (read 5 0 512) ≡ None
row_no_minor = refl

-- a count of 0
row_count_0 : plan ranges (read 0 0 0) ≡ None
row_count_0 = refl

-- a count off sectors
row_count_513 : plan ranges (read 0 0 513) ≡ None
row_count_513 = refl

-- a count over 4096
row_count_4608 : plan ranges (read 0 0 4608) ≡ None
row_count_4608 = refl

-- a position off sectors
row_position_511 : plan ranges (read 0 511 512) ≡ None
row_position_511 = refl

-- a driver that took nothing is ready
row_ready : range_while_fresh (fresh ranges) 1 ≡ Some (1, 128)
row_ready = refl

-- one that failed isn't
row_not_ready : let d : DriverState = fresh ranges in range_while_fresh (record d { failed = true }) 1 ≡ None
row_not_ready = refl

-- an idle driver may fail
row_idle_fails : let d : DriverState = fresh ranges in SaysIdle d Failed (record d { failed = true })
row_idle_fails = refl

-- it doesn't work
row_idle_works : SaysIdle (fresh ranges) Working (fresh ranges) → ⊥
row_idle_works h = h
