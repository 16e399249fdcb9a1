-- The edition that the media's sectors are, and the seat that knows them by its number.
use Rattle.std.specs.Prelude.{◌≡◌, ℕ, List, Bool, true, false, Option, Some, None, IfSome}
use Rattle.media.specs.Contents.{MediaState, accepts}
use Rattle.atomic_table.specs.Seated.{TableId}
use Rattle.shared_media.specs.declared.edition.Edition.{Edition}

-- its number, if there is one
abbrev pub number_of : Option Edition → Option ℕ
number_of None = None
number_of (Some e) = Some e.number

-- its seat is of this board, and knows these sectors by its number
abbrev pub AreKnown : TableId → Option Edition → List (List ℕ) → Type 0
AreKnown table edition sectors = IfSome edition (λ e. (e.seat.table ≡ table) × (e.seat.view.edition ≡ Some (e.number, sectors)))

-- its seat knows these sectors by its number, where it has this one
abbrev pub Tells : Option Edition → ℕ → List (List ℕ) → Type 0
Tells edition number sectors = IfSome edition (λ e. e.number ≡ number → e.seat.view.edition ≡ Some (number, sectors))

-- whether a step under a generation may write on media: its driver named a sector, and the media accept it
abbrev pub may_write : MediaState → ℕ → Option ℕ → Bool
may_write media generation None = false
may_write media generation (Some s) = accepts media generation s

-- what is kept, unless the step that comes may write
abbrev pub kept_unless : {T : Type 0} → Bool → Option T → Option T
kept_unless false kept = kept
kept_unless true kept = None
