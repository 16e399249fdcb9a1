-- The rule of the board: what its words say of the record, and that what each seat knows is so.
use Rattle.std.specs.Prelude.{◌≡◌, ℕ, ◌^◌, ◌<◌, ◌≤◌, List, [], ◌∷◌, ◌++◌, length, Bool, true, Option, Some, IfSome}
use mathlib.Core.Option.{some}
use lib.ListN.{get_elem?}
use Rattle.records.specs.Marks.{Mark, gave_up, IsBeginning}
use Rattle.records.specs.Session.{calls_of, tally_of, went_on, IsSession}
use Rattle.board.specs.View.{View, session_of, is_used}

-- What is so. No seat knows all of it.
pub record BoardState : Type 0 where
  -- which seat is the record's, and which is that of each number in use
  pub keeper : ℕ
  pub owner : ℕ → ℕ
  -- the record
  pub marks : List Mark
  -- the numbers in use
  pub used : List ℕ
  -- the device word was set
  pub given_up : Bool
  -- the other words
  pub generation : ℕ
  pub device : ℕ
  pub pulse : ℕ
  -- the sectors of each edition, the newest first
  pub editions : List (List (List ℕ))

-- the tally is the number of counted marks, modulo 2^64, and the last word that of the editions
abbrev pub words_of : BoardState → List ℕ
words_of b = tally_of b.marks ∷ b.generation ∷ b.device ∷ b.pulse ∷ length b.editions ∷ []

-- the device word is set only where the record has a giving up, stays set, and is set where a call was taken after one
pub record DeviceIs (b : BoardState) : Type 0 where
  pub bit : b.device < 2
  pub only : b.device ≡ 1 → gave_up b.marks ≡ true
  pub stays : b.given_up ≡ true → b.device ≡ 1
  pub after : went_on b.marks ≡ true → b.given_up ≡ true

-- the record's seat has seen the whole record and knows the numbers in use
pub record KeepsRecord (b : BoardState) (id : ℕ) (v : View) : Type 0 where
  pub seat : id ≡ b.keeper
  pub all : v.seen ≡ b.marks
  pub used : v.used ≡ b.used
  pub given_up : v.given_up ≡ b.given_up

-- a seat with a number is the one seat of that number, which is in use; its session's calls in the record are those that it knows
pub record HasNumber (b : BoardState) (id n : ℕ) (v : View) : Type 0 where
  pub owner : b.owner n ≡ id
  pub used : is_used n b.used ≡ true
  pub place : v.place ≤ length v.seen
  pub session : IsSession (session_of n v) b.marks
  pub all : v.mine ≡ calls_of n v.place b.marks

-- the sectors are those of the edition of this number: so many came before it
pub record IsEdition (editions : List (List (List ℕ))) (number : ℕ) (sectors : List (List ℕ)) : Type 0 where
  pub later : List (List (List ℕ))
  pub older : List (List (List ℕ))
  pub is : editions ≡ later ++ sectors ∷ older
  pub before : length older ≡ number

-- what is known of an edition, if there is one, is so
abbrev pub IsKnown : List (List (List ℕ)) → Option (ℕ × List (List ℕ)) → Type 0
IsKnown editions known = IfSome known (λ e. IsEdition editions e.0 e.1)

-- what a seat knows is so
pub record Fits (b : BoardState) (id : ℕ) (v : View) : Type 0 where
  pub seen : IsBeginning v.seen b.marks
  pub told : IsBeginning v.told b.marks
  pub keeper : v.keeps ≡ true → KeepsRecord b id v
  pub number : (n : ℕ) → v.number ≡ Some n → HasNumber b id n v
  pub generation : v.generation ≤ b.generation
  pub pulse : v.pulse ≤ b.pulse
  pub edition : IsKnown b.editions v.edition
  pub heard : IsKnown b.editions v.heard

-- The rule, of the words and of what each seat knows. The numbers in use are those of the seats.
pub record Kept (words : List ℕ) (views : List View) : Type 0 where
  pub board : BoardState
  pub words_are : words ≡ words_of board
  pub device : DeviceIs board
  pub small : board.generation < 2 ^ 32
  pub few : length board.editions < 2 ^ 64
  pub fits : (id : ℕ) (v : View) → get_elem? views id ≡ some v → Fits board id v
  pub held : (n : ℕ) → is_used n board.used ≡ true → (v : View) × (get_elem? views (board.owner n) ≡ some v) × (v.number ≡ Some n)
