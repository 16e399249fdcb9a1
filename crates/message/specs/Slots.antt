-- The slots, by the generation of each one's last start.
use Rattle.std.specs.Prelude.{◌≡◌, ◌≤◌, ◌<◌, ℕ, ◌+◌, List, ◌++◌, replicate, slice_index, slice_set, Bool, not, ◌&&◌, ◌==◌, codes, Result, Ok, Err}
use Rattle.std.specs.Fmt.{decimal}
use Rattle.message.specs.declared.endpoint.Endpoint.{Endpoint}
use Rattle.message.specs.declared.endpoint.SlotRefusal.{SlotRefusal}
use Rattle.message.specs.declared.endpoint.SlotRefusal.TheVariants.{NoSuchSlot, GenerationsSpent}

-- the slot, a dot and the generation, in decimal
abbrev pub endpoint_text : Endpoint → List ℕ
endpoint_text e = decimal e.slot ++ codes "." ++ decimal e.generation

-- the last generations of slots that were never started
abbrev pub no_starts : List ℕ
no_starts = replicate 16 0

abbrev pub refusal_number : SlotRefusal → ℕ
refusal_number NoSuchSlot = 1
refusal_number GenerationsSpent = 2

-- a start gives the next generation of its slot, and no other slot's last generation changes; a refused one changes nothing
abbrev pub StartAnswers : List ℕ → ℕ → Result Endpoint SlotRefusal → List ℕ → Type 0
StartAnswers old slot (Err NoSuchSlot) new = (16 ≤ slot) × (new ≡ old)
StartAnswers old slot (Err GenerationsSpent) new = (slice_index old slot ≡ 4294967295) × (new ≡ old)
StartAnswers old slot (Ok e) new =
    (slot < 16) × (e ≡ record { slot = slot; generation = slice_index old slot + 1 })
    × (slice_index new slot ≡ e.generation) × (new ≡ slice_set old slot e.generation)

-- the endpoint that the last start of its slot gave
abbrev pub is_last_start : List ℕ → Endpoint → Bool
is_last_start generations e = not (e.generation == 0) && (e.generation == slice_index generations e.slot)
