-- What a server would read back, worked by hand.
use Rattle.std.specs.Prelude.{◌≡◌, ℕ, ◌/◌, ◌<◌, ◌≤◌, List, [], ◌∷◌, Bool, true, false, ◌==◌, nat_le, nat_lt, Some, None, IsSome, if◌then◌else◌, refl}
use Rattle.std.proofs.Common.{arith, subst, sym}
use Rattle.std.proofs.lemmas.Bool.Decides.{nat_tests}
use Rattle.message.specs.declared.Kind.TheVariants.{Write}
use Rattle.layout.specs.declared.Geometry.{Geometry}
use Rattle.records.specs.Marks.{Mark, Issued}
use Rattle.records.specs.Disk.{Contents, unsure}
use Rattle.records.specs.View.{Frames, server_view, IsCovered}

-- blocks of 1024 bytes
abbrev pub volume : Geometry
volume = record { block_size = 1024; inodes = 32; zones = 64; inode_map_blocks = 1; zone_map_blocks = 1; first_zone = 6 }

-- an image whose byte at each place is 9
abbrev pub nines : Contents
nines place = 9

-- block 2 has a frame, that begins with 7 and 8
abbrev pub one_frame : Frames
one_frame block = if block == 2 then Some (7 ∷ 8 ∷ []) else None

-- Block 2 is being written: its two sectors begin at 2048.
abbrev pub issued : List Mark
issued = Issued (record { id = 1; kind = Write; minor = 0; position = 2048; count = 1024; bytes = 7 ∷ 8 ∷ [] }) (record { slot = 1; generation = 1 }) ∷ []

-- the frame's bytes are read back, though the disk has others
view_of_frame : server_view volume one_frame nines issued 2 1 ≡ 8
view_of_frame = refl

-- elsewhere the disk's
view_of_disk : server_view volume one_frame nines issued 3 1 ≡ 9
view_of_disk = refl

-- past a block's end there is nothing
view_past_block : server_view volume one_frame nines issued 3 1024 ≡ 0
view_past_block = refl

-- what is unsure lies in block 2
in_block_2 : (place : ℕ) → unsure issued place ≡ true → place / 1024 ≡ 2
in_block_2 place is_unsure =
    let from : nat_le 2048 place ≡ true = grind (arith, nat_tests) in
    let until : nat_lt place 3072 ≡ true = grind (arith, nat_tests) in
    let low : 2048 ≤ place = grind (arith, nat_tests) in
    let high : place < 3072 = grind (arith, nat_tests) in
    omega (arith, low, high)

-- the frame covers what is unsure
covered : IsCovered volume one_frame issued
covered = record {
  each = λ place is_unsure.
      let at : ℕ → Type 0 = λ block. IsSome (one_frame block) in subst at (sym (in_block_2 place is_unsure)) refl;
}

-- without it something isn't covered
not_covered : IsCovered volume (λ block. None) issued → ⊥
not_covered h = let e : ◌≡◌ {A = Bool} false true = h.each 2048 refl in cc

-- nor by a frame of another block
other_frame : IsCovered volume (λ block. if block == 3 then Some [] else None) issued → ⊥
other_frame h = let e : ◌≡◌ {A = Bool} false true = h.each 2048 refl in cc
