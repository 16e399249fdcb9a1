use Rattle.std.proofs.Common.{◌≤◌, ◌≢◌, ℕ, ◌<◌, List, length, slice_index, subst, sym}
use Rattle.image.proofs.Texts.{name_some, name_most}
use Rattle.image.proofs.entry.is_name_field.Goals as goal

pub is_name-requires : goal.is_name-requires
is_name-requires c =
    let Short : List ℕ → Type 0 = λ xs. length xs ≤ 60 in
    let Bytes : List ℕ → Type 0 = λ xs. (k : ℕ) → k < length xs → slice_index xs k ≢ 0 in
    record {
      short = subst Short (sym c.name_of.ensures) (name_most (slice_index c.args.entry.now));
      bytes = subst Bytes (sym c.name_of.ensures) (name_some (slice_index c.args.entry.now));
    }
