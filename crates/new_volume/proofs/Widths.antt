-- Sums and quotients at the three block sizes, each of which makes them linear.
use Rattle.std.proofs.Common.{◌≡◌, ◌<◌, ◌≤◌, ◌+◌, ◌*◌, ◌/◌, ◌%◌, ◌^◌, ℕ, sym, subst, arith}
use mathlib.Core.Logic.{inl, inr}
use Rattle.std.specs.Prelude.{IsTrue}
use Rattle.layout.specs.Places.{is_block_size}
use Rattle.layout.proofs.Parsed.{block_sizes}
use Rattle.new_volume.specs.Sizes.{blocks_for}

-- what holds at each of the three holds at a block size
at_size : (P : ℕ → Type 0) (B : ℕ) → IsTrue (is_block_size B) → P 1024 → P 2048 → P 4096 → P B
at_size P B is small middle large = elim (block_sizes B is) [
  | inl e ↦ subst P (sym e) small
  | inr (inl e) ↦ subst P (sym e) middle
  | inr (inr e) ↦ subst P (sym e) large
]

module _ (B : ℕ) (is : IsTrue (is_block_size B)) where
  -- a block has both ends of a superblock below its second
  pub large : 1024 ≤ B
  large = at_size (λ b. 1024 ≤ b) B is (omega arith) (omega arith) (omega arith)

  pub sized : 0 < B
  sized = at_size (λ b. 0 < b) B is (omega arith) (omega arith) (omega arith)

  pub small : B ≤ 4096
  small = at_size (λ b. b ≤ 4096) B is (omega arith) (omega arith) (omega arith)

  -- so many blocks hold what they are for
  pub held : (n : ℕ) → n ≤ 8 * B * blocks_for n (8 * B)
  held n = at_size (λ b. n ≤ 8 * b * blocks_for n (8 * b)) B is (omega arith) (omega arith) (omega arith)

  -- one block at least is for something
  pub some_block : (n : ℕ) → 1 ≤ n → 1 ≤ blocks_for n B
  some_block n some = at_size (λ b. 1 ≤ blocks_for n b) B is (omega arith) (omega arith) (omega arith)

  -- so many inodes take few blocks
  pub few_blocks : (n : ℕ) → n ≤ 65535 → blocks_for (64 * n) B ≤ 65536
  few_blocks n few = at_size (λ b. blocks_for (64 * n) b ≤ 65536) B is (omega arith) (omega arith) (omega arith)

  -- so many blocks have not too many bytes
  pub few_bytes : (n : ℕ) → n ≤ 65536 → n * B ≤ 2 ^ 28
  few_bytes n few = at_size (λ b. n * b ≤ 2 ^ 28) B is (omega arith) (omega arith) (omega arith)

  -- one block has at least its bytes
  pub one_block : (n : ℕ) → 1 ≤ n → B ≤ n * B
  one_block n some = at_size (λ b. b ≤ n * b) B is (omega arith) (omega arith) (omega arith)

  -- the byte of a bit of a map
  pub bit_place : (start n : ℕ) → (start + n / (8 * B)) * B + n % (8 * B) / 8 ≡ start * B + n / 8
  bit_place start n = at_size (λ b. (start + n / (8 * b)) * b + n % (8 * b) / 8 ≡ start * b + n / 8) B is (omega arith) (omega arith) (omega arith)

  -- its place in the block
  pub bit_offset : (n : ℕ) → n % (8 * B) / 8 < B
  bit_offset n = at_size (λ b. n % (8 * b) / 8 < b) B is (omega arith) (omega arith) (omega arith)

  -- and in the byte
  pub bit_rest : (n : ℕ) → n % (8 * B) % 8 ≡ n % 8
  bit_rest n = at_size (λ b. n % (8 * b) % 8 ≡ n % 8) B is (omega arith) (omega arith) (omega arith)

  -- a bit that a map has lies in its bytes
  pub bit_within : (n blocks : ℕ) → n < 8 * B * blocks → n / 8 < blocks * B
  bit_within n blocks = at_size (λ b. n < 8 * b * blocks → n / 8 < blocks * b) B is (λ h. omega arith) (λ h. omega arith) (λ h. omega arith)

  -- a byte of an inode of the table
  pub inode_place : (start n j : ℕ) → (start + n / (B / 64)) * B + (64 * (n % (B / 64)) + j) ≡ start * B + (64 * n + j)
  inode_place start n j = at_size (λ b. (start + n / (b / 64)) * b + (64 * (n % (b / 64)) + j) ≡ start * b + (64 * n + j)) B is (omega arith) (omega arith) (omega arith)

  -- its place in the block
  pub inode_offset : (n j : ℕ) → j < 64 → 64 * (n % (B / 64)) + j < B
  inode_offset n j low = at_size (λ b. 64 * (n % (b / 64)) + j < b) B is (omega arith) (omega arith) (omega arith)

  -- an inode lies in the table's blocks
  pub inode_within : (inodes n j : ℕ) → n < inodes → j < 64 → 64 * n + j < blocks_for (64 * inodes) B * B
  inode_within inodes n j below low = at_size (λ b. 64 * n + j < blocks_for (64 * inodes) b * b) B is (omega arith) (omega arith) (omega arith)

  -- a sum of blocks, part by part
  pub parts : (a b c z : ℕ) → (2 + a + b + c + z) * B ≡ 2 * B + (a * B + (b * B + (c * B + z * B)))
  parts a b c z = at_size (λ s. (2 + a + b + c + z) * s ≡ 2 * s + (a * s + (b * s + (c * s + z * s)))) B is (omega arith) (omega arith) (omega arith)

  -- fewer parts
  pub two_parts : (a b : ℕ) → (2 + a + b) * B ≡ 2 * B + (a * B + b * B)
  two_parts a b = at_size (λ s. (2 + a + b) * s ≡ 2 * s + (a * s + b * s)) B is (omega arith) (omega arith) (omega arith)

  -- one part
  pub one_part : (a : ℕ) → (2 + a) * B ≡ 2 * B + a * B
  one_part a = at_size (λ s. (2 + a) * s ≡ 2 * s + a * s) B is (omega arith) (omega arith) (omega arith)
