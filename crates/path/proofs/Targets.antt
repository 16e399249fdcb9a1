-- The target of a node, by its inode.
use Rattle.std.proofs.Common.{◌≡◌, ◌≤◌, ◌<◌, ◌+◌, ◌-◌, ℕ, zero, suc, List, [], ◌∷◌, length, Bool, true, false, Some, None, sym, ap}
use Rattle.std.proofs.Common.{subst, ◌∙◌, arith, refl}
use Rattle.std.specs.Prelude.{slice_index, take, nat_lt, if◌then◌else◌}
use Rattle.std.proofs.lemmas.Bool.{cond-false, cond_both, eqb-true, ne_eqb, ltb-false}
use Rattle.layout.specs.declared.Geometry.{Geometry}
use Rattle.tree.specs.Tree.{Body, is_file, is_directory, Tree, bytes_from, all_bytes, target_of}
use Rattle.tree.specs.IsTree.{HasTarget, IsTarget}
use Rattle.volume.specs.declared.Inode.{Inode}
use Rattle.volume.specs.Holds.{Holds}
use Rattle.volume.specs.Nodes.{directory_of, file_of, is_directory_mode, is_link_mode, node_of, body_of, type_in}
use Rattle.volume.specs.Pieces.{pieces}
use Rattle.volume.specs.Reading.{Disk}
use Rattle.directory.specs.Reading.{HasFileBytes, read_count}
use Rattle.path.proofs.Entering.{IsHeld}

-- the first bytes of a row, one by one
firsts : (byte : ℕ → ℕ) (n at : ℕ) (bytes : List ℕ) → n ≤ length bytes → ((k : ℕ) → k < n → slice_index bytes k ≡ byte (at + k))
    → take n bytes ≡ bytes_from byte at n
firsts byte zero at bytes few h = refl
firsts byte (suc n) at [] few h = absurd (omega (arith, few))
firsts byte (suc n) at (b ∷ bytes) few h =
    let one : b ≡ byte at = h 0 (omega arith) ∙ ap byte (omega arith) in
    let rest = firsts byte n (suc at) bytes (omega (arith, few)) (λ k low. h (suc k) (omega (arith, low)) ∙ ap byte (omega arith)) in
    λ i. one i ∷ rest i

-- what is no link has no target
pub none_of : (g : Geometry) (d : Disk) (t : Tree) (n : ℕ) (i : Inode) → IsHeld g d t n i → is_link_mode i.mode ≡ false
    → target_of (t.nodes n) ≡ None
none_of g d t n i held mode = ap target_of held.node
    ∙ ap (λ (b : Bool). if b then Some (all_bytes (body_of g (pieces g d) i)) else None) mode

-- a link has the bytes that were read
pub some_of : (g : Geometry) (d : Disk) (t : Tree) (n : ℕ) (i : Inode) (count : ℕ) (room : List ℕ) → Holds g d t → IsHeld g d t n i
    → is_link_mode i.mode ≡ true
    → count ≡ read_count i.size 0 1023 → length room ≡ 1023 → HasFileBytes (file_of g (pieces g d) i) 0 count room
    → target_of (t.nodes n) ≡ Some (take count room)
some_of g d t n i count room holds held mode counted long read =
    let v = pieces g d in
    let no_directory : is_directory_mode i.mode ≡ false = ne_eqb (type_in i.mode) 4
    (λ four. let ten = eqb-true (type_in i.mode) 10 mode in absurd (omega (arith, four, ten))) in
    let body_is : body_of g v i ≡ is_file (file_of g v i) = cond-false (is_directory_mode i.mode) (is_directory (directory_of g v i))
    (is_file (file_of g v i)) no_directory in
    let target : IsTarget (file_of g v i) = subst HasTarget body_is ((holds.tree.nodes.each n (node_of g v i) held.node).target mode) in
    let few = target.few in
    let all : count ≡ i.size = counted ∙ cond_both (nat_lt (i.size - 0) 1023) (i.size - 0) 1023 (λ k. k ≡ i.size) (λ _. omega arith)
    (λ no. let high = ltb-false (i.size - 0) 1023 no in omega (arith, high, few)) in
    ap target_of held.node
    ∙ ap (λ (b : Bool). if b then Some (all_bytes (body_of g v i)) else None) mode
    ∙ ap (λ (b : Body). Some (all_bytes b)) body_is
    ∙ ap (λ (k : ℕ). Some (bytes_from (file_of g v i).byte 0 k)) (sym all)
    ∙ ap (λ (bytes : List ℕ). Some bytes) (sym (firsts (file_of g v i).byte count 0 room (omega (arith, all, few, long)) read))
