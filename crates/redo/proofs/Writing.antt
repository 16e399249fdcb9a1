-- The next step of each loop that writes, and the parts of the plans.
use Rattle.std.proofs.Common.{◌≡◌, inl, inr, length-append, ℕ, suc, ◌+◌, ◌-◌, ◌*◌, ◌/◌, ◌^◌, ◌<◌, ◌≤◌, min, List, [], ◌∷◌, ◌++◌, length, map, take, drop, get_or, set, replicate, refl, sym, ◌∙◌, ap, subst, arith, add-one, append_assoc, codes}
use Rattle.std.specs.Int.{to_be_bytes, w32, w64}
use Rattle.std.specs.List.{flat_map, AllByRecursion}
use Rattle.std.proofs.Math.Seq.{drop-cons, drop-append-add}
use Rattle.std.proofs.lemmas.List.{take_all, drop_all, length-drop, length-map, length-take-le, take_at, take_more_set, get_or-drop, drop-drop, append-nil, drop-replicate}
use Rattle.std.proofs.lemmas.Grind.{take_at_read, flat_map-append}
use Rattle.std.proofs.lemmas.Bool.{cases_lt}
use Rattle.stable.specs.declared.Which.TheVariants.{Log}
use Rattle.stable.specs.Disk.{Changes, Write, Sync, numbered}
use Rattle.redo.specs.Record.{directory, numbers_unit, head}
use Rattle.redo.specs.Runs.{singly, by_sixteen}
use Rattle.redo.specs.Plans.{run_write, directory_writes, runs_of, unit_writes, body_writes, to_gate, log_plan}
use Rattle.redo.specs.UnderWay.{Fits}

pub one_less : (ns : List ℕ) (i : ℕ) → i < length ns → drop i ns ≡ get_or ns i 0 ∷ drop (i + 1) ns
one_less ns i lt = rw (add-one, drop-cons ns i 0)

units_one : (count after : ℕ) → 0 < count → after ≡ count - 1024 → (count + 1023) / 1024 ≡ suc ((after + 1023) / 1024)
units_one count after some is = omega arith

take_least : (ns : List ℕ) → take (min (length ns) 1024) ns ≡ take 1024 ns
take_least ns = elim (cases_lt (length ns) 1024) [
  | inl few ↦ ap (λ (k : ℕ). take k ns) (let e : min (length ns) 1024 ≡ length ns = omega arith in e) ∙ take_all (length ns) ns (omega arith) ∙ sym (take_all 1024 ns (omega arith))
  | inr many ↦ ap (λ (k : ℕ). take k ns) (let e : min (length ns) 1024 ≡ 1024 = omega arith in e)
]

drop_least : (ns : List ℕ) → drop (min (length ns) 1024) ns ≡ drop 1024 ns
drop_least ns = elim (cases_lt (length ns) 1024) [
  | inl few ↦ ap (λ (k : ℕ). drop k ns) (let e : min (length ns) 1024 ≡ length ns = omega arith in e) ∙ drop_all (length ns) ns (omega arith) ∙ sym (drop_all 1024 ns (omega arith))
  | inr many ↦ ap (λ (k : ℕ). drop k ns) (let e : min (length ns) 1024 ≡ 1024 = omega arith in e)
]

length_4 : (n : ℕ) → length (to_be_bytes w32 n) ≡ 4
length_4 n = search arith

take_one : (ns : List ℕ) (i : ℕ) → i < length ns → take (i + 1) ns ≡ take i ns ++ get_or ns i 0 ∷ []
take_one ns i lt = (take_at_read ns i 0 lt).1

-- one unit of the directory more
directory_next : (ns first after : List ℕ) (at : ℕ) → 0 < length ns → first ≡ take (min (length ns) 1024) ns → after ≡ drop (min (length ns) 1024) ns
    → directory_writes at ns ≡ Write Log at (numbers_unit first ∷ []) ∷ directory_writes (at + 1) after
directory_next ns first after at some is_first is_after =
    let count = length ns in
    let counted : length after ≡ count - 1024 = ap length is_after ∙ length-drop (min count 1024) ns ∙ (let e : count - min count 1024 ≡ count - 1024 = omega arith in e) in
    let fewer : (count + 1023) / 1024 ≡ suc ((length after + 1023) / 1024) = ap (λ (k : ℕ). (count + 1023) / 1024) counted ∙ units_one count (length after) some counted in
    ap (λ (k : ℕ). map (run_write Log) (singly (numbered at (directory k ns)))) fewer
    ∙ ap (λ (l : List ℕ). Write Log at (numbers_unit l ∷ []) ∷ map (run_write Log) (singly (numbered (at + 1) (directory ((length after + 1023) / 1024) (drop 1024 ns))))) (sym (is_first ∙ take_least ns))
    ∙ ap (λ (l : List ℕ). Write Log at (numbers_unit first ∷ []) ∷ map (run_write Log) (singly (numbered (at + 1) (directory ((length after + 1023) / 1024) l)))) (sym (is_after ∙ drop_least ns))

-- the same, of the unit that the code made
pub directory_left : (ns first after unit : List ℕ) (at mid : ℕ) → 0 < length ns → mid ≡ min (length ns) 1024 → first ≡ take mid ns → after ≡ drop mid ns → unit ≡ numbers_unit first
    → directory_writes at ns ≡ Write Log at (unit ∷ []) ∷ directory_writes (at + 1) after
directory_left ns first after unit at mid some is_mid is_first is_after is_unit =
    directory_next ns first after at some (is_first ∙ ap (λ (k : ℕ). take k ns) is_mid) (is_after ∙ ap (λ (k : ℕ). drop k ns) is_mid)
    ∙ ap (λ (l : List ℕ). Write Log at (l ∷ []) ∷ directory_writes (at + 1) after) (sym is_unit)

length-numbers : (ns : List ℕ) → length (flat_map (to_be_bytes w32) ns) ≡ 4 * length ns
length-numbers [] = refl
length-numbers (n ∷ ns) = omega (arith, length-append (to_be_bytes w32 n) (flat_map (to_be_bytes w32) ns), length_4 n, length-numbers ns)

-- bytes that are put in front of zeros, behind what was put
pub put_next : (front unit bytes : List ℕ) (at zeros : ℕ) → length front ≡ at → unit ≡ front ++ replicate zeros 0
    → take at unit ++ bytes ++ drop (at + length bytes) unit ≡ front ++ bytes ++ replicate (zeros - length bytes) 0
put_next front unit bytes at zeros size is =
    let rest_is : drop (at + length bytes) unit ≡ replicate (zeros - length bytes) 0 =
    ap (drop (at + length bytes)) is
    ∙ ap (λ (k : ℕ). drop (k + length bytes) (front ++ replicate zeros 0)) (sym size)
    ∙ drop-append-add front (replicate zeros 0) (length bytes)
    ∙ drop-replicate (length bytes) zeros 0 in
    ap (λ (l : List ℕ). l ++ bytes ++ drop (at + length bytes) unit) (ap (take at) is ∙ take_at front (replicate zeros 0) at size)
    ∙ ap (λ (l : List ℕ). front ++ bytes ++ l) rest_is

length_8 : (n : ℕ) → length (to_be_bytes w64 n) ≡ 8
length_8 n = search arith

-- a head that was put together
pub head_made : (name count : ℕ) (first second third magic b c : List ℕ) → magic ≡ codes "MFSREDO1" → b ≡ to_be_bytes w64 name → c ≡ to_be_bytes w32 count
    → first ≡ take 0 (replicate 4096 0) ++ magic ++ drop (0 + length magic) (replicate 4096 0)
    → second ≡ take 8 first ++ b ++ drop (8 + length b) first → third ≡ take 16 second ++ c ++ drop (16 + length c) second → third ≡ head name count
head_made name count first second third magic b c is_magic is_b is_c one two three =
    let m : List ℕ = codes "MFSREDO1" in
    let eight : length m ≡ 8 = refl in
    let long : length magic ≡ 8 = ap length is_magic ∙ eight in
    let long_b : length b ≡ 8 = ap length is_b ∙ length_8 name in
    let long_c : length c ≡ 4 = ap length is_c ∙ length_4 count in
    let first_is : first ≡ magic ++ replicate 4088 0 = one ∙ put_next [] (replicate 4096 0) magic 0 4096 refl refl ∙ ap (λ (k : ℕ). magic ++ replicate (4096 - k) 0) long in
    let second_is : second ≡ magic ++ b ++ replicate 4080 0 = two ∙ put_next magic first b 8 4088 long first_is ∙ ap (λ (k : ℕ). magic ++ b ++ replicate (4088 - k) 0) long_b in
    three
    ∙ put_next (magic ++ b) second c 16 4080 (omega (arith, length-append magic b, long, long_b)) second_is
    ∙ ap (λ (k : ℕ). magic ++ b ++ c ++ replicate (4080 - k) 0) long_c
    ∙ ap (λ (l : List ℕ). l ++ b ++ c ++ replicate 4076 0) is_magic
    ∙ ap (λ (l : List ℕ). m ++ l ++ c ++ replicate 4076 0) is_b
    ∙ ap (λ (l : List ℕ). m ++ to_be_bytes w64 name ++ l ++ replicate 4076 0) is_c

-- one number of a unit more
pub number_next : (ns unit bytes : List ℕ) (i : ℕ) → i < length ns → length ns ≤ 1024 → bytes ≡ to_be_bytes w32 (get_or ns i 0)
    → unit ≡ flat_map (to_be_bytes w32) (take i ns) ++ replicate (4096 - 4 * i) 0
    → take (4 * i) unit ++ bytes ++ drop (4 * i + length bytes) unit ≡ flat_map (to_be_bytes w32) (take (i + 1) ns) ++ replicate (4096 - 4 * (i + 1)) 0
number_next ns unit bytes i lt few is_bytes is =
    let front : List ℕ = flat_map (to_be_bytes w32) (take i ns) in
    let zeros : List ℕ = replicate (4096 - 4 * i) 0 in
    let size : length front ≡ 4 * i = omega (arith, length-numbers (take i ns), length-take-le i ns (omega arith)) in
    let four : length bytes ≡ 4 = ap length is_bytes ∙ length_4 (get_or ns i 0) in
    let head_is : take (4 * i) unit ≡ front = ap (take (4 * i)) is ∙ take_at front zeros (4 * i) size in
    let rest_is : drop (4 * i + length bytes) unit ≡ replicate (4096 - 4 * (i + 1)) 0 =
    ap (λ (k : ℕ). drop (4 * i + k) unit) four
    ∙ ap (drop (4 * i + 4)) is
    ∙ ap (λ (k : ℕ). drop (k + 4) (front ++ zeros)) (sym size)
    ∙ drop-append-add front zeros 4
    ∙ drop-replicate 4 (4096 - 4 * i) 0
    ∙ ap (λ (k : ℕ). replicate k 0) (let e : 4096 - 4 * i - 4 ≡ 4096 - 4 * (i + 1) = omega arith in e) in
    let more : flat_map (to_be_bytes w32) (take (i + 1) ns) ≡ front ++ bytes =
    ap (flat_map (to_be_bytes w32)) (take_one ns i lt)
    ∙ flat_map-append (to_be_bytes w32) (take i ns) (get_or ns i 0 ∷ [])
    ∙ ap (λ (l : List ℕ). front ++ l) (append-nil (to_be_bytes w32 (get_or ns i 0)) ∙ sym is_bytes) in
    ap (λ (l : List ℕ). l ++ bytes ++ drop (4 * i + length bytes) unit) head_is
    ∙ ap (λ (l : List ℕ). front ++ bytes ++ l) rest_is
    ∙ ap (λ (l : List ℕ). l ++ replicate (4096 - 4 * (i + 1)) 0) (sym more)

numbers_fit : (ws : Changes) → ((i : ℕ) → get_or (map (λ (w : ℕ × List ℕ). w.0) ws) i 0 < 2 ^ 32) → AllByRecursion (λ w. w.0 < 2 ^ 32) ws
numbers_fit [] fit = tt
numbers_fit (w ∷ ws) fit = (fit 0, numbers_fit ws (λ i. fit (suc i)))

pub count_numbers : (ns : List ℕ) (ws : Changes) → ns ≡ map (λ (w : ℕ × List ℕ). w.0) ws → length ns ≡ length ws
count_numbers ns ws is = ap length is ∙ length-map ws (λ (w : ℕ × List ℕ). w.0)

pub changes_fit : (ns : List ℕ) (ws : Changes) → ns ≡ map (λ (w : ℕ × List ℕ). w.0) ws → length ns < 2 ^ 32 → ((i : ℕ) → get_or ns i 0 < 2 ^ 32) → Fits ws
changes_fit ns ws is few fit = record {
  few = omega (arith, few, count_numbers ns ws is);
  numbers = numbers_fit ws (λ i. subst (λ (l : List ℕ). get_or l i 0 < 2 ^ 32) is (fit i));
}

-- the parts of what is logged
pub log_parts : (name at : ℕ) (ns : List ℕ) (ws : Changes) (first : List ℕ) → ns ≡ map (λ (w : ℕ × List ℕ). w.0) ws → first ≡ head name (length ws)
    → log_plan name at ws ≡ body_writes name at ns (map (λ (w : ℕ × List ℕ). w.1) ws) ++ (Sync Log ∷ to_gate at first)
log_parts name at ns ws first is_ns is_first =
    let us : List (List ℕ) = map (λ (w : ℕ × List ℕ). w.1) ws in
    ap (λ (l : List ℕ). (body_writes name at l us ++ Sync Log ∷ []) ++ to_gate at (head name (length ws))) (sym is_ns)
    ∙ ap (λ (h : List ℕ). (body_writes name at ns us ++ Sync Log ∷ []) ++ to_gate at h) (sym is_first)
    ∙ append_assoc (body_writes name at ns us) (Sync Log ∷ []) (to_gate at first)

-- one unit more of a run
pub run_next : (units all : List (List ℕ)) (from i : ℕ) (u : List ℕ) → i < length units → from + i < length all → u ≡ get_or all (from + i) []
    → take i units ≡ take i (drop from all) → take (i + 1) (set units i u) ≡ take (i + 1) (drop from all)
run_next units all from i u there more is so =
    take_more_set units i u there
    ∙ ap (λ (l : List (List ℕ)). l ++ u ∷ []) so
    ∙ ap (λ (v : List ℕ). take i (drop from all) ++ v ∷ []) (is ∙ sym (get_or-drop from all i []))
    ∙ sym ((take_at_read (drop from all) i [] (omega (arith, more, length-drop from all))).1)

-- one run of units more
pub units_left : (units : List (List ℕ)) (at size : ℕ) → 0 < length units → size ≡ min (length units) 16
    → unit_writes at units ≡ Write Log at (take size units) ∷ unit_writes (at + size) (drop size units)
units_left units at size some is = elim (cases_lt 16 (length units)) [
  | inl many ↦
      let whole : size ≡ 16 = omega (arith, is, many) in
      let rest : length (drop 16 units) ≡ length units - 16 = length-drop 16 units in
      let fewer : runs_of (length units) ≡ suc (runs_of (length (drop 16 units))) = omega (arith, rest, many) in
      ap (λ (k : ℕ). map (run_write Log) (by_sixteen k at units)) fewer
      ∙ ap (λ (k : ℕ). Write Log at (take k units) ∷ unit_writes (at + k) (drop k units)) (sym whole)
  | inr few ↦
      let all : size ≡ length units = omega (arith, is, few) in
      let one : runs_of (length units) ≡ 1 = omega (arith, some, few) in
      ap (λ (k : ℕ). map (run_write Log) (by_sixteen k at units)) one
      ∙ ap (λ (l : List (List ℕ)). Write Log at l ∷ []) (take_all 16 units (omega (arith, few)) ∙ sym (take_all size units (omega (arith, all))))
      ∙ ap (λ (l : List (List ℕ)). Write Log at (take size units) ∷ unit_writes (at + size) l) (sym (drop_all size units (omega (arith, all))))
]

-- the same, of those from one of them on
pub units_next : (all : List (List ℕ)) (at done size : ℕ) → done < length all → size ≡ min (length all - done) 16
    → unit_writes (at + done) (drop done all) ≡ Write Log (at + done) (take size (drop done all)) ∷ unit_writes (at + (done + size)) (drop (done + size) all)
units_next all at done size more is =
    let rest : length (drop done all) ≡ length all - done = length-drop done all in
    units_left (drop done all) (at + done) size (omega (arith, rest, more)) (is ∙ ap (λ (k : ℕ). min k 16) (sym rest))
    ∙ ap (λ (l : List (List ℕ)). Write Log (at + done) (take size (drop done all)) ∷ unit_writes (at + done + size) l) (drop-drop size done all)
    ∙ ap (λ (k : ℕ). Write Log (at + done) (take size (drop done all)) ∷ unit_writes k (drop (done + size) all)) (let e : at + done + size ≡ at + (done + size) = omega arith in e)

-- none are left behind the last one
pub units_none : (all : List (List ℕ)) (at done : ℕ) → length all ≤ done → unit_writes (at + done) (drop done all) ≡ []
units_none all at done none = ap (λ (l : List (List ℕ)). unit_writes (at + done) l) (drop_all done all none)
