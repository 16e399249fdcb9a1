use Rattle.std.proofs.Common.{rules, ◌≡◌, ◌≢◌, ◌<◌, ◌≤◌, ◌*◌, ◌/◌, ℕ, length, take, length-take, ap, arith}
use Rattle.std.specs.Prelude.{slice_index}
use Rattle.block_store.proofs.Ending.{ends_exit, turns_three}
use Rattle.file.proofs.Rest.{wide}
use Rattle.file.proofs.Sizes.{row_reaches, row_room}
use Rattle.file.proofs.HeldRow.{row_held, first_written, may_write_first}
use Rattle.file.proofs.changing.write_row.Goals as goal

pub overflow_mul-room : goal.overflow_mul-room
overflow_mul-room g c =
    let few : c.in_ok-found.found ≤ 16 = c.in_ok-found.ensures.some.1 in
    let fits = row_room c.args.geometry.now.block_size (wide c.args.geometry.now c.requires.on.geometry) c.in_ok-found.found few (omega arith) in
    omega (arith, fits)

pub overflow_sub-room : goal.overflow_sub-room
overflow_sub-room g c =
    let reach = row_reaches c.args.geometry.now.block_size (wide c.args.geometry.now c.requires.on.geometry) c.args.at c.in_ok-found.found c.in_ok-found.ensures.some.0 in
    omega (arith, reach)

pub write_chunks-requires-clause-some : goal.write_chunks-requires-clause-some
write_chunks-requires-clause-some g c =
    let reach = row_reaches c.args.geometry.now.block_size (wide c.args.geometry.now c.requires.on.geometry) c.args.at c.in_ok-found.found c.in_ok-found.ensures.some.0 in
    let part = length-take c.min-count.result c.args.bytes.now in
    omega (arith, reach, part)

pub write_chunks-requires-clause-end : goal.write_chunks-requires-clause-end
write_chunks-requires-clause-end g c = let part = length-take c.min-count.result c.args.bytes.now in omega (arith, part)

pub write_held-requires-clause-pages : goal.write_held-requires-clause-pages
write_held-requires-clause-pages g c =
    let w = c.args.geometry.now.block_size in
    let held = c.held_before-held.result in
    let some : 0 < held = omega arith in
    let reach = row_reaches w (wide c.args.geometry.now c.requires.on.geometry) c.args.at held some in
    let part = length-take c.min-count-2.result c.args.bytes.now in
    let row = length-take held c.find_row.new.zones in
    let few : held ≤ c.in_ok-found.found = search rules in
    let within : c.in_ok-found.found ≤ length c.find_row.new.zones = search rules in
    let same : length (take held c.find_row.new.zones) ≡ held = omega (arith, row, few, within) in
    let product = ap (λ n. n * w) same in
    omega (arith, reach, part, product)

pub returns-in_err-write_chunks-clause-turns : goal.returns-in_err-write_chunks-clause-turns
returns-in_err-write_chunks-clause-turns g c =
    let a = c.args in
    turns_three _ g.met.B.Blocks.lawful _ _ _ _ _ _ _ _
    (λ d x y f p q r. ends_exit _ _ _ _ _ _ c.from_residual-in_err-write_chunks.ensures.1
    (λ may. may_write_first a.geometry.now d x y a.number a.at c.min-count.result a.bytes.now p.0 q.0 may) r)
    c.in_ok-inode.ensures.reads.turns c.in_ok-found.ensures.reads.turns c.in_err-write_chunks.ensures.turns

pub returns-then-held-eq0-clause-turns : goal.returns-then-held-eq0-clause-turns
returns-then-held-eq0-clause-turns g c =
    let a = c.args in
    turns_three _ g.met.B.Blocks.lawful _ _ _ _ _ _ _ _
    (λ d x y f p q r. first_written a.geometry.now d x y f a.number a.at (take c.min-count.result a.bytes.now) p.0 q.0 r)
    c.in_ok-inode.ensures.reads.turns c.in_ok-found.ensures.reads.turns c.in_ok-write_chunks.ensures.turns

pub returns-in_err-write_held-clause-turns : goal.returns-in_err-write_held-clause-turns
returns-in_err-write_held-clause-turns g c =
    let a = c.args in
    let i = c.in_ok-inode.inode in
    let n = c.in_ok-found.found in
    let held = c.held_before-held.result in
    let zones = c.find_row.new.zones in
    let few : held ≤ n = search rules in
    let room : n ≤ length zones = search rules in
    let some : (k : ℕ) → k < held → slice_index (take n zones) k ≢ 0 = search rules in
    turns_three _ g.met.B.Blocks.lawful _ _ _ _ _ _ _ _
    (λ d x y f p q r. ends_exit _ _ _ _ _ _ c.from_residual-in_err-write_held.ensures.1
    (λ may. may_write_first a.geometry.now d x y a.number a.at c.min-count-2.result a.bytes.now p.0 q.0 may)
    (r a.number (row_held a.geometry.now d x y a.number (a.at / a.geometry.now.block_size) n held i zones p.0 q.0 p.1 q.1 few room some)))
    c.in_ok-inode.ensures.reads.turns c.in_ok-found.ensures.reads.turns c.in_err-write_held.ensures.turns

pub returns-clause-turns : goal.returns-clause-turns
returns-clause-turns g c =
    let a = c.args in
    let i = c.in_ok-inode.inode in
    let n = c.in_ok-found.found in
    let held = c.held_before-held.result in
    let zones = c.find_row.new.zones in
    let few : held ≤ n = search rules in
    let room : n ≤ length zones = search rules in
    let some : (k : ℕ) → k < held → slice_index (take n zones) k ≢ 0 = search rules in
    turns_three _ g.met.B.Blocks.lawful _ _ _ _ _ _ _ _
    (λ d x y f p q r. first_written a.geometry.now d x y f a.number a.at (take c.min-count-2.result a.bytes.now) p.0 q.0
    (r a.number (row_held a.geometry.now d x y a.number (a.at / a.geometry.now.block_size) n held i zones p.0 q.0 p.1 q.1 few room some)))
    c.in_ok-inode.ensures.reads.turns c.in_ok-found.ensures.reads.turns c.in_ok-write_held.ensures.turns
