use Rattle.std.proofs.Common.{◌≡◌, ◌<◌, ◌+◌, ◌*◌, ◌/◌, ◌%◌, ◌-◌, ℕ, drop, sym, ap, ◌∙◌, arith}
use Rattle.std.specs.Prelude.{nat_lt}
use Rattle.std.proofs.lemmas.Bool.{cond-true, lt-ltb}
use Rattle.std.proofs.lemmas.List.{get_or-take, get_or-drop}
use Rattle.volume.specs.Nodes.{file_byte, page_byte, page_zone}
use Rattle.image.specs.Contents.{contents}
use Rattle.fsck.proofs.entries.raw_entry.Goals as goal

pub returns-clause-bytes : goal.returns-clause-bytes
returns-clause-bytes c = λ a h.
    let i = c.args.image.now in
    let x = c.args.inode.now in
    let g = i.geometry in
    let v = contents i in
    let n = c.args.number in
    let at : ℕ = 16 * (n % 4) in
    let p : ℕ = 16 * n + a in
    let there = c.requires.there in
    let low : p < x.size = omega arith in
    let far : p < 4294967295 = let s = c.requires.small in omega arith in
    let part : a < at + 16 - at = omega arith in
    let place : 64 * (n / 4) + (at + a) ≡ p = omega arith in
    let byte : ℕ = page_byte v (page_zone g v x (p / g.block_size)) (p % g.block_size) in
    get_or-take (at + 16 - at) (drop at c.entry-four.result.now) a 0 part ∙ get_or-drop at c.entry-four.result.now a 0
    ∙ c.entry-four.ensures.bytes (at + a) (omega arith)
    ∙ ap (file_byte g v (record x { size = 4294967295 })) place
    ∙ cond-true (nat_lt p 4294967295) byte 0 (lt-ltb p 4294967295 far)
    ∙ sym (cond-true (nat_lt p x.size) byte 0 (lt-ltb p x.size low))
