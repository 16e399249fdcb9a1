use Rattle.std.proofs.Common.{◌≡◌, length, refl, arith}
use Rattle.ninep_fids.proofs.EntryLaws.{entry_too_long, entry_put}
use Rattle.ninep_fids.proofs.entries.Entries.put.Goals as goal

pub returns-then-len-name-clause-told : goal.returns-then-len-name-clause-told
returns-then-len-name-clause-told c rest =
    let is : c.len.result ≡ length c.args.self.now.bytes.items = omega (arith, c.len.ensures, c.args.self.now.bytes.ok.0) in
    entry_too_long c.args.self.now c.args.inode c.args.next c.len.result c.args.name.now rest is c.if-len-name.true

pub returns-clause-told : goal.returns-clause-told
returns-clause-told c rest =
    let is : c.len.result ≡ length c.args.self.now.bytes.items = omega (arith, c.len.ensures, c.args.self.now.bytes.ok.0) in
    entry_put c.args.self.now (record { bytes = c.push_entry.new.out; limit = c.args.self.now.limit; full = c.args.self.now.full })
    c.args.inode c.args.next c.len.result c.from.result c.args.name.now rest c.if-self.false is c.if-len-name.false c.from.ensures
    c.in_ok-push_entry.ensures.ok refl refl
