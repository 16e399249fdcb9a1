use Rattle.std.proofs.Common.{ap, sym, refl, Ok, w64, to_z, of_z, rules}
use mir.Val.{SFits}
use Rattle.std.proofs.lemmas.Int.{to_z-of_z}
use Rattle.tree.specs.declared.User.{User}
use Rattle.tree.specs.declared.Call.TheVariants.{Open, Rename, Mkdir, Link, Truncate, Write, Close, Unlink, Rmdir, Dup, Read, Seek, Stat, Fstat, Chmod, Chown, Utime, Readdir, Sync, Statfs, Symlink, Readlink, Lstat}
use Rattle.tree.specs.NodeCalls.{truncate, stat, lstat, readlink, chmod, chown, utime, statfs}
use Rattle.tree.specs.FileCalls.{open_path, write, close, dup, read, seek, fstat, readdir}
use Rattle.tree.specs.NameCalls.{mkdir, symlink, rename, link, unlink, rmdir}
use Rattle.tree.specs.Answers.{done}
use Rattle.tree.specs.Flags.{creates, truncates}
use Rattle.descriptors.specs.Table.{files_of}
use Rattle.block_store.proofs.Turns.{turns_none, turns_as}
use Rattle.client_calls.proofs.Effects.{call_late, kind_meets, kind_meets_or_lacks}
use Rattle.client_calls.proofs.Looking.{it_changes, it_looks, kind_is, kind_looks, no_empty, no_make}
use Rattle.client_calls.proofs.calls.perform.Goals as goal

pub returns-then-who-ge-MAX_SESSIONS-clause-turns : goal.returns-then-who-ge-MAX_SESSIONS-clause-turns
returns-then-who-ge-MAX_SESSIONS-clause-turns g c =
    let a = c.args in
    turns_as _ _ _ _ _ (λ d e same. call_late a.geometry.now a.who a.now a.call.now (files_of a.opens.now) d e c.if-who-ge-MAX_SESSIONS.true same)
    (turns_none _ g.met.B.Blocks.lawful _ c.requires.on.ready)

pub returns-in-Dup-clause-turns : goal.returns-in-Dup-clause-turns
returns-in-Dup-clause-turns g c =
    let a = c.args in let f = files_of a.opens.now in let w = c.in-Dup in let early = c.if-who-ge-MAX_SESSIONS.false in
    let h = files_of c.dup.new.opens in
    turns_as _ _ _ _ _ (λ d e same. kind_meets a.geometry.now a.who a.now (Dup w.fd) early (λ t. dup t a.who.session w.fd) (λ t. refl) a.call.now w.is (Ok tt) c.dup.new.reply f h d e
    (c.dup.ensures.does a.geometry.now d e same))
    (turns_none _ g.met.B.Blocks.lawful _ c.requires.on.ready)

pub returns-in-Read-clause-turns : goal.returns-in-Read-clause-turns
returns-in-Read-clause-turns g c =
    let a = c.args in let f = files_of a.opens.now in let w = c.in-Read in let early = c.if-who-ge-MAX_SESSIONS.false in
    turns_as _ _ _ _ _ (λ d e x. kind_meets_or_lacks a.geometry.now a.who a.now (Read w.fd w.count) early (λ t. read t a.who.session w.fd w.count)
    (λ t. refl) a.call.now w.is refl c.read.result c.read.new.reply f (files_of c.read.new.opens) d e x)
    c.read.ensures.turns

pub returns-in-Seek-clause-turns : goal.returns-in-Seek-clause-turns
returns-in-Seek-clause-turns g c =
    let a = c.args in let f = files_of a.opens.now in let w = c.in-Seek in let early = c.if-who-ge-MAX_SESSIONS.false in
    let fits : SFits w64 w.offset = search rules in
    turns_as _ _ _ _ _ (λ d e x. kind_meets a.geometry.now a.who a.now (Seek w.fd w.whence w.offset) early (λ t. seek t a.who.session w.fd w.whence (to_z w64 (of_z w64 w.offset)))
    (λ t. ap (λ z. seek t a.who.session w.fd w.whence z) (sym (to_z-of_z w64 w.offset fits))) a.call.now w.is c.seek.result c.seek.new.reply f (files_of c.seek.new.opens) d e x)
    c.seek.ensures.turns

pub returns-in-Stat-clause-turns : goal.returns-in-Stat-clause-turns
returns-in-Stat-clause-turns g c =
    let a = c.args in let f = files_of a.opens.now in let w = c.in-Stat in let early = c.if-who-ge-MAX_SESSIONS.false in
    turns_as _ _ _ _ _ (λ d e x. kind_meets a.geometry.now a.who a.now (Stat w.path) early (λ t. stat t c.user_of-user.result w.path)
    (λ t. ap (λ (u : User). stat t u w.path) (sym c.user_of-user.ensures)) a.call.now w.is c.stat.result c.stat.new.reply f f d e (x f))
    c.stat.ensures.turns

pub returns-in-Fstat-clause-turns : goal.returns-in-Fstat-clause-turns
returns-in-Fstat-clause-turns g c =
    let a = c.args in let f = files_of a.opens.now in let w = c.in-Fstat in let early = c.if-who-ge-MAX_SESSIONS.false in
    turns_as _ _ _ _ _ (λ d e x. kind_meets a.geometry.now a.who a.now (Fstat w.fd) early (λ t. fstat t a.who.session w.fd)
    (λ t. refl) a.call.now w.is c.fstat.result c.fstat.new.reply f f d e x)
    c.fstat.ensures.turns

pub returns-in-Chmod-clause-turns : goal.returns-in-Chmod-clause-turns
returns-in-Chmod-clause-turns g c =
    let a = c.args in let f = files_of a.opens.now in let w = c.in-Chmod in let early = c.if-who-ge-MAX_SESSIONS.false in
    turns_as _ _ _ _ _ (λ d e x. kind_meets a.geometry.now a.who a.now (Chmod w.path w.mode) early (λ t. chmod t c.user_of-user.result a.now w.path w.mode)
    (λ t. ap (λ (u : User). chmod t u a.now w.path w.mode) (sym c.user_of-user.ensures)) a.call.now w.is c.chmod.result c.chmod.new.reply f f d e (x f))
    c.chmod.ensures.turns

pub returns-in-Chown-clause-turns : goal.returns-in-Chown-clause-turns
returns-in-Chown-clause-turns g c =
    let a = c.args in let f = files_of a.opens.now in let w = c.in-Chown in let early = c.if-who-ge-MAX_SESSIONS.false in
    turns_as _ _ _ _ _ (λ d e x. kind_meets a.geometry.now a.who a.now (Chown w.path w.uid w.gid) early (λ t. chown t c.user_of-user.result a.now w.path w.uid w.gid)
    (λ t. ap (λ (u : User). chown t u a.now w.path w.uid w.gid) (sym c.user_of-user.ensures)) a.call.now w.is c.chown.result c.chown.new.reply f f d e (x f))
    c.chown.ensures.turns

pub returns-in-Utime-clause-turns : goal.returns-in-Utime-clause-turns
returns-in-Utime-clause-turns g c =
    let a = c.args in let f = files_of a.opens.now in let w = c.in-Utime in let early = c.if-who-ge-MAX_SESSIONS.false in
    turns_as _ _ _ _ _ (λ d e x. kind_meets a.geometry.now a.who a.now (Utime w.path w.atime w.mtime) early (λ t. utime t c.user_of-user.result a.now w.path w.atime w.mtime)
    (λ t. ap (λ (u : User). utime t u a.now w.path w.atime w.mtime) (sym c.user_of-user.ensures)) a.call.now w.is c.utime.result c.utime.new.reply f f d e (x f))
    c.utime.ensures.turns

pub returns-in-Readdir-clause-turns : goal.returns-in-Readdir-clause-turns
returns-in-Readdir-clause-turns g c =
    let a = c.args in let f = files_of a.opens.now in let w = c.in-Readdir in let early = c.if-who-ge-MAX_SESSIONS.false in
    turns_as _ _ _ _ _ (λ d e x. kind_meets_or_lacks a.geometry.now a.who a.now (Readdir w.fd) early (λ t. readdir t a.who.session w.fd)
    (λ t. refl) a.call.now w.is refl c.readdir.result c.readdir.new.reply f f d e x)
    c.readdir.ensures.turns

pub returns-in-Sync-clause-turns : goal.returns-in-Sync-clause-turns
returns-in-Sync-clause-turns g c =
    let a = c.args in let f = files_of a.opens.now in let w = c.in-Sync in let early = c.if-who-ge-MAX_SESSIONS.false in
    turns_as _ _ _ _ _ (λ d e x. kind_meets a.geometry.now a.who a.now Sync early (λ t. Ok (done, t))
    (λ t. refl) a.call.now w.is c.sync.result c.sync.new.reply f f d e (x f))
    c.sync.ensures.turns

pub returns-in-Statfs-clause-turns : goal.returns-in-Statfs-clause-turns
returns-in-Statfs-clause-turns g c =
    let a = c.args in let f = files_of a.opens.now in let w = c.in-Statfs in let early = c.if-who-ge-MAX_SESSIONS.false in
    turns_as _ _ _ _ _ (λ d e x. kind_meets a.geometry.now a.who a.now Statfs early (λ t. statfs a.geometry.now t)
    (λ t. refl) a.call.now w.is c.statfs.result c.statfs.new.reply f f d e (x f))
    c.statfs.ensures.turns

pub returns-in-Close-clause-turns : goal.returns-in-Close-clause-turns
returns-in-Close-clause-turns g c =
    let a = c.args in let f = files_of a.opens.now in let w = c.in-Close in let early = c.if-who-ge-MAX_SESSIONS.false in
    turns_as _ _ _ _ _ (λ d e x. kind_meets a.geometry.now a.who a.now (Close w.fd) early (λ t. close t a.who.session w.fd)
    (λ t. refl) a.call.now w.is c.close.result c.close.new.reply f (files_of c.close.new.opens) d e x)
    c.close.ensures.turns

pub returns-in-Unlink-clause-turns : goal.returns-in-Unlink-clause-turns
returns-in-Unlink-clause-turns g c =
    let a = c.args in let f = files_of a.opens.now in let w = c.in-Unlink in let early = c.if-who-ge-MAX_SESSIONS.false in
    turns_as _ _ _ _ _ (λ d e x. kind_meets a.geometry.now a.who a.now (Unlink w.path) early (λ t. unlink t c.user_of-user.result a.now w.path)
    (λ t. ap (λ (u : User). unlink t u a.now w.path) (sym c.user_of-user.ensures)) a.call.now w.is c.unlink.result c.unlink.new.reply f f d e x)
    c.unlink.ensures.turns

pub returns-in-Rmdir-clause-turns : goal.returns-in-Rmdir-clause-turns
returns-in-Rmdir-clause-turns g c =
    let a = c.args in let f = files_of a.opens.now in let w = c.in-Rmdir in let early = c.if-who-ge-MAX_SESSIONS.false in
    turns_as _ _ _ _ _ (λ d e x. kind_meets a.geometry.now a.who a.now (Rmdir w.path) early (λ t. rmdir t c.user_of-user.result a.now w.path)
    (λ t. ap (λ (u : User). rmdir t u a.now w.path) (sym c.user_of-user.ensures)) a.call.now w.is c.rmdir.result c.rmdir.new.reply f f d e x)
    c.rmdir.ensures.turns

pub returns-in-Write-clause-turns : goal.returns-in-Write-clause-turns
returns-in-Write-clause-turns g c =
    let a = c.args in let f = files_of a.opens.now in let w = c.in-Write in let early = c.if-who-ge-MAX_SESSIONS.false in
    turns_as _ _ _ _ _ (λ d e x. kind_meets a.geometry.now a.who a.now (Write w.fd w.bytes) early (λ t. write a.geometry.now t a.now a.who.session w.fd w.bytes.now)
    (λ t. refl) a.call.now w.is c.write.result c.write.new.reply f (files_of c.write.new.opens) d e x)
    c.write.ensures.turns

pub returns-in-Truncate-clause-turns : goal.returns-in-Truncate-clause-turns
returns-in-Truncate-clause-turns g c =
    let a = c.args in let f = files_of a.opens.now in let w = c.in-Truncate in let early = c.if-who-ge-MAX_SESSIONS.false in
    turns_as _ _ _ _ _ (λ d e x. kind_meets a.geometry.now a.who a.now (Truncate w.path w.size) early (λ t. truncate a.geometry.now t c.user_of-user.result a.now w.path w.size)
    (λ t. ap (λ (u : User). truncate a.geometry.now t u a.now w.path w.size) (sym c.user_of-user.ensures)) a.call.now w.is c.truncate.result c.truncate.new.reply f f d e (x f))
    c.truncate.ensures.turns

pub returns-in-Link-clause-turns : goal.returns-in-Link-clause-turns
returns-in-Link-clause-turns g c =
    let a = c.args in let f = files_of a.opens.now in let w = c.in-Link in let early = c.if-who-ge-MAX_SESSIONS.false in
    turns_as _ _ _ _ _ (λ d e x. kind_meets a.geometry.now a.who a.now (Link w.old w.new) early (λ t. link a.geometry.now t c.user_of-user.result a.now w.old w.new)
    (λ t. ap (λ (u : User). link a.geometry.now t u a.now w.old w.new) (sym c.user_of-user.ensures)) a.call.now w.is c.link.result c.link.new.reply f f d e (x f))
    c.link.ensures.turns

pub returns-in-Mkdir-clause-turns : goal.returns-in-Mkdir-clause-turns
returns-in-Mkdir-clause-turns g c =
    let a = c.args in let f = files_of a.opens.now in let w = c.in-Mkdir in let early = c.if-who-ge-MAX_SESSIONS.false in
    turns_as _ _ _ _ _ (λ d e x. kind_meets a.geometry.now a.who a.now (Mkdir w.path w.mode) early (λ t. mkdir a.geometry.now t c.user_of-user.result a.now w.path w.mode)
    (λ t. ap (λ (u : User). mkdir a.geometry.now t u a.now w.path w.mode) (sym c.user_of-user.ensures)) a.call.now w.is c.mkdir.result c.mkdir.new.reply f f d e (x f))
    c.mkdir.ensures.turns

pub returns-in-Open-clause-turns : goal.returns-in-Open-clause-turns
returns-in-Open-clause-turns g c =
    let a = c.args in let f = files_of a.opens.now in let w = c.in-Open in let early = c.if-who-ge-MAX_SESSIONS.false in
    turns_as _ _ _ _ _ (λ d e x. kind_meets a.geometry.now a.who a.now (Open w.path w.flags w.mode) early
    (λ t. open_path a.geometry.now t c.user_of-user.result a.now a.who.session w.path w.flags.0 w.mode)
    (λ t. ap (λ (u : User). open_path a.geometry.now t u a.now a.who.session w.path w.flags.0 w.mode) (sym c.user_of-user.ensures)) a.call.now w.is c.open.result c.open.new.reply f
    (files_of c.open.new.opens) d e x)
    c.open.ensures.turns

pub returns-in-Rename-clause-turns : goal.returns-in-Rename-clause-turns
returns-in-Rename-clause-turns g c =
    let a = c.args in let f = files_of a.opens.now in let w = c.in-Rename in let early = c.if-who-ge-MAX_SESSIONS.false in
    turns_as _ _ _ _ _ (λ d e x. kind_meets a.geometry.now a.who a.now (Rename w.old w.new) early
    (λ t. rename a.geometry.now t c.user_of-user.result a.now w.old w.new)
    (λ t. ap (λ (u : User). rename a.geometry.now t u a.now w.old w.new) (sym c.user_of-user.ensures)) a.call.now w.is c.rename.result c.rename.new.reply f f d e x)
    c.rename.ensures.turns

pub returns-in-Symlink-clause-turns : goal.returns-in-Symlink-clause-turns
returns-in-Symlink-clause-turns g c =
    let a = c.args in let f = files_of a.opens.now in let w = c.in-Symlink in let early = c.if-who-ge-MAX_SESSIONS.false in
    turns_as _ _ _ _ _ (λ d e x. kind_meets a.geometry.now a.who a.now (Symlink w.target w.path) early
    (λ t. symlink a.geometry.now t c.user_of-user.result a.now w.target.now w.path)
    (λ t. ap (λ (u : User). symlink a.geometry.now t u a.now w.target.now w.path) (sym c.user_of-user.ensures))
    a.call.now w.is c.symlink.result c.symlink.new.reply f f d e (x f))
    c.symlink.ensures.turns

pub returns-in-Readlink-clause-turns : goal.returns-in-Readlink-clause-turns
returns-in-Readlink-clause-turns g c =
    let a = c.args in let f = files_of a.opens.now in let w = c.in-Readlink in let early = c.if-who-ge-MAX_SESSIONS.false in
    turns_as _ _ _ _ _ (λ d e x. kind_meets a.geometry.now a.who a.now (Readlink w.path) early
    (λ t. readlink t c.user_of-user.result w.path)
    (λ t. ap (λ (u : User). readlink t u w.path) (sym c.user_of-user.ensures)) a.call.now w.is c.readlink.result c.readlink.new.reply f f d e (x f))
    c.readlink.ensures.turns

pub returns-in-Lstat-clause-turns : goal.returns-in-Lstat-clause-turns
returns-in-Lstat-clause-turns g c =
    let a = c.args in let f = files_of a.opens.now in let w = c.in-Lstat in let early = c.if-who-ge-MAX_SESSIONS.false in
    turns_as _ _ _ _ _ (λ d e x. kind_meets a.geometry.now a.who a.now (Lstat w.path) early (λ t. lstat t c.user_of-user.result w.path)
    (λ t. ap (λ (u : User). lstat t u w.path) (sym c.user_of-user.ensures)) a.call.now w.is c.lstat.result c.lstat.new.reply f f d e (x f))
    c.lstat.ensures.turns

pub returns-in-Open-clause-looks : goal.returns-in-Open-clause-looks
returns-in-Open-clause-looks g c =
    let a = c.args in let w = c.in-Open in
    kind_looks _ a.geometry.now a.who (files_of a.opens.now) _ _ a.call.now (Open w.path w.flags w.mode) w.is _ c.open.ensures.turns
    (λ t only. c.open.ensures.looks (no_make (creates w.flags.0) (truncates w.flags.0) only) (no_empty (creates w.flags.0) (truncates w.flags.0) only))

pub returns-in-Close-clause-looks : goal.returns-in-Close-clause-looks
returns-in-Close-clause-looks g c =
    let a = c.args in let w = c.in-Close in
    kind_is _ a.geometry.now a.who (files_of a.opens.now) _ _ a.call.now (Close w.fd) w.is c.close.ensures.looks

pub returns-in-Dup-clause-looks : goal.returns-in-Dup-clause-looks
returns-in-Dup-clause-looks g c =
    let a = c.args in let w = c.in-Dup in
    it_looks _ a.geometry.now a.who (files_of a.opens.now) _ _ a.call.now _ (turns_none _ g.met.B.Blocks.lawful _ c.requires.on.ready) (g.met.B.Blocks.lawful.look _)

pub returns-in-Read-clause-looks : goal.returns-in-Read-clause-looks
returns-in-Read-clause-looks g c =
    let a = c.args in let w = c.in-Read in
    it_looks _ a.geometry.now a.who (files_of a.opens.now) _ _ a.call.now _ c.read.ensures.turns c.read.ensures.looks

pub returns-in-Seek-clause-looks : goal.returns-in-Seek-clause-looks
returns-in-Seek-clause-looks g c =
    let a = c.args in let w = c.in-Seek in
    it_looks _ a.geometry.now a.who (files_of a.opens.now) _ _ a.call.now _ c.seek.ensures.turns c.seek.ensures.looks

pub returns-in-Stat-clause-looks : goal.returns-in-Stat-clause-looks
returns-in-Stat-clause-looks g c =
    let a = c.args in let w = c.in-Stat in
    it_looks _ a.geometry.now a.who (files_of a.opens.now) _ _ a.call.now _ c.stat.ensures.turns c.stat.ensures.looks

pub returns-in-Fstat-clause-looks : goal.returns-in-Fstat-clause-looks
returns-in-Fstat-clause-looks g c =
    let a = c.args in let w = c.in-Fstat in
    it_looks _ a.geometry.now a.who (files_of a.opens.now) _ _ a.call.now _ c.fstat.ensures.turns c.fstat.ensures.looks

pub returns-in-Unlink-clause-looks : goal.returns-in-Unlink-clause-looks
returns-in-Unlink-clause-looks g c =
    let a = c.args in let w = c.in-Unlink in
    kind_looks _ a.geometry.now a.who (files_of a.opens.now) _ _ a.call.now (Unlink w.path) w.is _ c.unlink.ensures.turns (λ t only. it_changes only)

pub returns-in-Rmdir-clause-looks : goal.returns-in-Rmdir-clause-looks
returns-in-Rmdir-clause-looks g c =
    let a = c.args in let w = c.in-Rmdir in
    kind_looks _ a.geometry.now a.who (files_of a.opens.now) _ _ a.call.now (Rmdir w.path) w.is _ c.rmdir.ensures.turns (λ t only. it_changes only)

pub returns-in-Chmod-clause-looks : goal.returns-in-Chmod-clause-looks
returns-in-Chmod-clause-looks g c =
    let a = c.args in let w = c.in-Chmod in
    kind_looks _ a.geometry.now a.who (files_of a.opens.now) _ _ a.call.now (Chmod w.path w.mode) w.is _ c.chmod.ensures.turns (λ t only. it_changes only)

pub returns-in-Chown-clause-looks : goal.returns-in-Chown-clause-looks
returns-in-Chown-clause-looks g c =
    let a = c.args in let w = c.in-Chown in
    kind_looks _ a.geometry.now a.who (files_of a.opens.now) _ _ a.call.now (Chown w.path w.uid w.gid) w.is _ c.chown.ensures.turns (λ t only. it_changes only)

pub returns-in-Utime-clause-looks : goal.returns-in-Utime-clause-looks
returns-in-Utime-clause-looks g c =
    let a = c.args in let w = c.in-Utime in
    kind_looks _ a.geometry.now a.who (files_of a.opens.now) _ _ a.call.now (Utime w.path w.atime w.mtime) w.is _ c.utime.ensures.turns (λ t only. it_changes only)

pub returns-in-Readdir-clause-looks : goal.returns-in-Readdir-clause-looks
returns-in-Readdir-clause-looks g c =
    let a = c.args in let w = c.in-Readdir in
    it_looks _ a.geometry.now a.who (files_of a.opens.now) _ _ a.call.now _ c.readdir.ensures.turns c.readdir.ensures.looks

pub returns-in-Sync-clause-looks : goal.returns-in-Sync-clause-looks
returns-in-Sync-clause-looks g c =
    let a = c.args in let w = c.in-Sync in
    kind_looks _ a.geometry.now a.who (files_of a.opens.now) _ _ a.call.now Sync w.is _ c.sync.ensures.turns (λ t only. it_changes only)

pub returns-in-Statfs-clause-looks : goal.returns-in-Statfs-clause-looks
returns-in-Statfs-clause-looks g c =
    let a = c.args in let w = c.in-Statfs in
    it_looks _ a.geometry.now a.who (files_of a.opens.now) _ _ a.call.now _ c.statfs.ensures.turns c.statfs.ensures.looks

pub returns-in-Write-clause-looks : goal.returns-in-Write-clause-looks
returns-in-Write-clause-looks g c =
    let a = c.args in let w = c.in-Write in
    kind_looks _ a.geometry.now a.who (files_of a.opens.now) _ _ a.call.now (Write w.fd w.bytes) w.is _ c.write.ensures.turns (λ t only. it_changes only)

pub returns-in-Truncate-clause-looks : goal.returns-in-Truncate-clause-looks
returns-in-Truncate-clause-looks g c =
    let a = c.args in let w = c.in-Truncate in
    kind_looks _ a.geometry.now a.who (files_of a.opens.now) _ _ a.call.now (Truncate w.path w.size) w.is _ c.truncate.ensures.turns (λ t only. it_changes only)

pub returns-in-Link-clause-looks : goal.returns-in-Link-clause-looks
returns-in-Link-clause-looks g c =
    let a = c.args in let w = c.in-Link in
    kind_looks _ a.geometry.now a.who (files_of a.opens.now) _ _ a.call.now (Link w.old w.new) w.is _ c.link.ensures.turns (λ t only. it_changes only)

pub returns-in-Mkdir-clause-looks : goal.returns-in-Mkdir-clause-looks
returns-in-Mkdir-clause-looks g c =
    let a = c.args in let w = c.in-Mkdir in
    kind_looks _ a.geometry.now a.who (files_of a.opens.now) _ _ a.call.now (Mkdir w.path w.mode) w.is _ c.mkdir.ensures.turns (λ t only. it_changes only)

pub returns-in-Rename-clause-looks : goal.returns-in-Rename-clause-looks
returns-in-Rename-clause-looks g c =
    let a = c.args in let w = c.in-Rename in
    kind_looks _ a.geometry.now a.who (files_of a.opens.now) _ _ a.call.now (Rename w.old w.new) w.is _ c.rename.ensures.turns (λ t only. it_changes only)

pub returns-in-Symlink-clause-looks : goal.returns-in-Symlink-clause-looks
returns-in-Symlink-clause-looks g c =
    let a = c.args in let w = c.in-Symlink in
    kind_looks _ a.geometry.now a.who (files_of a.opens.now) _ _ a.call.now (Symlink w.target w.path) w.is _ c.symlink.ensures.turns (λ t only. it_changes only)

pub returns-in-Readlink-clause-looks : goal.returns-in-Readlink-clause-looks
returns-in-Readlink-clause-looks g c =
    let a = c.args in let w = c.in-Readlink in
    it_looks _ a.geometry.now a.who (files_of a.opens.now) _ _ a.call.now _ c.readlink.ensures.turns c.readlink.ensures.looks

pub returns-in-Lstat-clause-looks : goal.returns-in-Lstat-clause-looks
returns-in-Lstat-clause-looks g c =
    let a = c.args in let w = c.in-Lstat in
    it_looks _ a.geometry.now a.who (files_of a.opens.now) _ _ a.call.now _ c.lstat.ensures.turns c.lstat.ensures.looks

pub returns-then-who-ge-MAX_SESSIONS-clause-looks : goal.returns-then-who-ge-MAX_SESSIONS-clause-looks
returns-then-who-ge-MAX_SESSIONS-clause-looks g c =
    let a = c.args in
    it_looks _ a.geometry.now a.who (files_of a.opens.now) _ _ a.call.now _ (turns_none _ g.met.B.Blocks.lawful _ c.requires.on.ready) (g.met.B.Blocks.lawful.look _)
