use Rattle.std.proofs.Common.{length, sym, ap, ◌∙◌}
use Rattle.fuse.specs.Replies.{reply_bytes}
use Rattle.fuse.proofs.ReplyLaws.{init_length, entry_length, told_length, opened_length, created_length, written_length, room_length}
use Rattle.fuse.proofs.writing.reply_len.Goals as goal

pub returns-in-Init-clause-exact : goal.returns-in-Init-clause-exact
returns-in-Init-clause-exact c = sym (ap (λ r. length (reply_bytes r)) c.in-Init.is ∙ init_length c.in-Init.settled)

pub returns-in-Entry-clause-exact : goal.returns-in-Entry-clause-exact
returns-in-Entry-clause-exact c = sym (ap (λ r. length (reply_bytes r)) c.in-Entry.is ∙ entry_length c.in-Entry.entry)

pub returns-in-Attributes-clause-exact : goal.returns-in-Attributes-clause-exact
returns-in-Attributes-clause-exact c =
    sym (ap (λ r. length (reply_bytes r)) c.in-Attributes.is ∙ told_length c.in-Attributes.valid c.in-Attributes.attributes)

pub returns-in-Open-clause-exact : goal.returns-in-Open-clause-exact
returns-in-Open-clause-exact c = sym (ap (λ r. length (reply_bytes r)) c.in-Open.is ∙ opened_length c.in-Open.opened)

pub returns-in-Create-clause-exact : goal.returns-in-Create-clause-exact
returns-in-Create-clause-exact c =
    sym (ap (λ r. length (reply_bytes r)) c.in-Create.is ∙ created_length c.in-Create.entry c.in-Create.opened)

pub returns-in-Write-clause-exact : goal.returns-in-Write-clause-exact
returns-in-Write-clause-exact c = sym (ap (λ r. length (reply_bytes r)) c.in-Write.is ∙ written_length c.in-Write.count)

pub returns-in-Statfs-clause-exact : goal.returns-in-Statfs-clause-exact
returns-in-Statfs-clause-exact c = sym (ap (λ r. length (reply_bytes r)) c.in-Statfs.is ∙ room_length c.in-Statfs.room)
