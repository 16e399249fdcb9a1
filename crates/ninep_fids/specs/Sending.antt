-- Replies that can be written.
use Rattle.std.specs.Prelude.{◌≡◌, ℕ, List}
use Rattle.std.specs.List.{AllByRecursion}
use Rattle.ninep.specs.Fields.{Field, Fits}
use Rattle.ninep.specs.Replies.{number_of, reply_fields}
use Rattle.ninep.specs.declared.reply.Reply.{Reply}

-- a reply of this type with these fields, which all fit
abbrev pub IsSent : ℕ → List Field → Reply → Type 0
IsSent number fields r = (number_of r ≡ number) × (reply_fields r ≡ fields) × AllByRecursion Fits fields
