-- What calls give, as plain results.
use Rattle.std.specs.Prelude.{ℕ, List, Result, Ok, Err, codes}
use Rattle.std.specs.Global.{Vec}
use Rattle.errno.specs.Errors.{errno_name}
use Rattle.tree.specs.declared.Attributes.{Attributes}
use Rattle.tree.specs.declared.Entry.{Entry}
use Rattle.tree.specs.declared.LinkTarget.{LinkTarget}
use Rattle.tree.specs.declared.Statfs.{Statfs}
use Rattle.tree.specs.declared.Outcome.{Outcome}
use Rattle.tree.specs.declared.Outcome.TheVariants as outcome
use Rattle.tree.specs.declared.Reply.TheVariants as reply
use Rattle.lecternowl.specs.declared.answers.CallError.{CallError}
use Rattle.lecternowl.specs.declared.answers.CallError.TheVariants.{Refused, Other, Cut}

-- why a call with this outcome gave no value
abbrev pub error_in : Outcome → CallError
error_in (outcome.Reply (reply.Refused errno)) = Refused errno
error_in (outcome.Reply other) = Other other
error_in outcome.Cut = Cut

-- that a call that has nothing to tell was done
abbrev pub done : Outcome → Result (Unit {0}) CallError
done (outcome.Reply reply.Done) = Ok tt
done other = Err (error_in other)

-- the descriptor that open or dup gave
abbrev pub opened : Outcome → Result ℕ CallError
opened (outcome.Reply (reply.Descriptor fd)) = Ok fd
opened other = Err (error_in other)

-- the bytes that were read
abbrev pub read : Outcome → Result (Vec ℕ) CallError
read (outcome.Reply (reply.Bytes bytes)) = Ok bytes
read other = Err (error_in other)

-- how many bytes were written
abbrev pub wrote : Outcome → Result ℕ CallError
wrote (outcome.Reply (reply.Wrote count)) = Ok count
wrote other = Err (error_in other)

-- the position after a seek
abbrev pub placed : Outcome → Result ℕ CallError
placed (outcome.Reply (reply.At position)) = Ok position
placed other = Err (error_in other)

-- the attributes of a node
abbrev pub described : Outcome → Result Attributes CallError
described (outcome.Reply (reply.Inode attributes)) = Ok attributes
described other = Err (error_in other)

-- the names of a directory
abbrev pub listed : Outcome → Result (Vec Entry) CallError
listed (outcome.Reply (reply.Names entries)) = Ok entries
listed other = Err (error_in other)

-- the sizes of the volume
abbrev pub measured : Outcome → Result Statfs CallError
measured (outcome.Reply (reply.Space room)) = Ok room
measured other = Err (error_in other)

-- the target of a symbolic link
abbrev pub followed : Outcome → Result LinkTarget CallError
followed (outcome.Reply (reply.Target target)) = Ok target
followed other = Err (error_in other)

-- the text of an error
abbrev pub call_error_text : CallError → List ℕ
call_error_text (Refused errno) = errno_name errno
call_error_text (Other reply) = codes "Other"
call_error_text Cut = codes "Cut"
