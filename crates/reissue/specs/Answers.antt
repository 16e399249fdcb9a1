-- What an answer did to the table, as an answer of `absorb` and as a complaint.
use Rattle.std.specs.Prelude.{ℕ, List, [], ◌∷◌, Bool, true, false, Option, Some, None, if◌then◌else◌}
use Rattle.message.specs.declared.endpoint.Endpoint.{Endpoint}
use Rattle.message.specs.declared.BlockReply.{BlockReply}
use Rattle.records.specs.Told.{Told, Complained}
use Rattle.reissue.specs.declared.table.AnswerEffect.{AnswerEffect}
use Rattle.reissue.specs.declared.table.AnswerEffect.TheVariants as answer
use Rattle.reissue.specs.Settlements.{Settlement}
use Rattle.reissue.specs.Settlements as settled

-- the answer counts and isn't good
abbrev pub is_bad : AnswerEffect → Bool
is_bad answer.Bad = true
is_bad answer.Dropped = false
is_bad answer.Rest = false
is_bad (answer.Read t) = false
is_bad (answer.Written t) = false

-- what is settled by it, with the bytes that it leaves where the caller had room
abbrev pub settled_of : AnswerEffect → List ℕ → Settlement
settled_of answer.Dropped bytes = settled.Nothing
settled_of answer.Rest bytes = settled.Nothing
settled_of answer.Bad bytes = settled.Nothing
settled_of (answer.Read t) bytes = settled.Read t bytes
settled_of (answer.Written t) bytes = settled.Written t

-- the complaint about its driver, where it isn't good
abbrev pub complained : AnswerEffect → BlockReply → List Told
complained result a = if is_bad result then Complained a.from ∷ [] else []

-- the complaint about this endpoint, if one is due
abbrev pub complaints_about : Option Endpoint → List Told
complaints_about None = []
complaints_about (Some e) = Complained e ∷ []
