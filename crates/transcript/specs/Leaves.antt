-- The mark that a note leaves.
use Rattle.std.specs.Prelude.{◌≡◌, List, ◌∷◌, Option, Some, None}
use Rattle.records.specs.Marks.{Mark}
use Rattle.reply_text.specs.TranscriptText.{mark_of}
use Rattle.reply_text.specs.declared.mark.MarkRef.{MarkRef}
use Rattle.trace_digest.specs.declared.TraceDigest.{TraceDigest}
use Rattle.trace_digest.specs.Heard.{IsHeard}

-- the record with a mark more, or as it was
abbrev pub with_ref : Option MarkRef → List Mark → List Mark
with_ref None marks = marks
with_ref (Some m) marks = mark_of m ∷ marks

-- the record has this mark more, or none more, and what is kept is what it says then
pub record Leaves (h : TraceDigest) (marks more : List Mark) (left : Option MarkRef) : Type 0 where
  pub is : more ≡ with_ref left marks
  pub heard : IsHeard h more
