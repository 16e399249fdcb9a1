-- What a run notes: what its link was told and gave, and its marks in groups.
use Rattle.std.specs.Prelude.{List, [], ◌∷◌, ◌++◌, Bool, true, false, if◌then◌else◌}
use Rattle.message.specs.declared.Incoming.{Incoming}
use Rattle.message.specs.declared.Incoming.TheVariants as incoming
use Rattle.tree.specs.Answers.{answer_of}
use Rattle.records.specs.Marks.{Mark, Started, Answered, Flush, GaveUp, Took, Issued, Fault}
use Rattle.records.specs.declared.marks.Cause.TheVariants.{Complaint}
use Rattle.records.specs.Open.{counts}
use Rattle.records.specs.Told.{Told, Posted, Complained, Received, heard}
use Rattle.schedule.specs.Groups.{Group}
use Rattle.schedule.specs.declared.log.Post.{Post}
use Rattle.schedule.specs.Posts.{posts_with}
use Rattle.schedule.specs.declared.log.LogEntry.{LogEntry}
use Rattle.schedule.specs.declared.log.LogEntry.TheVariants as entry

-- what the link was told and gave, newest first; the groups of the events so far, newest first; the marks before the first event; the
-- accepted posts, oldest first
pub record Noted : Type 0 where
  pub history : List Told
  pub groups : List Group
  pub first : List Mark
  pub posts : List Post

-- all marks
abbrev pub marks_from : List Group → List Mark → List Mark
marks_from [] first = first
marks_from (g ∷ groups) first = g.1 ++ marks_from groups first

abbrev pub marks_in : Noted → List Mark
marks_in n = marks_from n.groups n.first

-- a mark more
abbrev pub grouped : Mark → List Group → List Mark → Noted → Noted
grouped m [] first n = record n { first = m ∷ first }
grouped m (g ∷ groups) first n = record n { groups = (g.0, m ∷ g.1) ∷ groups }

abbrev pub with_mark : Mark → Noted → Noted
with_mark m n = grouped m n.groups n.first n

-- the mark of a message, if it leaves one
abbrev pub with_message : Incoming → Noted → Noted
with_message (incoming.Reply a) n = if counts (marks_in n) a then with_mark (Answered a) n else n
with_message (incoming.Started e) n = with_mark (Started e) n
with_message incoming.GaveUp n = with_mark GaveUp n
with_message incoming.Flush n = with_mark Flush n
with_message incoming.End n = n

abbrev pub with_told : Told → Noted → Noted
with_told t n = record n { history = t ∷ n.history }

abbrev pub with_end : Noted → Noted
with_end n = record n { history = heard incoming.End n.history }

-- what a note says of the link and of the marks
abbrev pub with_note : LogEntry → Noted → Noted
with_note (entry.Begun event) n = record n { groups = (event, []) ∷ n.groups }
with_note (entry.Posted to r true) n = with_told (Posted to r true) (with_mark (Issued r to) n)
with_note (entry.Posted to r false) n = with_told (Posted to r false) n
with_note (entry.Complained e true) n = with_told (Complained e) (with_mark (Fault e Complaint) n)
with_note (entry.Complained e false) n = with_told (Complained e) n
with_note (entry.Received m) n = with_told (Received m) (with_message m n)
with_note (entry.Handed m) n = with_message m n
with_note (entry.Faulted e cause) n = with_mark (Fault e cause) n
with_note (entry.Took who now call reply) n = with_mark (Took who now call (answer_of reply)) n

-- one note
abbrev pub with_entry : LogEntry → Noted → Noted
with_entry e n = record (with_note e n) { posts = posts_with e n.posts }

-- all notes, oldest first
abbrev pub all_noted : List LogEntry → Noted → Noted
all_noted [] n = n
all_noted (e ∷ entries) n = all_noted entries (with_entry e n)

abbrev pub nothing_noted : Noted
nothing_noted = record { history = []; groups = []; first = []; posts = [] }

-- what the log says; with the End where the link has ended
abbrev pub noted_of : Bool → List LogEntry → Noted
noted_of false entries = all_noted entries nothing_noted
noted_of true entries = with_end (all_noted entries nothing_noted)
