-- The requests that drivers accepted, among the notes of a run.
use Rattle.std.specs.Prelude.{List, [], ◌∷◌, ◌++◌, true, false}
use Rattle.schedule.specs.declared.log.LogEntry.{LogEntry}
use Rattle.schedule.specs.declared.log.LogEntry.TheVariants as entry
use Rattle.schedule.specs.declared.log.Post.{Post}

-- the accepted post that a note is, if it is one
abbrev pub post_of : LogEntry → List Post
post_of (entry.Posted to r true) = record { to = to; request = r } ∷ []
post_of (entry.Posted to r false) = []
post_of (entry.Begun event) = []
post_of (entry.Complained e is_fault) = []
post_of (entry.Received m) = []
post_of (entry.Handed m) = []
post_of (entry.Faulted e cause) = []
post_of (entry.Took who now call reply) = []

-- the accepted posts after a note, those before it first
abbrev pub posts_with : LogEntry → List Post → List Post
posts_with (entry.Posted to r true) posts = posts ++ record { to = to; request = r } ∷ []
posts_with (entry.Posted to r false) posts = posts
posts_with (entry.Begun event) posts = posts
posts_with (entry.Complained e is_fault) posts = posts
posts_with (entry.Received m) posts = posts
posts_with (entry.Handed m) posts = posts
posts_with (entry.Faulted e cause) posts = posts
posts_with (entry.Took who now call reply) posts = posts

-- those among these notes, in their order
abbrev pub posts_in : List LogEntry → List Post
posts_in [] = []
posts_in (e ∷ entries) = post_of e ++ posts_in entries
