-- What a note adds to the marks.
use Rattle.std.proofs.Common.{◌≡◌, ℕ, zero, suc, ◌<◌, arith, get_or, length, List, [], ◌∷◌, ◌++◌, Bool, true, false, cond, refl, sym, ◌∙◌, ap}
use Rattle.std.specs.Prelude.{Some, None, slice_get}
use Rattle.message.specs.declared.Incoming.{Incoming}
use Rattle.message.specs.declared.Incoming.TheVariants as incoming
use Rattle.records.specs.Marks.{Mark, Answered}
use Rattle.records.specs.Open.{counts}
use Rattle.records.specs.Told.{Told, Received, received, heard, took_end}
use Rattle.schedule.specs.Groups.{Group}
use Rattle.schedule.specs.Noted.{Noted, marks_from, marks_in, grouped, with_mark, with_message, all_noted, with_entry, with_end, noted_of, nothing_noted}
use Rattle.schedule.specs.Posts.{post_of, posts_with, posts_in}
use Rattle.schedule.specs.declared.log.Post.{Post}
use Rattle.schedule.specs.declared.log.LogEntry.{LogEntry}
use Rattle.schedule.specs.declared.log.LogEntry.TheVariants as entry

pub all_push : (entries : List LogEntry) (e : LogEntry) (n : Noted) → all_noted (entries ++ e ∷ []) n ≡ with_entry e (all_noted entries n)
all_push [] e n = refl
all_push (x ∷ entries) e n = all_push entries e (with_entry x n)

grouped_marks : (m : Mark) (groups : List Group) (first : List Mark) (n : Noted) → n.groups ≡ groups → n.first ≡ first
    → marks_in (grouped m groups first n) ≡ m ∷ marks_from groups first
grouped_marks m [] first n e f = ap (λ (l : List Group). marks_from l (m ∷ first)) e
grouped_marks m (g ∷ groups) first n e f = ap (λ (l : List Mark). m ∷ (g.1 ++ marks_from groups l)) f

pub mark_in : (m : Mark) (n : Noted) → marks_in (with_mark m n) ≡ m ∷ marks_in n
mark_in m n = grouped_marks m n.groups n.first n refl refl

pub message_in : (m : Incoming) (n : Noted) → marks_in (with_message m n) ≡ received m (marks_in n)
message_in (incoming.Reply a) n = by (counts (marks_in n) a) where
  by : (b : Bool) → marks_in (cond b (with_mark (Answered a) n) n) ≡ cond b (Answered a ∷ marks_in n) (marks_in n)
  by true = mark_in (Answered a) n
  by false = refl
message_in (incoming.Started e) n = mark_in _ n
message_in incoming.GaveUp n = mark_in _ n
message_in incoming.Flush n = mark_in _ n
message_in incoming.End n = refl

-- a note, where there is room: the link hasn't ended
pub said_push : (over : Bool) (entries new : List LogEntry) (e : LogEntry) → over ≡ false → new ≡ entries ++ e ∷ []
    → noted_of over new ≡ with_entry e (noted_of over entries)
said_push true entries new e live is = cc
said_push false entries new e live is = ap (λ (l : List LogEntry). all_noted l nothing_noted) is ∙ all_push entries e nothing_noted

heard_twice : (told : List Told) → heard incoming.End (heard incoming.End told) ≡ heard incoming.End told
heard_twice told = by (took_end told) refl where
  by : (b : Bool) → took_end told ≡ b → heard incoming.End (cond b told (Received incoming.End ∷ told)) ≡ cond b told (Received incoming.End ∷ told)
  by true e = ap (λ (x : Bool). cond x told (Received incoming.End ∷ told)) e
  by false e = refl

pub said_end : (over : Bool) (entries : List LogEntry) → noted_of true entries ≡ with_end (noted_of over entries)
said_end false entries = refl
said_end true entries = let n = all_noted entries nothing_noted in
    ap (λ (h : List Told). record n { history = h }) (sym (heard_twice n.history))

-- there is room only before the end
pub has_room : (over : Bool) (room : ℕ) → 0 < cond over 0 room → over ≡ false
has_room true room some = absurd (omega arith)
has_room false room some = refl

assoc : (xs ys zs : List Post) → (xs ++ ys) ++ zs ≡ xs ++ (ys ++ zs)
assoc [] ys zs = refl
assoc (x ∷ xs) ys zs = ap (λ (l : List Post). x ∷ l) (assoc xs ys zs)

none_after : (xs : List Post) → xs ++ [] ≡ xs
none_after [] = refl
none_after (x ∷ xs) = ap (λ (l : List Post). x ∷ l) (none_after xs)

-- a note adds the accepted post that it is, if it is one
pub one_more : (e : LogEntry) (posts : List Post) → posts_with e posts ≡ posts ++ post_of e
one_more (entry.Posted to r true) posts = refl
one_more (entry.Posted to r false) posts = sym (none_after posts)
one_more (entry.Begun event) posts = sym (none_after posts)
one_more (entry.Complained e is_fault) posts = sym (none_after posts)
one_more (entry.Received m) posts = sym (none_after posts)
one_more (entry.Handed m) posts = sym (none_after posts)
one_more (entry.Faulted e cause) posts = sym (none_after posts)
one_more (entry.Took who now call reply) posts = sym (none_after posts)

posts_noted : (entries : List LogEntry) (n : Noted) → (all_noted entries n).posts ≡ n.posts ++ posts_in entries
posts_noted [] n = sym (none_after n.posts)
posts_noted (e ∷ entries) n =
    posts_noted entries (with_entry e n) ∙ ap (λ (l : List Post). l ++ posts_in entries) (one_more e n.posts) ∙ assoc n.posts (post_of e) (posts_in entries)

-- the accepted posts are those that were listed
pub posts_said : (over : Bool) (entries : List LogEntry) (posts : List Post) → posts ≡ posts_in entries → (noted_of over entries).posts ≡ posts
posts_said false entries posts listed = posts_noted entries nothing_noted ∙ sym listed
posts_said true entries posts listed = posts_noted entries nothing_noted ∙ sym listed

-- a list has what stands there, and nothing past its end
pub post_there : (posts : List Post) (n : ℕ) (x : Post) → n < length posts → x ≡ get_or posts n x → Some x ≡ slice_get posts n
post_there [] n x low is = absurd (omega arith)
post_there (p ∷ posts) zero x low is = ap (λ (q : Post). Some q) is
post_there (p ∷ posts) (suc n) x low is = post_there posts n x (omega (arith, low)) is

pub post_past : (posts : List Post) (n : ℕ) → (n < length posts → ⊥) → None ≡ slice_get posts n
post_past [] n past = refl
post_past (p ∷ posts) zero past = absurd (past (omega arith))
post_past (p ∷ posts) (suc n) past = post_past posts n (λ low. past (omega (arith, low)))
