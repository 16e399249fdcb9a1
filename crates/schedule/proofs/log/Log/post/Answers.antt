use Rattle.std.proofs.Common.{arith, ◌∙◌, ap, List, ℕ}
use Rattle.schedule.specs.KeptNotes.{post_at}
use Rattle.schedule.proofs.KeptLaws.{place_of_post, post_kept, no_post_kept}
use Rattle.schedule.proofs.log.Log.post.Goals as goal

pub post_of-requires : goal.post_of-requires
post_of-requires c = let l = c.args.self.now in
    rw c.as_slice.ensures.value (
    place_of_post _ _ l.notes.items l.posts.items c.args.n c.index.result.now l.within l.listed
    (omega (arith, c.len.ensures, c.if-n-len.true)) c.index.ensures
    )

pub returns-then-n-len : goal.returns-then-n-len
returns-then-n-len c = let l = c.args.self.now in
    post_kept l.over l.bytes.items l.replies.items l.notes.items l.posts.items c.args.n c.index.result.now c.post_of.result l.listed
    (omega (arith, c.len.ensures, c.if-n-len.true)) c.index.ensures
    (c.post_of.ensures ∙ ap (λ (b : List ℕ). post_at b c.index.result.now) c.as_slice.ensures.value)

pub returns-else-n-len : goal.returns-else-n-len
returns-else-n-len c = let l = c.args.self.now in
    no_post_kept l.over l.bytes.items l.replies.items l.notes.items l.posts.items c.args.n l.listed
    (λ low. omega (arith, low, c.len.ensures, c.if-n-len.false))
