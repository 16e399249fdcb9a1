use Rattle.std.proofs.Common.{◌≡◌, ℕ, List, [], ◌∷◌, refl, sym, ap, ◌∙◌, subst, arith, Err}
use Rattle.std.specs.Prelude.{map}
use Rattle.std.proofs.lemmas.List.{map-append}
use Rattle.message.specs.Good.{is_write}
use Rattle.reissue.specs.Entries.{request_of}
use Rattle.cache.specs.Slots.{held}
use Rattle.cache.specs.Runs.{AreGathered}
use Rattle.cache.specs.Calls.{AbstractCache, caching, caching_of, Keeps}
use Rattle.cache.proofs.Edits.{leaves_none}
use Rattle.cache.proofs.Beginning.{longer, refusing, write_many, busy_begun}
use Rattle.cache.proofs.Placing.{keeps_none}
use Rattle.cache.proofs.cache.Cache.issue_run.Goals as goal

pub returns-in-Ok-clause-keeps : goal.returns-in-Ok-clause-keeps
returns-in-Ok-clause-keeps g c =
    let s = c.args.self.now in
    let x = c.in-Ok.ensures in
    let a = c.write_run-ask.ensures in
    let from : AreGathered (held s.slots.items.items) c.args.block c.args.count s.shape.block_size c.write_run-ask.result.bytes.now =
    subst (λ (l : List ℕ). AreGathered (held s.slots.items.items) c.args.block c.args.count s.shape.block_size l) (sym a.bytes) c.gather.ensures in
    write_many c.write_run-ask.result (caching g.L.Link s) (caching_of g.L.Link c.begin_run.new.self s.shape c.set_writing.new.self.items.items s.ended)
    c.args.block c.args.count c.in-Ok.ticket c.requires.some c.set_writing.ensures.begun from
    x.begins x.adds x.opens a.kind a.minor a.position a.count c.requires.ready refl refl refl x.budget x.room

pub returns-in-Ok-clause-busy : goal.returns-in-Ok-clause-busy
returns-in-Ok-clause-busy g c = busy_begun c.in-Ok.ticket _ _ _ c.in-Ok.ensures.opens.1

pub returns-in-Ok-clause-begun : goal.returns-in-Ok-clause-begun
returns-in-Ok-clause-begun g c =
    let a = c.write_run-ask.ensures in
    let x = c.in-Ok.ensures.adds in
    record {
      ticket = c.in-Ok.ticket;
      request = x.entry.request;
      begun = c.set_writing.ensures.begun;
      added = ap (map request_of) x.pending ∙ map-append request_of c.args.self.now.transfers.table.pending (x.entry ∷ []);
      write = ap is_write (x.request.kind ∙ a.kind);
      start = x.request.position ∙ a.position;
      whole = x.request.count ∙ a.count;
    }

pub returns-in-Err-clause-keeps : goal.returns-in-Err-clause-keeps
returns-in-Err-clause-keeps g c =
    let s = c.args.self.now in
    let old = caching g.L.Link s in
    let same : caching_of g.L.Link c.begin_run.new.self s.shape s.slots.items.items s.ended ≡ old =
    λ i. caching_of g.L.Link (c.in-Err.ensures.refused i) s.shape s.slots.items.items s.ended in
    subst (λ (n : AbstractCache). Keeps old n) (sym same) (keeps_none old c.requires.ready)

pub returns-in-Ok-clause-posts : goal.returns-in-Ok-clause-posts
returns-in-Ok-clause-posts g c =
    let x = c.in-Ok.ensures.begins in
    record { posts = x.posts; history = x.history; only_posts = x.only_posts }

pub returns-in-Err-clause-posts : goal.returns-in-Err-clause-posts
returns-in-Err-clause-posts g c =
    let x = c.in-Err.ensures.begins in
    record { posts = x.posts; history = x.history; only_posts = x.only_posts }

pub returns-in-Ok-clause-adds : goal.returns-in-Ok-clause-adds
returns-in-Ok-clause-adds g c =
    let s = c.args.self.now in
    longer c.write_run-ask.result (caching g.L.Link s) (caching_of g.L.Link c.begin_run.new.self s.shape c.set_writing.new.self.items.items s.ended)
    c.in-Ok.ensures.adds

pub returns-in-Err-clause-refusing : goal.returns-in-Err-clause-refusing
returns-in-Err-clause-refusing g c =
    let s = c.args.self.now in
    let a = c.write_run-ask.ensures in
    let x = c.in-Err.ensures in
    refusing (caching g.L.Link s) (Err c.in-Err.field-0) _ _ c.args.block c.args.count refl x.full x.pending
    a.position a.count (omega (arith, s.shape.least)) c.requires.some c.requires.dirty

pub returns-in-Ok-clause-goes : goal.returns-in-Ok-clause-goes
returns-in-Ok-clause-goes g c = c.in-Ok.ensures.goes

pub returns-in-Err-clause-goes : goal.returns-in-Err-clause-goes
returns-in-Err-clause-goes g c = c.in-Err.ensures.goes

pub returns-in-Err-clause-leaves : goal.returns-in-Err-clause-leaves
returns-in-Err-clause-leaves g c = leaves_none _
