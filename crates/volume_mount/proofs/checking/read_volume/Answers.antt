use Rattle.std.proofs.Common.{◌≡◌, ℕ, List, length, subst, ap, ◌∙◌, rules, arith}
use Rattle.std.specs.Prelude.{Err}
use Rattle.reissue.specs.Transfers.{table_of}
use Rattle.volume_reading.specs.declared.reading.Stop.{Stop}
use Rattle.volume_mount.specs.Mounts.{IsChecked}
use Rattle.volume_mount.proofs.Checked.{stops_at_head, refuses_head, stops_behind, checks, rest_as, written_back, wanting, stands_same}
use Rattle.volume_mount.proofs.checking.read_volume.Goals as goal

pub returns-in-Err-clause-reads : goal.returns-in-Err-clause-reads
returns-in-Err-clause-reads g c =
    stops_at_head c.args.minor (table_of c.args.transfers.now) (table_of c.read_range.new.transfers) _ _ _ _
    c.read_range.new.into c.in-Err.stop c.from.result c.from.ensures c.requires.unended c.in-Err.ensures.reads

pub returns-in-Err-sizes-clause-reads : goal.returns-in-Err-sizes-clause-reads
returns-in-Err-sizes-clause-reads g c =
    refuses_head c.args.minor (table_of c.args.transfers.now) (table_of c.read_range.new.transfers) _ _ _ _ c.read_range.new.into c.in-Err-sizes.refusal
    c.read_range.ensures.same_length c.in-Err-sizes.ensures.refused c.in-Err-sizes.ensures.not_short c.in_default.ensures.reads

pub returns-in-Err-read_behind-clause-reads : goal.returns-in-Err-read_behind-clause-reads
returns-in-Err-read_behind-clause-reads g c =
    stops_behind c.args.minor (table_of c.args.transfers.now) (table_of c.read_range.new.transfers) (table_of c.read_behind.new.transfers) _ _ _ _ _ _
    c.read_range.new.into c.read_range.ensures.same_length c.in_default.ensures.reads c.in-Ok.geometry c.in-Ok.ensures.sizes c.in-Ok.ensures.fit
    c.volume_size.result c.volume_size.ensures.least c.volume_size.ensures.size c.requires.unended
    c.in-Err-read_behind.stop c.from-in-Err-read_behind.result c.read_behind.new.bytes c.from-in-Err-read_behind.ensures
    (rest_as _ _ _ _ _ _ _ _ _ _ _ _ c.in-Err-read_behind.ensures.reads (search rules))

pub returns-in-Err-read_behind-clause-goes : goal.returns-in-Err-read_behind-clause-goes
returns-in-Err-read_behind-clause-goes g c = g.met.L.Link.joins _ _ _ c.read_range.ensures.goes c.read_behind.ensures.goes

pub returns-clause-reads : goal.returns-clause-reads
returns-clause-reads g c =
    checks c.args.minor (table_of c.args.transfers.now) (table_of c.read_range.new.transfers) (table_of c.read_behind.new.transfers) _ _ _ _ _ _
    c.read_range.new.into c.read_range.ensures.same_length c.in_default.ensures.reads c.in-Ok.geometry c.in-Ok.ensures.sizes c.in-Ok.ensures.fit
    c.volume_size.result c.volume_size.ensures.least c.volume_size.ensures.size c.requires.unended
    c.checked.result c.read_behind.new.bytes (subst (λ (l : List ℕ). IsChecked l c.checked.result) (c.deref.ensures.value ∙ written_back c.in-Ok-vec.bytes.len c.read_behind.new.bytes _ (let e : length c.read_behind.new.bytes ≡ c.in-Ok-vec.bytes.len = search rules in e)) c.checked.ensures)
    (rest_as _ _ _ _ _ _ _ _ _ _ _ _ c.in_default-read_behind.ensures.reads (search rules))

pub returns-clause-goes : goal.returns-clause-goes
returns-clause-goes g c = g.met.L.Link.joins _ _ _ c.read_range.ensures.goes c.read_behind.ensures.goes

pub returns-in-Err-clause-refused : goal.returns-in-Err-clause-refused
returns-in-Err-clause-refused g c = λ e.
    let same = (c.in-Err.ensures.refused (ap (λ (s : Stop). Err s) (wanting c.in-Err.stop c.from.result c.from.ensures e))).0 in
    stands_same g.L.Link _ _ c.args.transfers.now c.read_range.new.transfers same (record {
      idle = c.requires.idle;
      live = c.requires.live;
      unended = c.requires.unended;
      room = c.requires.room;
      left = omega arith;
    })

pub returns-in-Err-vec-clause-refused : goal.returns-in-Err-vec-clause-refused
returns-in-Err-vec-clause-refused g c = λ e.
    let r = c.in_default.ensures in
    record {
      idle = r.reads.end.2;
      live = r.reads.end.1;
      unended = r.reads.end.0;
      room = r.room;
      left = omega (arith, r.ids);
    }

pub returns-in-Err-read_behind-clause-refused : goal.returns-in-Err-read_behind-clause-refused
returns-in-Err-read_behind-clause-refused g c = λ e.
    let r = c.in_default.ensures in
    let f = c.from-in-Err-read_behind in
    let same = c.in-Err-read_behind.ensures.refused (ap (λ (s : Stop). Err s) (wanting c.in-Err-read_behind.stop f.result f.ensures e)) in
    stands_same g.L.Link _ _ c.read_range.new.transfers c.read_behind.new.transfers same (record {
      idle = r.reads.end.2;
      live = r.reads.end.1;
      unended = r.reads.end.0;
      room = r.room;
      left = omega (arith, r.ids);
    })

pub returns-clause-refused : goal.returns-clause-refused
returns-clause-refused g c = λ e.
    let r = c.in_default.ensures in
    let b = c.in_default-read_behind.ensures in
    let long : length c.read_behind.new.bytes ≡ c.volume_size.result = search rules in
    record {
      idle = b.reads.reads.end.2;
      live = b.reads.reads.end.1;
      unended = b.reads.reads.end.0;
      room = b.room;
      left = omega (arith, r.ids, b.ids, c.volume_size.ensures.most, long, c.read_behind.ensures.same_length);
    }
