use Rattle.std.proofs.Common.{◌≡◌, ◌+◌, ◌*◌, ◌++◌, length, take, drop, sym, subst, ◌∙◌, arith}
use Rattle.volume.specs.Nodes.{is_marked}
use Rattle.image.specs.Contents.{contents}
use Rattle.migrate.specs.Tables.{Marks}
use Rattle.migrate.proofs.Assembled.{assembled, table_at}
use Rattle.migrate.proofs.Zeros.{ended_byte, given_back}
use Rattle.migrate.proofs.write.written.Goals as goal

pub returns : goal.returns
returns c =
    let i = c.args.old.now.image in
    let h = c.args.empty.volume in
    let zoned = c.moved_inodes.new.zones.image.items in
    let table = c.in_ok-inodes.inodes.items in
    let full = c.deref_mut-2.result.now in
    let half = c.deref_mut-3.result.now in
    let marked = c.mark_zones.new.image in
    let lent : c.deref_mut.result.now ≡ zoned = c.deref_mut.ensures.value in
    let long = c.moved_inodes.new.zones.image.len in
    let long_1 : length c.put_bytes.new.image ≡ long = c.put_bytes.auto.image ∙ c.deref_mut.ensures.len in
    let long_2 : length c.mark_inodes.new.image ≡ long = c.mark_inodes.auto.image ∙ c.deref_mut-2.ensures.len in
    let long_3 : length marked ≡ long = c.mark_zones.auto.image ∙ c.deref_mut-3.ensures.len in
    let lent_2 : full ≡ c.put_bytes.new.image = c.deref_mut-2.ensures.value ∙ given_back long c.put_bytes.new.image _ long_1 in
    let lent_3 : half ≡ c.mark_inodes.new.image = c.deref_mut-3.ensures.value ∙ given_back long c.mark_inodes.new.image _ long_2 in
    let bytes : c.deref.result.now ≡ table = c.deref.ensures.value in
    let at : c.inode_table.result ≡ table_at h = c.inode_table.ensures in
    let limit = c.moved_inodes.new.zones.limit in
    let most : limit ≡ 1024 * h.zones = c.in_ok-inodes.ensures.takes.limit ∙ c.in_ok-zones.ensures.limit in
    let read = c.in_ok-resize.ensures.len in
    let within = c.moved_inodes.new.zones.within in
    let len = c.moved_inodes.new.zones.image.ok in
    let whole : length c.resize.new.self.items ≡ 1024 * h.zones = omega arith in
    assembled i h c.requires.place c.requires.root c.args.empty.front.items c.requires.begun c.in_ok-zones.zones.image.items zoned table
    full half marked c.resize.new.self.items _ _ (record {
      tables = c.in_ok-zones.ensures.tables;
      begun = c.in_ok-zones.ensures.bytes;
      takes = c.in_ok-inodes.ensures.takes;
      size = c.in_ok-inodes.ensures.size;
      inodes = c.in_ok-inodes.ensures.inodes;
      put = lent_2 ∙ c.put_bytes.ensures
          ∙ (λ k. take (at k) (lent k) ++ bytes k ++ drop (at k + length (bytes k)) (lent k));
      inode_marks = subst (Marks 2 (is_marked i.geometry (contents i)) i.geometry.inodes full) (sym lent_3) c.mark_inodes.ensures;
      zone_marks = c.mark_zones.ensures;
      whole = whole;
      ended = λ p. ended_byte marked _ c.resize.new.self.items limit _ p (given_back long marked _ long_3) (omega arith)
          c.in_ok-resize.ensures.items;
    })
