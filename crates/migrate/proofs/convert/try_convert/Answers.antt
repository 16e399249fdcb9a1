use Rattle.std.proofs.Common.{◌≡◌, ap, subst, ◌∙◌}
use Rattle.std.specs.Io.KnownBytes.{Appends}
use Rattle.layout.specs.Places.{geometry_of}
use Rattle.output.specs.Output.{AppendsPart}
use Rattle.migrate.specs.Converting.{converted_text}
use Rattle.migrate.proofs.convert.try_convert.Goals as goal

pub returns-in-Ok-write_text-clause-converted : goal.returns-in-Ok-write_text-clause-converted
returns-in-Ok-write_text-clause-converted g c =
    let m = c.in-Ok.ensures.migrated in
    let image = c.deref.ensures.value in
    let text : c.as_bytes.result.now ≡ converted_text m.geometry c.in-Ok.image.items
    = c.as_bytes.ensures.value ∙ c.in-Ok-line_of.ensures m.geometry (ap geometry_of image ∙ m.read)
    ∙ ap (converted_text m.geometry) image in
    record {
      bytes = c.in-Some.bytes;
      file = c.in-Some.is;
      migrated = m;
      line = subst (Appends (g.W.Write.contents c.args.out.now) (g.W.Write.contents c.write_text.new.to)) text
          c.in-Ok-write_text.ensures.ok;
    }

pub returns-clause-refused : goal.returns-clause-refused
returns-clause-refused g c =
    let m = c.in-Ok.ensures.migrated in
    let image = c.deref.ensures.value in
    let text : c.as_bytes.result.now ≡ converted_text m.geometry c.in-Ok.image.items
    = c.as_bytes.ensures.value ∙ c.in-Ok-line_of.ensures m.geometry (ap geometry_of image ∙ m.read)
    ∙ ap (converted_text m.geometry) image in
    record {
      bytes = c.in-Some.bytes;
      file = c.in-Some.is;
      image = c.in-Ok.image.items;
      migrated = m;
      line = subst (AppendsPart (g.W.Write.contents c.args.out.now) (g.W.Write.contents c.write_text.new.to)) text
          c.in-Err-write_text.ensures.err;
    }
