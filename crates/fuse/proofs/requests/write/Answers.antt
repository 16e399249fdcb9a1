use Rattle.std.proofs.Common.{ℕ, ◌∷◌, [], length, refl}
use Rattle.fields.specs.Fields.{Four, Eight, Number, Unused}
use Rattle.fuse.specs.Requests.{Body}
use Rattle.fuse.proofs.EndLaws.{taken_length, same_where, size_taken}
use Rattle.fuse.proofs.requests.write.Goals as goal

pub returns : goal.returns
returns c =
    let body : ℕ → Body = λ n. record {
      opcode = 16;
      fields = Number Eight c.u64-handle.result ∷ Number Eight c.u64-offset.result ∷ Number Four n ∷ Number Four c.u32-write_flags.result
          ∷ Number Eight c.u64-lock_owner.result ∷ Number Four c.u32-flags.result ∷ Unused Four 0 ∷ [];
      tail = c.bytes-bytes.result.now;
    } in
    c.ended.ensures.with_tail c.args.input _ _ (body c.u32-size.result) refl (
      _,
      c.u64-handle.ensures,
      (
        _,
        c.u64-offset.ensures,
        (
          _,
          c.u32-size.ensures,
          (
            _,
            c.u32-write_flags.ensures,
            (_, c.u64-lock_owner.ensures, (_, c.u32-flags.ensures, (_, c.unused_u32.ensures, refl))),
          ),
        ),
      ),
    ) (size_taken (body c.u32-size.result) c.unused_u32.new.self.left c.bytes-bytes.new.self.left
    c.u32-size.result (λ left. refl) c.bytes-bytes.ensures)
    (same_where body c.bytes-bytes.new.self.left c.u32-size.result (length c.bytes-bytes.result.now)
    (taken_length c.unused_u32.new.self.left c.bytes-bytes.new.self.left c.u32-size.result c.bytes-bytes.result.now c.bytes-bytes.ensures))
