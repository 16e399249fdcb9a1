use Rattle.std.proofs.Common.{ap, ◌∙◌, Some, set}
use Rattle.descriptors.specs.Keys.{file_of}
use Rattle.descriptors.proofs.Keys.{low_in, free_in, room_for, keys_inserted, inserted}
use Rattle.descriptors.proofs.opened.OpenFiles.insert.Goals as goal

pub insert_reserved-key-requires : goal.insert_reserved-key-requires
insert_reserved-key-requires c =
    let s = c.self.inside.files in
    let keys = c.self.inside.keys.items in
    let low = low_in s keys c.args.self.now c.args.number c.self.view_is c.requires.below in
    room_for s keys c.args.number c.self.invariant low (free_in s keys c.args.self.now c.args.number c.self.invariant c.self.view_is c.requires.below c.requires.free)

pub invariant_of-self : goal.invariant_of-self
invariant_of-self c =
    let s = c.self.inside.files in
    let keys = c.self.inside.keys.items in
    let low = low_in s keys c.args.self.now c.args.number c.self.view_is c.requires.below in
    let i = c.insert_reserved-key.ensures in
    keys_inserted s _ keys c.args.number _ c.args.file c.self.invariant low
    (free_in s keys c.args.self.now c.args.number c.self.invariant c.self.view_is c.requires.below c.requires.free) i.was_vacant i.updates i.len i.capacity

pub returns : goal.returns
returns c =
    let s = c.self.inside.files in
    let keys = c.self.inside.keys.items in
    let low = low_in s keys c.args.self.now c.args.number c.self.view_is c.requires.below in
    let i = c.insert_reserved-key.ensures in
    inserted s _ keys c.args.number _ c.args.file c.self.invariant low
    (free_in s keys c.args.self.now c.args.number c.self.invariant c.self.view_is c.requires.below c.requires.free) i.was_vacant i.updates
    ∙ ap (λ os. set os c.args.number (Some (file_of c.args.file))) c.self.view_is
