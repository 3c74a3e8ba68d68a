use Rattle.std.proofs.Common.{arith, ◌≤◌, ◌<◌, ◌+◌, ◌∙◌, length}
use Rattle.bridge_outside.proofs.ReadSoFar.{room_made, read_more, whole_read, fits_behind}
use Rattle.bridge_outside.proofs.bytes.read_all.Goals as goal

pub returns-in-Ok-eq0-clause-whole : goal.returns-in-Ok-eq0-clause-whole
returns-in-Ok-eq0-clause-whole g c =
    whole_read _ c.make_room.new.bytes.items c.read_behind.new.bytes.items _
    (room_made c.loop-len.bytes.items c.make_room.new.bytes.items c.loop-len.invariant.4 c.make_room.ensures.front)
    c.in-Ok-eq0.ensures.reads (omega (arith, c.in-Ok-eq0.field-0-test)) c.read_behind.ensures.front (omega (arith, c.in_ok-make_room.ensures.room, c.make_room.new.bytes.ok.0)) c.truncate.ensures.items

pub loop-len-preserved : goal.loop-len-preserved
loop-len-preserved g c =
    let room : c.loop-len.len < length c.make_room.new.bytes.items = omega (arith, c.in_ok-make_room.ensures.room, c.make_room.new.bytes.ok.0) in
    let fits : c.loop-len.len + c.in-Ok.n ≤ length c.make_room.new.bytes.items = fits_behind c.make_room.new.bytes.items c.in-Ok.ensures.reads.bound (omega arith) in (
      omega (arith, fits, c.read_behind.ensures.len, c.make_room.new.bytes.ok.0),
      omega (arith, c.read_behind.ensures.len, c.in_ok-make_room.ensures.size),
      omega (arith, c.read_behind.ensures.reads.one_call),
      c.in-Ok.ensures.reads.steady ∙ c.loop-len.invariant.3,
      read_more _ c.make_room.new.bytes.items c.read_behind.new.bytes.items
          (room_made c.loop-len.bytes.items c.make_room.new.bytes.items c.loop-len.invariant.4 c.make_room.ensures.front)
          c.in-Ok.ensures.reads c.read_behind.ensures.front,
    )
