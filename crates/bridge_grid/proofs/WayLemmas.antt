-- Cells of rows that say one thing of what comes in and another of what goes out.
use Rattle.bridge_rules.specs.declared.position.Position.{Position}
use Rattle.bridge_rules.specs.declared.position.Position.TheVariants as at
use Rattle.bridge_rules.specs.declared.table.Cell.{Cell}
use Rattle.bridge_rules.specs.Table.{by_way}
use Rattle.bridge_grid.specs.Ways.{ComesIn, GoesOut}

pub by_each_way : (C : Cell → Type 0) (D : Position → Type 0) (i o : Cell) → ((y : Position) → ComesIn y → C i → D y) → ((y : Position) → GoesOut y → C o → D y) → (at : Position) → C (by_way i o at) → D at
by_each_way C D i o input output at.Field c = input at.Field tt c
by_each_way C D i o input output at.Param c = input at.Param tt c
by_each_way C D i o input output at.CallbackReturn c = input at.CallbackReturn tt c
by_each_way C D i o input output at.CallbackParam c = output at.CallbackParam tt c
by_each_way C D i o input output at.OutField c = output at.OutField tt c
by_each_way C D i o input output at.Return c = output at.Return tt c

pub coming : (C : Cell → Type 0) (i o : Cell) (at : Position) → ComesIn at → C i → C (by_way i o at)
coming C i o at.Field h c = c
coming C i o at.Param h c = c
coming C i o at.CallbackReturn h c = c
coming C i o at.CallbackParam h c = absurd h
coming C i o at.OutField h c = absurd h
coming C i o at.Return h c = absurd h

pub going : (C : Cell → Type 0) (i o : Cell) (at : Position) → GoesOut at → C o → C (by_way i o at)
going C i o at.Field h c = absurd h
going C i o at.Param h c = absurd h
going C i o at.CallbackReturn h c = absurd h
going C i o at.CallbackParam h c = c
going C i o at.OutField h c = c
going C i o at.Return h c = c

pub either_way : (C : Cell → Type 0) (i o : Cell) (at : Position) → C i → C o → C (by_way i o at)
either_way C i o at.Field c d = c
either_way C i o at.Param c d = c
either_way C i o at.CallbackReturn c d = c
either_way C i o at.CallbackParam c d = d
either_way C i o at.OutField c d = d
either_way C i o at.Return c d = d
