-- What lent uses are as plain data.
use Rattle.std.specs.Prelude.{List, map}
use Rattle.std.specs.Global.{Vec}
use Rattle.hir_ids.specs.declared.ids.TypeId.{TypeId}
use Rattle.hir_ids.specs.declared.ids.TypeId.TheVariants as type
use Rattle.hir_definitions.specs.declared.usage.ResultUsage.TheVariants as usage
use Rattle.hir_usage.specs.Uses.{Used, Sliced, Optioned, InResult}
use Rattle.hir_usage.specs.declared.uses.LentId.{LentId}
use Rattle.hir_usage.specs.declared.uses.LentId.TheVariants as lent
use Rattle.hir_usage.specs.declared.uses.Use.{Use}
use Rattle.hir_usage.specs.declared.uses.Use.TheVariants as use_as

-- the id itself
abbrev pub id_lent : LentId → TypeId
id_lent (lent.Struct id) = type.Struct id.now
id_lent (lent.OutStruct id) = type.OutStruct id.now
id_lent (lent.Opaque id) = type.Opaque id.now
id_lent (lent.Enum id) = type.Enum id.now

-- the same use, with the id, the success and the error themselves where they are lent
abbrev pub used : Use → Used
used (use_as.Sliced id) = Sliced (id_lent id)
used (use_as.Optioned id) = Optioned (id_lent id)
used (use_as.Input id ok err) = InResult (id_lent id) (usage.Input (record { ok = ok.now; err = err.now }))
used (use_as.Output id ok err) = InResult (id_lent id) (usage.Output (record { ok = ok.now; err = err.now }))

-- each of a list
abbrev pub meant : Vec Use → List Used
meant uses = map used uses.items
