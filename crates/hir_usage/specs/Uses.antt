-- How definitions are used. The example throughout is a function that takes `&'p [Option<&'p Page>]`
-- and returns `Result<Line, Color>`.
use Rattle.std.specs.Prelude.{List, [], ◌∷◌, Bool, true, false, not}
use Rattle.hir_ids.specs.declared.ids.TypeId.{TypeId}
use Rattle.hir_ids.specs.declared.owners.InputOrOutput.{InputOrOutput}
use Rattle.hir_ids.specs.declared.owners.InputOrOutput.TheVariants.{Input, Output, InputOutput}
use Rattle.hir_definitions.specs.declared.usage.ResultUsage.{ResultUsage}

-- a use
pub data Used : Type 0 where
  -- the definition is the element of a slice: `Page`
  Sliced : TypeId → Used
  -- it is in an option: `Page`
  Optioned : TypeId → Used
  -- it is the success or the error of the result: `Line`, and then `Color`
  InResult : TypeId → ResultUsage → Used

-- the definition
abbrev pub used_id : Used → TypeId
used_id (Sliced id) = id
used_id (Optioned id) = id
used_id (InResult id result) = id

-- the use in an option, where there is one
abbrev pub optioned_where : Bool → TypeId → List Used
optioned_where true id = Optioned id ∷ []
optioned_where false id = []

-- whether an opaque is in an option by itself: it may be absent, and it is borrowed where it comes in, or owned where it
-- only goes out
abbrev pub is_optioned : InputOrOutput → Bool → Bool → Bool
is_optioned status false is_owned = false
is_optioned Input true is_owned = not is_owned
is_optioned Output true is_owned = is_owned
is_optioned InputOutput true is_owned = not is_owned
