-- The uses of lifetimes in a signature, in order, each with the part of the signature in which it stands: the receiver's
-- borrow, the receiver's generics, those of the parameters from left to right, and those of the return.
use Rattle.std.specs.Prelude.{List, [], ◌∷◌, ◌++◌, map, Bool, true, false, Option, Some, None, if◌then◌else◌}
use Rattle.std.specs.List.{flat_map}
use Rattle.bridge_decl.specs.declared.functions.Function.{Function}
use Rattle.bridge_decl.specs.declared.lifetimes.Lifetime.{Lifetime}
use Rattle.bridge_decl.specs.declared.methods.Method.{Method}
use Rattle.bridge_decl.specs.declared.methods.Param.{Param}
use Rattle.bridge_decl.specs.declared.methods.SelfParam.{SelfParam}
use Rattle.bridge_decl.specs.declared.structs.Field.{Field}
use Rattle.bridge_decl.specs.declared.traits.TraitMethod.{TraitMethod}
use Rattle.bridge_decl.specs.declared.traits.TraitSelfParam.{TraitSelfParam}
use Rattle.bridge_decl.specs.declared.types.Mutability.{Mutability}
use Rattle.bridge_decl.specs.declared.types.Mutability.TheVariants as mutability
use Rattle.bridge_decl.specs.declared.types.TypeName.{TypeName, out-TypeName}
use Rattle.bridge_decl.specs.declared.types.TypeName.TheOpen.{TypeName-F}
use Rattle.hir_elide.specs.Occurrences.{Borrow, Counting}
use Rattle.hir_elide.specs.Phases.{Phase, Using, Returning, Defining}
use Rattle.hir_number.specs.Naming.{Naming}
use Rattle.hir_number.specs.Uses.{Use, borrow_uses, trait_use, type_use, type_uses}

-- ---- the trailing writer

-- whether a type is a writer
abbrev pub is_writer_level : TypeName-F TypeName → Bool
is_writer_level (TypeName-F.Write target) = true
is_writer_level _ = false

-- whether a type is a reference to a writer, through which it can be written
abbrev pub is_written_level : TypeName-F TypeName → Bool
is_written_level (TypeName-F.Reference l mutability.Mutable t) = is_writer_level (out-TypeName t)
is_written_level _ = false

-- whether a parameter is a writer: `&mut DiplomatWrite`
abbrev pub is_writer : Param → Bool
is_writer param = is_written_level (out-TypeName param.ty)

-- the parameters without the trailing writer: it stands for the return, and is no part of the signature
abbrev pub without_writer : List Param → List Param
without_writer [] = []
without_writer (param ∷ []) = if is_writer param then [] else param ∷ []
without_writer (param ∷ next ∷ params) = param ∷ without_writer (next ∷ params)

-- ---- uses

-- a part of a signature or of a definition
pub data Section : Type 0 where
  -- one in which lifetimes are lowered so
  Usual : Phase → Section
  -- the return of a trait's method
  TraitReturn : Section

-- how lifetimes are lowered in a part: nothing is elided in the return of a trait's method, and each anonymous lifetime in it is
-- a new one
abbrev pub phase_of : Section → Phase
phase_of (Usual phase) = phase
phase_of TraitReturn = Using Counting

-- a use with the part of the signature in which it stands
abbrev pub Placed : Type 0
Placed = Section × Use

-- uses in one part
abbrev pub placed : Section → List Use → List Placed
placed part us = map (λ u. (part, u)) us

-- those of a receiver's borrow
abbrev pub receiver_borrow : Option SelfParam → Option (Lifetime × Mutability)
receiver_borrow None = None
receiver_borrow (Some receiver) = receiver.reference

-- those of a receiver's type
abbrev pub receiver_uses : Naming → Option SelfParam → List Use
receiver_uses names None = []
receiver_uses names (Some receiver) = type_use names true receiver.path_type ∷ []

-- those of a trait's receiver
abbrev pub trait_borrow : Option TraitSelfParam → Option (Lifetime × Mutability)
trait_borrow None = None
trait_borrow (Some receiver) = receiver.reference

abbrev pub trait_receiver_uses : Naming → Option TraitSelfParam → List Use
trait_receiver_uses names None = []
trait_receiver_uses names (Some receiver) = trait_use names true receiver.path_trait ∷ []

-- those of parameters
abbrev pub param_uses : Naming → List Param → List Use
param_uses names params = flat_map (λ param. type_uses names param.ty) params

-- those of a return
abbrev pub output_uses : Naming → Option TypeName → List Use
output_uses names None = []
output_uses names (Some ty) = type_uses names ty

-- those of a signature, by its parts
abbrev pub signature_uses : Option (Lifetime × Mutability) → List Use → Section → List Use → List Placed
signature_uses borrow inputs part outputs =
    (placed (Usual (Using Borrow)) (borrow_uses borrow) ++ placed (Usual (Using Counting)) inputs) ++ placed part outputs

-- those of a method
abbrev pub method_uses : Naming → Method → List Placed
method_uses names method =
    signature_uses (receiver_borrow method.self_param)
    (receiver_uses names method.self_param ++ param_uses names (without_writer method.params)) (Usual Returning)
    (output_uses names method.return_type)

-- those of a function
abbrev pub function_uses : Naming → Function → List Placed
function_uses names function =
    signature_uses None (param_uses names (without_writer function.params)) (Usual Returning)
    (output_uses names function.output_type)

-- those of a trait's method
abbrev pub trait_method_uses : Naming → TraitMethod → List Placed
trait_method_uses names method =
    signature_uses (trait_borrow method.self_param)
    (trait_receiver_uses names method.self_param ++ param_uses names method.params) TraitReturn
    (output_uses names method.output_type)

-- those of the fields of a struct
abbrev pub field_uses : Naming → List Field → List Placed
field_uses names fields = placed (Usual Defining) (flat_map (λ field. type_uses names field.ty) fields)
