-- The declarations that are made for a number of structs: what each of them is.
use Rattle.std.specs.Prelude.{ℕ, ◌-◌, ◌%◌, List, [], ◌∷◌, ◌++◌, map, codes, decimal, Some, None, false, ◌==◌, if◌then◌else◌}
use Rattle.std.specs.List.{range_with_len}
use Rattle.bridge_decl.specs.declared.attrs.Attrs.{Attrs}
use Rattle.bridge_decl.specs.declared.docs.Docs.{Docs}
use Rattle.bridge_decl.specs.declared.functions.Function.{Function}
use Rattle.bridge_decl.specs.declared.lifetimes.Lifetime.TheVariants.{Named}
use Rattle.bridge_decl.specs.declared.lifetimes.LifetimeEnv.{LifetimeEnv}
use Rattle.bridge_decl.specs.declared.lifetimes.LifetimeNode.{LifetimeNode}
use Rattle.bridge_decl.specs.declared.methods.Param.{Param}
use Rattle.bridge_decl.specs.declared.modules.Item.{Item}
use Rattle.bridge_decl.specs.declared.modules.Item.TheVariants as item
use Rattle.bridge_decl.specs.declared.modules.Module.{Module}
use Rattle.bridge_decl.specs.declared.paths.PathType.{PathType}
use Rattle.bridge_decl.specs.declared.structs.Field.{Field}
use Rattle.bridge_decl.specs.declared.structs.OpaqueType.{OpaqueType}
use Rattle.bridge_decl.specs.declared.structs.Struct.{Struct}
use Rattle.bridge_decl.specs.declared.types.Mutability.TheVariants.{Immutable}
use Rattle.bridge_decl.specs.declared.types.TypeName.{TypeName}
use Rattle.bridge_decl.specs.declared.types.TypeName.TheVariants as type

-- ---- what every declaration has

-- no block and no link
abbrev pub plain_docs : Docs
plain_docs = record { blocks = []; links = [] }

-- no feature, no mark, no renaming, no note of deprecation
abbrev pub plain_attrs : Attrs
plain_attrs = record { features = []; marks = []; abi_rename = None; deprecated = None }

-- ---- names and types

-- `S7`
abbrev pub struct_name : ℕ → List ℕ
struct_name number = codes "S" ++ decimal number

-- `f7`
abbrev pub function_name : ℕ → List ℕ
function_name number = codes "f" ++ decimal number

-- `O`
abbrev pub path_to_opaque : PathType
path_to_opaque = record { segments = codes "O" ∷ []; lifetimes = [] }

-- `S7<'a>`
abbrev pub path_to_struct : ℕ → PathType
path_to_struct number = record { segments = struct_name number ∷ []; lifetimes = Named (codes "a") ∷ [] }

-- `&'a O`, for the lifetime of that name
abbrev pub opaque_borrowed_for : List ℕ → TypeName
opaque_borrowed_for lifetime = type.Reference (Named lifetime) Immutable (type.Named path_to_opaque)

-- `S7<'a>`, by value
abbrev pub struct_by_value : ℕ → TypeName
struct_by_value number = type.Named (path_to_struct number)

-- ---- items

-- `O`, an opaque without lifetimes and methods that is passed by `&` alone; its destructor's symbol is its name
abbrev pub the_opaque : OpaqueType
the_opaque = record {
  name = codes "O";
  lifetimes = record { nodes = [] };
  mutability = Immutable;
  methods = [];
  dtor_abi_name = codes "O";
  docs = plain_docs;
  attrs = plain_attrs;
}

-- a field of the name and the type
abbrev pub plain_field : List ℕ → TypeName → Field
plain_field name ty = record { name = name; ty = ty; docs = plain_docs; attrs = plain_attrs }

-- `x: &'a O`, and after it the struct before as `s: S6<'a>`, which the first of each eight structs hasn't
abbrev pub fields_of : ℕ → List Field
fields_of number =
    plain_field (codes "x") (opaque_borrowed_for (codes "a"))
    ∷ (if number % 8 == 0 then [] else plain_field (codes "s") (struct_by_value (number - 1)) ∷ [])

-- `<'a>`
abbrev pub one_lifetime : LifetimeEnv
one_lifetime = record { nodes = record { name = codes "a"; longer = []; shorter = [] } ∷ [] }

-- `struct S7<'a> { x: &'a O, s: S6<'a> }`
abbrev pub struct_numbered : ℕ → Struct
struct_numbered number = record {
  name = struct_name number;
  lifetimes = one_lifetime;
  fields = fields_of number;
  methods = [];
  output_only = false;
  docs = plain_docs;
  attrs = plain_attrs;
}

-- the `'a` of `<'a, 'b: 'a>`, which is outlived by the lifetime number 1
abbrev pub outlived : LifetimeNode
outlived = record { name = codes "a"; longer = 1 ∷ []; shorter = [] }

-- and its `'b`, which outlives the lifetime number 0
abbrev pub outliving : LifetimeNode
outliving = record { name = codes "b"; longer = []; shorter = 0 ∷ [] }

-- `<'a, 'b: 'a>`
abbrev pub two_lifetimes : LifetimeEnv
two_lifetimes = record { nodes = outlived ∷ outliving ∷ [] }

-- a parameter of the name and the type
abbrev pub plain_param : List ℕ → TypeName → Param
plain_param name ty = record { name = name; ty = ty; attrs = plain_attrs }

-- `p: S7<'a>` and `q: &'b O`
abbrev pub params_of : ℕ → List Param
params_of number = plain_param (codes "p") (struct_by_value number) ∷ plain_param (codes "q") (opaque_borrowed_for (codes "b")) ∷ []

-- `fn f7<'a, 'b: 'a>(p: S7<'a>, q: &'b O) -> &'a O`; its symbol is its name
abbrev pub function_numbered : ℕ → Function
function_numbered number = record {
  name = function_name number;
  abi_name = function_name number;
  lifetimes = two_lifetimes;
  params = params_of number;
  output_type = Some (opaque_borrowed_for (codes "a"));
  docs = plain_docs;
  attrs = plain_attrs;
}

-- ---- the module, in which lists of items are opened on demand alone: a count may be a numeral

-- so many structs, by their numbers from 0
unfoldable pub structs_below : ℕ → List Item
structs_below count = map (λ number. item.Struct (struct_numbered number)) (range_with_len 0 count)

-- so many functions, by their numbers from 0
unfoldable pub functions_below : ℕ → List Item
functions_below count = map (λ number. item.Function (function_numbered number)) (range_with_len 0 count)

-- the opaque, so many structs and as many functions, in this order
abbrev pub generated_items : ℕ → List Item
generated_items count = item.Opaque the_opaque ∷ (structs_below count ++ functions_below count)

-- the root module with these items alone
abbrev pub generated_module : ℕ → Module
generated_module count = record { path = []; attrs = plain_attrs; items = generated_items count; aliases = [] }
