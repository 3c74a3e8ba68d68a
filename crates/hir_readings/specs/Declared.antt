-- What is read off declarations: which fields the struct at a place has, and the numbered signatures of methods and functions. In the
-- example of the crate's head `Mark` has a carrier of 'x and 'y and nothing, where 'x and 'y are 0 and 1.
use Rattle.std.specs.Prelude.{List, [], map, Option, Some, None, option_and_then, Result, Ok, Err, if◌then◌else◌}
use Rattle.std.specs.List.{filter}
use Rattle.bridge_ast.specs.declared.place.ItemPlace.{ItemPlace}
use Rattle.bridge_decl.specs.declared.attrs.Attrs.{Attrs as DeclaredAttrs}
use Rattle.bridge_decl.specs.declared.functions.Function.{Function}
use Rattle.bridge_decl.specs.declared.methods.Method.{Method as DeclaredMethod}
use Rattle.bridge_decl.specs.declared.modules.Item.{Item}
use Rattle.bridge_decl.specs.declared.modules.Item.TheVariants as item
use Rattle.bridge_decl.specs.declared.modules.Module.{Module}
use Rattle.bridge_decl.specs.declared.structs.Struct.{Struct}
use Rattle.hir_attrs.specs.declared.attrs.Attrs.{Attrs}
use Rattle.hir_items.specs.Inheriting.{item_marks}
use Rattle.hir_items.specs.Setting.{Setting}
use Rattle.hir_items.specs.TypeMethods.{is_enabled_method}
use Rattle.hir_lowering.specs.Interface.{Interface, setting_in}
use Rattle.hir_lowering.specs.Placing.{found_at}
use Rattle.hir_mentions.specs.Mentions.{where_any}
use Rattle.hir_modules.specs.ModuleMarks.{module_marks}
use Rattle.hir_number.specs.Naming.{Naming}
use Rattle.hir_number.specs.Numbers.{signature_numbers}
use Rattle.hir_number.specs.Shapes.{NumberLists}
use Rattle.hir_number.specs.Signatures.{field_uses, function_uses, method_uses}
use Rattle.hir_number.specs.declared.fault.NumberFault.{NumberFault}
use Rattle.hir_number.specs.declared.numbered.NumberedType.{NumberedType}
use Rattle.hir_number.specs.declared.signature.NumberedSignature.{NumberedSignature}
use Rattle.hir_skeleton.specs.Skeletons.{Skeleton}
use Rattle.hir_stages.specs.Numbering.{filled_fields, filled_function, filled_method}
use Rattle.hir_readings.specs.NumberedSkeletons.{numbered_skeleton}

-- what is made of the numbers of all lifetimes, where each has one
abbrev pub numbered_as : {A : Type 0} → (NumberLists → A) → Result NumberLists NumberFault → Option A
numbered_as make (Ok numbers) = Some (make numbers)
numbered_as make (Err fault) = None

-- ---- fields

-- the types of a struct's fields, by the numbers of its own lifetimes
abbrev pub declared_types : Naming → Struct → Option (List NumberedType)
declared_types names item = numbered_as (filled_fields names item) (signature_numbers item.lifetimes (field_uses names item.fields))

-- of a struct in a module with that set of marks: a disabled one has none
abbrev pub struct_skeletons : Setting → Attrs → Struct → List (Skeleton ItemPlace)
struct_skeletons s module_set item =
    if (item_marks s.backend module_set item.attrs).disable then []
    else where_any (λ types. map (numbered_skeleton s.catalog) types) (declared_types s.names item)

-- of what was found at a place: only a struct that comes in has any
abbrev pub found_fields : Interface → ItemPlace → Module × Item → List (Skeleton ItemPlace)
found_fields it place (owner, item.Struct declared) =
    if declared.output_only then [] else struct_skeletons (setting_in it place.«module») (module_marks it.backend it.modules owner) declared
found_fields it place (owner, item.Opaque declared) = []
found_fields it place (owner, item.Enum declared) = []
found_fields it place (owner, item.Trait declared) = []
found_fields it place (owner, item.Function declared) = []

-- which fields the struct at a place has
abbrev pub declared_fields : Interface → ItemPlace → List (Skeleton ItemPlace)
declared_fields it place = where_any (found_fields it place) (found_at it.modules place)

-- ---- methods and functions

-- the enabled methods of a type with these marks: a disabled one has none
abbrev pub enabled_methods_of : Interface → Module → DeclaredAttrs → List DeclaredMethod → List DeclaredMethod
enabled_methods_of it owner attrs methods =
    let module_set = module_marks it.backend it.modules owner in
    if (item_marks it.backend module_set attrs).disable then [] else filter (is_enabled_method it.backend module_set) methods

abbrev pub found_methods : Interface → Module × Item → List DeclaredMethod
found_methods it (owner, item.Struct declared) = enabled_methods_of it owner declared.attrs declared.methods
found_methods it (owner, item.Opaque declared) = enabled_methods_of it owner declared.attrs declared.methods
found_methods it (owner, item.Enum declared) = enabled_methods_of it owner declared.attrs declared.methods
found_methods it (owner, item.Trait declared) = []
found_methods it (owner, item.Function declared) = []

-- the enabled methods of the type at a place
abbrev pub declared_methods : Interface → ItemPlace → List DeclaredMethod
declared_methods it place = where_any (found_methods it) (found_at it.modules place)

-- the numbered signature of a method, where its lifetimes have numbers
abbrev pub method_signature : Naming → DeclaredMethod → Option NumberedSignature
method_signature names method = numbered_as (filled_method names method) (signature_numbers method.lifetime_env (method_uses names method))

-- that of a function
abbrev pub function_signature : Naming → Function → Option NumberedSignature
function_signature names function =
    numbered_as (filled_function names function) (signature_numbers function.lifetimes (function_uses names function))

abbrev pub found_function : Interface → ItemPlace → Module × Item → Option NumberedSignature
found_function it place (owner, item.Function declared) = function_signature (it.names place.«module») declared
found_function it place (owner, item.Struct declared) = None
found_function it place (owner, item.Opaque declared) = None
found_function it place (owner, item.Enum declared) = None
found_function it place (owner, item.Trait declared) = None

-- that of the function at a place
abbrev pub declared_function : Interface → ItemPlace → Option NumberedSignature
declared_function it place = option_and_then (found_function it place) (found_at it.modules place)
