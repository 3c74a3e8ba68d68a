-- Parameters, receivers and methods.
use Rattle.std.specs.Prelude.{ℕ, List, [], Option, Some, None}
use Rattle.bridge_decl.specs.declared.attrs.Attrs.{Attrs}
use Rattle.bridge_decl.specs.declared.docs.Docs.{Docs}
use Rattle.bridge_decl.specs.declared.lifetimes.Lifetime.{Lifetime}
use Rattle.bridge_decl.specs.declared.lifetimes.LifetimeNode.{LifetimeNode}
use Rattle.bridge_decl.specs.declared.methods.Method.{Method}
use Rattle.bridge_decl.specs.declared.methods.Param.{Param}
use Rattle.bridge_decl.specs.declared.methods.SelfParam.{SelfParam}
use Rattle.bridge_decl.specs.declared.paths.PathType.{PathType}
use Rattle.bridge_decl.specs.declared.traits.TraitMethod.{TraitMethod}
use Rattle.bridge_decl.specs.declared.traits.TraitSelfParam.{TraitSelfParam}
use Rattle.bridge_decl.specs.declared.types.Mutability.{Mutability}
use Rattle.bridge_decl.specs.declared.types.TypeName.{TypeName}
use Rattle.bridge_form.specs.declared.keys.Key.TheVariants as key
use Rattle.bridge_read.specs.declared.methods.MethodHead.{MethodHead}
use Rattle.bridge_read.specs.declared.methods.Signature.{Signature}
use Rattle.bridge_read.specs.declared.methods.TraitSignature.{TraitSignature}
use Rattle.bridge_form.specs.Form.{Form, Parts, object_with, made, ◌&◌, needs, may_be, may_have, grouped, list, text}
use Rattle.bridge_read_parts.specs.forms.Attrs.{attrs, no_attrs}
use Rattle.bridge_read_parts.specs.forms.Docs.{documented}
use Rattle.bridge_read_parts.specs.forms.Lifetimes.{node, path, reference}
use Rattle.bridge_read_parts.specs.forms.Types.{type_name}

-- what is given, or what its absence stands for
abbrev pub or_else : {A : Type 0} → A → Option A → A
or_else absent (Some x) = x
or_else absent None = absent

abbrev pub param_of : List ℕ → TypeName → Attrs → Param
param_of name ty attributes = record { name = name; ty = ty; attrs = attributes }

-- {"name": text, "ty": type, "attrs": attributes}
unfoldable pub param : Form Param
param = object_with (made param_of & needs key.Name text & needs key.Ty type_name & may_be key.Attrs attrs no_attrs)

abbrev pub receiver_of : Option (Lifetime × Mutability) → PathType → Attrs → SelfParam
receiver_of borrowed of attributes = record { reference = borrowed; path_type = of; attrs = attributes }

-- {"reference": reference, "path": path, "attrs": attributes}
unfoldable pub receiver : Form SelfParam
receiver = object_with (made receiver_of & may_have key.Reference reference & needs key.Path path & may_be key.Attrs attrs no_attrs)

abbrev pub signature_of : List LifetimeNode → List Param → Option TypeName → Signature
signature_of nodes params returned = record { nodes = nodes; params = params; returned = returned }

-- the lifetimes, the parameters and the return of a method or function
unfoldable pub signature : Parts Signature
signature = made signature_of & may_be key.Lifetimes (list node) [] & may_be key.Params (list param) [] & may_have key.Ret type_name

abbrev pub head_of : List ℕ → Option (List ℕ) → PathType → Option SelfParam → MethodHead
head_of name abi_name self_type receives = record { name = name; abi_name = or_else name abi_name; self_type = self_type; self_param = receives }

-- what stands before the signature of a method; an absent `abi_name` is the name
unfoldable pub method_head : Parts MethodHead
method_head = made head_of & needs key.Name text & may_have key.AbiName text & needs key.SelfType path & may_have key.Itself receiver

abbrev pub method_of : MethodHead → Signature → Docs × Attrs → Method
method_of head signed about = record { name = head.name; abi_name = head.abi_name; self_type = head.self_type; self_param = head.self_param; lifetime_env = record { nodes = signed.nodes }; params = signed.params; return_type = signed.returned; docs = about.0; attrs = about.1 }

-- {"name": text, "abi_name": text, "self_type": path, "self": receiver, "lifetimes": [lifetimes], "params": [parameters], "ret": type,
-- "docs": documentation, "attrs": attributes}
unfoldable pub method : Form Method
method = object_with (made method_of & grouped method_head & grouped signature & grouped documented)

abbrev pub trait_receiver_of : Option (Lifetime × Mutability) → PathType → TraitSelfParam
trait_receiver_of borrowed of = record { reference = borrowed; path_trait = of }

-- {"reference": reference, "path": path}
unfoldable pub trait_receiver : Form TraitSelfParam
trait_receiver = object_with (made trait_receiver_of & may_have key.Reference reference & needs key.Path path)

abbrev pub trait_signature_of : List LifetimeNode → Option TraitSelfParam → List Param → Option TypeName → TraitSignature
trait_signature_of nodes receives params returned = record { nodes = nodes; self_param = receives; params = params; returned = returned }

-- what stands between the name of a trait's method and its documentation
unfoldable pub trait_signature : Parts TraitSignature
trait_signature = made trait_signature_of & may_be key.Lifetimes (list node) [] & may_have key.Itself trait_receiver & may_be key.Params (list param) [] & may_have key.Ret type_name

abbrev pub trait_method_of : List ℕ → TraitSignature → Docs × Attrs → TraitMethod
trait_method_of name signed about = record { name = name; lifetimes = record { nodes = signed.nodes }; self_param = signed.self_param; params = signed.params; output_type = signed.returned; docs = about.0; attrs = about.1 }

-- {"name": text, "lifetimes": [lifetimes], "self": receiver, "params": [parameters], "ret": type, "docs": documentation, "attrs": attributes}
unfoldable pub trait_method : Form TraitMethod
trait_method = object_with (made trait_method_of & needs key.Name text & grouped trait_signature & grouped documented)
