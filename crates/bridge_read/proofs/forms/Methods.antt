-- The laws of the forms of specs/forms/Methods.
use Rattle.std.specs.Prelude.{[]}
use Rattle.bridge_decl.specs.declared.methods.Method.{Method}
use Rattle.bridge_decl.specs.declared.methods.Param.{Param}
use Rattle.bridge_decl.specs.declared.methods.SelfParam.{SelfParam}
use Rattle.bridge_decl.specs.declared.traits.TraitMethod.{TraitMethod}
use Rattle.bridge_decl.specs.declared.traits.TraitSelfParam.{TraitSelfParam}
use Rattle.bridge_form.specs.declared.keys.Key.TheVariants as key
use Rattle.bridge_read.specs.declared.methods.MethodHead.{MethodHead}
use Rattle.bridge_read.specs.declared.methods.Signature.{Signature}
use Rattle.bridge_read.specs.declared.methods.TraitSignature.{TraitSignature}
use Rattle.bridge_read.specs.forms.Methods.{param_of, param, receiver_of, receiver, signature_of, signature, head_of, method_head, method_of, method, trait_receiver_of, trait_receiver, trait_signature_of, trait_signature, trait_method_of, trait_method}
use Rattle.bridge_form.proofs.FormLaws.{Lawful, LawfulParts}
use Rattle.bridge_form.proofs.Proved.{Proved, ProvedParts, List_of, Object, Made, Needs, May_have, May_be, Grouped, ◌&&&◌, Text}
use Rattle.bridge_read_parts.specs.forms.Attrs.{no_attrs}
use Rattle.bridge_read_parts.proofs.forms.Attrs.{P_attrs}
use Rattle.bridge_read_parts.proofs.forms.Docs.{P_documented}
use Rattle.bridge_read_parts.proofs.forms.Lifetimes.{P_node, P_path, P_reference}
use Rattle.bridge_read_parts.proofs.forms.Types.{P_type_name}

pub param_lawful : Lawful param
unfolding param
param_lawful = (Object (Made param_of &&& Needs key.Name Text &&& Needs key.Ty P_type_name &&& May_be key.Attrs P_attrs no_attrs)).lawful

abbrev pub P_param : Proved Param
P_param = record { form = param; lawful = param_lawful }

pub receiver_lawful : Lawful receiver
unfolding receiver
receiver_lawful = (Object (Made receiver_of &&& May_have key.Reference P_reference &&& Needs key.Path P_path &&& May_be key.Attrs P_attrs no_attrs)).lawful

abbrev pub P_receiver : Proved SelfParam
P_receiver = record { form = receiver; lawful = receiver_lawful }

pub signature_lawful : LawfulParts signature
unfolding signature
signature_lawful = (Made signature_of &&& May_be key.Lifetimes (List_of P_node) [] &&& May_be key.Params (List_of P_param) [] &&& May_have key.Ret P_type_name).lawful

abbrev pub P_signature : ProvedParts Signature
P_signature = record { parts = signature; lawful = signature_lawful }

pub method_head_lawful : LawfulParts method_head
unfolding method_head
method_head_lawful = (Made head_of &&& Needs key.Name Text &&& May_have key.AbiName Text &&& Needs key.SelfType P_path &&& May_have key.Itself P_receiver).lawful

abbrev pub P_method_head : ProvedParts MethodHead
P_method_head = record { parts = method_head; lawful = method_head_lawful }

pub method_lawful : Lawful method
unfolding method
method_lawful = (Object (Made method_of &&& Grouped P_method_head &&& Grouped P_signature &&& Grouped P_documented)).lawful

abbrev pub P_method : Proved Method
P_method = record { form = method; lawful = method_lawful }

pub trait_receiver_lawful : Lawful trait_receiver
unfolding trait_receiver
trait_receiver_lawful = (Object (Made trait_receiver_of &&& May_have key.Reference P_reference &&& Needs key.Path P_path)).lawful

abbrev pub P_trait_receiver : Proved TraitSelfParam
P_trait_receiver = record { form = trait_receiver; lawful = trait_receiver_lawful }

pub trait_signature_lawful : LawfulParts trait_signature
unfolding trait_signature
trait_signature_lawful = (Made trait_signature_of &&& May_be key.Lifetimes (List_of P_node) [] &&& May_have key.Itself P_trait_receiver &&& May_be key.Params (List_of P_param) [] &&& May_have key.Ret P_type_name).lawful

abbrev pub P_trait_signature : ProvedParts TraitSignature
P_trait_signature = record { parts = trait_signature; lawful = trait_signature_lawful }

pub trait_method_lawful : Lawful trait_method
unfolding trait_method
trait_method_lawful = (Object (Made trait_method_of &&& Needs key.Name Text &&& Grouped P_trait_signature &&& Grouped P_documented)).lawful

abbrev pub P_trait_method : Proved TraitMethod
P_trait_method = record { form = trait_method; lawful = trait_method_lawful }
