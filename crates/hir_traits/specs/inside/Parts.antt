-- Parts that there may not be, put together.
use Rattle.std.specs.Prelude.{ℕ, List, Option, Some, option_map, if◌then◌else◌}
use Rattle.bridge_decl.specs.declared.traits.Trait.{Trait}
use Rattle.hir_attrs.specs.declared.attrs.Attrs.{Attrs}
use Rattle.hir_definitions.specs.Usage.{unused}
use Rattle.hir_definitions.specs.declared.definitions.TraitDef.{TraitDef}
use Rattle.hir_docs.specs.declared.docs.Docs.{Docs}
use Rattle.hir_heads.specs.declared.notes.Notes.{Notes}
use Rattle.hir_life.specs.Declarations.{declared_environment}
use Rattle.hir_life.specs.Environment.{Environment}
use Rattle.hir_methods.specs.Choosing.{kept_with, paired}
use Rattle.hir_types.specs.declared.callbacks.Callback.{Callback}
use Rattle.hir_types.specs.declared.callbacks.CallbackParam.{CallbackParam}
use Rattle.hir_traits.specs.declared.callbacks.CallbackFrame.{CallbackFrame}
use Rattle.hir_traits.specs.declared.heads.NamedParam.{NamedParam}
use Rattle.hir_traits.specs.declared.heads.TraitMethodHead.{TraitMethodHead}
use Rattle.hir_traits.specs.declared.own.OwnHead.{OwnHead}
use Rattle.hir_traits.specs.declared.own.TraitNames.{TraitNames}

-- a parameter of that name
abbrev pub named_as : List ℕ → NamedParam
named_as name = record { name = name }

-- a method's head of these documents, where there are the others
abbrev pub method_headed : Docs → Option (List ℕ) → Option (List NamedParam) → Option TraitMethodHead
method_headed docs name params = option_map (λ p. record { docs = docs; name = p.0; params = p.1 }) (paired name params)

-- a method whose parameters were taken off, with them
abbrev pub callback_in : CallbackFrame → List CallbackParam → Callback
callback_in frame params =
    record {
      param_self = frame.param_self;
      params = params;
      output = frame.output;
      name = Some (record { 0 = frame.name });
      attrs = Some frame.attrs;
      docs = Some frame.docs;
    }

-- the names of a trait, where there are both
abbrev pub both_names : Option (List ℕ) → Option Environment → Option TraitNames
both_names name lifetimes = option_map (λ p. record { name = p.0; lifetimes = p.1 }) (paired name lifetimes)

-- a trait of these parts
abbrev pub trait_of_parts : Notes → TraitNames → List Callback → TraitDef
trait_of_parts notes names methods =
    record {
      docs = notes.docs;
      name = record { 0 = names.name };
      methods = methods;
      attrs = notes.attrs;
      lifetimes = names.lifetimes;
      usage = unused;
    }

-- where there are all
abbrev pub assembled : OwnHead → Option (List Callback) → Option TraitDef
assembled head methods = option_map (λ p. trait_of_parts head.notes p.0 p.1) (paired head.names methods)

-- the methods so far and what comes of one more, which is left out where it is disabled
abbrev pub with_next_method : {A : Type 0} → Attrs → Option (List A) → Option A → Option (List A)
with_next_method attrs methods one = if attrs.disable then methods else kept_with methods one

-- the names of a declared trait
abbrev pub declared_names : Trait → TraitNames
declared_names item = record { name = item.name; lifetimes = declared_environment item.lifetimes }
