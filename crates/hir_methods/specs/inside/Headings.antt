-- Parts that have a name, where there is one.
use Rattle.std.specs.Prelude.{ℕ, List, Option, option_map}
use Rattle.hir_attrs.specs.declared.attrs.Attrs.{Attrs}
use Rattle.hir_docs.specs.declared.docs.Docs.{Docs}
use Rattle.hir_methods.specs.declared.headings.Heading.{Heading}
use Rattle.hir_methods.specs.declared.params.UntypedParam.{UntypedParam}
use Rattle.hir_methods.specs.Choosing.{paired}

-- a heading of these documents
abbrev pub headed : Docs → Option (List ℕ) → Option (List ℕ) → Option Heading
headed docs name abi_name = option_map (λ names. record { docs = docs; name = names.0; abi_name = names.1 }) (paired name abi_name)

-- a parameter with these marks
abbrev pub named : Option (List ℕ) → Attrs → Option UntypedParam
named name attrs = option_map (λ n. record { name = n; attrs = attrs }) name
