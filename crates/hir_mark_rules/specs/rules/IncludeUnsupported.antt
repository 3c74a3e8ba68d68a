-- IncludeUnsupported: a set includes code, and the backend doesn't support that.
use Rattle.std.specs.Prelude.{◌≡◌, true, false}
use Rattle.hir_attrs.specs.declared.attrs.Attrs.{Attrs}
use Rattle.hir_attrs.specs.declared.names.MarkName.TheVariants as mark
use Rattle.hir_backends.specs.Backend.{Backend}
use Rattle.hir_backends.specs.Support.{flag_on}
use Rattle.hir_backends.specs.declared.support.flag.SupportFlag.TheVariants as flag
use Rattle.hir_mark_contexts.specs.Sets.{has_mark}

pub record IncludeUnsupported (backend : Backend) (attrs : Attrs) : Type 0 where
  pub includes : has_mark mark.CustomExtraCode attrs ≡ true
  pub unsupported : flag_on backend.supports flag.CustomBindings ≡ false
