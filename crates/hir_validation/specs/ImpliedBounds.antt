-- What is told of the bounds that the types of a method imply: each is one that the method declares, where the shorter lifetime has a name.
-- In the example of the crate's head `&'a Page<'p>` implies that 'p outlives 'a.
use Rattle.std.specs.Prelude.{ℕ, List, [], ◌∷◌, ◌++◌, Bool, not, ◌&&◌, Option, codes, nat_lt, slice_get, ◌==◌}
use Rattle.std.specs.List.{enumerate_from, flat_map}
use Rattle.bridge_telling.specs.Telling.{one_if}
use Rattle.hir_context.specs.Lookups.{environment_at}
use Rattle.hir_context.specs.declared.parts.Definitions.{Definitions}
use Rattle.hir_definitions.specs.declared.methods.Method.{Method}
use Rattle.hir_definitions.specs.declared.methods.Param.{Param}
use Rattle.hir_ids.specs.declared.ids.TypeId.TheVariants as type
use Rattle.hir_life.specs.Environment.{Environment}
use Rattle.hir_life.specs.Naming.{printed_name}
use Rattle.hir_life.specs.declared.bounds.BoundedLifetime.{BoundedLifetime}
use Rattle.hir_life.specs.declared.maybe_static.MaybeStatic.{MaybeStatic}
use Rattle.hir_mentions.specs.Mentions.{where_any}
use Rattle.hir_reports.specs.declared.report.LoweringError.{LoweringError}
use Rattle.hir_reports.specs.declared.rule.Rule.TheVariants as rule
use Rattle.hir_types.specs.Named.{ReturnedType, contained}
use Rattle.hir_validation.specs.Lifetimes.{is_in_list, where_number}
use Rattle.hir_validation.specs.WholeTypes.{Whole, Primitive, Enum, Opaque, Struct, Slice, Callback, Other, param_whole, returned_whole}

-- the bound of these, with where it comes from
abbrev pub bound_error : Environment → List ℕ → ℕ → ℕ → List (List ℕ) → LoweringError
bound_error env source u l names = record { rule = rule.ImpliedBound; args = source ∷ printed_name env l ∷ printed_name env u ∷ names }

-- l has to outlive u, and isn't declared to
abbrev pub lacks_bound : Environment → ℕ → BoundedLifetime → ℕ → Bool
lacks_bound env u shorter l = not (l == u) && (not (is_in_list l shorter.longer) && nat_lt l env.count)

-- over the lifetimes of the method, and where the type stands
module _ (env : Environment) (source : List ℕ) where
  -- of a lifetime that has to outlive u, which has a name
  abbrev pub numbered_outliving_errors : ℕ → BoundedLifetime → List (List ℕ) → ℕ → List LoweringError
  numbered_outliving_errors u shorter names l = one_if (lacks_bound env u shorter l) (bound_error env source u l names)

  abbrev pub outliving_errors : ℕ → BoundedLifetime → List (List ℕ) → MaybeStatic ℕ → List LoweringError
  outliving_errors u shorter names = where_number (numbered_outliving_errors u shorter names)

  -- ---- bounds that a definition writes, over its lifetimes, and those that stand for them

  module _ (definition : Environment) (given : List (MaybeStatic ℕ)) where
    -- of one that is written to outlive another
    abbrev pub written_longer_errors : BoundedLifetime → ℕ → BoundedLifetime → ℕ → List LoweringError
    written_longer_errors written u shorter number =
        where_any (λ longer. where_any (outliving_errors u shorter (longer.ident ∷ written.ident ∷ [])) (slice_get given number))
        (slice_get definition.bounds number)

    -- of all that are written to outlive it
    abbrev pub named_written_errors : BoundedLifetime → ℕ → List LoweringError
    named_written_errors written u =
        where_any (λ shorter. flat_map (written_longer_errors written u shorter) written.longer) (slice_get env.bounds u)

    abbrev pub written_errors : ℕ × BoundedLifetime → List LoweringError
    written_errors numbered = where_any (where_number (named_written_errors numbered.1)) (slice_get given numbered.0)

  abbrev pub definition_errors : List (MaybeStatic ℕ) → Environment → List LoweringError
  definition_errors given definition = flat_map (written_errors definition given) (enumerate_from 0 definition.bounds)

  -- ---- bounds that a reference implies

  abbrev pub named_behind_errors : List (MaybeStatic ℕ) → ℕ → List LoweringError
  named_behind_errors given u = where_any (λ shorter. flat_map (outliving_errors u shorter []) given) (slice_get env.bounds u)

  abbrev pub behind_errors : List (MaybeStatic ℕ) → MaybeStatic ℕ → List LoweringError
  behind_errors given = where_number (named_behind_errors given)

  -- ---- the whole

  abbrev pub opaque_bound_errors : Definitions → ℕ → Option (MaybeStatic ℕ) → List (MaybeStatic ℕ) → List LoweringError
  opaque_bound_errors defs number borrow given =
      where_any (definition_errors given) (environment_at defs (type.Opaque number)) ++ where_any (behind_errors given) borrow

  unfoldable pub implied_errors : Definitions → Whole → List LoweringError
  implied_errors defs (Opaque number borrow given) = opaque_bound_errors defs number borrow given
  implied_errors defs (Struct id held given) = where_any (definition_errors given) (environment_at defs id)
  implied_errors defs Primitive = []
  implied_errors defs (Enum number) = []
  implied_errors defs (Slice element) = []
  implied_errors defs (Callback output) = []
  implied_errors defs Other = []

-- ---- of a method

abbrev pub param_source : List ℕ → List ℕ
param_source name = codes "param " ++ name

abbrev pub return_source : List ℕ
return_source = codes "return type"

abbrev pub param_bound_errors : Definitions → Environment → Param → List LoweringError
param_bound_errors defs env param = implied_errors env (param_source param.name) defs (param_whole param.ty)

abbrev pub returned_bound_errors : Definitions → Environment → ReturnedType → List LoweringError
returned_bound_errors defs env ty = implied_errors env return_source defs (returned_whole ty)

unfoldable pub method_bound_errors : Definitions → Method → List LoweringError
method_bound_errors defs method =
    flat_map (param_bound_errors defs method.lifetime_env) method.params
    ++ flat_map (returned_bound_errors defs method.lifetime_env) (contained method.output)
