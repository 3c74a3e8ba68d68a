-- One flag that is turned on, and the others. A support is seen as the list of its flags, so that no proof compares all flags
-- with all.
use Rattle.std.proofs.Common.{◌≡◌, ◌≢◌, ℕ, List, [], ◌∷◌, Bool, true, false, refl, get_or, set, sym, ap, ◌∙◌, get_or-set_other}
use Rattle.hir_backends.specs.Support.{every_flag, flag_on, no_flags, with_flag}
use Rattle.hir_backends.specs.declared.support.BackendAttrSupport.{BackendAttrSupport}
use Rattle.hir_backends.specs.declared.support.flag.SupportFlag.{SupportFlag}
use Rattle.hir_backends.specs.declared.support.flag.SupportFlag.TheVariants as flag

-- the flags as a list, in order
unfoldable pub flags_of : BackendAttrSupport → List Bool
flags_of support =
    support.namespacing
    ∷ support.memory_sharing
    ∷ support.non_exhaustive_structs
    ∷ support.method_overloading
    ∷ support.utf8_strings
    ∷ support.utf16_strings
    ∷ support.static_slices
    ∷ support.defaults
    ∷ support.constructors
    ∷ support.named_constructors
    ∷ support.fallible_constructors
    ∷ support.accessors
    ∷ support.static_accessors
    ∷ support.stringifiers
    ∷ support.comparators
    ∷ support.partial_comparators
    ∷ support.iterators
    ∷ support.iterables
    ∷ support.indexing
    ∷ support.arithmetic
    ∷ support.option
    ∷ support.callbacks
    ∷ support.traits
    ∷ support.custom_errors
    ∷ support.traits_are_send
    ∷ support.traits_are_sync
    ∷ support.generate_mocking_interface
    ∷ support.manually_disposable
    ∷ support.abi_compatibles
    ∷ support.struct_refs
    ∷ support.mut_struct_refs
    ∷ support.free_functions
    ∷ support.custom_bindings
    ∷ support.owned_slices
    ∷ support.default_args
    ∷ support.mutable_slices
    ∷ support.tuples
    ∷ support.opaque_slices
    ∷ support.owned_byte_slice_returns
    ∷ support.callback_returns_must_be_fallible
    ∷ support.generic_writeables
    ∷ support.utf16_writeables
    ∷ []

-- where a flag stands in that list
unfoldable pub place_of : SupportFlag → ℕ
place_of flag.Namespacing = 0
place_of flag.MemorySharing = 1
place_of flag.NonExhaustiveStructs = 2
place_of flag.MethodOverloading = 3
place_of flag.Utf8Strings = 4
place_of flag.Utf16Strings = 5
place_of flag.StaticSlices = 6
place_of flag.Defaults = 7
place_of flag.Constructors = 8
place_of flag.NamedConstructors = 9
place_of flag.FallibleConstructors = 10
place_of flag.Accessors = 11
place_of flag.StaticAccessors = 12
place_of flag.Stringifiers = 13
place_of flag.Comparators = 14
place_of flag.PartialComparators = 15
place_of flag.Iterators = 16
place_of flag.Iterables = 17
place_of flag.Indexing = 18
place_of flag.Arithmetic = 19
place_of flag.Option = 20
place_of flag.Callbacks = 21
place_of flag.Traits = 22
place_of flag.CustomErrors = 23
place_of flag.TraitsAreSend = 24
place_of flag.TraitsAreSync = 25
place_of flag.GenerateMockingInterface = 26
place_of flag.ManuallyDisposable = 27
place_of flag.AbiCompatibles = 28
place_of flag.StructRefs = 29
place_of flag.MutStructRefs = 30
place_of flag.FreeFunctions = 31
place_of flag.CustomBindings = 32
place_of flag.OwnedSlices = 33
place_of flag.DefaultArgs = 34
place_of flag.MutableSlices = 35
place_of flag.Tuples = 36
place_of flag.OpaqueSlices = 37
place_of flag.OwnedByteSliceReturns = 38
place_of flag.CallbackReturnsMustBeFallible = 39
place_of flag.GenericWriteables = 40
place_of flag.Utf16Writeables = 41

-- the flags stand at their places, so that two flags have two places
every_flag-place : (f : SupportFlag) → get_or every_flag (place_of f) flag.Namespacing ≡ f
unfolding every_flag place_of
every_flag-place flag.Namespacing = refl
every_flag-place _ = refl

-- each flag is on by the entry at its place
flag_on-place : (s : BackendAttrSupport) (f : SupportFlag) → flag_on s f ≡ get_or (flags_of s) (place_of f) false
unfolding flag_on flags_of place_of
flag_on-place s flag.Namespacing = refl
flag_on-place s _ = refl

-- one entry is set
flags_of-with : (s : BackendAttrSupport) (f : SupportFlag) → flags_of (with_flag s f) ≡ set (flags_of s) (place_of f) true
unfolding flags_of with_flag place_of
flags_of-with s flag.Namespacing = refl
flags_of-with s _ = refl

pub flag_on-with : (s : BackendAttrSupport) (f : SupportFlag) → flag_on (with_flag s f) f ≡ true
unfolding flag_on with_flag
flag_on-with s flag.Namespacing = refl
flag_on-with s _ = refl

pub flag_on-none : (f : SupportFlag) → flag_on no_flags f ≡ false
unfolding flag_on no_flags
flag_on-none flag.Namespacing = refl
flag_on-none _ = refl

place_of-other : (f g : SupportFlag) → g ≢ f → place_of g ≢ place_of f
place_of-other f g apart same =
    apart
    (sym (every_flag-place g) ∙ ap (λ n. get_or every_flag n flag.Namespacing) same ∙ every_flag-place f)

pub flag_on-with_other : (s : BackendAttrSupport) (f g : SupportFlag) → g ≢ f → flag_on (with_flag s f) g ≡ flag_on s g
flag_on-with_other s f g apart =
    rw (flag_on-place (with_flag s f) g, flag_on-place s g, flags_of-with s f)
    (get_or-set_other (flags_of s) _ _ true false (place_of-other f g apart))
