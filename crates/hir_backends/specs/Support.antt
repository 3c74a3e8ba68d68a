-- What a backend supports, as flags that are on or off.
use Rattle.std.specs.Prelude.{ℕ, List, [], ◌∷◌, Bool, true, false, codes, Option, Some, None, option_map}
use Rattle.std.specs.List.{find}
use Rattle.std.specs.Str.{bytes_eq}
use Rattle.hir_backends.specs.declared.support.BackendAttrSupport.{BackendAttrSupport}
use Rattle.hir_backends.specs.declared.support.flag.SupportFlag.{SupportFlag}
use Rattle.hir_backends.specs.declared.support.flag.SupportFlag.TheVariants as flag

-- the name of a flag
unfoldable pub flag_text : SupportFlag → List ℕ
flag_text flag.Namespacing = codes "namespacing"
flag_text flag.MemorySharing = codes "memory_sharing"
flag_text flag.NonExhaustiveStructs = codes "non_exhaustive_structs"
flag_text flag.MethodOverloading = codes "method_overloading"
flag_text flag.Utf8Strings = codes "utf8_strings"
flag_text flag.Utf16Strings = codes "utf16_strings"
flag_text flag.StaticSlices = codes "static_slices"
flag_text flag.Defaults = codes "defaults"
flag_text flag.Constructors = codes "constructors"
flag_text flag.NamedConstructors = codes "named_constructors"
flag_text flag.FallibleConstructors = codes "fallible_constructors"
flag_text flag.Accessors = codes "accessors"
flag_text flag.StaticAccessors = codes "static_accessors"
flag_text flag.Stringifiers = codes "stringifiers"
flag_text flag.Comparators = codes "comparators"
flag_text flag.PartialComparators = codes "partial_comparators"
flag_text flag.Iterators = codes "iterators"
flag_text flag.Iterables = codes "iterables"
flag_text flag.Indexing = codes "indexing"
flag_text flag.Arithmetic = codes "arithmetic"
flag_text flag.Option = codes "option"
flag_text flag.Callbacks = codes "callbacks"
flag_text flag.Traits = codes "traits"
flag_text flag.CustomErrors = codes "custom_errors"
flag_text flag.TraitsAreSend = codes "traits_are_send"
flag_text flag.TraitsAreSync = codes "traits_are_sync"
flag_text flag.GenerateMockingInterface = codes "generate_mocking_interface"
flag_text flag.ManuallyDisposable = codes "manually_disposable"
flag_text flag.AbiCompatibles = codes "abi_compatibles"
flag_text flag.StructRefs = codes "struct_refs"
flag_text flag.MutStructRefs = codes "mut_struct_refs"
flag_text flag.FreeFunctions = codes "free_functions"
flag_text flag.CustomBindings = codes "custom_bindings"
flag_text flag.OwnedSlices = codes "owned_slices"
flag_text flag.DefaultArgs = codes "default_args"
flag_text flag.MutableSlices = codes "mutable_slices"
flag_text flag.Tuples = codes "tuples"
flag_text flag.OpaqueSlices = codes "opaque_slices"
flag_text flag.OwnedByteSliceReturns = codes "owned_byte_slice_returns"
flag_text flag.CallbackReturnsMustBeFallible = codes "callback_returns_must_be_fallible"
flag_text flag.GenericWriteables = codes "generic_writeables"
flag_text flag.Utf16Writeables = codes "utf16_writeables"

-- the text by which `check_string` asks for a flag, as upstream spells it: its name, but for two of them, and none for four
unfoldable pub flag_key : SupportFlag → Option (List ℕ)
flag_key flag.Namespacing = Some (codes "namespacing")
flag_key flag.MemorySharing = Some (codes "memory_sharing")
flag_key flag.NonExhaustiveStructs = Some (codes "non_exhaustive_structs")
flag_key flag.MethodOverloading = Some (codes "method_overloading")
flag_key flag.Utf8Strings = Some (codes "utf8_strings")
flag_key flag.Utf16Strings = Some (codes "utf16_strings")
flag_key flag.StaticSlices = Some (codes "static_slices")
flag_key flag.Defaults = Some (codes "default")
flag_key flag.Constructors = Some (codes "constructors")
flag_key flag.NamedConstructors = Some (codes "named_constructors")
flag_key flag.FallibleConstructors = Some (codes "fallible_constructors")
flag_key flag.Accessors = Some (codes "accessors")
flag_key flag.StaticAccessors = None
flag_key flag.Stringifiers = Some (codes "stringifiers")
flag_key flag.Comparators = Some (codes "comparators")
flag_key flag.PartialComparators = Some (codes "partial_comparators")
flag_key flag.Iterators = Some (codes "iterators")
flag_key flag.Iterables = Some (codes "iterables")
flag_key flag.Indexing = Some (codes "indexing")
flag_key flag.Arithmetic = Some (codes "arithmetic")
flag_key flag.Option = Some (codes "option")
flag_key flag.Callbacks = Some (codes "callbacks")
flag_key flag.Traits = Some (codes "traits")
flag_key flag.CustomErrors = Some (codes "custom_errors")
flag_key flag.TraitsAreSend = Some (codes "traits_are_send")
flag_key flag.TraitsAreSync = Some (codes "traits_are_sync")
flag_key flag.GenerateMockingInterface = None
flag_key flag.ManuallyDisposable = Some (codes "manually_disposable")
flag_key flag.AbiCompatibles = Some (codes "abi_compatibles")
flag_key flag.StructRefs = Some (codes "struct_refs")
flag_key flag.MutStructRefs = Some (codes "mut_struct_refs")
flag_key flag.FreeFunctions = Some (codes "free_functions")
flag_key flag.CustomBindings = Some (codes "custom_bindings")
flag_key flag.OwnedSlices = Some (codes "owned_slices")
flag_key flag.DefaultArgs = None
flag_key flag.MutableSlices = Some (codes "mutable_slices")
flag_key flag.Tuples = Some (codes "tuples")
flag_key flag.OpaqueSlices = None
flag_key flag.OwnedByteSliceReturns = Some (codes "owned_byte_slice_returns")
flag_key flag.CallbackReturnsMustBeFallible = Some (codes "ffi_error")
flag_key flag.GenericWriteables = Some (codes "generic_writeables")
flag_key flag.Utf16Writeables = Some (codes "utf16_writeables")

-- all flags, in order
unfoldable pub every_flag : List SupportFlag
every_flag =
    flag.Namespacing
    ∷ flag.MemorySharing
    ∷ flag.NonExhaustiveStructs
    ∷ flag.MethodOverloading
    ∷ flag.Utf8Strings
    ∷ flag.Utf16Strings
    ∷ flag.StaticSlices
    ∷ flag.Defaults
    ∷ flag.Constructors
    ∷ flag.NamedConstructors
    ∷ flag.FallibleConstructors
    ∷ flag.Accessors
    ∷ flag.StaticAccessors
    ∷ flag.Stringifiers
    ∷ flag.Comparators
    ∷ flag.PartialComparators
    ∷ flag.Iterators
    ∷ flag.Iterables
    ∷ flag.Indexing
    ∷ flag.Arithmetic
    ∷ flag.Option
    ∷ flag.Callbacks
    ∷ flag.Traits
    ∷ flag.CustomErrors
    ∷ flag.TraitsAreSend
    ∷ flag.TraitsAreSync
    ∷ flag.GenerateMockingInterface
    ∷ flag.ManuallyDisposable
    ∷ flag.AbiCompatibles
    ∷ flag.StructRefs
    ∷ flag.MutStructRefs
    ∷ flag.FreeFunctions
    ∷ flag.CustomBindings
    ∷ flag.OwnedSlices
    ∷ flag.DefaultArgs
    ∷ flag.MutableSlices
    ∷ flag.Tuples
    ∷ flag.OpaqueSlices
    ∷ flag.OwnedByteSliceReturns
    ∷ flag.CallbackReturnsMustBeFallible
    ∷ flag.GenericWriteables
    ∷ flag.Utf16Writeables
    ∷ []

-- whether the flag is on in the support
unfoldable pub flag_on : BackendAttrSupport → SupportFlag → Bool
flag_on support flag.Namespacing = support.namespacing
flag_on support flag.MemorySharing = support.memory_sharing
flag_on support flag.NonExhaustiveStructs = support.non_exhaustive_structs
flag_on support flag.MethodOverloading = support.method_overloading
flag_on support flag.Utf8Strings = support.utf8_strings
flag_on support flag.Utf16Strings = support.utf16_strings
flag_on support flag.StaticSlices = support.static_slices
flag_on support flag.Defaults = support.defaults
flag_on support flag.Constructors = support.constructors
flag_on support flag.NamedConstructors = support.named_constructors
flag_on support flag.FallibleConstructors = support.fallible_constructors
flag_on support flag.Accessors = support.accessors
flag_on support flag.StaticAccessors = support.static_accessors
flag_on support flag.Stringifiers = support.stringifiers
flag_on support flag.Comparators = support.comparators
flag_on support flag.PartialComparators = support.partial_comparators
flag_on support flag.Iterators = support.iterators
flag_on support flag.Iterables = support.iterables
flag_on support flag.Indexing = support.indexing
flag_on support flag.Arithmetic = support.arithmetic
flag_on support flag.Option = support.option
flag_on support flag.Callbacks = support.callbacks
flag_on support flag.Traits = support.traits
flag_on support flag.CustomErrors = support.custom_errors
flag_on support flag.TraitsAreSend = support.traits_are_send
flag_on support flag.TraitsAreSync = support.traits_are_sync
flag_on support flag.GenerateMockingInterface = support.generate_mocking_interface
flag_on support flag.ManuallyDisposable = support.manually_disposable
flag_on support flag.AbiCompatibles = support.abi_compatibles
flag_on support flag.StructRefs = support.struct_refs
flag_on support flag.MutStructRefs = support.mut_struct_refs
flag_on support flag.FreeFunctions = support.free_functions
flag_on support flag.CustomBindings = support.custom_bindings
flag_on support flag.OwnedSlices = support.owned_slices
flag_on support flag.DefaultArgs = support.default_args
flag_on support flag.MutableSlices = support.mutable_slices
flag_on support flag.Tuples = support.tuples
flag_on support flag.OpaqueSlices = support.opaque_slices
flag_on support flag.OwnedByteSliceReturns = support.owned_byte_slice_returns
flag_on support flag.CallbackReturnsMustBeFallible = support.callback_returns_must_be_fallible
flag_on support flag.GenericWriteables = support.generic_writeables
flag_on support flag.Utf16Writeables = support.utf16_writeables

-- the support of a backend that supports nothing: every flag is off
unfoldable pub no_flags : BackendAttrSupport
no_flags =
    record {
      namespacing = false;
      memory_sharing = false;
      non_exhaustive_structs = false;
      method_overloading = false;
      utf8_strings = false;
      utf16_strings = false;
      static_slices = false;
      defaults = false;
      constructors = false;
      named_constructors = false;
      fallible_constructors = false;
      accessors = false;
      static_accessors = false;
      stringifiers = false;
      comparators = false;
      partial_comparators = false;
      iterators = false;
      iterables = false;
      indexing = false;
      arithmetic = false;
      option = false;
      callbacks = false;
      traits = false;
      custom_errors = false;
      traits_are_send = false;
      traits_are_sync = false;
      generate_mocking_interface = false;
      manually_disposable = false;
      abi_compatibles = false;
      struct_refs = false;
      mut_struct_refs = false;
      free_functions = false;
      custom_bindings = false;
      owned_slices = false;
      default_args = false;
      mutable_slices = false;
      tuples = false;
      opaque_slices = false;
      owned_byte_slice_returns = false;
      callback_returns_must_be_fallible = false;
      generic_writeables = false;
      utf16_writeables = false;
    }

-- the same support with the flag on
unfoldable pub with_flag : BackendAttrSupport → SupportFlag → BackendAttrSupport
with_flag support flag.Namespacing = record support { namespacing = true }
with_flag support flag.MemorySharing = record support { memory_sharing = true }
with_flag support flag.NonExhaustiveStructs = record support { non_exhaustive_structs = true }
with_flag support flag.MethodOverloading = record support { method_overloading = true }
with_flag support flag.Utf8Strings = record support { utf8_strings = true }
with_flag support flag.Utf16Strings = record support { utf16_strings = true }
with_flag support flag.StaticSlices = record support { static_slices = true }
with_flag support flag.Defaults = record support { defaults = true }
with_flag support flag.Constructors = record support { constructors = true }
with_flag support flag.NamedConstructors = record support { named_constructors = true }
with_flag support flag.FallibleConstructors = record support { fallible_constructors = true }
with_flag support flag.Accessors = record support { accessors = true }
with_flag support flag.StaticAccessors = record support { static_accessors = true }
with_flag support flag.Stringifiers = record support { stringifiers = true }
with_flag support flag.Comparators = record support { comparators = true }
with_flag support flag.PartialComparators = record support { partial_comparators = true }
with_flag support flag.Iterators = record support { iterators = true }
with_flag support flag.Iterables = record support { iterables = true }
with_flag support flag.Indexing = record support { indexing = true }
with_flag support flag.Arithmetic = record support { arithmetic = true }
with_flag support flag.Option = record support { option = true }
with_flag support flag.Callbacks = record support { callbacks = true }
with_flag support flag.Traits = record support { traits = true }
with_flag support flag.CustomErrors = record support { custom_errors = true }
with_flag support flag.TraitsAreSend = record support { traits_are_send = true }
with_flag support flag.TraitsAreSync = record support { traits_are_sync = true }
with_flag support flag.GenerateMockingInterface = record support { generate_mocking_interface = true }
with_flag support flag.ManuallyDisposable = record support { manually_disposable = true }
with_flag support flag.AbiCompatibles = record support { abi_compatibles = true }
with_flag support flag.StructRefs = record support { struct_refs = true }
with_flag support flag.MutStructRefs = record support { mut_struct_refs = true }
with_flag support flag.FreeFunctions = record support { free_functions = true }
with_flag support flag.CustomBindings = record support { custom_bindings = true }
with_flag support flag.OwnedSlices = record support { owned_slices = true }
with_flag support flag.DefaultArgs = record support { default_args = true }
with_flag support flag.MutableSlices = record support { mutable_slices = true }
with_flag support flag.Tuples = record support { tuples = true }
with_flag support flag.OpaqueSlices = record support { opaque_slices = true }
with_flag support flag.OwnedByteSliceReturns = record support { owned_byte_slice_returns = true }
with_flag support flag.CallbackReturnsMustBeFallible = record support { callback_returns_must_be_fallible = true }
with_flag support flag.GenericWriteables = record support { generic_writeables = true }
with_flag support flag.Utf16Writeables = record support { utf16_writeables = true }

-- ---- by their texts

abbrev pub has_name : List ℕ → SupportFlag → Bool
has_name name f = bytes_eq (flag_text f) name

abbrev pub is_key : Option (List ℕ) → List ℕ → Bool
is_key None text = false
is_key (Some key) text = bytes_eq key text

abbrev pub has_key : List ℕ → SupportFlag → Bool
has_key text f = is_key (flag_key f) text

-- the flag of a name, if there is one
abbrev pub flag_named : List ℕ → Option SupportFlag
flag_named name = find (has_name name) every_flag

-- the flag with a key, if there is one
abbrev pub flag_keyed : List ℕ → Option SupportFlag
flag_keyed text = find (has_key text) every_flag

-- whether the flag with that key is on; none where no flag has it
abbrev pub checked : BackendAttrSupport → List ℕ → Option Bool
checked support text = option_map (flag_on support) (flag_keyed text)
