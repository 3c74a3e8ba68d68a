-- What the shape of a type that fits has of ids and lifetimes fits.
use Rattle.std.proofs.Common.{◌≡◌, ℕ, List, Bool, true, false, Option, Some, None, sym, subst}
use Rattle.std.specs.Prelude.{⊤}
use Rattle.bridge_decl.specs.declared.types.Mutability.{Mutability}
use Rattle.bridge_decl.specs.declared.types.PrimitiveType.{PrimitiveType}
use Rattle.bridge_decl.specs.declared.types.StdlibOrDiplomat.{StdlibOrDiplomat}
use Rattle.bridge_decl.specs.declared.types.StringEncoding.{StringEncoding}
use Rattle.bridge_order.specs.Catalog.{entry_at, id_of}
use Rattle.bridge_order.specs.declared.catalog.Catalog.{Catalog}
use Rattle.bridge_order.specs.declared.catalog.Entry.{Entry}
use Rattle.bridge_order.specs.declared.catalog.Entry.TheVariants as entry
use Rattle.bridge_rules.specs.Shapes.{box_shape, element_item, element_option, element_reference, item_shape, lent_for, level_element, level_entry, level_option, level_optional_element, named_entry, option_of_box, option_of_item, option_of_reference, out_struct_value, reference_shape, shape_of, shape_of_level, slice_borrow, slice_of_primitives, struct_value, text_slice}
use Rattle.bridge_rules.specs.declared.shape.Element.{Element}
use Rattle.bridge_rules.specs.declared.shape.Element.TheVariants as element
use Rattle.bridge_rules.specs.declared.shape.FlatSlice.{FlatSlice}
use Rattle.bridge_rules.specs.declared.shape.FlatSlice.TheVariants as flat
use Rattle.bridge_rules.specs.declared.shape.Shape.{Shape}
use Rattle.bridge_rules.specs.declared.shape.Shape.TheVariants as shape
use Rattle.bridge_rules.specs.declared.shape.Value.{Value}
use Rattle.bridge_rules.specs.declared.shape.Value.TheVariants as value
use Rattle.hir_elide.proofs.BelowLemmas.{Each}
use Rattle.hir_fitting.specs.Census.{IsThere}
use Rattle.hir_fitting.specs.Fitting.{Fits}
use Rattle.hir_fitting.specs.declared.census.Census.{Census}
use Rattle.hir_fitting.proofs.Deciding.{there_from_arity}
use Rattle.hir_form.specs.Forms.{Generics}
use Rattle.hir_form.specs.TypeForms.{generics_in, generics_step}
use Rattle.hir_ids.specs.declared.ids.SymbolId.{SymbolId}
use Rattle.hir_ids.specs.declared.ids.SymbolId.TheVariants as symbol
use Rattle.hir_ids.specs.declared.ids.TypeId.TheVariants as type
use Rattle.hir_ids.specs.declared.owners.Borrow.{Borrow}
use Rattle.hir_life.specs.Substitution.{IsBelow}
use Rattle.hir_life.specs.declared.maybe_static.MaybeStatic.{MaybeStatic}
use Rattle.hir_mentions.specs.Mentions.{Path}
use Rattle.hir_number.specs.declared.numbered.NumberedType.{NumberedType, map-NumberedType, out-NumberedType}
use Rattle.hir_number.specs.declared.numbered.NumberedType.TheOpen.{NumberedType-F}
use Rattle.hir_number.specs.declared.numbered.NumberedType.TheFolds.{fold_out-NumberedType}
use Rattle.hir_fitting_forms.specs.Names.{NumberedName, borrow_names, level_names, names_in_type, text_names}
use Rattle.hir_fitting_forms.specs.NumberedFits.{NameFits, PathFits, trait_entered, type_entered}
use Rattle.hir_fitting_forms.proofs.Lists.{each_front, each_back}

-- ---- one level

pub names_of_level : (ty : NumberedType) → names_in_type ty ≡ level_names (map-NumberedType _ _ names_in_type (out-NumberedType ty))
names_of_level ty = fold_out-NumberedType (List NumberedName) level_names ty

generics_of_level : (ty : NumberedType) → generics_in ty ≡ generics_step (map-NumberedType _ _ generics_in (out-NumberedType ty))
generics_of_level ty = fold_out-NumberedType Generics generics_step ty

-- the id of a struct, which may be one that only comes out
abbrev pub struct_symbol : Bool → ℕ → SymbolId
struct_symbol true id = symbol.TypeId (type.OutStruct id)
struct_symbol false id = symbol.TypeId (type.Struct id)

module _ (census : Census) (count : ℕ) where
  -- a path to this gives these
  abbrev pub Leads : SymbolId → Generics → Type 0
  Leads id ls = Fits census (Some count) (Path id ls)

  abbrev pub LeadsToOpaque : ℕ → Generics → Type 0
  LeadsToOpaque id ls = Leads (symbol.TypeId (type.Opaque id)) ls

  abbrev pub HasEnum : ℕ → Type 0
  HasEnum id = IsThere census (symbol.TypeId (type.Enum id))

  abbrev pub Lends : Borrow → Type 0
  Lends b = IsBelow count b.lifetime

  -- ---- parts of shapes, where the one path in them gives these lifetimes

  abbrev pub ValueFits : Generics → Value → Type 0
  ValueFits ls (value.Primitive p) = ⊤
  ValueFits ls (value.Enum id) = HasEnum id
  ValueFits ls (value.Struct id) = Leads (struct_symbol false id) ls
  ValueFits ls (value.Empty id) = Leads (struct_symbol false id) ls
  ValueFits ls (value.EmptyOut id) = Leads (struct_symbol true id) ls
  ValueFits ls (value.OutStruct id) = Leads (struct_symbol true id) ls

  abbrev pub FlatFits : FlatSlice → Type 0
  FlatFits (flat.Str l e) = IsBelow count l
  FlatFits (flat.OwnedStr e) = ⊤
  FlatFits (flat.Primitives b p) = Lends b
  FlatFits (flat.OwnedPrimitives p) = ⊤

  abbrev pub ElementFits : Generics → Element → Type 0
  ElementFits ls (element.Value v) = ValueFits ls v
  ElementFits ls element.Opaque = ⊤
  ElementFits ls (element.OpaqueReference b id mark) = LeadsToOpaque id ls × Lends b
  ElementFits ls (element.OpaqueOption b id d) = LeadsToOpaque id ls × Lends b
  ElementFits ls element.Other = ⊤

  abbrev pub MayLend : Option Borrow → Type 0
  MayLend None = ⊤
  MayLend (Some b) = Lends b

  -- ---- shapes

  abbrev pub ShapeFits : Generics → Shape → Type 0
  ShapeFits ls (shape.Value v) = ValueFits ls v
  ShapeFits ls (shape.ImplTrait id) = Leads (symbol.TraitId id) ls
  ShapeFits ls (shape.OpaqueReference b id mark) = LeadsToOpaque id ls × Lends b
  ShapeFits ls (shape.StructReference b id) = Leads (struct_symbol false id) ls × Lends b
  ShapeFits ls (shape.OutStructReference b id) = Leads (struct_symbol true id) ls × Lends b
  ShapeFits ls (shape.OpaqueBox id) = LeadsToOpaque id ls
  ShapeFits ls (shape.OptionOfReference b id d) = LeadsToOpaque id ls × Lends b
  ShapeFits ls (shape.OptionOfBox id d) = LeadsToOpaque id ls
  ShapeFits ls (shape.OptionOfValue v d) = ValueFits ls v
  ShapeFits ls (shape.OptionOfFlat f) = FlatFits f
  ShapeFits ls (shape.Flat f) = FlatFits f
  ShapeFits ls (shape.Slice b e) = ElementFits ls e × MayLend b
  ShapeFits ls _ = ⊤

  -- ---- entries

  -- what is there, where something is named
  abbrev EntryFits : Generics → Option Entry → Type 0
  EntryFits ls None = ⊤
  EntryFits ls (Some e) = PathFits census count (type_entered e) ls

  pub enum_there : (id : ℕ) (ls : Generics) → Leads (symbol.TypeId (type.Enum id)) ls → HasEnum id
  enum_there id ls h = there_from_arity census (symbol.TypeId (type.Enum id)) _ h.0

  struct_value_fits : (id : ℕ) (b : Bool) (ls : Generics) → Leads (struct_symbol false id) ls → ValueFits ls (struct_value id b)
  struct_value_fits id true ls h = h
  struct_value_fits id false ls h = h

  out_value_fits : (id : ℕ) (b : Bool) (ls : Generics) → Leads (struct_symbol true id) ls → ValueFits ls (out_struct_value id b)
  out_value_fits id true ls h = h
  out_value_fits id false ls h = h

  item_fits : (ls : Generics) (e : Entry) → PathFits census count (type_entered e) ls → ShapeFits ls (item_shape e)
  item_fits ls (entry.Struct id b) h = struct_value_fits id b ls h
  item_fits ls (entry.OutStruct id b) h = out_value_fits id b ls h
  item_fits ls (entry.Opaque id mark) h = tt
  item_fits ls (entry.Enum id) h = enum_there id ls h
  item_fits ls (entry.Trait id) h = absurd h
  item_fits ls (entry.Function id) h = absurd h

  pub trait_fits : (ls : Generics) (e : Entry) → PathFits census count (trait_entered e) ls → Leads (symbol.TraitId (id_of e)) ls
  trait_fits ls (entry.Trait id) h = h
  trait_fits ls (entry.Struct id b) h = absurd h
  trait_fits ls (entry.OutStruct id b) h = absurd h
  trait_fits ls (entry.Opaque id mark) h = absurd h
  trait_fits ls (entry.Enum id) h = absurd h
  trait_fits ls (entry.Function id) h = absurd h

  reference_fits : (ls : Generics) (b : Borrow) (e : Option Entry) → EntryFits ls e → Lends b → ShapeFits ls (reference_shape b e)
  reference_fits ls b (Some (entry.Opaque id mark)) h lends = (h, lends)
  reference_fits ls b (Some (entry.Struct id has_fields)) h lends = (h, lends)
  reference_fits ls b (Some (entry.OutStruct id has_fields)) h lends = (h, lends)
  reference_fits ls b _ h lends = tt

  box_fits : (ls : Generics) (e : Option Entry) → EntryFits ls e → ShapeFits ls (box_shape e)
  box_fits ls (Some (entry.Opaque id mark)) h = h
  box_fits ls _ h = tt

  -- ---- options

  option_item_fits : (ls : Generics) (e : Entry) (d : StdlibOrDiplomat) → PathFits census count (type_entered e) ls → ShapeFits ls (option_of_item e d)
  option_item_fits ls (entry.Struct id b) d h = struct_value_fits id b ls h
  option_item_fits ls (entry.OutStruct id b) d h = out_value_fits id b ls h
  option_item_fits ls (entry.Opaque id mark) d h = tt
  option_item_fits ls (entry.Enum id) d h = enum_there id ls h
  option_item_fits ls (entry.Trait id) d h = tt
  option_item_fits ls (entry.Function id) d h = absurd h

  option_reference_fits : (ls : Generics) (b : Borrow) (e : Option Entry) (d : StdlibOrDiplomat) → EntryFits ls e → Lends b → ShapeFits ls (option_of_reference b e d)
  option_reference_fits ls b (Some (entry.Opaque id mark)) d h lends = (h, lends)
  option_reference_fits ls b _ d h lends = tt

  option_box_fits : (ls : Generics) (e : Option Entry) (d : StdlibOrDiplomat) → EntryFits ls e → ShapeFits ls (option_of_box e d)
  option_box_fits ls (Some (entry.Opaque id mark)) d h = h
  option_box_fits ls _ d h = tt

  -- ---- elements of slices

  element_item_fits : (ls : Generics) (e : Entry) → PathFits census count (type_entered e) ls → ElementFits ls (element_item e)
  element_item_fits ls (entry.Struct id b) h = struct_value_fits id b ls h
  element_item_fits ls (entry.OutStruct id b) h = out_value_fits id b ls h
  element_item_fits ls (entry.Opaque id mark) h = tt
  element_item_fits ls (entry.Enum id) h = enum_there id ls h
  element_item_fits ls (entry.Trait id) h = tt
  element_item_fits ls (entry.Function id) h = absurd h

  element_reference_fits : (ls : Generics) (b : Borrow) (e : Option Entry) → EntryFits ls e → Lends b → ElementFits ls (element_reference b e)
  element_reference_fits ls b (Some (entry.Opaque id mark)) h lends = (h, lends)
  element_reference_fits ls b _ h lends = tt

  element_option_fits : (ls : Generics) (b : Borrow) (e : Option Entry) (d : StdlibOrDiplomat) → EntryFits ls e → Lends b → ElementFits ls (element_option b e d)
  element_option_fits ls b (Some (entry.Opaque id mark)) d h lends = (h, lends)
  element_option_fits ls b _ d h lends = tt

  -- ---- types

  module _ (catalog : Catalog) where
    abbrev pub Known : NumberedName → Type 0
    Known = NameFits census catalog count

    abbrev pub AllKnown : NumberedType → Type 0
    AllKnown ty = Each Known (names_in_type ty)

    abbrev names_inside : NumberedType-F NumberedType → List NumberedName
    names_inside x = level_names (map-NumberedType NumberedType (List NumberedName) names_in_type x)

    abbrev generics_inside : NumberedType-F NumberedType → Generics
    generics_inside x = generics_step (map-NumberedType NumberedType Generics generics_in x)

    pub known_at_level : (ty : NumberedType) → AllKnown ty → Each Known (names_inside (out-NumberedType ty))
    known_at_level ty h = subst (Each Known) (names_of_level ty) h

    text_fits : (l : Option (MaybeStatic ℕ)) (e : StringEncoding) → Each Known (text_names l) → FlatFits (text_slice l e)
    text_fits (Some l) e h = h.0
    text_fits None e h = tt

    primitives_fit : (b : Option (MaybeStatic ℕ × Mutability)) (p : PrimitiveType) → Each Known (borrow_names b) → FlatFits (slice_of_primitives b p)
    primitives_fit (Some b) p h = h.0
    primitives_fit None p h = tt

    pub may_lend : (b : Option (MaybeStatic ℕ × Mutability)) → Each Known (borrow_names b) → MayLend (slice_borrow b)
    may_lend (Some b) h = h.0
    may_lend None h = tt

    -- what a type names, where it is a name
    entry_level : (x : NumberedType-F NumberedType) → Each Known (names_inside x) → EntryFits (generics_inside x) (level_entry catalog x)
    entry_level (NumberedType-F.Named t) h = h.0
    entry_level (NumberedType-F.SelfType t) h = h.0
    entry_level _ h = tt

    -- what holds of one level with its generics holds of the type
    lifted : (Q : Generics → NumberedType-F NumberedType → Type 0) (ty : NumberedType)
        → ((x : NumberedType-F NumberedType) → Each Known (names_inside x) → Q (generics_inside x) x) → AllKnown ty → Q (generics_in ty) (out-NumberedType ty)
    lifted Q ty level h = subst (λ ls. Q ls (out-NumberedType ty)) (sym (generics_of_level ty)) (level (out-NumberedType ty) (known_at_level ty h))

    entry_fits : (ty : NumberedType) → AllKnown ty → EntryFits (generics_in ty) (named_entry catalog ty)
    entry_fits ty h = lifted (λ ls x. EntryFits ls (level_entry catalog x)) ty entry_level h

    option_level : (d : StdlibOrDiplomat) (x : NumberedType-F NumberedType) → Each Known (names_inside x) → ShapeFits (generics_inside x) (level_option catalog d x)
    option_level d (NumberedType-F.Named t) h = option_item_fits t.lifetimes (entry_at catalog t.place) d h.0
    option_level d (NumberedType-F.SelfType t) h = option_item_fits t.lifetimes (entry_at catalog t.place) d h.0
    option_level d (NumberedType-F.Reference l m t) h = option_reference_fits (generics_in t) (lent_for l m) (named_entry catalog t) d (entry_fits t h.1) h.0
    option_level d (NumberedType-F.Box t) h = option_box_fits (generics_in t) (named_entry catalog t) d (entry_fits t h)
    option_level d (NumberedType-F.StrReference l e c) h = text_fits l e h
    option_level d (NumberedType-F.PrimitiveSlice b p c) h = primitives_fit b p h
    option_level d _ h = tt

    optional_element_level : (d : StdlibOrDiplomat) (x : NumberedType-F NumberedType) → Each Known (names_inside x) → ElementFits (generics_inside x) (level_optional_element catalog d x)
    optional_element_level d (NumberedType-F.Reference l m t) h = element_option_fits (generics_in t) (lent_for l m) (named_entry catalog t) d (entry_fits t h.1) h.0
    optional_element_level d _ h = tt

    element_level : (x : NumberedType-F NumberedType) → Each Known (names_inside x) → ElementFits (generics_inside x) (level_element catalog x)
    element_level (NumberedType-F.Named t) h = element_item_fits t.lifetimes (entry_at catalog t.place) h.0
    element_level (NumberedType-F.SelfType t) h = element_item_fits t.lifetimes (entry_at catalog t.place) h.0
    element_level (NumberedType-F.Reference l m t) h = element_reference_fits (generics_in t) (lent_for l m) (named_entry catalog t) (entry_fits t h.1) h.0
    element_level (NumberedType-F.Option t d) h = lifted (λ ls x. ElementFits ls (level_optional_element catalog d x)) t (optional_element_level d) h
    element_level _ h = tt

    shape_level : (x : NumberedType-F NumberedType) → Each Known (names_inside x) → ShapeFits (generics_inside x) (shape_of_level catalog x)
    shape_level (NumberedType-F.Named t) h = item_fits t.lifetimes (entry_at catalog t.place) h.0
    shape_level (NumberedType-F.SelfType t) h = item_fits t.lifetimes (entry_at catalog t.place) h.0
    shape_level (NumberedType-F.ImplTrait t) h = trait_fits t.lifetimes (entry_at catalog t.place) h.0
    shape_level (NumberedType-F.Reference l m t) h = reference_fits (generics_in t) (lent_for l m) (named_entry catalog t) (entry_fits t h.1) h.0
    shape_level (NumberedType-F.Box t) h = box_fits (generics_in t) (named_entry catalog t) (entry_fits t h)
    shape_level (NumberedType-F.Option t d) h = lifted (λ ls x. ShapeFits ls (level_option catalog d x)) t (option_level d) h
    shape_level (NumberedType-F.StrReference l e d) h = text_fits l e h
    shape_level (NumberedType-F.PrimitiveSlice b p d) h = primitives_fit b p h
    shape_level (NumberedType-F.CustomTypeSlice b t d) h = (
      lifted (λ ls x. ElementFits ls (level_element catalog x)) t element_level (each_back Known (borrow_names b) (names_in_type t) h),
      may_lend b (each_front Known (borrow_names b) (names_in_type t) h),
    )
    shape_level _ h = tt

    pub shape_fits : (ty : NumberedType) → AllKnown ty → ShapeFits (generics_in ty) (shape_of catalog ty)
    shape_fits ty h = lifted (λ ls x. ShapeFits ls (shape_of_level catalog x)) ty shape_level h
