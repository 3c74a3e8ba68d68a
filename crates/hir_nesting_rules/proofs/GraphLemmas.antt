-- The graph of lowered structs has an edge exactly where a declared struct holds another one.
use Rattle.std.proofs.Common.{◌≡◌, ℕ, ◌+◌, ◌<◌, List, [], ◌∷◌, ◌++◌, length, map, true, Some, None, if◌then◌else◌, get_or, refl, sym, ap, subst, ◌∙◌, arith}
use Rattle.std.specs.Prelude.{nat_lt, option_map, slice_get}
use Rattle.std.specs.List.{Contains}
use Rattle.std.proofs.lemmas.List.{length-map, map-append}
use Rattle.std.proofs.lemmas.Option.{get_or_from_slice_get, same_Some, slice_get-map, slice_get_within}
use Rattle.bridge_ast.specs.declared.place.ItemPlace.{ItemPlace}
use Rattle.bridge_places.specs.Entries.{IsCatalog}
use Rattle.bridge_places.specs.Places.{places_of}
use Rattle.bridge_places.specs.declared.kinds.Kind.TheVariants as kind
use Rattle.definition_graph.specs.Reaching.{Edge}
use Rattle.hir_ids.specs.declared.ids.TypeId.{TypeId}
use Rattle.hir_ids.specs.declared.ids.TypeId.TheVariants as type
use Rattle.hir_lowering.specs.Interface.{AreNamed, Interface}
use Rattle.hir_lowering.specs.Kinds.{out_struct_made, struct_made}
use Rattle.hir_lowering.specs.Lowered.{AreAllLowered}
use Rattle.hir_lowering.specs.Placing.{form_at}
use Rattle.hir_mentions.specs.Containing.{contained_in}
use Rattle.hir_nesting.specs.Structs.{containment, each_contained, struct_number, struct_numbers}
use Rattle.hir_types.specs.Paths.{returnable_id}
use Rattle.hir_usage_notes.specs.declared.definitions.LoweredDefinitions.{LoweredDefinitions}
use Rattle.hir_nesting_rules.specs.Holding.{HoldsStruct}
use Rattle.hir_nesting_rules.specs.LoweredContainment.{lowered_containment}
use Rattle.hir_nesting_rules.proofs.CatalogLemmas.{IsStruct, StandsAmong, among_outs, among_structs, number_at, stands_among}
use Rattle.hir_nesting_rules.proofs.HeldIds.{id_at}
use Rattle.hir_nesting_rules.proofs.ListLemmas.{filtered, get_back, get_front, in_filtered, parts_given}
use Rattle.hir_nesting_rules.proofs.PlaceLemmas.{held_has_id, holds_struct, id_is_held, ids_at, out_struct_at, struct_at}

lt_true : (n m : ℕ) → n < m → nat_lt n m ≡ true
lt_true n m h = grind arith

-- each of a list as what is made of what is made of it
map_twice : {A B D : Type 0} (f : A → B) (g : B → D) (xs : List A) → map g (map f xs) ≡ map (λ x. g (f x)) xs
map_twice f g [] = refl
map_twice f g (x ∷ xs) = ap (λ ys. g (f x) ∷ ys) (map_twice f g xs)

-- the graph of lists of ids is known where each list is
rows_known : (ids : ItemPlace → List TypeId) (outs ins : List ItemPlace) (out_ids in_ids : List (List TypeId)) → out_ids ≡ map ids outs → in_ids ≡ map ids ins
    → containment out_ids in_ids ≡ map (λ p. struct_numbers (length outs) (length ins) (ids p)) (outs ++ ins)
rows_known ids outs ins out_ids in_ids is_outs is_ins =
    ap (λ os. containment os in_ids) is_outs ∙ ap (containment (map ids outs)) is_ins
    ∙ ap (λ n. map (struct_numbers n (length (map ids ins))) (map ids outs ++ map ids ins)) (length-map outs ids)
    ∙ ap (λ n. map (struct_numbers (length outs) n) (map ids outs ++ map ids ins)) (length-map ins ids)
    ∙ ap (map (struct_numbers (length outs) (length ins))) (sym (map-append ids outs ins))
    ∙ map_twice ids (struct_numbers (length outs) (length ins)) (outs ++ ins)

module _ (it : Interface) where
  abbrev pub out_places : List ItemPlace
  out_places = places_of it.modules kind.OutStruct

  abbrev pub in_places : List ItemPlace
  in_places = places_of it.modules kind.Struct

  -- a node is that of the struct at a place
  abbrev pub IsNodeOf : ℕ → ItemPlace → Type 0
  IsNodeOf a place = slice_get (out_places ++ in_places) a ≡ Some place

  pub one_place : (a : ℕ) (p q : ItemPlace) → IsNodeOf a p → IsNodeOf a q → p ≡ q
  one_place a p q at other = same_Some p q (sym at ∙ other)

  abbrev pub number_of : ItemPlace → ℕ
  number_of place = number_at it.modules it.catalog place

  among_nodes : (p : ItemPlace) → StandsAmong it.modules it.catalog p → IsNodeOf (number_of p) p
  among_nodes p (among_outs id at number named) = subst (λ n. IsNodeOf n p) (sym number) (get_front out_places in_places id p at)
  among_nodes p (among_structs id at number named) = subst (λ n. IsNodeOf n p) (sym number) (get_back out_places in_places id ∙ at)

  among_numbers : (p : ItemPlace) → StandsAmong it.modules it.catalog p → struct_number (length out_places) (length in_places) (id_at it.catalog p) ≡ Some (number_of p)
  among_numbers p (among_outs id at number named) =
      ap (struct_number (length out_places) (length in_places)) named
      ∙ ap (λ b. if b then Some id else None) (lt_true id (length out_places) (slice_get_within out_places id p at)) ∙ ap (λ n. Some n) (sym number)
  among_numbers p (among_structs id at number named) =
      ap (struct_number (length out_places) (length in_places)) named
      ∙ ap (λ b. if b then Some (length out_places + id) else None) (lt_true id (length in_places) (slice_get_within in_places id p at)) ∙ ap (λ n. Some n) (sym number)

  module _ (is_catalog : IsCatalog it.modules it.catalog) (named : AreNamed it.modules it.names) where
    pub struct_is_node : (p : ItemPlace) → IsStruct it.modules p → IsNodeOf (number_of p) p
    struct_is_node p is = among_nodes p (stands_among it.modules it.catalog is_catalog p is)

    pub held_is_node : (p q : ItemPlace) → HoldsStruct it p q → IsNodeOf (number_of q) q
    held_is_node p q h = struct_is_node q (holds_struct it is_catalog named p q h)

    held_is_numbered : (p q : ItemPlace) → HoldsStruct it p q → struct_number (length out_places) (length in_places) (id_at it.catalog q) ≡ Some (number_of q)
    held_is_numbered p q h = among_numbers q (stands_among it.modules it.catalog is_catalog q (holds_struct it is_catalog named p q h))

    module _ (d : LoweredDefinitions) (all : AreAllLowered it d) where
      abbrev row : ItemPlace → List ℕ
      row p = struct_numbers (length out_places) (length in_places) (ids_at it p)

      rows : lowered_containment d ≡ map row (out_places ++ in_places)
      rows =
          rows_known (ids_at it) out_places in_places (each_contained returnable_id d.out_structs.items) (each_contained (λ path. type.Struct path.tcx_id) d.structs.items)
          (parts_given (form_at it out_struct_made) (λ def. contained_in returnable_id def.fields) (ids_at it) (out_struct_at it is_catalog named) out_places d.out_structs.items all.out_structs)
          (parts_given (form_at it struct_made) (λ def. contained_in (λ path. type.Struct path.tcx_id) def.fields) (ids_at it) (struct_at it is_catalog named) in_places d.structs.items all.structs)

      pub out_count : length d.out_structs.items ≡ length out_places
      out_count =
          sym (length-map d.out_structs.items (λ def. contained_in returnable_id def.fields))
          ∙ ap length (parts_given (form_at it out_struct_made) (λ def. contained_in returnable_id def.fields) (ids_at it) (out_struct_at it is_catalog named) out_places d.out_structs.items all.out_structs)
          ∙ length-map out_places (ids_at it)

      pub many_nodes : length (lowered_containment d) ≡ length (out_places ++ in_places)
      many_nodes = ap length rows ∙ length-map (out_places ++ in_places) row

      row_at : (a : ℕ) (p : ItemPlace) → IsNodeOf a p → get_or (lowered_containment d) a [] ≡ row p
      row_at a p at =
          ap (λ g. get_or g a []) rows
          ∙ get_or_from_slice_get (map row (out_places ++ in_places)) a (row p) [] (slice_get-map row (out_places ++ in_places) a ∙ ap (option_map row) at)

      pub edge_down : (a b : ℕ) (p : ItemPlace) → IsNodeOf a p → Edge (lowered_containment d) a b → (q : ItemPlace) × (HoldsStruct it p q × IsNodeOf b q)
      edge_down a b p at edge =
          let from = in_filtered (struct_number (length out_places) (length in_places)) (ids_at it p) b (subst (λ bs. Contains bs b) (row_at a p at) edge) in
          let held = id_is_held it p from.0 from.1.0 in
          let numbered = held_is_numbered p held.0 held.1.0 in
          let same : number_of held.0 ≡ b = same_Some (number_of held.0) b (sym numbered ∙ ap (struct_number (length out_places) (length in_places)) (sym held.1.1) ∙ from.1.1) in
          (held.0, (held.1.0, subst (λ n. IsNodeOf n held.0) same (held_is_node p held.0 held.1.0)))

      pub edge_up : (a : ℕ) (p q : ItemPlace) → IsNodeOf a p → HoldsStruct it p q → Edge (lowered_containment d) a (number_of q)
      edge_up a p q at h =
          subst (λ bs. Contains bs (number_of q)) (sym (row_at a p at))
          (filtered (struct_number (length out_places) (length in_places)) (ids_at it p) (id_at it.catalog q) (number_of q) (held_has_id it p q h) (held_is_numbered p q h))
