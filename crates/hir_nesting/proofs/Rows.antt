-- The rows of structs of one kind.
use Rattle.std.proofs.Common.{◌≡◌, arith, ◌<◌, ◌+◌, ℕ, List, [], ◌∷◌, ◌++◌, length, get_or, take, map, refl, ap, sym, ◌∙◌, append_assoc}
use Rattle.std.proofs.lemmas.List.{length-map, length-take-le, map-append, take_more}
use Rattle.hir_ids.specs.declared.ids.TypeId.{TypeId}
use Rattle.hir_definitions.specs.declared.definitions.StructDef.{StructDef}
use Rattle.hir_mentions.specs.Containing.{contained_in}
use Rattle.hir_nesting.specs.Structs.{containment, each_contained, struct_numbers}

module _ {P C O I S T : Type 0} (struct : S → TypeId) (outs others : ℕ) where
  abbrev pub rows : List (StructDef P C O I S T) → List (List ℕ)
  rows defs = map (struct_numbers outs others) (each_contained struct defs)

  rows_push : (defs : List (StructDef P C O I S T)) (def : StructDef P C O I S T) → rows (defs ++ def ∷ []) ≡ rows defs ++ struct_numbers outs others (contained_in struct def.fields) ∷ []
  rows_push [] def = refl
  rows_push (d ∷ defs) def = ap (λ rs. struct_numbers outs others (contained_in struct d.fields) ∷ rs) (rows_push defs def)

  pub rows_more : (defs : List (StructDef P C O I S T)) (i : ℕ) (def : StructDef P C O I S T) → i < length defs → def ≡ get_or defs i def
      → rows (take i defs) ++ struct_numbers outs others (contained_in struct def.fields) ∷ [] ≡ rows (take (i + 1) defs)
  rows_more defs i def within is =
      sym (rows_push (take i defs) def)
      ∙ ap (λ d. rows (take i defs ++ d ∷ [])) is
      ∙ ap rows (sym (take_more defs i def within))

  pub rows_length : (defs : List (StructDef P C O I S T)) → length (rows defs) ≡ length defs
  rows_length defs = length-map (each_contained struct defs) (struct_numbers outs others) ∙ length-map defs (λ def. contained_in struct def.fields)

  pub rows_at : (defs : List (StructDef P C O I S T)) (i : ℕ) → i < length defs → length (rows (take i defs)) ≡ i
  rows_at defs i within = rows_length (take i defs) ∙ length-take-le i defs (omega (arith, within))

-- a row more is filled
pub filled : (before rows : List (List ℕ)) (row : List ℕ) (rest : List (List ℕ)) → (before ++ rows) ++ row ∷ rest ≡ (before ++ (rows ++ row ∷ [])) ++ rest
filled before rows row rest =
    ap (λ rs. rs) (sym (append_assoc (before ++ rows) (row ∷ []) rest))
    ∙ ap (λ rs. rs ++ rest) (append_assoc before rows (row ∷ []))

-- the rows of both kinds are those of the graph
pub both_kinds : {P C O I S T Q D N J U V : Type 0} (out_struct : S → TypeId) (struct : U → TypeId) (outs : List (StructDef P C O I S T)) (others : List (StructDef Q D N J U V))
    → rows out_struct (length outs) (length others) outs ++ rows struct (length outs) (length others) others ≡ containment (each_contained out_struct outs) (each_contained struct others)
both_kinds out_struct struct outs others =
    let first = each_contained out_struct outs in
    let second = each_contained struct others in
    sym (map-append (struct_numbers (length outs) (length others)) first second)
    ∙ ap (λ n. map (struct_numbers n (length others)) (first ++ second)) (sym (length-map outs (λ def. contained_in out_struct def.fields)))
    ∙ ap (λ n. map (struct_numbers (length first) n) (first ++ second)) (sym (length-map others (λ def. contained_in struct def.fields)))
