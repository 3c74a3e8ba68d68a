-- The paths in the declarations name the opaque and the structs.
use Rattle.std.proofs.Common.{◌≡◌, ℕ, ◌+◌, ◌<◌, true, false, [], ◌∷◌, ◌++◌, Some, refl, ap, ◌∙◌, arith, length-append}
use Rattle.std.specs.Prelude.{slice_get}
use Rattle.std.proofs.Math.Numerals.{add-one}
use Rattle.std.proofs.lemmas.List.{get_or_append_left}
use Rattle.std.proofs.lemmas.List.FromFn.{get_or-map-range_with_len, length-map-range_with_len}
use Rattle.std.proofs.lemmas.Option.{slice_get-get_or}
use Rattle.bridge_ast.specs.Paths.{by_item, is_reserved}
use Rattle.bridge_ast.specs.Types.{NamesType, is_type}
use Rattle.bridge_ast.specs.declared.trail.Head.TheVariants as head
use Rattle.bridge_decl.specs.Names.{item_name}
use Rattle.bridge_decl.specs.declared.modules.Item.{Item}
use Rattle.bridge_decl.specs.declared.modules.Item.TheVariants as item
use Rattle.bridge_generate.specs.Generated.{functions_below, generated_items, generated_module, path_to_opaque, path_to_struct, struct_numbered, structs_below, the_opaque}

-- the name of an item that is a type names it
names_item : (count at : ℕ) (found : Item) → slice_get (generated_items count) at ≡ Some found → is_type found ≡ true
    → is_reserved head.Start (item_name found) ≡ false
    → NamesType (generated_module count ∷ []) 0 (item_name found ∷ []) found (record { «module» = 0; item = at })
names_item count at found stands is free = record {
  names = by_item _ 0 at head.Start (item_name found) free
      (record { owner = generated_module count; found = found; owner_is = refl; found_is = stands; name_is = refl }) refl;
  stands = stands;
  kind = is;
}

pub names_opaque : (count : ℕ)
    → NamesType (generated_module count ∷ []) 0 path_to_opaque.segments (item.Opaque the_opaque) (record { «module» = 0; item = 0 })
names_opaque count = names_item count 0 (item.Opaque the_opaque) refl refl refl

-- the struct of a number stands after the opaque and as many structs
struct_at : (count number : ℕ) → number < count → slice_get (generated_items count) (number + 1) ≡ Some (item.Struct (struct_numbered number))
unfolding structs_below
struct_at count number within =
    let made : ℕ → Item = λ n. item.Struct (struct_numbered n) in
    let structs = structs_below count in
    let functions = functions_below count in
    let all = length-append structs functions in
    let length_is = length-map-range_with_len made 0 count in
    ap (slice_get (generated_items count)) (add-one number)
    ∙ slice_get-get_or (structs ++ functions) number (made number) (omega arith)
    ∙ ap Some (get_or_append_left structs functions (made number) number (omega arith)
    ∙ get_or-map-range_with_len made 0 count number number (made number) within (omega arith))

pub names_struct : (count number : ℕ) → number < count
    → NamesType (generated_module count ∷ []) 0 (path_to_struct number).segments (item.Struct (struct_numbered number)) (record { «module» = 0; item = number + 1 })
names_struct count number within = names_item count (number + 1) (item.Struct (struct_numbered number)) (struct_at count number within) refl refl
