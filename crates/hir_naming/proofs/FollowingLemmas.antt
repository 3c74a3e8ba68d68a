-- What a path means is what it is found to name.
use Rattle.std.proofs.Common.{◌≡◌, ℕ, zero, suc, ◌+◌, Bool, true, false, cond, List, [], ◌∷◌, ◌++◌, length, Option, Some, None}
use Rattle.std.proofs.Common.{refl, sym, ap, ◌∙◌, subst, codes}
use Rattle.std.specs.Prelude.{option_and_then, ◌||◌}
use Rattle.std.specs.Str.{bytes_eq}
use Rattle.bridge_text.proofs.NameIndexLemmas.{same_text}
use Rattle.bridge_text.specs.NameIndex.{meaning_of}
use Rattle.bridge_decl.specs.declared.modules.Module.{Module}
use Rattle.bridge_ast.specs.AliasCount.{alias_count}
use Rattle.bridge_ast.specs.EnvFaults.{module_at, named_at, parent_and_last}
use Rattle.bridge_ast.specs.Paths.{is_reserved}
use Rattle.bridge_ast.specs.declared.fault.EnvPart.{EnvPart}
use Rattle.bridge_ast.specs.declared.fault.EnvPart.TheVariants as part
use Rattle.bridge_ast.specs.declared.place.ItemPlace.{ItemPlace}
use Rattle.bridge_ast.specs.declared.trail.Head.{Head}
use Rattle.bridge_ast.specs.declared.trail.Head.TheVariants as head
use Rattle.bridge_ast.specs.declared.trail.Next.{Next}
use Rattle.bridge_ast.specs.declared.trail.Next.TheVariants as next
use Rattle.bridge_ast.specs.inside.Resolution.{by_name, item_last, leads, named_item}
use Rattle.bridge_ast.specs.inside.Resolution.{named_within, next_of, path_at, target_at, to_module, to_parent, to_part}
use Rattle.bridge_ast.specs.inside.Resolution.{to_submodule}
use Rattle.bridge_ast.proofs.AdvanceLemmas.{led, leads_by}
use Rattle.hir_naming.specs.Meaning.{as_last, item_along, item_from_part, item_meant, item_within}
use Rattle.hir_naming.specs.Meaning.{parent_number, reserved_number, submodule_number}

-- ---- one segment

parent_same : (modules : List Module) (split : Option (List (List ℕ) × List ℕ))
    → to_parent modules split ≡ to_module (option_and_then (λ ends. module_at modules ends.0) split)
parent_same modules None = refl
parent_same modules (Some (above, last)) = refl

super_same : (modules : List Module) (number : ℕ)
    → to_parent modules (parent_and_last (path_at modules number)) ≡ to_module (parent_number modules number)
super_same modules number = parent_same modules (parent_and_last (path_at modules number))

-- the module that a segment leads to at the start of a path
at_start : (a b c : Bool) (one other : ℕ) (above : Option ℕ) (named : Next) → (a || (b || c)) ≡ true
    → cond a (next.Goes one head.Supers) (cond b (next.Goes other head.Supers) (cond c (to_module above) named))
    ≡ to_module (cond a (Some one) (cond b (Some other) above))
at_start true b c one other above named h = refl
at_start false true c one other above named h = refl
at_start false false true one other above named h = refl
at_start false false false one other above named h = absurd cc

-- a segment that is no name leads to the module that it stands for
reserved_leads : (modules : List Module) (number : ℕ) (at : Head) (segment : List ℕ) → is_reserved at segment ≡ true
    → next_of modules number at segment ≡ to_module (reserved_number modules number segment)
reserved_leads modules number head.Start segment h =
    ap (λ above. cond (bytes_eq segment (codes "crate")) (next.Goes 0 head.Supers)
    (cond (bytes_eq segment (codes "self")) (next.Goes number head.Supers)
    (cond (bytes_eq segment (codes "super")) above (by_name modules number segment)))) (super_same modules number)
    ∙ at_start (bytes_eq segment (codes "crate")) (bytes_eq segment (codes "self")) (bytes_eq segment (codes "super")) 0 number
    (parent_number modules number) (by_name modules number segment) h
reserved_leads modules number head.Supers segment h =
    subst (λ s. next_of modules number head.Supers s ≡ to_module (reserved_number modules number s))
    (sym (same_text segment (codes "super") h)) (super_same modules number)
reserved_leads modules number head.Names segment h = absurd cc

-- a name leads to what has it
name_leads : (modules : List Module) (number : ℕ) (at : Head) (name : List ℕ) → is_reserved at name ≡ false
    → next_of modules number at name ≡ by_name modules number name
name_leads modules number head.Start name h =
    neither (bytes_eq name (codes "crate")) (bytes_eq name (codes "self")) (bytes_eq name (codes "super")) _ _ _
    (by_name modules number name) h
  where
    neither : (a b c : Bool) (x y z w : Next) → (a || (b || c)) ≡ false → cond a x (cond b y (cond c z w)) ≡ w
    neither true b c x y z w h = absurd cc
    neither false true c x y z w h = absurd cc
    neither false false true x y z w h = absurd cc
    neither false false false x y z w h = refl
name_leads modules number head.Supers name h =
    ap (λ b. cond b (to_parent modules (parent_and_last (path_at modules number))) (by_name modules number name)) h
name_leads modules number head.Names name h = refl

-- ---- paths

module _ (anew : ℕ → List (List ℕ) → Option ItemPlace) (modules : List Module) where
  last_same : (number item : ℕ) (rest : List (List ℕ))
      → as_last (record { «module» = number; item = item }) rest ≡ item_last number item rest
  last_same number item [] = refl
  last_same number item (segment ∷ rest) = refl

  part_same : (number : ℕ) (rest : List (List ℕ)) (named : Option EnvPart)
      → item_from_part anew modules number rest named ≡ led anew modules number rest (to_part named)
  part_same number rest (Some (part.Item item)) = last_same number item rest
  part_same number rest (Some (part.Alias alias)) = refl
  part_same number rest (Some part.Module) = refl
  part_same number rest (Some (part.Node item method node)) = refl
  part_same number rest None = refl

  abbrev SameAfter : List (List ℕ) → Type 0
  SameAfter rest = (to : ℕ) (after : Head) → item_along anew modules to after rest ≡ leads anew modules to after rest

  along_reserved : (number : ℕ) (rest : List (List ℕ)) (found : Option ℕ) → SameAfter rest
      → option_and_then (λ to. item_along anew modules to head.Supers rest) found ≡ led anew modules number rest (to_module found)
  along_reserved number rest None later = refl
  along_reserved number rest (Some to) later = later to head.Supers

  abbrev along_name : ℕ → List (List ℕ) → Option EnvPart → Option ℕ → Option ItemPlace
  along_name number rest named found =
      elim found [
        | Some below ↦ item_along anew modules below head.Names rest
        | None ↦ item_from_part anew modules number rest named
      ]

  along_named : (number : ℕ) (rest : List (List ℕ)) (found : Option ℕ) (named : Option EnvPart) → SameAfter rest
      → along_name number rest named found ≡ led anew modules number rest (to_submodule found named)
  along_named number rest None named later = part_same number rest named
  along_named number rest (Some below) named later = later below head.Names

  abbrev along_segment : ℕ → List ℕ → List (List ℕ) → Bool → Option ItemPlace
  along_segment number segment rest reserved =
      elim reserved [
        | true ↦ option_and_then (λ to. item_along anew modules to head.Supers rest) (reserved_number modules number segment)
        | false ↦ along_name number rest (meaning_of (named_at modules number) segment) (submodule_number modules number segment)
      ]

  segment_same : (number : ℕ) (at : Head) (segment : List ℕ) (rest : List (List ℕ)) (reserved : Bool)
      → is_reserved at segment ≡ reserved → SameAfter rest
      → along_segment number segment rest reserved ≡ led anew modules number rest (next_of modules number at segment)
  segment_same number at segment rest true is later =
      along_reserved number rest (reserved_number modules number segment) later
      ∙ ap (led anew modules number rest) (sym (reserved_leads modules number at segment is))
  segment_same number at segment rest false is later =
      along_named number rest (submodule_number modules number segment) (meaning_of (named_at modules number) segment) later
      ∙ ap (led anew modules number rest) (sym (name_leads modules number at segment is))

  -- a path leads to the same item
  along_same : (path : List (List ℕ)) → SameAfter path
  along_same [] number at = refl
  along_same (segment ∷ rest) number at =
      segment_same number at segment rest (is_reserved at segment) refl (along_same rest)
      ∙ sym (leads_by anew modules number at segment rest (next_of modules number at segment) refl)

-- two ways to begin anew that say the same of each path
abbrev AreSame : (ℕ → List (List ℕ) → Option ItemPlace) → (ℕ → List (List ℕ) → Option ItemPlace) → Type 0
AreSame one other = (number : ℕ) (path : List (List ℕ)) → one number path ≡ other number path

module _ (one other : ℕ → List (List ℕ) → Option ItemPlace) (modules : List Module) (same : AreSame one other) where
  led_same : (number : ℕ) (rest : List (List ℕ))
      → ((to : ℕ) (after : Head) → leads one modules to after rest ≡ leads other modules to after rest) → (reached : Next)
      → led one modules number rest reached ≡ led other modules number rest reached
  led_same number rest later (next.Goes to after) = later to after
  led_same number rest later (next.Item item) = refl
  led_same number rest later (next.Alias alias) = same number (target_at modules number alias ++ rest)
  led_same number rest later next.Nothing = refl

  leads_same : (path : List (List ℕ)) (number : ℕ) (at : Head) → leads one modules number at path ≡ leads other modules number at path
  leads_same [] number at = refl
  leads_same (segment ∷ rest) number at =
      leads_by one modules number at segment rest (next_of modules number at segment) refl
      ∙ led_same number rest (leads_same rest) (next_of modules number at segment)
      ∙ sym (leads_by other modules number at segment rest (next_of modules number at segment) refl)

-- also where it is begun anew at aliases
within_same : (steps : ℕ) (modules : List Module) → AreSame (item_within steps modules) (named_within steps modules)
within_same zero modules = λ number path. along_same (λ _ _. None) modules path number head.Start
within_same (suc fewer) modules =
    λ number path. along_same (item_within fewer modules) modules path number head.Start
    ∙ leads_same (item_within fewer modules) (named_within fewer modules) modules (within_same fewer modules) path number head.Start

-- ---- what paths mean

-- a path means the item that it is found to name
pub meant_same : (modules : List Module) (number : ℕ) (path : List (List ℕ))
    → item_meant modules number path ≡ named_item modules number path
meant_same modules number path = within_same (alias_count modules + length path) modules number path
