-- The text of a path, one segment after another.
use Rattle.std.proofs.Common.{◌≡◌, ℕ, List, [], ◌∷◌, ◌++◌, append-nil, sym, ap, ◌∙◌}
use Rattle.std.specs.Prelude.{codes}
use Rattle.std.specs.List.{flat_map}
use Rattle.std.proofs.lemmas.List.{append_assoc}
use Rattle.bridge_decl.specs.Names.{joined}

-- the first, and then a separator before each
joined_after : (separator text : List ℕ) (texts : List (List ℕ)) → text ++ flat_map (λ t. separator ++ t) texts ≡ joined separator (text ∷ texts)
joined_after separator text [] = append-nil text
joined_after separator text (next ∷ texts) =
    ap (λ l. text ++ l) (append_assoc separator next (flat_map (λ t. separator ++ t) texts) ∙ ap (λ l. separator ++ l) (joined_after separator next texts))
    ∙ sym (append_assoc text separator (joined separator (next ∷ texts)))

-- so a text grows
pub pushed : (old mid new first : List ℕ) (rest : List (List ℕ)) → mid ≡ old ++ first → new ≡ mid ++ flat_map (λ segment. codes "::" ++ segment) rest
    → new ≡ old ++ joined (codes "::") (first ∷ rest)
pushed old mid new first rest one others =
    others ∙ ap (λ l. l ++ flat_map (λ segment. codes "::" ++ segment) rest) one
    ∙ append_assoc old first (flat_map (λ segment. codes "::" ++ segment) rest) ∙ ap (λ l. old ++ l) (joined_after (codes "::") first rest)
