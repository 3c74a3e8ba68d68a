-- What follows from chains of bounds.
use Rattle.std.proofs.Common.{ℕ, List, [], ◌∷◌, ◌++◌, refl, subst, sym}
use Rattle.hir_life.specs.Outlives.{Direct, Linked, Outlives}

-- a lifetime outlives itself
pub outlives_itself : (longer : ℕ → List ℕ) (l : ℕ) → Outlives longer l l
outlives_itself longer l = record { chain = []; linked = refl }

-- one bound more at the longer end
pub outlives_by_longer : (longer : ℕ → List ℕ) (l m s : ℕ) → Direct longer l m → Outlives longer m s → Outlives longer l s
outlives_by_longer longer l m s first rest = record { chain = m ∷ rest.chain; linked = (first, rest.linked) }

linked_through :
    (longer : ℕ → List ℕ) (l m s : ℕ) (first rest : List ℕ) → Linked longer l first m → Linked longer m rest s
    → Linked longer l (first ++ rest) s
linked_through longer l m s [] rest e k = subst (λ x. Linked longer x rest s) (sym e) k
linked_through longer l m s (n ∷ first) rest h k = (h.0, linked_through longer n m s first rest h.1 k)

-- what outlives what outlives s outlives s
pub outlives_through :
    (longer : ℕ → List ℕ) (l m s : ℕ) → Outlives longer l m → Outlives longer m s → Outlives longer l s
outlives_through longer l m s first rest =
    record {
      chain = first.chain ++ rest.chain;
      linked = linked_through longer l m s first.chain rest.chain first.linked rest.linked;
    }

-- one bound more at the shorter end
pub outlives_by_shorter :
    (longer : ℕ → List ℕ) (l m s : ℕ) → Outlives longer l m → Direct longer m s → Outlives longer l s
outlives_by_shorter longer l m s rest last =
    outlives_through longer l m s rest (outlives_by_longer longer m s s last (outlives_itself longer s))

linked_within :
    (longer : ℕ → List ℕ) (P : ℕ → Type 0) (s : ℕ) → P s → ((k l : ℕ) → P k → Direct longer l k → P l)
    → (l : ℕ) (chain : List ℕ) → Linked longer l chain s → P l
linked_within longer P s at_s closed l [] e = subst P (sym e) at_s
linked_within longer P s at_s closed l (m ∷ chain) h =
    closed m l (linked_within longer P s at_s closed m chain h.1) h.0

-- a set that has s, and with each lifetime its direct bounds, has all that outlives s
pub closed_has_longer :
    (longer : ℕ → List ℕ) (P : ℕ → Type 0) (s : ℕ) → P s → ((k l : ℕ) → P k → Direct longer l k → P l)
    → (l : ℕ) → Outlives longer l s → P l
closed_has_longer longer P s at_s closed l o = linked_within longer P s at_s closed l o.chain o.linked

linked_back :
    (longer shorter : ℕ → List ℕ) → ((l s : ℕ) → Direct longer l s → Direct shorter s l) → (l s : ℕ) (chain : List ℕ)
    → Linked longer l chain s → Outlives shorter s l
linked_back longer shorter back l s [] e = subst (λ x. Outlives shorter x l) e (outlives_itself shorter l)
linked_back longer shorter back l s (m ∷ chain) h =
    outlives_by_shorter shorter s m l (linked_back longer shorter back m s chain h.1) (back l m h.0)

-- where each bound stands at its other end too, so does what they lead to
pub outlives_back :
    (longer shorter : ℕ → List ℕ) → ((l s : ℕ) → Direct longer l s → Direct shorter s l) → (l s : ℕ)
    → Outlives longer l s → Outlives shorter s l
outlives_back longer shorter back l s o = linked_back longer shorter back l s o.chain o.linked
