-- What follows from chains of edges.
use Rattle.std.proofs.Common.{ℕ, List, [], ◌∷◌, ◌++◌, refl, subst, sym}
use Rattle.definition_graph.specs.Reaching.{Edge, ChainLeads, Leads}

module _ (g : List (List ℕ)) where
  pub leads_itself : (a : ℕ) → Leads g a a
  leads_itself a = record { chain = []; linked = refl }

  -- one edge more at the start
  pub leads_from : (a m b : ℕ) → Edge g a m → Leads g m b → Leads g a b
  leads_from a m b first rest = record { chain = m ∷ rest.chain; linked = (first, rest.linked) }

  linked_through :
      (a m b : ℕ) (first rest : List ℕ) → ChainLeads g a first m → ChainLeads g m rest b → ChainLeads g a (first ++ rest) b
  linked_through a m b [] rest e k = subst (λ x. ChainLeads g x rest b) (sym e) k
  linked_through a m b (n ∷ first) rest h k = (h.0, linked_through n m b first rest h.1 k)

  pub leads_through : (a m b : ℕ) → Leads g a m → Leads g m b → Leads g a b
  leads_through a m b first rest =
      record {
        chain = first.chain ++ rest.chain;
        linked = linked_through a m b first.chain rest.chain first.linked rest.linked;
      }

  -- one edge more at the end
  pub leads_to : (a m b : ℕ) → Leads g a m → Edge g m b → Leads g a b
  leads_to a m b rest last = leads_through a m b rest (leads_from m b b last (leads_itself b))
