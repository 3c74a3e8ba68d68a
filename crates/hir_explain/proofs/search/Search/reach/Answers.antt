use Rattle.std.proofs.Common.{◌≡◌, ◌<◌, arith, length, refl, rules, subst, sym}
use Rattle.std.specs.List.{Contains}
use Rattle.hir_explain.specs.inside.Fields.{found_of}
use Rattle.hir_explain.specs.inside.Searching.{IsBoundAt}
use Rattle.hir_explain.proofs.Finding.{found_read, found_room, fresh_from, placed_read, reaches_new}
use Rattle.hir_explain.proofs.search.Search.reach.Goals as goal

pub push_reserved-requires : goal.push_reserved-requires
push_reserved-requires c =
    let below : c.args.lifetime < c.self.inside.env.now.count =
    subst (λ f. c.args.lifetime < f.environment.count) (sym c.self.view_is) c.requires.within in
    let fresh : (Contains c.self.inside.reached.items c.args.lifetime → ⊥) =
    subst (λ f. Contains f.reached c.args.lifetime → ⊥) (sym c.self.view_is) (fresh_from c.place_of.result c.args.self.now c.args.lifetime c.if-is_none.ensures c.place_of.ensures) in
    let room : length c.self.inside.reached.items < c.self.inside.env.now.count =
    found_room c.self.inside.reached.items c.self.inside.places.items c.args.lifetime c.self.inside.env.now.count c.self.invariant.placed c.self.invariant.found.within below fresh in
    omega (arith, room, c.self.invariant.room)

pub push_reserved-requires-then-is_none : goal.push_reserved-requires-then-is_none
push_reserved-requires-then-is_none c =
    let below : c.args.lifetime < c.self.inside.env.now.count =
    subst (λ f. c.args.lifetime < f.environment.count) (sym c.self.view_is) c.requires.within in
    let fresh : (Contains c.self.inside.reached.items c.args.lifetime → ⊥) =
    subst (λ f. Contains f.reached c.args.lifetime → ⊥) (sym c.self.view_is) (fresh_from c.place_of.result c.args.self.now c.args.lifetime c.if-is_none.ensures c.place_of.ensures) in
    let room : length c.self.inside.reached.items < c.self.inside.env.now.count =
    found_room c.self.inside.reached.items c.self.inside.places.items c.args.lifetime c.self.inside.env.now.count c.self.invariant.placed c.self.invariant.found.within below fresh in
    omega (arith, room, c.self.invariant.origins_room, c.self.invariant.found.parallel)

pub invariant_of-self : goal.invariant_of-self
invariant_of-self c =
    let below : c.args.lifetime < c.self.inside.env.now.count =
    subst (λ f. c.args.lifetime < f.environment.count) (sym c.self.view_is) c.requires.within in
    let fresh : (Contains c.self.inside.reached.items c.args.lifetime → ⊥) =
    subst (λ f. Contains f.reached c.args.lifetime → ⊥) (sym c.self.view_is) (fresh_from c.place_of.result c.args.self.now c.args.lifetime c.if-is_none.ensures c.place_of.ensures) in
    let last : c.len.result ≡ length c.self.inside.reached.items = omega (arith, c.len.ensures) in
    record {
      room = search rules;
      origins_room = search rules;
      each = search rules;
      placed =
          placed_read c.self.inside.reached.items c.self.inside.places.items c.args.lifetime c.index.result c.len.result
          c.push_reserved.new.self.items c.index.ensures last c.push_reserved.ensures.items
          c.self.invariant.placed (omega (arith, below, c.self.invariant.each)) fresh;
      found =
          found_read c.self.inside.env.now c.self.inside.reached.items c.self.inside.origins.items _ _ c.args.lifetime c.args.origin
          c.push_reserved.ensures.items c.push_reserved-then-is_none.ensures.items c.self.invariant.found below
          (subst (λ f. 0 < length f.reached → IsBoundAt f c.args.lifetime c.args.origin) (sym c.self.view_is) c.requires.bound);
    }

pub returns-then-is_none : goal.returns-then-is_none
returns-then-is_none c =
    reaches_new (found_of c.self.inside) _ _ c.args.lifetime c.self.view_is refl c.push_reserved.ensures.items
