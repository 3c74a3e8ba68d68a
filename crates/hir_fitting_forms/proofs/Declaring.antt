-- A declaration whose names fit, and which has no breaches, fits with the numbers of its uses.
use Rattle.std.proofs.Common.{◌≡◌, ℕ, List, [], ◌∷◌, ◌++◌, length, map, true, Option, Some, None, Ok, refl, sym, ap, subst, ◌∙◌, arith}
use Rattle.std.specs.Prelude.{⊤, option_map}
use Rattle.std.specs.List.{flat_map}
use Rattle.std.proofs.lemmas.List.{map-append}
use Rattle.std.proofs.lemmas.List.Elements.{All-head}
use Rattle.bridge_ast.specs.Each.{each_after}
use Rattle.bridge_ast.specs.declared.place.ItemPlace.{ItemPlace}
use Rattle.bridge_decl.specs.Lifetimes.{lifetime_names}
use Rattle.bridge_decl.specs.declared.functions.Function.{Function}
use Rattle.bridge_decl.specs.declared.lifetimes.Lifetime.{Lifetime}
use Rattle.bridge_decl.specs.declared.methods.Method.{Method}
use Rattle.bridge_decl.specs.declared.methods.Param.{Param}
use Rattle.bridge_decl.specs.declared.methods.SelfParam.{SelfParam}
use Rattle.bridge_decl.specs.declared.paths.PathType.{PathType}
use Rattle.bridge_decl.specs.declared.structs.Field.{Field}
use Rattle.bridge_decl.specs.declared.structs.Struct.{Struct}
use Rattle.bridge_decl.specs.declared.traits.TraitMethod.{TraitMethod}
use Rattle.bridge_decl.specs.declared.traits.TraitSelfParam.{TraitSelfParam}
use Rattle.bridge_decl.specs.declared.types.Mutability.{Mutability}
use Rattle.bridge_decl.specs.declared.types.TypeName.{TypeName}
use Rattle.bridge_order.specs.Catalog.{entry_at}
use Rattle.bridge_order.specs.declared.catalog.Catalog.{Catalog}
use Rattle.hir_elide.proofs.BelowLemmas.{Each, each_all}
use Rattle.hir_elide.specs.Numbering.{count_after}
use Rattle.hir_elide.specs.Occurrences.{Borrow, Counting, Occurrence}
use Rattle.hir_elide.specs.Phases.{Defining, Returning, Using}
use Rattle.hir_elide.specs.Signature.{environment_of}
use Rattle.hir_fitting.specs.declared.census.Census.{Census}
use Rattle.hir_form.proofs.EmptyLemmas.{no_cons}
use Rattle.hir_life.specs.Substitution.{AreBelow, IsBelow}
use Rattle.hir_life.specs.declared.maybe_static.MaybeStatic.{MaybeStatic}
use Rattle.hir_number.proofs.ElisionLemmas.{limit_kept, none_of}
use Rattle.hir_number.proofs.FaultLemmas.{each_both}
use Rattle.hir_number.proofs.ArityLemmas.{PlacedFit, numbers_arity}
use Rattle.hir_number.proofs.FitLemmas.{function_arity, method_arity, trait_method_arity}
use Rattle.hir_number.proofs.WithinLemmas.{numbers_within}
use Rattle.hir_number.specs.Arity.{HaveArity, arity_of_use}
use Rattle.hir_number.specs.Breaches.{At, Demand, Equal, Nothing, UnresolvedPath, breaches_of, function_breaches, method_breaches, self_breaches, trait_method_breaches, unknown, use_breaches, uses_of}
use Rattle.hir_number.specs.Naming.{Definition, Naming, trait_found, type_found}
use Rattle.hir_number.specs.Numbered.{AreWithin, receiver_shape, target_of, trait_receiver_shape, trait_target_of}
use Rattle.hir_number.specs.Numbers.{signature_numbers}
use Rattle.hir_number.specs.Occurrences.{elide_occurrence, has_own, signature_with, use_occurrences}
use Rattle.hir_number.specs.Shapes.{NumberLists, borrow_shape, shape}
use Rattle.hir_number.specs.Signatures.{Placed, Section, TraitReturn, Usual, field_uses, function_uses, method_uses, output_uses, param_uses, placed, receiver_borrow, receiver_uses, trait_borrow, trait_method_uses, trait_receiver_uses, without_writer}
use Rattle.hir_number.specs.Uses.{Use, One, Path, borrow_uses, type_use, type_uses}
use Rattle.hir_number.specs.declared.numbered.Kind.{Kind}
use Rattle.hir_number.specs.declared.numbered.NumberedType.{NumberedType}
use Rattle.hir_stages.specs.Filling.{Fill, fill_borrow, fill_each, fill_output, fill_own, fill_trait_own, fill_type}
use Rattle.hir_stages.specs.Numbering.{filled_fields, filled_function, filled_method, filled_trait_method}
use Rattle.hir_fitting_forms.specs.Names.{NumberedName, borrow_names, names_in_signature, names_in_trait_method, names_in_types, output_names, own_names, trait_own_names}
use Rattle.hir_fitting_forms.specs.Naming.{NamesFit}
use Rattle.hir_fitting_forms.specs.NumberedFits.{NameFits, SignatureFits, TraitMethodFits, TypesFit, trait_entered, type_entered}
use Rattle.hir_fitting_forms.proofs.Defined.{definition_fit}
use Rattle.hir_fitting_forms.proofs.Lists.{each_back, each_from_all, each_front}
use Rattle.hir_fitting_forms.proofs.Reading.{Feeds, Leaves, Reads, Serves, borrow_reads, leads, parted, type_reads, types_read}

-- ---- uses that have their numbers

-- a path names something
abbrev IsResolved : Use → Type 0
IsResolved (One l) = ⊤
IsResolved (Path is_self path None) = ⊥
IsResolved (Path is_self path (Some found)) = ⊤

-- so it does where nothing is wrong with it
resolved : (names : List (List ℕ)) (demand : Demand) (us : List Use) → breaches_of names demand us ≡ [] → Each IsResolved us
resolved names demand [] none = tt
resolved names demand (One l ∷ us) none = (tt, resolved names demand us (none_of (unknown names l) (breaches_of names demand us) none).1)
resolved names demand (Path is_self path (Some found) ∷ us) none = (tt, resolved names demand us (none_of (use_breaches names demand (Path is_self path (Some found))) (breaches_of names demand us) none).1)
resolved names demand (Path is_self path None ∷ us) none =
    let parts = none_of (use_breaches names demand (Path is_self path None)) (breaches_of names demand us) none in
    let own = none_of ((UnresolvedPath path ∷ []) ++ self_breaches is_self demand path None) (flat_map (unknown names) path.lifetimes) parts.0 in
    absurd (no_cons (none_of (UnresolvedPath path ∷ []) (self_breaches is_self demand path None) own.0).0)

-- and where it was numbered
named_in_placed : (part : Section) (us : List Use) → Each (PlacedFit 0) (placed part us) → Each IsResolved us
named_in_placed part [] h = tt
named_in_placed part (One l ∷ us) h = (tt, named_in_placed part us h.1)
named_in_placed part (Path is_self path (Some found) ∷ us) h = (tt, named_in_placed part us h.1)
named_in_placed part (Path is_self path None ∷ us) h = absurd h.0.1

serves : (count : ℕ) (u : Use) (ns : List (MaybeStatic ℕ)) → length ns ≡ arity_of_use u → AreBelow count ns → IsResolved u → Serves count u ns
serves count (One l) [] has below is = absurd (omega (arith, has))
serves count (One l) (n ∷ []) has below is = All-head (IsBelow count) n [] below
serves count (One l) (n ∷ k ∷ ns) has below is = absurd (omega (arith, has))
serves count (Path is_self path None) ns has below is = absurd is
serves count (Path is_self path (Some found)) ns has below is = (has, below)

same_first : {A : Type 0} {x y : A} {xs ys : List A} → x ∷ xs ≡ y ∷ ys → x ≡ y
same_first h = cc

same_others : {A : Type 0} {x y : A} {xs ys : List A} → x ∷ xs ≡ y ∷ ys → xs ≡ ys
same_others h = cc

feeds : (count : ℕ) (us : List Use) (nss : NumberLists) → map length nss ≡ map arity_of_use us → Each (AreBelow count) nss → Each IsResolved us → Feeds count us nss []
feeds count [] [] has below are = refl
feeds count [] (ns ∷ nss) has below are = absurd (no_cons has)
feeds count (u ∷ us) [] has below are = absurd (no_cons (sym has))
feeds count (u ∷ us) (ns ∷ nss) has below are = (serves count u ns (same_first has) below.0 are.0, feeds count us nss (same_others has) below.1 are.1)

uses_placed : (part : Section) (us : List Use) → uses_of (placed part us) ≡ us
uses_placed part [] = refl
uses_placed part (u ∷ us) = ap (λ vs. u ∷ vs) (uses_placed part us)

uses_of_both : (ps qs : List Placed) → uses_of (ps ++ qs) ≡ uses_of ps ++ uses_of qs
uses_of_both ps qs = map-append (λ (p : Placed). p.1) ps qs

-- those of a signature, by its parts
uses_of_parts : (first second last : Section) (bs is os : List Use) → uses_of ((placed first bs ++ placed second is) ++ placed last os) ≡ (bs ++ is) ++ os
uses_of_parts first second last bs is os =
    uses_of_both (placed first bs ++ placed second is) (placed last os)
    ∙ ap (λ us. us ++ uses_of (placed last os)) (uses_of_both (placed first bs) (placed second is))
    ∙ ap (λ us. (us ++ uses_of (placed second is)) ++ uses_of (placed last os)) (uses_placed first bs)
    ∙ ap (λ us. (bs ++ us) ++ uses_of (placed last os)) (uses_placed second is)
    ∙ ap (λ us. (bs ++ is) ++ us) (uses_placed last os)

-- what a declaration uses has its numbers: where each path names something
uses_fed : (count : ℕ) (ps : List Placed) (us : List Use) (nss : NumberLists) → uses_of ps ≡ us → HaveArity ps nss → AreWithin count nss → Each IsResolved us → Feeds count us nss []
uses_fed count ps us nss is has within are = feeds count us nss (has ∙ ap (map arity_of_use) is) (each_from_all (AreBelow count) nss within) are

-- ---- parts

module _ (census : Census) (catalog : Catalog) (count : ℕ) (names : Naming) (fit : NamesFit census catalog names) where
  abbrev Fit : NumberedName → Type 0
  Fit = NameFits census catalog count

  own_found : (path : PathType) (o : Option (Definition × Kind)) → type_found (names.type_at path.segments) ≡ o
      → Reads census catalog count (fill_own (option_map target_of o)) own_names (Path true path (option_map (λ found. found.0) o) ∷ [])
  own_found path (Some found) is (l ∷ ls) rest h = ((leads census catalog count (type_entered (entry_at catalog found.0.place)) l found.0.count (fit.types path.segments found is) h.0, tt), h.1)
  own_found path (Some found) is [] rest h = absurd h
  own_found path None is [] rest h = absurd h
  own_found path None is (l ∷ ls) rest h = absurd h.0

  own_reads : (receiver : Option SelfParam) → Reads census catalog count (fill_own (receiver_shape names receiver)) own_names (receiver_uses names receiver)
  own_reads None ns rest h = (tt, h)
  own_reads (Some receiver) ns rest h = own_found receiver.path_type (type_found (names.type_at receiver.path_type.segments)) refl ns rest h

  trait_own_found : (path : PathType) (o : Option Definition) → trait_found (names.trait_at path.segments) ≡ o
      → Reads census catalog count (fill_trait_own (option_map trait_target_of o)) trait_own_names (Path true path o ∷ [])
  trait_own_found path (Some found) is (l ∷ ls) rest h = ((leads census catalog count (trait_entered (entry_at catalog found.place)) l found.count (fit.traits path.segments found is) h.0, tt), h.1)
  trait_own_found path (Some found) is [] rest h = absurd h
  trait_own_found path None is [] rest h = absurd h
  trait_own_found path None is (l ∷ ls) rest h = absurd h.0

  trait_own_reads : (receiver : Option TraitSelfParam) → Reads census catalog count (fill_trait_own (trait_receiver_shape names receiver)) trait_own_names (trait_receiver_uses names receiver)
  trait_own_reads None ns rest h = (tt, h)
  trait_own_reads (Some receiver) ns rest h = trait_own_found receiver.path_trait (trait_found (names.trait_at receiver.path_trait.segments)) refl ns rest h

  output_reads : (output : Option TypeName) → Reads census catalog count (fill_output (option_map (shape names) output)) output_names (output_uses names output)
  output_reads None ns rest h = (tt, h)
  output_reads (Some ty) ns rest h = let made = type_reads census catalog count names fit ty ns rest h in (made.0, made.1)

  params_read : (params : List Param) → Reads census catalog count (fill_each (map fill_type (map (λ param. shape names param.ty) params))) names_in_types (param_uses names params)
  params_read params = types_read census catalog count names fit (λ (param : Param). param.ty) params

  moved : {A : Type 0} (f : Fill A) (of : A → List NumberedName) (us : List Use) → Reads census catalog count f of us → (left mid rest : NumberLists) → left ≡ mid → Feeds count us mid rest
      → Leaves census catalog count of (f left) rest
  moved f of us reads left mid rest same h = subst (λ l. Leaves census catalog count of (f l) rest) (sym same) (reads mid rest h)

  -- the parts of a signature, over what a receiver is
  module _ {B O : Type 0} (fill : B → Fill O) (names_in_own : O → List NumberedName) (borrow : Option (Lifetime × Mutability)) (own : B) (own_uses : List Use)
      (own_made : Reads census catalog count (fill own) names_in_own own_uses) (params : List Param) (output : Option TypeName)
    where
      abbrev borrowed : NumberLists → Option (MaybeStatic ℕ × Mutability) × NumberLists
      borrowed ns = fill_borrow (borrow_shape borrow) ns

      abbrev owned : NumberLists → O × NumberLists
      owned ns = fill own (borrowed ns).1

      abbrev taken : NumberLists → List NumberedType × NumberLists
      taken ns = fill_each (map fill_type (map (λ param. shape names param.ty) params)) (owned ns).1

      abbrev returned : NumberLists → Option NumberedType × NumberLists
      returned ns = fill_output (option_map (shape names) output) (taken ns).1

      abbrev uses_of_all : List Use
      uses_of_all = (borrow_uses borrow ++ (own_uses ++ param_uses names params)) ++ output_uses names output

      parts_known : (ns : NumberLists) → Feeds count uses_of_all ns [] → Each Fit (borrow_names (borrowed ns).0 ++ names_in_own (owned ns).0 ++ names_in_types (taken ns).0 ++ output_names (returned ns).0)
      parts_known ns h =
          let third = parted count (borrow_uses borrow ++ (own_uses ++ param_uses names params)) (output_uses names output) ns [] h in
          let first = parted count (borrow_uses borrow) (own_uses ++ param_uses names params) ns third.0 third.1.0 in
          let second = parted count own_uses (param_uses names params) first.0 third.0 first.1.1 in
          let one = borrow_reads census catalog count borrow ns first.0 first.1.0 in
          let two = moved (fill own) names_in_own own_uses own_made (borrowed ns).1 first.0 second.0 one.1 second.1.0 in
          let three = moved (fill_each (map fill_type (map (λ param. shape names param.ty) params))) names_in_types (param_uses names params) (params_read params) (owned ns).1 second.0 third.0 two.1 second.1.1 in
          let four = moved (fill_output (option_map (shape names) output)) output_names (output_uses names output) (output_reads output) (taken ns).1 third.0 [] three.1 third.1.1 in
          each_both Fit (borrow_names (borrowed ns).0 ++ names_in_own (owned ns).0 ++ names_in_types (taken ns).0) (output_names (returned ns).0)
          (each_both Fit (borrow_names (borrowed ns).0 ++ names_in_own (owned ns).0) (names_in_types (taken ns).0)
          (each_both Fit (borrow_names (borrowed ns).0) (names_in_own (owned ns).0) one.0 two.0) three.0) four.0

-- ---- declarations

module _ (census : Census) (catalog : Catalog) (names : Naming) (fit : NamesFit census catalog names) where
  pub method_numbered : (owner : ItemPlace) (method : Method) (nss : NumberLists) → method_breaches names owner method ≡ []
      → signature_numbers method.lifetime_env (method_uses names method) ≡ Ok nss → SignatureFits census catalog (filled_method names method nss)
  method_numbered owner method nss none is =
      let env = environment_of (signature_with method.lifetime_env (method_uses names method)) in
      let borrow = receiver_borrow method.self_param in
      let rs = receiver_uses names method.self_param in
      let params = without_writer method.params in
      let same = uses_of_parts (Usual (Using Borrow)) (Usual (Using Counting)) (Usual Returning) (borrow_uses borrow) (rs ++ param_uses names params) (output_uses names method.return_type) in
      let sides = none_of (breaches_of (lifetime_names method.lifetime_env) (At owner) (type_use names true method.self_type ∷ []))
      (breaches_of (lifetime_names method.lifetime_env) (Equal method.self_type) (uses_of (method_uses names method))) (limit_kept method.lifetime_env _ none) in
      each_all (NameFits census catalog env.count) (names_in_signature (filled_method names method nss))
      (parts_known census catalog env.count names fit fill_own own_names borrow (receiver_shape names method.self_param) rs (own_reads census catalog env.count names fit method.self_param) params method.return_type nss
      (uses_fed env.count (method_uses names method) _ nss same (method_arity names owner method nss none is) (numbers_within method.lifetime_env (method_uses names method) nss env is refl)
      (subst (Each IsResolved) same (resolved (lifetime_names method.lifetime_env) (Equal method.self_type) (uses_of (method_uses names method)) sides.1))))

  pub function_numbered : (function : Function) (nss : NumberLists) → function_breaches names function ≡ []
      → signature_numbers function.lifetimes (function_uses names function) ≡ Ok nss → SignatureFits census catalog (filled_function names function nss)
  function_numbered function nss none is =
      let env = environment_of (signature_with function.lifetimes (function_uses names function)) in
      let params = without_writer function.params in
      let same = uses_of_parts (Usual (Using Borrow)) (Usual (Using Counting)) (Usual Returning) [] (param_uses names params) (output_uses names function.output_type) in
      each_all (NameFits census catalog env.count) (names_in_signature (filled_function names function nss))
      (parts_known census catalog env.count names fit fill_own own_names None (receiver_shape names None) [] (own_reads census catalog env.count names fit None) params function.output_type nss
      (uses_fed env.count (function_uses names function) _ nss same (function_arity names function nss none is) (numbers_within function.lifetimes (function_uses names function) nss env is refl)
      (subst (Each IsResolved) same (resolved (lifetime_names function.lifetimes) Nothing (uses_of (function_uses names function)) (limit_kept function.lifetimes _ none)))))

  pub trait_method_numbered : (owner : ItemPlace) (method : TraitMethod) (nss : NumberLists) → trait_method_breaches names owner method ≡ []
      → signature_numbers method.lifetimes (trait_method_uses names method) ≡ Ok nss → TraitMethodFits census catalog (filled_trait_method names method nss)
  trait_method_numbered owner method nss none is =
      let env = environment_of (signature_with method.lifetimes (trait_method_uses names method)) in
      let all = lifetime_names method.lifetimes in
      let bs = borrow_uses (trait_borrow method.self_param) in
      let rs = trait_receiver_uses names method.self_param in
      let ps = param_uses names method.params in
      let os = output_uses names method.output_type in
      let same = uses_of_parts (Usual (Using Borrow)) (Usual (Using Counting)) TraitReturn bs (rs ++ ps) os in
      let sides = none_of (breaches_of all (At owner) (bs ++ rs)) (breaches_of all Nothing (ps ++ os)) (limit_kept method.lifetimes _ none) in
      let first = resolved all (At owner) (bs ++ rs) sides.0 in
      let last = resolved all Nothing (ps ++ os) sides.1 in
      each_all (NameFits census catalog env.count) (names_in_trait_method (filled_trait_method names method nss))
      (parts_known census catalog env.count names fit fill_trait_own trait_own_names (trait_borrow method.self_param) (trait_receiver_shape names method.self_param) rs
      (trait_own_reads census catalog env.count names fit method.self_param) method.params method.output_type nss
      (uses_fed env.count (trait_method_uses names method) _ nss same (trait_method_arity names owner method nss none is) (numbers_within method.lifetimes (trait_method_uses names method) nss env is refl)
      (each_both IsResolved (bs ++ (rs ++ ps)) os (each_both IsResolved bs (rs ++ ps) (each_front IsResolved bs rs first) (each_both IsResolved rs ps (each_back IsResolved bs rs first) (each_front IsResolved ps os last)))
      (each_back IsResolved ps os last))))

  -- a definition adds no lifetimes to those that it declares
  none_added : (before : List Placed) (us : List Use) → each_after (λ before p. use_occurrences (has_own before) p) before (placed (Usual Defining) us) ≡ []
  none_added before [] = refl
  none_added before (u ∷ us) = none_added (before ++ (Usual Defining, u) ∷ []) us

  pub fields_numbered : (item : Struct) (nss : NumberLists) → signature_numbers item.lifetimes (field_uses names item.fields) ≡ Ok nss
      → TypesFit census catalog (length item.lifetimes.nodes) (filled_fields names item nss)
  fields_numbered item nss is =
      let env = environment_of (signature_with item.lifetimes (field_uses names item.fields)) in
      let us = flat_map (λ (field : Field). type_uses names field.ty) item.fields in
      let count = length item.lifetimes.nodes in
      let fits = definition_fit item.lifetimes us nss is in
      let counted : env.count ≡ count = ap (λ os. count_after count (map (λ (o : Occurrence). o.lifetime) (map elide_occurrence os))) (none_added [] us) in
      each_all (NameFits census catalog count) (names_in_types (filled_fields names item nss))
      (types_read census catalog count names fit (λ (field : Field). field.ty) item.fields nss []
      (uses_fed count (field_uses names item.fields) us nss (uses_placed (Usual Defining) us) (numbers_arity item.lifetimes 0 (field_uses names item.fields) nss fits is)
      (subst (λ c. AreWithin c nss) counted (numbers_within item.lifetimes (field_uses names item.fields) nss env is refl)) (named_in_placed (Usual Defining) us fits))).0
