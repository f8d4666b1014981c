use Rattle.std.proofs.Common.{◌≡◌, ◌↔◌, ℕ, ◌<◌, inl, inr, List, [], length, Result, Ok, Err, IfOk, sym, subst, ◌∙◌}
use Rattle.std.proofs.lemmas.Option.{same_Some}
use Rattle.wit_order.specs.Order.{Has}
use Rattle.wit_types.specs.declared.interface.Interface.{Interface}
use Rattle.wit_types.specs.declared.«package».Package.{Package}
use Rattle.wit_reach.specs.Paths.{AreRising}
use Rattle.wit_graph.specs.Graph.{IsNamedIn, IsPackageDep}
use Rattle.wit_graph.specs.Packages.{ArePackageDeps, IsOfOther}
use Rattle.wit_graph.specs.declared.tables.Tables.{Tables}
use Rattle.wit_graph.proofs.Depending.{named_within}
use Rattle.wit_graph.proofs.Keeping.{get_has}
use Rattle.wit_graph.proofs.packages.package_deps.Goals as goal

pub named_in-requires-clause-there : goal.named_in-requires-clause-there
named_in-requires-clause-there c = get_has c.args.tables.now.packages c.args.id c.get.result.now c.get.ensures

pub add_owners-requires : goal.add_owners-requires
add_owners-requires c = λ i h.
    let t = c.args.tables.now in
    let has = get_has t.packages c.args.id c.get.result.now c.get.ensures in
    let named : IsNamedIn t c.get.result.now i = (c.in_ok-named.ensures i).0 (subst (λ (l : List ℕ). Has l i) (c.as_slice.ensures.value ∙ c.in_ok-interfaces.ensures) h) in
    subst (λ (ds : List Interface). i < length ds) (sym c.all.ensures) (named_within t c.requires.whole c.law_elaborated_worlds_are_there.ensures c.get.result.now has i named)

both_of : {V E : Type 0} (items : V → List ℕ) (t : Tables) (p : ℕ) (keys : List ℕ) → ((q : ℕ) → Has keys q ↔ IsPackageDep t p q)
    → (r : Result V E) → IfOk r (λ v. items v ≡ keys) → IfOk r (λ v. AreRising (items v)) → IfOk r (λ v. ArePackageDeps t p (items v))
both_of items t p keys are (Ok v) same rising = record { rising = rising; are = λ q. subst (λ (l : List ℕ). Has l q ↔ IsPackageDep t p q) (sym same) (are q) }
both_of items t p keys are (Err e) same rising = same

pub returns : goal.returns
returns c =
    let t : Tables = c.args.tables.now in
    let p : Package = c.get.result.now in
    let slice = c.as_slice.ensures.value ∙ c.in_ok-interfaces.ensures in
    let added = c.in_ok-add_owners.ensures in
    let keys = c.add_owners.new.set.keys in
    let are : (q : ℕ) → Has keys q ↔ IsPackageDep t c.args.id q = λ q. (
      (λ h. elim (added.only q h) as (λ _. IsPackageDep t c.args.id q) [
        | inl none ↦ absurd (let nothing : Has [] q = subst (λ (l : List ℕ). Has l q) c.new-owners.ensures.empty none in nothing)
        | inr new ↦
            let of : IsOfOther t.interfaces.all c.args.id new.0 q = subst (λ (ds : List Interface). IsOfOther ds c.args.id new.0 q) c.all.ensures new.2 in
            record {
              other = of.0;
              «package» = p;
              there = c.get.ensures;
              named = new.0;
              is_named = (c.in_ok-named.ensures new.0).0 (subst (λ (l : List ℕ). Has l new.0) slice new.1);
              interface = of.1.0;
              interface_is = of.1.1;
              owner_is = of.1.2;
            }
      ]),
      (λ dep.
          let same : dep.«package» ≡ p = same_Some dep.«package» p (sym dep.there ∙ c.get.ensures) in
          let named = (c.in_ok-named.ensures dep.named).1 (subst (λ (x : Package). IsNamedIn t x dep.named) same dep.is_named) in
          let of : IsOfOther c.all.result.now c.args.id dep.named q = subst (λ (ds : List Interface). IsOfOther ds c.args.id dep.named q) (sym c.all.ensures) (dep.other, (dep.interface, dep.interface_is, dep.owner_is)) in
          added.new dep.named q (subst (λ (l : List ℕ). Has l dep.named) (sym slice) named) of),
    ) in
    both_of (λ deps. deps.items) t c.args.id keys are c.packages_of.result c.packages_of.ensures.keys c.packages_of.ensures.rising
