-- A package's interfaces are told apart in a graph.
use Rattle.std.proofs.Common.{◌≡◌, ℕ, ◌+◌, ◌<◌, List, [], ◌∷◌, ◌++◌, inl, inr, Some, String, sym, subst, ap, ◌∙◌, arith, length}
use Rattle.std.proofs.lemmas.Option.{same_Some}
use Rattle.std.specs.Prelude.{slice_get, string_bytes}
use Rattle.std.specs.declared.alloc.Global.{Global}
use Rattle.wit_types.specs.Package.{package_text}
use Rattle.wit_types.specs.declared.interface.Interface.{Interface}
use Rattle.wit_types.specs.declared.«package».Package.{Package}
use Rattle.wit_features.specs.Features.{FeatureSet}
use Rattle.wit_labels.proofs.Passed.wit_arena-Lists.{get_more}
use Rattle.wit_moves.specs.Moved.{place_of}
use Rattle.wit_names.specs.Names.{ArePackagesKnown}
use Rattle.wit_labels.specs.Passed.wit_plans-Checks.{Standing}
use Rattle.wit_labels.specs.Passed.wit_plans-Moves.{AreMovedInterfaces}
use Rattle.wit_labels.specs.Passed.wit_placed-Order.{interface_places}
use Rattle.wit_labels.proofs.Passed.wit_placed-Own.{interface_from, IsFrom}
use Rattle.wit_graph_worlds.proofs.Passed.wit_uses-Moving.{get_either}
use Rattle.wit_labels.specs.Passed.wit_plain_texts-Plain.{IsPlain}
use Rattle.wit_item_names.specs.Apart.{AreNamedApart, AreOwnNamedApart}
use Rattle.wit_item_names.specs.Placed.{IsNewName, PlacedAreNamedApart}

module _ (features : FeatureSet) (s : Standing) (packages : List Package) (q : Package) (interfaces own new : List Interface) (moved : AreMovedInterfaces features s (length packages) own new)
    (known : ArePackagesKnown packages interfaces) (is_new : IsNewName packages q) (apart : AreNamedApart packages interfaces) (own_apart : AreOwnNamedApart own)
  where
    from : (k : ℕ) (e : Interface) → slice_get new k ≡ Some e → IsFrom features s (length packages) 0 0 (interface_places features [] 0 own) own k e
    from k e at = interface_from features s (length packages) [] 0 own new moved k e at

    new_apart : (i j : ℕ) (d e : Interface) (x y : String Global) → slice_get new i ≡ Some d → slice_get new j ≡ Some e → d.name ≡ Some x → e.name ≡ Some y → string_bytes x ≡ string_bytes y → i ≡ j
    new_apart i j d e x y at_i at_j named_d named_e same =
        let f = from i d at_i in
        let g = from j e at_j in
        let one : f.place ≡ g.place = own_apart.apart f.place g.place f.old g.old x y f.was g.was (sym f.moved.name ∙ named_d) (sym g.moved.name ∙ named_e) same in
        let both : 0 + i ≡ 0 + j = same_Some (0 + i) (0 + j) (sym f.stands ∙ ap (λ (n : ℕ). place_of (interface_places features [] 0 own) (0 + n)) one ∙ g.stands) in
        omega (arith, both)

    -- those that were there belong to other packages
    not_both : (i j p : ℕ) (d e : Interface) → slice_get interfaces i ≡ Some d → slice_get new j ≡ Some e → d.«package» ≡ Some p → e.«package» ≡ Some p → ⊥
    not_both i j p d e at_i at_j of_d of_e =
        let f = from j e at_j in
        let l : p < length packages = known i p d at_i of_d in
        let last : length packages ≡ p = same_Some (length packages) p (sym f.moved.owner_is ∙ of_e) in
        omega (arith, l, last)

    each_apart : (i j p : ℕ) (d e : Interface) (x y : String Global) → slice_get (interfaces ++ new) i ≡ Some d → slice_get (interfaces ++ new) j ≡ Some e → d.«package» ≡ Some p → e.«package» ≡ Some p
        → d.name ≡ Some x → e.name ≡ Some y → string_bytes x ≡ string_bytes y → i ≡ j
    each_apart i j p d e x y at_i at_j of_d of_e named_d named_e same = elim (get_either interfaces new i d at_i) as (λ _. i ≡ j) [
      | inl was_i ↦ elim (get_either interfaces new j e at_j) as (λ _. i ≡ j) [
        | inl was_j ↦ apart.interfaces_apart i j p d e x y was_i was_j of_d of_e named_d named_e same
        | inr new_j ↦ absurd (not_both i new_j.0 p d e was_i new_j.2 of_d of_e)
      ]
      | inr new_i ↦ elim (get_either interfaces new j e at_j) as (λ _. i ≡ j) [
        | inl was_j ↦ absurd (not_both j new_i.0 p e d was_j new_i.2 of_e of_d)
        | inr new_j ↦ new_i.1 ∙ ap (λ (n : ℕ). length interfaces + n) (new_apart new_i.0 new_j.0 d e x y new_i.2 new_j.2 named_d named_e same) ∙ sym new_j.1
      ]
    ]

    of_package : (P : Package → Type 0) → ((p : ℕ) (a : Package) → slice_get packages p ≡ Some a → P a) → P q → (p : ℕ) (a : Package) → slice_get (packages ++ q ∷ []) p ≡ Some a → P a
    of_package P were last p a at = elim (get_more packages q a p at) as (λ _. P a) [ inl was ↦ were p a was | inr here ↦ subst P (sym here.1) last ]

    packages_apart : (i j : ℕ) (a b : Package) → slice_get (packages ++ q ∷ []) i ≡ Some a → slice_get (packages ++ q ∷ []) j ≡ Some b → package_text a.name ≡ package_text b.name → i ≡ j
    packages_apart i j a b at_i at_j same = elim (get_more packages q a i at_i) as (λ _. i ≡ j) [
      | inl was_i ↦ elim (get_more packages q b j at_j) as (λ _. i ≡ j) [
        | inl was_j ↦ apart.packages_apart i j a b was_i was_j same
        | inr last_j ↦ absurd (is_new.fresh i a was_i (same ∙ ap (λ (x : Package). package_text x.name) last_j.1))
      ]
      | inr last_i ↦ elim (get_more packages q b j at_j) as (λ _. i ≡ j) [
        | inl was_j ↦ absurd (is_new.fresh j b was_j (sym same ∙ ap (λ (x : Package). package_text x.name) last_i.1))
        | inr last_j ↦ last_i.0 ∙ sym last_j.0
      ]
    ]

    all_apart : AreNamedApart (packages ++ q ∷ []) (interfaces ++ new)
    all_apart = record {
      packages_apart = packages_apart;
      interfaces_apart = each_apart;
      namespaces = of_package (λ (a : Package). IsPlain (string_bytes a.name.namespace)) apart.namespaces is_new.namespace;
      names = of_package (λ (a : Package). IsPlain (string_bytes a.name.name)) apart.names is_new.name;
      interface_names = λ i d x at named. elim (get_either interfaces new i d at) as (λ _. IsPlain (string_bytes x)) [
        | inl was ↦ apart.interface_names i d x was named
        | inr new_i ↦ (let f = from new_i.0 d new_i.2 in own_apart.names f.place f.old x f.was (sym f.moved.name ∙ named))
      ];
    }

pub placed_apart : PlacedAreNamedApart
placed_apart features s packages q interfaces own new moved known is_new apart own_apart = all_apart features s packages q interfaces own new moved known is_new apart own_apart
