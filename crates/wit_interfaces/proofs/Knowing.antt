-- What is known of interfaces, one by one.
use Rattle.std.proofs.Common.{◌≡◌, ℕ, ◌+◌, ◌<◌, suc, Bool, true, false, List, [], ◌∷◌, ◌++◌, inl, inr, length, Option, Some, None, map, take, cond, refl, sym, subst, ap, ◌∙◌, arith}
use Rattle.std.proofs.lemmas.Option.{same_Some, slice_get-map}
use Rattle.std.proofs.lemmas.List.{map_push}
use Rattle.std.proofs.lemmas.Slice.Eq.{bytes_eq-Decides}
use Rattle.std.proofs.lemmas.Bool.{cases_Bool}
use Rattle.std.specs.Prelude.{slice_get, bytes_eq, option_map}
use Rattle.name_places.specs.FirstPlaces.{place_of}
use Rattle.wit_rules.proofs.Places.{taken}
use Rattle.wit_scopes.specs.Scopes.{InterfaceScope}
use Rattle.wit_arena.specs.Tree.{Name}
use Rattle.wit_arena.specs.Table.{Entries}
use Rattle.wit_arena.specs.Meaning.{Has}
use Rattle.wit_arena.proofs.Lists.{get_kept, get_last, get_more}
use Rattle.wit_resolved_scopes.specs.Passed.wit_package_types-Known.{KnownTypes, with_interface, FindsOwn}
use Rattle.wit_resolved_scopes.specs.Each.{AreApartBy}
use Rattle.wit_resolved_scopes.specs.Fit.{type_names, KnowsInterfaces}
use Rattle.wit_resolved_scopes.proofs.Orders.{at_taken}

-- ---- places of names

later : (o : Option ℕ) (q : ℕ) → option_map suc o ≡ Some q → (r : ℕ) × (o ≡ Some r) × (suc r ≡ q)
later None q e = absurd cc
later (Some r) q e = (r, refl, same_Some (suc r) q e)

place_by : (b : Bool) (old new : Option ℕ) (p : ℕ) → ((q : ℕ) → old ≡ Some q → new ≡ Some q) → cond b (Some 0) (option_map suc old) ≡ Some p → cond b (Some 0) (option_map suc new) ≡ Some p
place_by true old new p kept h = h
place_by false old new p kept h = let r = later old p h in ap (option_map suc) (kept r.0 r.1) ∙ ap (λ (q : ℕ). Some q) r.2

pub place_kept : (x : Name) (ns : List Name) (n : Name) (p : ℕ) → place_of x ns ≡ Some p → place_of x (ns ++ n ∷ []) ≡ Some p
place_kept x [] n p h = absurd cc
place_kept x (m ∷ ns) n p h = place_by (bytes_eq x m) (place_of x ns) (place_of x (ns ++ n ∷ [])) p (λ q e. place_kept x ns n q e) h

-- a name that none of them is goes last
pub place_last : (x : Name) (ns : List Name) → (Has ns x → ⊥) → place_of x (ns ++ x ∷ []) ≡ Some (length ns)
place_last x [] none = let e : bytes_eq x x ≡ true = (bytes_eq-Decides x x).1 refl in rw e refl
place_last x (m ∷ ns) none =
    elim (cases_Bool (bytes_eq x m)) as (λ _. place_of x ((m ∷ ns) ++ x ∷ []) ≡ Some (length (m ∷ ns))) [
      | inl t ↦ absurd (none (0, ap (λ (z : Name). Some z) (sym ((bytes_eq-Decides x m).0 t))))
      | inr f ↦ rw f (ap (option_map suc) (place_last x ns (λ has. none (suc has.0, has.1))))
    ]

-- ---- one more interface

finds_kept : (k : KnownTypes) (x : Name) (t : Entries) (i y : Name) (j : ℕ) → FindsOwn k i y j → FindsOwn (with_interface k x t) i y j
finds_kept k x t i y j f = record { place = f.place; first = place_kept i k.names x f.place f.first; table = f.table; there = get_kept k.tables (t ∷ []) f.place f.table f.there; entry = f.entry }

finds_last : (k : KnownTypes) (x : Name) (t : Entries) (y : Name) (j : ℕ) → length k.names ≡ length k.tables → (Has k.names x → ⊥) → Has t (y, j) → FindsOwn (with_interface k x t) x y j
finds_last k x t y j even none has =
    record { place = length k.names; first = place_last x k.names none; table = t; there = ap (slice_get (k.tables ++ t ∷ [])) even ∙ get_last k.tables t; entry = has }

module _ (is : List InterfaceScope) (apart : AreApartBy (λ i. i.name.text) is) (n : ℕ) (i : InterfaceScope) (there : slice_get is n ≡ Some i) where
  -- its name is none of those in front of it
  pub new_name : Has (map (λ j. j.name.text) (take n is)) i.name.text → ⊥
  new_name (p, at) = by (slice_get (take n is) p) refl (sym (slice_get-map (λ (j : InterfaceScope). j.name.text) (take n is) p) ∙ at)
    where
      by : (o : Option InterfaceScope) → slice_get (take n is) p ≡ o → option_map (λ (j : InterfaceScope). j.name.text) o ≡ Some i.name.text → ⊥
      by None e h = absurd cc
      by (Some j) e h =
          let t = at_taken is p n j e in
          let same : p ≡ n = apart p n j i t.1 there (same_Some j.name.text i.name.text h) in
          let less : p < n = t.0 in
          omega (arith, same, less)

  pub knows_more : (k : KnownTypes) (t : Entries) → length k.names ≡ length k.tables → KnowsInterfaces k (take n is) → ((y : Name) → Has (type_names i.members) y → (j : ℕ) × Has t (y, j)) → KnowsInterfaces (with_interface k i.name.text t) (take (n + 1) is)
  knows_more k t even knows types = record {
    names = ap (λ (ns : List Name). ns ++ i.name.text ∷ []) knows.names ∙ sym (map_push (λ (j : InterfaceScope). j.name.text) (take n is) i) ∙ ap (map (λ (j : InterfaceScope). j.name.text)) (sym (taken is n i there));
    types = λ j has. by j (subst (λ (js : List InterfaceScope). Has js j) (taken is n i there) has);
  }
    where
      by : (j : InterfaceScope) → Has (take n is ++ i ∷ []) j → (y : Name) → Has (type_names j.members) y → (id : ℕ) × FindsOwn (with_interface k i.name.text t) j.name.text y id
      by j (p, at) y has =
          elim (get_more (take n is) i j p at) as (λ _. (id : ℕ) × FindsOwn (with_interface k i.name.text t) j.name.text y id) [
            | inl was ↦ (let f = knows.types j (p, was) y has in (f.0, finds_kept k i.name.text t j.name.text y f.0 f.1))
            | inr last ↦
                (let e = types y (subst (λ (z : InterfaceScope). Has (type_names z.members) y) last.1 has) in (
                  e.0,
                  subst (λ (z : InterfaceScope). FindsOwn (with_interface k i.name.text t) z.name.text y e.0) (sym last.1)
                      (finds_last k i.name.text t y e.0 even (λ h. new_name (subst (λ (ns : List Name). Has ns i.name.text) knows.names h)) e.1),
                ))
          ]
