-- Packages that are named are there.
use Rattle.std.proofs.Common.{◌≡◌, ℕ, ◌<◌, Bool, true, false, List, [], ◌∷◌, inl, inr, Some, refl, sym, subst, ap, map}
use Rattle.std.proofs.lemmas.Option.{same_Some}
use Rattle.std.specs.Map.{lookup}
use Rattle.wit_moves.specs.Passed.wit_order-Order.{Has}
use Rattle.wit_moves.specs.Passed.wit_types-declared-package-Package.{Package}
use Rattle.wit_moves.specs.Passed.wit_types-declared-package-PackageName.{PackageName}
use Rattle.wit_moves.specs.Passed.wit_types-declared-package-UnresolvedPackage.{UnresolvedPackage}
use Rattle.wit_moves.specs.Passed.wit_features-Features.{FeatureSet}
use Rattle.wit_finding.specs.declared.fault.FindFault.{FindFault}
use Rattle.wit_finding.specs.declared.fault.FindFault.TheVariants.{PackageNotFound, ItemNotFound, OutOfMemory}
use Rattle.wit_finding.specs.Packages.{AreNamed}
use Rattle.wit_finding.specs.Asks.{AskBreaks, IsAskCause}
use Rattle.wit_finding.specs.Foreign.{asks_of_package, IsForeignCause}

module _ {K X : Type 0} (test : K → Bool) where
  at_key : (k : K) (y x : X) (es : List (K × X)) (b : Bool) → test k ≡ b → (lookup test es ≡ Some x → (q : K) × Has es (q, x)) → lookup test ((k, y) ∷ es) ≡ Some x → (q : K) × Has ((k, y) ∷ es) (q, x)
  at_key k y x es true t later h = (k, inl (ap (λ (z : X). (k, z)) (sym (same_Some y x (rw t at h)))))
  at_key k y x es false t later h = (let r = later (rw t at h) in (r.0, inr r.1))

  -- what a look-up finds is there
  lookup_has : (es : List (K × X)) (x : X) → lookup test es ≡ Some x → (k : K) × Has es (k, x)
  lookup_has [] x e = absurd cc
  lookup_has ((k, y) ∷ es) x e = at_key k y x es (test k) refl (lookup_has es x) e

pub named_there : {K V : Type 0} (eq : K → K → Bool) (names : List (K × ℕ)) (n : ℕ) (deps : List (K × V)) (ids : List ℕ) → ((e : K × ℕ) → Has names e → e.1 < n) → AreNamed eq names deps ids → (i : ℕ) → Has ids i → i < n
named_there eq names n [] [] there named i h = absurd h
named_there eq names n [] (j ∷ ids) there named i h = absurd named
named_there eq names n (d ∷ deps) [] there named i h = absurd h
named_there eq names n (d ∷ deps) (j ∷ ids) there named i h =
    elim h as (λ _. i < n) [
      | inl here ↦ (let k = lookup_has (eq d.0) names j named.0 in subst (λ (z : ℕ). z < n) (sym here) (there (k.0, j) k.1))
      | inr later ↦ named_there eq names n deps ids there named.1 i later
    ]

pub map_map : {X Y Z : Type 0} (f : X → Y) (g : Y → Z) (xs : List X) → map g (map f xs) ≡ map (λ (x : X). g (f x)) xs
map_map f g [] = refl
map_map {X} {Y} {Z} f g (x ∷ xs) = ap (λ (zs : List Z). g (f x) ∷ zs) (map_map f g xs)

-- a cause of what is asked is one of what the package asks for
pub foreign_cause : (eq : PackageName → PackageName → Bool) (features : FeatureSet) (names : List (PackageName × ℕ)) (packages : List Package) (p : UnresolvedPackage) (ids ids2 : List ℕ) (fault : FindFault)
    → AreNamed eq names p.foreign_deps.entries ids → ids2 ≡ ids → IsAskCause features p.interfaces p.worlds (asks_of_package packages ids2 p) fault → IsForeignCause eq features names packages p fault
foreign_cause eq features names packages p ids ids2 (PackageNotFound at) named e h = absurd h
foreign_cause eq features names packages p ids ids2 (ItemNotFound at) named e h = record { ids = ids; named = named; breaks = subst (λ (l : List ℕ). AskBreaks features p.interfaces p.worlds (asks_of_package packages l p) at) e h }
foreign_cause eq features names packages p ids ids2 OutOfMemory named e h = tt
