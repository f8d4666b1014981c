-- The packages of names are one list, and where they are there none of them isn't.
use Rattle.std.proofs.Common.{◌≡◌, ℕ, zero, suc, Bool, List, [], ◌∷◌, Some, None, refl, sym, ap₂, subst, ◌∙◌}
use Rattle.std.proofs.lemmas.Option.{same_Some}
use Rattle.std.specs.Map.{lookup}
use Rattle.std.specs.Prelude.{slice_get}
use Rattle.wit_words.specs.declared.source_map.Span.{Span}
use Rattle.wit_finding.specs.Packages.{AreNamed, PackagesBreak}

module _ {K V : Type 0} (eq : K → K → Bool) (names : List (K × ℕ)) where
  pub named_one : (deps : List (K × V)) (ids js : List ℕ) → AreNamed eq names deps ids → AreNamed eq names deps js → ids ≡ js
  named_one [] [] [] a b = refl
  named_one [] [] (j ∷ js) a b = absurd b
  named_one [] (i ∷ ids) js a b = absurd a
  named_one (d ∷ deps) [] js a b = absurd a
  named_one (d ∷ deps) (i ∷ ids) [] a b = absurd b
  named_one (d ∷ deps) (i ∷ ids) (j ∷ js) a b = ap₂ (λ (x : ℕ) (xs : List ℕ). x ∷ xs) (same_Some i j (sym a.0 ∙ b.0)) (named_one deps ids js a.1 b.1)

  named_at : (deps : List (K × V)) (ids : List ℕ) (place : ℕ) (d : K × V) → AreNamed eq names deps ids → slice_get deps place ≡ Some d → (i : ℕ) × (lookup (eq d.0) names ≡ Some i)
  named_at [] ids place d a at = absurd cc
  named_at (e ∷ deps) [] place d a at = absurd a
  named_at (e ∷ deps) (i ∷ ids) zero d a at = (i, subst (λ (x : K × V). lookup (eq x.0) names ≡ Some i) (same_Some e d at) a.0)
  named_at (e ∷ deps) (i ∷ ids) (suc place) d a at = named_at deps ids place d a.1 at

  pub no_package_breaks : (deps : List (K × V)) (ids : List ℕ) (spans : List Span) (at : Span) → AreNamed eq names deps ids → PackagesBreak eq names deps spans at → ⊥
  no_package_breaks deps ids spans at a b =
      let is = named_at deps ids b.place b.dep a b.there in
      let none : lookup (eq b.dep.0) names ≡ None = b.unknown in
      let some : lookup (eq b.dep.0) names ≡ Some is.0 = is.1 in
      absurd cc
