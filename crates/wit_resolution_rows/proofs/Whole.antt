-- Groups that may be pushed, one behind the other.
use Rattle.std.proofs.Common.{◌≡◌, List, [], ◌∷◌, ◌++◌, subst, inl, inr, sym}
use Rattle.wit_resolution.specs.Groups.{UnresolvedPackageGroup}
use Rattle.wit_resolution_rows.specs.Whole.{AreWhole, IsWhole}

whole_behind : (xs : List UnresolvedPackageGroup) (g : UnresolvedPackageGroup) → AreWhole xs → IsWhole g → AreWhole (xs ++ g ∷ [])
whole_behind [] g all is x has = elim has as (λ _. IsWhole x) [ inl here ↦ subst IsWhole (sym here) is | inr none ↦ absurd none ]
whole_behind (y ∷ xs) g all is x has = elim has as (λ _. IsWhole x) [
  | inl here ↦ all x (inl here)
  | inr later ↦ whole_behind xs g (λ z there. all z (inr there)) is x later
]

-- one more was put behind those
pub whole_more : (xs ys : List UnresolvedPackageGroup) (g : UnresolvedPackageGroup) → AreWhole xs → IsWhole g → ys ≡ xs ++ g ∷ [] → AreWhole ys
whole_more xs ys g all is put = subst AreWhole (sym put) (whole_behind xs g all is)
