-- The versions of packages that are named, one in front of the others.
use Rattle.std.proofs.Common.{◌≡◌, ℕ, ◌+◌, ◌<◌, suc, zero, List, Some, ◌∷◌, length, get_or, refl, sym, subst}
use Rattle.std.proofs.lemmas.Option.{same_Some}
use Rattle.std.specs.Prelude.{slice_get}
use Rattle.wit_syntax.specs.Ast.{PackageNameTree}
use Rattle.wit_rules.specs.declared.fault.PackageFault.{PackageFault}
use Rattle.wit_placeholders.specs.Passed.wit_foreign-declared-needs-Need.{Need}
use Rattle.wit_placeholders.specs.Passed.wit_foreign-Needs.{NeedTree}
use Rattle.wit_placeholders.specs.Passed.wit_foreign-View as asked
use Rattle.wit_rules.specs.Breaks.{Breaks, IsKept, IsFaultOf, VersionWhereBreaks}
use Rattle.wit_rules.proofs.Breaking.{widened, AreKept, kept_more, all_kept, one_breaks, viewed_kept, viewed_breaks}
use Rattle.wit_rules.proofs.Places.{read_at}
use Rattle.wit_package.specs.Faults.{VersionsBreak, packages_in}

module _ (p : PackageNameTree) (ps : List PackageNameTree) where
  pub first_breaks : (fault : PackageFault) → IsFaultOf (VersionWhereBreaks p.version) fault → IsFaultOf (VersionsBreak (p ∷ ps)) fault
  first_breaks = widened (VersionWhereBreaks p.version) (VersionsBreak (p ∷ ps)) (λ rule at b. record { place = 0; one = p; there = refl; breaks = b })

  pub others_break : (fault : PackageFault) → IsFaultOf (VersionsBreak ps) fault → IsFaultOf (VersionsBreak (p ∷ ps)) fault
  others_break = widened (VersionsBreak ps) (VersionsBreak (p ∷ ps)) (λ rule at b. record { place = suc b.place; one = b.one; there = b.there; breaks = b.breaks })

  pub names_kept : IsKept (VersionWhereBreaks p.version) → IsKept (VersionsBreak ps) → IsKept (VersionsBreak (p ∷ ps))
  names_kept first others rule at b = found b.place b.there
    where
      found : (n : ℕ) → slice_get (p ∷ ps) n ≡ Some b.one → ⊥
      found zero there = first rule at (subst (λ (z : PackageNameTree). VersionWhereBreaks z.version rule at) (sym (same_Some p b.one there)) b.breaks)
      found (suc n) there = others rule at (record { place = n; one = b.one; there = there; breaks = b.breaks })

-- a need breaks what the package does of which it asks
abbrev pub need_breaks : Need → Breaks
need_breaks n = VersionWhereBreaks (asked.need n).«package».version

module _ (needs : List Need) where
  abbrev by_tree : NeedTree → Breaks
  by_tree n = VersionWhereBreaks n.«package».version

  abbrev by_name : PackageNameTree → Breaks
  by_name p = VersionWhereBreaks p.version

  pub next_kept : (k : ℕ) (n : Need) → k < length needs → n ≡ get_or needs k n → AreKept need_breaks needs k → IsKept (need_breaks n) → AreKept need_breaks needs (k + 1)
  next_kept k n within here = kept_more need_breaks needs k n (read_at needs k n within here)

  pub needs_kept : AreKept need_breaks needs (length needs) → IsKept (VersionsBreak (packages_in (asked.needs needs)))
  needs_kept kept = viewed_kept by_name (λ (n : NeedTree). n.«package») (asked.needs needs) (viewed_kept by_tree asked.need needs (all_kept need_breaks needs kept))

  pub need_is_broken : (k : ℕ) (n : Need) → k < length needs → n ≡ get_or needs k n → (fault : PackageFault) → IsFaultOf (need_breaks n) fault → IsFaultOf (VersionsBreak (packages_in (asked.needs needs))) fault
  need_is_broken k n within here fault is =
      viewed_breaks by_name (λ (n : NeedTree). n.«package») (asked.needs needs) fault
      (viewed_breaks by_tree asked.need needs fault (one_breaks need_breaks needs k n (read_at needs k n within here) fault is))
