-- Attributes that keep their rules are gates whose versions are read.
use Rattle.std.proofs.Common.{◌≡◌, ℕ, Bool, true, false, List, [], ◌∷◌, Option, Some, None, Result, Ok, Err, inl, inr, refl}
use Rattle.std.proofs.lemmas.Bool.{cases_Bool}
use Rattle.std.specs.Prelude.{is_ok}
use Rattle.semver.specs.Parse.{version_parts}
use Rattle.wit_types.specs.Passed.wit_words-Slice.{Slice}
use Rattle.wit_rules.specs.Passed.wit_items-ItemTree.{AttributeTree}
use Rattle.wit_rules.specs.declared.fault.PackageRule.TheVariants.{BadGate, BadVersion}
use Rattle.wit_rules.specs.Gates.{GatesTree, ungated, of_feature, from_version, gates_in}
use Rattle.wit_rules.specs.Breaks as fact
use Rattle.wit_rules.specs.Breaks.{IsKept, VersionBreaks, VersionWhereBreaks, GateVersionsBreak, GatesBreak}
use Rattle.wit_package_types.specs.Stability.{IsRead, IsReadWhere, AreVersionsRead, AreGates}

read_of : {X E : Type 0} (r : Result X E) → is_ok r ≡ true → (x : X) × (r ≡ Ok x)
read_of (Ok x) h = (x, refl)
read_of (Err e) h = absurd cc

pub version_read : (v : Slice) → IsKept (VersionBreaks v) → IsRead v
version_read v kept = elim (cases_Bool (is_ok (version_parts v.text))) as (λ _. IsRead v) [
  | inl t ↦ read_of (version_parts v.text) t
  | inr f ↦ absurd (kept BadVersion v.span (record { rule_is = refl; unread = f; place = refl }))
]

pub version_read_where : (v : Option Slice) → IsKept (VersionWhereBreaks v) → IsReadWhere v
version_read_where None kept = tt
version_read_where (Some v) kept = version_read v kept

versions_read : (g : GatesTree) → IsKept (GateVersionsBreak g) → AreVersionsRead g
versions_read ungated kept = tt
versions_read (of_feature f d) kept = version_read_where d kept
versions_read (from_version v d) kept = (version_read v (λ r at b. kept r at (inl b)), version_read_where d (λ r at b. kept r at (inr b)))

pub gates_ready : (attributes : List AttributeTree) → IsKept (GatesBreak attributes) → AreGates attributes
gates_ready attributes kept = by (gates_in attributes) refl
  where
    formed : (all : List AttributeTree) → IsKept (GatesBreak all) → gates_in all ≡ None → ⊥
    formed [] k none = cc
    formed (a ∷ all) k none = k BadGate a.span (fact.by_form (record { rule_is = refl; none = none; first = a; there = refl; place = refl }))

    by : (o : Option GatesTree) → gates_in attributes ≡ o → AreGates attributes
    by (Some g) e = (g, e, versions_read g (λ r at b. kept r at (fact.by_version g e b)))
    by None e = absurd (formed attributes kept e)
