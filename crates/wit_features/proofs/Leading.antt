-- What is said of the gates of the rest of a list, and with that of all.
use Rattle.std.proofs.Common.{◌≡◌, true, false, List, [], ◌∷◌, inl, inr, Option, subst, sym, refl}
use Rattle.semver.specs.declared.Version.{Version}
use Rattle.wit_types.specs.Passed.wit_words-declared-source_map-Span.{Span}
use Rattle.wit_features.specs.Features.{breaks_gate}
use Rattle.wit_types.specs.declared.stability.Stability.{Stability}
use Rattle.wit_features.specs.Gates.{Gates, gated, IsOf, AreOnTime, IsLate}

-- gates of a version that is reached, and of one that isn't
pub gate_on_time : (version : Option Version) (stability : Stability) (span : Span) → breaks_gate version stability ≡ false → AreOnTime version (gated stability span)
gate_on_time version stability span e = λ s at g. subst (λ (x : Stability). breaks_gate version x ≡ false) (sym g.0) e

pub gate_late : (version : Option Version) (stability : Stability) (span : Span) → breaks_gate version stability ≡ true → IsLate version (gated stability span) span
gate_late version stability span e = (stability, (refl, refl), e)

module _ {X : Type 0} (version : Option Version) (gates : X → Gates) (all : List X) where
  -- what is said of the rest is said of all
  abbrev pub Leads : List X → Type 0
  Leads rest = (AreOnTime version (IsOf gates rest) → AreOnTime version (IsOf gates all)) × ((at : Span) → IsLate version (IsOf gates rest) at → IsLate version (IsOf gates all) at)

  pub leads_all : Leads all
  leads_all = (λ on. on, λ at late. late)

  -- one more is on time
  pub leads_on : (x : X) (xs rest : List X) → rest ≡ x ∷ xs → AreOnTime version (gates x) → Leads rest → Leads xs
  leads_on x xs rest e on leads =
      let h = subst Leads e leads in
      (λ later. h.0 (λ s at g. elim g as (λ _. breaks_gate version s ≡ false) [ inl here ↦ on s at here | inr there ↦ later s at there ]), λ at late. h.1 at (late.0, inr late.1, late.2))

  -- one isn't
  pub late_here : (x : X) (xs rest : List X) (at : Span) → rest ≡ x ∷ xs → IsLate version (gates x) at → Leads rest → IsLate version (IsOf gates all) at
  late_here x xs rest at e late leads = (subst Leads e leads).1 at (late.0, inl late.1, late.2)

  -- all are
  pub leads_done : (rest : List X) → rest ≡ [] → Leads rest → AreOnTime version (IsOf gates all)
  leads_done rest e leads = (subst Leads e leads).0 (λ s at g. absurd g)
