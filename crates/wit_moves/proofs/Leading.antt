-- What breaks in the rest of a list breaks in all of it.
use Rattle.std.proofs.Common.{ℕ, ◌+◌, ◌<◌, List, [], ◌∷◌, ◌≡◌, inl, inr, subst, sym, ap, ◌∙◌, drop, get_or, length}
use Rattle.std.proofs.lemmas.List.{drop_more}
use Rattle.wit_features.specs.Passed.wit_words-declared-source_map-Span.{Span}
use Rattle.wit_moves.specs.Breaks.{Breaks, AnyOf, IsKept}

module _ {X : Type 0} (breaks : X → Breaks) (all : List X) where
  abbrev pub Leads : List X → Type 0
  Leads rest = (IsKept (AnyOf breaks rest) → IsKept (AnyOf breaks all)) × ((at : Span) → AnyOf breaks rest at → AnyOf breaks all at)

  pub leads_all : Leads all
  leads_all = (λ kept. kept, λ at b. b)

  -- one more is kept
  pub leads_on : (x : X) (xs rest : List X) → rest ≡ x ∷ xs → IsKept (breaks x) → Leads rest → Leads xs
  leads_on x xs rest e kept leads =
      let h = subst Leads e leads in
      (λ later. h.0 (λ at b. elim b as (λ _. ⊥) [ inl here ↦ kept at here | inr there ↦ later at there ]), λ at b. h.1 at (inr b))

  -- one breaks
  pub breaks_here : (x : X) (xs rest : List X) (at : Span) → rest ≡ x ∷ xs → breaks x at → Leads rest → AnyOf breaks all at
  breaks_here x xs rest at e b leads = (subst Leads e leads).1 at (inl b)

  -- all are kept
  pub leads_done : (rest : List X) → rest ≡ [] → Leads rest → IsKept (AnyOf breaks all)
  leads_done rest e leads = (subst Leads e leads).0 (λ at b. absurd b)

  -- one more of a slice is kept
  pub leads_at : (k : ℕ) (x : X) → k < length all → x ≡ get_or all k x → IsKept (breaks x) → Leads (drop k all) → Leads (drop (k + 1) all)
  leads_at k x within is kept leads = leads_on x (drop (k + 1) all) (drop k all) (drop_more all k x within ∙ ap (λ (y : X). y ∷ drop (k + 1) all) (sym is)) kept leads
