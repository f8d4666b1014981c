-- What a walk has noted says whether all places fit.
use Rattle.std.proofs.Common.{◌≡◌, ℕ, ◌+◌, ◌^◌, ◌⊎◌, suc, Bool, true, false, ◌||◌, not, List, [], ◌∷◌, refl, arith, inl, inr, nat_lt}
use Rattle.std.proofs.lemmas.Bool.{ltb-true, ltb-false, and_parts, and_cases}
use Rattle.std.proofs.lemmas.List.Elements.{All-nil, All-cons}
use Rattle.std.specs.Prelude.{All, Any}
use Rattle.wit_words.specs.declared.source_map.Span.{Span}
use Rattle.wit_offsets.specs.Offsets.{SpanFits, span_at}
use Rattle.wit_offsets.specs.Walks.{noted, span_fits, span_within}
use Rattle.wit_offsets.proofs.Same.{Agree}

neither : (b c : Bool) → (b || not c) ≡ false → (b ≡ false) × (c ≡ true)
neither true c e = absurd cc
neither false true e = (refl, refl)
neither false false e = absurd cc

either : (b c : Bool) → (b || not c) ≡ true → (b ≡ true) ⊎ (c ≡ false)
either true c e = inl refl
either false true e = absurd cc
either false false e = inr refl

module _ (n : ℕ) where
  fits : (s : Span) → span_fits n s ≡ true → SpanFits n s
  fits s e = (let p = and_parts (nat_lt (s.start + n) (2 ^ 32)) (nat_lt (s.end + n) (2 ^ 32)) e in (ltb-true (s.start + n) (2 ^ 32) p.0, ltb-true (s.end + n) (2 ^ 32) p.1))

  passes : (s : Span) → span_fits n s ≡ false → SpanFits n s → ⊥
  passes s e f = elim (and_cases (nat_lt (s.start + n) (2 ^ 32)) (nat_lt (s.end + n) (2 ^ 32)) e) as (λ _. ⊥) [
    | inl start ↦ omega (arith, ltb-false (s.start + n) (2 ^ 32) start, f.0)
    | inr end ↦ omega (arith, ltb-false (s.end + n) (2 ^ 32) end, f.1)
  ]

  -- nothing was noted: all of them fit, and each goes so far
  pub all_fit : (ss : List Span) (b : Bool) → noted n b ss ≡ false → (b ≡ false) × All (SpanFits n) ss × Agree (span_within n) (span_at n) ss
  all_fit [] b e = (e, All-nil (SpanFits n), tt)
  all_fit (s ∷ ss) b e =
      let r = all_fit ss (b || not (span_fits n s)) e in
      let both = neither b (span_fits n s) r.0 in
      let goes : span_within n s ≡ span_at n s = rw both.1 refl in
      (both.0, All-cons (SpanFits n) s ss (fits s both.1) r.1, (goes, r.2))

  -- something was noted: one of them doesn't
  pub one_passes : (ss : List Span) (b : Bool) → noted n b ss ≡ true → (b ≡ true) ⊎ Any (λ s. SpanFits n s → ⊥) ss
  one_passes [] b e = inl e
  one_passes (s ∷ ss) b e = elim (one_passes ss (b || not (span_fits n s)) e) as (λ _. (b ≡ true) ⊎ Any (λ x. SpanFits n x → ⊥) (s ∷ ss)) [
    | inl here ↦ (elim (either b (span_fits n s) here) as (λ _. (b ≡ true) ⊎ Any (λ x. SpanFits n x → ⊥) (s ∷ ss)) [ inl before ↦ inl before | inr out ↦ inr (0, s, omega arith, refl, passes s out) ])
    | inr there ↦ inr (suc there.0, there.1, (let within = there.2 in omega (arith, within)), there.3, there.4)
  ]
