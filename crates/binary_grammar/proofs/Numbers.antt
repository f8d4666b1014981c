-- The number that is read is the one that the bytes stand for.
use Rattle.std.proofs.Common.{◌≡◌, ℕ, zero, suc, ◌+◌, ◌-◌, ◌*◌, ◌^◌, ◌≤◌, true, false, cond, ltb, List, [], ◌∷◌, ◌++◌, length, Result, Ok, Err, refl, ap, subst, ◌∙◌, arith, inl, inr, ◌⊎◌}
use Rattle.std.proofs.lemmas.Bool.{ltb-true, ltb-false, le-ltb, lt-ltb}
use Rattle.std.proofs.lemmas.List.{length-append}
use Rattle.binary_grammar.specs.declared.fault.Fault.{Fault}
use Rattle.binary_grammar.specs.declared.fault.Rule.TheVariants as rules
use Rattle.binary_grammar.specs.Format.{fault_at, wrong, and_then, IsLeb, AllGoOn, EndsWithin, GoesOn, BreaksU32, leb_at, u32_at, u32}
use Rattle.binary_grammar.proofs.Laws.{Found, Law, moved, bind_ok, bind_err, test_ok, test_err, left_is, rule_is, begins_still, more_behind, ok_is}

pub record Digits (k : ℕ) (bytes : List ℕ) (n : ℕ) (rest : List ℕ) : Type 0 where
  pub front : List ℕ
  pub parts : bytes ≡ front ++ rest
  pub digits : IsLeb front n
  pub short : length front ≤ k

more_digits : (k b n high : ℕ) (bytes front rest : List ℕ) → 128 ≤ b → b - 128 + 128 * high ≡ n → bytes ≡ front ++ rest → IsLeb front high → length front ≤ k → Digits (suc k) (b ∷ bytes) n rest
more_digits k b n high bytes [] rest large n-is parts digits short = absurd digits
more_digits k b n high bytes (c ∷ cs) rest large n-is parts digits short =
    record { front = b ∷ c ∷ cs; parts = ap (λ (s : List ℕ). b ∷ s) parts; digits = (large, high, omega arith, digits); short = omega arith }

pub leb_found : (k : ℕ) (bytes : List ℕ) (n : ℕ) (rest : List ℕ) → leb_at k bytes ≡ Ok (n, rest) → Digits k bytes n rest
unfolding leb_at
leb_found zero bytes n rest e = absurd cc
leb_found (suc k) [] n rest e = absurd cc
leb_found (suc k) (b ∷ bytes) n rest e =
    elim (ltb b 128) as (λ t. ltb b 128 ≡ t → cond {A = Result (ℕ × List ℕ) Fault} t (Ok (b, bytes)) (and_then {B = ℕ × List ℕ} (leb_at k bytes) (λ high. Ok (b - 128 + 128 * high.0, high.1))) ≡ Ok (n, rest) → Digits (suc k) (b ∷ bytes) n rest) [
      | true ↦ λ t h. subst (λ (y : ℕ × List ℕ). Digits (suc k) (b ∷ bytes) y.0 y.1) (ok_is (b, bytes) (n, rest) h) (record { front = b ∷ []; parts = refl; digits = (ltb-true _ _ t, refl); short = omega arith })
      | false ↦ λ t h.
          let p = bind_ok {B = ℕ × List ℕ} (leb_at k bytes) (λ high. Ok (b - 128 + 128 * high.0, high.1)) (n, rest) h in
          let one = leb_found k bytes p.0.0 p.0.1 p.1 in
          subst (λ (y : ℕ × List ℕ). Digits (suc k) (b ∷ bytes) y.0 y.1) (ok_is (b - 128 + 128 * p.0.0, p.0.1) (n, rest) p.2)
          (more_digits k b (b - 128 + 128 * p.0.0) p.0.0 bytes one.front p.0.1 (ltb-false _ _ t) refl one.parts one.digits one.short)
    ] refl e

pub leb_again : (k : ℕ) (front : List ℕ) (n : ℕ) (rest : List ℕ) → IsLeb front n → length front ≤ k → leb_at k (front ++ rest) ≡ Ok (n, rest)
unfolding leb_at
leb_again k [] n rest digits short = absurd digits
leb_again zero (b ∷ front) n rest digits short = absurd (omega arith)
leb_again (suc k) (b ∷ []) n rest digits short =
    let small : ltb b 128 ≡ true = lt-ltb _ _ digits.0 in
    rw (small, digits.1) refl
leb_again (suc k) (b ∷ c ∷ cs) n rest digits short =
    let large : ltb b 128 ≡ false = le-ltb _ _ digits.0 in
    let n-is : b - 128 + 128 * digits.1 ≡ n = omega arith in
    rw (large, leb_again k (c ∷ cs) digits.1 rest digits.3 (omega arith), n-is) refl

one_more : (k b : ℕ) (bytes : List ℕ) (e : Fault) → 128 ≤ b → EndsWithin k bytes e ⊎ GoesOn k bytes e → EndsWithin (suc k) (b ∷ bytes) e ⊎ GoesOn (suc k) (b ∷ bytes) e
one_more k b bytes e large (inl h) = inl (record { digits = (large, h.digits); few = omega arith; place = h.place })
one_more k b bytes e large (inr h) = inr (record { front = b ∷ h.front; back = h.back; parts = ap (λ (s : List ℕ). b ∷ s) h.parts; digits = (large, h.digits); many = ap suc h.many; place = h.place })

pub leb_stops : (k : ℕ) (bytes : List ℕ) (e : Fault) → leb_at k bytes ≡ Err e → EndsWithin k bytes e ⊎ GoesOn k bytes e
unfolding leb_at
leb_stops zero bytes e h = inr (record { front = []; back = bytes; parts = refl; digits = tt; many = refl; place = cc })
leb_stops (suc k) [] e h = inl (record { digits = tt; few = omega arith; place = cc })
leb_stops (suc k) (b ∷ bytes) e h =
    elim (ltb b 128) as (λ t. ltb b 128 ≡ t → cond {A = Result (ℕ × List ℕ) Fault} t (Ok (b, bytes)) (and_then {B = ℕ × List ℕ} (leb_at k bytes) (λ high. Ok (b - 128 + 128 * high.0, high.1))) ≡ Err e → EndsWithin (suc k) (b ∷ bytes) e ⊎ GoesOn (suc k) (b ∷ bytes) e) [
      | true ↦ λ t h. absurd cc
      | false ↦ λ t h.
          elim (bind_err {B = ℕ × List ℕ} (leb_at k bytes) (λ high. Ok (b - 128 + 128 * high.0, high.1)) e h) [
            | inl first ↦ one_more k b bytes e (ltb-false _ _ t) (leb_stops k bytes e first)
            | inr q ↦ let k = q.2 in absurd cc
          ]
    ] refl h

pub leb_ends : (k : ℕ) (bytes : List ℕ) (e : Fault) → EndsWithin k bytes e → leb_at k bytes ≡ Err e
unfolding leb_at
leb_ends zero bytes e h = absurd (omega arith)
leb_ends (suc k) [] e h = rw h.place refl
leb_ends (suc k) (b ∷ bytes) e h =
    let large : ltb b 128 ≡ false = le-ltb _ _ h.digits.0 in
    rw (large, leb_ends k bytes e (record { digits = h.digits.1; few = omega arith; place = h.place })) refl

pub leb_goes_on : (k : ℕ) (front back : List ℕ) → AllGoOn front → length front ≡ k → leb_at k (front ++ back) ≡ wrong rules.Number back
unfolding leb_at
leb_goes_on zero [] back digits many = refl
leb_goes_on zero (b ∷ front) back digits many = absurd (omega arith)
leb_goes_on (suc k) [] back digits many = absurd (omega arith)
leb_goes_on (suc k) (b ∷ front) back digits many =
    let large : ltb b 128 ≡ false = le-ltb _ _ digits.0 in
    rw (large, leb_goes_on k front back digits.1 (omega arith)) refl

u32_stops : (bytes : List ℕ) (e : Fault) → u32_at bytes ≡ Err e → BreaksU32 bytes e
unfolding u32_at
u32_stops bytes e h =
    elim (bind_err (leb_at 5 bytes) (λ n. cond (ltb n.0 (2 ^ 32)) (Ok n) (wrong rules.Number bytes)) e h) [
      | inl first ↦ elim (leb_stops 5 bytes e first) [ inl p ↦ inl p | inr p ↦ inr (inl p) ]
      | inr p ↦
          let g = test_err (ltb p.0.0 (2 ^ 32)) (fault_at rules.Number bytes) e p.0 p.2 in
          let one = leb_found 5 bytes p.0.0 p.0.1 p.1 in
          inr (inr (record { number = p.0.0; front = one.front; back = p.0.1; parts = one.parts; digits = one.digits; short = one.short; large = ltb-false _ _ g.0; place = g.1 }))
    ]

u32_broken : (bytes : List ℕ) (e : Fault) → BreaksU32 bytes e → u32_at bytes ≡ Err e
unfolding u32_at
u32_broken bytes e (inl h) = rw (leb_ends 5 bytes e h) refl
u32_broken bytes e (inr (inl h)) =
    let one : leb_at 5 bytes ≡ wrong rules.Number h.back = ap (leb_at 5) h.parts ∙ leb_goes_on 5 h.front h.back h.digits h.many in
    rw (one, h.place) refl
u32_broken bytes e (inr (inr h)) =
    let one : leb_at 5 bytes ≡ Ok (h.number, h.back) = ap (leb_at 5) h.parts ∙ leb_again 5 h.front h.number h.back h.digits h.short in
    let large : ltb h.number (2 ^ 32) ≡ false = le-ltb _ _ h.large in
    rw (one, large, h.place) refl

u32_stays : (bytes : List ℕ) (e : Fault) (more : List ℕ) → (e.rule ≡ rules.Short → ⊥) → BreaksU32 bytes e → BreaksU32 (bytes ++ more) (moved e more)
u32_stays bytes e more other (inl h) = absurd (other (rule_is h.place))
u32_stays bytes e more other (inr (inl h)) =
    inr (inl (record { front = h.front; back = h.back ++ more; parts = more_behind bytes h.front h.back more h.parts; digits = h.digits; many = h.many; place = begins_still rules.Number h.back e more h.place }))
u32_stays bytes e more other (inr (inr h)) =
    inr (inr (record { number = h.number; front = h.front; back = h.back ++ more; parts = more_behind bytes h.front h.back more h.parts; digits = h.digits; short = h.short; large = h.large; place = begins_still rules.Number bytes e more h.place }))

pub u32_law : Law u32
unfolding u32_at
u32_law = record {
  found = λ bytes n rest e.
      let p = bind_ok (leb_at 5 bytes) (λ n. cond (ltb n.0 (2 ^ 32)) (Ok n) (wrong rules.Number bytes)) (n, rest) e in
      let g = test_ok (ltb p.0.0 (2 ^ 32)) (fault_at rules.Number bytes) p.0 (n, rest) p.2 in
      let one = leb_found 5 bytes p.0.0 p.0.1 p.1 in
      subst (λ (y : ℕ × List ℕ). Found u32 bytes y.0 y.1) g.1 (record { front = one.front; parts = one.parts; formed = record { digits = one.digits; short = one.short; small = ltb-true _ _ g.0 } });
  again = λ front n rest h.
      let small : ltb n (2 ^ 32) ≡ true = lt-ltb _ _ h.small in
      rw (leb_again 5 front n rest h.digits h.short, small) refl;
  within = λ bytes d e.
      elim (u32_stops bytes d e) [
        | inl h ↦ omega (arith, left_is h.place)
        | inr h ↦ elim h [
          | inl k ↦ omega (arith, left_is k.place, ap length k.parts, length-append k.front k.back)
          | inr k ↦ omega (arith, left_is k.place)
        ]
      ];
  stops = u32_stops;
  broken = u32_broken;
  stays = u32_stays;
}
