-- A comment ends where scanning finds its end.
use Rattle.std.proofs.Common.{◌≡◌, ℕ, suc, ◌+◌, ◌-◌, ◌≤◌, true, false, eqb, ◌&&◌, [], ◌∷◌, length, Some, refl, sym, ap, subst, ◌∙◌, arith, inl, inr}
use Rattle.std.proofs.lemmas.Bool.{cases_Bool}
use Rattle.std.proofs.lemmas.Bool.Decides.{nat_tests}
use Rattle.wit_tokens.specs.Lex.{Text, comment_from}
use Rattle.wit_tokens.specs.Lexical.{begins, Inside, closes_last, closes, opens, passes}

inside_some : (d : ℕ) → Inside d [] → ⊥
inside_some d (closes_last _ _ one e) = absurd cc
inside_some d (closes _ outer _ rest up some e h) = absurd cc
inside_some d (opens _ _ rest e h) = absurd cc
inside_some d (passes _ b _ rest e p q h) = absurd cc

heads : (a b : ℕ) (y z : Text) → a ∷ y ≡ b ∷ z → a ≡ b
heads a b y z e = cc

tails : (a b : ℕ) (y z : Text) → a ∷ y ≡ b ∷ z → y ≡ z
tails a b y z e = cc

zero_plain : (a b : ℕ) (y : Text) → eqb 0 a ≡ false → begins a b (0 ∷ y) ≡ false
zero_plain a b [] e = refl
zero_plain a b (c ∷ z) e = rw e refl

zero_in : (d : ℕ) (y : Text) → Inside d y → Inside d (0 ∷ y)
zero_in d y h = passes d 0 (0 ∷ y) y refl (zero_plain 42 47 y refl) (zero_plain 47 42 y refl) h

zero_out : (d : ℕ) (y : Text) → Inside d (0 ∷ y) → Inside d y
zero_out d y (closes_last _ _ one e) = absurd (let z = heads 0 42 y (47 ∷ []) e in omega (arith, z))
zero_out d y (closes _ outer _ rest up some e h) = absurd (let z = heads 0 42 y (47 ∷ rest) e in omega (arith, z))
zero_out d y (opens _ _ rest e h) = absurd (let z = heads 0 47 y (42 ∷ rest) e in omega (arith, z))
zero_out d y (passes _ b _ rest e p q h) = subst (λ t. Inside d t) (sym (tails 0 b y rest e)) h

both_are : (a b c d : ℕ) → (eqb a c && eqb b d) ≡ true → (a ≡ c) × (b ≡ d)
both_are a b c d e = grind (arith, nat_tests)

differs : (a b : ℕ) → eqb a b ≡ false → a ≡ b → ⊥
differs a b e is = grind (arith, nat_tests)

some_more : (at n : ℕ) → Some ((at + 1) + n) ≡ Some (at + suc n)
some_more at n = ap (λ k. Some k) (omega arith)

-- what is inside up to its end is scanned to there
pub inside_scanned : (y : Text) (d last at : ℕ) → Inside d (last ∷ y) → comment_from d last at y ≡ Some (at + length y)
inside_scanned [] d last at (closes_last _ _ one e) = absurd cc
inside_scanned [] d last at (closes _ outer _ rest up some e h) = absurd cc
inside_scanned [] d last at (opens _ _ rest e h) = absurd cc
inside_scanned [] d last at (passes _ b _ rest e p q h) = absurd (inside_some d (subst (λ t. Inside d t) (sym (tails last b [] rest e)) h))
inside_scanned (b ∷ z) d last at (closes_last _ _ one e) =
    let f = tails last 42 (b ∷ z) (47 ∷ []) e in
    rw (heads last 42 (b ∷ z) (47 ∷ []) e, heads b 47 z [] f, tails b 47 z [] f, one) (ap (λ k. Some k) (omega arith))
inside_scanned (b ∷ z) d last at (closes _ outer _ rest up some e h) =
    let f = tails last 42 (b ∷ z) (47 ∷ rest) e in
    let more = inside_scanned z outer 0 (at + 1) (subst (λ t. Inside outer (0 ∷ t)) (sym (tails b 47 z rest f)) (zero_in outer rest h)) in
    let inner : eqb d 1 ≡ false = grind (arith, nat_tests) in
    let less : d - 1 ≡ outer = omega arith in
    rw (heads last 42 (b ∷ z) (47 ∷ rest) e, heads b 47 z rest f, inner, less) (more ∙ some_more at (length z))
inside_scanned (b ∷ z) d last at (opens _ _ rest e h) =
    let f = tails last 47 (b ∷ z) (42 ∷ rest) e in
    let more = inside_scanned z (d + 1) 0 (at + 1) (subst (λ t. Inside (d + 1) (0 ∷ t)) (sym (tails b 42 z rest f)) (zero_in (d + 1) rest h)) in
    rw (heads last 47 (b ∷ z) (42 ∷ rest) e, heads b 42 z rest f) (more ∙ some_more at (length z))
inside_scanned (b ∷ z) d last at (passes _ c _ rest e p q h) =
    let more = inside_scanned z d b (at + 1) (subst (λ t. Inside d t) (sym (tails last c (b ∷ z) rest e)) h) in
    rw (p, q) (more ∙ some_more at (length z))

last_one : (at b : ℕ) (z : Text) → Some (at + 1) ≡ Some (at + length (b ∷ z)) → z ≡ []
last_one at b [] e = refl
last_one at b (c ∷ z) e = absurd (let n : at + 1 ≡ at + length (b ∷ c ∷ z) = cc in omega arith)

-- what is scanned to its end is inside up to there
pub scanned_inside : (y : Text) (d last at : ℕ) → 1 ≤ d → comment_from d last at y ≡ Some (at + length y) → Inside d (last ∷ y)
scanned_inside [] d last at some e = absurd cc
scanned_inside (b ∷ z) d last at some e = elim (cases_Bool (eqb last 42 && eqb b 47)) [
  | inl closing ↦
      let is = both_are last b 42 47 closing in
      elim (cases_Bool (eqb d 1)) [
        | inl outer ↦
            let one : d ≡ 1 = grind (arith, nat_tests) in
            closes_last d (last ∷ b ∷ z) one (rw (is.0, is.1, last_one at b z (rw (closing, outer) at e)) refl)
        | inr inner ↦
            let two : 2 ≤ d = grind (arith, nat_tests) in
            let h = scanned_inside z (d - 1) 0 (at + 1) (omega arith) (rw (closing, inner) at e ∙ sym (some_more at (length z))) in
            closes d (d - 1) (last ∷ b ∷ z) z (omega arith) (omega arith) (rw (is.0, is.1) refl) (zero_out (d - 1) z h)
      ]
  | inr going ↦ elim (cases_Bool (eqb last 47 && eqb b 42)) [
    | inl opening ↦
        let is = both_are last b 47 42 opening in
        let h = scanned_inside z (d + 1) 0 (at + 1) (omega arith) (rw (going, opening) at e ∙ sym (some_more at (length z))) in
        opens d (last ∷ b ∷ z) z (rw (is.0, is.1) refl) (zero_out (d + 1) z h)
    | inr other ↦ passes d last (last ∷ b ∷ z) (b ∷ z) refl going other (scanned_inside z d b (at + 1) some (rw (going, other) at e ∙ sym (some_more at (length z))))
  ]
]

zero_more : (n : ℕ) → Some (0 + n) ≡ Some n
zero_more n = ap (λ k. Some k) (omega arith)

-- the same from the front of a comment
pub comment_scanned : (y : Text) → Inside 1 y → comment_from 1 0 0 y ≡ Some (length y)
comment_scanned y h = inside_scanned y 1 0 0 (zero_in 1 y h) ∙ zero_more (length y)

pub comment_inside : (y : Text) → comment_from 1 0 0 y ≡ Some (length y) → Inside 1 y
comment_inside y e = zero_out 1 y (scanned_inside y 1 0 0 (omega arith) (e ∙ sym (zero_more (length y))))
