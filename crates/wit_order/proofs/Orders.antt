use Rattle.std.proofs.Common.{◌≡◌, ℕ, ◌<◌, ◌≤◌, List, [], ◌∷◌, ◌⊎◌, ◌↔◌, inl, inr, refl, sym, subst, arith}
use Rattle.std.proofs.lemmas.Bool.{cases_lt}
use Rattle.wit_order.specs.Order.{Has, IsUpTo, AreDependenciesFirst, IsOrder, IsLeastOrder, Leads, IsOnCircle, IsReady, AreNext}

pub up_to_same : (xs : List ℕ) → IsUpTo xs xs
up_to_same [] = tt
up_to_same (x ∷ xs) = inr (refl, up_to_same xs)

-- two lists that are each up to the other are one list, where neither goes on
pub up_to_both : (xs ys : List ℕ) → IsUpTo xs ys → IsUpTo ys xs → xs ≡ ys
up_to_both [] [] h k = refl
up_to_both [] (y ∷ ys) h k = absurd k
up_to_both (x ∷ xs) [] h k = absurd h
up_to_both (x ∷ xs) (y ∷ ys) h k =
    elim h as (λ _. x ∷ xs ≡ y ∷ ys) [
      | inl less ↦ elim k as (λ _. x ∷ xs ≡ y ∷ ys) [ inl more ↦ absurd (omega arith) | inr same ↦ absurd (let e : y ≡ x = same.0 in omega arith) ]
      | inr same ↦ elim k as (λ _. x ∷ xs ≡ y ∷ ys) [
        | inl more ↦ absurd (let e : x ≡ y = same.0 in omega arith)
        | inr again ↦ let e : x ≡ y = same.0 in let r : xs ≡ ys = up_to_both xs ys same.1 again.1 in cc
      ]
    ]

module _ (n : ℕ) (needs : ℕ → ℕ → Type 0) where
  -- the list of the next ones is no later than any other way to go on
  pub next_up_to : (before xs ys : List ℕ)
      → AreNext n needs before xs
      → ((i : ℕ) → i < n → Has before i ⊎ Has ys i)
      → ((i : ℕ) → Has ys i → i < n)
      → AreDependenciesFirst n needs before ys
      → IsUpTo xs ys
  next_up_to before [] ys greedy all within first = tt
  next_up_to before (x ∷ xs) [] greedy all within first =
      elim (all x greedy.0.ready.place) as (λ _. ⊥) [ inl was ↦ greedy.0.ready.new was | inr h ↦ h ]
  next_up_to before (x ∷ xs) (y ∷ ys) greedy all within first =
      let ready : IsReady n needs before y = record { place = within y (inl refl); new = first.0.0; needed = first.0.1 } in
      let upto : x ≤ y = greedy.0.least y ready in
      let Goal : Type 0 = (x < y) ⊎ ((x ≡ y) × IsUpTo xs ys) in
      elim (cases_lt x y) as (λ _. Goal) [
        | inl less ↦ inl less
        | inr more ↦
            let e : x ≡ y = omega arith in
            let rest : AreDependenciesFirst n needs (x ∷ before) ys = subst (λ (z : ℕ). AreDependenciesFirst n needs (z ∷ before) ys) (sym e) first.1 in
            let others : (i : ℕ) → i < n → Has (x ∷ before) i ⊎ Has ys i =
            λ i h. elim (all i h) as (λ _. Has (x ∷ before) i ⊎ Has ys i) [
              | inl was ↦ inl (inr was)
              | inr at ↦ elim at as (λ _. Has (x ∷ before) i ⊎ Has ys i) [ inl here ↦ inl (inl (subst (λ (z : ℕ). i ≡ z) (sym e) here)) | inr later ↦ inr later ]
            ] in
            inr (e, next_up_to (x ∷ before) xs ys greedy.1 others (λ i h. within i (inr h)) rest)
      ]

  pub next_first : (before xs : List ℕ) → AreNext n needs before xs → AreDependenciesFirst n needs before xs
  next_first before [] greedy = tt
  next_first before (x ∷ xs) greedy = ((greedy.0.ready.new, greedy.0.ready.needed), next_first (x ∷ before) xs greedy.1)

  pub next_within : (before xs : List ℕ) → AreNext n needs before xs → (i : ℕ) → Has xs i → i < n
  next_within before [] greedy i h = absurd h
  next_within before (x ∷ xs) greedy i h =
      elim h as (λ _. i < n) [ inl here ↦ subst (λ (z : ℕ). z < n) (sym here) greedy.0.ready.place | inr later ↦ next_within (x ∷ before) xs greedy.1 i later ]

  -- what is built of the next ones, and has each place, is the least order
  pub next_least : (order : List ℕ) → AreNext n needs [] order → ((i : ℕ) → i < n → Has order i) → IsLeastOrder n needs order
  next_least order greedy all = record {
    is_order = record { all = all; within = next_within [] order greedy; first = next_first [] order greedy };
    least = λ other o. next_up_to [] order other greedy (λ i h. inr (o.all i h)) o.within o.first;
  }

  -- what stands before is closed under needs, so what it leads to stands there
  leads_within : (before : List ℕ)
      → ((a b : ℕ) → Has before a → needs a b → Has before b)
      → (a : ℕ) (via : List ℕ) (b : ℕ) → Has before a → Leads n needs a via b → Has before b
  leads_within before closed a [] b h path = closed a b h path
  leads_within before closed a (c ∷ via) b h path = leads_within before closed c via b (closed a c h path.0) path.1

  first_no_circle : (before xs : List ℕ)
      → ((a b : ℕ) → Has before a → needs a b → Has before b)
      → AreDependenciesFirst n needs before xs
      → (a : ℕ) → Has xs a → IsOnCircle n needs a → ⊥
  first_no_circle before [] closed first a h circle = h
  first_no_circle before (x ∷ xs) closed first a h circle =
      let closed_more : (a b : ℕ) → Has (x ∷ before) a → needs a b → Has (x ∷ before) b =
      λ (a : ℕ). λ (b : ℕ). λ (h : Has (x ∷ before) a). λ (need : needs a b). elim h as (λ _. Has (x ∷ before) b) [
        | inl here ↦ inr (first.0.1 b (subst (λ (z : ℕ). needs z b) here need))
        | inr was ↦ inr (closed a b was need)
      ] in
      elim h as (λ _. ⊥) [
        | inl here ↦
            let back : Leads n needs x circle.0 x = subst (λ (z : ℕ). Leads n needs z circle.0 z) here circle.1 in
            first.0.0 (circle_before before closed x circle.0 first.0.1 back)
        | inr later ↦ first_no_circle (x ∷ before) xs closed_more first.1 a later circle
      ]
    where
      circle_before : (before : List ℕ)
          → ((a b : ℕ) → Has before a → needs a b → Has before b)
          → (x : ℕ) (via : List ℕ) → ((j : ℕ) → needs x j → Has before j) → Leads n needs x via x → Has before x
      circle_before before closed x [] needed path = needed x path
      circle_before before closed x (c ∷ via) needed path = leads_within before closed c via x (needed c path.0) path.1

  -- an order leaves no circle
  pub order_no_circle : (order : List ℕ) → IsOrder n needs order → (a : ℕ) → a < n → IsOnCircle n needs a → ⊥
  order_no_circle order o a h = first_no_circle [] order (λ a b no. absurd no) o.first a (o.all a h)

-- the law: orders speak of needs as a set
module _ (n : ℕ) (needs others : ℕ → ℕ → Type 0) (same : (i j : ℕ) → needs i j ↔ others i j) where
  first_same : (before xs : List ℕ) → AreDependenciesFirst n needs before xs → AreDependenciesFirst n others before xs
  first_same before [] h = tt
  first_same before (x ∷ xs) h = ((h.0.0, λ j need. h.0.1 j ((same x j).1 need)), first_same (x ∷ before) xs h.1)

  pub order_same : (order : List ℕ) → IsOrder n needs order → IsOrder n others order
  order_same order o = record { all = o.all; within = o.within; first = first_same [] order o.first }

-- the least order is one
pub least_one : (n : ℕ) (needs others : ℕ → ℕ → Type 0) → ((i j : ℕ) → needs i j ↔ others i j)
    → (xs ys : List ℕ) → IsLeastOrder n needs xs → IsLeastOrder n others ys → xs ≡ ys
least_one n needs others same xs ys h k =
    up_to_both xs ys
    (h.least ys (order_same n others needs (λ i j. ((same i j).1, (same i j).0)) ys k.is_order))
    (k.least xs (order_same n needs others same xs h.is_order))

pub least_same : (n : ℕ) (needs others : ℕ → ℕ → Type 0) → ((i j : ℕ) → needs i j ↔ others i j)
    → (xs : List ℕ) → IsLeastOrder n needs xs → IsLeastOrder n others xs
least_same n needs others same xs h = record {
  is_order = order_same n needs others same xs h.is_order;
  least = λ ys o. h.least ys (order_same n others needs (λ i j. ((same i j).1, (same i j).0)) ys o);
}

pub leads_same : (n : ℕ) (needs others : ℕ → ℕ → Type 0) → ((i j : ℕ) → needs i j → others i j)
    → (a : ℕ) (via : List ℕ) (b : ℕ) → Leads n needs a via b → Leads n others a via b
leads_same n needs others same a [] b path = same a b path
leads_same n needs others same a (c ∷ via) b path = (same a c path.0, leads_same n needs others same c via b path.1)
