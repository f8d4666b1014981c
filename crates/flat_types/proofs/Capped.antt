-- Core types up to a cap are the first of all of them.
use Rattle.std.proofs.Common.{◌≡◌, ℕ, zero, suc, ◌≤◌, ◌<◌, min, List, [], ◌∷◌, ◌++◌, length, take, ◌⊎◌, inl, inr, refl, sym, ap, ◌∙◌, take-take, arith}
use Rattle.wasm_types.specs.declared.types.ValType.{ValType}
use Rattle.flat_types.specs.Flat.{join, join_places, repeated}

-- two lists have the same first ones, as many as there are up to this
abbrev pub Agree : ℕ → List ValType → List ValType → Type 0
Agree c xs ys = (d : ℕ) → d ≤ c → take d xs ≡ take d ys

pub cut_agrees : (c : ℕ) (xs : List ValType) → Agree c (take c xs) xs
cut_agrees c xs d h = take-take d c xs h

pub fewer_agree : (c d : ℕ) (xs ys : List ValType) → d ≤ c → Agree c xs ys → Agree d xs ys
fewer_agree c d xs ys h a e k = a e (omega arith)

-- ---- the first, and the others

heads : (x y : ValType) (xs ys : List ValType) (d : ℕ) → Agree (suc d) (x ∷ xs) (y ∷ ys) → x ≡ y
heads x y xs ys d a = let e : x ∷ [] ≡ y ∷ [] = a 1 (omega arith) in cc

tails : (x y : ValType) (xs ys : List ValType) (d : ℕ) → Agree (suc d) (x ∷ xs) (y ∷ ys) → Agree d xs ys
tails x y xs ys d a e h = let f : x ∷ take e xs ≡ y ∷ take e ys = a (suc e) (omega arith) in cc

none_here : (y : ValType) (ys : List ValType) (d : ℕ) → Agree (suc d) [] (y ∷ ys) → ⊥
none_here y ys d a = let e : [] ≡ y ∷ [] = a 1 (omega arith) in cc

none_there : (x : ValType) (xs : List ValType) (d : ℕ) → Agree (suc d) (x ∷ xs) [] → ⊥
none_there x xs d a = let e : x ∷ [] ≡ [] = a 1 (omega arith) in cc

-- ---- what is made of them

pub cons_agrees : (c : ℕ) (x : ValType) (xs ys : List ValType) → Agree c xs ys → Agree c (x ∷ xs) (x ∷ ys)
cons_agrees c x xs ys a zero h = refl
cons_agrees c x xs ys a (suc d) h = ap (λ (zs : List ValType). x ∷ zs) (a d (omega arith))

pub append_agrees : (d : ℕ) (xs ys us vs : List ValType) → Agree d xs ys → Agree d us vs → take d (xs ++ us) ≡ take d (ys ++ vs)
append_agrees zero xs ys us vs a b = refl
append_agrees (suc d) [] [] us vs a b = b (suc d) (omega arith)
append_agrees (suc d) [] (y ∷ ys) us vs a b = absurd (none_here y ys d a)
append_agrees (suc d) (x ∷ xs) [] us vs a b = absurd (none_there x xs d a)
append_agrees (suc d) (x ∷ xs) (y ∷ ys) us vs a b =
    let e = heads x y xs ys d a in
    let f = append_agrees d xs ys us vs (tails x y xs ys d a) (λ k h. b k (omega arith)) in
    λ i. e i ∷ f i

pub appended_agree : (c : ℕ) (xs ys us vs : List ValType) → Agree c xs ys → Agree c us vs → Agree c (xs ++ us) (ys ++ vs)
appended_agree c xs ys us vs a b d h = append_agrees d xs ys us vs (fewer_agree c d xs ys h a) (fewer_agree c d us vs h b)

take_join : (d : ℕ) (xs ys : List ValType) → take d (join_places xs ys) ≡ join_places (take d xs) (take d ys)
take_join zero xs ys = refl
take_join (suc d) [] ys = refl
take_join (suc d) (x ∷ xs) [] = refl
take_join (suc d) (x ∷ xs) (y ∷ ys) = ap (λ (zs : List ValType). join x y ∷ zs) (take_join d xs ys)

pub joined_agree : (c : ℕ) (xs ys us vs : List ValType) → Agree c xs ys → Agree c us vs → Agree c (join_places xs us) (join_places ys vs)
joined_agree c xs ys us vs a b d h =
    let e = a d h in
    let f = b d h in
    take_join d xs us ∙ (λ i. join_places (e i) (f i)) ∙ sym (take_join d ys vs)

pub join_nothing : (xs : List ValType) → join_places xs [] ≡ xs
join_nothing [] = refl
join_nothing (x ∷ xs) = refl

-- ---- so many times

empty_repeats : (n : ℕ) → repeated n [] ≡ []
empty_repeats zero = refl
empty_repeats (suc n) = empty_repeats n

repeats : (c m n d : ℕ) (xs ys : List ValType) → Agree c xs ys → d ≤ c → m ≤ n → (d ≤ m) ⊎ (m ≡ n) → take d (repeated m xs) ≡ take d (repeated n ys)
repeats c zero zero d xs ys a h le e = refl
repeats c zero (suc n) zero xs ys a h le e = refl
repeats c zero (suc n) (suc d) xs ys a h le (inl e) = absurd (omega arith)
repeats c zero (suc n) (suc d) xs ys a h le (inr e) = absurd (omega arith)
repeats c (suc m) zero d xs ys a h le e = absurd (omega arith)
repeats c (suc m) (suc n) zero xs ys a h le e = refl
repeats zero (suc m) (suc n) (suc d) xs ys a h le e = absurd (omega arith)
repeats (suc c) (suc m) (suc n) (suc d) [] [] a h le e = ap (take (suc d)) (empty_repeats m ∙ sym (empty_repeats n))
repeats (suc c) (suc m) (suc n) (suc d) [] (y ∷ ys) a h le e = absurd (none_here y ys c a)
repeats (suc c) (suc m) (suc n) (suc d) (x ∷ xs) [] a h le e = absurd (none_there x xs c a)
repeats (suc c) (suc m) (suc n) (suc d) (x ∷ xs) (y ∷ ys) a h le e =
    let same = heads x y xs ys c a in
    let more : Agree d (repeated m (x ∷ xs)) (repeated n (y ∷ ys)) = λ k below. repeats (suc c) m n k (x ∷ xs) (y ∷ ys) a (omega arith) (omega arith) (fewer k below) in
    let rest = append_agrees d xs ys (repeated m (x ∷ xs)) (repeated n (y ∷ ys)) (λ k below. tails x y xs ys c a k (omega arith)) more in
    λ i. same i ∷ rest i
  where
    fewer : (k : ℕ) → k ≤ d → (k ≤ m) ⊎ (m ≡ n)
    fewer k below = elim e [ inl f ↦ inl (omega arith) | inr f ↦ inr (omega arith) ]

enough : (c n : ℕ) → (c ≤ min c n) ⊎ (min c n ≡ n)
enough zero n = inl (omega arith)
enough (suc c) zero = inr (omega arith)
enough (suc c) (suc n) = elim (enough c n) [ inl e ↦ inl (omega arith) | inr e ↦ inr (omega arith) ]

-- as many times as the cap are enough
pub repeated_to_cap : (c n : ℕ) (xs ys : List ValType) → Agree c xs ys → take c (repeated (min c n) xs) ≡ take c (repeated n ys)
repeated_to_cap c n xs ys a = repeats c (min c n) n c xs ys a (omega arith) (omega arith) (enough c n)

-- ---- short lists

-- what agrees further than this is the same, or longer than this on both sides
pub same_or_long : (n : ℕ) (xs ys : List ValType) → Agree (suc n) xs ys → (xs ≡ ys) ⊎ ((n < length xs) × (n < length ys))
same_or_long n [] [] a = inl refl
same_or_long n [] (y ∷ ys) a = absurd (none_here y ys n a)
same_or_long n (x ∷ xs) [] a = absurd (none_there x xs n a)
same_or_long zero (x ∷ xs) (y ∷ ys) a = inr (omega arith, omega arith)
same_or_long (suc n) (x ∷ xs) (y ∷ ys) a =
    let e = heads x y xs ys (suc n) a in
    elim (same_or_long n xs ys (tails x y xs ys (suc n) a)) [
      | inl f ↦ inl (λ i. e i ∷ f i)
      | inr l ↦ inr (omega arith, omega arith)
    ]
