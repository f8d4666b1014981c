-- The beginnings of what is written in pieces.
use Rattle.std.proofs.Common.{◌≡◌, ℕ, zero, suc, ◌+◌, ◌-◌, ◌<◌, ◌≤◌, List, [], ◌∷◌, ◌++◌, take, drop, get_or, length, refl, ap, sym, ◌∙◌, append_assoc, arith}
use Rattle.std.specs.List.{flat_map}
use Rattle.std.proofs.lemmas.List.{take-append-drop, take-append-le, drop_more, length-append}
use Rattle.std.proofs.lemmas.List.Concat.{flat_map-append}

beyond : {X : Type 0} (xs ys : List X) (n : ℕ) → length xs ≤ n → take n (xs ++ ys) ≡ xs ++ take (n - length xs) ys
beyond [] ys n le = let e : n ≡ n - 0 = omega arith in ap (λ k. take k ys) e
beyond (x ∷ xs) ys zero le = absurd (omega arith)
beyond (x ∷ xs) ys (suc n) le =
    let e : n - length xs ≡ suc n - suc (length xs) = omega arith in
    ap (λ zs. x ∷ zs) (beyond xs ys n (omega arith) ∙ ap (λ k. xs ++ take k ys) e)

module _ {X Y : Type 0} (f : X → List Y) (xs : List X) (end : List Y) (i : ℕ) (x : X) (here : i < length xs) (is : x ≡ get_or xs i x) where
  -- a part is behind those before it
  pub in_parts : flat_map f xs ++ end ≡ flat_map f (take i xs) ++ (f x ++ (flat_map f (drop (i + 1) xs) ++ end))
  in_parts =
      let all : flat_map f xs ≡ flat_map f (take i xs) ++ (f x ++ flat_map f (drop (i + 1) xs)) =
      ap (flat_map f) (sym (take-append-drop i xs) ∙ ap (λ r. take i xs ++ r) (drop_more xs i x here ∙ ap (λ y. y ∷ drop (i + 1) xs) (sym is))) ∙ flat_map-append f (take i xs) (x ∷ drop (i + 1) xs) in
      ap (λ s. s ++ end) all ∙ simp append_assoc

  pub part_fits : (before : ℕ) → before ≡ length (flat_map f (take i xs)) → before + length (f x) ≤ length (flat_map f xs ++ end)
  part_fits before e =
      omega (arith, e, ap length in_parts, length-append (flat_map f (take i xs)) (f x ++ (flat_map f (drop (i + 1) xs) ++ end)), length-append (f x) (flat_map f (drop (i + 1) xs) ++ end))

  pub part_begins : (before n : ℕ) → before ≡ length (flat_map f (take i xs)) → before ≤ n → n < before + length (f x) → flat_map f (take i xs) ++ take (n - before) (f x) ≡ take n (flat_map f xs ++ end)
  part_begins before n e le lt =
      let front = flat_map f (take i xs) in
      let rest = flat_map f (drop (i + 1) xs) ++ end in
      let one : take n (front ++ (f x ++ rest)) ≡ front ++ take (n - length front) (f x ++ rest) = beyond front (f x ++ rest) n (omega (arith, e)) in
      let two : take (n - length front) (f x ++ rest) ≡ take (n - length front) (f x) = take-append-le (n - length front) (f x) rest (omega (arith, e)) in
      ap (λ k. front ++ take (n - k) (f x)) e ∙ ap (λ s. front ++ s) (sym two) ∙ sym one ∙ ap (take n) (sym in_parts)

-- the end is behind all parts
pub end_begins : {Y : Type 0} (front end : List Y) (before n : ℕ) → before ≡ length front → before ≤ n → front ++ take (n - before) end ≡ take n (front ++ end)
end_begins front end before n e le = ap (λ k. front ++ take (n - k) end) e ∙ sym (beyond front end n (omega (arith, e)))

-- a part, those before it and the end are no more than all
pub so_far_fits : {X Y : Type 0} (f : X → List Y) (xs : List X) (end : List Y) (i : ℕ) (x : X) → i < length xs → x ≡ get_or xs i x → length (flat_map f (take i xs)) + length end + length (f x) ≤ length (flat_map f xs ++ end)
so_far_fits f xs end i x here is =
    let fits = part_fits f xs [] i x here is (length (flat_map f (take i xs))) refl in
    omega (arith, fits, length-append (flat_map f xs) end, length-append (flat_map f xs) [])
