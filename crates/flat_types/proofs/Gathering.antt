-- What is gathered part by part is what the parts have together.
use Rattle.std.proofs.Common.{◌≡◌, ℕ, zero, suc, ◌+◌, ◌-◌, ◌<◌, ◌≤◌, Bool, true, false, ◌||◌, List, [], ◌∷◌, ◌++◌, length, Some, get_or, take, set, map, refl, sym, ap, ◌∙◌, append_assoc, append-nil, arith}
use Rattle.std.proofs.lemmas.Option.{same_Some}
use Rattle.std.proofs.lemmas.List.{map_more, take_all}
use Rattle.std.specs.List.{list_any}
use Rattle.std.specs.Prelude.{slice_get}
use Rattle.wasm_types.specs.declared.types.ValType.{ValType}
use Rattle.wasm_types.specs.declared.types.ValType.TheVariants.{I32, F32, F64}
use Rattle.flat_types.specs.Flat.{join, join_places, repeated}
use Rattle.flat_types.specs.Flats.{cap, FlatValue, in_order, in_place, one_holds_string, one_holds_list, of_fields}
use Rattle.flat_types.specs.Gathered.{put, behind, beside}
use Rattle.flat_types.proofs.Capped.{join_nothing}
use Rattle.flat_types.proofs.Agreeing.{alike, or_false}

-- ---- places

pub put_within : (xs : List ValType) (i : ℕ) (y d : ValType) → i < length xs → put xs i y ≡ set xs i (join (get_or xs i d) y)
put_within [] i y d h = absurd (omega arith)
put_within (x ∷ xs) zero y d h = refl
put_within (x ∷ xs) (suc i) y d h = ap (λ (zs : List ValType). x ∷ zs) (put_within xs i y d (omega arith))

pub put_past : (xs : List ValType) (i : ℕ) (y : ValType) → length xs ≤ i → put xs i y ≡ xs ++ y ∷ []
put_past [] i y h = refl
put_past (x ∷ xs) zero y h = absurd (omega arith)
put_past (x ∷ xs) (suc i) y h = ap (λ (zs : List ValType). x ∷ zs) (put_past xs i y (omega arith))

put_last : (xs : List ValType) (i : ℕ) (y : ValType) → slice_get xs i ≡ Some y → put (take i xs) i y ≡ take (suc i) xs
put_last [] i y h = absurd cc
put_last (x ∷ xs) zero y h = ap (λ (z : ValType). z ∷ []) (sym (same_Some x y h))
put_last (x ∷ xs) (suc i) y h = ap (λ (zs : List ValType). x ∷ zs) (put_last xs i y h)

joined_suc : (ps xs : List ValType) (i : ℕ) (y : ValType) → slice_get xs i ≡ Some y → put (join_places ps (take i xs)) i y ≡ join_places ps (take (suc i) xs)
joined_suc [] xs i y h = put_last xs i y h
joined_suc (p ∷ ps) [] i y h = absurd cc
joined_suc (p ∷ ps) (x ∷ xs) zero y h =
    let e : y ≡ x = sym (same_Some x y h) in
    let f : ps ≡ join_places ps [] = sym (join_nothing ps) in
    λ i. join p (e i) ∷ f i
joined_suc (p ∷ ps) (x ∷ xs) (suc i) y h = ap (λ (zs : List ValType). join p x ∷ zs) (joined_suc ps xs i y h)

-- one more is joined
pub joined_more : (ps qs xs : List ValType) (i : ℕ) (y : ValType) → qs ≡ join_places ps (take i xs) → slice_get xs i ≡ Some y → put qs i y ≡ join_places ps (take (i + 1) xs)
joined_more ps qs xs i y same h =
    let e : suc i ≡ i + 1 = omega arith in
    ap (λ (zs : List ValType). put zs i y) same ∙ joined_suc ps xs i y h ∙ ap (λ (n : ℕ). join_places ps (take n xs)) e

join_assoc : (x y z : ValType) → join (join x y) z ≡ join x (join y z)
join_assoc I32 I32 I32 = refl
join_assoc I32 I32 _ = refl
join_assoc I32 F32 I32 = refl
join_assoc I32 F32 _ = refl
join_assoc I32 F64 I32 = refl
join_assoc I32 F64 _ = refl
join_assoc F32 I32 I32 = refl
join_assoc F32 I32 _ = refl
join_assoc F32 F32 I32 = refl
join_assoc F32 F32 _ = refl
join_assoc F32 F64 I32 = refl
join_assoc F32 F64 _ = refl
join_assoc F64 I32 I32 = refl
join_assoc F64 I32 _ = refl
join_assoc F64 F32 I32 = refl
join_assoc F64 F32 _ = refl
join_assoc F64 F64 I32 = refl
join_assoc F64 F64 _ = refl
join_assoc I32 _ _ = refl
join_assoc F32 _ _ = refl
join_assoc F64 _ _ = refl
join_assoc _ _ _ = refl

pub places_assoc : (xs ys zs : List ValType) → join_places (join_places xs ys) zs ≡ join_places xs (join_places ys zs)
places_assoc [] ys zs = refl
places_assoc (x ∷ xs) [] zs = refl
places_assoc (x ∷ xs) (y ∷ ys) [] = refl
places_assoc (x ∷ xs) (y ∷ ys) (z ∷ zs) =
    let e = join_assoc x y z in
    let f = places_assoc xs ys zs in
    λ i. e i ∷ f i

-- ---- parts

-- what is cut and goes on as far as the cap is what goes on, cut
pub cut_more : (c : ℕ) (xs ys : List ValType) → take c xs ++ take (c - length (take c xs)) ys ≡ take c (xs ++ ys)
cut_more zero xs ys = refl
cut_more (suc c) [] ys = let e : suc c - 0 ≡ suc c = omega arith in ap (λ (n : ℕ). take n ys) e
cut_more (suc c) (x ∷ xs) ys =
    let n : ℕ = length (take c xs) in
    let e : suc c - suc n ≡ c - n = omega arith in
    ap (λ (k : ℕ). x ∷ take c xs ++ take k ys) e ∙ ap (λ (zs : List ValType). x ∷ zs) (cut_more c xs ys)

pub in_order_more : (vs : List FlatValue) (w : FlatValue) → in_order vs ++ w.values ≡ in_order (vs ++ w ∷ [])
in_order_more [] w = sym (append-nil w.values)
in_order_more (v ∷ vs) w = append_assoc v.values (in_order vs) w.values ∙ ap (λ (xs : List ValType). v.values ++ xs) (in_order_more vs w)

in_place_more : (vs : List FlatValue) (w : FlatValue) → join_places (in_place vs) w.values ≡ in_place (vs ++ w ∷ [])
in_place_more [] w = sym (join_nothing w.values)
in_place_more (v ∷ vs) w = places_assoc v.values (in_place vs) w.values ∙ ap (join_places v.values) (in_place_more vs w)

or_assoc : (a b c : Bool) → ((a || b) || c) ≡ (a || (b || c))
or_assoc true b c = refl
or_assoc false b c = refl

any_more : (test : FlatValue → Bool) (vs : List FlatValue) (w : FlatValue) → (list_any test vs || test w) ≡ list_any test (vs ++ w ∷ [])
any_more test [] w = sym (or_false (test w))
any_more test (v ∷ vs) w = or_assoc (test v) (list_any test vs) (test w) ∙ ap (λ (b : Bool). test v || b) (any_more test vs w)

pub fields_more : (vs : List FlatValue) (w : FlatValue) → behind (of_fields vs) w ≡ of_fields (vs ++ w ∷ [])
fields_more vs w =
    alike (take cap (in_order vs) ++ take (cap - length (take cap (in_order vs))) w.values) (take cap (in_order (vs ++ w ∷ [])))
    (one_holds_string vs || w.holds_string) (one_holds_string (vs ++ w ∷ [])) (one_holds_list vs || w.holds_list) (one_holds_list (vs ++ w ∷ []))
    (cut_more cap (in_order vs) w.values ∙ ap (take cap) (in_order_more vs w)) (any_more (λ (v : FlatValue). v.holds_string) vs w) (any_more (λ (v : FlatValue). v.holds_list) vs w)

-- parts in the same places
abbrev pub joined : List FlatValue → FlatValue
joined vs = record { values = in_place vs; holds_string = one_holds_string vs; holds_list = one_holds_list vs }

pub cases_more : (vs : List FlatValue) (w : FlatValue) → beside (joined vs) w ≡ joined (vs ++ w ∷ [])
cases_more vs w =
    alike (join_places (in_place vs) w.values) (in_place (vs ++ w ∷ []))
    (one_holds_string vs || w.holds_string) (one_holds_string (vs ++ w ∷ [])) (one_holds_list vs || w.holds_list) (one_holds_list (vs ++ w ∷ []))
    (in_place_more vs w) (any_more (λ (v : FlatValue). v.holds_string) vs w) (any_more (λ (v : FlatValue). v.holds_list) vs w)

-- once more
repeated_suc : (n : ℕ) (xs : List ValType) → repeated n xs ++ xs ≡ repeated (suc n) xs
repeated_suc zero xs = sym (append-nil xs)
repeated_suc (suc n) xs = append_assoc xs (repeated n xs) xs ∙ ap (λ (ys : List ValType). xs ++ ys) (repeated_suc n xs)

pub repeated_more : (n : ℕ) (xs ys : List ValType) → ys ≡ take cap (repeated n xs) → ys ++ take (cap - length ys) xs ≡ take cap (repeated (n + 1) xs)
repeated_more n xs ys same =
    let e : suc n ≡ n + 1 = omega arith in
    ap (λ (zs : List ValType). zs ++ take (cap - length zs) xs) same ∙ cut_more cap (repeated n xs) xs ∙ ap (take cap) (repeated_suc n xs ∙ ap (λ (k : ℕ). repeated k xs) e)

-- ---- one more of a list of what has parts

module _ {X : Type 0} (f : X → FlatValue) (xs : List X) (i : ℕ) (x : X) (less : i < length xs) (read : x ≡ get_or xs i x) where
  pub map_read : map f (take (i + 1) xs) ≡ map f (take i xs) ++ f x ∷ []
  map_read = map_more f xs i x less ∙ ap (λ (y : X). map f (take i xs) ++ f y ∷ []) (sym read)

  pub fields_step : (v w : FlatValue) → v ≡ of_fields (map f (take i xs)) → w ≡ f x → behind v w ≡ of_fields (map f (take (i + 1) xs))
  fields_step v w e d = (λ k. behind (e k) (d k)) ∙ fields_more (map f (take i xs)) (f x) ∙ sym (ap of_fields map_read)

  pub cases_step : (v w : FlatValue) → v ≡ joined (map f (take i xs)) → w ≡ f x → beside v w ≡ joined (map f (take (i + 1) xs))
  cases_step v w e d = (λ k. beside (e k) (d k)) ∙ cases_more (map f (take i xs)) (f x) ∙ sym (ap joined map_read)

module _ {X : Type 0} (f : X → FlatValue) (xs : List X) (i : ℕ) (all : length xs ≤ i) where
  pub fields_end : (v : FlatValue) → v ≡ of_fields (map f (take i xs)) → v ≡ of_fields (map f xs)
  fields_end v e = e ∙ ap (λ (ys : List X). of_fields (map f ys)) (take_all i xs all)

  pub cases_end : (v : FlatValue) → v ≡ joined (map f (take i xs)) → v ≡ joined (map f xs)
  cases_end v e = e ∙ ap (λ (ys : List X). joined (map f ys)) (take_all i xs all)
