-- Interfaces put first, and then all that a world lists.
use Rattle.std.proofs.Common.{◌≡◌, ℕ, ◌<◌, Bool, true, false, List, [], ◌∷◌, ◌++◌, inl, inr, Option, Some, None, String, cond, refl, sym, ap, subst, ◌∙◌, arith, map, append_assoc}
use Rattle.std.proofs.lemmas.Bool.{eqb-true, ne_eqb, eq-eqb}
use Rattle.std.proofs.lemmas.List.{append-nil}
use Rattle.std.specs.List.{IsDistinct, AllByRecursion}
use Rattle.std.specs.Map.{lookup}
use Rattle.std.specs.Prelude.{nat_eq, if◌then◌else◌, unwrap_or}
use Rattle.std.specs.declared.alloc.Global.{Global}
use Rattle.indexmap.specs.IndexMap.{insert_entry, insert_all}
use Rattle.wit_reach.specs.Passed.wit_order-Order.{Has}
use Rattle.wit_reach.specs.Paths.{AreRising}
use Rattle.wit_reach.specs.Passed.wit_types-declared-world-WorldItem.{WorldItem}
use Rattle.wit_reach.specs.Passed.wit_types-declared-world_key-WorldKey.{WorldKey}
use Rattle.wit_reach.specs.Passed.wit_types-declared-world_key-WorldKey-TheVariants as key
use Rattle.wit_reach.specs.Passed.wit_types-WorldKey.{key_eq, key_eq-equivalence}
use Rattle.wit_elaborated.specs.Elaborated.{Entry, plain_entries, interface_keys}

abbrev part : (ℕ → WorldItem) → List ℕ → List Entry
part f xs = map (λ (i : ℕ). (key.Interface i, f i)) xs

abbrev put : (ℕ → WorldItem) → ℕ → WorldItem → ℕ → WorldItem
put f i v j = if nat_eq j i then v else f j

-- ---- one entry

part_same : (f : ℕ → WorldItem) (i : ℕ) (v : WorldItem) (xs : List ℕ) → ((y : ℕ) → Has xs y → nat_eq y i ≡ false) → part (put f i v) xs ≡ part f xs
part_same f i v [] a = refl
part_same f i v (x ∷ xs) a =
    ap (λ (b : Bool). (key.Interface x, if b then v else f x) ∷ part (put f i v) xs) (a x (inl refl))
    ∙ ap (λ (r : List Entry). (key.Interface x, f x) ∷ r) (part_same f i v xs (λ y h. a y (inr h)))

insert_part : (f : ℕ → WorldItem) (xs : List ℕ) (es : List Entry) (i : ℕ) (v : WorldItem) → Has xs i → AreRising xs
    → insert_entry key_eq (part f xs ++ es) (key.Interface i) v ≡ part (put f i v) xs ++ es
insert_part f [] es i v h r = absurd h
insert_part f (x ∷ xs) es i v h r = by_cases (nat_eq i x) refl (λ later. insert_part f xs es i v later r.1)
  where
    found : Bool → List Entry
    found b = if b then (key.Interface x, v) ∷ (part f xs ++ es) else (key.Interface x, f x) ∷ insert_entry key_eq (part f xs ++ es) (key.Interface i) v

    by_cases : (b : Bool) → nat_eq i x ≡ b → (Has xs i → insert_entry key_eq (part f xs ++ es) (key.Interface i) v ≡ part (put f i v) xs ++ es)
        → insert_entry key_eq (part f (x ∷ xs) ++ es) (key.Interface i) v ≡ part (put f i v) (x ∷ xs) ++ es
    by_cases true e again =
        let same : i ≡ x = eqb-true i x e in
        let other : (y : ℕ) → Has xs y → nat_eq y i ≡ false = λ y k. ne_eqb y i (λ z. let l : x < y = r.0 y k in omega (arith, z, same)) in
        ap found e
        ∙ ap (λ (rest : List Entry). (key.Interface x, v) ∷ (rest ++ es)) (sym (part_same f i v xs other))
        ∙ ap (λ (b : Bool). (key.Interface x, if b then v else f x) ∷ (part (put f i v) xs ++ es)) (sym (eq-eqb x i (sym same)))
    by_cases false e again =
        let apart : nat_eq x i ≡ false = ne_eqb x i (λ z. let t : nat_eq i x ≡ true = eq-eqb i x (sym z) in cc) in
        let later : Has xs i = elim h as (λ _. Has xs i) [ inl here ↦ absurd (let t : nat_eq i x ≡ true = eq-eqb i x here in cc) | inr k ↦ k ] in
        ap found e
        ∙ ap (λ (rest : List Entry). (key.Interface x, f x) ∷ rest) (again later)
        ∙ ap (λ (b : Bool). (key.Interface x, if b then v else f x) ∷ (part (put f i v) xs ++ es)) (sym apart)

insert_behind : (f : ℕ → WorldItem) (xs : List ℕ) (es : List Entry) (n : String Global) (v : WorldItem)
    → insert_entry key_eq (part f xs ++ es) (key.Name n) v ≡ part f xs ++ insert_entry key_eq es (key.Name n) v
insert_behind f [] es n v = refl
insert_behind f (x ∷ xs) es n v = ap (λ (r : List Entry). (key.Interface x, f x) ∷ r) (insert_behind f xs es n v)

insert_last : (es : List Entry) (k : WorldKey) (v : WorldItem) → AllByRecursion (λ (e : Entry). key_eq k e.0 ≡ false) es → insert_entry key_eq es k v ≡ es ++ (k, v) ∷ []
insert_last [] k v a = refl
insert_last (e ∷ es) k v a =
    ap (λ (b : Bool). if b then (e.0, v) ∷ es else e ∷ insert_entry key_eq es k v) a.0
    ∙ ap (λ (r : List Entry). e ∷ r) (insert_last es k v a.1)

-- ---- the interfaces of an order, each once

starts : (f : ℕ → WorldItem) (done xs : List ℕ) → AreRising (done ++ xs) → insert_all key_eq (part f done) (part f xs) ≡ part f (done ++ xs)
starts f done [] r = ap (part f) (sym (append-nil done))
starts f done (x ∷ xs) r =
    ap (λ (found : List Entry). insert_all key_eq found (part f xs)) (insert_last (part f done) (key.Interface x) (f x) (others done r) ∙ part_more done)
    ∙ starts f (done ++ x ∷ []) xs (subst AreRising (sym (append_assoc done (x ∷ []) xs)) r)
    ∙ ap (part f) (append_assoc done (x ∷ []) xs)
  where
    others : (ds : List ℕ) → AreRising (ds ++ x ∷ xs) → AllByRecursion (λ (e : Entry). key_eq (key.Interface x) e.0 ≡ false) (part f ds)
    others [] s = tt
    others (d ∷ ds) s = (ne_eqb x d (λ z. let l : d < x = s.0 x (was ds) in omega (arith, z)), others ds s.1)
      where
        was : (ys : List ℕ) → Has (ys ++ x ∷ xs) x
        was [] = inl refl
        was (y ∷ ys) = inr (was ys)

    part_more : (ds : List ℕ) → part f ds ++ (key.Interface x, f x) ∷ [] ≡ part f (ds ++ x ∷ [])
    part_more [] = refl
    part_more (d ∷ ds) = ap (λ (r : List Entry). (key.Interface d, f d) ∷ r) (part_more ds)

pub order_alone : (f : ℕ → WorldItem) (xs : List ℕ) → AreRising xs → insert_all key_eq [] (part f xs) ≡ part f xs
order_alone f xs r = starts f [] xs r

-- ---- and then all that a world lists

-- no key is a later one's
abbrev AreDistinct : List Entry → Type 0
AreDistinct [] = Unit {0}
AreDistinct (e ∷ es) = AllByRecursion (λ (k : WorldKey). key_eq e.0 k ≡ false) (map (λ (e : Entry). e.0) es) × AreDistinct es

distinct : (es : List Entry) → IsDistinct key_eq (map (λ (e : Entry). e.0) es) → AreDistinct es
unfolding IsDistinct
distinct [] d = tt
distinct (e ∷ es) d = (d.0, distinct es d.1)

abbrev over : (ℕ → WorldItem) → List Entry → ℕ → WorldItem
over f [] = f
over f ((key.Interface i, x) ∷ es) = over (put f i x) es
over f ((key.Name n, x) ∷ es) = over f es

abbrev Apart : List Entry → List Entry → Type 0
Apart ps es = AllByRecursion (λ (e : Entry). AllByRecursion (λ (p : Entry). key_eq e.0 p.0 ≡ false) ps) es

apart_more : (ps : List Entry) (n : String Global) (x : WorldItem) (es : List Entry) → Apart ps es
    → AllByRecursion (λ (k : WorldKey). key_eq (key.Name n) k ≡ false) (map (λ (e : Entry). e.0) es) → Apart (ps ++ (key.Name n, x) ∷ []) es
apart_more ps n x [] a d = tt
apart_more ps n x (e ∷ es) a d = (all_last ps a.0, apart_more ps n x es a.1 d.1)
  where
    turned : key_eq e.0 (key.Name n) ≡ false
    turned = key_eq-equivalence.symm e.0 (key.Name n) ∙ d.0

    all_last : (qs : List Entry) → AllByRecursion (λ (p : Entry). key_eq e.0 p.0 ≡ false) qs → AllByRecursion (λ (p : Entry). key_eq e.0 p.0 ≡ false) (qs ++ (key.Name n, x) ∷ [])
    all_last [] b = (turned, tt)
    all_last (q ∷ qs) b = (b.0, all_last qs b.1)

puts : (f : ℕ → WorldItem) (xs : List ℕ) (ps es : List Entry) → AreRising xs → ((i : ℕ) → Has (interface_keys es) i → Has xs i) → Apart ps es → AreDistinct es
    → insert_all key_eq (part f xs ++ ps) es ≡ part (over f es) xs ++ (ps ++ plain_entries es)
puts f xs ps [] r h a d = ap (λ (qs : List Entry). part f xs ++ qs) (sym (append-nil ps))
puts f xs ps ((key.Interface i, x) ∷ es) r h a d =
    ap (λ (found : List Entry). insert_all key_eq found es) (insert_part f xs ps i x (h i (inl refl)) r)
    ∙ puts (put f i x) xs ps es r (λ j k. h j (inr k)) a.1 d.1
puts f xs ps ((key.Name n, x) ∷ es) r h a d =
    ap (λ (found : List Entry). insert_all key_eq found es) (insert_behind f xs ps n x ∙ ap (λ (qs : List Entry). part f xs ++ qs) (insert_last ps (key.Name n) x a.0))
    ∙ puts f xs (ps ++ (key.Name n, x) ∷ []) es r h (apart_more ps n x es a.1 d.0) d.1
    ∙ ap (λ (qs : List Entry). part (over f es) xs ++ qs) (append_assoc ps ((key.Name n, x) ∷ []) (plain_entries es))

-- ---- what stands at an interface in the end

no_entry : (j : ℕ) (es : List Entry) → AllByRecursion (λ (k : WorldKey). key_eq (key.Interface j) k ≡ false) (map (λ (e : Entry). e.0) es) → lookup (key_eq (key.Interface j)) es ≡ None
no_entry j [] a = refl
no_entry j (e ∷ es) a = ap (λ (b : Bool). cond b (Some e.1) (lookup (key_eq (key.Interface j)) es)) a.0 ∙ no_entry j es a.1

over_is : (f : ℕ → WorldItem) (es : List Entry) (j : ℕ) → AreDistinct es → over f es j ≡ unwrap_or (lookup (key_eq (key.Interface j)) es) (f j)
over_is f [] j d = refl
over_is f ((key.Name n, x) ∷ es) j d = over_is f es j d.1
over_is f ((key.Interface i, x) ∷ es) j d = over_is (put f i x) es j d.1 ∙ by_cases (nat_eq j i) refl
  where
    ends : Bool → Bool → WorldItem
    ends a b = unwrap_or (cond b (Some x) (lookup (key_eq (key.Interface j)) es)) (if a then x else f j)

    by_cases : (b : Bool) → nat_eq j i ≡ b → unwrap_or (lookup (key_eq (key.Interface j)) es) (put f i x j) ≡ unwrap_or (cond (nat_eq j i) (Some x) (lookup (key_eq (key.Interface j)) es)) (f j)
    by_cases true e =
        let same : i ≡ j = sym (eqb-true j i e) in
        ap (λ (b : Bool). unwrap_or (lookup (key_eq (key.Interface j)) es) (if b then x else f j)) e
        ∙ ap (λ (o : Option WorldItem). unwrap_or o x) (no_entry j es (subst (λ (k : ℕ). AllByRecursion (λ (q : WorldKey). key_eq (key.Interface k) q ≡ false) (map (λ (e : Entry). e.0) es)) same d.0))
        ∙ ap (λ (b : Bool). unwrap_or (cond b (Some x) (lookup (key_eq (key.Interface j)) es)) (f j)) (sym e)
    by_cases false e =
        ap (λ (b : Bool). unwrap_or (lookup (key_eq (key.Interface j)) es) (if b then x else f j)) e
        ∙ ap (λ (b : Bool). unwrap_or (cond b (Some x) (lookup (key_eq (key.Interface j)) es)) (f j)) (sym e)

part_alike : (f g : ℕ → WorldItem) (xs : List ℕ) → ((i : ℕ) → f i ≡ g i) → part f xs ≡ part g xs
part_alike f g [] e = refl
part_alike f g (x ∷ xs) e =
    ap (λ (v : WorldItem). (key.Interface x, v) ∷ part f xs) (e x)
    ∙ ap (λ (r : List Entry). (key.Interface x, g x) ∷ r) (part_alike f g xs e)

no_apart : (es : List Entry) → Apart [] es
no_apart [] = tt
no_apart (e ∷ es) = (tt, no_apart es)

pub elaborates : (f : ℕ → WorldItem) (xs : List ℕ) (es : List Entry) → AreRising xs → ((i : ℕ) → Has (interface_keys es) i → Has xs i) → IsDistinct key_eq (map (λ (e : Entry). e.0) es)
    → insert_all key_eq (insert_all key_eq [] (part f xs)) es ≡ map (λ (i : ℕ). (key.Interface i, unwrap_or (lookup (key_eq (key.Interface i)) es) (f i))) xs ++ plain_entries es
elaborates f xs es r h d =
    let apart : AreDistinct es = distinct es d in
    ap (λ (found : List Entry). insert_all key_eq found es) (order_alone f xs r ∙ sym (append-nil (part f xs)))
    ∙ puts f xs [] es r h (no_apart es) apart
    ∙ ap (λ (found : List Entry). found ++ plain_entries es) (part_alike (over f es) (λ i. unwrap_or (lookup (key_eq (key.Interface i)) es) (f i)) xs (λ i. over_is f es i apart))
