-- Parts of a list that grows.
use Rattle.std.proofs.Common.{◌≡◌, ℕ, zero, suc, ◌+◌, ◌-◌, ◌<◌, ◌≤◌, List, [], ◌∷◌, ◌++◌, ◌⊎◌, inl, inr, Some, Ok, Err, OnErr, refl, sym, subst, ap, ◌∙◌, arith, length, length-append, append_assoc, get_or, take, drop}
use Rattle.std.proofs.lemmas.List.{drop-append-le, length-drop, take-append-le}
use Rattle.std.proofs.Math.Seq.{take-length, drop-append_seam}
use Rattle.std.specs.Prelude.{slice_get}
use Rattle.std.specs.declared.result.Result.{Result}
use Rattle.wit_order.specs.Order.{Has}
use Rattle.wit_closures.specs.Lists.{part, parts, IsWithin, AreWithin}
use Rattle.wit_closures.specs.declared.lists.Range.{Range}

-- ---- what stays

part_kept : (items more : List ℕ) (r : Range) → IsWithin (length items) r → part (items ++ more) r ≡ part items r
part_kept items more r w =
    let s = w.rising in
    let e = w.within in
    let long : length (drop r.start items) ≡ length items - r.start = length-drop r.start items in
    ap (take (r.end - r.start)) (drop-append-le r.start items more (omega (arith, s, e))) ∙ take-append-le (r.end - r.start) (drop r.start items) more (omega (arith, s, e, long))

pub parts_kept : (items more : List ℕ) (rs : List Range) → AreWithin (length items) rs → parts (items ++ more) rs ≡ parts items rs
parts_kept items more [] w = refl
parts_kept items more (r ∷ rs) w =
    ap (λ (p : List ℕ). p ∷ parts (items ++ more) rs) (part_kept items more r (w r (inl refl))) ∙ ap (λ (ps : List (List ℕ)). part items r ∷ ps) (parts_kept items more rs (λ q h. w q (inr h)))

pub within_more : (n m : ℕ) (rs : List Range) → AreWithin n rs → n ≤ m → AreWithin m rs
within_more n m rs w l r h = (let a = w r h in let e = a.within in record { rising = a.rising; within = omega (arith, e, l) })

pub within_push : (n : ℕ) (rs : List Range) (r : Range) → AreWithin n rs → IsWithin n r → AreWithin n (rs ++ r ∷ [])
within_push n rs r w one q h = elim (has_or rs q h) as (λ _. IsWithin n q) [ inl was ↦ w q was | inr last ↦ subst (IsWithin n) (sym last) one ]
  where
    has_or : (xs : List Range) (x : Range) → Has (xs ++ r ∷ []) x → Has xs x ⊎ (x ≡ r)
    has_or [] x k = elim k as (λ _. Has [] x ⊎ (x ≡ r)) [ inl here ↦ inr here | inr none ↦ absurd none ]
    has_or (y ∷ xs) x k = elim k as (λ _. Has (y ∷ xs) x ⊎ (x ≡ r)) [ inl here ↦ inl (inl here) | inr later ↦ elim (has_or xs x later) as (λ _. Has (y ∷ xs) x ⊎ (x ≡ r)) [ inl was ↦ inl (inr was) | inr last ↦ inr last ] ]

-- ---- one more

pub parts_push : (items : List ℕ) (rs : List Range) (r : Range) → parts items (rs ++ r ∷ []) ≡ parts items rs ++ part items r ∷ []
parts_push items [] r = refl
parts_push items (x ∷ rs) r = ap (λ (ps : List (List ℕ)). part items x ∷ ps) (parts_push items rs r)

-- a list and an item behind all
pub new_part : (items list all : List ℕ) (x s e : ℕ) → all ≡ (items ++ list) ++ x ∷ [] → s ≡ length items → e ≡ length all → part all (record { start = s; end = e }) ≡ list ++ x ∷ []
new_part items list all x s e is at_start at_end =
    let whole : all ≡ items ++ (list ++ x ∷ []) = is ∙ append_assoc items list (x ∷ []) in
    let long : length all ≡ length items + length (list ++ x ∷ []) = ap (λ (l : List ℕ). length l) whole ∙ length-append items (list ++ x ∷ []) in
    let many : e - s ≡ length (list ++ x ∷ []) = omega (arith, long, at_start, at_end) in
    ap (λ (n : ℕ). take n (drop s all)) many ∙ ap (λ (k : ℕ). take (length (list ++ x ∷ [])) (drop k all)) at_start ∙ ap (λ (l : List ℕ). take (length (list ++ x ∷ [])) (drop (length items) l)) whole
    ∙ ap (take (length (list ++ x ∷ []))) (drop-append_seam items (list ++ x ∷ [])) ∙ take-length (list ++ x ∷ [])

-- an item behind a part that ends with all
pub more_part : (items all : List ℕ) (x : ℕ) (r : Range) (e : ℕ) → all ≡ items ++ x ∷ [] → IsWithin (length items) r → r.end ≡ length items → e ≡ length all → part all (record { start = r.start; end = e }) ≡ part items r ++ x ∷ []
more_part items all x r e is w at_end end =
    let s = w.rising in
    let dropped : drop r.start all ≡ drop r.start items ++ x ∷ [] = ap (drop r.start) is ∙ drop-append-le r.start items (x ∷ []) (omega (arith, s, at_end)) in
    let left : length (drop r.start items) ≡ length items - r.start = length-drop r.start items in
    let long : length all ≡ length items + 1 = ap (λ (l : List ℕ). length l) is ∙ length-append items (x ∷ []) in
    let last : length (drop r.start items ++ x ∷ []) ≡ length (drop r.start items) + 1 = length-append (drop r.start items) (x ∷ []) in
    let many : e - r.start ≡ length (drop r.start items ++ x ∷ []) = omega (arith, s, at_end, left, long, last, end) in
    let old : r.end - r.start ≡ length (drop r.start items) = omega (arith, s, at_end, left) in
    ap (take (e - r.start)) dropped ∙ ap (λ (n : ℕ). take n (drop r.start items ++ x ∷ [])) many ∙ take-length (drop r.start items ++ x ∷ [])
    ∙ ap (λ (p : List ℕ). p ++ x ∷ []) (sym (ap (λ (n : ℕ). take n (drop r.start items)) old ∙ take-length (drop r.start items)))

-- ---- what stands at a place

pub parts_long : (items : List ℕ) (rs : List Range) → length (parts items rs) ≡ length rs
parts_long items [] = refl
parts_long items (r ∷ rs) = (let e : length (parts items rs) ≡ length rs = parts_long items rs in omega (arith, e))

pub part_at : (items : List ℕ) (rs : List Range) (i : ℕ) (r : Range) → i < length rs → r ≡ get_or rs i r → slice_get (parts items rs) i ≡ Some (part items r)
part_at items [] i r l e = absurd (omega arith)
part_at items (q ∷ rs) zero r l e = ap (λ (x : Range). Some (part items x)) (sym e)
part_at items (q ∷ rs) (suc i) r l e = part_at items rs i r (omega arith) e

pub range_has : (rs : List Range) (i : ℕ) (r : Range) → i < length rs → r ≡ get_or rs i r → Has rs r
range_has [] i r l e = absurd (omega arith)
range_has (q ∷ rs) zero r l e = inl e
range_has (q ∷ rs) (suc i) r l e = inr (range_has rs i r (omega arith) e)

-- ---- all of them

pub always_err : {X E : Type 0} (r : Result X E) (P : Type 0) → P → OnErr r P
always_err {X} {E} (Ok x) P p = tt
always_err {X} {E} (Err e) P p = p

pub kept_view : (items all more : List ℕ) (rs rs2 : List Range) (v : List (List ℕ)) → all ≡ items ++ more → rs2 ≡ rs → AreWithin (length items) rs → parts items rs ≡ v → parts all rs2 ≡ v
kept_view items all more rs rs2 v is same w view = ap (parts all) same ∙ ap (λ (l : List ℕ). parts l rs) is ∙ parts_kept items more rs w ∙ view

pub pushed_view : (items all more : List ℕ) (rs rs2 : List Range) (r : Range) (list : List ℕ) (v : List (List ℕ)) → all ≡ items ++ more → rs2 ≡ rs ++ r ∷ [] → AreWithin (length items) rs → parts items rs ≡ v → part all r ≡ list → parts all rs2 ≡ v ++ list ∷ []
pushed_view items all more rs rs2 r list v is next w view last =
    ap (parts all) next ∙ parts_push all rs r ∙ ap (λ (p : List ℕ). parts all rs ++ p ∷ []) last ∙ ap (λ (ps : List (List ℕ)). ps ++ list ∷ []) (kept_view items all more rs rs v is refl w view)

pub pushed_within : (items all more : List ℕ) (rs rs2 : List Range) (r : Range) → all ≡ items ++ more → rs2 ≡ rs ++ r ∷ [] → AreWithin (length items) rs → r.start ≤ length items → r.end ≡ length all → AreWithin (length all) rs2
pushed_within items all more rs rs2 r is next w start end =
    let long : length all ≡ length items + length more = ap (λ (l : List ℕ). length l) is ∙ length-append items more in
    subst (AreWithin (length all)) (sym next) (within_push (length all) rs r (within_more (length items) (length all) rs w (omega (arith, long))) (record { rising = omega (arith, long, start, end); within = omega (arith, end) }))

-- ---- the first ones

parts_take : (items : List ℕ) (n : ℕ) (rs : List Range) → parts items (take n rs) ≡ take n (parts items rs)
parts_take items zero rs = refl
parts_take items (suc n) [] = refl
parts_take items (suc n) (r ∷ rs) = ap (λ (ps : List (List ℕ)). part items r ∷ ps) (parts_take items n rs)

pub taken_view : (items : List ℕ) (n : ℕ) (rs rs2 : List Range) (v : List (List ℕ)) → rs2 ≡ take n rs → parts items rs ≡ v → parts items rs2 ≡ take n v
taken_view items n rs rs2 v is view = ap (parts items) is ∙ parts_take items n rs ∙ ap (take n) view

within_take : (m n : ℕ) (rs : List Range) → AreWithin m rs → AreWithin m (take n rs)
within_take m zero rs w r h = absurd h
within_take m (suc n) [] w r h = absurd h
within_take m (suc n) (q ∷ rs) w r h = elim h as (λ _. IsWithin m r) [ inl here ↦ w r (inl here) | inr later ↦ within_take m n rs (λ p k. w p (inr k)) r later ]

pub taken_within : (m n : ℕ) (rs rs2 : List Range) → rs2 ≡ take n rs → AreWithin m rs → AreWithin m rs2
taken_within m n rs rs2 is w = subst (AreWithin m) (sym is) (within_take m n rs w)
