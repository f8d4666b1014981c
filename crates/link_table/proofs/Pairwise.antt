-- Two lists, item by item.
use Rattle.std.proofs.Common.{◌≡◌, ℕ, zero, suc, ◌+◌, ◌≤◌, List, [], ◌∷◌, ◌++◌, take, length, None, Some, inl, inr, refl, sym, subst, ap, ◌∙◌, arith}
use Rattle.std.proofs.lemmas.List.{length_push, take_all}
use Rattle.std.proofs.lemmas.Option.{slice_get_within}
use Rattle.std.specs.Prelude.{slice_get}
use Rattle.wit_order.specs.Order.{Has}
use Rattle.wit_reach.proofs.Holding.{got}
use Rattle.core_links.proofs.Meanings.{get_more}
use Rattle.link_table.specs.Pairwise.{Pairwise}

module _ {X Y : Type 0} (R : X → Y → Type 0) where
  pub no_pairs : (xs : List X) (ys : List Y) → xs ≡ [] → ys ≡ [] → Pairwise R xs ys
  no_pairs xs ys e f = record {
    so_many = ap length f ∙ ap length (sym e);
    each = λ k x y at there. absurd (let g : None ≡ Some x = subst (λ (l : List X). slice_get l k ≡ Some x) e at in cc);
  }

  pub one_more_pair : (xs : List X) (x : X) (ys : List Y) (y : Y) → Pairwise R xs ys → R x y → Pairwise R (xs ++ x ∷ []) (ys ++ y ∷ [])
  one_more_pair xs x ys y all one = record {
    so_many = length_push ys y ∙ ap (λ (m : ℕ). m + 1) all.so_many ∙ sym (length_push xs x);
    each = λ k v w at there. elim (get_more xs x v k at) as (λ _. R v w) [
      | inl was ↦ elim (get_more ys y w k there) as (λ _. R v w) [
        | inl stood ↦ all.each k v w was stood
        | inr last ↦ absurd (let b = slice_get_within xs k v was in let e = last.0 in let s = all.so_many in omega (arith, b, e, s))
      ]
      | inr last ↦ elim (get_more ys y w k there) as (λ _. R v w) [
        | inl stood ↦ absurd (let b = slice_get_within ys k w stood in let e = last.0 in let s = all.so_many in omega (arith, b, e, s))
        | inr end ↦ subst (λ (z : X). R z w) last.1 (subst (R x) end.1 one)
      ]
    ];
  }

  -- the next of a walk
  pub next_pair : (all before : List X) (x : X) (ys ys2 : List Y) (y : Y) → all ≡ before ++ x ∷ [] → ys2 ≡ ys ++ y ∷ [] → Pairwise R before ys → R x y → Pairwise R all ys2
  next_pair all before x ys ys2 y e f was one =
      subst (λ (zs : List Y). Pairwise R all zs) (sym f) (subst (λ (zs : List X). Pairwise R zs (ys ++ y ∷ [])) (sym e) (one_more_pair before x ys y was one))

  pub walked_pairs : (xs : List X) (ys : List Y) (k : ℕ) → length xs ≤ k → Pairwise R (take k xs) ys → Pairwise R xs ys
  walked_pairs xs ys k past was = subst (λ (zs : List X). Pairwise R zs ys) (take_all k xs past) was

  pub fewer_pairs : (x : X) (xs : List X) (y : Y) (ys : List Y) → Pairwise R (x ∷ xs) (y ∷ ys) → R x y × Pairwise R xs ys
  fewer_pairs x xs y ys all = (all.each 0 x y refl refl, record { so_many = same_suc all.so_many; each = λ k v w at there. all.each (suc k) v w at there })
    where
      same_suc : {a b : ℕ} → suc a ≡ suc b → a ≡ b
      same_suc e = omega (arith, e)

  pub mixed : {Z : Type 0} (y : Y) (ys : List Y) → Pairwise R [] (y ∷ ys) → Z
  mixed y ys all = absurd (let e = all.so_many in cc)

  pub mixed_too : {Z : Type 0} (x : X) (xs : List X) → Pairwise R (x ∷ xs) [] → Z
  mixed_too x xs all = absurd (let e = all.so_many in cc)

-- an item has a place
pub placed : {X : Type 0} (xs : List X) (x : X) → Has xs x → (k : ℕ) × (slice_get xs k ≡ Some x)
placed [] x h = absurd h
placed (y ∷ xs) x (inl e) = (zero, ap Some (sym e))
placed (y ∷ xs) x (inr h) = (let r = placed xs x h in (suc r.0, r.1))

-- and what is beside it
pub beside : {X Y : Type 0} (R : X → Y → Type 0) (xs : List X) (ys : List Y) (x : X) → Pairwise R xs ys → Has xs x → (k : ℕ) × (y : Y) × (slice_get xs k ≡ Some x) × (slice_get ys k ≡ Some y)
beside R xs ys x all h =
    let p = placed xs x h in
    let b = slice_get_within xs p.0 x p.1 in
    let s = all.so_many in
    let there = got ys p.0 (omega (arith, b, s)) in
    (p.0, there.0, p.1, there.1)

pub beside_too : {X Y : Type 0} (R : X → Y → Type 0) (xs : List X) (ys : List Y) (y : Y) → Pairwise R xs ys → Has ys y → (k : ℕ) × (x : X) × (slice_get xs k ≡ Some x) × (slice_get ys k ≡ Some y)
beside_too R xs ys y all h =
    let p = placed ys y h in
    let b = slice_get_within ys p.0 y p.1 in
    let s = all.so_many in
    let there = got xs p.0 (omega (arith, b, s)) in
    (p.0, there.0, there.1, p.1)
