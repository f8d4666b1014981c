-- What is needed of interfaces are functions of them, each once.
use Rattle.std.proofs.Common.{◌≡◌, ℕ, zero, suc, ◌<◌, List, [], ◌∷◌, inl, inr, Some, String, map, length, refl, sym, ap, ◌∙◌, arith}
use Rattle.std.proofs.lemmas.Option.{same_Some, slice_get_within}
use Rattle.std.specs.Prelude.{slice_get, string_bytes}
use Rattle.std.specs.declared.alloc.Global.{Global}
use Rattle.wit_order.specs.Order.{Has}
use Rattle.wit_types.specs.declared.function.Function.{Function}
use Rattle.wit_types.specs.declared.interface.Interface.{Interface}
use Rattle.linked_types.proofs.Walks.{has_at}
use Rattle.right_components.specs.Passed.core_links-Needed.{IsPartOf, empty, with_it, without, functions_of}
use Rattle.linked_interfaces.specs.Passed.wit_placed-Naming.{HasNamesApart}
use Rattle.linked_worlds.specs.Needed.{NeededAreLinked}

-- ---- parts of a list

pub part_has : {X : Type 0} (xs ys : List X) (x : X) → IsPartOf xs ys → Has xs x → Has ys x
part_has _ _ x empty h = h
part_has _ _ x (with_it y xs ys p) (inl here) = inl here
part_has _ _ x (with_it y xs ys p) (inr later) = inr (part_has xs ys x p later)
part_has _ _ x (without y xs ys p) h = inr (part_has xs ys x p h)

has_place : {X : Type 0} (xs : List X) (x : X) → Has xs x → (k : ℕ) × (slice_get xs k ≡ Some x)
has_place [] x h = absurd h
has_place {X} (y ∷ xs) x (inl here) = (zero, ap (λ (z : X). Some z) (sym here))
has_place (y ∷ xs) x (inr later) = let r = has_place xs x later in (suc r.0, r.1)

-- it stands at one place at most
abbrev StandsOnce : {X : Type 0} → List X → X → Type 0
StandsOnce xs x = (i j : ℕ) → slice_get xs i ≡ Some x → slice_get xs j ≡ Some x → i ≡ j

later_once : {X : Type 0} (y : X) (ys : List X) (x : X) → StandsOnce (y ∷ ys) x → StandsOnce ys x
later_once y ys x once i j a b = (let e : suc i ≡ suc j = once (suc i) (suc j) a b in omega (arith, e))

-- the first doesn't stand in the rest
not_later : {X : Type 0} (y : X) (ys : List X) (x : X) → StandsOnce (y ∷ ys) x → y ≡ x → Has ys x → ⊥
not_later {X} y ys x once same h = let r = has_place ys x h in let e : zero ≡ suc r.0 = once zero (suc r.0) (ap (λ (z : X). Some z) same) r.1 in omega (arith, e)

part_once : {X : Type 0} (xs ys : List X) (x : X) → IsPartOf xs ys → StandsOnce ys x → StandsOnce xs x
part_once _ _ x empty once i j a b = absurd cc
part_once _ _ x (with_it y xs ys p) once zero zero a b = refl
part_once _ _ x (with_it y xs ys p) once zero (suc j) a b = absurd (not_later y ys x once (same_Some y x a) (part_has xs ys x p (has_at xs j x b)))
part_once _ _ x (with_it y xs ys p) once (suc i) zero a b = absurd (not_later y ys x once (same_Some y x b) (part_has xs ys x p (has_at xs i x a)))
part_once _ _ x (with_it y xs ys p) once (suc i) (suc j) a b = ap (λ (n : ℕ). suc n) (part_once xs ys x p (later_once y ys x once) i j a b)
part_once _ _ x (without y xs ys p) once i j a b = part_once xs ys x p (later_once y ys x once) i j a b

-- ---- functions of an interface

get_mapped : {X Y : Type 0} (g : X → Y) (xs : List X) (k : ℕ) (y : Y) → slice_get (map g xs) k ≡ Some y → (x : X) × (slice_get xs k ≡ Some x) × (g x ≡ y)
get_mapped g [] k y at = absurd cc
get_mapped g (x ∷ xs) zero y at = (x, refl, same_Some (g x) y at)
get_mapped g (x ∷ xs) (suc k) y at = get_mapped g xs k y at

-- under names that differ each stands once
function_once : (d : Interface) (f : Function) → HasNamesApart d → StandsOnce (functions_of d) f
function_once d f names i j a b =
    let (e, at_e, is_e) = get_mapped (λ (x : String Global × Function). x.1) d.functions.entries i f a in
    let (g, at_g, is_g) = get_mapped (λ (x : String Global × Function). x.1) d.functions.entries j f b in
    names.functions i j e g at_e at_g
    (sym (names.named e (has_at d.functions.entries i e at_e)) ∙ ap (λ (x : Function). string_bytes x.name) (is_e ∙ sym is_g) ∙ names.named g (has_at d.functions.entries j g at_g))

get_there : {X : Type 0} (xs : List X) (k : ℕ) → k < length xs → (x : X) × (slice_get xs k ≡ Some x)
get_there [] k within = absurd (omega (arith, within))
get_there (x ∷ xs) zero within = (x, refl)
get_there (x ∷ xs) (suc k) within = get_there xs k (omega (arith, within))

pub needed_are_linked : NeededAreLinked
needed_are_linked t i n is linked whole are needed = record {
  own = λ k fs f at h.
      (let (d, at_d) = of k fs at in
      (d, at_d, part_has fs (functions_of d) f (needed.part k d fs (ap (λ (l : List Interface). slice_get l k) are.interfaces_are ∙ at_d) at) h));
  once = λ k fs a b f at at_a at_b.
      (let (d, at_d) = of k fs at in
      part_once fs (functions_of d) f (needed.part k d fs (ap (λ (l : List Interface). slice_get l k) are.interfaces_are ∙ at_d) at) (function_once d f (whole.whole.names d (has_at t.interfaces.all k d at_d))) a b at_a at_b);
}
  where
    of : (k : ℕ) (fs : List Function) → slice_get linked k ≡ Some fs → (d : Interface) × (slice_get t.interfaces.all k ≡ Some d)
    of k fs at =
        let within = slice_get_within linked k fs at in
        let so_many = needed.so_many in
        let long = ap (λ (l : List Interface). length l) are.interfaces_are in
        get_there t.interfaces.all k (omega (arith, within, so_many, long))
