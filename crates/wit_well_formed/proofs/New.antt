-- Names that keep their rule are each new behind those before them.
use Rattle.std.proofs.Common.{◌≡◌, ℕ, ◌<◌, Bool, true, false, not, ◌||◌, ◌&&◌, List, [], ◌∷◌, ◌++◌, append_assoc, length, suc, map, Some, refl, sym, subst, ap, ◌∙◌, arith}
use Rattle.std.proofs.lemmas.Option.{slice_get_within}
use Rattle.std.proofs.lemmas.Slice.Eq.{bytes_eq-Decides}
use Rattle.std.specs.Prelude.{slice_get, bytes_eq}
use Rattle.std.specs.List.{list_any}
use Rattle.distinct_names.specs.Names.{is_new, all_new}
use Rattle.wit_words.specs.Slice.{Slice}
use Rattle.wit_package.specs.Passed.wit_rules-Breaks.{IsKept, NamesBreak}
use Rattle.wit_package.proofs.Passed.wit_rules-Apart.{apart}
use Rattle.wit_package.proofs.Passed.wit_arena-Lists.{get_kept, get_last}
use Rattle.wit_well_formed.proofs.Lists.{got_mapped}

abbrev Names : Type 0
Names = List (List ℕ)

not_first : (name y : List ℕ) (b more : Bool) → bytes_eq name y ≡ b → (name ≡ y → ⊥) → more ≡ false → (b || more) ≡ false
not_first name y true more e differs none = absurd (differs ((bytes_eq-Decides name y).0 e))
not_first name y false more e differs none = none

none_equal : (name : List ℕ) (seen : Names) → ((k : ℕ) (x : List ℕ) → slice_get seen k ≡ Some x → name ≡ x → ⊥) → list_any (bytes_eq name) seen ≡ false
none_equal name [] h = refl
none_equal name (y ∷ ys) h = not_first name y (bytes_eq name y) (list_any (bytes_eq name) ys) refl (h 0 y refl) (none_equal name ys (λ k x at. h (suc k) x at))

abbrev AreApart : Names → Type 0
AreApart names = (i j : ℕ) (x y : List ℕ) → slice_get names i ≡ Some x → slice_get names j ≡ Some y → x ≡ y → i ≡ j

new_behind : (seen names : Names) → AreApart (seen ++ names) → all_new seen names ≡ true
new_behind seen [] h = refl
new_behind seen (name ∷ names) h =
    let apart_here = subst AreApart (sym (append_assoc seen (name ∷ []) names)) h in
    let here : slice_get ((seen ++ name ∷ []) ++ names) (length seen) ≡ Some name = get_kept (seen ++ name ∷ []) names (length seen) name (get_last seen name) in
    let none : list_any (bytes_eq name) seen ≡ false =
    none_equal name seen (λ k x at same. (
    let e : k ≡ length seen = apart_here k (length seen) x name (get_kept (seen ++ name ∷ []) names k x (get_kept seen (name ∷ []) k x at)) here (sym same) in
    let within : k < length seen = slice_get_within seen k x at in
    absurd (omega (arith, e, within)))) in
    ap (λ (b : Bool). not b && all_new (seen ++ name ∷ []) names) none ∙ new_behind (seen ++ name ∷ []) names apart_here

pub names_new : (names : List Slice) → IsKept (NamesBreak names) → all_new [] (map (λ (n : Slice). n.text) names) ≡ true
names_new names kept =
    new_behind [] (map (λ (n : Slice). n.text) names)
    (λ i j x y at_i at_j same.
    (let a = got_mapped (λ (n : Slice). n.text) names i x at_i in
    let b = got_mapped (λ (n : Slice). n.text) names j y at_j in
    apart names kept i j a.0 b.0 a.1 b.1 (a.2 ∙ same ∙ sym b.2)))

-- read in one way and then in another
pub read_through : {X Y Z : Type 0} (f : X → Y) (g : Y → Z) (xs : List X) → map g (map f xs) ≡ map (λ (x : X). g (f x)) xs
read_through f g [] = refl
read_through f g (x ∷ xs) = ap (λ (zs : List _). g (f x) ∷ zs) (read_through f g xs)
