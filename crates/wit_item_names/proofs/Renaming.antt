-- Names that an `include` changes.
use Rattle.std.proofs.Common.{◌≡◌, ℕ, Bool, true, false, List, [], ◌∷◌, ◌++◌, inl, inr, refl, sym, subst, ap, ◌∙◌, arith}
use Rattle.std.proofs.lemmas.List.{append_cancel_left}
use Rattle.std.specs.Prelude.{codes, string_bytes, bytes_eq, if◌then◌else◌}
use Rattle.wit_order.specs.Order.{Has}
use Rattle.wit_types.specs.declared.world.IncludeName.{IncludeName}
use Rattle.wit_labels.specs.Passed.wit_sides-Renames.{through, IsRenamedFunction, of_resource, of_none, IsRenamed, constructor_of, method_of, static_of, plain}
use Rattle.wit_labels.specs.Passed.wit_plain_texts-Plain.{IsWithout, IsPlain}
use Rattle.wit_item_names.proofs.Texts.{split_mark, has_mark, no_dot_without, without_both, without_first, without_second, without_by}

-- marks differ by it
abbrev second : List ℕ → ℕ
second [] = 0
second (x ∷ []) = 0
second (x ∷ (y ∷ ys)) = y

-- ---- one name becomes one

module _ (names : List IncludeName) where
  function_same : (mark a b x y : List ℕ) → a ≡ b → IsRenamedFunction names mark a x → IsRenamedFunction names mark b y → x ≡ y
  function_same mark _ _ _ _ e (of_resource r i isnt) (of_resource s j none) =
      let q = split_mark 46 r s i j (no_dot_without r isnt) (no_dot_without s none) e in
      ap (λ (t : List ℕ). mark ++ (through names t ++ 46 ∷ i)) q.0 ∙ ap (λ (t : List ℕ). mark ++ (through names s ++ 46 ∷ t)) q.1
  function_same mark _ _ _ _ e (of_resource r i isnt) (of_none n none) = absurd (no_dot_without n none (subst (λ (t : List ℕ). Has t 46) e (has_mark 46 r i)))
  function_same mark _ _ _ _ e (of_none n none) (of_resource r i isnt) = absurd (no_dot_without n none (subst (λ (t : List ℕ). Has t 46) (sym e) (has_mark 46 r i)))
  function_same mark _ _ _ _ e (of_none n none) (of_none m isnt) = ap (λ (t : List ℕ). mark ++ t) e

  pub renamed_same : (a b x y : List ℕ) → a ≡ b → IsRenamed names a x → IsRenamed names b y → x ≡ y
  renamed_same _ _ _ _ e (constructor_of r) (constructor_of s) = ap (λ (t : List ℕ). codes "[constructor]" ++ through names t) (append_cancel_left (codes "[constructor]") r s e)
  renamed_same _ _ _ _ e (constructor_of r) (method_of n t h) = absurd (let d : 99 ≡ 109 = ap second e in omega (arith, d))
  renamed_same _ _ _ _ e (constructor_of r) (static_of n t h) = absurd (let d : 99 ≡ 115 = ap second e in omega (arith, d))
  renamed_same _ _ _ _ e (constructor_of r) (plain n a b c) = absurd (a r (sym e))
  renamed_same _ _ _ _ e (method_of n t h) (constructor_of r) = absurd (let d : 109 ≡ 99 = ap second e in omega (arith, d))
  renamed_same _ _ _ _ e (method_of n t h) (method_of m u k) = function_same (codes "[method]") n m t u (append_cancel_left (codes "[method]") n m e) h k
  renamed_same _ _ _ _ e (method_of n t h) (static_of m u k) = absurd (let d : 109 ≡ 115 = ap second e in omega (arith, d))
  renamed_same _ _ _ _ e (method_of n t h) (plain m a b c) = absurd (b n (sym e))
  renamed_same _ _ _ _ e (static_of n t h) (constructor_of r) = absurd (let d : 115 ≡ 99 = ap second e in omega (arith, d))
  renamed_same _ _ _ _ e (static_of n t h) (method_of m u k) = absurd (let d : 115 ≡ 109 = ap second e in omega (arith, d))
  renamed_same _ _ _ _ e (static_of n t h) (static_of m u k) = function_same (codes "[static]") n m t u (append_cancel_left (codes "[static]") n m e) h k
  renamed_same _ _ _ _ e (static_of n t h) (plain m a b c) = absurd (c n (sym e))
  renamed_same _ _ _ _ e (plain n a b c) (constructor_of r) = absurd (a r e)
  renamed_same _ _ _ _ e (plain n a b c) (method_of m u k) = absurd (b m e)
  renamed_same _ _ _ _ e (plain n a b c) (static_of m u k) = absurd (c m e)
  renamed_same _ _ _ _ e (plain n a b c) (plain m p q r) = ap (through names) e

-- ---- without marks

module _ (mark : ℕ) (no_constructor : IsWithout mark (codes "[constructor]")) (no_method : IsWithout mark (codes "[method]")) (no_static : IsWithout mark (codes "[static]")) where
  through_without : (names : List IncludeName) → ((n : IncludeName) → Has names n → IsWithout mark (string_bytes n.as_)) → (t : List ℕ) → IsWithout mark t → IsWithout mark (through names t)
  through_without [] all t isnt = isnt
  through_without (n ∷ ns) all t isnt = by (bytes_eq t (string_bytes n.name)) (through_without ns (λ m h. all m (inr h)) t isnt)
    where
      by : (b : Bool) → IsWithout mark (through ns t) → IsWithout mark (if b then string_bytes n.as_ else through ns t)
      by true later = all n (inl refl)
      by false later = later

  module _ (names : List IncludeName) (all : (n : IncludeName) → Has names n → IsWithout mark (string_bytes n.as_)) where
    function_without : (front a x : List ℕ) → IsWithout mark front → IsRenamedFunction names front a x → IsWithout mark a → IsWithout mark x
    function_without front _ _ no_front (of_resource r i none) isnt =
        let rest : IsWithout mark (46 ∷ i) = without_second mark r (46 ∷ i) isnt in
        without_both mark front (through names r ++ 46 ∷ i) no_front (without_both mark (through names r) (46 ∷ i) (through_without names all r (without_first mark r (46 ∷ i) isnt)) rest)
    function_without front _ _ no_front (of_none n none) isnt = without_both mark front n no_front isnt

    renamed_without : (a x : List ℕ) → IsRenamed names a x → IsWithout mark a → IsWithout mark x
    renamed_without _ _ (constructor_of r) isnt = without_both mark (codes "[constructor]") (through names r) no_constructor (through_without names all r (without_second mark (codes "[constructor]") r isnt))
    renamed_without _ _ (method_of n t h) isnt = function_without (codes "[method]") n t no_method h (without_second mark (codes "[method]") n isnt)
    renamed_without _ _ (static_of n t h) isnt = function_without (codes "[static]") n t no_static h (without_second mark (codes "[static]") n isnt)
    renamed_without _ _ (plain n a b c) isnt = through_without names all n isnt

pub renamed_plain : (names : List IncludeName) → ((n : IncludeName) → Has names n → IsPlain (string_bytes n.as_)) → (a x : List ℕ) → IsRenamed names a x → IsPlain a → IsPlain x
renamed_plain names all a x h is = record {
  colon = renamed_without 58 (without_by 58 (codes "[constructor]") refl) (without_by 58 (codes "[method]") refl) (without_by 58 (codes "[static]") refl) names (λ n k. (all n k).colon) a x h is.colon;
  slash = renamed_without 47 (without_by 47 (codes "[constructor]") refl) (without_by 47 (codes "[method]") refl) (without_by 47 (codes "[static]") refl) names (λ n k. (all n k).slash) a x h is.slash;
  at = renamed_without 64 (without_by 64 (codes "[constructor]") refl) (without_by 64 (codes "[method]") refl) (without_by 64 (codes "[static]") refl) names (λ n k. (all n k).at) a x h is.at;
}
